-- What a job document states, as it is kept.
use Rattle.std.specs.Prelude.{List, map}
use Rattle.evp_action.specs.declared.action.Action.{Action}
use Rattle.evp_action.specs.declared.action.Action.TheVariants.{Filter, Router, Transform, Split}
use Rattle.evp_action.specs.declared.action.Action.TheVariants.{Terminal}
use Rattle.evp_job.specs.declared.job_text.JobText.{JobText}
use Rattle.evp_job.specs.SourceView.{sources_of}
use Rattle.evp_job.specs.TextShape.{ActionShape, filter, router, transform, split, terminal}
use Rattle.evp_job.specs.TextShape.{StoneShape, stone_with, TextShape}
use Rattle.evp_stone.specs.declared.stone.Stone.{Stone}

abbrev pub action_of : Action → ActionShape
action_of (Filter format test) = filter format test
action_of (Router format choose) = router format choose
action_of (Transform format into set) = transform format into set.items
action_of Split = split
action_of (Terminal format) = terminal format

abbrev pub stone_of : Stone → StoneShape
stone_of stone = stone_with (action_of stone.action) stone.targets

abbrev pub stones_of : List Stone → List StoneShape
stones_of stones = map stone_of stones

abbrev pub text_of : JobText → TextShape
text_of text = record {
  limit = text.limit;
  queue = text.queue;
  names = text.names.items;
  formats = text.formats.items;
  sources = sources_of text.sources.items;
  stones = stones_of text.stones.items;
  rounds = text.rounds.items;
  routes = text.routes;
}
