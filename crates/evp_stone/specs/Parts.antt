-- What the parts of a job make.
use Rattle.evp_stone.specs.declared.job.JobParts.{JobParts}
use Rattle.evp_stone.specs.JobShape.{JobShape}

abbrev pub job_of : JobParts → JobShape
job_of parts = record {
  formats = parts.formats.items;
  declared = parts.declared;
  limit = parts.limit;
  queue = parts.queue;
  sources = parts.sources.items;
  stones = parts.stones.items;
  rounds = parts.rounds.items;
  routes = parts.routes;
}
