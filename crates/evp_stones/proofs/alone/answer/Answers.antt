use Rattle.std.proofs.Common.{◌≡◌, Some, None, map, string_bytes, sym, ap, ◌∙◌}
use Rattle.std.specs.Option.{option_map}
use Rattle.evp_stones.specs.OutputText.{output_text}
use Rattle.evp_stones.specs.Steps.{seen_by}
use Rattle.evp_stones.specs.Words.{line_of, seen}
use Rattle.evp_stones.proofs.Answered.{no_line_told, line_told_by}
use Rattle.evp_stones.proofs.alone.answer.Goals as goal

pub returns-in_default : goal.returns-in_default
returns-in_default g c =
    let none : line_of (map string_bytes c.args.words.now) ≡ None = sym c.line_of.ensures.line ∙ ap (option_map seen) c.in_default.is in
    no_line_told g.D.Depot.held g.D.Depot.misses g.D.Depot.faults g.K.Sink.faults g.K.Sink.put _ _ _ _ _ _ none c.refuse_words.ensures

pub returns : goal.returns
returns g c =
    let line : line_of (map string_bytes c.args.words.now) ≡ Some (seen c.in-Some.line) =
    sym c.line_of.ensures.line ∙ ap (option_map seen) c.in-Some.is in
    line_told_by g.D.Depot.held g.D.Depot.misses g.D.Depot.faults g.K.Sink.faults g.K.Sink.put (seen c.in-Some.line) _ _ _ _ _
    (seen_by output_text c.work-worked.result) _ line c.work-worked.ensures.works c.work-worked.ensures.bench c.put_reply.ensures
