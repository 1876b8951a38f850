use Rattle.std.proofs.Common.{◌≡◌, Some, map, string_bytes, sym, ap, ◌∙◌}
use Rattle.std.specs.Option.{option_map}
use Rattle.evp_stones.specs.declared.words.Line.{Line as Kept}
use Rattle.evp_stones.specs.OutputText.{output_text}
use Rattle.evp_stones.specs.Steps.{seen_by}
use Rattle.evp_stones.specs.Words.{line_of, seen, bench, run}
use Rattle.evp_stones.proofs.Answered.{line_told_by}
use Rattle.evp_stones.proofs.BenchWorks.{bench_works_by}
use Rattle.evp_stones.proofs.top.answer.Goals as goal

pub returns-in-Some-Run : goal.returns-in-Some-Run
returns-in-Some-Run g c =
    let line : line_of (map string_bytes c.args.words.now) ≡ Some (run c.in-Some-Run.job.now c.in-Some-Run.workers) =
    sym c.line_of.ensures.line ∙ ap (option_map seen) c.in-Some-Run.is
    ∙ ap (λ (l : Kept). Some (seen l)) c.in-Some-Run.field-0-is in
    line_told_by g.D.Depot.held g.D.Depot.misses g.D.Depot.faults g.K.Sink.faults g.K.Sink.put
    (run c.in-Some-Run.job.now c.in-Some-Run.workers) _ _ _ _ _
    (seen_by output_text c.reported-worked.result) _ line c.reported-worked.ensures tt c.put_reply.ensures

pub returns-in-Some-Bench : goal.returns-in-Some-Bench
returns-in-Some-Bench g c =
    let line : line_of (map string_bytes c.args.words.now) ≡ Some (bench c.in-Some-Bench.records c.in-Some-Bench.workers) =
    sym c.line_of.ensures.line ∙ ap (option_map seen) c.in-Some-Bench.is
    ∙ ap (λ (l : Kept). Some (seen l)) c.in-Some-Bench.field-0-is in
    line_told_by g.D.Depot.held g.D.Depot.misses g.D.Depot.faults g.K.Sink.faults g.K.Sink.put
    (bench c.in-Some-Bench.records c.in-Some-Bench.workers) _ _ _ _ _
    (seen_by output_text c.summed-worked.result) _ line
    (bench_works_by g.D.Depot.held g.D.Depot.misses g.D.Depot.faults _ c.in-Some-Bench.records c.in-Some-Bench.workers
    (seen_by output_text c.summed-worked.result) c.summed-worked.ensures) c.summed-worked.ensures c.put_reply-in-Some-Bench.ensures
