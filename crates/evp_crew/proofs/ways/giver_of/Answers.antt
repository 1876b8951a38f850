use Rattle.std.proofs.Common.{◌≡◌, ◌+◌, ◌-◌, length, ap, sym, ◌∙◌, arith}
use Rattle.evp_stone.specs.JobShape.{JobShape}
use Rattle.evp_crew.specs.Ways.{before_last, giver_from}
use Rattle.evp_crew.proofs.WayFacts.{before_none, before_at}
use Rattle.evp_crew.proofs.ways.giver_of.Goals as goal

pub returns-then-count-lt2 : goal.returns-then-count-lt2
returns-then-count-lt2 c =
    let stones = c.as_slice-stones.result.now in
    let none = before_none stones c.if-count-lt2.true in
    c.from.ensures
    ∙ ap (giver_from (length c.args.job.now.sources) c.args.route.now.source) (sym none ∙ ap before_last c.as_slice-stones.ensures)

pub returns : goal.returns
returns c =
    let stones = c.as_slice-stones.result.now in
    let many = c.if-count-lt2.false in
    let some = before_at stones (length stones - 2) c.from-2.result 0 (omega arith) c.from-2.ensures in
    let long = ap (λ (j : JobShape). length j.sources) c.parts.ensures.value in
    let sources : c.len.result ≡ length c.args.job.now.sources = omega (arith, c.len.ensures, c.parts.result.now.sources.ok.0, long) in
    ap (λ n. n + c.from-2.result) sources
    ∙ ap (giver_from (length c.args.job.now.sources) c.args.route.now.source) (sym some ∙ ap before_last c.as_slice-stones.ensures)
