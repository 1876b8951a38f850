use Rattle.std.proofs.Common.{◌≡◌, ℕ, suc, ◌+◌, ◌-◌, ◌++◌, sym, ap, subst, ◌∙◌, arith}
use Rattle.evp_stones.specs.Told.{left_of}
use Rattle.evp_stones.proofs.LeftOf.{with_line, with_route}
use Rattle.evp_stones.proofs.bench.pen.add_told.Goals as goal

pub returns-then-place-eq0 : goal.returns-then-place-eq0
returns-then-place-eq0 g c =
    let job = g.J.OfJob.job in
    let old = c.args.hashed.now in
    let new = c.add_line.new.hashed in
    subst (λ (p : ℕ). new ++ left_of job c.args.round (p + 1) ≡ old ++ left_of job c.args.round p)
    (sym c.if-place-eq0.true) (with_line job c.args.round c.requires.round old new c.add_line.ensures)

pub returns-in-Some : goal.returns-in-Some
returns-in-Some g c =
    let job = g.J.OfJob.job in
    let round = c.args.round in
    let place = c.args.place in
    let old = c.args.hashed.now in
    let new = c.add.new.self in
    let more : place + 1 ≡ suc (suc (place - 1)) = omega (arith, c.if-place-eq0.false) in
    let this : place ≡ suc (place - 1) = omega (arith, c.if-place-eq0.false) in
    ap (λ n. new ++ left_of job round n) more
    ∙ with_route job round (place - 1) (omega (arith, c.requires.place, c.if-place-eq0.false)) old new
    c.in-Some.text.now c.in-Some.ensures c.add.ensures
    ∙ ap (λ n. old ++ left_of job round n) (sym this)
