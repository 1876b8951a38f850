use Rattle.std.proofs.Common.{ℕ, refl, subst, arith}
use Rattle.std.specs.Prelude.{get_or}
use Rattle.std.specs.Fork.{ChangesAt}
use Rattle.evp_crew.proofs.apart.each_apart.Goals as goal

pub returns-then-all-lt2 : goal.returns-then-all-lt2
returns-then-all-lt2 g c i d l =
    let call : ℕ → Type 0 =
    λ n. ChangesAt g.F.Fn c.args.f.now n (get_or c.args.all.now i d) (get_or c.in_turn.new.all i d) in
    (refl, subst call (omega arith) (c.in_turn.ensures.each i d l))

pub returns : goal.returns
returns g c i d l =
    let call : ℕ → Type 0 =
    λ n. ChangesAt g.F.Fn c.args.f.now n (get_or c.args.all.now i d) (get_or c.begin.new.all i d) in
    (refl, subst call (omega arith) (c.begin.ensures.each i d l))
