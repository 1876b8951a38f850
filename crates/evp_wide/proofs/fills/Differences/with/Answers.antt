use Rattle.std.proofs.Common.{◌↔◌, ℕ, List, subst}
use Rattle.std.specs.Prelude.{bit_or}
use lib.Lanes.{zip2}
use Rattle.evp_wide.specs.Gathered.{AreNone}
use Rattle.evp_wide.proofs.SignLanes.{none_in_both, both_long}
use Rattle.evp_wide.proofs.fills.Differences.with.Goals as goal

pub returns : goal.returns
returns c =
    let bits = c.self.inside.bits in
    let others = c.others.inside.bits in
    let Both : List ℕ → List ℕ → Type 0 = λ a b. AreNone (zip2 bit_or bits others) ↔ (AreNone a × AreNone b) in
    subst (λ (b : List ℕ). Both c.args.self b) c.others.view_is
    (subst (λ (a : List ℕ). Both a others) c.self.view_is (none_in_both bits others c.self.invariant c.others.invariant))

pub invariant_of-result : goal.invariant_of-result
invariant_of-result c = both_long c.self.inside.bits c.others.inside.bits c.self.invariant c.others.invariant
