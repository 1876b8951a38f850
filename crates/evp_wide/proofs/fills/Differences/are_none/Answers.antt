use Rattle.std.proofs.Common.{◌↔◌, IsTrue, ℕ, List, subst}
use Rattle.evp_wide.specs.Gathered.{AreNone}
use Rattle.evp_wide.proofs.SignLanes.{is_none, none_set}
use Rattle.evp_wide.proofs.fills.Differences.are_none.Goals as goal

pub returns : goal.returns
returns c =
    let Told : List ℕ → Type 0 = λ bits. IsTrue (is_none c.self.inside.bits) ↔ AreNone bits in
    subst Told c.self.view_is (none_set c.self.inside.bits c.self.invariant)
