-- Plans whose tests are all of numbers.
use Rattle.std.specs.Prelude.{◌≡◌, ℕ, true, List}
use Rattle.std.specs.List.{All}
use Rattle.evp_plan.specs.declared.quick.Quick.{Quick}
use Rattle.evp_plan.specs.Fills.{AreWordsInside, AreWordsThere}
use Rattle.evp_plan.specs.Planned.{Planned}
use Rattle.evp_plan.specs.Program.{programs, last_steps}
use Rattle.evp_plan.specs.Quicks.{steps_in, have_words, IsFit}
use Rattle.evp_plan.specs.Quiet.{tests_of}

-- these are quick tests of the steps of a plan's last list that can refuse something or take a
-- block
pub record AreTestsOf (plan : Planned) (tests : List Quick) : Type 0 where
  pub steps : steps_in tests ≡ tests_of (programs plan.table) (last_steps plan.table)
  pub fit : All IsFit tests

-- the words of such tests stand inside the bytes
abbrev pub AreTestsInside : Planned → List ℕ → Type 0
AreTestsInside plan bytes =
    (tests : List Quick) → AreTestsOf plan tests → AreWordsInside 0 bytes tests

-- there are such tests that are all of numbers, and their words stand in the sender's record
pub record AreNumbersThere (plan : Planned) (bytes : List ℕ) : Type 0 where
  pub tests : List Quick
  pub are : AreTestsOf plan tests
  pub numbers : have_words tests ≡ true
  pub there : AreWordsThere 0 plan.sender.order bytes tests
