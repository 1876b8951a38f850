-- What an actor reaches: the lists, with what its port counts.
use Rattle.std.specs.Prelude.{◌≡◌, ℕ, ◌-◌, ◌^◌, ◌==◌, ◌⊎◌, if◌then◌else◌}
use Rattle.evp_plan.specs.Counts.{raised}
use Rattle.evp_core.specs.declared.reach.Reach.{Reach}
use Rattle.evp_core.specs.Lists.{ListsGo, taken_on, given_on}
use Rattle.evp_core.specs.WorldTurned.{lacks, crowds}
use Rattle.evp_stone.specs.JobShape.{JobShape}
use Rattle.evp_stone.specs.Port.{Counting}

abbrev pub is_of : Reach → JobShape → Type 0
is_of reach job = reach.lists.job ≡ job

abbrev pub taken : Reach → Counting
taken reach = taken_on reach.lists reach.own

abbrev pub given : Reach → Counting
given reach = given_on reach.lists

abbrev pub empties : Reach → ℕ
empties reach = reach.empties

-- of so many full lists this one was the last: another one counts one less, until the count stays
abbrev pub fulls_at : ℕ → ℕ → ℕ → ℕ
fulls_at fulls last stone = if fulls == 2 ^ 64 - 1 then fulls else
    (if stone == last then fulls else fulls - 1)

abbrev pub fulls : Reach → ℕ → ℕ
fulls reach stone = fulls_at reach.fulls reach.full_at stone

-- A call's lists, and what it counted: an empty list where there was nothing to take, a full one
-- where there was no room.
pub record Moves (old new : Reach) : Type 0 where
  pub own : new.own ≡ old.own
  pub lists : ListsGo old.own old.lists new.lists
  pub empties : (new.empties ≡ old.empties) ⊎ (lacks old.lists old.own ≡ 1)
  pub fulls : (new.fulls ≡ old.fulls)
      ⊎ ((new.fulls ≡ raised old.fulls) × (crowds old.lists new.full_at ≡ 1))
