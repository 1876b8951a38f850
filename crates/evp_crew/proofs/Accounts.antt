-- The accounts of the stones' seats are collected, one after another.
use Rattle.std.proofs.Common.{◌≡◌, ℕ, ◌+◌, ◌-◌, ◌<◌, ◌≤◌, List, [], ◌∷◌, ◌++◌, length, drop, Some}
use Rattle.std.proofs.Common.{sym, ap, subst, ◌∙◌, arith, length-drop}
use Rattle.std.proofs.lemmas.Option.{slice_get_within}
use Rattle.std.specs.List.{slice_get}
use Rattle.evp_cache.specs.Known.{Cells}
use Rattle.evp_stone.specs.declared.account.Account.{Account}
use Rattle.evp_stone.specs.Actor.{HasActed}
use Rattle.evp_stone.specs.Job.{IsJob}
use Rattle.evp_stone.specs.JobShape.{JobShape}
use Rattle.evp_stone.specs.Opening.{IsNumbered}
use Rattle.evp_stone.specs.Port.{Counting}
use Rattle.evp_stone.specs.Roles.{IsStones, IsStone, IsDone}
use Rattle.evp_stone.specs.Tallied.{IsAccount}
use Rattle.evp_stone.specs.WholeAccounts.{AreAccounts}
use Rattle.evp_stone.proofs.Collected.{AreSoFar, none_so_far, one_account, are_stones, stone_number, is_done}
use Rattle.evp_stone.proofs.Elements.{next_at}
use Rattle.evp_crew.specs.declared.three.Three.{Three}
use Rattle.evp_crew.specs.Carried.{IsDoneAt, AreFirst}
use Rattle.evp_crew.specs.Parting.{actors_of}
use Rattle.evp_crew.specs.Passes.{taken_by, given_by}
use Rattle.evp_crew.specs.Seat.{SeatShape}

-- these seats are still to come, behind so many
pub record Collects (job : JobShape) (all rest : List SeatShape) (accounts : List Account) : Type 0 where
  pub behind : ℕ
  pub within : behind ≤ length all
  pub left : rest ≡ drop behind all
  pub so_far : AreSoFar job (behind - length job.sources) accounts

pub collects_none : (job : JobShape) (all rest : List SeatShape) (accounts : List Account) → accounts ≡ [] → rest ≡ all
    → Collects job all rest accounts
collects_none job all rest accounts none is = record {
  behind = 0;
  within = omega arith;
  left = is;
  so_far = let n : 0 ≡ 0 - length job.sources = omega arith in
      subst (λ (k : ℕ). AreSoFar job k accounts) n (none_so_far job accounts none);
}

module _ (three : Three) (all : List SeatShape) (whole : AreFirst three (actors_of three.job) all) (old new : List SeatShape)
    (seat : SeatShape) (next : old ≡ seat ∷ new) (accounts : List Account) (was : Collects three.job all old accounts) where
  at : (slice_get all was.behind ≡ Some seat) × (drop (was.behind + 1) all ≡ new)
  at = next_at all new was.behind seat (sym was.left ∙ next)

  done : IsDoneAt three was.behind seat
  done = whole.each was.behind seat at.0

  below : was.behind < length all
  below = slice_get_within all was.behind seat at.0

  numbered : IsNumbered three.job seat.number seat.actor.role
  numbered = subst (λ (j : JobShape). IsNumbered j seat.number seat.actor.role) done.done.of.job_is done.done.kept.numbered

  -- a source has no account
  pub source_passed : seat.number < length three.job.sources → Collects three.job all new accounts
  source_passed source = record {
    behind = was.behind + 1;
    within = let b = below in omega arith;
    left = sym at.1;
    so_far = let n = done.number_is in
        let same : was.behind - length three.job.sources ≡ was.behind + 1 - length three.job.sources = omega arith in
        subst (λ (k : ℕ). AreSoFar three.job k accounts) same was.so_far;
  }

  pub is_stones : length three.job.sources ≤ seat.number → IsStones seat.actor.role
  is_stones behind = are_stones three.job seat.number seat.actor.role numbered behind

  -- there is room for the account of a stone
  pub has_room : length three.job.sources ≤ seat.number → length accounts < length all
  has_room behind = let b = below in let n = done.number_is in let l = was.so_far.count_is in omega arith

  pub account_added : IsJob three.job → (account : Account) → IsStone seat.actor.role account.stone
      → ((job : JobShape) (cells : Cells) (taken given : Counting) → IsJob job → HasActed job cells taken given seat.actor
      → IsDone job seat.actor.role → IsAccount job account)
      → length three.job.sources ≤ seat.number → Collects three.job all new (accounts ++ account ∷ [])
  account_added is account on right behind =
      let n = done.number_is in
      let stone = stone_number three.job seat.number account.stone seat.actor.role numbered on in
      let acted = subst (λ (j : JobShape). HasActed j seat.cells (taken_by seat.passes.take) (given_by j seat.passes.gives.items)
      seat.actor)
      done.done.of.job_is done.done.kept.acted in
      let account_is = right three.job seat.cells _ _ is acted (is_done three.job seat.actor.role done.done.closed) in
      let more = one_account three.job (was.behind - length three.job.sources) accounts account was.so_far (omega arith) account_is in
      let same : was.behind - length three.job.sources + 1 ≡ was.behind + 1 - length three.job.sources = omega arith in
      record {
        behind = was.behind + 1;
        within = let b = below in omega arith;
        left = sym at.1;
        so_far = subst (λ (k : ℕ). AreSoFar three.job k (accounts ++ account ∷ [])) same more;
      }

-- none is left
pub collected : (job : JobShape) (all rest : List SeatShape) (accounts : List Account) → length all ≡ actors_of job → length rest ≡ 0
    → Collects job all rest accounts → AreAccounts job accounts
collected job all rest accounts whole none was =
    let left = ap (λ (l : List SeatShape). length l) was.left in
    let within = was.within in
    let long = was.so_far.count_is in
    record { count = omega (arith, length-drop was.behind all); each = was.so_far.each }
