-- The accounts of closed stones are collected, one after another.
use Rattle.std.proofs.Common.{◌≡◌, ℕ, ◌+◌, ◌≤◌, List, [], ◌∷◌, ◌++◌, length, Some, refl, sym, ap, subst, ◌∙◌, ⊎_elim, arith, length-append}
use Rattle.std.specs.List.{slice_get}
use Rattle.evp_stone.specs.declared.account.Account.{Account}
use Rattle.evp_stone.specs.Actor.{Role, feeds, works}
use Rattle.evp_stone.specs.Closed.{IsClosed}
use Rattle.evp_stone.specs.JobShape.{JobShape}
use Rattle.evp_stone.specs.Opening.{IsNumbered}
use Rattle.evp_stone.specs.Roles.{IsStones, IsStone, IsDone}
use Rattle.evp_stone.specs.Tallied.{IsAccount}
use Rattle.evp_stone.proofs.Elements.{snoc_at}

-- behind the sources stand the stones
pub are_stones : (job : JobShape) (number : ℕ) (role : Role) → IsNumbered job number role → length job.sources ≤ number → IsStones role
are_stones job number (feeds work) is behind = absurd (let below = is.0 in let at = is.1 in omega arith)
are_stones job number (works work unended) is behind = tt

pub stone_number : (job : JobShape) (number stone : ℕ) (role : Role) → IsNumbered job number role → IsStone role stone
    → number ≡ length job.sources + stone
stone_number job number stone (feeds work) is on = absurd on
stone_number job number stone (works work unended) is on = is.1 ∙ ap (λ (n : ℕ). length job.sources + n) on

pub is_done : (job : JobShape) (role : Role) → IsClosed job role → IsDone job role
is_done job (feeds work) closed = closed
is_done job (works work unended) closed = closed.2

-- the accounts of the first so many stones
pub record AreSoFar (job : JobShape) (count : ℕ) (accounts : List Account) : Type 0 where
  pub count_is : length accounts ≡ count
  pub each : (stone : ℕ) (account : Account) → slice_get accounts stone ≡ Some account
      → (account.stone ≡ stone) × IsAccount job account

pub none_so_far : (job : JobShape) (accounts : List Account) → accounts ≡ [] → AreSoFar job 0 accounts
none_so_far job accounts none = subst (AreSoFar job 0) (sym none) record {
  count_is = refl;
  each = λ stone account at. absurd (cc);
}

-- one account more
pub one_account : (job : JobShape) (count : ℕ) (accounts : List Account) (account : Account) → AreSoFar job count accounts
    → account.stone ≡ count → IsAccount job account → AreSoFar job (count + 1) (accounts ++ account ∷ [])
one_account job count accounts account first stone_is is = record {
  count_is = let c = first.count_is in omega (arith, length-append accounts (account ∷ []));
  each = λ stone other at. ⊎_elim (λ there. first.each stone other there)
      (λ here. subst (λ (a : Account). (a.stone ≡ stone) × IsAccount job a) here.1
      (stone_is ∙ sym (here.0 ∙ first.count_is), is))
      (snoc_at accounts account other stone at);
}
