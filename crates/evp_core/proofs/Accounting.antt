-- What a closed stone's actor hands in is the stone's account.
use Rattle.std.proofs.Common.{◌≡◌, ℕ, zero, suc, ◌+◌, List, [], ◌∷◌, ◌++◌, length, drop, Some, refl, sym, ap, ◌∙◌, arith}
use Rattle.std.proofs.Common.{Option, None}
use Rattle.std.specs.List.{slice_get}
use Rattle.std.specs.Option.{option_to_list}
use Rattle.std.specs.Vec.Iter.{into_iter_items, into_iter_len, into_iter_steps}
use Rattle.std.specs.declared.vec.IntoIter.{IntoIter}
use Rattle.evp_cache.specs.Known.{Cells}
use Rattle.evp_stone.specs.declared.account.Account.{Account}
use Rattle.evp_stone.specs.Actor.{ActorShape, HasActed}
use Rattle.evp_stone.specs.Job.{IsJob}
use Rattle.evp_stone.specs.JobShape.{JobShape}
use Rattle.evp_stone.specs.Port.{Counting}
use Rattle.evp_stone.specs.Roles.{IsStone, IsDone}
use Rattle.evp_stone.specs.Tallied.{IsAccount}
use Rattle.evp_stone.proofs.Collected.{stone_number, is_done}
use Rattle.evp_core.specs.Held.{IsHeld}
use Rattle.evp_core.specs.Moving.{AreClosed}
use Rattle.evp_core.specs.WorldShape.{WorldShape}

-- the account of a stone
pub account_right : (world : WorldShape) → IsHeld world → AreClosed world → (stone : ℕ) (actor : ActorShape)
    → slice_get world.actors (length world.lists.job.sources + stone) ≡ Some actor → (account : Account) → IsStone actor.role account.stone
    → ((job : JobShape) (cells : Cells) (taken given : Counting) → IsJob job → HasActed job cells taken given actor
    → IsDone job actor.role → IsAccount job account)
    → (account.stone ≡ stone) × IsAccount world.lists.job account
account_right world held closed stone actor at account on right = (
  let place = stone_number world.lists.job (length world.lists.job.sources + stone) account.stone actor.role
      (held.rules.numbered (length world.lists.job.sources + stone) actor at) on in omega arith,
  right world.lists.job world.cells _ _ held.job (held.rules.acted (length world.lists.job.sources + stone) actor at)
      (is_done world.lists.job actor.role (closed (length world.lists.job.sources + stone) actor at)),
)

-- behind one more
drop_one : {X : Type 0} (xs : List X) (k : ℕ) → drop 1 (drop k xs) ≡ drop (k + 1) xs
drop_one [] zero = refl
drop_one [] (suc k) = ap (λ (n : ℕ). drop n []) (let e : suc (k + 1) ≡ suc k + 1 = omega arith in e)
drop_one (x ∷ xs) zero = refl
drop_one (x ∷ xs) (suc k) = drop_one xs k ∙ ap (λ (n : ℕ). drop n (x ∷ xs)) (let e : suc (k + 1) ≡ suc k + 1 = omega arith in e)

none_left : {X : Type 0} (xs : List X) → length xs ≡ 0 → xs ≡ []
none_left [] none = refl
none_left (x ∷ xs) none = absurd (omega arith)

-- one more was taken out of what was left behind so many, if there was one
pub one_out : {X Z : Type 0} (xs : List X) (k : ℕ) (old new : IntoIter X Z) (out : Option X) → into_iter_steps old out new
    → into_iter_items old ≡ drop k xs → into_iter_len old ≡ length (into_iter_items old)
    → into_iter_items old ≡ option_to_list out ++ into_iter_items new
    → (into_iter_items new ≡ drop (k + 1) xs) × (into_iter_len new ≡ length (into_iter_items new))
one_out xs k old new (Some x) steps left long is = (
  ap (λ (l : List _). drop 1 l) (sym steps.0 ∙ left) ∙ drop_one xs k,
  let one = ap (λ (l : List _). length l) steps.0 in let fewer = steps.1 in omega arith,
)
one_out xs k old new None steps left long is =
    let none = none_left (into_iter_items old) (sym long ∙ steps.0) in (
      sym is ∙ none ∙ ap (λ (l : List _). drop 1 l) (sym none ∙ left) ∙ drop_one xs k,
      steps.1 ∙ ap (λ (l : List _). length l) (sym none ∙ is),
    )
