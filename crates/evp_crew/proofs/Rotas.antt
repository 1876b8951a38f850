-- Each step of a rota keeps its rule.
use Rattle.std.proofs.Common.{◌≡◌, ℕ, zero, suc, inl, inr, ⊎_elim, List, [], ◌∷◌, set, Option, Some, None, refl, sym, ap, subst, ◌∙◌}
use Rattle.std.proofs.lemmas.List.Elements.{All-nil, All-push, All-head, All-tail}
use mathlib.Core.Option.{some, some-injective, some-ne-none}
use lib.ListN.{get_elem?}
use Rattle.crossbeam_queue.specs.Fifo.{Pushes, Pops, Forks, Learns}
use Rattle.crossbeam_queue.proofs.Lists.{at_set}
use Rattle.evp_queue.proofs.Passes.{only_first, at_parted}
use Rattle.evp_crew.specs.declared.three.Three.{Three}
use Rattle.evp_crew.specs.Rule.{IsOfThree, IsServed, Serves, Kept, Took, Seen}
use Rattle.evp_crew.specs.Seat.{SeatShape}

-- a pass of an open rota isn't the first one
not_first : (passes : List (Option Three)) (pass : ℕ) (t : Three) → passes ≡ None ∷ [] → get_elem? passes pass ≡ some (Some t) → ⊥
not_first passes pass t first at =
    let only = only_first None (Some t) pass (ap (λ (l : List (Option Three)). get_elem? l pass) (sym first) ∙ at) in
    let none = only.1 in absurd cc

pub begins : Kept [] (None ∷ [])
begins = inl (refl, refl)

module _ (seats : List SeatShape) (passes : List (Option Three)) (pass : ℕ) (v : Option Three) (at : get_elem? passes pass ≡ some v)
    (q : Serves seats passes) where
  -- the passes know the same when one of them is as it was
  still : (j : ℕ) (u : Option Three) → get_elem? (set passes pass v) j ≡ some u → u ≡ Some q.three
  still j u e = ⊎_elim (λ x. sym x.1 ∙ q.known pass v at) (λ x. q.known j u x.1) (at_set passes pass j v u e)

  -- what is for a pass is for the rota
  served : (seat : SeatShape) → IsServed v seat → IsOfThree q.three seat
  served seat is = subst (λ (o : Option Three). IsServed o seat) (q.known pass v at) is

  serves : (seat : SeatShape) → IsOfThree q.three seat → IsServed v seat
  serves seat is = subst (λ (o : Option Three). IsServed o seat) (sym (q.known pass v at)) is

pub puts : (n pass : ℕ) (v : Option Three) (seat : SeatShape) → IsServed v seat → Pushes Kept n pass v seat (λ w. w ≡ v)
puts n pass None seat is seats passes room rule at = absurd is
puts n pass (Some t) seat is seats passes room rule at = (
  Some t,
  ⊎_elim (λ first. absurd (not_first passes pass t first.1 at))
      (λ q. inr
      record {
        three = q.three;
        known = still seats passes pass (Some t) at q;
        seats_are = All-push (IsOfThree q.three) seats seat q.seats_are (served seats passes pass (Some t) at q seat is);
      })
      rule,
  refl,
)

pub takes : (pass : ℕ) (v : Option Three) (t : Three) → v ≡ Some t → Pops Kept pass v (Took v)
takes pass v t is seat seats passes rule at = (
  v,
  ⊎_elim (λ first. absurd (not_first passes pass t first.1 (at ∙ ap (λ (o : Option Three). some o) is)))
      (λ q. inr
      record {
        three = q.three;
        known = still (seat ∷ seats) passes pass v at q;
        seats_are = All-tail (IsOfThree q.three) seat seats q.seats_are;
      })
      rule,
  (
    ⊎_elim (λ first. absurd (not_first passes pass t first.1 (at ∙ ap (λ (o : Option Three). some o) is)))
        (λ q. serves (seat ∷ seats) passes pass v at q seat (All-head (IsOfThree q.three) seat seats q.seats_are)) rule,
    refl,
  ),
)

pub sees : (pass : ℕ) (v : Option Three) (t : Three) → v ≡ Some t → Learns Kept pass v (Seen v)
sees pass v t is seats passes rule at =
    ⊎_elim (λ first. absurd (not_first passes pass t first.1 (at ∙ ap (λ (o : Option Three). some o) is)))
    (λ q. (passes, pass, q, at)) rule

pub shares : (pass : ℕ) (v : Option Three) (t : Three) → v ≡ Some t → Forks Kept pass v v v
shares pass v t is seats passes rule at =
    ⊎_elim (λ first. absurd (not_first passes pass t first.1 (at ∙ ap (λ (o : Option Three). some o) is)))
    (λ q. inr
    record {
      three = q.three;
      known = λ j u e. ⊎_elim (λ x. sym x.1 ∙ q.known pass v at)
          (λ y. ⊎_elim (λ x. q.known j u x.1) (λ x. sym x.1 ∙ q.known pass v at) y)
          (at_parted passes pass v v j u e);
      seats_are = q.seats_are;
    })
    rule

both_known : (t : Three) (j : ℕ) (u : Option Three) → get_elem? (Some t ∷ Some t ∷ []) j ≡ some u → u ≡ Some t
both_known t zero u e = sym (some-injective (Some t) u e)
both_known t (suc zero) u e = sym (some-injective (Some t) u e)
both_known t (suc (suc j)) u e = absurd (some-ne-none u (sym e))

pub opens : (pass : ℕ) (t : Three) → Forks Kept pass None (Some t) (Some t)
opens pass t seats passes rule at =
    ⊎_elim (λ first.
    let here = only_first None None pass (ap (λ (l : List (Option Three)). get_elem? l pass) (sym first.1) ∙ at) in
    inr (rw (first.0, first.1, here.0) (open_now t)))
    (λ q. absurd (let none = q.known pass None at in cc))
    rule
  where
    open_now : (t : Three) → Serves [] (Some t ∷ Some t ∷ [])
    open_now t = record { three = t; known = both_known t; seats_are = All-nil (IsOfThree t) }
