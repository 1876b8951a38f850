-- A turn of an actor over the lists that it reaches is a turn of the world.
use Rattle.std.proofs.Common.{◌≡◌, ◌⊎◌, ℕ, ◌-◌, Option, ap, subst, ◌∙◌, arith, inl, ⊎_elim, ne_eqb}
use Rattle.std.proofs.lemmas.Bool.Decides.{eqb_tells}
use Rattle.std.specs.Prelude.{if◌then◌else◌, Bool}
use Rattle.evp_plan.specs.Counts.{raised}
use Rattle.evp_stone.specs.declared.turn.Turn.{Turn}
use Rattle.evp_stone.specs.Actor.{ActorShape}
use Rattle.evp_stone.specs.JobShape.{JobShape}
use Rattle.evp_stone.specs.Port.{Rose}
use Rattle.evp_stone.specs.Turned.{counted, HasTurned}
use Rattle.evp_core.specs.declared.reach.Reach.{Reach}
use Rattle.evp_core.specs.Lists.{ListsGo, taken_on, given_on}
use Rattle.evp_core.specs.Reach.{Moves, taken, given, empties, fulls, fulls_at}
use Rattle.evp_core.specs.WorldTurned.{counts_before, counts_behind, lacks, crowds}
use Rattle.evp_core.proofs.Weaker.{turned_weaker}

none_rose : Rose 0 0 → ⊥
none_rose rose = ⊎_elim (λ more. absurd (omega arith)) (λ last. absurd (omega arith)) rose

none_full : (last stone : ℕ) → fulls_at 0 last stone ≡ 0
none_full last stone = ⊎_elim (λ e. ap (λ (b : Bool). if b then 0 else 0 - 1) e.0) (λ e. ap (λ (b : Bool). if b then 0 else 0 - 1) e.0)
    (eqb_tells stone last)

module _ (old new : Reach) (none : old.empties ≡ 0) (no_fulls : old.fulls ≡ 0) (moved : (new ≡ old) ⊎ Moves old new) where
  pub same_own : new.own ≡ old.own
  same_own = ⊎_elim (λ same. ap (λ (r : Reach). r.own) same) (λ m. m.own) moved

  pub lists_go : ListsGo old.own old.lists new.lists
  lists_go = ⊎_elim (λ same. inl (ap (λ (r : Reach). r.lists) same)) (λ m. m.lists) moved

  still_empties : new.empties ≡ old.empties → Rose old.empties new.empties → ⊥
  still_empties same rose = none_rose (subst (λ (n : ℕ). Rose n n) none (subst (Rose old.empties) same rose))

  empty_rose : Rose old.empties new.empties → Rose 0 (lacks old.lists old.own)
  empty_rose rose =
      ⊎_elim (λ same. absurd (still_empties (ap (λ (r : Reach). r.empties) same) rose))
      (λ m. ⊎_elim (λ same. absurd (still_empties same rose)) (λ lack. inl (omega arith)) m.empties)
      moved

  was_full : (stone : ℕ) → fulls old stone ≡ 0
  was_full stone = ap (λ (n : ℕ). fulls_at n old.full_at stone) no_fulls ∙ none_full old.full_at stone

  still_fulls : (stone : ℕ) → new.fulls ≡ old.fulls → Rose (fulls old stone) (fulls new stone) → ⊥
  still_fulls stone same rose =
      let now : fulls new stone ≡ 0 = ap (λ (n : ℕ). fulls_at n new.full_at stone) (same ∙ no_fulls) ∙ none_full new.full_at stone in
      none_rose (subst (Rose 0) now (subst (λ (n : ℕ). Rose n (fulls new stone)) (was_full stone) rose))

  one_full : (stone : ℕ) → new.fulls ≡ raised old.fulls → crowds old.lists new.full_at ≡ 1
      → Rose (fulls old stone) (fulls new stone) → Rose 0 (crowds old.lists stone)
  one_full stone more full rose =
      let one : new.fulls ≡ 1 = more ∙ ap raised no_fulls in
      ⊎_elim (λ e. inl (let crowd : crowds old.lists stone ≡ 1 = ap (crowds old.lists) e.1 ∙ full in omega arith))
      (λ e.
      let now : fulls new stone ≡ 0 = ap (λ (n : ℕ). fulls_at n new.full_at stone) one
      ∙ ap (λ (b : Bool). if b then 1 else 1 - 1) (ne_eqb stone new.full_at e.1) in
      absurd (none_rose (subst (Rose 0) now (subst (λ (n : ℕ). Rose n (fulls new stone)) (was_full stone) rose))))
      (eqb_tells stone new.full_at)

  full_rose : (stone : ℕ) → Rose (fulls old stone) (fulls new stone) → Rose 0 (crowds old.lists stone)
  full_rose stone rose =
      ⊎_elim (λ same. absurd (still_fulls stone (ap (λ (r : Reach). r.fulls) same) rose))
      (λ m. ⊎_elim (λ same. absurd (still_fulls stone same rose)) (λ more. one_full stone more.0 more.1 rose) m.fulls)
      moved

  pub turned_so : (job : JobShape) (was now : ActorShape) (turn : Turn) (own : Option ℕ) → old.own ≡ own
      → HasTurned job (counted (taken old) (given old) (empties old) (fulls old))
      (counted (taken new) (given new) (empties new) (fulls new))
      was now turn
      → HasTurned job (counts_before old.lists own) (counts_behind old.lists new.lists own) was now turn
  turned_so job was now turn own of turned =
      let weaker = turned_weaker job (taken old) (taken new) (given old) (given new) (empties old) (empties new) 0
      (lacks old.lists old.own)
      (fulls old) (fulls new) (λ _. 0) (λ stone. crowds old.lists stone) empty_rose full_rose was now turn turned in
      subst (λ (o : Option ℕ). HasTurned job (counts_before old.lists o) (counts_behind old.lists new.lists o) was now turn) of
      (subst (λ (o : Option ℕ). HasTurned job (counts_before old.lists old.own)
      (counted (taken_on new.lists o) (given_on new.lists) (lacks old.lists old.own) (λ stone. crowds old.lists stone)) was now turn)
      same_own weaker)
