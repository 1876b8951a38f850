-- A turn takes an entry, or only its port's other counts moved: what holds then.
use Rattle.std.proofs.Common.{◌≡◌, ℕ, ◌+◌, Bool, Option, Some, None}
use Rattle.std.proofs.Common.{sym, ap, subst, ◌∙◌, ⊎_elim}
use Rattle.std.proofs.lemmas.Bool.{eq-eqb}
use Rattle.std.proofs.Common.{ne_eqb, add-zero}
use Rattle.std.proofs.lemmas.Bool.Decides.{eqb_tells}
use Rattle.std.specs.Prelude.{if◌then◌else◌}
use Rattle.evp_stone.specs.declared.entry.Entry.{Entry}
use Rattle.evp_stone.specs.Entries.{route_of, position_of}
use Rattle.evp_stone.specs.JobShape.{JobShape}
use Rattle.evp_stone.specs.Port.{Counting, OneMore, IsPlacedIn}
use Rattle.evp_stone.specs.State.{StoneWork, IsAmong, IsLastTaken, HasState, in_hand, round_in}
use Rattle.evp_stone.proofs.Recounted.{AreSame, sent_as, work_as, state_as}

-- no count moved
pub stayed : (job : JobShape) (taken now given later : Counting) (work : StoneWork) → AreSame taken now → AreSame given later
    → HasState job taken given work → HasState job now later work
stayed job taken now given later work takes gives = state_as job taken now given later takes work 0 (λ number route there on. gives number)

module _ (job : JobShape) (taken now given later : Counting) (entry : Entry) (more : OneMore taken now entry)
    (same : AreSame given later) where
  one_in_hand : (route handled : ℕ) → taken route ≡ Some (handled + 0) → now route ≡ Some (handled + in_hand route (Some entry))
  one_in_hand route handled was =
      ⊎_elim (λ e. ap now e.1 ∙ more.here
      ∙ ap (λ (o : Option ℕ). plus_one o) (sym more.was ∙ ap taken (sym e.1) ∙ was)
      ∙ ap (λ (n : ℕ). Some (n + 1)) (add-zero handled)
      ∙ ap (λ (b : Bool). Some (handled + (if b then 1 else 0))) (sym (eq-eqb (route_of entry) route (sym e.1))))
      (λ e. more.others route e.1 ∙ was
      ∙ ap (λ (b : Bool). Some (handled + (if b then 1 else 0))) (sym (ne_eqb (route_of entry) route (λ i. e.1 (sym i)))))
      (eqb_tells route (route_of entry))
    where
      plus_one : Option ℕ → Option ℕ
      plus_one (Some n) = Some (n + 1)
      plus_one None = None

  -- an entry is taken
  pub took : (old new : StoneWork) → HasState job taken given old → old.hand ≡ None → IsPlacedIn job entry
      → new ≡ record old { hand = Some entry } → HasState job now later new
  took old new state none placed is =
      let among : (route count : ℕ) → now route ≡ Some count → IsAmong old.routes route = λ route count at.
      ⊎_elim (λ e. state.port route (position_of entry) (ap taken e.1 ∙ more.was))
      (λ e. state.port route count (sym (more.others route e.1) ∙ at))
      (eqb_tells route (route_of entry)) in
      subst (HasState job now later) (sym is) (record {
        numbers = state.numbers;
        port = among;
        hand = λ e here. let i : entry ≡ e = cc in subst (IsLastTaken job now old.routes) i (record {
          ours = state.port (route_of entry) (position_of entry) more.was;
          count = more.here;
          placed = placed;
        });
        waiting = state.waiting;
        each = λ place here at. let was = state.each place here at in
            work_as job taken now given later old.hand (Some entry) old.waiting old.waiting here was
            (one_in_hand here.route was.handled
            (was.count ∙ ap (λ (h : Option Entry). Some (was.handled + in_hand here.route h)) none))
            (λ position outlet on. sent_as job given later old.waiting was.route (round_in here) was.done position outlet
            (same outlet.route)
            (was.sent position outlet on));
      })
