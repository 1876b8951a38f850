-- An entry that leaves a stone's list, or joins one, leaves each list by its rule.
use Rattle.std.proofs.Common.{◌≡◌, ◌≢◌, ℕ, ◌+◌, ◌<◌, List, [], ◌∷◌, ◌++◌, length, Some, set}
use Rattle.std.proofs.Common.{refl, sym, ap, subst, ◌∙◌, arith, length-append, ⊎_elim}
use Rattle.std.proofs.Math.ListN.{length-set}
use Rattle.std.proofs.lemmas.Bool.Decides.{eqb_tells}
use Rattle.std.proofs.lemmas.Option.{same_Some, slice_get_within}
use Rattle.std.specs.List.{slice_get, AllByRecursion}
use Rattle.evp_queue.specs.Flow.{Carries}
use Rattle.evp_queue.proofs.Flows.{LeavesFirst, carries_fewer, carries_behind, carries_more, carries_still}
use Rattle.evp_stone.specs.declared.entry.Entry.{Entry}
use Rattle.evp_stone.specs.Entries.{flow, stands_for, route_of, position_of}
use Rattle.evp_stone.specs.JobShape.{JobShape}
use Rattle.evp_stone.specs.Port.{LeadsTo, IsPlacedIn}
use Rattle.evp_stone.specs.Route.{last_stone}
use Rattle.evp_stone.proofs.Change.{set_here, set_elsewhere}
use Rattle.evp_stone.proofs.Elements.{there_below}
use Rattle.evp_core.specs.Lists.{ListsShape, KeepsRule, HasLists, IsFirst, left_by, joined_by}

-- a route leads to one stone
pub leads_once : (job : JobShape) (number stone other : ℕ) → LeadsTo job number stone → LeadsTo job number other → stone ≡ other
leads_once job number stone other one two =
    sym one.last ∙ ap last_stone (same_Some one.route two.route (sym one.there ∙ two.there)) ∙ two.last

module _ (old : ListsShape) (has : HasLists old) where
  pub taken_there : (number stone : ℕ) → LeadsTo old.job number stone → (n : ℕ) × (slice_get old.taken number ≡ Some n)
  taken_there number stone leads =
      let b = slice_get_within old.job.routes number leads.route leads.there in
      let long = has.taken in there_below old.taken number (omega arith)

  pub given_there : (number stone : ℕ) → LeadsTo old.job number stone → (n : ℕ) × (slice_get old.given number ≡ Some n)
  given_there number stone leads =
      let b = slice_get_within old.job.routes number leads.route leads.there in
      let long = has.given in there_below old.given number (omega arith)

  module _ (stone : ℕ) (entry : Entry) (others : List Entry) (was : slice_get old.lists stone ≡ Some (entry ∷ others)) where
    rule : KeepsRule old stone (entry ∷ others)
    rule = has.each stone (entry ∷ others) was

    leads : LeadsTo old.job (route_of entry) stone
    leads = rule.on.0

    leaves : (taken given : ℕ) → slice_get old.taken (route_of entry) ≡ Some taken → slice_get old.given (route_of entry) ≡ Some given
        → LeavesFirst route_of position_of flow stands_for old.job (route_of entry) taken given others entry
    leaves taken given takes gives =
        carries_fewer route_of position_of flow stands_for old.job (route_of entry) taken given others entry
        (rule.carries (route_of entry) leads taken given takes gives) refl

    pub is_first : IsFirst old stone entry
    is_first =
        let takes = taken_there (route_of entry) stone leads in
        let gives = given_there (route_of entry) stone leads in
        let first = leaves takes.0 gives.0 takes.1 gives.1 in
        record {
          leads = leads;
          count = takes.1 ∙ ap Some (sym first.is);
          placed = (first.fact, ap (λ (n : ℕ). slice_get (flow old.job (route_of entry)) n) first.is ∙ first.at, first.stands);
        }

    -- counts of other routes are as they were
    other_taken : (number : ℕ) → number ≢ route_of entry
        → slice_get (left_by old stone entry others).taken number ≡ slice_get old.taken number
    other_taken number apart = set_elsewhere old.taken (route_of entry) number (position_of entry + 1) apart

    carries_left : (number : ℕ) → LeadsTo old.job number stone → (taken given : ℕ)
        → slice_get (left_by old stone entry others).taken number ≡ Some taken → slice_get old.given number ≡ Some given
        → Carries route_of position_of flow stands_for old.job number taken given others
    carries_left number on taken given takes gives =
        ⊎_elim (λ e.
        let first = is_first in
        let here : slice_get (set old.taken (route_of entry) (position_of entry + 1)) (route_of entry) ≡ Some (position_of entry + 1) =
        set_here old.taken (route_of entry) (position_of entry) (position_of entry + 1) first.count in
        let is : position_of entry + 1 ≡ taken =
        same_Some _ _ (sym here ∙ ap (slice_get (set old.taken (route_of entry) (position_of entry + 1))) (sym e.1) ∙ takes) in
        let behind = (leaves (position_of entry) given first.count (ap (slice_get old.given) (sym e.1) ∙ gives)).others in
        subst (λ (n : ℕ). Carries route_of position_of flow stands_for old.job n taken given others) (sym e.1)
        (subst (λ (t : ℕ). Carries route_of position_of flow stands_for old.job (route_of entry) t given others) is behind))
        (λ e. carries_behind route_of position_of flow stands_for old.job number taken given others entry
        (rule.carries number on taken given (sym (other_taken number e.1) ∙ takes) gives) e.1)
        (eqb_tells number (route_of entry))

    rule_left : KeepsRule (left_by old stone entry others) stone others
    rule_left = record {
      short = let s = rule.short in omega arith;
      on = rule.on.1;
      carries = carries_left;
    }

    elsewhere_left : (other : ℕ) (entries : List Entry) → other ≢ stone → slice_get old.lists other ≡ Some entries
        → KeepsRule (left_by old stone entry others) other entries
    elsewhere_left other entries apart at =
        let there = has.each other entries at in
        record {
          short = there.short;
          on = there.on;
          carries = λ number on taken given takes gives. there.carries number on taken given
              (sym (other_taken number (λ e. apart (leads_once old.job number other stone on
              (subst (λ (n : ℕ). LeadsTo old.job n stone) (sym e) leads)))) ∙ takes) gives;
        }

    pub left_keeps : HasLists (left_by old stone entry others)
    left_keeps = record {
      stones = length-set old.lists stone others ∙ has.stones;
      taken = length-set old.taken (route_of entry) (position_of entry + 1) ∙ has.taken;
      given = has.given;
      each = λ other entries at. ⊎_elim
          (λ e. let same : others ≡ entries = same_Some others entries
          (sym (set_here old.lists stone (entry ∷ others) others was) ∙ ap (slice_get (set old.lists stone others)) (sym e.1) ∙ at) in
          subst (λ (n : ℕ). KeepsRule (left_by old stone entry others) n entries) (sym e.1)
          (subst (λ (l : List Entry). KeepsRule (left_by old stone entry others) stone l) same rule_left))
          (λ e. elsewhere_left other entries e.1 (sym (set_elsewhere old.lists stone other others e.1) ∙ at))
          (eqb_tells other stone);
    }

  module _ (stone : ℕ) (entry : Entry) (others : List Entry) (was : slice_get old.lists stone ≡ Some others)
      (room : length others < old.job.queue) (leads : LeadsTo old.job (route_of entry) stone)
      (next : slice_get old.given (route_of entry) ≡ Some (position_of entry)) (placed : IsPlacedIn old.job entry) where
    abbrev entries_now : List Entry
    entries_now = others ++ entry ∷ []

    abbrev given_now : List ℕ
    given_now = set old.given (route_of entry) (position_of entry + 1)

    was_rule : KeepsRule old stone others
    was_rule = has.each stone others was

    carries_joined : (number : ℕ) → LeadsTo old.job number stone → (taken given : ℕ) → slice_get old.taken number ≡ Some taken
        → slice_get given_now number ≡ Some given
        → Carries route_of position_of flow stands_for old.job number taken given entries_now
    carries_joined number on taken given takes gives =
        ⊎_elim (λ e.
        let is : position_of entry + 1 ≡ given = same_Some _ _
        (sym (set_here old.given (route_of entry) (position_of entry) (position_of entry + 1) next) ∙ ap (slice_get given_now) (sym e.1)
        ∙ gives) in
        let more = carries_more route_of position_of flow stands_for old.job (route_of entry) taken (position_of entry) others entry
        placed.0
        (was_rule.carries (route_of entry) leads taken (position_of entry) (ap (slice_get old.taken) (sym e.1) ∙ takes) next)
        refl refl placed.1 placed.2 in
        subst (λ (n : ℕ). Carries route_of position_of flow stands_for old.job n taken given entries_now) (sym e.1)
        (subst (λ (g : ℕ). Carries route_of position_of flow stands_for old.job (route_of entry) taken g entries_now) is more))
        (λ e. carries_still route_of position_of flow stands_for old.job number taken given others entry
        (was_rule.carries number on taken given takes
        (sym (set_elsewhere old.given (route_of entry) number (position_of entry + 1) e.1) ∙ gives)) e.1)
        (eqb_tells number (route_of entry))

    on_snoc : (entries : List Entry) → AllByRecursion (λ e. LeadsTo old.job (route_of e) stone) entries
        → AllByRecursion (λ e. LeadsTo old.job (route_of e) stone) (entries ++ entry ∷ [])
    on_snoc [] all = (leads, tt)
    on_snoc (e ∷ entries) all = (all.0, on_snoc entries all.1)

    rule_joined : KeepsRule (joined_by old stone entry others) stone entries_now
    rule_joined = record {
      short = omega (arith, length-append others (entry ∷ []));
      on = on_snoc others was_rule.on;
      carries = carries_joined;
    }

    elsewhere_joined : (other : ℕ) (entries : List Entry) → other ≢ stone → slice_get old.lists other ≡ Some entries
        → KeepsRule (joined_by old stone entry others) other entries
    elsewhere_joined other entries apart at =
        let there = has.each other entries at in
        record {
          short = there.short;
          on = there.on;
          carries = λ number on taken given takes gives. there.carries number on taken given takes
              (sym (set_elsewhere old.given (route_of entry) number (position_of entry + 1)
              (λ e. apart (leads_once old.job number other stone on (subst (λ (n : ℕ). LeadsTo old.job n stone) (sym e) leads)))) ∙ gives);
        }

    pub joined_keeps : HasLists (joined_by old stone entry others)
    joined_keeps = record {
      stones = length-set old.lists stone entries_now ∙ has.stones;
      taken = has.taken;
      given = length-set old.given (route_of entry) (position_of entry + 1) ∙ has.given;
      each = λ other entries at. ⊎_elim
          (λ e. let same : entries_now ≡ entries = same_Some entries_now entries
          (sym (set_here old.lists stone others entries_now was) ∙ ap (slice_get (set old.lists stone entries_now)) (sym e.1) ∙ at) in
          subst (λ (n : ℕ). KeepsRule (joined_by old stone entry others) n entries) (sym e.1)
          (subst (λ (l : List Entry). KeepsRule (joined_by old stone entry others) stone l) same rule_joined))
          (λ e. elsewhere_joined other entries e.1 (sym (set_elsewhere old.lists stone other entries_now e.1) ∙ at))
          (eqb_tells other stone);
    }
