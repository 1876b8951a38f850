-- What is left of the stones' give passes, and an actor's parts of them, one stone after another.
use Rattle.std.proofs.Common.{◌≡◌, ◌≢◌, ℕ, ◌+◌, ◌<◌, ◌≤◌, Bool, true, false, List, [], ◌∷◌, ◌++◌, length, set, Some, None}
use Rattle.std.proofs.Common.{refl, sym, ap, subst, ◌∙◌, inl, inr, ⊎_elim, arith, length-append, length-set}
use Rattle.std.specs.Prelude.{◌⊎◌}
use Rattle.std.proofs.lemmas.Bool.{false≢true}
use Rattle.std.proofs.lemmas.Bool.Decides.{eqb_tells}
use Rattle.std.proofs.lemmas.Option.{slice_get_within}
use Rattle.std.specs.List.{slice_get}
use Rattle.evp_graph.specs.declared.route.Route.{Route}
use Rattle.evp_queue.specs.Counts.{count_at, is_among, those}
use Rattle.evp_queue.specs.Passes.{giver_of, GivesTo}
use Rattle.evp_queue.specs.Rule.{part_of, rest_of}
use Rattle.evp_queue.specs.declared.pass.GivePass.{GivePass}
use Rattle.evp_queue.specs.declared.progress.Progress.{Progress}
use Rattle.evp_queue.specs.declared.queue.StoneQueue.{StoneQueue}
use Rattle.evp_queue.proofs.Counts.{those_at, not_in_those, others_at}
use Rattle.evp_stone.specs.declared.entry.Entry.{Entry}
use Rattle.evp_stone.specs.JobShape.{JobShape}
use Rattle.evp_stone.specs.Route.{last_stone}
use Rattle.evp_stone.proofs.Change.{set_here, set_elsewhere}
use Rattle.evp_stone.proofs.Elements.{snoc_at}
use Rattle.evp_crew.specs.declared.crew.Crew.{Crew}
use Rattle.evp_crew.specs.Parting.{IsRest, AreRests, IsShare, AreShares}
use Rattle.evp_crew.specs.Passes.{Giver, GivesIn}
use Rattle.evp_crew.specs.Ways.{giver_number, IsWay, AreWays}

abbrev Pass : Type 0
Pass = GivePass Entry JobShape

tested : (b : Bool) → (b ≡ true) ⊎ (b ≡ false)
tested true = inl refl
tested false = inr refl

same_route : (r s : Route) → Some r ≡ Some s → r ≡ s
same_route r s same = cc

-- the pass of which something is left
pub record RestPass (crew : Crew) (job : JobShape) (from stone : ℕ) (pass : Pass) : Type 0 where
  pub of : GivesIn crew job stone pass
  pub counts : (number : ℕ) (route : Route) → slice_get job.routes number ≡ Some route → last_stone route ≡ stone
      → from ≤ giver_number job route → count_at number (giver_of pass).counts ≡ Some 0

pub rest_pass : (crew : Crew) (job : JobShape) (from stone : ℕ) (rest : Giver) (pass : Pass) → IsRest crew job from stone rest
    → Some pass ≡ rest → RestPass crew job from stone pass
rest_pass crew job from stone rest pass is same =
    subst (RestPass crew job from stone) (same_pass is.pass pass (sym is.is ∙ sym same)) record { of = is.of; counts = is.counts }
  where
    same_pass : (a b : Pass) → Some a ≡ Some b → a ≡ b
    same_pass a b same = cc

module _ (crew : Crew) (job : JobShape) (actor stone : ℕ) (mine : List ℕ) (ways : AreWays job (Some actor) stone mine) where
  -- the route is the actor's way to the stone
  way : (route : Route) → last_stone route ≡ stone → giver_number job route ≡ actor → IsWay job (Some actor) stone route
  way route last giver = record { giver_is = λ number is. giver ∙ same_number actor number is; target_is = last }
    where
      same_number : (a b : ℕ) → Some a ≡ Some b → a ≡ b
      same_number a b same = cc

  -- the actor doesn't give to the stone
  module _ (none : mine ≡ []) where
    not_mine : (number : ℕ) (route : Route) → slice_get job.routes number ≡ Some route → last_stone route ≡ stone
        → giver_number job route ≡ actor → ⊥
    not_mine number route there last giver =
        absurd (false≢true (sym (ap (is_among number) none) ∙ ways.all number route there (way route last giver)))

    pub rest_stays : (rest : Giver) → IsRest crew job actor stone rest → IsRest crew job (actor + 1) stone rest
    rest_stays rest was = record {
      pass = was.pass;
      is = was.is;
      of = was.of;
      counts = λ number route there last from. was.counts number route there last (omega arith);
    }

    pub no_share : IsShare crew job actor stone None
    no_share = record {
      of = λ pass is. absurd (cc);
      counts = λ number route there last giver. absurd (not_mine number route there last giver);
      alone = λ number count route is there. absurd (cc);
    }

  -- it gives to it
  module _ (pass share left : Pass) (queue : StoneQueue Entry JobShape) (of : GivesIn crew job stone pass)
      (there : slice_get crew.queues.items stone ≡ Some queue)
      (share_is : GivesTo queue share × (giver_of share ≡ part_of mine (giver_of pass)))
      (left_is : GivesTo queue left × (giver_of left ≡ rest_of mine (giver_of pass)))
      (counts : (number : ℕ) (route : Route) → slice_get job.routes number ≡ Some route → last_stone route ≡ stone
      → actor ≤ giver_number job route → count_at number (giver_of pass).counts ≡ Some 0) where
    -- whose giver comes later isn't among the actor's
    later_other : (number : ℕ) (route : Route) → slice_get job.routes number ≡ Some route → actor + 1 ≤ giver_number job route
        → is_among number mine ≡ false
    later_other number route at later =
        ⊎_elim (λ among.
        let mine' = ways.each number among in
        let same = same_route mine'.0 route (sym mine'.1 ∙ at) in
        let giver = mine'.2.giver_is actor refl in
        let giver' = ap (giver_number job) same in
        absurd (omega arith)) (λ not. not) (tested (is_among number mine))

    pub left_rest : IsRest crew job (actor + 1) stone (Some left)
    left_rest = record {
      pass = left;
      is = refl;
      of = record {
        queue = queue;
        there = there;
        gives = left_is.0;
        whole = ap (λ (p : Progress JobShape). p.whole) left_is.1 ∙ of.whole;
      };
      counts = λ number route at last from.
          ap (λ (p : Progress JobShape). count_at number p.counts) left_is.1
          ∙ others_at mine number (giver_of pass).counts (later_other number route at from)
          ∙ counts number route at last (omega arith);
    }

    among_route : (number count : ℕ) → count_at number (giver_of share).counts ≡ Some count → is_among number mine ≡ true
    among_route number count is =
        let is' : count_at number (those mine (giver_of pass).counts) ≡ Some count =
        sym (ap (λ (p : Progress JobShape). count_at number p.counts) share_is.1) ∙ is in
        ⊎_elim (λ among. among) (λ not. absurd (let none = not_in_those mine number (giver_of pass).counts not in cc))
        (tested (is_among number mine))

    pub one_share : IsShare crew job actor stone (Some share)
    one_share = record {
      of = λ p is. subst (GivesIn crew job stone) (same_pass share p is) record {
        queue = queue;
        there = there;
        gives = share_is.0;
        whole = ap (λ (p : Progress JobShape). p.whole) share_is.1 ∙ of.whole;
      };
      counts = λ number route at last giver.
          ap (λ (p : Progress JobShape). count_at number p.counts) share_is.1
          ∙ those_at mine number (giver_of pass).counts (ways.all number route at (way route last giver))
          ∙ counts number route at last (omega arith);
      alone = λ number count route is at.
          let mine' = ways.each number (among_route number count is) in
          ap (giver_number job) (same_route route mine'.0 (sym at ∙ mine'.1)) ∙ mine'.2.giver_is actor refl;
    }
      where
        same_pass : (a b : Pass) → Some a ≡ Some b → a ≡ b
        same_pass a b same = cc

module _ (crew : Crew) (job : JobShape) (actor : ℕ) where
  -- so far the stones below this number were parted
  pub record SharesSoFar (behind : ℕ) (rests shares : List Giver) : Type 0 where
    pub count : length rests ≡ length job.stones
    pub done : length shares ≡ behind
    pub parted : (stone : ℕ) (rest : Giver) → stone < behind → slice_get rests stone ≡ Some rest → IsRest crew job (actor + 1) stone rest
    pub whole : (stone : ℕ) (rest : Giver) → behind ≤ stone → slice_get rests stone ≡ Some rest → IsRest crew job actor stone rest
    pub each : (stone : ℕ) (share : Giver) → slice_get shares stone ≡ Some share → IsShare crew job actor stone share

  pub shares_none : (rests shares : List Giver) → shares ≡ [] → AreRests crew job actor rests → SharesSoFar 0 rests shares
  shares_none rests shares none are =
      subst (SharesSoFar 0 rests) (sym none) record {
        count = are.count;
        done = refl;
        parted = λ stone rest below. absurd (omega arith);
        whole = λ stone rest from at. are.each stone rest at;
        each = λ stone share at. absurd (cc);
      }

  pub shares_one : (behind : ℕ) (rests shares : List Giver) (was rest share : Giver) → slice_get rests behind ≡ Some was
      → IsRest crew job (actor + 1) behind rest → IsShare crew job actor behind share → SharesSoFar behind rests shares
      → SharesSoFar (behind + 1) (set rests behind rest) (shares ++ share ∷ [])
  shares_one behind rests shares was rest share at is one so_far = record {
    count = length-set rests behind rest ∙ so_far.count;
    done = omega (arith, length-append shares (share ∷ []), so_far.done);
    parted = λ stone r below there.
        ⊎_elim (λ e.
        let same = same_giver rest r (sym (set_here rests behind was rest at) ∙ ap (slice_get (set rests behind rest)) (sym e.1)
        ∙ there) in
        subst (λ (s : ℕ). IsRest crew job (actor + 1) s r) (sym e.1) (subst (IsRest crew job (actor + 1) behind) same is))
        (λ e. let apart = e.1 in so_far.parted stone r (omega (arith, apart)) (sym (set_elsewhere rests behind stone rest e.1) ∙ there))
        (eqb_tells stone behind);
    whole = λ stone r from there.
        let apart : stone ≢ behind = λ same. absurd (omega arith) in
        so_far.whole stone r (omega arith) (sym (set_elsewhere rests behind stone rest apart) ∙ there);
    each = λ stone s there.
        ⊎_elim (λ e. so_far.each stone s e)
        (λ e. subst (λ (n : ℕ). IsShare crew job actor n s) (sym (e.0 ∙ so_far.done)) (subst (IsShare crew job actor behind) e.1 one))
        (snoc_at shares share s stone there);
  }
    where
      same_giver : (a b : Giver) → Some a ≡ Some b → a ≡ b
      same_giver a b same = cc

  pub rests_all : (behind : ℕ) (rests shares : List Giver) → length rests ≤ behind → SharesSoFar behind rests shares
      → AreRests crew job (actor + 1) rests
  rests_all behind rests shares long so_far = record {
    count = so_far.count;
    each = λ stone rest at. let below = slice_get_within rests stone rest at in so_far.parted stone rest (omega arith) at;
  }

  pub shares_all : (behind : ℕ) (rests shares : List Giver) → behind ≡ length rests → SharesSoFar behind rests shares
      → AreShares crew job actor shares
  shares_all behind rests shares long so_far = record { count = so_far.done ∙ long ∙ so_far.count; each = so_far.each }
