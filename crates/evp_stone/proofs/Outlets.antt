-- What waits at an outlet: nothing more, or one entry more.
use Rattle.std.proofs.Common.{◌≡◌, ℕ, ◌+◌, List, [], ◌∷◌, ◌++◌, map, Some}
use Rattle.std.proofs.Common.{refl, sym, ap, subst, ◌∙◌}
use Rattle.std.proofs.lemmas.Option.{slice_get-map}
use Rattle.std.specs.List.{slice_get}
use Rattle.evp_graph.specs.declared.route.Route.{Route}
use Rattle.evp_queue.specs.Flow.{Carries, entries_of, StandFor, between}
use Rattle.evp_queue.proofs.Flows.{carries_more, entries_of-here}
use Rattle.evp_stone.specs.declared.entry.Entry.{Entry}
use Rattle.evp_stone.specs.Accounts.{act_of, arrivals, rounds_of, flow_of}
use Rattle.evp_stone.specs.Carried.{Carried, sent_on, part_to, outcome_of}
use Rattle.evp_stone.specs.Entries.{Fact, flow, flow_at, stands_for, StandsForPart, route_of, position_of}
use Rattle.evp_stone.specs.Flow.{Part, item, mark, flow_from}
use Rattle.evp_stone.specs.JobShape.{JobShape}
use Rattle.evp_stone.specs.Lining.{one_more}
use Rattle.evp_stone.specs.Port.{Counting}
use Rattle.evp_stone.specs.Route.{last_stone}
use Rattle.evp_stone.specs.State.{Outlet, front_of, IsFront, HasSent}
use Rattle.evp_stone.proofs.Fronts.{GoesOnBy}
use Rattle.evp_stone.proofs.Longer.{comes_longer}
use Rattle.evp_stone.proofs.Routes.{HasEnds}
use Rattle.evp_stone.proofs.Works.{ActsNext, comes, sent_none, sent_one, sent_end}

pub fact_at : (job : JobShape) (number : ℕ) (route : Route) (count : ℕ) (part : Part) → slice_get job.routes number ≡ Some route
    → slice_get (flow_of job route) count ≡ Some part
    → slice_get (flow job number) count ≡ Some (record { formats = job.formats; part = part })
fact_at job number route count part there at =
    let fact : Part → Fact = λ (p : Part). record { formats = job.formats; part = p } in
    ap (λ o. slice_get (map fact (flow_at job o)) count) there
    ∙ rw (slice_get-map fact (flow_of job route) count, at) refl

-- the same entries of a route wait
pub carries_same : (job : JobShape) (number taken given : ℕ) (xs ys : List Entry)
    → Carries route_of position_of flow stands_for job number taken given xs
    → entries_of route_of number xs ≡ entries_of route_of number ys
    → Carries route_of position_of flow stands_for job number taken given ys
carries_same job number taken given xs ys was same = record {
  behind = was.behind;
  within = was.within;
  stand = subst (λ (l : List Entry). StandFor position_of stands_for taken l (between taken given (flow job number))) same was.stand;
}

module _ (job : JobShape) (given : Counting) (route : Route) (position : ℕ) (outlet : Outlet) where
  -- no entry waits more
  pub stays : (round : ℕ) (done : List Carried) (old new : List Entry) → HasSent job given old route round done position outlet
      → entries_of route_of outlet.route old ≡ entries_of route_of outlet.route new
      → HasSent job given new route round done position outlet
  stays round done old new was same =
      record {
        longer = was.longer;
        there = was.there;
        goes_on = was.goes_on;
        so_far = was.so_far;
        count = was.count;
        waits = carries_same job outlet.route was.so_far outlet.lined old new was.waits same;
        lined = was.lined;
      }

  -- one entry more waits, where none did
  pub lines_up : (round round' : ℕ) (done done' : List Carried) (new : List Entry) (entry : Entry) (part : Part)
      → (was : HasSent job given [] route round done position outlet)
      → entries_of route_of outlet.route new ≡ entry ∷ [] → route_of entry ≡ outlet.route → position_of entry ≡ outlet.lined
      → StandsForPart job.formats entry part
      → GoesOnBy (flow_of job was.longer) outlet.lined part
      (front_of (arrivals job was.longer) round' (sent_on (act_of job) (last_stone route) position done'))
      → HasSent job given new route round' done' position (one_more outlet)
  lines_up round round' done done' new entry part was waits on is stands goes =
      let fact = fact_at job outlet.route was.longer outlet.lined part was.there goes.there in
      let more = carries_more route_of position_of flow stands_for job outlet.route was.so_far outlet.lined [] entry
      (record { formats = job.formats; part = part }) was.waits on is fact stands in
      let here : entries_of route_of outlet.route (entry ∷ []) ≡ entry ∷ [] = entries_of-here route_of outlet.route entry [] on in
      record {
        longer = was.longer;
        there = was.there;
        goes_on = was.goes_on;
        so_far = was.so_far;
        count = was.count;
        waits = carries_same job outlet.route was.so_far (outlet.lined + 1) (entry ∷ []) new more (here ∙ sym waits);
        lined = goes.longer;
      }

  module _ (ends : HasEnds route) where
    abbrev comings : List (List Carried)
    comings = comes (act_of job) (last_stone route) position (rounds_of job route)

    -- nothing of the record on which the stone acts goes there
    pub passes_by : (round : ℕ) (done : List Carried) (c : Carried) (new : List Entry)
        → HasSent job given [] route round done position outlet
        → part_to position c (outcome_of (act_of job) (last_stone route) c) ≡ []
        → entries_of route_of outlet.route new ≡ []
        → HasSent job given new route round (done ++ c ∷ []) position outlet
    passes_by round done c new was none waits =
        let comes_is = comes_longer job route ends position was.longer was.goes_on in
        let f : List (List Carried) → List Carried → Type 0 = λ (a : List (List Carried)) (d : List Carried).
        IsFront (flow_from 0 a) outlet.lined (front_of a round (sent_on (act_of job) (last_stone route) position d)) in
        let here : f comings done = subst (λ (a : List (List Carried)). f a done) comes_is was.lined in
        let more : f comings (done ++ c ∷ []) =
        sent_none (act_of job) (last_stone route) position (rounds_of job route) outlet.lined round done c none here in
        record {
          longer = was.longer;
          there = was.there;
          goes_on = was.goes_on;
          so_far = was.so_far;
          count = was.count;
          waits = carries_same job outlet.route was.so_far outlet.lined [] new was.waits (sym waits);
          lined = subst (λ (a : List (List Carried)). f a (done ++ c ∷ [])) (sym comes_is) more;
        }

    -- it goes there as this one
    pub goes_there : (round : ℕ) (done : List Carried) (c sent : Carried) (new : List Entry) (entry : Entry)
        → ActsNext (rounds_of job route) round done c
        → HasSent job given [] route round done position outlet
        → part_to position c (outcome_of (act_of job) (last_stone route) c) ≡ sent ∷ []
        → entries_of route_of outlet.route new ≡ entry ∷ [] → route_of entry ≡ outlet.route → position_of entry ≡ outlet.lined
        → StandsForPart job.formats entry (item sent)
        → HasSent job given new route round (done ++ c ∷ []) position (one_more outlet)
    goes_there round done c sent new entry next was is waits on at stands =
        let comes_is = comes_longer job route ends position was.longer was.goes_on in
        let f : List (List Carried) → Type 0 = λ (a : List (List Carried)).
        IsFront (flow_from 0 a) outlet.lined (front_of a round (sent_on (act_of job) (last_stone route) position done)) in
        let g : List (List Carried) → Type 0 = λ (a : List (List Carried)).
        GoesOnBy (flow_from 0 a) outlet.lined (item sent)
        (front_of a round (sent_on (act_of job) (last_stone route) position (done ++ c ∷ []))) in
        let more : g comings = sent_one (act_of job) (last_stone route) position (rounds_of job route) outlet.lined round done c sent
        next is (subst f comes_is was.lined) in
        lines_up round round done (done ++ c ∷ []) new entry (item sent) was waits on at stands (subst g (sym comes_is) more)

    -- the end of the round goes there
    pub end_goes : (round : ℕ) (done kept : List Carried) (new : List Entry) (entry : Entry)
        → slice_get (rounds_of job route) round ≡ Some (record { done = done; held = kept })
        → HasSent job given [] route round done position outlet
        → entries_of route_of outlet.route new ≡ entry ∷ [] → route_of entry ≡ outlet.route → position_of entry ≡ outlet.lined
        → StandsForPart job.formats entry (mark round)
        → HasSent job given new route (round + 1) [] position (one_more outlet)
    end_goes round done kept new entry there was waits on at stands =
        let comes_is = comes_longer job route ends position was.longer was.goes_on in
        let f : List (List Carried) → Type 0 = λ (a : List (List Carried)).
        IsFront (flow_from 0 a) outlet.lined (front_of a round (sent_on (act_of job) (last_stone route) position done)) in
        let g : List (List Carried) → Type 0 = λ (a : List (List Carried)).
        GoesOnBy (flow_from 0 a) outlet.lined (mark round) (front_of a (round + 1) []) in
        let more : g comings = sent_end (act_of job) (last_stone route) position (rounds_of job route) outlet.lined round
        (record { done = done; held = kept }) done there refl (subst f comes_is was.lined) in
        lines_up round (round + 1) done [] new entry (mark round) was waits on at stands (subst g (sym comes_is) more)
