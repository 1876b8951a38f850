-- A turn of a source: what it requires, and what holds behind the entry to come.
use Rattle.std.proofs.Common.{◌≡◌, ℕ, suc, ◌+◌, ◌-◌, ◌<◌, ◌≤◌, Bool, List, [], ◌∷◌, map, drop, length, get_or, Some}
use Rattle.std.proofs.Common.{refl, sym, ap, subst, ◌∙◌, ⊎_elim, eq-eqb, ne_eqb, arith}
use Rattle.std.proofs.lemmas.Bool.Decides.{eqb_tells}
use Rattle.std.proofs.lemmas.List.{length-map}
use Rattle.std.proofs.lemmas.Option.{slice_get_within, slice_get_cases, slice_get_read, slice_get-map}
use Rattle.std.specs.Arc.{arc_value}
use Rattle.std.specs.declared.alloc.Global.{Global}
use Rattle.std.specs.declared.sync.Arc.{Arc}
use Rattle.std.specs.Prelude.{if◌then◌else◌, option_map}
use Rattle.std.specs.List.{slice_get, sum}
use Rattle.evp_graph.specs.declared.route.Route.{Route}
use Rattle.evp_graph.specs.Routes.{IsRoute, Visits}
use Rattle.evp_graph.specs.Shape.{Shape}
use Rattle.evp_record.specs.OwnedBytes.{OwnedBytes}
use Rattle.evp_stone.specs.declared.entry.Entry.{Entry}
use Rattle.evp_stone.specs.declared.entry.Entry.TheVariants.{Item}
use Rattle.evp_stone.specs.declared.round.Round.{Round}
use Rattle.evp_stone.specs.declared.source.Source.{Source}
use Rattle.evp_stone.specs.declared.turn.Turn.{Turn}
use Rattle.evp_stone.specs.Accounts.{records_of, carried_of, items_of, flow_of}
use Rattle.evp_stone.specs.Carried.{Carried}
use Rattle.evp_stone.specs.Entries.{Fact, flow_at, facts, StandsForPart, route_of, position_of}
use Rattle.evp_stone.specs.Fed.{HasMore, IsToCome, behind_end, behind_record, behind_next}
use Rattle.evp_stone.specs.Feeding.{SourceWork, coming, to_come, HasFed}
use Rattle.evp_stone.specs.Flow.{Part, item, mark}
use Rattle.evp_stone.specs.Job.{IsJob, submits}
use Rattle.evp_stone.specs.JobShape.{JobShape, graph_of}
use Rattle.evp_stone.specs.Port.{Counting, OneMore, IsNext, IsPlacedIn}
use Rattle.evp_stone.specs.Route.{last_stone}
use Rattle.evp_stone.specs.Turned.{Counted, OneFed, PartGoes, SourceGoes}
use Rattle.evp_stone.proofs.Bounds.{short_flow, few_items, length-carried}
use Rattle.evp_stone.proofs.Coming.{IsCut, cut_at, sum_next, end_comes, record_comes}
use Rattle.evp_stone.proofs.Filed.{is_that, has_value, records_from, length-records}
use Rattle.evp_stone.proofs.JobFacts.{ends_at}
use Rattle.evp_stone.proofs.Routes.{is_route_at}

abbrev numbers_of : JobShape → SourceWork → List ℕ
numbers_of job work = submits work.source job.rounds

length-submits : (source : ℕ) (rounds : List Round) → length (submits source rounds) ≡ length rounds
length-submits source rounds = length-map rounds (λ (round : Round). get_or round.submit source 0)

-- a part comes next, and where the source stands behind it
pub record ComesTo (job : JobShape) (work : SourceWork) (part : Part) (new : SourceWork) : Type 0 where
  pub fed : OneFed work new
  pub comes : to_come job work ≡ part ∷ to_come job new
  pub enough : new.index + new.left + sum (drop (new.round + 1) (numbers_of job new)) ≤ length (records_of job new.source)

-- the first part is one alone
pub first_same : (part other : Part) (parts others : List Part) (come : List Part) → come ≡ part ∷ parts → come ≡ other ∷ others
    → part ≡ other
first_same part other parts others come one two = cc

module _ (job : JobShape) (work : SourceWork) (more : HasMore job work) where
  abbrev numbers : List ℕ
  numbers = numbers_of job work

  abbrev records : List Carried
  records = records_of job work.source

  below_numbers : work.round < length numbers
  below_numbers = let long = length-submits work.source job.rounds in let below = more.round in omega arith

  pub at_end : work.left ≡ 0 → ComesTo job work (mark work.round) (behind_end job work)
  at_end none = record {
    fed = record { source = refl; route = refl; given = refl };
    comes = ap (λ (n : ℕ). coming work.round (drop work.round numbers) n (drop work.index records)) none
        ∙ end_comes work.round numbers (drop work.index records) below_numbers;
    enough = let e = sum_next numbers (work.round + 1) in let all = more.enough in omega arith;
  }

  -- a record is to come, and its file has it
  pub record_there : (source : Source) → slice_get job.sources work.source ≡ Some source → 0 < work.left
      → work.index < length source.items
  record_there source at some =
      let all = more.enough in
      let long = length-records job work.source source at in
      omega arith

  pub at_record : (source : Source) (owned : OwnedBytes) → slice_get job.sources work.source ≡ Some source
      → slice_get source.items work.index ≡ Some owned → 0 < work.left
      → ComesTo job work (item (carried_of job.formats work.index owned)) (behind_record work)
  at_record source owned at here some =
      let c = carried_of job.formats work.index owned in
      let one : work.left ≡ suc (work.left - 1) = omega arith in
      record {
        fed = record { source = refl; route = refl; given = refl };
        comes = ap (λ (n : ℕ). coming work.round (drop work.round numbers) n (drop work.index records)) one
            ∙ ap (λ (l : List Carried). coming work.round (drop work.round numbers) (suc (work.left - 1)) l)
            (records_from job work.source source work.index owned at here)
            ∙ record_comes work.round numbers (work.left - 1) c (drop (work.index + 1) records) below_numbers;
        enough = let all = more.enough in omega arith;
      }

  -- the entry of a record to come, whose bytes are shared with the file
  pub item_comes : IsJob job → (source : Source) (file : List (Arc OwnedBytes Global)) (here owned : Arc OwnedBytes Global)
      → slice_get job.sources work.source ≡ Some source → map (λ (a : Arc OwnedBytes Global). arc_value a) file ≡ source.items
      → work.index < length file → here ≡ get_or file work.index here → arc_value owned ≡ arc_value here → 0 < work.left
      → IsToCome job work (Item work.route work.given work.index owned)
  item_comes is source file here owned at files below read same some =
      let filed : slice_get source.items work.index ≡ Some (arc_value owned) =
      ap (λ (l : List OwnedBytes). slice_get l work.index) (sym files)
      ∙ slice_get-map (λ (a : Arc OwnedBytes Global). arc_value a) file work.index
      ∙ ap (option_map (λ (a : Arc OwnedBytes Global). arc_value a)) (slice_get_read file (length file) work.index here refl below read)
      ∙ ap Some (sym same) in
      let to = at_record source (arc_value owned) at filed some in
      let that = is_that job.formats work.index (arc_value owned)
      (has_value job is work.source source work.index (arc_value owned) at filed) in
      record {
        route = refl;
        position = refl;
        stands = λ part parts comes. subst (StandsForPart job.formats (Item work.route work.given work.index owned))
            (first_same _ part _ parts (to_come job work) to.comes comes) (refl, that);
      }

pub next_is_end : (job : JobShape) (work : SourceWork) → work.left ≡ 0 → behind_next job work ≡ behind_end job work
next_is_end job work none =
    ap (λ (b : Bool). if b then behind_end job work else behind_record work) (eq-eqb work.left 0 none)

pub next_is_record : (job : JobShape) (work : SourceWork) → (work.left ≡ 0 → ⊥) → behind_next job work ≡ behind_record work
next_is_record job work some =
    ap (λ (b : Bool). if b then behind_end job work else behind_record work) (ne_eqb work.left 0 some)

there_is : {X : Type 0} (xs : List X) (k : ℕ) → k < length xs → (x : X) × (slice_get xs k ≡ Some x)
there_is xs k below =
    ⊎_elim (λ e. (e.0, e.2)) (λ e. absurd (let past = e.0 in omega arith)) (slice_get_cases xs k).1

first_source : (graph : Shape) (route : Route) → IsRoute graph route → route.source < length graph.sources
first_source graph route is = visits graph route.source route.positions route.stones is
  where
    visits : (graph : Shape) (source : ℕ) (positions stones : List ℕ) → Visits graph source positions stones
        → source < length graph.sources
    visits graph source positions [] v = absurd v
    visits graph source positions (first ∷ others) v = slice_get_within graph.sources source first v.0

module _ (job : JobShape) (is : IsJob job) (given : Counting) (work : SourceWork) (fed : HasFed job given work) where
  -- there is an entry to come until the last round ended
  pub has_more : work.round < length job.rounds → HasMore job work
  has_more below =
      let ends = ends_at job is work.route fed.route fed.there in
      record {
        source = let first = first_source (graph_of job) fed.route
            (is_route_at (graph_of job) job.routes work.route fed.route is.listed fed.there) in
            let long = length-map job.sources (λ (s : Source). s.stone) in
            let same = fed.source in
            omega arith;
        route = slice_get_within job.routes work.route fed.route fed.there;
        round = below;
        enough = fed.enough;
        given_fits = let few = short_flow job is fed.route ends in let within = fed.within in omega arith;
        round_fits = let few = is.limits.rounds.1 in omega arith;
        index_fits = let few = few_items job is (slice_get job.sources work.source) work.source refl in
            let long = length-carried job.formats 0 (items_of (slice_get job.sources work.source)) in
            let all = fed.enough in
            omega arith;
      }

-- the next part, and the source behind it
pub record GoesOn (job : JobShape) (work : SourceWork) : Type 0 where
  pub part : Part
  pub to : ComesTo job work part (behind_next job work)

pub goes_on : (job : JobShape) (work : SourceWork) → HasMore job work → GoesOn job work
goes_on job work more = ⊎_elim (λ e. end_goes e.1) (λ e. record_goes e.1) (eqb_tells work.left 0)
  where
    end_goes : work.left ≡ 0 → GoesOn job work
    end_goes none = record {
      part = mark work.round;
      to = subst (ComesTo job work (mark work.round)) (sym (next_is_end job work none)) (at_end job work more none);
    }

    record_goes : (work.left ≡ 0 → ⊥) → GoesOn job work
    record_goes some =
        let source = there_is job.sources work.source more.source in
        let below = record_there job work more source.0 source.1 (omega arith) in
        let owned = there_is source.0.items work.index below in
        record {
          part = item (carried_of job.formats work.index owned.0);
          to = subst (ComesTo job work _) (sym (next_is_record job work some))
              (at_record job work more source.0 owned.0 source.1 owned.1 (omega arith));
        }

module _ (job : JobShape) (given : Counting) (work : SourceWork) (fed : HasFed job given work) where
  module _ (entry : Entry) (next : IsToCome job work entry) (part : Part) (new : SourceWork) (to : ComesTo job work part new) where
    cut : IsCut (flow_of job fed.route) work.given part (to_come job new)
    cut = cut_at (flow_of job fed.route) work.given part (to_come job new) (fed.rest ∙ to.comes)

    there : slice_get job.routes (route_of entry) ≡ Some fed.route
    there = ap (slice_get job.routes) next.route ∙ fed.there

    placed : IsPlacedIn job entry
    placed =
        let fact : Part → Fact = λ (p : Part). record { formats = job.formats; part = p } in (
          fact part,
          ap (λ (o : _). slice_get (facts job.formats (flow_at job o)) (position_of entry)) there
              ∙ ap (slice_get (facts job.formats (flow_of job fed.route))) next.position
              ∙ rw (slice_get-map fact (flow_of job fed.route) work.given, cut.at) refl,
          next.stands part (to_come job new) to.comes,
        )

    -- the port may be given the entry
    pub may_be_given : (is_of : JobShape → Type 0) (target : ℕ) → is_of job → last_stone fed.route ≡ target
        → IsNext is_of given target entry
    may_be_given is_of target of last = record {
      job = job;
      of = of;
      leads = record { route = fed.route; there = there; last = last };
      next = ap given next.route ∙ fed.count ∙ ap Some (sym next.position);
      placed = placed;
    }

    -- it is given
    pub fed_more : (later : Counting) → OneMore given later entry → HasFed job later new
    fed_more later more = record {
      route = fed.route;
      there = ap (slice_get job.routes) to.fed.route ∙ fed.there;
      source = fed.source ∙ sym to.fed.source;
      first = fed.first;
      count = ap later (to.fed.route ∙ sym next.route) ∙ more.here
          ∙ ap (λ (n : ℕ). Some (n + 1)) next.position ∙ ap Some (sym to.fed.given);
      within = let below = cut.within in let e = to.fed.given in omega arith;
      rest = ap (λ (n : ℕ). drop n (flow_of job fed.route)) to.fed.given ∙ cut.behind;
      enough = to.enough;
    }

-- what is said of the part that comes is said of what is to come
pub goes : (job : JobShape) (before after : Counted) (old new : SourceWork) (turn : Turn) (part : Part) (parts : List Part)
    → to_come job old ≡ part ∷ parts → PartGoes job before after old new part turn
    → SourceGoes job before after old new (to_come job old) turn
goes job before after old new turn part parts comes went =
    subst (λ (l : List Part). SourceGoes job before after old new l turn) (sym comes) went
