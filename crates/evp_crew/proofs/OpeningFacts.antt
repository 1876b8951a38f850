-- The queues of a crew are opened one after another, and its seats are made of their parts.
use Rattle.std.proofs.Common.{◌≡◌, ◌≢◌, ℕ, ◌+◌, true, List, [], ◌∷◌, ◌++◌, length, set, Option, Some, None}
use Rattle.std.proofs.Common.{refl, sym, ap, subst, ◌∙◌, ⊎_elim, arith, length-append, length-set}
use Rattle.std.proofs.lemmas.Bool.{false≢true}
use Rattle.std.proofs.lemmas.Bool.Decides.{eqb_tells, nat_tests}
use Rattle.std.proofs.lemmas.Option.{slice_get_within}
use Rattle.std.specs.List.{slice_get}
use Rattle.evp_cache.specs.Known.{Cells}
use Rattle.evp_graph.specs.declared.route.Route.{Route}
use Rattle.evp_queue.specs.Counts.{count_at, is_among, zeroed}
use Rattle.evp_queue.specs.declared.pass.GivePass.{GivePass}
use Rattle.evp_queue.specs.declared.progress.Progress.{Progress}
use Rattle.evp_queue.specs.declared.queue.StoneQueue.{StoneQueue}
use Rattle.evp_stone.specs.declared.entry.Entry.{Entry}
use Rattle.evp_stone.specs.JobShape.{JobShape}
use Rattle.evp_stone.specs.Route.{last_stone}
use Rattle.evp_stone.proofs.Change.{set_elsewhere}
use Rattle.evp_stone.proofs.Elements.{snoc_at}
use Rattle.evp_stone.proofs.Listed.{listed, leads_there}
use Rattle.evp_crew.specs.declared.crew.Crew.{Crew}
use Rattle.evp_crew.specs.declared.opening.Queue.{Queue}
use Rattle.evp_crew.specs.declared.passes.Taker.{Taker}
use Rattle.evp_crew.specs.Opened.{IsQueueOf, AreNone}
use Rattle.evp_crew.specs.Parting.{IsRest, AreRests, TakesAll, IsTake, AreTakes, IsOpening, AreOpening}
use Rattle.evp_crew.specs.Passes.{Giver, GivesIn, TakesIn}
use Rattle.evp_crew.specs.Seat.{SeatShape}
use Rattle.evp_crew.specs.Ways.{IsWay}
use Rattle.evp_crew.proofs.Lists.{front_at, last_there}

zeroed_at : (number : ℕ) (numbers : List ℕ) → is_among number numbers ≡ true → count_at number (zeroed numbers) ≡ Some 0
zeroed_at number [] among = absurd (false≢true among)
zeroed_at number (n ∷ numbers) among = let more = zeroed_at number numbers in grind (arith, nat_tests, more, among)

zeroed_among : (number count : ℕ) (numbers : List ℕ) → count_at number (zeroed numbers) ≡ Some count → is_among number numbers ≡ true
zeroed_among number count [] is = absurd (cc)
zeroed_among number count (n ∷ numbers) is =
    ⊎_elim (λ e. rw e.0) (λ e. rw e.0 (zeroed_among number count numbers (rw e.0 at is))) (eqb_tells n number)

module _ (job : JobShape) where
  -- so far the queues of the stones below this number are open
  pub record OpenedSoFar (crew : Crew) (behind : ℕ) (rests : List Giver) (takes : List (Option Taker)) : Type 0 where
    pub long : length crew.queues.items ≡ behind
    pub rests_long : length rests ≡ behind
    pub takes_long : length takes ≡ length job.sources + behind
    pub rests_are : (stone : ℕ) (rest : Giver) → slice_get rests stone ≡ Some rest → IsRest crew job 0 stone rest
    pub takes_are : (actor : ℕ) (take : Option Taker) → slice_get takes actor ≡ Some take → IsTake crew job actor take

  pub opened_none : (crew : Crew) (rests : List Giver) (takes : List (Option Taker)) → crew.queues.items ≡ [] → rests ≡ []
      → AreNone (length job.sources) takes → OpenedSoFar crew 0 rests takes
  opened_none crew rests takes queues none are = record {
    long = ap length queues;
    rests_long = ap length none;
    takes_long = let long = are.long in omega arith;
    rests_are = λ stone rest at. absurd (let no = ap (λ (l : List Giver). slice_get l stone) none in cc);
    takes_are = λ actor take at.
        record {
          none = λ below. are.each actor take at;
          all = λ stone below is. absurd (let within = slice_get_within takes actor take at in let long = are.long in omega arith);
        };
  }

  module _ (crew later : Crew) (queue : StoneQueue Entry JobShape) (more : later.queues.items ≡ crew.queues.items ++ queue ∷ []) where
    wider : (stone : ℕ) (q : StoneQueue Entry JobShape) → slice_get crew.queues.items stone ≡ Some q
        → slice_get later.queues.items stone ≡ Some q
    wider stone q at =
        ap (λ (l : List (StoneQueue Entry JobShape)). slice_get l stone) more ∙ front_at crew.queues.items (queue ∷ []) stone q at

    wider_gives : (stone : ℕ) (pass : GivePass Entry JobShape) → GivesIn crew job stone pass → GivesIn later job stone pass
    wider_gives stone pass is = record {
      queue = is.queue;
      there = wider stone is.queue is.there;
      gives = is.gives;
      whole = is.whole;
    }

    wider_takes : (taker : Taker) → TakesIn crew job taker → TakesIn later job taker
    wider_takes taker is = record {
      queue = is.queue;
      there = wider taker.stone is.queue is.there;
      takes = is.takes;
      whole = is.whole;
    }

    wider_rest : (stone : ℕ) (rest : Giver) → IsRest crew job 0 stone rest → IsRest later job 0 stone rest
    wider_rest stone rest is =
        record { pass = is.pass; is = is.is; of = wider_gives stone is.pass is.of; counts = is.counts }

    wider_take : (actor : ℕ) (take : Option Taker) → IsTake crew job actor take → IsTake later job actor take
    wider_take actor take is = record {
      none = is.none;
      all = λ stone below at.
          let was = is.all stone below at in
          record {
            taker = was.taker;
            is = was.is;
            stone_is = was.stone_is;
            of = wider_takes was.taker was.of;
            counts = was.counts;
            alone = was.alone;
          };
    }

    module _ (behind : ℕ) (made : Queue) (rests : List Giver) (takes : List (Option Taker)) (one : IsQueueOf job behind made)
        (is : made.queue ≡ queue) (was : OpenedSoFar crew behind rests takes) where
      there : slice_get later.queues.items behind ≡ Some made.queue
      there =
          ap (λ (l : List (StoneQueue Entry JobShape)). slice_get l behind) more ∙ last_there crew.queues.items queue behind was.long
          ∙ ap (λ (q : StoneQueue Entry JobShape). Some q) (sym is)

      way : (route : Route) → last_stone route ≡ behind → IsWay job None behind route
      way route last = record { giver_is = λ number no. absurd (cc); target_is = last }

      rest_here : IsRest later job 0 behind (Some made.rest)
      rest_here = record {
        pass = made.rest;
        is = refl;
        of = record {
          queue = made.queue;
          there = there;
          gives = one.gives;
          whole = ap (λ (p : Progress JobShape). p.whole) one.given;
        };
        counts = λ number route at last from.
            ap (λ (p : Progress JobShape). count_at number p.counts) one.given
            ∙ zeroed_at number one.numbers (one.ways.all number route at (way route last));
      }

      takes_here : TakesAll later job behind (Some made.take)
      takes_here = record {
        taker = made.take;
        is = refl;
        stone_is = one.stone_is;
        of = record {
          queue = made.queue;
          there = ap (slice_get later.queues.items) one.stone_is ∙ there;
          takes = one.takes;
          whole = ap (λ (p : Progress JobShape). p.whole) one.taken;
        };
        counts = λ number in_list.
            let end = leads_there job behind number in_list in
            ap (λ (p : Progress JobShape). count_at number p.counts) one.taken
            ∙ zeroed_at number one.numbers (one.ways.all number end.route end.there (way end.route end.last));
        alone = λ number count at.
            let among = zeroed_among number count one.numbers (sym (ap (λ (p : Progress JobShape). count_at number p.counts) one.taken)
            ∙ at) in
            let route = one.ways.each number among in
            listed job behind number (record { route = route.0; there = route.1; last = route.2.target_is });
      }

      take_here : (actor : ℕ) → actor ≡ length job.sources + behind → IsTake later job actor (Some made.take)
      take_here actor at = record {
        none = λ below. absurd (omega arith);
        all = λ stone below at'.
            let same : behind ≡ stone = omega arith in subst (λ (s : ℕ). TakesAll later job s (Some made.take)) same takes_here;
      }

      pub opened_one : OpenedSoFar later (behind + 1) (rests ++ Some made.rest ∷ []) (takes ++ Some made.take ∷ [])
      opened_one = record {
        long = ap length more ∙ omega (arith, length-append crew.queues.items (queue ∷ []), was.long);
        rests_long = omega (arith, length-append rests (Some made.rest ∷ []), was.rests_long);
        takes_long = omega (arith, length-append takes (Some made.take ∷ []), was.takes_long);
        rests_are = λ stone rest at.
            ⊎_elim (λ e. wider_rest stone rest (was.rests_are stone rest e))
            (λ e. subst (λ (s : ℕ). IsRest later job 0 s rest) (sym (e.0 ∙ was.rests_long))
            (subst (IsRest later job 0 behind) e.1 rest_here))
            (snoc_at rests (Some made.rest) rest stone at);
        takes_are = λ actor take at.
            ⊎_elim (λ e. wider_take actor take (was.takes_are actor take e))
            (λ e. subst (IsTake later job actor) e.1 (take_here actor (e.0 ∙ was.takes_long)))
            (snoc_at takes (Some made.take) take actor at);
      }

  pub opened_rests : (crew : Crew) (behind : ℕ) (rests : List Giver) (takes : List (Option Taker)) → behind ≡ length job.stones
      → OpenedSoFar crew behind rests takes → AreRests crew job 0 rests
  opened_rests crew behind rests takes long was = record { count = was.rests_long ∙ long; each = was.rests_are }

  pub opened_takes : (crew : Crew) (behind : ℕ) (rests : List Giver) (takes : List (Option Taker)) → behind ≡ length job.stones
      → OpenedSoFar crew behind rests takes → AreTakes crew job 0 takes
  opened_takes crew behind rests takes long was = record {
    count = was.takes_long ∙ ap (λ (n : ℕ). length job.sources + n) long;
    each = λ actor take at from. was.takes_are actor take at;
  }

  -- the take pass of an actor is handed out
  pub takes_one : (crew : Crew) (actor : ℕ) (takes : List (Option Taker)) → AreTakes crew job actor takes
      → AreTakes crew job (actor + 1) (set takes actor None)
  takes_one crew actor takes are = record {
    count = length-set takes actor None ∙ are.count;
    each = λ a take at from.
        let apart : a ≢ actor = λ same. absurd (omega arith) in
        are.each a take (sym (set_elsewhere takes actor a None apart) ∙ at) (omega arith);
  }

  pub opening_none : (cells : Cells) (crew : Crew) (seats : List SeatShape) → seats ≡ [] → AreOpening job cells crew 0 seats
  opening_none cells crew seats none =
      subst (AreOpening job cells crew 0) (sym none) record { long = refl; each = λ number seat at. absurd (cc) }

  pub opening_one : (cells : Cells) (crew : Crew) (count : ℕ) (seats : List SeatShape) (seat : SeatShape)
      → IsOpening job cells crew count seat → AreOpening job cells crew count seats
      → AreOpening job cells crew (count + 1) (seats ++ seat ∷ [])
  opening_one cells crew count seats seat opens are = record {
    long = omega (arith, length-append seats (seat ∷ []), are.long);
    each = λ number s at.
        ⊎_elim (are.each number s)
        (λ e. subst (λ (n : ℕ). IsOpening job cells crew n s) (sym (e.0 ∙ are.long)) (subst (IsOpening job cells crew count) e.1 opens))
        (snoc_at seats seat s number at);
  }

pub none_one : (count : ℕ) (takes : List (Option Taker)) → AreNone count takes → AreNone (count + 1) (takes ++ None ∷ [])
none_one count takes are = record {
  long = omega (arith, length-append takes (None ∷ []), are.long);
  each = λ actor take at. ⊎_elim (are.each actor take) (λ e. sym e.1) (snoc_at takes None take actor at);
}

pub none_none : (takes : List (Option Taker)) → takes ≡ [] → AreNone 0 takes
none_none takes none = subst (AreNone 0) (sym none) record { long = refl; each = λ actor take at. absurd (cc) }
