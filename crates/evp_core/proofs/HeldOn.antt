-- A turn keeps what a world keeps.
use Rattle.std.proofs.Common.{◌≡◌, ◌≢◌, ◌⊎◌, ℕ, ◌+◌, ◌<◌, ◌≤◌, List, length, Option, Some, None, set, refl, sym, ap, subst, ◌∙◌, arith}
use Rattle.std.proofs.Common.{inl, inr}
use Rattle.std.proofs.lemmas.Option.{slice_get-get_or}
use Rattle.std.specs.Prelude.{get_or}
use Rattle.std.specs.List.{slice_get}
use Rattle.std.proofs.lemmas.Bool.Decides.{nat_tests}
use Rattle.evp_cache.specs.Known.{Cells, IsCacheOf}
use Rattle.evp_stone.specs.declared.turn.Turn.{Turn}
use Rattle.evp_stone.specs.declared.turn.Turn.TheVariants.{Moved, Idle, Blocked, Closed, Memory}
use Rattle.evp_stone.specs.Actor.{Role, feeds, works, ActorShape, HasActed}
use Rattle.evp_stone.specs.Job.{IsJob}
use Rattle.evp_stone.specs.JobShape.{JobShape}
use Rattle.evp_stone.specs.Opening.{IsNumbered}
use Rattle.evp_stone.specs.Turned.{counted, HasTurned}
use Rattle.evp_core.specs.declared.reach.Reach.{Reach}
use Rattle.evp_core.specs.Held.{IsHeld, world_of}
use Rattle.evp_core.specs.Lists.{ListsShape, HasLists, ListsGo, taken_on, given_on}
use Rattle.evp_core.specs.Owned.{own_at}
use Rattle.evp_core.specs.Progress.{counted_turns, due_of, due_turns, IsCounted}
use Rattle.evp_core.specs.Reach.{Moves, taken, given, empties, fulls}
use Rattle.evp_core.specs.WorldShape.{WorldShape, own_of}
use Rattle.evp_core.specs.WorldTurned.{WorldTurned, counts_before, counts_behind, done_by}
use Rattle.evp_core.proofs.Keeps.{turn_keeps, lists_job}
use Rattle.evp_core.proofs.ListsKeep.{left_keeps, joined_keeps}
use Rattle.evp_core.proofs.PartsTurn.{same_own, lists_go, turned_so}
use Rattle.evp_core.proofs.Progress.{moved_counts, no_fewer, sum_at}
use Rattle.evp_core.proofs.Rests.{role_rests, same_due}

source_own : (sources number : ℕ) → number < sources → None ≡ own_at sources number
source_own sources number below = grind (arith, nat_tests)

stone_own : (sources number stone : ℕ) → number ≡ sources + stone → Some stone ≡ own_at sources number
stone_own sources number stone same = grind (arith, nat_tests)

-- whose number an actor has says from whose list it takes
pub own_is : (job : JobShape) (number : ℕ) (role : Role) → IsNumbered job number role → own_of role ≡ own_at (length job.sources) number
own_is job number (feeds work) is = source_own (length job.sources) number is.0
own_is job number (works work unended) is = stone_own (length job.sources) number work.stone is.1

-- each list keeps its rule
pub lists_keep : (own : Option ℕ) (old new : ListsShape) → HasLists old → ListsGo own old new → HasLists new
lists_keep own old new has (inl same) = subst HasLists (sym same) has
lists_keep own old new has (inr (inl (stone, of, (entry, left)))) =
    subst HasLists (sym left.is) (left_keeps old has stone entry left.others left.was)
lists_keep own old new has (inr (inr (stone, entry, joined))) =
    subst HasLists (sym joined.is) (joined_keeps old has stone entry joined.others joined.was joined.room joined.leads joined.count
    joined.placed)

module _ (old new : WorldShape) (number : ℕ) (turn : Turn) (turned : WorldTurned old new number turn) where
  -- a turn that doesn't move leaves as many turns
  pub rest_counts : turn ≢ Moved → (due_turns new.actors ≡ due_turns old.actors) × (counted_turns old.lists ≤ counted_turns new.lists)
  rest_counts rests =
      let work = (role_rests old.lists.job (counts_before old.lists (own_of turned.was.role))
      (counts_behind old.lists turned.after (own_of turned.was.role)) turned.was.role turned.now.role turn rests turned.turned.role).1 in
      let due = same_due turned.was.role turned.now.role work in
      let sums = sum_at (λ (a : ActorShape). due_of a.role) old.actors number turned.was turned.now turned.there in
      let actors = ap (λ (w : WorldShape). due_turns w.actors) turned.is in
      let fewer = no_fewer (own_of turned.was.role) old.lists turned.after turned.lists in
      let lists = ap (λ (w : WorldShape). counted_turns w.lists) turned.is in
      (omega arith, omega arith)

  counted_rest : turn ≢ Moved → IsCounted old → IsCounted new
  counted_rest rests was = let c = rest_counts rests in let due = c.0 in let count = c.1 in omega arith

counted_on : (old new : WorldShape) (number : ℕ) (turn : Turn) → WorldTurned old new number turn → IsCounted old → IsCounted new
counted_on old new number Moved turned was = let more = moved_counts old new number turned in omega arith
counted_on old new number Idle turned was = counted_rest old new number Idle turned (λ e. cc) was
counted_on old new number (Blocked target) turned was = counted_rest old new number (Blocked target) turned (λ e. cc) was
counted_on old new number Closed turned was = counted_rest old new number Closed turned (λ e. cc) was
counted_on old new number Memory turned was = counted_rest old new number Memory turned (λ e. cc) was

pub turned_job : (old new : WorldShape) (number : ℕ) (turn : Turn) → WorldTurned old new number turn → new.lists.job ≡ old.lists.job
turned_job old new number turn turned =
    ap (λ (w : WorldShape). w.lists.job) turned.is ∙ lists_job (own_of turned.was.role) old.lists turned.after turned.lists

-- a turn keeps what a world keeps
pub held_on : (old new : WorldShape) (number : ℕ) (turn : Turn) (turned : WorldTurned old new number turn) → IsHeld old
    → HasActed old.lists.job old.cells (taken_on turned.after (own_of turned.was.role)) (given_on turned.after) turned.now → IsHeld new
held_on old new number turn turned held acted =
    let job = turned_job old new number turn turned in
    let cells : new.cells ≡ old.cells = ap (λ (w : WorldShape). w.cells) turned.is in
    record {
      job = subst IsJob (sym job) held.job;
      rules = turn_keeps old held.rules new number turn turned
          (lists_keep (own_of turned.was.role) old.lists turned.after held.rules.lists turned.lists) acted;
      cache = subst (λ (c : Cells). IsCacheOf c new.lists.job.formats) (sym cells)
          (subst (λ (j : JobShape). IsCacheOf old.cells j.formats) (sym job) held.cache);
      declared = ap (λ (c : Cells). c.declared) cells ∙ held.declared ∙ ap (λ (j : JobShape). j.declared) (sym job);
      counted = counted_on old new number turn turned held.counted;
    }

-- the count of turns doesn't matter
pub shifted : (cells : Cells) (lists after : ListsShape) (actors later : List ActorShape) (done : ℕ) (number : ℕ) (turn : Turn)
    → WorldTurned (world_of cells lists actors 0) (world_of cells after later (done_by turn 0)) number turn
    → WorldTurned (world_of cells lists actors done) (world_of cells after later (done_by turn done)) number turn
shifted cells lists after actors later done number turn turned = record {
  was = turned.was;
  now = turned.now;
  after = turned.after;
  there = turned.there;
  lists = turned.lists;
  turned = turned.turned;
  is = ap (λ (w : WorldShape). world_of cells w.lists w.actors (done_by turn done)) turned.is;
}

-- the actor of this number, its lists and its port, before and behind its turn
module _ (cells : Cells) (lists : ListsShape) (actors : List ActorShape) (held : IsHeld (world_of cells lists actors 0)) (number : ℕ)
    (was : ActorShape) (is : was ≡ get_or actors number was) (within : number < length actors) (job : JobShape) (of : job ≡ lists.job)
    (old : Reach) (same : old.lists ≡ lists) (own : old.own ≡ own_at (length lists.job.sources) number) where
  abbrev world : WorldShape
  world = world_of cells lists actors 0

  there : slice_get actors number ≡ Some was
  there = slice_get-get_or actors number was within ∙ ap Some (sym is)

  own_so : old.own ≡ own_of was.role
  own_so = own ∙ sym (own_is lists.job number was.role (held.rules.numbered number was there))

  pub may_turn : HasActed job cells (taken old) (given old) was
  may_turn =
      let acted : HasActed lists.job cells (taken_on lists (own_of was.role)) (given_on lists) was = held.rules.acted number was there in
      subst (λ (j : JobShape). HasActed j cells (taken old) (given old) was) (sym of)
      (subst (λ (l : ListsShape). HasActed lists.job cells (taken_on l old.own) (given_on l) was) (sym same)
      (subst (λ (o : Option ℕ). HasActed lists.job cells (taken_on lists o) (given_on lists) was) (sym own_so) acted))

  module _ (none : old.empties ≡ 0) (no_fulls : old.fulls ≡ 0) (new : Reach) (moved : (new ≡ old) ⊎ Moves old new) (now : ActorShape)
      (turn : Turn)
      (turned : HasTurned job (counted (taken old) (given old) (empties old) (fulls old))
      (counted (taken new) (given new) (empties new) (fulls new)) was now turn)
      (acted : HasActed job cells (taken new) (given new) now) where
    abbrev later : WorldShape
    later = world_of cells new.lists (set actors number now) (done_by turn 0)

    pub world_turned : WorldTurned world later number turn
    world_turned = record {
      was = was;
      now = now;
      after = new.lists;
      there = there;
      lists = subst (λ (l : ListsShape). ListsGo (own_of was.role) l new.lists) same
          (subst (λ (o : Option ℕ). ListsGo o old.lists new.lists) own_so (lists_go old new none no_fulls moved));
      turned = subst (λ (j : JobShape). HasTurned j (counts_before lists (own_of was.role))
          (counts_behind lists new.lists (own_of was.role)) was now turn) of
          (subst (λ (l : ListsShape). HasTurned job (counts_before l (own_of was.role)) (counts_behind l new.lists (own_of was.role)) was
          now turn) same
          (turned_so old new none no_fulls moved job was now turn (own_of was.role) own_so turned));
      is = refl;
    }

    pub world_held : IsHeld later
    unfolding world_turned
    world_held = held_on world later number turn world_turned held
        (subst (λ (o : Option ℕ). HasActed lists.job cells (taken_on new.lists o) (given_on new.lists) now)
        (same_own old new none no_fulls moved ∙ own_so)
        (subst (λ (j : JobShape). HasActed j cells (taken new) (given new) now) of acted))
