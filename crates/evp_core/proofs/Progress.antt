-- Each turn that moves is one of those that entries have at most.
use Rattle.std.proofs.Common.{◌≡◌, ℕ, ◌+◌, ◌*◌, ◌≤◌, Bool, true, false, List, [], ◌∷◌, length, Option, Some, None, set}
use Rattle.std.proofs.Common.{refl, sym, ap, ◌∙◌, arith, inl, inr, length-append}
use Rattle.std.proofs.lemmas.List.Sums.{sum_by-set}
use Rattle.std.proofs.lemmas.Option.{get_or_from_slice_get, slice_get_within}
use Rattle.std.specs.List.{slice_get, sum, sum_by}
use Rattle.evp_stone.specs.declared.entry.Entry.{Entry}
use Rattle.evp_stone.specs.declared.entry.Entry.TheVariants.{Item, Mark}
use Rattle.evp_stone.specs.declared.turn.Turn.TheVariants.{Moved}
use Rattle.evp_stone.specs.Actor.{Role, feeds, works, ActorShape}
use Rattle.evp_stone.specs.Entries.{route_of, position_of}
use Rattle.evp_stone.specs.Feeding.{SourceWork, to_come}
use Rattle.evp_stone.specs.Flow.{Part}
use Rattle.evp_stone.specs.JobShape.{JobShape}
use Rattle.evp_stone.specs.Port.{OneMore}
use Rattle.evp_stone.specs.State.{Received, RouteWork, StoneWork}
use Rattle.evp_stone.specs.Turned.{Counted, RoleGoes, StoneGoes, SourceGoes, PartGoes}
use Rattle.evp_stone.specs.Turning.{HandTurn, Deals, turned, keeping, acted_on, round_ended}
use Rattle.evp_core.specs.Lists.{ListsShape, ListsGo, OneLeft, OneJoined, taken_on, given_on, left_by, joined_by}
use Rattle.evp_core.specs.Progress.{counted_turns, due_in_hand, due_of, due_turns}
use Rattle.evp_core.specs.WorldShape.{WorldShape, own_of}
use Rattle.evp_core.specs.WorldTurned.{WorldTurned, counts_before, counts_behind}
use Rattle.evp_core.proofs.Elements.{one_above}

pub sum_at : {X : Type 0} (f : X → ℕ) (xs : List X) (k : ℕ) (x y : X) → slice_get xs k ≡ Some x
    → sum_by f (set xs k y) + f x ≡ sum_by f xs + f y
sum_at f xs k x y at =
    ap (λ (z : _). sum_by f (set xs k y) + f z) (sym (get_or_from_slice_get xs k x x at))
    ∙ sum_by-set f xs k y x (slice_get_within xs k x at)

-- what a turn did to the lists: nothing, or an entry left one or joined one
module _ (own : Option ℕ) (old new : ListsShape) where
  left_counts : (stone : ℕ) (entry : Entry) → OneLeft old new stone entry → counted_turns new ≡ counted_turns old + 3
  left_counts stone entry left =
      let more = sum_at (λ (n : ℕ). n) old.taken (route_of entry) (position_of entry) (position_of entry + 1) left.count in
      let one : sum (left_by old stone entry left.others).taken ≡ sum old.taken + 1 = omega arith in
      ap counted_turns left.is ∙ (let e : sum old.given + 3 * sum (left_by old stone entry left.others).taken ≡ counted_turns old + 3 =
      omega arith in e)

  joined_counts : (stone : ℕ) (entry : Entry) → OneJoined old new stone entry → counted_turns new ≡ counted_turns old + 1
  joined_counts stone entry joined =
      let more = sum_at (λ (n : ℕ). n) old.given (route_of entry) (position_of entry) (position_of entry + 1) joined.count in
      let one : sum (joined_by old stone entry joined.others).given ≡ sum old.given + 1 = omega arith in
      ap counted_turns joined.is ∙ (let e : sum (joined_by old stone entry joined.others).given + 3 * sum old.taken ≡ counted_turns old +
      1 = omega arith in e)

  -- the count never falls
  pub no_fewer : ListsGo own old new → counted_turns old ≤ counted_turns new
  no_fewer (inl same) = let e = ap counted_turns same in omega arith
  no_fewer (inr (inl left)) = let e = left_counts left.0 left.2.0 left.2.1 in omega arith
  no_fewer (inr (inr joined)) = let e = joined_counts joined.0 joined.1 joined.2 in omega arith

  -- an entry that is given counts
  given_more : ListsGo own old new → (entry : Entry) → OneMore (given_on old) (given_on new) entry
      → counted_turns old + 1 ≤ counted_turns new
  given_more (inl same) entry more =
      absurd (one_above (position_of entry)
      (sym more.was ∙ ap (λ (l : ListsShape). given_on l (route_of entry)) (sym same) ∙ more.here))
  given_more (inr (inl left)) entry more = let e = left_counts left.0 left.2.0 left.2.1 in omega arith
  given_more (inr (inr joined)) entry more = let e = joined_counts joined.0 joined.1 joined.2 in omega arith

  -- and one that is taken counts for three
  taken_more : ListsGo own old new → (entry : Entry) → OneMore (taken_on old own) (taken_on new own) entry
      → counted_turns old + 3 ≤ counted_turns new
  taken_more (inl same) entry more =
      absurd (one_above (position_of entry)
      (sym more.was ∙ ap (λ (l : ListsShape). taken_on l own (route_of entry)) (sym same) ∙ more.here))
  taken_more (inr (inl left)) entry more = let e = left_counts left.0 left.2.0 left.2.1 in omega arith
  taken_more (inr (inr joined)) entry more =
      absurd (one_above (position_of entry)
      (sym more.was ∙ still own joined.0 joined.1 joined.2.others ∙ ap (λ (l : ListsShape). taken_on l own (route_of entry))
      (sym joined.2.is)
      ∙ more.here))
    where
      still : (o : Option ℕ) (stone : ℕ) (e : Entry) (others : List Entry)
          → taken_on old o (route_of entry) ≡ taken_on (joined_by old stone e others) o (route_of entry)
      still None stone e others = refl
      still (Some s) stone e others = refl

abbrev kept_in : List RouteWork → ℕ
kept_in list = sum_by (λ (here : RouteWork). length here.kept) list

-- what is due of a stone
abbrev due : StoneWork → ℕ
due work = due_in_hand work.hand + kept_in work.routes

-- on one route another work stands
turned_due : (old new : StoneWork) (waiting : List Entry) (hand : Option Entry) (place : ℕ) (here work : RouteWork)
    → slice_get old.routes place ≡ Some here → new ≡ turned old waiting hand place work
    → due new + length here.kept ≡ due_in_hand hand + kept_in old.routes + length work.kept
turned_due old new waiting hand place here work at is =
    let same = ap due is in
    let sums = sum_at (λ (w : RouteWork). length w.kept) old.routes place here work at in
    omega arith

in_hand_due : (work : StoneWork) (entry : Entry) → work.hand ≡ Some entry → due work ≡ 2 + kept_in work.routes
in_hand_due work entry hand = ap (λ (h : Option Entry). due_in_hand h + kept_in work.routes) hand

-- what is due falls where an entry in hand is dealt with
deals_less : (job : JobShape) (old new : StoneWork) (place : ℕ) (here : RouteWork) (frozen : Bool) (kept : List Received) (entry : Entry)
    → slice_get old.routes place ≡ Some here → old.hand ≡ Some entry → here.kept ≡ kept → Deals job old new place here frozen kept entry
    → due new + 1 ≤ due old
deals_less job old new place here true kept (Item route position index owned) at hand is deals =
    let was = in_hand_due old (Item route position index owned) hand in
    let after = turned_due old new [] None place here (keeping here (index, owned)) at deals in
    omega (arith, length-append here.kept ((index, owned) ∷ []))
deals_less job old new place here true kept (Mark route position round) at hand is deals =
    let was = in_hand_due old (Mark route position round) hand in
    let after = turned_due old new deals.waiting None place here (round_ended here deals.account) at deals.is in omega arith
deals_less job old new place here false (received ∷ kept) entry at hand is deals =
    let was = in_hand_due old entry hand in
    let after = turned_due old new deals.waiting (Some entry) place here (acted_on here deals.outlets kept deals.running) at deals.is in
    let one = ap (λ (l : List Received). length l) is in omega arith
deals_less job old new place here false [] (Item route position index owned) at hand is deals =
    let was = in_hand_due old (Item route position index owned) hand in
    let after = turned_due old new deals.waiting None place here (acted_on here deals.outlets [] deals.running) at deals.is in omega arith
deals_less job old new place here false [] (Mark route position round) at hand is deals =
    let was = in_hand_due old (Mark route position round) hand in
    let after = turned_due old new deals.waiting None place here (round_ended here deals.account) at deals.is in omega arith

module _ (lists after : ListsShape) (own : Option ℕ) (go : ListsGo own lists after) where
  abbrev job : JobShape
  job = lists.job

  abbrev before : Counted
  before = counts_before lists own

  abbrev behind : Counted
  behind = counts_behind lists after own

  -- a turn that moves brings more counts than due turns
  abbrev Falls : Role → Role → Type 0
  Falls old new = counted_turns lists + due_of new + 1 ≤ counted_turns after + due_of old

  part_falls : (old new : SourceWork) (part : Part) → PartGoes job before behind old new part Moved → Falls (feeds old) (feeds new)
  part_falls old new part goes = let more = given_more own lists after go goes.0.0 goes.0.1.given in omega arith

  source_falls : (old new : SourceWork) (parts : List Part) → SourceGoes job before behind old new parts Moved
      → Falls (feeds old) (feeds new)
  source_falls old new [] goes = absurd goes
  source_falls old new (part ∷ parts) goes = part_falls old new part goes

  stone_falls : (old new : StoneWork) (unended still : ℕ) (waiting : List Entry) (hand : Option Entry) → old.hand ≡ hand
      → StoneGoes job before behind old new waiting hand Moved → Falls (works old unended) (works new still)
  stone_falls old new unended still (entry ∷ others) hand is goes =
      let more = given_more own lists after go entry goes.0.given in
      let same = ap due goes.1 in omega arith
  stone_falls old new unended still [] (Some entry) is goes =
      let h : HandTurn job old new entry = goes.1 in
      let fewer = no_fewer own lists after go in
      let less = deals_less job old new h.place h.here _ h.here.kept entry h.at is refl h.deals in omega arith
  stone_falls old new unended still [] None is goes =
      let more = taken_more own lists after go goes.1.0 goes.1.1.taken in
      let same = ap due goes.1.2 in
      let was = ap (λ (h : Option Entry). due_in_hand h + kept_in old.routes) is in omega arith

  role_falls : (old new : Role) → RoleGoes job before behind old new Moved → Falls old new
  role_falls (feeds old) (feeds new) goes = source_falls old new (to_come job old) goes
  role_falls (feeds old) (works new unended) goes = absurd goes
  role_falls (works old unended) (feeds new) goes = absurd goes
  role_falls (works old unended) (works new still) goes = stone_falls old new unended still old.waiting old.hand refl goes

-- each turn that moves is counted
pub moved_counts : (old new : WorldShape) (number : ℕ) → WorldTurned old new number Moved
    → counted_turns old.lists + due_turns new.actors + 1 ≤ counted_turns new.lists + due_turns old.actors
moved_counts old new number turned =
    let falls = role_falls old.lists turned.after (own_of turned.was.role) turned.lists turned.was.role turned.now.role
    turned.turned.role in
    let sums = sum_at (λ (a : ActorShape). due_of a.role) old.actors number turned.was turned.now turned.there in
    let lists = ap (λ (w : WorldShape). counted_turns w.lists) turned.is in
    let actors = ap (λ (w : WorldShape). due_turns w.actors) turned.is in
    omega arith
