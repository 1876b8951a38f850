-- Lists of entries, as the code has them: one list changes.
use Rattle.std.proofs.Common.{◌≡◌, ℕ, zero, suc, ◌<◌, ◌≤◌, List, [], ◌∷◌, ◌++◌, length, Option, Some, None, set, get_or}
use Rattle.std.proofs.Common.{refl, sym, ap, subst, ◌∙◌, arith, rules}
use Rattle.std.proofs.lemmas.Option.{slice_get-map, slice_get-get_or, same_Some}
use Rattle.std.proofs.Math.Seq.{map-set_same}
use Rattle.std.proofs.lemmas.List.{map-set}
use Rattle.std.specs.Prelude.{IfSome, IfNone, IsSome, option_to_list}
use Rattle.std.proofs.lemmas.Bool.{false≢true}
use Rattle.std.specs.List.{slice_get, AllByRecursion}
use Rattle.std.specs.VecDeque.{deque_len, deque_capacity}
use Rattle.std.specs.declared.collections.VecDeque.{VecDeque}
use Rattle.std.specs.declared.alloc.Global.{Global}
use Rattle.evp_stone.specs.declared.entry.Entry.{Entry}
use Rattle.evp_core.specs.Lists.{entries_in, rooms_of, HasRoomAt, IsPopped, IsPushed}

abbrev Deque : Type 0
Deque = VecDeque Entry Global

abbrev none_of : (X : Type 0) → Option X
none_of X = None

module _ (lists : List Deque) (place : ℕ) (old new : Deque) (is : old ≡ get_or lists place old) (within : place < length lists) where
  there : slice_get lists place ≡ Some old
  there = slice_get-get_or lists place old within ∙ ap Some (sym is)

  entries_there : slice_get (entries_in lists) place ≡ Some old.items
  entries_there = slice_get-map (λ (d : Deque). d.items) lists place ∙ rw there refl

  pub set_entries : entries_in (set lists place new) ≡ set (entries_in lists) place new.items
  set_entries = map-set (λ (d : Deque). d.items) lists place new

  pub same_rooms : deque_capacity new ≡ deque_capacity old → rooms_of (set lists place new) ≡ rooms_of lists
  same_rooms same =
      map-set_same (λ (d : Deque). deque_capacity d) lists place new old (same ∙ ap (λ (d : Deque). deque_capacity d) is)

  -- the first entry has left
  pub popped : (entry : Entry) → old.items ≡ entry ∷ new.items → IsPopped (entries_in lists) (entries_in (set lists place new)) place entry
  popped entry items = record {
    others = new.items;
    was = entries_there ∙ ap Some items;
    is = set_entries;
  }

  -- there was none
  pub was_empty : old.items ≡ [] → slice_get (entries_in lists) place ≡ Some []
  was_empty none = entries_there ∙ ap Some none

  pub still_same : new.items ≡ old.items → entries_in (set lists place new) ≡ entries_in lists
  still_same same =
      map-set_same (λ (d : Deque). d.items) lists place new old (same ∙ ap (λ (d : Deque). d.items) is)

  -- one entry has joined
  pub pushed : (entry : Entry) → new.items ≡ old.items ++ entry ∷ [] → IsPushed (entries_in lists) (entries_in (set lists place new))
      place entry
  pushed entry items = record {
    others = old.items;
    was = entries_there;
    is = set_entries ∙ ap (λ (l : List Entry). set (entries_in lists) place l) items;
  }

  -- by whether there was one
  pub if_popped : (result : Option Entry) → old.items ≡ option_to_list result ++ new.items
      → IfSome result (IsPopped (entries_in lists) (entries_in (set lists place new)) place)
  if_popped None items = tt
  if_popped (Some entry) items = popped entry items

  pub if_empty : (result : Option Entry) → old.items ≡ option_to_list result ++ new.items → (0 < length old.items → IsSome result)
      → IfNone result (slice_get (entries_in lists) place ≡ Some [])
  if_empty None items some = was_empty (none_in old.items some)
    where
      none_in : (entries : List Entry) → (0 < length entries → IsSome (none_of Entry)) → entries ≡ []
      none_in [] some = refl
      none_in (e ∷ entries) some = absurd (false≢true (some (omega arith)))
  if_empty (Some entry) items some = tt

  pub if_same : (result : Option Entry) → old.items ≡ option_to_list result ++ new.items
      → IfNone result (entries_in (set lists place new) ≡ entries_in lists)
  if_same None items = still_same (sym items)
  if_same (Some entry) items = tt

-- there is room for so many entries at each place
pub room_at : (queue : ℕ) (lists : List Deque) → AllByRecursion (λ (room : ℕ). queue ≤ room) (rooms_of lists) → (place : ℕ) (list : Deque)
    → slice_get lists place ≡ Some list → queue ≤ deque_capacity list
room_at queue [] all place list at = absurd (cc)
room_at queue (l ∷ lists) all zero list at =
    let same : l ≡ list = cc in subst (λ (d : Deque). queue ≤ deque_capacity d) same all.0
room_at queue (l ∷ lists) all (suc place) list at = room_at queue lists all.1 place list at

deque_long : (list : Deque) → deque_len list ≡ length list.items
deque_long list = search rules

entries_at : (lists : List Deque) (place : ℕ) (list : Deque) → slice_get lists place ≡ Some list
    → slice_get (entries_in lists) place ≡ Some list.items
entries_at lists place list at = slice_get-map (λ (d : Deque). d.items) lists place ∙ rw at refl

-- and so for one more, where fewer are there
pub has_room_at : (queue : ℕ) (lists : List Deque) → AllByRecursion (λ (room : ℕ). queue ≤ room) (rooms_of lists) → (place count : ℕ)
    → ((entries : List Entry) → slice_get (entries_in lists) place ≡ Some entries → count ≡ length entries) → count < queue
    → HasRoomAt lists place
has_room_at queue lists all place count counts fewer list at =
    let room = room_at queue lists all place list at in
    let long = deque_long list in
    let same = counts list.items (entries_at lists place list at) in
    omega arith

-- a count of a list's entries
pub count_at : (lists : List Deque) (place : ℕ) (old : Deque) (count : ℕ) → old ≡ get_or lists place old → place < length lists
    → count ≡ deque_len old → (entries : List Entry) → slice_get (entries_in lists) place ≡ Some entries → count ≡ length entries
count_at lists place old count is within same entries at =
    let here = slice_get-get_or lists place old within ∙ ap Some (sym is) in
    let items : old.items ≡ entries = same_Some old.items entries (sym (entries_at lists place old here) ∙ at) in
    same ∙ deque_long old ∙ ap (λ (l : List Entry). length l) items
