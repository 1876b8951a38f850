-- What a mask of several elements picks: each element by the places of one.
use Rattle.std.proofs.Common.{◌≡◌, ℕ, zero, suc, ◌+◌, ◌*◌, ◌<◌, ◌≤◌, ◌⊎◌, true, List, [], ◌∷◌, ◌++◌, length, take}
use Rattle.std.proofs.Common.{drop, map, get_or, sym, refl, ap, ◌∙◌, ⊎_elim, suc-mul, zero-add, drop-drop, arith}
use Rattle.std.proofs.Common.{append_assoc, length-append, length-take, length-drop, mul-le-mul_left, mul-le-mul_right, add-mul}
use Rattle.std.proofs.Common.{le_of_mul-le-mul_right}
use Rattle.std.proofs.lemmas.Bool.Decides.{nat_tests}
use Rattle.std.proofs.lemmas.List.{get_or-take, get_or-drop, map-append, length-map, take-append-le, append-nil}
use Rattle.std.proofs.lemmas.Slice.{take-put_mid}
use borrow.Rule.Slice.PartMut.{put_mid}
use Rattle.std.proofs.Math.Seq.{take-length}
use Rattle.std.proofs.lemmas.List.Concat.{flat_map-append}
use Rattle.std.specs.List.{flat_map}
use Rattle.evp_wide.specs.Groups.{groups}
use Rattle.evp_wide.specs.Gathered.{picked, gathered, ArePlaces}
use Rattle.evp_wide.specs.Masks.{are_within, later, repeated}

first_within : (bound place : ℕ) (places : List ℕ) → are_within bound (place ∷ places) ≡ true → (place < bound) ⊎ (128 ≤ place)
first_within bound place places is = grind (arith, nat_tests)

others_within : (bound place : ℕ) (places : List ℕ) → are_within bound (place ∷ places) ≡ true → are_within bound places ≡ true
others_within bound place places is = grind (arith, nat_tests)

wider : (bound more : ℕ) (places : List ℕ) → bound ≤ more → are_within bound places ≡ true → are_within more places ≡ true
wider bound more [] le is = refl
wider bound more (place ∷ places) le is =
    let first = first_within bound place places is in
    let others = wider bound more places le (others_within bound place places is) in grind (arith, nat_tests)

joined : (bound : ℕ) (a b : List ℕ) → are_within bound a ≡ true → are_within bound b ≡ true → are_within bound (a ++ b) ≡ true
joined bound [] b front back = back
joined bound (place ∷ a) b front back =
    let first = first_within bound place a front in
    let others = joined bound a b (others_within bound place a front) back in grind (arith, nat_tests)

moved_on : (bound width : ℕ) (places : List ℕ) → bound + width ≤ 16 → are_within bound places ≡ true
    → are_within (bound + width) (map (later width) places) ≡ true
moved_on bound width [] room is = refl
moved_on bound width (place ∷ places) room is =
    let first = first_within bound place places is in
    let others = moved_on bound width places room (others_within bound place places is) in grind (arith, nat_tests)

pub within_repeated : (count width : ℕ) (places : List ℕ) → count * width ≤ 16 → are_within width places ≡ true
    → are_within (count * width) (repeated count width places) ≡ true
within_repeated zero width places room is = refl
within_repeated (suc count) width places room is =
    let more = suc-mul count width in
    let rest = within_repeated count width places (omega arith) is in
    rw more (joined (count * width + width) places (map (later width) (repeated count width places))
    (wider width (count * width + width) places (omega arith) is)
    (moved_on (count * width) width (repeated count width places) (omega arith) rest))

pub places_of : (bound : ℕ) (mask : List ℕ) → bound ≤ 16 → are_within bound mask ≡ true → ArePlaces mask
places_of bound [] room is k d below = absurd (omega arith)
places_of bound (place ∷ mask) room is zero d below = let first = first_within bound place mask is in grind arith
places_of bound (place ∷ mask) room is (suc k) d below = places_of bound mask room (others_within bound place mask is) k d (omega arith)

one_later : (width bound place : ℕ) (bytes : List ℕ) → bound + width ≤ 16 → (place < bound) ⊎ (128 ≤ place)
    → picked bytes (later width place) ≡ picked (drop width bytes) place
one_later width bound place bytes room is =
    let same = get_or-drop width bytes place 0 in
    let on : place + width ≡ width + place = omega arith in
    let moved = ap (λ k. get_or bytes k 0) on in grind (arith, nat_tests)

all_later : (width bound : ℕ) (places bytes : List ℕ) → bound + width ≤ 16 → are_within bound places ≡ true
    → gathered (map (later width) places) bytes ≡ gathered places (drop width bytes)
all_later width bound [] bytes room is = refl
all_later width bound (place ∷ places) bytes room is =
    let first = one_later width bound place bytes room (first_within bound place places is) in
    let others = all_later width bound places bytes room (others_within bound place places is) in
    λ i. first i ∷ others i

one_near : (width place : ℕ) (bytes : List ℕ) → width ≤ 16 → (place < width) ⊎ (128 ≤ place) → picked bytes place
    ≡ picked (take width bytes) place
one_near width place bytes room is =
    ⊎_elim (λ below. let same = get_or-take width bytes place 0 below in grind (arith, nat_tests)) (λ none. grind (arith, nat_tests)) is

all_near : (width : ℕ) (places bytes : List ℕ) → width ≤ 16 → are_within width places ≡ true → gathered places bytes
    ≡ gathered places (take width bytes)
all_near width [] bytes room is = refl
all_near width (place ∷ places) bytes room is =
    let first = one_near width place bytes room (first_within width place places is) in
    let others = all_near width places bytes room (others_within width place places is) in
    λ i. first i ∷ others i

-- a mask of several elements picks each of them
pub each_gathered : (count width : ℕ) (places bytes : List ℕ) → count * width ≤ 16 → are_within width places ≡ true
    → gathered (repeated count width places) bytes ≡ flat_map (gathered places) (groups width count bytes)
each_gathered zero width places bytes room is = refl
each_gathered (suc count) width places bytes room is =
    let more = suc-mul count width in
    let rest = repeated count width places in
    map-append (picked bytes) places (map (later width) rest)
    ∙ ap (λ l. l ++ gathered (map (later width) rest) bytes) (all_near width places bytes (omega arith) is)
    ∙ ap (λ l. gathered places (take width bytes) ++ l)
    (all_later width (count * width) rest bytes (omega arith) (within_repeated count width places (omega arith) is)
    ∙ each_gathered count width places (drop width bytes) (omega arith) is)

pub room_for : (count out_size from_size : ℕ) → count * out_size ≡ 16 → from_size ≤ out_size → count * from_size ≤ 16
room_for count out_size from_size whole shorter =
    let le : count * from_size ≤ count * out_size = mul-le-mul_left count shorter in omega arith

-- groups, and further ones
pub groups-add : (size a b : ℕ) (bytes : List ℕ) → groups size (a + b) bytes ≡ groups size a bytes
    ++ groups size b (drop (a * size) bytes)
groups-add size zero b bytes = let none : 0 * size ≡ 0 = omega arith in rw (zero-add b, none)
groups-add size (suc a) b bytes =
    let on : suc a + b ≡ suc (a + b) = omega arith in
    let more = suc-mul a size in
    rw on (ap (λ l. take size bytes ∷ l) (groups-add size a b (drop size bytes)
    ∙ ap (λ l. groups size a (drop size bytes) ++ groups size b l)
    (drop-drop (a * size) size bytes ∙ ap (λ n. drop n bytes) (omega arith))))

-- one block more: its elements stand behind those that were made
pub block_made : (out out' from mask places : List ℕ) (from_size count done out_at from_at : ℕ)
    → mask ≡ repeated count from_size places → are_within from_size places ≡ true → count * from_size ≤ 16 → length mask ≡ 16
    → out_at + 16 ≤ length out → from_at ≡ done * from_size
    → take out_at out ≡ flat_map (gathered places) (groups from_size done from)
    → out' ≡ take out_at out ++ (gathered mask (drop from_at from) ++ drop (out_at + 16) out)
    → take (out_at + 16) out' ≡ flat_map (gathered places) (groups from_size (done + count) from)
block_made out out' from mask places from_size count done out_at from_at repeats within room long fits place made is =
    let block = gathered mask (drop from_at from) in
    let front = take out_at out ++ block in
    let sixteen : length block ≡ 16 = length-map mask (picked (drop from_at from)) ∙ long in
    let length_is : length front ≡ out_at + 16 = length-append (take out_at out) block ∙ omega (arith, length-take out_at out) in
    let elements : block ≡ flat_map (gathered places) (groups from_size count (drop (done * from_size) from)) =
    ap (λ m. gathered m (drop from_at from)) repeats ∙ each_gathered count from_size places (drop from_at from) room within
    ∙ ap (λ n. flat_map (gathered places) (groups from_size count (drop n from))) place in
    ap (take (out_at + 16)) (is ∙ sym (append_assoc (take out_at out) block (drop (out_at + 16) out)))
    ∙ ap (λ n. take n (front ++ drop (out_at + 16) out)) (sym length_is)
    ∙ take-append-le (length front) front (drop (out_at + 16) out) (omega arith) ∙ take-length front
    ∙ ap (λ l. l ++ block) made
    ∙ ap (λ l. flat_map (gathered places) (groups from_size done from) ++ l) elements
    ∙ sym (flat_map-append (gathered places) (groups from_size done from) (groups from_size count (drop (done * from_size) from)))
    ∙ ap (flat_map (gathered places)) (sym (groups-add from_size done count from))

pub small : (count out_size : ℕ) → count * out_size ≡ 16 → out_size ≤ 16
small zero out_size whole = absurd (omega arith)
small (suc count) out_size whole = let more = suc-mul count out_size in omega arith

-- one element more: it stands behind those that were made
pub element_made : (f : List ℕ → List ℕ) (out part from : List ℕ) (out_size from_size element number k : ℕ)
    → length out ≡ number * out_size → element < number
    → part ≡ f (take from_size (drop (element * from_size) from)) → length part ≡ out_size
    → take (element * out_size) out ≡ flat_map f (groups from_size element from)
    → take ((element + 1) * out_size) (put_mid (element * out_size) k out part) ≡ flat_map f (groups from_size (element + 1) from)
element_made f out part from out_size from_size element number k long below is part_long made =
    let next : suc element * out_size ≤ number * out_size = mul-le-mul_right out_size below in
    let more = suc-mul element out_size in
    let place = add-mul element 1 out_size in
    let new = take from_size (drop (element * from_size) from) in
    take-put_mid (element * out_size) k out part ((element + 1) * out_size) (omega arith) (omega arith)
    ∙ ap (λ l. l ++ part) made
    ∙ ap (λ l. flat_map f (groups from_size element from) ++ l) (is ∙ sym (append-nil (f new)))
    ∙ sym (flat_map-append f (groups from_size element from) (new ∷ []))
    ∙ ap (flat_map f) (sym (groups-add from_size element 1 from))

-- the room of one element
pub element_long : (out : List ℕ) (size element number k : ℕ) → length out ≡ number * size → element < number → k ≡ size
    → length (take k (drop (element * size) out)) ≡ size
element_long out size element number k long below is =
    let next : suc element * size ≤ number * size = mul-le-mul_right size below in
    let more = suc-mul element size in
    omega (arith, length-take k (drop (element * size) out), length-drop (element * size) out)

-- what one element of a mask picks into a part of the answer
pub part_picked : (out part from mask : List ℕ) (out_size from_size count element number k j : ℕ)
    → length out ≡ number * out_size → element < number → k ≡ out_size → j ≡ from_size → count * out_size ≡ 16 → length mask ≡ 16
    → part ≡ gathered (take (length (take k (drop (element * out_size) out))) mask) (take j (drop (element * from_size) from))
    → (part ≡ gathered (take out_size mask) (take from_size (drop (element * from_size) from))) × (length part ≡ out_size)
part_picked out part from mask out_size from_size count element number k j long below k_is j_is whole sixteen is =
    let next : suc element * out_size ≤ number * out_size = mul-le-mul_right out_size below in
    let more = suc-mul element out_size in
    let held = element_long out out_size element number k long below k_is in
    let few = small count out_size whole in
    let now : part ≡ gathered (take out_size mask) (take from_size (drop (element * from_size) from)) =
    is ∙ ap (λ n. gathered (take n mask) (take j (drop (element * from_size) from))) held
    ∙ ap (λ n. gathered (take out_size mask) (take n (drop (element * from_size) from))) j_is in (
      now,
      ap length now ∙ length-map (take out_size mask) (picked (take from_size (drop (element * from_size) from)))
          ∙ omega (arith, length-take out_size mask),
    )

-- two functions that agree on elements agree on all of them
pub same_groups : (P : List ℕ → Type 0) (f g : List ℕ → List ℕ) (size count : ℕ) (bytes : List ℕ)
    → ((n : ℕ) (l : List ℕ) → P l → P (take n l)) → ((n : ℕ) (l : List ℕ) → P l → P (drop n l))
    → ((e : List ℕ) → length e ≡ size → P e → f e ≡ g e) → count * size ≤ length bytes → P bytes
    → flat_map f (groups size count bytes) ≡ flat_map g (groups size count bytes)
same_groups P f g size zero bytes front back same room all = refl
same_groups P f g size (suc count) bytes front back same room all =
    let more = suc-mul count size in
    let long : length (take size bytes) ≡ size = omega (arith, length-take size bytes) in
    let first = same (take size bytes) long (front size bytes all) in
    let others = same_groups P f g size count (drop size bytes) front back same (omega (arith, length-drop size bytes))
    (back size bytes all) in
    ap (λ l. l ++ flat_map f (groups size count (drop size bytes))) first ∙ ap (λ l. g (take size bytes) ++ l) others

pub no_more : (element number out_size : ℕ) → 0 < out_size → element * out_size ≤ number * out_size → element ≤ number
no_more element number out_size some within = le_of_mul-le-mul_right within some
