-- The compiled steps read inside a sender's record.
use Rattle.std.proofs.Common.{◌≡◌, ℕ, zero, suc, ◌+◌, ◌*◌, ◌<◌, ◌≤◌, ℤ, pos, negsuc, Bool, true, false, ◌||◌, not, nat_lt, nat_eq, List}
use Rattle.std.proofs.Common.{[], ◌∷◌, ◌++◌, length, drop, Option, Some, None, refl, sym, ap, ◌∙◌, subst, arith, rules}
use Rattle.std.specs.Prelude.{slice_get, IsSome, ⊤}
use Rattle.std.proofs.Math.Nat.{mul-le-mul_left}
use Rattle.std.proofs.lemmas.Bool.Decides.{nat_tests}
use Rattle.evp_format.specs.declared.broken.Broken.TheVariants.{NullList, BlockPlace}
use Rattle.evp_format.specs.declared.field.Field.{Field}
use Rattle.evp_format.specs.declared.field.Shape.{Shape}
use Rattle.evp_format.specs.declared.field.Shape.TheVariants.{One, Fixed, Counted}
use Rattle.evp_format.specs.declared.place.PlaceStep.{PlaceStep}
use Rattle.evp_format.specs.declared.place.PlaceStep.TheVariants.{Nth}
use Rattle.evp_format.specs.Clashing.{branch_named, clash_partners, clash_branches, clash_parts}
use Rattle.evp_format.specs.Datum.{Datum, Elements, empty_list, element, Entries, empty_record, count_of, named}
use Rattle.evp_format.specs.Converting.{entries_of}
use Rattle.evp_format.specs.LaidTree.{IsLaidTree, IsLaidPart}
use Rattle.evp_format.specs.Tree.{Tree, tree, Branches, no_fields, branch, Part, number_part, text_part, tree_part, branch_at, fields_of}
use Rattle.evp_format.specs.Viewing.{Image, Walked, read, unless, view_part, view_counted, view_elements, view_string, ended_text}
use Rattle.evp_format.specs.Viewing.{until_zero, as_list, pointer_at, field_number}
use Rattle.evp_format.specs.WellLaid.{extent, shape_extent}
use Rattle.evp_format.specs.Zero.{as_count}
use Rattle.evp_plan.specs.declared.step.Run.{Run}
use Rattle.evp_plan.specs.Matching.{Content, content_of, known_branches, number_origin, wanted_origin, run_by, run_for, part_for}
use Rattle.evp_plan.specs.Matching.{offset_of, or_zero, op_for, inside_partner, compiled_tree, compiled, compiled_part}
use Rattle.evp_plan.specs.Ready.{IsOriginThere, IsTextAt, IsTextBy, IsTextThere, IsPartThere, IsStartThere, IsDefaultThere}
use Rattle.evp_plan.specs.Ready.{AreElementsThere, IsOpThere, IsReady}
use Rattle.evp_plan.specs.Standing.{run_count, element_place}
use Rattle.evp_plan.proofs.Alikes.{is_array, same_shape, same_part}
use Rattle.evp_plan.proofs.NoClash.{branches_in, alike_branches, alike_with, alike_at, IsAlike, clash_of_trees}
use Rattle.evp_plan.proofs.Conversions.{record_given}
use Rattle.evp_plan.proofs.Defaults.{no_clash_with_nothing}
use Rattle.evp_plan.proofs.Sent.{passed, PartSent, FieldSent, RecordSent, IsPartner, EachSent, ArraySent, nothing_sent, partner, known_of}
use Rattle.evp_plan.proofs.Sent.{known_named-branches, slice_get-known, record_sent, single_sent, array_sent, origin_of_own_count}
use Rattle.evp_plan.proofs.FieldsInside.{IsInside, nothing_inside, inside_laid, IsHeld, FieldHeld, IsNamed, numbered_held, partner_held}
use Rattle.evp_plan.proofs.FieldsInside.{origin_there, wanted_there, own_count_there, field_of_branch}

-- ---- texts

is_ended : (place : List PlaceStep) (q : ℕ) (found : Option (List ℕ)) (value : Datum) (end : ℕ) → ended_text place q found ≡ read value end
    → IsSome found
is_ended place q None value end is = cc
is_ended place q (Some bytes) value end is = search rules

text_at : (image : Image) (place : List PlaceStep) (mark q : ℕ) (value : Datum) (end : ℕ) → view_string image place mark q ≡ read value end
    → IsTextAt image q
text_at image place mark zero value end is = tt
text_at image place mark (suc p) value end is =
    let found = until_zero (drop (suc p) image.bytes) in
    let ok = passed (nat_lt (suc p) mark || not (nat_lt (suc p) (length image.bytes))) (BlockPlace place)
    (λ _. ended_text place (suc p) found) value end is in
    (grind (arith, nat_tests, ok.0), is_ended place (suc p) found value end ok.1)

text_by_there : (image : Image) (size s : ℕ) (value : Datum) → PartSent image text_part size s value → s + size ≤ length image.bytes
    → size ≡ image.pointer → IsTextBy image s
text_by_there image size s value sent fits laid = (
  omega (arith, fits, laid),
  text_at image sent.place sent.mark (pointer_at image s) value sent.end sent.walked,
)

-- ---- elements

-- the records of a part are ready, in whatever record they are
abbrev InsideReady : Image → Part → Type 0
InsideReady image (number_part kind) = ⊤
InsideReady image text_part = ⊤
InsideReady image (tree_part nested) =
    (from : Branches) (at : ℕ) (entries : Entries) → RecordSent image from at entries → IsInside image from at
    → clash_branches from (branches_in nested) ≡ None → IsReady image (compiled_tree from nested) at

part_there : (image : Image) (sender : Field) (part part' : Part) (size s : ℕ) (value : Datum) → PartSent image part sender.size s value
    → s + sender.size ≤ length image.bytes
    → IsLaidPart image.pointer sender.size part → same_part part part' ≡ true → clash_parts part part' ≡ None → InsideReady image part'
    → IsPartThere image (part_for size (content_of part') (Some (sender, content_of part)))
    (λ s'. IsReady image (compiled_part (inside_partner (Some (sender, part))) part') s') s
part_there image sender (number_part kind) (number_part kind') size s value sent fits laid same alike inside = (fits, laid)
part_there image sender text_part text_part size s value sent fits laid same alike inside = text_by_there image sender.size s value sent
    fits laid
part_there image sender (tree_part (tree long from)) (tree_part nested) size s value sent fits laid same alike inside =
    let given = record_sent image long from sender.size s value sent in
    let laid' : IsLaidTree image.pointer (tree long from) = laid.1 in
    inside from s given.entries given.sent (inside_laid image long s from laid' (omega (arith, fits, laid.0)))
    (sym (clash_of_trees (tree long from) nested) ∙ alike)
part_there image sender (number_part kind) text_part size s value sent fits laid same alike inside = cc
part_there image sender (number_part kind) (tree_part nested) size s value sent fits laid same alike inside = cc
part_there image sender text_part (number_part kind) size s value sent fits laid same alike inside = cc
part_there image sender text_part (tree_part nested) size s value sent fits laid same alike inside = cc
part_there image sender (tree_part nested) (number_part kind) size s value sent fits laid same alike inside = cc
part_there image sender (tree_part nested) text_part size s value sent fits laid same alike inside = cc

-- element i of those from number k on
record NthSent (image : Image) (part : Part) (size s : ℕ) : Type 0 where
  value : Datum
  sent : PartSent image part size s value

nth_sent : (image : Image) (part : Part) (size : ℕ) (place : ℕ → ℕ) (k i : ℕ) (elements : Elements)
    → EachSent image part size place k elements → i < count_of elements → NthSent image part size (place (k + i))
nth_sent image part size place k i empty_list sent below = absurd (omega (arith, below))
nth_sent image part size place k zero (element value rest) sent below =
    let P : ℕ → Type 0 = λ n. NthSent image part size (place n) in
    subst P (omega arith) (record { value = value; sent = sent.0 })
nth_sent image part size place k (suc i) (element value rest) sent below =
    let P : ℕ → Type 0 = λ n. NthSent image part size (place n) in
    subst P (omega arith) (nth_sent image part size place (suc k) i rest sent.1 (omega (arith, below)))

-- an element's end, in an array of n from `start` on
element_end : (start size n k last : ℕ) → k < n → start + n * size ≤ last → start + k * size + size ≤ last
element_end start size n k last below fits =
    let more = mul-le-mul_left size (let b : suc k ≤ n = omega (arith, below) in b) in
    omega (arith, fits, more)

counted_end : (image : Image) (part : Part) (size : ℕ) (place : List PlaceStep) (z : ℤ) (q mark : ℕ) (value : Datum) (end k : ℕ)
    → view_counted image place z q size (λ offset i after. view_part image part size offset (place ++ Nth i ∷ []) after) mark
    ≡ read value end → k < as_count z → q + k * size + size ≤ length image.bytes
counted_end image part size place (negsuc n) q mark value end k walked below = cc
counted_end image part size place (pos zero) q mark value end k walked below = absurd (omega (arith, below))
counted_end image part size place (pos (suc n)) q mark value end k walked below =
    let inside : Walked Datum = as_list (view_elements (λ i after. view_part image part size (q + i * size) (place ++ Nth i ∷ []) after)
    (suc n) 0 (q + suc n * size)) in
    let test : Bool = nat_lt q mark || nat_lt (length image.bytes) (q + suc n * size) in
    let first = passed (nat_eq q 0) (NullList place) (λ _. unless test (BlockPlace place) (λ _. inside)) value end walked in
    let second = passed test (BlockPlace place) (λ _. inside) value end first.1 in
    let fits : q + suc n * size ≤ length image.bytes = grind (arith, nat_tests, second.0) in
    element_end q size (suc n) k (length image.bytes) below fits

-- the places of a sender's array
pub record ArrayHeld (image : Image) (at : ℕ) (size : ℕ) (run : Run) : Type 0 where
  pub counted : IsOriginThere image at run.count
  pub begins : IsStartThere image run.pointed (at + run.offset)
  pub ends : (k : ℕ) → k < run_count image at run → element_place image at run k + size ≤ length image.bytes

abbrev IsArrayHeld : Image → ℕ → ℕ → Option Run → Type 0
IsArrayHeld image at size None = ⊤
IsArrayHeld image at size (Some run) = ArrayHeld image at size run

array_held : (image : Image) (from : Branches) (at : ℕ) (number : ℕ) (field : Field) (shape : Shape) (part : Part) (value : Datum)
    → slice_get (fields_of from) number ≡ Some field → field.shape ≡ shape
    → IsInside image from at → IsHeld image at field part → FieldSent image from at field shape part value
    → IsArrayHeld image at field.size (run_by (known_branches from) field shape)
array_held image from at number field One part value there is inside held sent = tt
array_held image from at number field (Fixed n) part value there is inside held sent =
    let whole : extent image.pointer field ≡ n * field.size = ap (λ (shape : Shape). shape_extent image.pointer shape field.size) is in
    let fits : at + field.offset + n * field.size ≤ length image.bytes = omega (arith, held.within, whole) in
    record {
      counted = tt;
      begins = omega (arith, held.within);
      ends = λ k below. element_end (at + field.offset) field.size n k (length image.bytes) below fits;
    }
array_held image from at number field (Counted c) part value there is inside held sent =
    let whole : extent image.pointer field ≡ image.pointer = ap (λ (shape : Shape). shape_extent image.pointer shape field.size) is in
    let count_is = origin_of_own_count image at from c in
    let counter : IsOriginThere image at (number_origin (known_of (branch_at from c)) (pos 0)) =
    own_count_there image at (branch_at from c)
    (λ counter counter_part found.
    let counter_there = field_of_branch from c counter counter_part found in
    let held_by = numbered_held image from at inside.long c inside.laid inside.each inside.fits in
    let Held : Option (Field × Part) → Type 0 = λ f. IsNamed image from at f in
    let counter_held : FieldHeld image from at counter counter_part = subst Held found held_by in
    (inside.counts number c field counter there is counter_there, counter_held.held)) in
    let There : Option (Field × Content) → Type 0 = λ known. IsOriginThere image at (number_origin known (pos 0)) in
    record {
      counted = subst There (sym (slice_get-known from c)) counter;
      begins = omega (arith, held.within, whole);
      ends = λ k below.
          counted_end image part field.size sent.place (field_number image at (branch_at from c)) (pointer_at image (at + field.offset))
          sent.mark value sent.end k sent.walked (rw count_is at below);
    }

run_there : (image : Image) (at : ℕ) (sender : Field) (part part' : Part) (size : ℕ) (run : Option Run) (elements : Elements)
    → ArraySent image at part sender.size run elements → IsArrayHeld image at sender.size run
    → IsLaidPart image.pointer sender.size part → same_part part part' ≡ true → clash_parts part part' ≡ None → InsideReady image part'
    → AreElementsThere image at (part_for size (content_of part') (Some (sender, content_of part)))
    (λ s. IsReady image (compiled_part (inside_partner (Some (sender, part))) part') s) run
run_there image at sender part part' size None elements sent held laid same alike inside = absurd sent
run_there image at sender part part' size (Some run) elements sent held laid same alike inside =
    record {
      counted = held.counted;
      begins = held.begins;
      within = λ k below. (let end = held.ends k below in omega (arith, end));
      each = λ k below.
          (let nth = nth_sent image part sender.size (λ i. element_place image at run i) 0 k elements sent.1 (omega (arith, below, sent.0))
          in
          let P : ℕ → Type 0 = λ n. PartSent image part sender.size (element_place image at run n) nth.value in
          let here : 0 + k ≡ k = omega arith in
          part_there image sender part part' size (element_place image at run k) nth.value (subst P here nth.sent) (held.ends k below) laid
          same alike inside);
    }

-- an element without a partner
default_there : (image : Image) (size : ℕ) (part : Part) → InsideReady image part
    → IsDefaultThere (part_for size (content_of part) None) (λ s. IsReady image (compiled_part no_fields part) s)
default_there image size (number_part kind) ready = tt
default_there image size text_part ready = tt
default_there image size (tree_part nested) ready =
    ready no_fields 0 empty_record (nothing_sent image 0) (nothing_inside image 0 (omega arith))
    (no_clash_with_nothing (branches_in nested))

elements_there : (image : Image) (from : Branches) (at : ℕ) (field : Field) (shape : Shape) (part : Part) (found : Option (Field × Part))
    (value : Option Datum) → field.shape ≡ shape → is_array shape ≡ true
    → IsPartner image from at found value → clash_partners found field part (λ sender_part. clash_parts sender_part part) ≡ None
    → IsInside image from at → IsNamed image from at found → InsideReady image part
    → AreElementsThere image at (part_for field.size (content_of part) (known_of found))
    (λ s. IsReady image (compiled_part (inside_partner found) part) s) (run_for (known_branches from) (known_of found))
elements_there image from at field shape part None None is arrayed given alike inside held ready = default_there image field.size part ready
elements_there image from at field shape part None (Some value) is arrayed given alike inside held ready = absurd given
elements_there image from at field shape part (Some (sender, part')) None is arrayed given alike inside held ready = absurd given
elements_there image from at field shape part (Some (sender, part')) (Some value) is arrayed given alike inside held ready =
    let classes = alike_with sender part' field part alike in
    let array' : is_array sender.shape ≡ true = both_arrays (is_array sender.shape) (is_array field.shape) classes.shapes
    (ap is_array is ∙ arrayed) in
    let sent = array_sent image from at sender sender.shape part' value array' given in
    run_there image at sender part' part field.size (run_by (known_branches from) sender sender.shape) sent.elements sent.sent
    (array_held image from at held.number sender sender.shape part' value held.there refl inside held.held given) held.held.laid
    classes.parts classes.inside ready
  where
    both_arrays : (a b : Bool) → same_shape a b ≡ true → b ≡ true → a ≡ true
    both_arrays true b same is = refl
    both_arrays false true same is = cc
    both_arrays false false same is = is

-- ---- fields

text_there_by : (image : Image) (from : Branches) (at : ℕ) (field : Field) (found : Option (Field × Part)) (value : Option Datum)
    → field.shape ≡ One → IsPartner image from at found value
    → clash_partners found field text_part (λ sender_part. clash_parts sender_part text_part) ≡ None → IsNamed image from at found
    → IsTextThere image at (offset_of (known_of found))
text_there_by image from at field None None is given alike held = tt
text_there_by image from at field None (Some value) is given alike held = absurd given
text_there_by image from at field (Some (sender, part)) None is given alike held = absurd given
text_there_by image from at field (Some (sender, part)) (Some value) is given alike held =
    let Alike : Shape → Type 0 = λ s. IsAlike sender.shape part s text_part in
    text_of sender sender.shape part value refl given (subst Alike is (alike_with sender part field text_part alike)) held.held
  where
    text_of : (sender : Field) (shape : Shape) (part : Part) (value : Datum) → sender.shape ≡ shape
        → FieldSent image from at sender shape part value → IsAlike shape part One text_part → IsHeld image at sender part
        → IsTextBy image (at + sender.offset)
    text_of sender One text_part value is sent alike held =
        let whole : extent image.pointer sender ≡ sender.size = ap (λ (shape : Shape). shape_extent image.pointer shape sender.size) is in
        text_by_there image sender.size (at + sender.offset) value (single_sent image from at sender text_part value sent)
        (omega (arith, held.within, whole)) held.laid
    text_of sender One (number_part kind) value is sent alike held = let no = alike.parts in cc
    text_of sender One (tree_part nested) value is sent alike held = let no = alike.parts in cc
    text_of sender (Fixed n) part value is sent alike held = let no = alike.shapes in cc
    text_of sender (Counted c) part value is sent alike held = let no = alike.shapes in cc

-- where the partner of a single record stands
record_inside : (image : Image) (from : Branches) (at : ℕ) (field : Field) (nested : Tree) (found : Option (Field × Part))
    → field.shape ≡ One → IsInside image from at → IsNamed image from at found
    → clash_partners found field (tree_part nested) (λ sender_part. clash_parts sender_part (tree_part nested)) ≡ None
    → (at + or_zero (offset_of (known_of found)) ≤ length image.bytes)
    × IsInside image (inside_partner found) (at + or_zero (offset_of (known_of found)))
record_inside image from at field nested None is inside held alike =
    let fits : at + 0 ≤ length image.bytes = (let whole = inside.fits in omega (arith, whole)) in
    (fits, nothing_inside image (at + 0) fits)
record_inside image from at field nested (Some (sender, part)) is inside held alike =
    let Alike : Shape → Type 0 = λ s. IsAlike sender.shape part s (tree_part nested) in
    inside_of sender sender.shape part refl (subst Alike is (alike_with sender part field (tree_part nested) alike)) held.held
  where
    inside_of : (sender : Field) (shape : Shape) (part : Part) → sender.shape ≡ shape → IsAlike shape part One (tree_part nested)
        → IsHeld image at sender part
        → (at + sender.offset ≤ length image.bytes) × IsInside image (inside_partner (Some (sender, part))) (at + sender.offset)
    inside_of sender One (tree_part (tree long inner)) is alike held =
        let whole : extent image.pointer sender ≡ sender.size = ap (λ (shape : Shape). shape_extent image.pointer shape sender.size) is in
        let laid : IsLaidTree image.pointer (tree long inner) = held.laid.1 in
        let size_is : sender.size ≡ long = held.laid.0 in
        (omega (arith, held.within), inside_laid image long (at + sender.offset) inner laid (omega (arith, held.within, whole, size_is)))
    inside_of sender One (number_part kind) is alike held = let no = alike.parts in cc
    inside_of sender One text_part is alike held = let no = alike.parts in cc
    inside_of sender (Fixed n) part is alike held = let no = alike.shapes in cc
    inside_of sender (Counted c) part is alike held = let no = alike.shapes in cc

field_ready : (image : Image) (from all : Branches) (at : ℕ) (field : Field) (shape : Shape) (part : Part) (found : Option (Field × Part))
    (value : Option Datum) → field.shape ≡ shape → IsPartner image from at found value
    → clash_partners found field part (λ sender_part. clash_parts sender_part part) ≡ None → clash_branches from all ≡ None
    → IsInside image from at → IsNamed image from at found → InsideReady image part
    → IsOpThere image at (op_for (known_branches from) (known_branches all) field shape (content_of part) (known_of found))
    (λ s. IsReady image (compiled_part (inside_partner found) part) s)
field_ready image from all at field One (number_part kind) found value is given alike all_alike inside held ready = origin_there image from
    at field kind found is held alike
field_ready image from all at field One text_part found value is given alike all_alike inside held ready = text_there_by image from at field
    found value is given alike held
field_ready image from all at field One (tree_part nested) found value is given alike all_alike inside held ready =
    let there = record_given image from at field nested found value is given alike in
    let place = record_inside image from at field nested found is inside held alike in
    (place.0, ready (inside_partner found) (at + or_zero (offset_of (known_of found))) (entries_of value) there.sent place.1 there.alike)
field_ready image from all at field (Fixed n) part found value is given alike all_alike inside held ready =
    elements_there image from at field (Fixed n) part found value is refl given alike inside held ready
field_ready image from all at field (Counted c) part found value is given alike all_alike inside held ready =
    let There : Option (Field × Content) → Type 0 = λ known. IsOriginThere image at (wanted_origin (known_branches from) known) in (
      subst There (sym (slice_get-known all c))
          (wanted_there image from at (branch_at all c) inside (λ other other_part there. alike_at from all c other other_part all_alike
          there)),
      elements_there image from at field (Counted c) part found value is refl given alike inside held ready,
    )

-- ---- records

mutual
  pub ready_tree : (image : Image) (from : Branches) (nested : Tree) (at : ℕ) (entries : Entries) → RecordSent image from at entries
      → IsInside image from at → clash_branches from (branches_in nested) ≡ None
      → IsReady image (compiled_tree from nested) at
  ready_tree image from (tree long branches) at entries sent inside alike = ready_branches image from branches branches 0 at entries sent
      inside alike alike

  ready_branches : (image : Image) (from all branches : Branches) (k at : ℕ) (entries : Entries) → RecordSent image from at entries
      → IsInside image from at → clash_branches from all ≡ None → clash_branches from branches ≡ None
      → IsReady image (compiled from all branches k) at
  ready_branches image from all no_fields k at entries sent inside all_alike alike = tt
  ready_branches image from all (branch field part rest) k at entries sent inside all_alike alike =
      let parts = alike_branches from field part rest alike in
      let found = branch_named field.name from in
      let There : Option (Field × Content) → Type 0 = λ partner.
      IsOpThere image at (op_for (known_branches from) (known_branches all) field field.shape (content_of part) partner)
      (λ s. IsReady image (compiled_part (inside_partner found) part) s) in (
        subst There (sym (known_named-branches field.name from))
            (field_ready image from all at field field.shape part found (named field.name entries) refl
            (partner image from at entries field.name sent) parts.0 all_alike inside (partner_held image from at field.name inside)
            (ready_inside image part)),
        ready_branches image from all rest (suc k) at entries sent inside all_alike parts.1,
      )

  ready_inside : (image : Image) (part : Part) → InsideReady image part
  ready_inside image (number_part kind) = tt
  ready_inside image text_part = tt
  ready_inside image (tree_part nested) = λ from at entries sent inside alike. ready_tree image from nested at entries sent inside alike
