-- What a step finds and writes of an array's elements is their conversion, packed.
use Rattle.std.proofs.Common.{◌≡◌, ℕ, suc, Bool, true, false, not, List, [], ◌∷◌, ◌++◌, Option, Some, None, refl, sym, ap, ◌∙◌}
use Rattle.std.proofs.Common.{subst}
use Rattle.std.specs.Prelude.{⊤}
use Rattle.evp_base.specs.Numbers.{number, is_in_range, digits}
use Rattle.evp_format.specs.declared.field.Field.{Field}
use Rattle.evp_format.specs.declared.field.Shape.{Shape}
use Rattle.evp_format.specs.declared.place.PlaceStep.{PlaceStep}
use Rattle.evp_format.specs.declared.place.PlaceStep.TheVariants.{Nth}
use Rattle.evp_format.specs.Bytes.{bytes_at}
use Rattle.evp_format.specs.Clashing.{clash_partners, clash_branches, clash_parts}
use Rattle.evp_format.specs.Converting.{Made, made, unless_unfit, make_text, make_number, as_number, entries_of, elements_of, make_tree}
use Rattle.evp_format.specs.Converting.{make_part}
use Rattle.evp_format.specs.Datum.{Datum, num, rec, Elements, empty_list, element, Entries, empty_record}
use Rattle.evp_format.specs.LaidTree.{IsLaidPart}
use Rattle.evp_format.specs.Packing.{Pieces, Machine, one_piece, pack_text, pack_tree, pack_part}
use Rattle.evp_format.specs.Tree.{tree, Branches, no_fields, Part, number_part, text_part, tree_part}
use Rattle.evp_format.specs.Viewing.{Image}
use Rattle.evp_format.specs.Zero.{zero_part, zero_tree}
use Rattle.evp_plan.specs.declared.step.Run.{Run}
use Rattle.evp_plan.specs.Matching.{content_of, known_branches, run_by, run_for, part_for, inside_partner, compiled_tree, compiled_part}
use Rattle.evp_plan.specs.Measuring.{sized, measured_part, measured}
use Rattle.evp_plan.specs.Moving.{moved_part, moved}
use Rattle.evp_plan.specs.Standing.{text_by, element_place}
use Rattle.evp_plan.proofs.Alikes.{is_array, same_shape, same_part}
use Rattle.evp_plan.proofs.Agreeing.{Agrees, Agrees-unless_unfit, Agrees-along, Agrees-text}
use Rattle.evp_plan.proofs.Arrays.{EachMade, AreGiven}
use Rattle.evp_plan.proofs.Defaults.{default_tree, no_clash_with_nothing}
use Rattle.evp_plan.proofs.Sent.{PartSent, RecordSent, IsPartner, EachSent, ArraySent, nothing_sent, known_of, number_sent, text_sent}
use Rattle.evp_plan.proofs.Sent.{record_sent, array_sent}
use Rattle.evp_plan.proofs.NoClash.{branches_in, alike_with, clash_of_trees}

-- the records of a part agree, from whatever record they are made
abbrev pub InsideAgrees : ℕ → Image → Machine → Part → Type 0
InsideAgrees limit image machine (number_part kind) = ⊤
InsideAgrees limit image machine text_part = ⊤
InsideAgrees limit image machine (tree_part nested) =
    (from : Branches) (place : List PlaceStep) (entries : Entries) (at t after : ℕ) → RecordSent image from at entries
    → clash_branches from (branches_in nested) ≡ None
    → Agrees (make_tree limit nested place entries after) (λ datum. pack_tree machine nested t (entries_of (Some datum)) after)
    (measured limit image (compiled_tree from nested) place at after)
    (moved image machine (compiled_tree from nested) at t after)

-- an element, from one that stands at s
Agrees-part : (limit : ℕ) (image : Image) (machine : Machine) (sender : Field) (part part' : Part) (size : ℕ) (place : List PlaceStep)
    (s : ℕ) (value : Datum) (t after : ℕ) → PartSent image part sender.size s value
    → same_part part part' ≡ true → clash_parts part part' ≡ None → InsideAgrees limit image machine part'
    → Agrees (make_part limit part' size place value after) (λ datum. pack_part machine part' size t datum after)
    (measured_part limit image size (part_for size (content_of part') (Some (sender, content_of part)))
    (λ place' s' later. measured limit image (compiled_part (inside_partner (Some (sender, part))) part') place' s' later) place s
    after)
    (moved_part image machine size (part_for size (content_of part') (Some (sender, content_of part)))
    (λ s' t' later. moved image machine (compiled_part (inside_partner (Some (sender, part))) part') s' t' later) (Some s) t after)
Agrees-part limit image machine sender (number_part kind) (number_part kind') size place s value t after sent same alike inside =
    let n = number image.order kind (bytes_at s sender.size image.bytes) in
    let packed : Datum → Pieces = λ datum. one_piece t (digits machine.order size (as_number datum)) after in
    let make : Datum → Made Datum = λ d. make_number (is_in_range kind' size (as_number d)) place (as_number d) after in
    let found : Made (Unit {0}) = unless_unfit (not (is_in_range kind' size n)) place (λ _. made tt after) in
    Agrees-along (make (num n)) (make value) packed found found (one_piece t (digits machine.order size n) after)
    (one_piece t (digits machine.order size n) after)
    (ap make (sym (number_sent image kind sender.size s value sent))) refl refl
    (Agrees-unless_unfit (not (is_in_range kind' size n)) place (λ _. made (num n) after) packed (λ _. made tt after)
    (one_piece t (digits machine.order size n) after) (λ fits. (refl, refl, refl)))
Agrees-part limit image machine sender text_part text_part size place s value t after sent same alike inside =
    let found : Datum → Made (Unit {0}) = λ d. sized (make_text limit place (Some d) after) in
    let is = text_sent image sender.size s value sent in
    Agrees-along (make_text limit place (Some value) after) (make_text limit place (Some value) after)
    (λ datum. pack_text machine t datum after) (found value) (found (text_by image s))
    (pack_text machine t value after) (pack_text machine t (text_by image s) after) refl (ap found is)
    (ap (λ (d : Datum). pack_text machine t d after) is) (Agrees-text limit place (Some value) after machine t)
Agrees-part limit image machine sender (tree_part (tree length from)) (tree_part nested) size place s value t after sent same alike inside =
    let given = record_sent image length from sender.size s value sent in
    let make : Datum → Made Datum = λ d. make_tree limit nested place (entries_of (Some d)) after in
    let found = measured limit image (compiled_tree from nested) place s after in
    let wrote = moved image machine (compiled_tree from nested) s t after in
    Agrees-along (make (rec given.entries)) (make value) (λ datum. pack_tree machine nested t (entries_of (Some datum)) after) found found
    wrote wrote (ap make given.made) refl refl
    (inside from place given.entries s t after given.sent (sym (clash_of_trees (tree length from) nested) ∙ alike))
Agrees-part limit image machine sender (number_part kind) text_part size place s value t after sent same alike inside = cc
Agrees-part limit image machine sender (number_part kind) (tree_part nested) size place s value t after sent same alike inside = cc
Agrees-part limit image machine sender text_part (number_part kind) size place s value t after sent same alike inside = cc
Agrees-part limit image machine sender text_part (tree_part nested) size place s value t after sent same alike inside = cc
Agrees-part limit image machine sender (tree_part nested) (number_part kind) size place s value t after sent same alike inside = cc
Agrees-part limit image machine sender (tree_part nested) text_part size place s value t after sent same alike inside = cc

-- an element without a partner
zero_of_part : (limit : ℕ) (image : Image) (machine : Machine) (part : Part) (size t after : ℕ) → IsLaidPart machine.pointer size part
    → InsideAgrees limit image machine part
    → (moved_part image machine size (part_for size (content_of part) None)
    (λ s' t' later. moved image machine (compiled_part no_fields part) s' t' later) None t after
    ≡ pack_part machine part size t (zero_part part) after)
    × ((pack_part machine part size t (zero_part part) after).size ≡ after)
zero_of_part limit image machine (number_part kind) size t after laid inside = (refl, refl)
zero_of_part limit image machine text_part size t after laid inside = (refl, refl)
zero_of_part limit image machine (tree_part nested) size t after laid inside =
    let packed : Datum → Pieces = λ datum. pack_tree machine nested t (entries_of (Some datum)) after in
    let found = measured limit image (compiled_tree no_fields nested) [] 0 after in
    let wrote = moved image machine (compiled_tree no_fields nested) 0 t after in
    let P : Made Datum → Type 0 = λ m. Agrees m packed found wrote in
    let agrees : Agrees (made (zero_tree nested) after) packed found wrote =
    subst P (default_tree limit machine.pointer nested [] after laid.1)
    (inside no_fields [] empty_record 0 t after (nothing_sent image 0) (no_clash_with_nothing (branches_in nested))) in
    (agrees.1, agrees.2)

-- the elements of a sender's array
each_made : (limit : ℕ) (image : Image) (machine : Machine) (sender : Field) (part part' : Part) (size : ℕ) (place : List PlaceStep)
    (stands : ℕ → ℕ) (k : ℕ) (elements : Elements)
    → EachSent image part sender.size stands k elements → same_part part part' ≡ true → clash_parts part part' ≡ None
    → InsideAgrees limit image machine part'
    → EachMade (λ i datum after. make_part limit part' size (place ++ Nth i ∷ []) datum after)
    (λ t datum after. pack_part machine part' size t datum after)
    (λ i after. measured_part limit image size (part_for size (content_of part') (Some (sender, content_of part)))
    (λ place' s later. measured limit image (compiled_part (inside_partner (Some (sender, part))) part') place' s later)
    (place ++ Nth i ∷ []) (stands i) after)
    (λ i t after. moved_part image machine size (part_for size (content_of part') (Some (sender, content_of part)))
    (λ s t' later. moved image machine (compiled_part (inside_partner (Some (sender, part))) part') s t' later) (Some (stands i)) t
    after)
    k elements
each_made limit image machine sender part part' size place stands k empty_list sent same alike inside = tt
each_made limit image machine sender part part' size place stands k (element value rest) sent same alike inside = (
  (λ t after. Agrees-part limit image machine sender part part' size (place ++ Nth k ∷ []) (stands k) value t after sent.0 same alike
      inside),
  each_made limit image machine sender part part' size place stands (suc k) rest sent.1 same alike inside,
)

abbrev pub Measures : Type 0
Measures = List PlaceStep → ℕ → ℕ → Made (Unit {0})

abbrev pub Moves : Type 0
Moves = ℕ → ℕ → ℕ → Pieces

-- a sender's array, by what its steps read
array_given : (limit : ℕ) (image : Image) (machine : Machine) (at : ℕ) (sender : Field) (part part' : Part) (size : ℕ)
    (place : List PlaceStep) (run : Option Run) (elements : Elements)
    → ArraySent image at part sender.size run elements → same_part part part' ≡ true → clash_parts part part' ≡ None
    → InsideAgrees limit image machine part'
    → AreGiven limit image machine at size (part_for size (content_of part') (Some (sender, content_of part)))
    (λ place' s later. measured limit image (compiled_part (inside_partner (Some (sender, part))) part') place' s later)
    (λ s t' later. moved image machine (compiled_part (inside_partner (Some (sender, part))) part') s t' later) place
    (λ i datum after. make_part limit part' size (place ++ Nth i ∷ []) datum after)
    (λ t datum after. pack_part machine part' size t datum after) (zero_part part') (Some elements) run
array_given limit image machine at sender part part' size place None elements sent same alike inside = absurd sent
array_given limit image machine at sender part part' size place (Some run) elements sent same alike inside = (
  sent.0,
  each_made limit image machine sender part part' size place (λ k. element_place image at run k) 0 elements sent.1 same alike
      inside,
)

-- an array's partner, or none
pub elements_given : (limit : ℕ) (image : Image) (machine : Machine) (from : Branches) (at : ℕ) (field : Field) (shape : Shape) (part : Part)
    (place : List PlaceStep) (found : Option (Field × Part)) (value : Option Datum)
    → field.shape ≡ shape → is_array shape ≡ true → IsPartner image from at found value
    → clash_partners found field part (λ sender_part. clash_parts sender_part part) ≡ None
    → IsLaidPart machine.pointer field.size part → InsideAgrees limit image machine part
    → AreGiven limit image machine at field.size (part_for field.size (content_of part) (known_of found))
    (λ place' s later. measured limit image (compiled_part (inside_partner found) part) place' s later)
    (λ s t' later. moved image machine (compiled_part (inside_partner found) part) s t' later) place
    (λ i datum after. make_part limit part field.size (place ++ Nth i ∷ []) datum after)
    (λ t datum after. pack_part machine part field.size t datum after) (zero_part part) (elements_of value)
    (run_for (known_branches from) (known_of found))
elements_given limit image machine from at field shape part place None None is arrayed given alike laid inside =
    λ k t after. zero_of_part limit image machine part field.size t after laid inside
elements_given limit image machine from at field shape part place None (Some value) is arrayed given alike laid inside = absurd given
elements_given limit image machine from at field shape part place (Some (sender, part')) None is arrayed given alike laid inside = absurd
    given
elements_given limit image machine from at field shape part place (Some (sender, part')) (Some value) is arrayed given alike laid inside =
    let classes = alike_with sender part' field part alike in
    let array' : is_array sender.shape ≡ true = both_arrays (is_array sender.shape) (is_array field.shape) classes.shapes
    (ap is_array is ∙ arrayed) in
    let sent = array_sent image from at sender sender.shape part' value array' given in
    let P : Datum → Type 0 = λ d.
    AreGiven limit image machine at field.size (part_for field.size (content_of part) (Some (sender, content_of part')))
    (λ place' s later. measured limit image (compiled_part (inside_partner (Some (sender, part'))) part) place' s later)
    (λ s t' later. moved image machine (compiled_part (inside_partner (Some (sender, part'))) part) s t' later) place
    (λ i datum after. make_part limit part field.size (place ++ Nth i ∷ []) datum after)
    (λ t datum after. pack_part machine part field.size t datum after) (zero_part part) (elements_of (Some d))
    (run_by (known_branches from) sender sender.shape) in
    subst P (sym sent.made)
    (array_given limit image machine at sender part' part field.size place (run_by (known_branches from) sender sender.shape) sent.elements
    sent.sent classes.parts classes.inside inside)
  where
    both_arrays : (a b : Bool) → same_shape a b ≡ true → b ≡ true → a ≡ true
    both_arrays true b same is = refl
    both_arrays false true same is = cc
    both_arrays false false same is = is
