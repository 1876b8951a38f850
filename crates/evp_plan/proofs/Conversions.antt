-- What the compiled steps find and write is the conversion, packed.
use Rattle.std.proofs.Common.{◌≡◌, ℕ, suc, ◌+◌, ℤ, List, [], ◌∷◌, ◌++◌, Option, Some, None, refl, sym, ap, ◌∙◌, subst}
use Rattle.std.specs.Prelude.{slice_get}
use Rattle.evp_base.specs.Numbers.{digits}
use Rattle.evp_format.specs.declared.field.Field.{Field}
use Rattle.evp_format.specs.declared.field.Shape.{Shape}
use Rattle.evp_format.specs.declared.field.Shape.TheVariants.{One, Fixed, Counted}
use Rattle.evp_format.specs.declared.place.PlaceStep.{PlaceStep}
use Rattle.evp_format.specs.declared.place.PlaceStep.TheVariants.{At, Nth}
use Rattle.evp_format.specs.Clashing.{branch_named, clash_partners, clash_branches, clash_parts}
use Rattle.evp_format.specs.Converting.{Made, made, unfit, large, then_make, numbers_from, number_at, make_text, entries_of, elements_of}
use Rattle.evp_format.specs.Converting.{make_shaped, make_tree, make_branches, make_part, make_list}
use Rattle.evp_format.specs.Datum.{Datum, rec, Entries, entry, named}
use Rattle.evp_format.specs.LaidTree.{IsLaidTree, AreLaidBranches, IsLaidPart}
use Rattle.evp_format.specs.Packing.{Pieces, Machine, one_piece, pack_text, pack_tree, pack_branches, pack_part, pack_shaped}
use Rattle.evp_format.specs.Packing.{pack_counted, listed}
use Rattle.evp_format.specs.Tree.{Tree, tree, Branches, no_fields, branch, Part, number_part, text_part, tree_part}
use Rattle.evp_format.specs.Viewing.{Image}
use Rattle.evp_format.specs.Zero.{zero_part}
use Rattle.evp_plan.specs.declared.step.Op.{Op}
use Rattle.evp_plan.specs.declared.step.Op.TheVariants.{Many}
use Rattle.evp_plan.specs.Matching.{Content, content_of, known_branches, known_named, number_origin, single_origin, wanted_origin}
use Rattle.evp_plan.specs.Matching.{elements_for, offset_of, or_zero, op_for, inside_partner, compiled_tree, compiled, compiled_part}
use Rattle.evp_plan.specs.Measuring.{sized, tested, measured_op, measured_steps, measured}
use Rattle.evp_plan.specs.Moving.{moved_op, moved, or_null}
use Rattle.evp_plan.specs.Standing.{origin_number, text_by, text_there}
use Rattle.evp_plan.proofs.Agreeing.{Agrees, Agrees-map, Agrees-pair, Agrees-along, Agrees-text}
use Rattle.evp_plan.proofs.Arrays.{Agrees-each, Agrees-many}
use Rattle.evp_plan.proofs.Defaults.{Continues, continues_at_start, continues_here, continues_behind, no_clash_with_nothing}
use Rattle.evp_plan.proofs.Sent.{FieldSent, RecordSent, IsPartner, nothing_sent, partner, known_of, known_named-branches, slice_get-known}
use Rattle.evp_plan.proofs.Sent.{text_sent, record_sent, single_sent}
use Rattle.evp_plan.proofs.NoClash.{branches_in, alike_branches, IsAlike, alike_with, clash_of_trees}
use Rattle.evp_plan.proofs.SingleNumbers.{AreNumbers, numbers_tested, are_numbers}
use Rattle.evp_plan.proofs.ElementsAgree.{InsideAgrees, Measures, Moves, elements_given}

-- ---- fields

-- a single text
text_given : (image : Image) (from : Branches) (at : ℕ) (field : Field) (found : Option (Field × Part)) (value : Option Datum)
    → field.shape ≡ One → IsPartner image from at found value
    → clash_partners found field text_part (λ sender_part. clash_parts sender_part text_part) ≡ None
    → text_there image at (offset_of (known_of found)) ≡ value
text_given image from at field None None is given alike = refl
text_given image from at field None (Some value) is given alike = absurd given
text_given image from at field (Some (sender, part)) None is given alike = absurd given
text_given image from at field (Some (sender, part)) (Some value) is given alike =
    let Alike : Shape → Type 0 = λ s. IsAlike sender.shape part s text_part in
    ap (λ (d : Datum). Some d)
    (text_of sender sender.shape part value given (subst Alike is (alike_with sender part field text_part alike)))
  where
    text_of : (sender : Field) (shape : Shape) (part : Part) (value : Datum) → FieldSent image from at sender shape part value
        → IsAlike shape part One text_part → text_by image (at + sender.offset) ≡ value
    text_of sender One text_part value sent alike = text_sent image sender.size (at + sender.offset) value
        (single_sent image from at sender text_part value sent)
    text_of sender One (number_part kind) value sent alike = let no = alike.parts in cc
    text_of sender One (tree_part nested) value sent alike = let no = alike.parts in cc
    text_of sender (Fixed n) part value sent alike = let no = alike.shapes in cc
    text_of sender (Counted c) part value sent alike = let no = alike.shapes in cc

-- a single record
pub record RecordGiven (image : Image) (nested : Tree) (found : Option (Field × Part)) (s : ℕ) (entries : Entries) : Type 0 where
  pub sent : RecordSent image (inside_partner found) s entries
  pub alike : clash_branches (inside_partner found) (branches_in nested) ≡ None

pub record_given : (image : Image) (from : Branches) (at : ℕ) (field : Field) (nested : Tree) (found : Option (Field × Part))
    (value : Option Datum) → field.shape ≡ One → IsPartner image from at found value
    → clash_partners found field (tree_part nested) (λ sender_part. clash_parts sender_part (tree_part nested)) ≡ None
    → RecordGiven image nested found (at + or_zero (offset_of (known_of found))) (entries_of value)
record_given image from at field nested None None is given alike = record
    { sent = nothing_sent image (at + 0); alike = no_clash_with_nothing (branches_in nested) }
record_given image from at field nested None (Some value) is given alike = absurd given
record_given image from at field nested (Some (sender, part)) None is given alike = absurd given
record_given image from at field nested (Some (sender, part)) (Some value) is given alike =
    let Alike : Shape → Type 0 = λ s. IsAlike sender.shape part s (tree_part nested) in
    record_at sender sender.shape part value given (subst Alike is (alike_with sender part field (tree_part nested) alike))
  where
    record_at : (sender : Field) (shape : Shape) (part : Part) (value : Datum) → FieldSent image from at sender shape part value
        → IsAlike shape part One (tree_part nested)
        → RecordGiven image nested (Some (sender, part)) (at + sender.offset) (entries_of (Some value))
    record_at sender One (tree_part (tree length inner)) value sent alike =
        let there = record_sent image length inner sender.size (at + sender.offset) value
        (single_sent image from at sender (tree_part (tree length inner)) value sent) in
        let P : Datum → Type 0 = λ d. RecordSent image inner (at + sender.offset) (entries_of (Some d)) in
        record { sent = subst P (sym there.made) there.sent; alike = sym (clash_of_trees (tree length inner) nested) ∙ alike.inside }
    record_at sender One (number_part kind) value sent alike = let no = alike.parts in cc
    record_at sender One text_part value sent alike = let no = alike.parts in cc
    record_at sender (Fixed n) part value sent alike = let no = alike.shapes in cc
    record_at sender (Counted c) part value sent alike = let no = alike.shapes in cc

-- a field of a receiver's record
Agrees-field : (limit : ℕ) (image : Image) (machine : Machine) (from all : Branches) (at : ℕ) (field : Field) (shape : Shape) (part : Part)
    (values : List ℤ) (k : ℕ) (place : List PlaceStep) (found : Option (Field × Part)) (value : Option Datum) (t after : ℕ)
    → field.shape ≡ shape → IsPartner image from at found value
    → clash_partners found field part (λ sender_part. clash_parts sender_part part) ≡ None
    → AreNumbers image from at all values → number_at values k ≡ origin_number image at
    (single_origin (known_branches from) field shape (content_of part)) → known_named field.name (known_branches from) ≡ known_of found
    → IsLaidPart machine.pointer field.size part → InsideAgrees limit image machine part
    → Agrees (make_shaped limit field shape part values k place value
    (λ place' datum later. make_part limit part field.size place' datum later) after)
    (λ datum. pack_shaped machine field shape t datum (λ offset v later. pack_part machine part field.size offset v later) after)
    (measured_op limit image field.size (op_for (known_branches from) (known_branches all) field shape (content_of part) (known_of found))
    (λ place' s later. measured limit image (compiled_part (inside_partner found) part) place' s later) place at after)
    (moved_op image machine field.size (op_for (known_branches from) (known_branches all) field shape (content_of part) (known_of found))
    (λ s t' later. moved image machine (compiled_part (inside_partner found) part) s t' later) at (t + field.offset) after)
Agrees-field limit image machine from all at field One (number_part kind) values k place found value t after is given alike are numbered
    same laid inside =
    let number_is : origin_number image at (number_origin (known_of found) field.fallback) ≡ number_at values k =
    sym (numbered ∙ ap (λ (known : Option (Field × Content)). origin_number image at (number_origin known field.fallback)) same) in
    (refl, ap (λ (n : ℤ). one_piece (t + field.offset) (digits machine.order field.size n) after) number_is, refl)
Agrees-field limit image machine from all at field One text_part values k place found value t after is given alike are numbered same laid
    inside =
    let text_is = text_given image from at field found value is given alike in
    let size_of : Option Datum → Made (Unit {0}) = λ v. sized (make_text limit place v after) in
    let wrote : Option Datum → Pieces = λ v. pack_text machine (t + field.offset) (or_null v) after in
    Agrees-along (make_text limit place value after) (make_text limit place value after)
    (λ datum. pack_text machine (t + field.offset) datum after) (size_of value)
    (size_of (text_there image at (offset_of (known_of found))))
    (wrote value) (wrote (text_there image at (offset_of (known_of found)))) refl (ap size_of text_is) (ap wrote text_is)
    (Agrees-text limit place value after machine (t + field.offset))
Agrees-field limit image machine from all at field One (tree_part nested) values k place found value t after is given alike are numbered
    same laid inside =
    let there = record_given image from at field nested found value is given alike in
    inside (inside_partner found) place (entries_of value) (at + or_zero (offset_of (known_of found))) (t + field.offset) after there.sent
    there.alike
Agrees-field limit image machine from all at field (Fixed n) part values k place found value t after is given alike are numbered same laid
    inside =
    Agrees-each limit image machine at field (elements_for (known_branches from) field.size (content_of part) (known_of found))
    (λ place' s later. measured limit image (compiled_part (inside_partner found) part) place' s later)
    (λ s t' later. moved image machine (compiled_part (inside_partner found) part) s t' later) place
    (λ i datum later. make_part limit part field.size (place ++ Nth i ∷ []) datum later)
    (λ offset v later. pack_part machine part field.size offset v later) (zero_part part) (elements_of value) n (t + field.offset) after
    is
    (elements_given limit image machine from at field (Fixed n) part place found value is refl given alike laid inside)
Agrees-field limit image machine from all at field (Counted c) part values k place found value t after is given alike are numbered same laid
    inside =
    let elements = elements_for (known_branches from) field.size (content_of part) (known_of found) in
    let measures : Measures = λ place' s later. measured limit image (compiled_part (inside_partner found) part) place' s later in
    let moves : Moves = λ s t' later. moved image machine (compiled_part (inside_partner found) part) s t' later in
    let origin = wanted_origin (known_branches from) (slice_get (known_branches all) c) in
    let make : ℤ → Made Datum = λ z. make_list limit field place z (elements_of value) (zero_part part)
    (λ i datum later. make_part limit part field.size (place ++ Nth i ∷ []) datum later) after in
    let z = origin_number image at origin in
    let found_is = measured_op limit image field.size (Many origin elements) measures place at after in
    let wrote_is = moved_op image machine field.size (Many origin elements) moves at (t + field.offset) after in
    Agrees-along (make z) (make (number_at values c)) (λ datum. pack_counted machine (t + field.offset) field.size
    (listed (elements_of (Some datum))) (λ offset v later. pack_part machine part field.size offset v later) after)
    found_is found_is wrote_is wrote_is (ap make (are c)) refl refl
    (Agrees-many limit image machine at field elements measures moves place
    (λ i datum later. make_part limit part field.size (place ++ Nth i ∷ []) datum later)
    (λ offset v later. pack_part machine part field.size offset v later) (zero_part part) (elements_of value) c z (t + field.offset) after
    is
    (elements_given limit image machine from at field (Counted c) part place found value is refl given alike laid inside))

-- ---- records

-- first the numbers, then the rest
numbered_first : (x : Made (List ℤ)) (tests : Made (Unit {0})) (next : List ℤ → Made Datum) (packs : Datum → Pieces)
    (found : Made (Unit {0})) (wrote : Pieces) → sized x ≡ tests
    → ((values : List ℤ) (z : ℕ) → x ≡ made values z → Agrees (next values) packs found wrote)
    → Agrees (then_make x (λ values none. next values)) packs (then_make tests (λ _ _. found)) wrote
numbered_first (made values z) tests next packs found wrote same agrees =
    let P : Made (Unit {0}) → Type 0 = λ m. Agrees (next values) packs (then_make m (λ _ _. found)) wrote in
    subst P same (agrees values z refl)
numbered_first (unfit place) tests next packs found wrote same agrees = ap (λ (m : Made (Unit {0})). then_make m (λ _ _. found)) (sym same)
numbered_first (large place) tests next packs found wrote same agrees = ap (λ (m : Made (Unit {0})). then_make m (λ _ _. found)) (sym same)

mutual
  pub Agrees-tree : (limit : ℕ) (image : Image) (machine : Machine) (from : Branches) (nested : Tree) (place : List PlaceStep)
      (entries : Entries) (at t after : ℕ) → IsLaidTree machine.pointer nested
      → RecordSent image from at entries → clash_branches from (branches_in nested) ≡ None
      → Agrees (make_tree limit nested place entries after) (λ datum. pack_tree machine nested t (entries_of (Some datum)) after)
      (measured limit image (compiled_tree from nested) place at after)
      (moved image machine (compiled_tree from nested) at t after)
  Agrees-tree limit image machine from (tree length branches) place entries at t after laid sent alike =
      numbered_first (numbers_from place 0 branches entries) (tested image at (compiled from branches branches 0) place)
      (λ values. then_make (make_branches limit branches values 0 place entries after) (λ others end. made (rec others) end))
      (λ datum. pack_branches machine branches t (entries_of (Some datum)) after)
      (measured_steps limit image (compiled from branches branches 0) place at after)
      (moved image machine (compiled from branches branches 0) at t after)
      (numbers_tested image from branches branches at entries place 0 sent alike)
      (λ values z is.
      Agrees-map (make_branches limit branches values 0 place entries after) rec (λ others. pack_branches machine branches t others after)
      (λ datum. pack_branches machine branches t (entries_of (Some datum)) after)
      (measured_steps limit image (compiled from branches branches 0) place at after)
      (moved image machine (compiled from branches branches 0) at t after) (λ others. refl)
      (Agrees-branches limit image machine from branches branches values 0 place entries at t after laid.1 sent alike
      (are_numbers image from branches at entries place values z sent alike is) (continues_at_start branches)))

  Agrees-branches : (limit : ℕ) (image : Image) (machine : Machine) (from all branches : Branches) (values : List ℤ) (k : ℕ)
      (place : List PlaceStep) (entries : Entries) (at t after : ℕ) → AreLaidBranches machine.pointer branches
      → RecordSent image from at entries → clash_branches from branches ≡ None → AreNumbers image from at all values
      → Continues all branches k
      → Agrees (make_branches limit branches values k place entries after) (λ others. pack_branches machine branches t others after)
      (measured_steps limit image (compiled from all branches k) place at after)
      (moved image machine (compiled from all branches k) at t after)
  Agrees-branches limit image machine from all no_fields values k place entries at t after laid sent alike are continues
      = (refl, refl, refl)
  Agrees-branches limit image machine from all (branch field part rest) values k place entries at t after laid sent alike are continues =
      let parts = alike_branches from field part rest alike in
      let known = known_named-branches field.name from in
      let found = branch_named field.name from in
      let op_by : Option (Field × Content) → Op = λ partner. op_for (known_branches from) (known_branches all) field field.shape
      (content_of part) partner in
      let measures : Measures = λ place' s later. measured limit image (compiled_part (inside_partner found) part) place' s later in
      let moves : Moves = λ s t' later. moved image machine (compiled_part (inside_partner found) part) s t' later in
      let numbered : number_at values k ≡ origin_number image at (single_origin (known_branches from) field field.shape (content_of part)) =
      are k ∙ ap (λ (f : Option (Field × Content)). origin_number image at (wanted_origin (known_branches from) f))
      (slice_get-known all k ∙ ap known_of (continues_here all field part rest k continues)) in
      let one : Made Datum = make_shaped limit field field.shape part values k (place ++ At k ∷ []) (named field.name entries)
      (λ place' datum later. make_part limit part field.size place' datum later) after in
      let packed : Datum → Pieces = λ datum. pack_shaped machine field field.shape t datum
      (λ offset v later. pack_part machine part field.size offset v later) after in
      let found_by : Option (Field × Content) → Made (Unit {0}) = λ partner. measured_op limit image field.size (op_by partner) measures
      (place ++ At k ∷ []) at after in
      let wrote_by : Option (Field × Content) → Pieces = λ partner. moved_op image machine field.size (op_by partner) moves at
      (t + field.offset) after in
      let first : Agrees one packed (found_by (known_named field.name (known_branches from)))
      (wrote_by (known_named field.name (known_branches from))) =
      Agrees-along one one packed (found_by (known_of found)) (found_by (known_named field.name (known_branches from)))
      (wrote_by (known_of found)) (wrote_by (known_named field.name (known_branches from)))
      refl (ap found_by known) (ap wrote_by known)
      (Agrees-field limit image machine from all at field field.shape part values k (place ++ At k ∷ []) found (named field.name entries) t
      after refl (partner image from at entries field.name sent) parts.0 are numbered known laid.1
      (Agrees-inside limit image machine field.size part laid.1)) in
      Agrees-pair one (λ later. make_branches limit rest values (suc k) place entries later) (λ value others. entry field.name value others)
      packed (λ later others. pack_branches machine rest t others later)
      (λ others. pack_branches machine (branch field part rest) t others after) (found_by (known_named field.name (known_branches from)))
      (λ later. measured_steps limit image (compiled from all rest (suc k)) place at later)
      (wrote_by (known_named field.name (known_branches from))) (λ later. moved image machine (compiled from all rest (suc k)) at t later)
      (λ value others. refl) first
      (λ later. Agrees-branches limit image machine from all rest values (suc k) place entries at t later laid.2 sent parts.1 are
      (continues_behind all field part rest k continues))

  Agrees-inside : (limit : ℕ) (image : Image) (machine : Machine) (size : ℕ) (part : Part) → IsLaidPart machine.pointer size part
      → InsideAgrees limit image machine part
  Agrees-inside limit image machine size (number_part kind) laid = tt
  Agrees-inside limit image machine size text_part laid = tt
  Agrees-inside limit image machine size (tree_part nested) laid =
      λ from place entries at t after sent alike. Agrees-tree limit image machine from nested place entries at t after laid.1 sent alike
