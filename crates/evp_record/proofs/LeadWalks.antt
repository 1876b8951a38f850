-- A walk by the leads of a type ends at the mark of the whole walk, since what doesn't lead to a pointer moves no mark and has no fault.
use Rattle.std.proofs.Common.{◌≡◌, ℕ, zero, suc, ◌+◌, ◌-◌, ◌*◌, ◌<◌, ℤ, pos, negsuc, Bool, true, false, ◌||◌, nat_lt, nat_eq, List, []}
use Rattle.std.proofs.Common.{◌∷◌, ◌++◌, length, get_or, drop, Option, Some, None, Ok, refl, sym, ap, ◌∙◌, subst, arith, add-one}
use Rattle.std.specs.Prelude.{not, slice_get, option_and_then, if◌then◌else◌}
use Rattle.std.proofs.lemmas.List.{get_or_default}
use Rattle.evp_base.specs.declared.kind.Kind.TheVariants.{Int, Unsigned, Char, Boolean, Enumeration}
use Rattle.evp_format.specs.declared.broken.Broken.{Broken}
use Rattle.evp_format.specs.declared.broken.Broken.TheVariants.{NullList, BlockPlace}
use Rattle.evp_format.specs.declared.field.Base.{Base}
use Rattle.evp_format.specs.declared.field.Base.TheVariants.{Number, Text, Nested}
use Rattle.evp_format.specs.declared.field.Field.{Field}
use Rattle.evp_format.specs.declared.field.Shape.{Shape}
use Rattle.evp_format.specs.declared.field.Shape.TheVariants.{One, Fixed, Counted}
use Rattle.evp_format.specs.declared.lead.Inside.{Inside}
use Rattle.evp_format.specs.declared.lead.Inside.TheVariants as inside
use Rattle.evp_format.specs.declared.lead.Lead.{Lead}
use Rattle.evp_format.specs.declared.lead.Run.{Run}
use Rattle.evp_format.specs.declared.place.PlaceStep.{PlaceStep}
use Rattle.evp_format.specs.declared.place.PlaceStep.TheVariants.{At, Nth}
use Rattle.evp_format.specs.Datum.{Datum, Elements, rec, entry, element}
use Rattle.evp_format.specs.Leads.{is_counted, has_pointer, have_pointer, part_has_pointer, inside_of, is_led, leads_by, lead_from}
use Rattle.evp_format.specs.Leads.{with_lead, leads_in, points_in, leads_of, count_in, count_from, run_in, kind_of}
use Rattle.evp_format.specs.Tree.{Tree, tree, Branches, no_fields, branch, Part, number_part, text_part, tree_part, part_of, branches_of}
use Rattle.evp_format.specs.Tree.{trees, tree_of, branch_at}
use Rattle.evp_format.specs.Viewing.{Image, Walked, read, broken, then_walk, unless, view_tree, view_branches, view_part, view_shaped}
use Rattle.evp_format.specs.Viewing.{view_elements, view_counted, view_string, as_list, image_of, pointer_at, field_number}
use Rattle.evp_format.specs.WellLaid.{IsWellLaid, HasBaseSize, HasShape, CountsElements}
use Rattle.evp_format.proofs.Loops.{next_left}
use Rattle.evp_format.proofs.Trees.{tree_of-resolved, found_below, slice_get-below}
use Rattle.evp_record.specs.LeadMarks.{mark_of, image_in, record_walk, inside_mark, elements_mark, counted_mark, count_at, run_mark}
use Rattle.evp_record.specs.LeadMarks.{lead_mark, leads_mark}
use Rattle.evp_format.specs.Layout.{Layout}
use Rattle.evp_record.specs.Marks.{marked}
use Rattle.evp_record.specs.Record.{Record, record_of}
use Rattle.evp_record.specs.Walks.{is_plain, walk_part, walk_elements}
use Rattle.evp_record.proofs.Laid.{type_fields-found, branch_at-branches_of}
use Rattle.evp_record.proofs.Lowered.{ReadsAlike, ReadsAlike-tree, ReadsAlike-string}

mark_of-then : {A B : Type 0} (walked : Walked A) (next : A → ℕ → Walked B) (rest : ℕ → Option ℕ)
    → ((value : A) (mark : ℕ) → mark_of (next value mark) ≡ rest mark)
    → mark_of (then_walk walked next) ≡ option_and_then rest (mark_of walked)
mark_of-then (read value mark) next rest same = same value mark
mark_of-then (broken fault) next rest same = refl

mark_of-made : {A B : Type 0} (walked : Walked A) (f : A → B) → mark_of (then_walk walked (λ value mark. read (f value) mark))
    ≡ mark_of walked
mark_of-made (read value mark) f = refl
mark_of-made (broken fault) f = refl

mark_of-unless : {A : Type 0} (test : Bool) (fault : Broken) (next : Unit {0} → Walked A)
    → mark_of (unless test fault next) ≡ (if test then None else mark_of (next tt))
mark_of-unless true fault next = refl
mark_of-unless false fault next = refl

mark_of-list : (walked : Walked Elements) → mark_of (as_list walked) ≡ mark_of walked
mark_of-list (read value mark) = refl
mark_of-list (broken fault) = refl

mark_of-branch : (image : Image) (all : Branches) (field : Field) (part : Part) (rest : Branches) (at k : ℕ) (place : List PlaceStep)
    (mark : ℕ)
    → mark_of (view_branches image all (branch field part rest) at k place mark)
    ≡ option_and_then (λ after. mark_of (view_branches image all rest at (suc k) place after))
    (mark_of (view_shaped image all field field.shape at (place ++ At k ∷ [])
    (λ offset place' after. view_part image part field.size offset place' after) mark))
mark_of-branch image all field part rest at k place mark =
    mark_of-then (view_shaped image all field field.shape at (place ++ At k ∷ [])
    (λ offset place' after. view_part image part field.size offset place' after) mark)
    (λ value after. then_walk (view_branches image all rest at (suc k) place after)
    (λ others end. read (entry field.name value others) end))
    (λ after. mark_of (view_branches image all rest at (suc k) place after))
    (λ value after. mark_of-made (view_branches image all rest at (suc k) place after) (λ others. entry field.name value others))

mark_of-element : (one : ℕ → ℕ → Walked Datum) (n k mark : ℕ)
    → mark_of (view_elements one (suc n) k mark) ≡ option_and_then (λ after. mark_of (view_elements one n (suc k) after))
    (mark_of (one k mark))
mark_of-element one n k mark =
    mark_of-then (one k mark) (λ first after. then_walk (view_elements one n (suc k) after) (λ rest end. read (element first rest) end))
    (λ after. mark_of (view_elements one n (suc k) after))
    (λ first after. mark_of-made (view_elements one n (suc k) after) (λ rest. element first rest))

-- two walks that read alike end at one mark
mark_of-alike : {A : Type 0} (walked other : Walked A) → ReadsAlike walked other → ReadsAlike other walked → mark_of walked ≡ mark_of other
mark_of-alike (read value mark) (read other_value other_mark) there back =
    let here : other_mark ≡ there.0 = cc there.2 in
    let other : mark ≡ back.0 = cc back.2 in
    let same : mark ≡ other_mark = omega (arith, here, other, there.1, back.1) in
    ap (λ (n : ℕ). Some n) same
mark_of-alike (read value mark) (broken fault) there back = cc there.2
mark_of-alike (broken fault) (read value mark) there back = cc back.2
mark_of-alike (broken fault) (broken other) there back = refl

mark_of-tree : (image : Image) (t : Tree) (at : ℕ) (place place' : List PlaceStep) (mark : ℕ)
    → mark_of (view_tree image t at place mark) ≡ mark_of (view_tree image t at place' mark)
mark_of-tree image t at place place' mark =
    mark_of-alike (view_tree image t at place mark) (view_tree image t at place' mark)
    (ReadsAlike-tree image t at place place' mark mark (omega arith))
    (ReadsAlike-tree image t at place' place mark mark (omega arith))

mark_of-string : (image : Image) (place place' : List PlaceStep) (mark q : ℕ)
    → mark_of (view_string image place mark q) ≡ mark_of (view_string image place' mark q)
mark_of-string image place place' mark q =
    mark_of-alike (view_string image place mark q) (view_string image place' mark q)
    (ReadsAlike-string image place place' mark mark q (omega arith))
    (ReadsAlike-string image place' place mark mark q (omega arith))

then_same : (first : Option ℕ) (next next' : ℕ → Option ℕ) → ((m : ℕ) → next m ≡ next' m)
    → option_and_then next first ≡ option_and_then next' first
then_same None next next' same = refl
then_same (Some m) next next' same = same m

-- elements are walked one by one
mark_of-elements : (held : Record) (within : Inside) (size from : ℕ) (one : ℕ → ℕ → Walked Datum) (n k mark : ℕ)
    → ((i m : ℕ) → mark_of (one i m) ≡ inside_mark held within (from + i * size) m)
    → mark_of (view_elements one n k mark) ≡ elements_mark held within size from n k mark
mark_of-elements held within size from one zero k mark same = refl
mark_of-elements held within size from one (suc n) k mark same =
    mark_of-element one n k mark
    ∙ ap (option_and_then (λ after. mark_of (view_elements one n (suc k) after))) (same k mark)
    ∙ then_same (inside_mark held within (from + k * size) mark) (λ after. mark_of (view_elements one n (suc k) after))
    (λ after. elements_mark held within size from n (suc k) after)
    (λ after. mark_of-elements held within size from one n (suc k) after same)

pub plain_elements : (held : Record) (size from n k mark : ℕ) → elements_mark held inside.Plain size from n k mark ≡ Some mark
plain_elements held size from zero k mark = refl
plain_elements held size from (suc n) k mark = plain_elements held size from n (suc k) mark

-- ---- what has no pointer moves no mark

both_false : (a b : Bool) → a || b ≡ false → (a ≡ false) × (b ≡ false)
both_false true b none = cc
both_false false b none = (refl, none)

plain_shaped : (held : Record) (all : Branches) (field : Field) (shape : Shape) (at : ℕ) (place : List PlaceStep)
    (one : ℕ → List PlaceStep → ℕ → Walked Datum) (mark : ℕ)
    → is_counted shape ≡ false → ((offset : ℕ) (p : List PlaceStep) (m : ℕ) → mark_of (one offset p m) ≡ Some m)
    → mark_of (view_shaped (image_in held) all field shape at place one mark) ≡ Some mark
plain_shaped held all field One at place one mark none plain = plain (at + field.offset) place mark
plain_shaped held all field (Fixed n) at place one mark none plain =
    let each : ℕ → ℕ → Walked Datum = λ k after. one (at + field.offset + k * field.size) (place ++ Nth k ∷ []) after in
    mark_of-list (view_elements each n 0 mark)
    ∙ mark_of-elements held inside.Plain field.size (at + field.offset) each n 0 mark
    (λ i m. plain (at + field.offset + i * field.size) (place ++ Nth i ∷ []) m)
    ∙ plain_elements held field.size (at + field.offset) n 0 mark
plain_shaped held all field (Counted c) at place one mark none plain = cc

mutual
  plain_tree : (held : Record) (t : Tree) (at : ℕ) (place : List PlaceStep) (mark : ℕ) → has_pointer t ≡ false
      → mark_of (view_tree (image_in held) t at place mark) ≡ Some mark
  plain_tree held (tree length branches) at place mark none =
      mark_of-made (view_branches (image_in held) branches branches at 0 place mark) (λ entries. rec entries)
      ∙ plain_branches held branches branches at 0 place mark none

  plain_branches : (held : Record) (all branches : Branches) (at k : ℕ) (place : List PlaceStep) (mark : ℕ) → have_pointer branches ≡ false
      → mark_of (view_branches (image_in held) all branches at k place mark) ≡ Some mark
  plain_branches held all no_fields at k place mark none = refl
  plain_branches held all (branch field part rest) at k place mark none =
      let here = both_false (is_counted field.shape) (part_has_pointer part || have_pointer rest) none in
      let others = both_false (part_has_pointer part) (have_pointer rest) here.1 in
      mark_of-branch (image_in held) all field part rest at k place mark
      ∙ ap (option_and_then (λ after. mark_of (view_branches (image_in held) all rest at (suc k) place after)))
      (plain_shaped held all field field.shape at (place ++ At k ∷ [])
      (λ offset place' after. view_part (image_in held) part field.size offset place' after) mark here.0
      (λ offset p m. plain_part held part field.size offset p m others.0))
      ∙ plain_branches held all rest at (suc k) place mark others.1

  plain_part : (held : Record) (part : Part) (size at : ℕ) (place : List PlaceStep) (mark : ℕ) → part_has_pointer part ≡ false
      → mark_of (view_part (image_in held) part size at place mark) ≡ Some mark
  plain_part held (number_part kind) size at place mark none = refl
  plain_part held text_part size at place mark none = cc
  plain_part held (tree_part nested) size at place mark none = plain_tree held nested at place mark none

-- ---- what has one is walked by what is inside

nested_mark : (held : Record) (m at : ℕ) (place : List PlaceStep) (mark : ℕ) (points : Bool) → has_pointer (tree_of held.layout m) ≡ points
    → mark_of (view_tree (image_in held) (tree_of held.layout m) at place mark)
    ≡ inside_mark held (if points then inside.Record m else inside.Plain) at mark
nested_mark held m at place mark true is = mark_of-tree (image_in held) (tree_of held.layout m) at place [] mark
nested_mark held m at place mark false is = plain_tree held (tree_of held.layout m) at place mark is

part_mark : (held : Record) (base : Base) (size at : ℕ) (place : List PlaceStep) (mark : ℕ)
    → mark_of (view_part (image_in held) (part_of (trees held.layout.types) base) size at place mark)
    ≡ inside_mark held (inside_of (points_in held.layout.types) base) at mark
part_mark held (Number kind) size at place mark = refl
part_mark held Text size at place mark = mark_of-string (image_in held) place [] mark (pointer_at (image_in held) at)
part_mark held (Nested m) size at place mark = nested_mark held m at place mark (points_in held.layout.types m) refl

if_either : (a b : Bool) (rest : Option ℕ) → (if a then None else (if b then None else rest)) ≡ (if a || b then None else rest)
if_either true b rest = refl
if_either false b rest = refl

counted_walk : (held : Record) (within : Inside) (size : ℕ) (place : List PlaceStep) (z : ℤ) (q : ℕ) (one : ℕ → ℕ → ℕ → Walked Datum)
    (mark : ℕ)
    → ((offset k m : ℕ) → mark_of (one offset k m) ≡ inside_mark held within offset m)
    → mark_of (view_counted (image_in held) place z q size one mark) ≡ counted_mark held within size z q mark
counted_walk held within size place (negsuc n) q one mark same = refl
counted_walk held within size place (pos zero) q one mark same = refl
counted_walk held within size place (pos (suc n)) q one mark same =
    let end : ℕ = q + suc n * size in
    let none = nat_lt q mark || nat_lt (length held.bytes) end in
    let elements : Walked Elements = view_elements (λ k after. one (q + k * size) k after) (suc n) 0 end in
    let some : Walked Datum = unless none (BlockPlace place) (λ _. as_list elements) in
    mark_of-unless (nat_eq q 0) (NullList place) (λ _. some)
    ∙ ap (λ (o : Option ℕ). if nat_eq q 0 then None else o) (mark_of-unless none (BlockPlace place) (λ _. as_list elements))
    ∙ if_either (nat_eq q 0) none (mark_of (as_list elements))
    ∙ ap (λ (o : Option ℕ). if nat_eq q 0 || none then None else o)
    (mark_of-list elements ∙ mark_of-elements held within size q (λ k after. one (q + k * size) k after) (suc n) 0 end
    (λ i m. same (q + i * size) i m))

-- the number of a count is what its field says
number_by_base : (held : Record) (field : Field) (at : ℕ) (base : Base) → CountsElements base
    → field_number (image_in held) at (Some (field, part_of (trees held.layout.types) base))
    ≡ count_at held (record { offset = field.offset; size = field.size; kind = kind_of base }) at
number_by_base held field at (Number Int) counts = refl
number_by_base held field at (Number Unsigned) counts = refl
number_by_base held field at (Number Char) counts = absurd counts
number_by_base held field at (Number Boolean) counts = absurd counts
number_by_base held field at (Number Enumeration) counts = absurd counts
number_by_base held field at Text counts = absurd counts
number_by_base held field at (Nested m) counts = absurd counts

count_number : (held : Record) (fields : List Field) (c at : ℕ) → HasShape fields (Counted c)
    → field_number (image_in held) at (branch_at (branches_of (trees held.layout.types) fields) c) ≡ count_at held (count_in fields c) at
count_number held fields c at has =
    ap (field_number (image_in held) at) (branch_at-branches_of (trees held.layout.types) fields c has.0 has.1)
    ∙ number_by_base held has.0 at has.0.base has.3 ∙ sym (ap (λ (found : Option Field). count_at held (count_from found) at) has.1)

-- a field is walked by its lead
field_mark : (held : Record) (fields : List Field) (k at : ℕ) (field : Field) (shape : Shape) (place : List PlaceStep) (mark : ℕ)
    → HasShape fields shape
    → mark_of
    (view_shaped (image_in held) (branches_of (trees held.layout.types) fields) field shape at place
    (λ offset place' after. view_part (image_in held) (part_of (trees held.layout.types) field.base) field.size offset place' after) mark)
    ≡ run_mark held (run_in fields shape) (lead_from (points_in held.layout.types) fields k field) at mark
field_mark held fields k at field One place mark has = part_mark held field.base field.size (at + field.offset) place mark
field_mark held fields k at field (Fixed n) place mark has =
    let one : ℕ → ℕ → Walked Datum =
    λ i after. view_part (image_in held) (part_of (trees held.layout.types) field.base) field.size (at + field.offset + i * field.size)
    (place ++ Nth i ∷ []) after in
    mark_of-list (view_elements one n 0 mark)
    ∙ mark_of-elements held (inside_of (points_in held.layout.types) field.base) field.size (at + field.offset) one n 0 mark
    (λ i m. part_mark held field.base field.size (at + field.offset + i * field.size) (place ++ Nth i ∷ []) m)
field_mark held fields k at field (Counted c) place mark has =
    let part = part_of (trees held.layout.types) field.base in
    let within = inside_of (points_in held.layout.types) field.base in
    let q = pointer_at (image_in held) (at + field.offset) in
    counted_walk held within field.size place (field_number (image_in held) at (branch_at (branches_of (trees held.layout.types) fields) c))
    q
    (λ offset i after. view_part (image_in held) part field.size offset (place ++ Nth i ∷ []) after) mark
    (λ offset i m. part_mark held field.base field.size offset (place ++ Nth i ∷ []) m)
    ∙ ap (λ (z : ℤ). counted_mark held within field.size z q mark) (count_number held fields c at has)

-- a field that is no lead moves no mark
unled_mark : (held : Record) (fields : List Field) (shape : Shape) (lead : Lead) (at mark : ℕ) → leads_by shape lead.inside ≡ false
    → run_mark held (run_in fields shape) lead at mark ≡ Some mark
unled_mark held fields One lead at mark none = plain_by lead.inside none
  where
    plain_by : (within : Inside) → leads_by One within ≡ false → inside_mark held within (at + lead.offset) mark ≡ Some mark
    plain_by inside.Plain none = refl
    plain_by inside.Text none = cc
    plain_by (inside.Record m) none = cc
unled_mark held fields (Fixed n) lead at mark none = plain_by lead.inside none
  where
    plain_by : (within : Inside) → leads_by (Fixed n) within ≡ false
        → elements_mark held within lead.size (at + lead.offset) n 0 mark ≡ Some mark
    plain_by inside.Plain none = plain_elements held lead.size (at + lead.offset) n 0 mark
    plain_by inside.Text none = cc
    plain_by (inside.Record m) none = cc
unled_mark held fields (Counted c) lead at mark none = cc

-- whether it leads or not, the walk goes on behind it
first_mark : (held : Record) (all : List Field) (shape : Shape) (lead : Lead) (more : List Lead) (at mark : ℕ) (leads : Bool)
    → leads_by shape lead.inside ≡ leads → lead.run ≡ run_in all shape
    → leads_mark held (with_lead (if leads then Some lead else None) more) at mark
    ≡ option_and_then (λ after. leads_mark held more at after) (run_mark held (run_in all shape) lead at mark)
first_mark held all shape lead more at mark true is run = ap (λ (r : Run). option_and_then (λ after. leads_mark held more at after)
    (run_mark held r lead at mark)) run
first_mark held all shape lead more at mark false is run =
    sym (ap (option_and_then (λ after. leads_mark held more at after)) (unled_mark held all shape lead at mark is))

-- the fields from number k on
fields_mark : (held : Record) (all fields : List Field) (at k : ℕ) (place : List PlaceStep) (mark : ℕ)
    → ((i : ℕ) (field : Field) → slice_get fields i ≡ Some field → HasShape all field.shape)
    → leads_mark held (leads_in (points_in held.layout.types) all fields k) at mark
    ≡ mark_of (view_branches (image_in held) (branches_of (trees held.layout.types) all) (branches_of (trees held.layout.types) fields) at k
    place mark)
fields_mark held all [] at k place mark shapes = refl
fields_mark held all (field ∷ fields) at k place mark shapes =
    let points = points_in held.layout.types in
    let lead = lead_from points all k field in
    let branches = branches_of (trees held.layout.types) all in
    let others = branches_of (trees held.layout.types) fields in
    let rest : ℕ → Option ℕ = λ after. leads_mark held (leads_in points all fields (suc k)) at after in
    let walked = field_mark held all k at field field.shape (place ++ At k ∷ []) mark (shapes 0 field refl) in
    first_mark held all field.shape lead (leads_in points all fields (suc k)) at mark (leads_by field.shape lead.inside) refl refl
    ∙ ap (option_and_then rest) (sym walked)
    ∙ then_same
    (mark_of
    (view_shaped (image_in held) branches field field.shape at (place ++ At k ∷ [])
    (λ offset place' after. view_part (image_in held) (part_of (trees held.layout.types) field.base) field.size offset place' after) mark))
    rest (λ after. mark_of (view_branches (image_in held) branches others at (suc k) place after))
    (λ after. fields_mark held all fields at (suc k) place after (λ i other found. shapes (suc i) other found))
    ∙ sym (mark_of-branch (image_in held) branches field (part_of (trees held.layout.types) field.base) others at k place mark)

-- a record is walked by its leads
record_mark : (held : Record) (n at mark : ℕ) → IsWellLaid held.layout → n < length held.layout.types
    → leads_mark held (leads_of held.layout n) at mark ≡ mark_of (record_walk held n at mark)
record_mark held n at mark laid below =
    let layout = held.layout in
    let found = found_below layout.types n below in
    let type = found.0 in
    let branches = branches_of (trees layout.types) type.fields in
    ap (λ (fields : List Field). leads_mark held (leads_in (points_in layout.types) fields fields 0) at mark)
    (type_fields-found layout n type found.1)
    ∙ fields_mark held type.fields type.fields at 0 [] mark
    (λ i field there. ((laid.each_type n type found.1).each_field i field there).shape_allowed)
    ∙ sym (mark_of-made (view_branches (image_in held) branches branches at 0 [] mark) (λ entries. rec entries))
    ∙ ap (λ (t : Tree). mark_of (view_tree (image_in held) t at [] mark)) (sym (tree_of-resolved layout n type laid found.1))

-- ---- steps of the loops

pub next_element : (held : Record) (within : Inside) (size from n k mark after : ℕ) → k < n
    → Some after ≡ inside_mark held within (from + k * size) mark
    → elements_mark held within size from (n - (k + 1)) (k + 1) after ≡ elements_mark held within size from (n - k) k mark
next_element held within size from n k mark after below here =
    let left : n - k ≡ suc (n - (k + 1)) = omega arith in
    ap (λ (i : ℕ). elements_mark held within size from (n - (k + 1)) i after) (add-one k)
    ∙ ap (option_and_then (λ end. elements_mark held within size from (n - (k + 1)) (suc k) end)) here
    ∙ sym (ap (λ (some : ℕ). elements_mark held within size from some k mark) left)

pub no_element : (held : Record) (within : Inside) (size from n k mark : ℕ) → k < n → None ≡ inside_mark held within (from + k * size) mark
    → None ≡ elements_mark held within size from (n - k) k mark
no_element held within size from n k mark below here =
    let left : n - k ≡ suc (n - (k + 1)) = omega arith in
    ap (option_and_then (λ end. elements_mark held within size from (n - (k + 1)) (suc k) end)) here
    ∙ sym (ap (λ (some : ℕ). elements_mark held within size from some k mark) left)

pub next_lead : (held : Record) (leads : List Lead) (d : Lead) (at k mark : ℕ) (after : Option ℕ) → k < length leads
    → after ≡ lead_mark held (get_or leads k d) at mark
    → option_and_then (λ end. leads_mark held (drop (k + 1) leads) at end) after ≡ leads_mark held (drop k leads) at mark
next_lead held leads d at k mark after below here =
    let lead = get_or leads k d in
    ap (option_and_then (λ end. leads_mark held (drop (k + 1) leads) at end)) here
    ∙ sym (next_left (λ (some : List Lead). leads_mark held some at mark) leads k lead below (get_or_default leads k d lead below))

-- the walk by leads that were read from those of the type
pub leads_read : (inner held : Record) (n at mark : ℕ) (items : List Lead) → inner ≡ held → IsWellLaid inner.layout
    → n < length held.layout.types → items ≡ leads_of inner.layout n
    → leads_mark held items at mark ≡ mark_of (record_walk held n at mark)
leads_read inner held n at mark items same laid there are = subst Here same inner_here there
  where
    Here : Record → Type 0
    Here some = n < length some.layout.types → leads_mark some items at mark ≡ mark_of (record_walk some n at mark)

    inner_here : Here inner
    inner_here there = ap (λ (leads : List Lead). leads_mark inner leads at mark) are ∙ record_mark inner n at mark laid there

-- ---- what is plain

no_lead : (leads : List Lead) → not (is_led leads) ≡ true → leads ≡ []
no_lead [] is = refl
no_lead (lead ∷ leads) is = cc

plain_base : (layout : Layout) (bytes : List ℕ) (base : Base) (size at : ℕ) (place : List PlaceStep) (mark : ℕ) → IsWellLaid layout
    → HasBaseSize layout.pointer layout.types base size → is_plain layout base ≡ true
    → mark_of (view_part (image_of layout bytes) (part_of (trees layout.types) base) size at place mark) ≡ Some mark
plain_base layout bytes (Number kind) size at place mark laid sized is = refl
plain_base layout bytes Text size at place mark laid sized is = cc
plain_base layout bytes (Nested m) size at place mark laid sized is =
    let held = record_of layout bytes in
    let below = slice_get-below layout.types m sized.0 sized.1 in
    mark_of-tree (image_in held) (tree_of layout m) at place [] mark
    ∙ sym (record_mark held m at mark laid below)
    ∙ ap (λ (leads : List Lead). leads_mark held leads at mark) (no_lead (leads_of layout m) is)

unmoved : {A : Type 0} (walked : Walked A) (mark : ℕ) → mark_of walked ≡ Some mark → Ok mark ≡ marked walked
unmoved (read value other) mark is = let same : other ≡ mark = cc in ap (λ (n : ℕ). Ok n) (sym same)
unmoved (broken fault) mark is = cc

-- a plain part has no fault, and leaves the mark
pub plain_part_marked : (layout : Layout) (bytes : List ℕ) (field : Field) (at : ℕ) (place : List PlaceStep) (mark : ℕ) → IsWellLaid layout
    → HasBaseSize layout.pointer layout.types field.base field.size → true ≡ is_plain layout field.base
    → Ok mark ≡ marked (walk_part layout bytes field at place mark)
plain_part_marked layout bytes field at place mark laid sized is =
    unmoved (walk_part layout bytes field at place mark) mark (plain_base layout bytes field.base field.size at place mark laid sized
    (sym is))

-- and so do plain elements
pub plain_elements_marked : (layout : Layout) (bytes : List ℕ) (field : Field) (from : ℕ) (place : List PlaceStep) (n k mark : ℕ)
    → IsWellLaid layout
    → HasBaseSize layout.pointer layout.types field.base field.size → true ≡ is_plain layout field.base
    → Ok mark ≡ marked (walk_elements layout bytes field from place n k mark)
plain_elements_marked layout bytes field from place n k mark laid sized is =
    let one : ℕ → ℕ → Walked Datum = λ i after. walk_part layout bytes field (from + i * field.size) (place ++ Nth i ∷ []) after in
    unmoved (walk_elements layout bytes field from place n k mark) mark
    (mark_of-elements (record_of layout bytes) inside.Plain field.size from one n k mark
    (λ i m. plain_base layout bytes field.base field.size (from + i * field.size) (place ++ Nth i ∷ []) m laid sized (sym is))
    ∙ plain_elements (record_of layout bytes) field.size from n k mark)
