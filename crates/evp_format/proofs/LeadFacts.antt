-- The leads of a type: none exactly where its tree has no pointer.
use Rattle.std.proofs.Common.{◌≡◌, ℕ, zero, suc, ◌+◌, ◌<◌, ◌≤◌, Bool, true, false, ◌||◌, List, [], ◌∷◌, ◌++◌, map, length, get_or, take}
use Rattle.std.proofs.Common.{drop, if◌then◌else◌, Option, Some, None, refl, sym, ap, ◌∙◌, subst, arith, add-one, append-nil}
use Rattle.std.specs.Prelude.{slice_get}
use Rattle.std.proofs.lemmas.List.{get_or-map, map_more}
use Rattle.evp_format.specs.declared.field.Base.{Base}
use Rattle.evp_format.specs.declared.field.Base.TheVariants.{Number, Text, Nested}
use Rattle.evp_format.specs.declared.field.Field.{Field}
use Rattle.evp_format.specs.declared.field.Shape.{Shape}
use Rattle.evp_format.specs.declared.field.Shape.TheVariants.{One, Fixed, Counted}
use Rattle.evp_format.specs.declared.lead.Inside.{Inside}
use Rattle.evp_format.specs.declared.lead.Inside.TheVariants as inside
use Rattle.evp_format.specs.declared.lead.Lead.{Lead}
use Rattle.evp_format.specs.declared.record_type.RecordType.{RecordType}
use Rattle.evp_format.specs.Layout.{Layout}
use Rattle.evp_format.specs.Leads.{is_counted, has_pointer, have_pointer, part_has_pointer, inside_of, leads_by, lead_from, lead_in}
use Rattle.evp_format.specs.Leads.{with_lead, leads_in, points_in, type_leads, is_led, has_lead, run_in, AreLaidTypes, HaveCounts}
use Rattle.evp_format.specs.Tree.{Tree, branches_of, part_of, empty_tree, trees}
use Rattle.evp_format.specs.WellLaid.{IsWellLaid, IsLaidType, HasBaseSize}
use Rattle.evp_format.proofs.Lists.{found_at}
use Rattle.evp_format.proofs.Loops.{next_left, ends}
use Rattle.evp_format.proofs.Trees.{tree_of-resolved, slice_get-below, slice_get-take}

-- something stands inside exactly where the part has a pointer
abbrev is_inside : Inside → Bool
is_inside inside.Plain = false
is_inside inside.Text = true
is_inside (inside.Record type_number) = true

leads_by-either : (shape : Shape) (within : Inside) → leads_by shape within ≡ is_counted shape || is_inside within
leads_by-either One inside.Plain = refl
leads_by-either One inside.Text = refl
leads_by-either One (inside.Record n) = refl
leads_by-either (Fixed m) inside.Plain = refl
leads_by-either (Fixed m) inside.Text = refl
leads_by-either (Fixed m) (inside.Record n) = refl
leads_by-either (Counted c) within = refl

is_inside-part : (points : ℕ → Bool) (all : List Tree) (base : Base) → ((n : ℕ) → points n ≡ has_pointer (get_or all n empty_tree))
    → is_inside (inside_of points base) ≡ part_has_pointer (part_of all base)
is_inside-part points all (Number kind) same = refl
is_inside-part points all Text same = refl
is_inside-part points all (Nested n) same = told (points n) n ∙ same n
  where
    told : (r : Bool) (n : ℕ) → is_inside (if r then inside.Record n else inside.Plain) ≡ r
    told true n = refl
    told false n = refl

is_led-with_lead : (r : Bool) (lead : Lead) (leads : List Lead)
    → is_led (with_lead (if r then Some lead else None) leads) ≡ r || is_led leads
is_led-with_lead true lead leads = refl
is_led-with_lead false lead leads = refl

or_assoc : (a b c : Bool) → (a || b) || c ≡ a || (b || c)
or_assoc true b c = refl
or_assoc false b c = refl

-- some of these fields leads exactly where some of them has a pointer
is_led-fields : (points : ℕ → Bool) (trees : List Tree) (all fields : List Field) (k : ℕ)
    → ((n : ℕ) → points n ≡ has_pointer (get_or trees n empty_tree))
    → is_led (leads_in points all fields k) ≡ have_pointer (branches_of trees fields)
is_led-fields points trees all [] k same = refl
is_led-fields points trees all (field ∷ fields) k same =
    let within = inside_of points field.base in
    let first = leads_by-either field.shape within ∙ ap (λ r. is_counted field.shape || r) (is_inside-part points trees field.base same) in
    is_led-with_lead (leads_by field.shape within) (lead_from points all k field) (leads_in points all fields (suc k))
    ∙ ap (λ r. r || is_led (leads_in points all fields (suc k))) first
    ∙ or_assoc (is_counted field.shape) (part_has_pointer (part_of trees field.base)) (is_led (leads_in points all fields (suc k)))
    ∙ ap (λ r. is_counted field.shape || (part_has_pointer (part_of trees field.base) || r))
    (is_led-fields points trees all fields (suc k) same)

-- the type of a number has a lead exactly where its tree has a pointer
is_led-type : (layout : Layout) (k : ℕ) (type : RecordType) → IsWellLaid layout → slice_get layout.types k ≡ Some type
    → is_led (type_leads layout.types type.fields) ≡ points_in layout.types k
is_led-type layout k type laid found =
    is_led-fields (points_in layout.types) (trees layout.types) type.fields type.fields 0 (λ n. refl)
    ∙ ap has_pointer (sym (tree_of-resolved layout k type laid found))

pub found_get : (types : List RecordType) (n : ℕ) (type : RecordType) → slice_get types n ≡ Some type → get_or types n type ≡ type
found_get [] n type found = cc
found_get (first ∷ types) zero type found = cc
found_get (first ∷ types) (suc n) type found = found_get types n type found

-- what is inside a base that names an earlier type, by the leads of the earlier types
inside-earlier : (layout : Layout) (k : ℕ) (base : Base) (size : ℕ) → IsWellLaid layout → k < length layout.types
    → HasBaseSize layout.pointer (take k layout.types) base size
    → inside_of (has_lead (map (λ (type : RecordType). type_leads layout.types type.fields) (take k layout.types))) base
    ≡ inside_of (points_in layout.types) base
inside-earlier layout k (Number kind) size laid below sized = refl
inside-earlier layout k Text size laid below sized = refl
inside-earlier layout k (Nested n) size laid below sized =
    let leads_by_type = λ (type : RecordType). type_leads layout.types type.fields in
    let earlier = slice_get-below (take k layout.types) n sized.0 sized.1 in
    let there = slice_get-take layout.types k n sized.0 sized.1 in
    let told : has_lead (map leads_by_type (take k layout.types)) n ≡ points_in layout.types n =
    ap is_led (get_or-map leads_by_type (take k layout.types) n sized.0 [] earlier
    ∙ ap leads_by_type (found_get (take k layout.types) n sized.0 sized.1))
    ∙ is_led-type layout n sized.0 laid there in
    ap (λ r. if r then inside.Record n else inside.Plain) told

leads_in-same : (points points' : ℕ → Bool) (all fields : List Field) (k : ℕ)
    → ((i : ℕ) (field : Field) → slice_get fields i ≡ Some field → inside_of points field.base ≡ inside_of points' field.base)
    → leads_in points all fields k ≡ leads_in points' all fields k
leads_in-same points points' all [] k same = refl
leads_in-same points points' all (field ∷ fields) k same =
    let lead_with : Inside → Option Lead = λ within. if leads_by field.shape within
    then Some (record { number = k; offset = field.offset; size = field.size; run = run_in all field.shape; inside = within })
    else None in
    ap (λ within. with_lead (lead_with within) (leads_in points all fields (suc k))) (same 0 field refl)
    ∙ ap (with_lead (lead_in points' all k field))
    (leads_in-same points points' all fields (suc k) (λ i other found. same (suc i) other found))

-- the leads of the type behind k earlier ones
leads_of_earlier : (types : List RecordType) (k : ℕ) (type : RecordType) → AreLaidTypes types → slice_get types k ≡ Some type
    → leads_in (has_lead (map (λ (other : RecordType). type_leads types other.fields) (take k types))) type.fields type.fields 0
    ≡ type_leads types type.fields
leads_of_earlier types k type are found =
    subst Same are.has_types (leads_in-same _ _ type.fields type.fields 0
    (λ i field at. inside-earlier are.layout k field.base field.size are.laid (slice_get-below are.layout.types k type there)
    ((each.each_field i field at).size_allowed)))
  where
    there : slice_get are.layout.types k ≡ Some type
    there = ap (λ (some : List RecordType). slice_get some k) are.has_types ∙ found

    each : IsLaidType are.layout.pointer (take k are.layout.types) type
    each = are.laid.each_type k type there

    Same : List RecordType → Type 0
    Same some = leads_in (has_lead (map (λ (other : RecordType). type_leads some other.fields) (take k some))) type.fields type.fields 0
        ≡ type_leads some type.fields

-- a well laid type has few fields, and each counted array of it a count
pub fields_there : (types : List RecordType) (k : ℕ) (type : RecordType) (fields : List Field) → AreLaidTypes types → k < length types
    → type ≡ get_or types k type
    → fields ≡ type.fields → (length fields < 65536) × HaveCounts fields
fields_there types k type fields are below is same =
    let found : slice_get are.layout.types k ≡ Some type = ap (λ (some : List RecordType). slice_get some k) are.has_types
    ∙ found_at types types k type refl below is in
    let each = are.laid.each_type k type found in
    let most = each.fields_allowed.1 in
    let Kept : List Field → Type 0 = λ some. (length some < 65536) × HaveCounts some in
    subst Kept (sym same) (omega (arith, most), λ i field at. (each.each_field i field at).shape_allowed)

-- one type further
pub next_leads : (types : List RecordType) (leads : List (List Lead)) (k : ℕ) (type : RecordType) (fields : List Field) (own : List Lead)
    → AreLaidTypes types → k < length types
    → type ≡ get_or types k type → leads ≡ map (λ (other : RecordType). type_leads types other.fields) (take k types) → fields ≡ type.fields
    → own ≡ leads_in (has_lead leads) fields fields 0 → leads ++ own ∷ []
    ≡ map (λ (other : RecordType). type_leads types other.fields) (take (k + 1) types)
next_leads types leads k type fields own are below is so_far same made =
    let of_type = λ (other : RecordType). type_leads types other.fields in
    let here = leads_of_earlier types k type are (found_at types types k type refl below is) in
    let told : own ≡ of_type (get_or types k type) =
    made ∙ ap (λ some. leads_in (has_lead some) fields fields 0) so_far
    ∙ ap (λ some. leads_in (has_lead (map of_type (take k types))) some some 0) same ∙ here ∙ ap of_type is in
    ap (λ some. some ++ own ∷ []) so_far ∙ ap (λ last. map of_type (take k types) ++ last ∷ []) told
    ∙ sym (map_more of_type types k type below)

-- one field further
pub next_lead : (points : ℕ → Bool) (all : List Field) (so_far : List Lead) (k : ℕ) (field : Field) (found : Option Lead) → k < length all
    → field ≡ get_or all k field
    → found ≡ lead_in points all k field → so_far ++ leads_in points all (drop k all) k ≡ leads_in points all all 0
    → so_far ++ with_lead found (leads_in points all (drop (k + 1) all) (k + 1)) ≡ leads_in points all all 0
next_lead points all so_far k field found below is told invariant =
    ap (λ lead. so_far ++ with_lead lead (leads_in points all (drop (k + 1) all) (k + 1))) told
    ∙ ap (λ n. so_far ++ with_lead (lead_in points all k field) (leads_in points all (drop (k + 1) all) n)) (add-one k)
    ∙ sym (ap (λ rest. so_far ++ rest) (next_left (λ rest. leads_in points all rest k) all k field below is)) ∙ invariant

-- no field is left
pub last_lead : (points : ℕ → Bool) (all : List Field) (so_far : List Lead) (k : ℕ) → length all ≤ k
    → so_far ++ leads_in points all (drop k all) k ≡ leads_in points all all 0
    → so_far ≡ leads_in points all all 0
last_lead points all so_far k past invariant =
    ends (λ i rest. so_far ++ leads_in points all rest i) all k _ so_far past (append-nil so_far) invariant
