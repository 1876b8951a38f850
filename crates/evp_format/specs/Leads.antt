-- The fields of a type that have a pointer or lead to one, in listed order: all that can fail in a
-- record's bytes beside its length.
use Rattle.std.specs.Prelude.{◌≡◌, ◌-◌, ◌&&◌, ◌||◌, ℕ, suc, nat_eq, Bool, true, false}
use Rattle.std.specs.Prelude.{List, [], ◌∷◌, length, map, get_or}
use Rattle.std.specs.Prelude.{slice_get, if◌then◌else◌, Option, Some, None}
use Rattle.std.specs.List.{list_all}
use Rattle.evp_base.specs.declared.kind.Kind.{Kind}
use Rattle.evp_base.specs.declared.kind.Kind.TheVariants as kind
use Rattle.evp_format.specs.declared.field.Base.{Base}
use Rattle.evp_format.specs.declared.field.Base.TheVariants.{Number, Text, Nested}
use Rattle.evp_format.specs.declared.field.Field.{Field}
use Rattle.evp_format.specs.declared.field.Shape.{Shape}
use Rattle.evp_format.specs.declared.field.Shape.TheVariants.{One, Fixed, Counted}
use Rattle.evp_format.specs.declared.lead.Count.{Count}
use Rattle.evp_format.specs.declared.lead.Inside.{Inside}
use Rattle.evp_format.specs.declared.lead.Inside.TheVariants as inside
use Rattle.evp_format.specs.declared.lead.Lead.{Lead}
use Rattle.evp_format.specs.declared.lead.Run.{Run}
use Rattle.evp_format.specs.declared.lead.Run.TheVariants as run
use Rattle.evp_format.specs.declared.record_type.RecordType.{RecordType}
use Rattle.evp_format.specs.Class.{type_fields}
use Rattle.evp_format.specs.Layout.{Layout}
use Rattle.evp_format.specs.Tree.{Tree, tree, Branches, no_fields, branch, Part, number_part}
use Rattle.evp_format.specs.Tree.{text_part, tree_part, empty_tree, trees}
use Rattle.evp_format.specs.WellLaid.{IsWellLaid, HasShape}

abbrev pub is_counted : Shape → Bool
is_counted One = false
is_counted (Fixed n) = false
is_counted (Counted c) = true

abbrev mutual
  -- whether a record of this type has a pointer, its nested records included
  pub has_pointer : Tree → Bool
  has_pointer (tree length branches) = have_pointer branches

  pub have_pointer : Branches → Bool
  have_pointer no_fields = false
  have_pointer (branch field part rest) = is_counted field.shape
      || (part_has_pointer part || have_pointer rest)

  pub part_has_pointer : Part → Bool
  part_has_pointer (number_part kind) = false
  part_has_pointer text_part = true
  part_has_pointer (tree_part nested) = has_pointer nested

-- what stands inside an element of a base, where `points` tells which types have a pointer
abbrev pub inside_of : (ℕ → Bool) → Base → Inside
inside_of points (Number kind) = inside.Plain
inside_of points Text = inside.Text
inside_of points (Nested type_number) = if points type_number then inside.Record type_number
    else inside.Plain

abbrev pub kind_of : Base → Kind
kind_of (Number kind) = kind
kind_of Text = kind.Unsigned
kind_of (Nested type_number) = kind.Unsigned

abbrev pub count_from : Option Field → Count
count_from None = record { offset = 0; size = 0; kind = kind.Unsigned }
count_from (Some field) = record {
  offset = field.offset;
  size = field.size;
  kind = kind_of field.base;
}

-- the count field of this number
abbrev pub count_in : List Field → ℕ → Count
count_in fields c = count_from (slice_get fields c)

abbrev pub run_in : List Field → Shape → Run
run_in fields One = run.One
run_in fields (Fixed n) = run.Fixed n
run_in fields (Counted c) = run.Counted (count_in fields c)

-- whether a field has a pointer or leads to one, by its shape and what is inside
abbrev pub leads_by : Shape → Inside → Bool
leads_by (Counted c) within = true
leads_by One inside.Plain = false
leads_by One inside.Text = true
leads_by One (inside.Record type_number) = true
leads_by (Fixed n) inside.Plain = false
leads_by (Fixed n) inside.Text = true
leads_by (Fixed n) (inside.Record type_number) = true

-- field k of a type with the fields `all`, as a lead
abbrev pub lead_from : (ℕ → Bool) → List Field → ℕ → Field → Lead
lead_from points all k field = record {
  number = k;
  offset = field.offset;
  size = field.size;
  run = run_in all field.shape;
  inside = inside_of points field.base;
}

-- field k where it is a lead
abbrev pub lead_in : (ℕ → Bool) → List Field → ℕ → Field → Option Lead
lead_in points all k field = if leads_by field.shape (inside_of points field.base)
    then Some (lead_from points all k field) else None

abbrev pub with_lead : Option Lead → List Lead → List Lead
with_lead None leads = leads
with_lead (Some lead) leads = lead ∷ leads

-- the leads among these fields, from number k on, of a type with the fields `all`
abbrev pub leads_in : (ℕ → Bool) → List Field → List Field → ℕ → List Lead
leads_in points all [] k = []
leads_in points all (field ∷ fields) k =
    with_lead (lead_in points all k field) (leads_in points all fields (suc k))

-- whether the type of this number has a pointer
abbrev pub points_in : List RecordType → ℕ → Bool
points_in types type_number = has_pointer (get_or (trees types) type_number empty_tree)

-- the leads of one of these types, and of each of them
abbrev pub type_leads : List RecordType → List Field → List Lead
type_leads types fields = leads_in (points_in types) fields fields 0

abbrev pub all_leads : List RecordType → List (List Lead)
all_leads types = map (λ (type : RecordType). type_leads types type.fields) types

-- the leads of the type of this number
abbrev pub leads_of : Layout → ℕ → List Lead
leads_of layout type_number = type_leads layout.types (type_fields layout type_number)

-- the leads of the record
abbrev pub leads_of_root : Layout → List Lead
leads_of_root layout = leads_of layout (length layout.types - 1)

-- whether a glance tells of elements with that inside: of a single string, and of an array of
-- elements without a pointer that is counted in 4 bytes
abbrev pub is_glanced_run : Run → Inside → Bool
is_glanced_run run.One inside.Plain = false
is_glanced_run run.One inside.Text = true
is_glanced_run run.One (inside.Record type_number) = false
is_glanced_run (run.Fixed n) within = false
is_glanced_run (run.Counted count) inside.Plain = nat_eq count.size 4
is_glanced_run (run.Counted count) inside.Text = false
is_glanced_run (run.Counted count) (inside.Record type_number) = false

abbrev pub is_glanced_lead : Lead → Bool
is_glanced_lead lead = is_glanced_run lead.run lead.inside

-- whether pointers have 8 bytes and a glance tells of each lead of the record
abbrev pub is_glanced : Layout → Bool
is_glanced layout = nat_eq layout.pointer 8 && list_all is_glanced_lead (leads_of_root layout)

-- whether a type has a lead, by the leads of each type
abbrev pub is_led : List Lead → Bool
is_led [] = false
is_led (lead ∷ leads) = true

abbrev pub has_lead : List (List Lead) → ℕ → Bool
has_lead all type_number = is_led (get_or all type_number [])

-- each counted array has a count among these fields
abbrev pub HaveCounts : List Field → Type 0
HaveCounts fields = (k : ℕ) (field : Field) → slice_get fields k ≡ Some field
    → HasShape fields field.shape

-- the types of a well laid format
pub record AreLaidTypes (types : List RecordType) : Type 0 where
  pub layout : Layout
  pub laid : IsWellLaid layout
  pub has_types : layout.types ≡ types
