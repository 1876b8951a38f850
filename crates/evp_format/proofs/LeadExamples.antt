-- The leads of worked types.
use Rattle.std.proofs.Common.{◌≡◌, ℕ, Bool, true, false, [], ◌∷◌, List, map, refl}
use Rattle.std.specs.Prelude.{pos, codes}
use Rattle.std.specs.Fmt.{digits}
use Rattle.evp_base.specs.declared.kind.Kind.TheVariants.{Int, Unsigned}
use Rattle.evp_base.specs.declared.order.Order.TheVariants.{Little}
use Rattle.evp_base.specs.declared.step.Step.TheVariants as step
use Rattle.evp_format.specs.declared.broken.Broken.TheVariants.{ShortRecord, NegativeCount, NoEnd}
use Rattle.evp_format.specs.declared.field.Base.{Base}
use Rattle.evp_format.specs.declared.field.Base.TheVariants.{Number, Text, Nested}
use Rattle.evp_format.specs.declared.field.Field.{Field}
use Rattle.evp_format.specs.declared.field.Shape.{Shape}
use Rattle.evp_format.specs.declared.field.Shape.TheVariants.{One, Fixed, Counted}
use Rattle.evp_format.specs.declared.lead.Inside.TheVariants as inside
use Rattle.evp_format.specs.declared.lead.Run.TheVariants as run
use Rattle.evp_format.specs.declared.record_type.RecordType.{RecordType}
use Rattle.evp_format.specs.BrokenText.{broken_text}
use Rattle.evp_format.specs.Layout.{Layout}
use Rattle.evp_format.specs.Leads.{leads_of, leads_of_root, is_glanced}

abbrev field_of : List ℕ → Base → Shape → ℕ → ℕ → Field
field_of name base shape size offset = record { name = name; base = base; shape = shape; size = size; offset = offset; fallback = pos 0 }

-- `{id unsigned integer 4, x integer 4, tag string, n integer 4, v integer[n] 2}`
abbrev five_fields : RecordType
five_fields = record {
  name = codes "s";
  length = 20;
  fields =
      field_of (codes "id") (Number Unsigned) One 4 0 ∷ field_of (codes "x") (Number Int) One 4 4 ∷ field_of (codes "tag") Text One 4 8
      ∷ field_of (codes "n") (Number Int) One 4 12 ∷ field_of (codes "v") (Number Int) (Counted 3) 2 16 ∷ [];
}

-- `{a integer 4, b integer[2] 2}`
abbrev plain : RecordType
plain = record {
  name = codes "p";
  length = 8;
  fields = field_of (codes "a") (Number Int) One 4 0
      ∷ field_of (codes "b") (Number Int) (Fixed 2) 2 4 ∷ [];
}

-- `{p p, s s[2], n integer 4, l p[n]}`
abbrev outer : RecordType
outer = record {
  name = codes "r";
  length = 56;
  fields =
      field_of (codes "p") (Nested 1) One 8 0 ∷ field_of (codes "s") (Nested 0) (Fixed 2) 20 8 ∷ field_of (codes "n") (Number Int) One 4 48
      ∷ field_of (codes "l") (Nested 1) (Counted 2) 8 52 ∷ [];
}

abbrev layout : Layout
layout = record { order = Little; pointer = 4; types = five_fields ∷ plain ∷ outer ∷ [] }

-- the string, and the array by its count
of_five_fields : leads_of layout 0
    ≡ record { number = 2; offset = 8; size = 4; run = run.One; inside = inside.Text }
    ∷ record { number = 4; offset = 16; size = 2; run = run.Counted (record { offset = 12; size = 4; kind = Int }); inside = inside.Plain }
    ∷ []
of_five_fields = refl

-- numbers lead nowhere
of_plain : leads_of layout 1 ≡ []
of_plain = refl

-- a record without pointers is none, an array of records with pointers is one, and so is a counted array of records without
of_outer : leads_of layout 2
    ≡ record { number = 1; offset = 8; size = 20; run = run.Fixed 2; inside = inside.Record 0 }
    ∷ record { number = 3; offset = 52; size = 8; run = run.Counted (record { offset = 48; size = 4; kind = Int }); inside = inside.Plain }
    ∷ []
of_outer = refl

-- there is no such type
of_none : leads_of layout 3 ≡ []
of_none = refl

-- the leads of the last type are those of the record
of_root : leads_of_root layout ≡ leads_of layout 2
of_root = refl

-- ---- what a glance tells of

abbrev with_pointers : ℕ → List RecordType → Layout
with_pointers pointer types = record { order = Little; pointer = pointer; types = types }

-- a type of these fields behind `n`, a number of so many bytes
abbrev counted_by : ℕ → List Field → RecordType
counted_by size fields = record {
  name = codes "c";
  length = 32;
  fields = field_of (codes "n") (Number Unsigned) One size 0 ∷ fields;
}

abbrev tag_here : Field
tag_here = field_of (codes "tag") Text One 8 8

-- the record is the last type, behind `s` of `five_fields` and `p` of `plain`
abbrev glances : List (List Field) → List Bool
glances rows = map
    (λ (fields : List Field). is_glanced (with_pointers 8 (five_fields ∷ plain ∷ counted_by 4 fields ∷ [])))
    rows

-- numbers, a string, an array of numbers, one of records without pointers, a record without, and all of them
told : glances ([] ∷ (tag_here ∷ [])
    ∷ (field_of (codes "v") (Number Int) (Counted 0) 2 16 ∷ [])
    ∷ (field_of (codes "l") (Nested 1) (Counted 0) 8 16 ∷ [])
    ∷ (field_of (codes "p") (Nested 1) One 8 16 ∷ [])
    ∷ (tag_here ∷ field_of (codes "v") (Number Int) (Counted 0) 2 16 ∷ field_of (codes "l") (Nested 1) (Counted 0) 8 24 ∷ [])
    ∷ [])
    ≡ true ∷ true ∷ true ∷ true ∷ true ∷ true ∷ []
told = refl

-- two strings side by side, a counted array of strings, a record with pointers, two of them, a counted array of them, and one of
-- these in front of a string or behind it
untold : glances ((field_of (codes "t") Text (Fixed 2) 8 8 ∷ [])
    ∷ (field_of (codes "t") Text (Counted 0) 8 8 ∷ [])
    ∷ (field_of (codes "s") (Nested 0) One 20 8 ∷ [])
    ∷ (field_of (codes "s") (Nested 0) (Fixed 2) 20 8 ∷ [])
    ∷ (field_of (codes "s") (Nested 0) (Counted 0) 20 8 ∷ [])
    ∷ (field_of (codes "t") Text (Counted 0) 8 16 ∷ tag_here ∷ [])
    ∷ (tag_here ∷ field_of (codes "t") Text (Counted 0) 8 16 ∷ [])
    ∷ [])
    ≡ false ∷ false ∷ false ∷ false ∷ false ∷ false ∷ false ∷ []
untold = refl

-- an array that is counted in so many bytes
by_counts : map
    (λ (size : ℕ). is_glanced (with_pointers 8 (counted_by size (field_of (codes "v") (Number Int) (Counted 0) 2 8 ∷ []) ∷ [])))
    (1 ∷ 2 ∷ 4 ∷ 8 ∷ [])
    ≡ false ∷ false ∷ true ∷ false ∷ []
by_counts = refl

-- pointers of 4 bytes and of 8, with and without leads, a record with records that lead on, and a type of these in front of the record
by_pointers : is_glanced (with_pointers 4 (five_fields ∷ [])) ∷ is_glanced (with_pointers 8 (five_fields ∷ []))
    ∷ is_glanced (with_pointers 4 (plain ∷ [])) ∷ is_glanced (with_pointers 8 (plain ∷ []))
    ∷ is_glanced (with_pointers 8 (five_fields ∷ plain ∷ outer ∷ []))
    ∷ is_glanced (with_pointers 8 (five_fields ∷ plain ∷ outer ∷ five_fields ∷ [])) ∷ []
    ≡ false ∷ true ∷ false ∷ true ∷ false ∷ true ∷ []
by_pointers = refl

-- ---- faults

short : broken_text ShortRecord [] ≡ codes "short record"
short = refl

negative : broken_text (NegativeCount []) (step.Field (codes "a") ∷ step.Index 3 ∷ []) ≡ codes "negative count a[3]"
unfolding digits
negative = refl

unended : broken_text (NoEnd []) (step.Field (codes "s") ∷ step.Field (codes "t") ∷ []) ≡ codes "no end s.t"
unended = refl
