-- That `==` tells which fields, types and formats are the same, and so is an equivalence.
use Rattle.std.specs.Prelude.{◌≡◌, ℕ, Bool, true, false, ◌&&◌, nat_eq, ℤ, List, [], ◌∷◌, get_or}
use Rattle.std.specs.Bool.{Decides}
use Rattle.std.specs.Cmp.{IsEquivalence, decided, unsigned_Decides, signed_Decides}
use Rattle.std.specs.Cmp.Lexicographic.{pointwise, bytes_decides, pointwise_decides}
use Rattle.std.proofs.Common.{ap, refl, sym, ◌∙◌}
use Rattle.std.proofs.lemmas.Bool.{false≢true}
use Rattle.evp_base.specs.declared.kind.Kind.{Kind}
use Rattle.evp_base.specs.declared.kind.Kind.TheVariants.{Int, Unsigned, Char, Boolean, Enumeration}
use Rattle.evp_base.specs.declared.order.Order.{Order}
use Rattle.evp_base.specs.declared.order.Order.TheVariants.{Little, Big}
use Rattle.evp_format.specs.declared.field.Base.{Base}
use Rattle.evp_format.specs.declared.field.Base.TheVariants.{Number, Text, Nested}
use Rattle.evp_format.specs.declared.field.Field.{Field}
use Rattle.evp_format.specs.declared.field.Shape.{Shape}
use Rattle.evp_format.specs.declared.field.Shape.TheVariants.{One, Fixed, Counted}
use Rattle.evp_format.specs.declared.record_type.RecordType.{RecordType}
use Rattle.evp_format.specs.Layout.{Layout}
use Rattle.evp_format.specs.Equality.{order_eq, kind_number, kind_eq, base_eq, shape_eq, field_eq}
use Rattle.evp_format.specs.Equality.{fields_eq, type_eq, layout_eq}

-- two tests decide both facts
pub and-Decides : {P Q : Type 0} → (r s : Bool) → Decides r P → Decides s Q
    → Decides (r && s) (P × Q)
and-Decides true true p q = (λ told. (p.0 refl, q.0 refl), λ both. refl)
and-Decides true false p q = (λ told. absurd (false≢true told), λ both. q.1 both.1)
and-Decides false s p q = (λ told. absurd (false≢true told), λ both. p.1 both.0)

-- a test of a fact decides each fact that is as true
pub Decides-along : {P Q : Type 0} → (r : Bool) → (P → Q) → (Q → P) → Decides r P → Decides r Q
Decides-along r there back decides = (λ told. there (decides.0 told), λ fact. decides.1 (back fact))

pub order_eq-Decides : (order other : Order) → Decides (order_eq order other) (order ≡ other)
order_eq-Decides Little Little = (λ told. refl, λ e. refl)
order_eq-Decides Little Big = (
  λ told. absurd (false≢true told),
  λ e. ap (λ (order : Order). order_eq order Big) e,
)
order_eq-Decides Big Little = (
  λ told. absurd (false≢true told),
  λ e. ap (λ (order : Order). order_eq order Little) e,
)
order_eq-Decides Big Big = (λ told. refl, λ e. refl)

-- the kind at a place
abbrev kind_at : ℕ → Kind
kind_at n = get_or (Int ∷ Unsigned ∷ Char ∷ Boolean ∷ Enumeration ∷ []) n Int

kind_at-kind_number : (kind : Kind) → kind_at (kind_number kind) ≡ kind
kind_at-kind_number Int = refl
kind_at-kind_number Unsigned = refl
kind_at-kind_number Char = refl
kind_at-kind_number Boolean = refl
kind_at-kind_number Enumeration = refl

pub kind_eq-Decides : (kind other : Kind) → Decides (kind_eq kind other) (kind ≡ other)
kind_eq-Decides kind other =
    Decides-along (kind_eq kind other) (λ same. sym (kind_at-kind_number kind) ∙ ap kind_at same
    ∙ kind_at-kind_number other) (λ same. ap kind_number same)
    (unsigned_Decides (kind_number kind) (kind_number other))

-- the parts of a base, where it has them
abbrev base_rank : Base → ℕ
base_rank (Number kind) = 0
base_rank Text = 1
base_rank (Nested n) = 2

abbrev base_kind : Base → Kind
base_kind (Number kind) = kind
base_kind Text = Int
base_kind (Nested n) = Int

abbrev base_type : Base → ℕ
base_type (Number kind) = 0
base_type Text = 0
base_type (Nested n) = n

pub base_eq-Decides : (base other : Base) → Decides (base_eq base other) (base ≡ other)
base_eq-Decides (Number kind) (Number other) =
    Decides-along (kind_eq kind other)
    (λ same. ap Number same) (λ e. ap base_kind e) (kind_eq-Decides kind other)
base_eq-Decides (Number kind) Text = (
  λ told. absurd (false≢true told),
  λ e. ap (λ (base : Base). nat_eq (base_rank base) (base_rank Text)) e,
)
base_eq-Decides (Number kind) (Nested n) = (
  λ told. absurd (false≢true told),
  λ e. ap (λ (base : Base). nat_eq (base_rank base) (base_rank (Nested n))) e,
)
base_eq-Decides Text (Number kind) = (
  λ told. absurd (false≢true told),
  λ e. ap (λ (base : Base). nat_eq (base_rank base) (base_rank (Number kind))) e,
)
base_eq-Decides Text Text = (λ told. refl, λ e. refl)
base_eq-Decides Text (Nested n) = (
  λ told. absurd (false≢true told),
  λ e. ap (λ (base : Base). nat_eq (base_rank base) (base_rank (Nested n))) e,
)
base_eq-Decides (Nested n) (Number kind) = (
  λ told. absurd (false≢true told),
  λ e. ap (λ (base : Base). nat_eq (base_rank base) (base_rank (Number kind))) e,
)
base_eq-Decides (Nested n) Text = (
  λ told. absurd (false≢true told),
  λ e. ap (λ (base : Base). nat_eq (base_rank base) (base_rank Text)) e,
)
base_eq-Decides (Nested n) (Nested m) =
    Decides-along (nat_eq n m) (λ same. ap Nested same) (λ e. ap base_type e) (unsigned_Decides n m)

-- the parts of a shape, where it has them
abbrev shape_rank : Shape → ℕ
shape_rank One = 0
shape_rank (Fixed n) = 1
shape_rank (Counted n) = 2

abbrev shape_number : Shape → ℕ
shape_number One = 0
shape_number (Fixed n) = n
shape_number (Counted n) = n

pub shape_eq-Decides : (shape other : Shape) → Decides (shape_eq shape other) (shape ≡ other)
shape_eq-Decides One One = (λ told. refl, λ e. refl)
shape_eq-Decides One (Fixed n) = (
  λ told. absurd (false≢true told),
  λ e. ap (λ (shape : Shape). nat_eq (shape_rank shape) (shape_rank (Fixed n))) e,
)
shape_eq-Decides One (Counted n) = (
  λ told. absurd (false≢true told),
  λ e. ap (λ (shape : Shape). nat_eq (shape_rank shape) (shape_rank (Counted n))) e,
)
shape_eq-Decides (Fixed n) One = (
  λ told. absurd (false≢true told),
  λ e. ap (λ (shape : Shape). nat_eq (shape_rank shape) (shape_rank One)) e,
)
shape_eq-Decides (Fixed n) (Fixed m) =
    Decides-along (nat_eq n m) (λ same. ap Fixed same)
    (λ e. ap shape_number e) (unsigned_Decides n m)
shape_eq-Decides (Fixed n) (Counted m) = (
  λ told. absurd (false≢true told),
  λ e. ap (λ (shape : Shape). nat_eq (shape_rank shape) (shape_rank (Counted m))) e,
)
shape_eq-Decides (Counted n) One = (
  λ told. absurd (false≢true told),
  λ e. ap (λ (shape : Shape). nat_eq (shape_rank shape) (shape_rank One)) e,
)
shape_eq-Decides (Counted n) (Fixed m) = (
  λ told. absurd (false≢true told),
  λ e. ap (λ (shape : Shape). nat_eq (shape_rank shape) (shape_rank (Fixed m))) e,
)
shape_eq-Decides (Counted n) (Counted m) =
    Decides-along (nat_eq n m) (λ same. ap Counted same)
    (λ e. ap shape_number e) (unsigned_Decides n m)

abbrev field_from : List ℕ → Base → Shape → ℕ → ℕ → ℤ → Field
field_from name base shape size offset fallback = record
    { name = name; base = base; shape = shape; size = size; offset = offset; fallback = fallback }

-- fields of the same parts are the same
same_field : (field other : Field) → field.name ≡ other.name → field.base ≡ other.base
    → field.shape ≡ other.shape → field.size ≡ other.size
    → field.offset ≡ other.offset → field.fallback ≡ other.fallback → field ≡ other
same_field field other a b c d e f =
    ap (λ (name : List ℕ). field_from name field.base field.shape field.size field.offset
    field.fallback) a
    ∙ ap (λ (base : Base). field_from other.name base field.shape field.size field.offset
    field.fallback) b
    ∙ ap (λ (shape : Shape). field_from other.name other.base shape field.size field.offset
    field.fallback) c
    ∙ ap (λ (size : ℕ). field_from other.name other.base other.shape size field.offset
    field.fallback) d
    ∙ ap (λ (offset : ℕ). field_from other.name other.base other.shape other.size offset
    field.fallback) e
    ∙ ap (λ (fallback : ℤ). field_from other.name other.base other.shape other.size other.offset
    fallback) f

pub field_eq-Decides : (field other : Field) → Decides (field_eq field other) (field ≡ other)
field_eq-Decides field other =
    Decides-along (field_eq field other) (λ same. same_field field other same.0 same.1.0 same.1.1.0
    same.1.1.1.0 same.1.1.1.1.0 same.1.1.1.1.1)
    (λ e. (
      ap (λ (f : Field). f.name) e,
      (
        ap (λ (f : Field). f.base) e,
        (
          ap (λ (f : Field). f.shape) e,
          (
            ap (λ (f : Field). f.size) e,
            (ap (λ (f : Field). f.offset) e, ap (λ (f : Field). f.fallback) e),
          ),
        ),
      ),
    ))
    (and-Decides (pointwise nat_eq field.name other.name) _ (bytes_decides field.name other.name)
    (and-Decides (base_eq field.base other.base) _ (base_eq-Decides field.base other.base)
    (and-Decides (shape_eq field.shape other.shape) _ (shape_eq-Decides field.shape other.shape)
    (and-Decides (nat_eq field.size other.size) _ (unsigned_Decides field.size other.size)
    (and-Decides (nat_eq field.offset other.offset) _ (unsigned_Decides field.offset other.offset)
    (signed_Decides field.fallback other.fallback))))))

pub field_eq-equivalence : IsEquivalence field_eq
field_eq-equivalence = decided field_eq field_eq-Decides

pub fields_eq-Decides : (fields other : List Field)
    → Decides (fields_eq fields other) (fields ≡ other)
fields_eq-Decides = pointwise_decides field_eq-Decides

pub fields_eq-equivalence : IsEquivalence fields_eq
fields_eq-equivalence = decided fields_eq fields_eq-Decides

abbrev type_from : List ℕ → ℕ → List Field → RecordType
type_from name length fields = record { name = name; length = length; fields = fields }

-- types of the same parts are the same
same_type : (type other : RecordType) → type.name ≡ other.name → type.length ≡ other.length
    → type.fields ≡ other.fields → type ≡ other
same_type type other a b c =
    ap (λ (name : List ℕ). type_from name type.length type.fields) a
    ∙ ap (λ (length : ℕ). type_from other.name length type.fields) b
    ∙ ap (λ (fields : List Field). type_from other.name other.length fields) c

pub type_eq-Decides : (type other : RecordType) → Decides (type_eq type other) (type ≡ other)
type_eq-Decides type other =
    Decides-along (type_eq type other) (λ same. same_type type other same.0 same.1.0 same.1.1)
    (λ e. (
      ap (λ (t : RecordType). t.name) e,
      (ap (λ (t : RecordType). t.length) e, ap (λ (t : RecordType). t.fields) e),
    ))
    (and-Decides (pointwise nat_eq type.name other.name) _ (bytes_decides type.name other.name)
    (and-Decides (nat_eq type.length other.length) _ (unsigned_Decides type.length other.length)
    (fields_eq-Decides type.fields other.fields)))

pub type_eq-equivalence : IsEquivalence type_eq
type_eq-equivalence = decided type_eq type_eq-Decides

abbrev layout_from : Order → ℕ → List RecordType → Layout
layout_from order pointer types = record { order = order; pointer = pointer; types = types }

-- layouts of the same parts are the same
same_layout : (layout other : Layout) → layout.order ≡ other.order → layout.pointer ≡ other.pointer
    → layout.types ≡ other.types → layout ≡ other
same_layout layout other a b c =
    ap (λ (order : Order). layout_from order layout.pointer layout.types) a
    ∙ ap (λ (pointer : ℕ). layout_from other.order pointer layout.types) b
    ∙ ap (λ (types : List RecordType). layout_from other.order other.pointer types) c

pub layout_eq-Decides : (layout other : Layout) → Decides (layout_eq layout other) (layout ≡ other)
layout_eq-Decides layout other =
    Decides-along (layout_eq layout other) (λ same. same_layout layout other same.0 same.1.0
    same.1.1) (λ e. (
      ap (λ (l : Layout). l.order) e,
      (ap (λ (l : Layout). l.pointer) e, ap (λ (l : Layout). l.types) e),
    ))
    (and-Decides (order_eq layout.order other.order) _ (order_eq-Decides layout.order other.order)
    (and-Decides (nat_eq layout.pointer other.pointer) _
    (unsigned_Decides layout.pointer other.pointer)
    (pointwise_decides type_eq-Decides layout.types other.types)))

pub layout_eq-equivalence : IsEquivalence layout_eq
layout_eq-equivalence = decided layout_eq layout_eq-Decides
