-- A type whose fields are placed one behind another is well laid, and laid as in C.
use Rattle.std.proofs.Common.{◌≡◌, ℕ, zero, suc, ◌+◌, ◌-◌, ◌<◌, ◌≤◌, pos, true, ◌⊎◌, inl, inr, List, [], ◌∷◌, length, get_or, min, Some}
use Rattle.std.proofs.Common.{refl, sym, ap, subst, ◌∙◌, arith}
use Rattle.std.specs.Prelude.{slice_get}
use Rattle.std.specs.Int.{next_multiple_of}
use Rattle.std.proofs.lemmas.Bool.Decides.{nat_tests}
use Rattle.std.proofs.Math.Nat.{mul-le-mul}
use Rattle.evp_base.specs.declared.kind.Kind.{Kind}
use Rattle.evp_base.specs.declared.kind.Kind.TheVariants.{Int, Unsigned, Char, Boolean, Enumeration}
use Rattle.evp_base.specs.Numbers.{is_size_of}
use Rattle.evp_format.specs.declared.field.Base.{Base}
use Rattle.evp_format.specs.declared.field.Base.TheVariants.{Number, Text, Nested}
use Rattle.evp_format.specs.declared.field.Field.{Field}
use Rattle.evp_format.specs.declared.field.Shape.{Shape}
use Rattle.evp_format.specs.declared.field.Shape.TheVariants.{One, Fixed, Counted}
use Rattle.evp_format.specs.declared.record_type.RecordType.{RecordType}
use Rattle.evp_format.specs.Tree.{Tree, empty_tree, part_of}
use Rattle.evp_format.specs.WellLaid.{HasBaseSize, IsCountField, HasShape, CountsNothing, StatesDefault, IsLaidField, shape_extent, extent}
use Rattle.evp_profile.specs.declared.profile.Profile.{Profile}
use Rattle.evp_profile.specs.declared.profile.Profile.TheVariants.{Le64, Le32, Be64, Be32}
use Rattle.evp_profile.specs.Alignment.{pointer_alignment, shape_alignment, part_alignment, field_alignment}
use Rattle.evp_profile.specs.CLayout.{field_end}
use Rattle.evp_profile.specs.Placing.{offset_behind, end_behind, end_of_fields, field_at, placed_fields}
use Rattle.evp_profile.specs.Profile.{greatest_alignment}
use Rattle.evp_profile.specs.Sizes.{is_number_size, HasNumberSize}
use Rattle.evp_profile.proofs.Alignments.{alignment_positive}
use Rattle.evp_profile.proofs.Placings.{end_behind_grows, end_of_fields_grows}

-- ---- a placed field is the field, at its offset

pub record IsPlaced (fields : List Field) (k : ℕ) (placed : Field) : Type 0 where
  pub from : Field
  pub found : slice_get fields k ≡ Some from
  pub is : field_at placed.offset from ≡ placed

pub placed_is : (profile : Profile) (trees : List Tree) (end : ℕ) (fields : List Field) (k : ℕ) (placed : Field)
    → slice_get (placed_fields profile trees end fields) k ≡ Some placed → IsPlaced fields k placed
placed_is profile trees end [] k placed found = absurd (cc)
placed_is profile trees end (field ∷ fields) zero placed found =
    let same : field_at (offset_behind profile trees end field) field ≡ placed = cc in
    record { from = field; found = refl; is = ap (λ (f : Field). field_at f.offset field) (sym same) ∙ same }
placed_is profile trees end (field ∷ fields) (suc k) placed found =
    let rest = placed_is profile trees (end_behind profile trees end field) fields k placed found in
    record { from = rest.from; found = rest.found; is = rest.is }

pub placed_at : (profile : Profile) (trees : List Tree) (end : ℕ) (fields : List Field) (k : ℕ) (field : Field) → slice_get fields k
    ≡ Some field
    → (offset : ℕ) × (slice_get (placed_fields profile trees end fields) k ≡ Some (field_at offset field))
placed_at profile trees end [] k field found = absurd (cc)
placed_at profile trees end (first ∷ fields) zero field found =
    let same : first ≡ field = cc in
    (offset_behind profile trees end first, ap (λ (f : Field). Some (field_at (offset_behind profile trees end first) f)) same)
placed_at profile trees end (first ∷ fields) (suc k) field found = placed_at profile trees (end_behind profile trees end first) fields k
    field found

-- ---- order

pub placed_from : (profile : Profile) (trees : List Tree) (end : ℕ) (fields : List Field) (k : ℕ) (placed : Field)
    → slice_get (placed_fields profile trees end fields) k ≡ Some placed → end ≤ placed.offset
placed_from profile trees end [] k placed found = absurd (cc)
placed_from profile trees end (field ∷ fields) zero placed found =
    let same : field_at (offset_behind profile trees end field) field ≡ placed = cc in
    let stands : offset_behind profile trees end field ≡ placed.offset = ap (λ (f : Field). f.offset) same in
    omega (arith, stands)
placed_from profile trees end (field ∷ fields) (suc k) placed found =
    let rest = placed_from profile trees (end_behind profile trees end field) fields k placed found in
    let grows = end_behind_grows profile trees end field in
    omega (arith, rest, grows)

end_is : (profile : Profile) (trees : List Tree) (end : ℕ) (field placed : Field) → field_at (offset_behind profile trees end field) field
    ≡ placed → end_behind profile trees end field ≡ field_end profile placed
end_is profile trees end field placed same = ap (field_end profile) same

pub placed_within : (profile : Profile) (trees : List Tree) (end : ℕ) (fields : List Field) (k : ℕ) (placed : Field)
    → slice_get (placed_fields profile trees end fields) k ≡ Some placed
    → field_end profile placed ≤ end_of_fields profile trees end fields
placed_within profile trees end [] k placed found = absurd (cc)
placed_within profile trees end (field ∷ fields) zero placed found =
    let ends = end_is profile trees end field placed
    (let same : field_at (offset_behind profile trees end field) field ≡ placed = cc in same) in
    let grows = end_of_fields_grows profile trees (end_behind profile trees end field) fields in
    omega (arith, ends, grows)
placed_within profile trees end (field ∷ fields) (suc k) placed found = placed_within profile trees (end_behind profile trees end field)
    fields k placed found

pub placed_in_order : (profile : Profile) (trees : List Tree) (end : ℕ) (fields : List Field) (i j : ℕ) (placed other : Field) → i < j
    → slice_get (placed_fields profile trees end fields) i ≡ Some placed → slice_get (placed_fields profile trees end fields) j ≡ Some other
    → field_end profile placed ≤ other.offset
placed_in_order profile trees end [] i j placed other below found found' = absurd (cc)
placed_in_order profile trees end (field ∷ fields) i zero placed other below found found' = absurd (omega arith)
placed_in_order profile trees end (field ∷ fields) zero (suc j) placed other below found found' =
    let ends = end_is profile trees end field placed
    (let same : field_at (offset_behind profile trees end field) field ≡ placed = cc in same) in
    let from = placed_from profile trees (end_behind profile trees end field) fields j other found' in
    omega (arith, ends, from)
placed_in_order profile trees end (field ∷ fields) (suc i) (suc j) placed other below found found' =
    placed_in_order profile trees (end_behind profile trees end field) fields i j placed other (omega arith) found found'

-- each stands at the least multiple of its alignment behind the one before
pub placed_next : (profile : Profile) (trees : List Tree) (end : ℕ) (fields : List Field) (k : ℕ) (placed next : Field)
    → slice_get (placed_fields profile trees end fields) k ≡ Some placed → slice_get (placed_fields profile trees end fields) (suc k)
    ≡ Some next
    → next.offset ≡ next_multiple_of (field_end profile placed) (field_alignment profile trees next)
placed_next profile trees end [] k placed next found found' = absurd (cc)
placed_next profile trees end (field ∷ []) k placed next found found' = absurd (cc)
placed_next profile trees end (field ∷ second ∷ fields) zero placed next found found' =
    let ends = end_is profile trees end field placed
    (let same : field_at (offset_behind profile trees end field) field ≡ placed = cc in same) in
    let same : field_at (offset_behind profile trees (end_behind profile trees end field) second) second ≡ next = cc in
    sym (ap (λ (f : Field). f.offset) same)
    ∙ ap (λ (n : ℕ). next_multiple_of n (field_alignment profile trees second)) ends
    ∙ ap (λ (f : Field). next_multiple_of (field_end profile placed) (field_alignment profile trees f)) same
placed_next profile trees end (field ∷ second ∷ fields) (suc k) placed next found found' =
    placed_next profile trees (end_behind profile trees end field) (second ∷ fields) k placed next found found'

pub placed_first : (profile : Profile) (trees : List Tree) (fields : List Field) (placed : Field)
    → slice_get (placed_fields profile trees 0 fields) 0 ≡ Some placed
    → placed.offset ≡ next_multiple_of 0 (field_alignment profile trees placed)
placed_first profile trees [] placed found = absurd (cc)
placed_first profile trees (field ∷ fields) placed found =
    let same : field_at (offset_behind profile trees 0 field) field ≡ placed = cc in
    sym (ap (λ (f : Field). f.offset) same) ∙ ap (λ (f : Field). next_multiple_of 0 (field_alignment profile trees f)) same

pub placed_last : (profile : Profile) (trees : List Tree) (end : ℕ) (fields : List Field) (placed : Field)
    → slice_get (placed_fields profile trees end fields) (length (placed_fields profile trees end fields) - 1) ≡ Some placed
    → end_of_fields profile trees end fields ≡ field_end profile placed
placed_last profile trees end [] placed found = absurd (cc)
placed_last profile trees end (field ∷ []) placed found = end_is profile trees end field placed
    (let same : field_at (offset_behind profile trees end field) field ≡ placed = cc in same)
placed_last profile trees end (field ∷ second ∷ fields) placed found =
    let behind = end_behind profile trees end field in
    let all = placed_fields profile trees end (field ∷ second ∷ fields) in
    let others = length (placed_fields profile trees (end_behind profile trees behind second) fields) in
    let index : suc (suc others) - 1 ≡ suc (suc others - 1) = omega arith in
    placed_last profile trees behind (second ∷ fields) placed (subst (λ (n : ℕ). slice_get all n ≡ Some placed) index found)

-- ---- alignments

pointer_alignment_positive : (profile : Profile) → 0 < pointer_alignment profile
pointer_alignment_positive Le64 = omega arith
pointer_alignment_positive Le32 = omega arith
pointer_alignment_positive Be64 = omega arith
pointer_alignment_positive Be32 = omega arith

number_positive : (kind : Kind) (size : ℕ) → is_size_of kind size ≡ true → 1 ≤ size
number_positive Int size sized = grind (arith, nat_tests)
number_positive Unsigned size sized = grind (arith, nat_tests)
number_positive Char size sized = grind (arith, nat_tests)
number_positive Boolean size sized = grind (arith, nat_tests)
number_positive Enumeration size sized = grind (arith, nat_tests)

greatest_positive : (profile : Profile) (size : ℕ) → 1 ≤ size → 0 < min size (greatest_alignment profile)
greatest_positive Le64 size some = omega arith
greatest_positive Le32 size some = omega arith
greatest_positive Be64 size some = omega arith
greatest_positive Be32 size some = omega arith

base_positive : (profile : Profile) (trees : List Tree) (base : Base) (size : ℕ) → is_number_size base size ≡ true
    → 0 < part_alignment profile size (part_of trees base)
base_positive profile trees (Number kind) size sized = greatest_positive profile size (number_positive kind size sized)
base_positive profile trees Text size sized = pointer_alignment_positive profile
base_positive profile trees (Nested k) size sized = let some = alignment_positive profile (get_or trees k empty_tree) in omega (arith, some)

shape_positive : (profile : Profile) (shape : Shape) (element : ℕ) → 0 < element → 0 < shape_alignment profile shape element
shape_positive profile One element some = some
shape_positive profile (Fixed n) element some = some
shape_positive profile (Counted c) element some = pointer_alignment_positive profile

pub field_alignment_positive : (profile : Profile) (trees : List Tree) (field : Field) → HasNumberSize field
    → 0 < field_alignment profile trees field
field_alignment_positive profile trees field sized = shape_positive profile field.shape
    (part_alignment profile field.size (part_of trees field.base)) (base_positive profile trees field.base field.size sized)

-- ---- a placed field is well laid

counts : (profile : Profile) (trees : List Tree) (end : ℕ) (fields : List Field) (c : ℕ) → IsCountField fields c
    → IsCountField (placed_fields profile trees end fields) c
counts profile trees end fields c count =
    let at = placed_at profile trees end fields c count.0 count.1 in
    (field_at at.0 count.0, at.1, count.2, count.3)

has_shape : (profile : Profile) (trees : List Tree) (end : ℕ) (fields : List Field) (shape : Shape) → HasShape fields shape
    → HasShape (placed_fields profile trees end fields) shape
has_shape profile trees end fields One has = has
has_shape profile trees end fields (Fixed n) has = has
has_shape profile trees end fields (Counted c) has = counts profile trees end fields c has

counts_nothing : (profile : Profile) (trees : List Tree) (end : ℕ) (fields : List Field) (k : ℕ) → CountsNothing fields k
    → CountsNothing (placed_fields profile trees end fields) k
counts_nothing profile trees end fields k nothing i field found same =
    let from = placed_is profile trees end fields i field found in
    let shape : from.from.shape ≡ field.shape = ap (λ (f : Field). f.shape) from.is in
    nothing i from.from from.found (shape ∙ same)

has_default : (profile : Profile) (trees : List Tree) (end : ℕ) (fields : List Field) (k offset : ℕ) (field : Field)
    → (field.fallback ≡ pos 0) ⊎ StatesDefault fields k field
    → (field.fallback ≡ pos 0) ⊎ StatesDefault (placed_fields profile trees end fields) k (field_at offset field)
has_default profile trees end fields k offset field (inl none) = inl none
has_default profile trees end fields k offset field (inr stated) =
    inr (record {
      single = stated.single;
      in_range = stated.in_range;
      counts_nothing = counts_nothing profile trees end fields k
          stated.counts_nothing;
    })

pub placed_laid : (profile : Profile) (trees : List Tree) (end : ℕ) (pointer : ℕ) (earlier : List RecordType) (room length : ℕ)
    (fields : List Field) (k offset : ℕ) (field : Field)
    → IsLaidField pointer earlier room fields k field → offset + extent pointer field ≤ length
    → IsLaidField pointer earlier length (placed_fields profile trees end fields) k (field_at offset field)
placed_laid profile trees end pointer earlier room length fields k offset field laid inside = record {
  named = laid.named;
  size_allowed = laid.size_allowed;
  shape_allowed = has_shape profile trees end fields field.shape laid.shape_allowed;
  inside = inside;
  default_allowed = has_default profile trees end fields k offset field laid.default_allowed;
}

-- ---- a field takes a byte or more

-- no type is empty
abbrev pub AreSome : List RecordType → Type 0
AreSome types = (k : ℕ) (type : RecordType) → slice_get types k ≡ Some type → 1 ≤ type.length

size_positive : (pointer : ℕ) (earlier : List RecordType) (base : Base) (size : ℕ) → 1 ≤ pointer → AreSome earlier
    → HasBaseSize pointer earlier base size → 1 ≤ size
size_positive pointer earlier (Number kind) size wide some sized = number_positive kind size sized
size_positive pointer earlier Text size wide some sized = omega (arith, sized)
size_positive pointer earlier (Nested k) size wide some sized = let least = some k sized.0 sized.1 in let same = sized.2 in
    omega (arith, least, same)

shape_extent_positive : (pointer size : ℕ) (fields : List Field) (shape : Shape) → 1 ≤ pointer → 1 ≤ size → HasShape fields shape
    → 1 ≤ shape_extent pointer shape size
shape_extent_positive pointer size fields One wide some has = some
shape_extent_positive pointer size fields (Fixed n) wide some has = let least = mul-le-mul has.0 some in omega (arith, least)
shape_extent_positive pointer size fields (Counted c) wide some has = wide

pub extent_positive : (pointer : ℕ) (earlier : List RecordType) (room : ℕ) (fields : List Field) (k : ℕ) (field : Field) → 1 ≤ pointer
    → AreSome earlier → IsLaidField pointer earlier room fields k field
    → 1 ≤ extent pointer field
extent_positive pointer earlier room fields k field wide some laid =
    shape_extent_positive pointer field.size fields field.shape wide
    (size_positive pointer earlier field.base field.size wide some laid.size_allowed) laid.shape_allowed
