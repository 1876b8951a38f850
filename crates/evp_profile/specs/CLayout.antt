-- A format whose types a C compiler lays out: each offset is the least that is allowed, and so is
-- each length.
use Rattle.std.specs.Prelude.{◌≡◌, ℕ, suc, ◌+◌, ◌-◌, ◌*◌, ◌≤◌, List, length, take, slice_get, Some}
use Rattle.evp_format.specs.declared.field.Field.{Field}
use Rattle.evp_format.specs.declared.record_type.RecordType.{RecordType}
use Rattle.evp_format.specs.Layout.{Layout}
use Rattle.evp_format.specs.Tree.{trees, resolved}
use Rattle.evp_format.specs.WellLaid.{extent}
use Rattle.evp_profile.specs.declared.profile.Profile.{Profile}
use Rattle.evp_profile.specs.Alignment.{alignment, field_alignment}
use Rattle.evp_profile.specs.Profile.{byte_order, pointer_size}

-- the least multiple of `step` that is `n` or more
pub record IsLeastMultiple (step n multiple : ℕ) : Type 0 where
  pub times : ℕ
  pub is_multiple : multiple ≡ times * step
  pub from : n ≤ multiple
  pub least : (k : ℕ) → n ≤ k * step → multiple ≤ k * step

-- the end of a field
abbrev pub field_end : Profile → Field → ℕ
field_end profile field = field.offset + extent (pointer_size profile) field

-- the fields stand one behind another, the first at 0, each at the least multiple of its alignment
-- behind the one before; the length is the least multiple of the type's alignment behind the last
pub record IsLaidInC (profile : Profile) (earlier : List RecordType) (type : RecordType) : Type 0
  where
    pub begins : (field : Field) → slice_get type.fields 0 ≡ Some field → field.offset ≡ 0
    pub goes_on : (k : ℕ) (field next : Field) → slice_get type.fields k ≡ Some field
        → slice_get type.fields (suc k) ≡ Some next
        → IsLeastMultiple (field_alignment profile (trees earlier) next) (field_end profile field)
        next.offset
    pub ends : (field : Field) → slice_get type.fields (length type.fields - 1) ≡ Some field
        → IsLeastMultiple (alignment profile (resolved (trees earlier) type))
        (field_end profile field) type.length

-- each type is laid out so, for the machine of this profile
pub record IsCLayout (profile : Profile) (layout : Layout) : Type 0 where
  pub has_order : layout.order ≡ byte_order profile
  pub has_pointer : layout.pointer ≡ pointer_size profile
  pub each_type : (k : ℕ) (type : RecordType) → slice_get layout.types k ≡ Some type
      → IsLaidInC profile (take k layout.types) type
