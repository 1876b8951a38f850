-- Where fields stand: each at the least multiple of its alignment at or after the end of the one
-- before it.
use Rattle.std.specs.Prelude.{ℕ, ◌+◌, List, [], ◌∷◌}
use Rattle.std.specs.Int.{next_multiple_of}
use Rattle.evp_format.specs.declared.field.Field.{Field}
use Rattle.evp_format.specs.declared.record_type.RecordType.{RecordType}
use Rattle.evp_format.specs.Tree.{Tree}
use Rattle.evp_format.specs.WellLaid.{extent}
use Rattle.evp_profile.specs.declared.profile.Profile.{Profile}
use Rattle.evp_profile.specs.Alignment.{field_alignment, fields_alignment}
use Rattle.evp_profile.specs.Profile.{pointer_size}

-- the least multiple of the field's alignment at or after `end`
abbrev pub offset_behind : Profile → List Tree → ℕ → Field → ℕ
offset_behind profile earlier end field =
    next_multiple_of end (field_alignment profile earlier field)

-- the end of a field that stands behind `end`
abbrev pub end_behind : Profile → List Tree → ℕ → Field → ℕ
end_behind profile earlier end field =
    offset_behind profile earlier end field + extent (pointer_size profile) field

-- the end of the last of these fields, which stand behind `end`
abbrev pub end_of_fields : Profile → List Tree → ℕ → List Field → ℕ
end_of_fields profile earlier end [] = end
end_of_fields profile earlier end (field ∷ fields) =
    end_of_fields profile earlier (end_behind profile earlier end field) fields

-- the end of the last field, rounded up to the greatest alignment
abbrev pub length_of_fields : Profile → List Tree → List Field → ℕ
length_of_fields profile earlier fields =
    next_multiple_of (end_of_fields profile earlier 0 fields)
    (fields_alignment profile earlier fields)

abbrev pub field_at : ℕ → Field → Field
field_at offset field = record field { offset = offset }

-- these fields, behind `end`
abbrev pub placed_fields : Profile → List Tree → ℕ → List Field → List Field
placed_fields profile earlier end [] = []
placed_fields profile earlier end (field ∷ fields) =
    field_at (offset_behind profile earlier end field) field
    ∷ placed_fields profile earlier (end_behind profile earlier end field) fields

-- the type with its fields at their offsets, and its length
abbrev pub placed_type : Profile → List Tree → RecordType → RecordType
placed_type profile earlier type = record {
  name = type.name;
  length = length_of_fields profile earlier type.fields;
  fields = placed_fields profile earlier 0 type.fields;
}
