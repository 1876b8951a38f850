-- The law of layout by profile, in the words of the declarations: what is laid out is what is
-- declared, as C compilers lay it out; and where there is a fault, no well laid format is that.
use Rattle.std.specs.Prelude.{◌≡◌, ℕ, List, [], ◌∷◌, ◌++◌, MatchResult, ⊤}
use Rattle.evp_format.specs.declared.field.Base.{Base}
use Rattle.evp_format.specs.declared.field.Base.TheVariants.{Number, Text, Nested}
use Rattle.evp_format.specs.declared.field.Field.{Field}
use Rattle.evp_format.specs.declared.record_type.RecordType.{RecordType}
use Rattle.evp_format.specs.Describing.{type_text}
use Rattle.evp_format.specs.Layout.{Layout}
use Rattle.evp_format.specs.WellLaid.{IsWellLaid}
use Rattle.evp_profile.specs.declared.profile.Profile.{Profile}
use Rattle.evp_profile.specs.CLayout.{IsCLayout}
use Rattle.evp_profile.specs.Declarations.{DeclaredField, DeclaredType}
use Rattle.evp_profile.specs.LayingOut.{by_profile}

-- a number has the declared size; a string's is the pointer's and a record's its type's length, in
-- a well laid format
abbrev pub HasDeclaredSize : Base → ℕ → ℕ → Type 0
HasDeclaredSize (Number kind) size declared = size ≡ declared
HasDeclaredSize Text size declared = ⊤
HasDeclaredSize (Nested k) size declared = ⊤

-- a field of a type whose fields are `all`, behind these types, has the declared name, default and
-- size, and its type text is the declared one: the word or the earlier type's name, and the number
-- of elements or the count field's name
pub record IsDeclaredField (earlier : List RecordType) (all : List Field) (declared : DeclaredField)
    (field : Field) : Type 0 where
  pub named : field.name ≡ declared.name
  pub says : type_text earlier all field ≡ declared.type_text
  pub sized : HasDeclaredSize field.base field.size declared.size
  pub defaulted : field.fallback ≡ declared.fallback

-- these fields are the declared ones, one by one
abbrev pub AreDeclaredFields : List RecordType → List Field → List DeclaredField → List Field
    → Type 0
AreDeclaredFields earlier all [] [] = ⊤
AreDeclaredFields earlier all [] (field ∷ fields) = ⊥
AreDeclaredFields earlier all (declared ∷ rest) [] = ⊥
AreDeclaredFields earlier all (declared ∷ rest) (field ∷ fields) =
    IsDeclaredField earlier all declared field × AreDeclaredFields earlier all rest fields

pub record IsDeclaredType (earlier : List RecordType) (declared : DeclaredType)
    (type : RecordType) : Type 0 where
  pub named : type.name ≡ declared.name
  pub fields : AreDeclaredFields earlier type.fields declared.fields type.fields

-- these types, behind the earlier ones, are the declared ones, one by one
abbrev pub AreDeclaredTypes : List RecordType → List DeclaredType → List RecordType → Type 0
AreDeclaredTypes earlier [] [] = ⊤
AreDeclaredTypes earlier [] (type ∷ types) = ⊥
AreDeclaredTypes earlier (declared ∷ rest) [] = ⊥
AreDeclaredTypes earlier (declared ∷ rest) (type ∷ types) =
    IsDeclaredType earlier declared type × AreDeclaredTypes (earlier ++ type ∷ []) rest types

-- the layout of these declared types for the machine of this profile
pub record IsLayoutOf (profile : Profile) (declared : List DeclaredType) (layout : Layout) : Type 0
  where
    pub laid : IsWellLaid layout
    pub in_c : IsCLayout profile layout
    pub types : AreDeclaredTypes [] declared layout.types

-- the only one
pub record IsOnlyLayoutOf (profile : Profile) (declared : List DeclaredType) (layout : Layout)
    : Type 0 where
  pub is : IsLayoutOf profile declared layout
  pub only : (other : Layout) → IsLayoutOf profile declared other → other ≡ layout

-- what is answered is the only such layout, and where a fault is, there is none
abbrev pub LayoutsAreExact : Type 0
LayoutsAreExact = (profile : Profile) (declared : List DeclaredType)
    → MatchResult (by_profile profile declared) (IsOnlyLayoutOf profile declared)
    (λ fault. (layout : Layout) → ¬ IsLayoutOf profile declared layout)
