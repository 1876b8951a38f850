-- What is laid out is what is declared.
use Rattle.std.proofs.Common.{◌≡◌, ℕ, zero, suc, List, [], ◌∷◌, ◌++◌, length, Ok, refl, sym, ap, subst, ◌∙◌, append_assoc}
use Rattle.std.proofs.lemmas.List.{append-nil}
use Rattle.evp_format.specs.declared.draft.DraftField.{DraftField}
use Rattle.evp_format.specs.declared.draft.DraftShape.TheVariants as draft
use Rattle.evp_format.specs.declared.field.Base.{Base}
use Rattle.evp_format.specs.declared.field.Base.TheVariants.{Number, Text, Nested}
use Rattle.evp_format.specs.declared.field.Field.{Field}
use Rattle.evp_format.specs.declared.field.Shape.{Shape}
use Rattle.evp_format.specs.declared.field.Shape.TheVariants.{One, Fixed, Counted}
use Rattle.evp_format.specs.declared.record_type.RecordType.{RecordType}
use Rattle.evp_format.specs.Describing.{base_word, field_name, shape_text}
use Rattle.evp_format.specs.Tree.{Tree, trees}
use Rattle.evp_format.proofs.DescribedFormats.{drafts_stated}
use Rattle.evp_format.proofs.Parts.{type_name_facts}
use Rattle.evp_format.proofs.StatedFields.{stated_shape, stated_all}
use Rattle.evp_format.proofs.TypeTexts.{stated_shape_text}
use Rattle.evp_format.proofs.WellLaidTypes.{bind_ok, ok_is}
use Rattle.evp_profile.specs.declared.profile.Profile.{Profile}
use Rattle.evp_profile.specs.DeclarationLaws.{HasDeclaredSize, AreDeclaredFields, IsDeclaredType, AreDeclaredTypes}
use Rattle.evp_profile.specs.Declarations.{DeclaredField, DeclaredType}
use Rattle.evp_profile.specs.LayingOut.{size_meant, stated_field, stated_fields, laid_type, laid_types}
use Rattle.evp_profile.specs.Placing.{placed_fields, end_behind}
use Rattle.evp_profile.specs.Profile.{pointer_size}
use Rattle.evp_profile.proofs.StatedFacts.{stated_field_facts}
use Rattle.evp_profile.proofs.TypesPushed.{IsMade, laid_type_facts}

-- ---- fields as they are stated

-- a stated field is the declared one
record IsStatedAs (pointer : ℕ) (earlier : List RecordType) (declared : DeclaredField) (draft : DraftField) : Type 0 where
  pub named : draft.name ≡ declared.name
  pub says : declared.type_text ≡ base_word earlier draft.base ++ stated_shape_text draft.shape
  pub sized : draft.size ≡ size_meant pointer earlier draft.base declared.size
  pub defaulted : draft.fallback ≡ declared.fallback

abbrev AreStatedAs : ℕ → List RecordType → List DeclaredField → List DraftField → Type 0
AreStatedAs pointer earlier [] [] = Unit {0}
AreStatedAs pointer earlier [] (draft ∷ drafts) = ⊥
AreStatedAs pointer earlier (declared ∷ rest) [] = ⊥
AreStatedAs pointer earlier (declared ∷ rest) (draft ∷ drafts) = IsStatedAs pointer earlier declared draft
    × AreStatedAs pointer earlier rest drafts

record StatedBehind (pointer : ℕ) (earlier : List RecordType) (before : List DraftField) (declared : List DeclaredField)
    (drafts : List DraftField) : Type 0 where
  pub new : List DraftField
  pub are : drafts ≡ before ++ new
  pub each : AreStatedAs pointer earlier declared new

stated_behind : (pointer : ℕ) (earlier : List RecordType) (before : List DraftField) (declared : List DeclaredField)
    (drafts : List DraftField) → stated_fields pointer earlier before declared ≡ Ok drafts
    → StatedBehind pointer earlier before declared drafts
unfolding stated_fields
stated_behind pointer earlier before [] drafts e = record
    { new = []; are = sym (ok_is before drafts e) ∙ sym (append-nil before); each = tt }
stated_behind pointer earlier before (declared ∷ rest) drafts e =
    let field = bind_ok (stated_field pointer earlier before declared) (λ field. stated_fields pointer earlier (before ++ field ∷ []) rest)
    drafts e in
    let facts = stated_field_facts pointer earlier before declared field.0 field.1 in
    let more = stated_behind pointer earlier (before ++ field.0 ∷ []) rest drafts field.2 in
    record {
      new = field.0 ∷ more.new;
      are = more.are ∙ append_assoc before (field.0 ∷ []) more.new;
      each = (record { named = facts.name_is; says = facts.text_is; sized = facts.size_is; defaulted = facts.fallback_is }, more.each);
    }

-- ---- fields in their places

names_placed : (profile : Profile) (known : List Tree) (end : ℕ) (fields : List Field) (c : ℕ)
    → field_name (placed_fields profile known end fields) c ≡ field_name fields c
names_placed profile known end [] c = refl
names_placed profile known end (field ∷ fields) zero = refl
names_placed profile known end (field ∷ fields) (suc c) = names_placed profile known (end_behind profile known end field) fields c

-- shapes are spelled by the names of fields
pub shape_placed : (all placed : List Field) (shape : Shape) → ((c : ℕ) → field_name placed c ≡ field_name all c) → shape_text placed shape
    ≡ stated_shape_text (stated_shape all shape)
shape_placed all placed One same = refl
shape_placed all placed (Fixed n) same = refl
shape_placed all placed (Counted c) same = ap (λ (name : List ℕ). stated_shape_text (draft.Counted name)) (same c)

declared_size : (pointer : ℕ) (earlier : List RecordType) (base : Base) (size declared : ℕ) → size
    ≡ size_meant pointer earlier base declared → HasDeclaredSize base size declared
declared_size pointer earlier (Number kind) size declared is = is
declared_size pointer earlier Text size declared is = tt
declared_size pointer earlier (Nested k) size declared is = tt

fields_declared : (profile : Profile) (pointer : ℕ) (earlier : List RecordType) (known : List Tree) (all placed : List Field) (end : ℕ)
    (declared : List DeclaredField) (fields : List Field)
    → ((c : ℕ) → field_name placed c ≡ field_name all c) → AreStatedAs pointer earlier declared (stated_all all fields)
    → AreDeclaredFields earlier placed declared (placed_fields profile known end fields)
fields_declared profile pointer earlier known all placed end [] [] same are = tt
fields_declared profile pointer earlier known all placed end [] (field ∷ fields) same are = absurd are
fields_declared profile pointer earlier known all placed end (declared ∷ rest) [] same are = absurd are
fields_declared profile pointer earlier known all placed end (declared ∷ rest) (field ∷ fields) same are =
    let stated = are.0 in (
      record {
        named = stated.named;
        says = ap (λ (text : List ℕ). base_word earlier field.base ++ text) (shape_placed all placed field.shape same) ∙ sym stated.says;
        sized = declared_size pointer earlier field.base field.size declared.size stated.sized;
        defaulted = stated.defaulted;
      },
      fields_declared profile pointer earlier known all placed (end_behind profile known end field) rest fields same are.1,
    )

-- ---- types

type_declared : (profile : Profile) (earlier : List RecordType) (declared : DeclaredType) (type : RecordType)
    → IsMade profile earlier declared type → IsDeclaredType earlier declared type
type_declared profile earlier declared type made =
    let pointer = pointer_size profile in
    let ended = made.ended in
    let known = trees earlier in
    let placed = placed_fields profile known 0 ended.fields in
    let stated = stated_behind pointer earlier [] declared.fields made.drafts made.stated in
    let are : AreStatedAs pointer earlier declared.fields (stated_all ended.fields ended.fields) =
    subst (AreStatedAs pointer earlier declared.fields)
    (sym stated.are ∙ drafts_stated (length earlier) made.drafts ended.fields ended.counted) stated.each in
    let name = type_name_facts earlier declared.name made.name made.named in
    subst (IsDeclaredType earlier declared) ended.is (record {
      named = sym name.3;
      fields = fields_declared profile pointer earlier known ended.fields placed 0 declared.fields ended.fields
          (names_placed profile known 0 ended.fields) are;
    })

pub record TypesBehind (earlier : List RecordType) (declared : List DeclaredType) (types : List RecordType) : Type 0 where
  pub new : List RecordType
  pub are : types ≡ earlier ++ new
  pub each : AreDeclaredTypes earlier declared new

pub types_behind : (profile : Profile) (earlier : List RecordType) (declared : List DeclaredType) (types : List RecordType)
    → laid_types profile earlier declared ≡ Ok types → TypesBehind earlier declared types
unfolding laid_types
types_behind profile earlier [] types e = record { new = []; are = sym (ok_is earlier types e) ∙ sym (append-nil earlier); each = tt }
types_behind profile earlier (declared ∷ rest) types e =
    let type = bind_ok (laid_type profile earlier declared) (λ type. laid_types profile (earlier ++ type ∷ []) rest) types e in
    let more = types_behind profile (earlier ++ type.0 ∷ []) rest types type.2 in
    record {
      new = type.0 ∷ more.new;
      are = more.are ∙ append_assoc earlier (type.0 ∷ []) more.new;
      each = (type_declared profile earlier declared type.0 (laid_type_facts profile earlier declared type.0 type.1), more.each);
    }
