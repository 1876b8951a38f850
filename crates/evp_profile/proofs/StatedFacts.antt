-- What holds of fields that are stated one by one.
use Rattle.std.proofs.Common.{◌≡◌, ℕ, ◌+◌, ◌≤◌, ℤ, pos, true, false, List, [], ◌∷◌, ◌++◌, length, Option, Some, None, Result, Ok, refl, sym}
use Rattle.std.proofs.Common.{subst, arith}
use Rattle.std.specs.Prelude.{slice_get}
use Rattle.std.specs.List.{All}
use Rattle.std.proofs.lemmas.Bool.{eqb-true, le-leb}
use Rattle.std.proofs.lemmas.Bool.Decides.{nat_tests}
use Rattle.std.proofs.lemmas.List.{length-append}
use Rattle.std.proofs.lemmas.Option.{get_or_from_slice_get}
use Rattle.std.proofs.Math.Nat.{mul-le-mul}
use Rattle.evp_base.specs.declared.kind.Kind.{Kind}
use Rattle.evp_base.specs.declared.kind.Kind.TheVariants.{Int, Unsigned, Char, Boolean, Enumeration}
use Rattle.evp_base.specs.Name.{is_name}
use Rattle.evp_base.specs.Numbers.{is_size_of}
use Rattle.evp_format.specs.declared.draft.DraftField.{DraftField}
use Rattle.evp_format.specs.declared.draft.DraftShape.{DraftShape}
use Rattle.evp_format.specs.declared.draft.DraftShape.TheVariants as draft
use Rattle.evp_format.specs.declared.field.Base.{Base}
use Rattle.evp_format.specs.declared.field.Base.TheVariants.{Number, Text, Nested}
use Rattle.evp_format.specs.declared.layout_fault.LayoutFault.{LayoutFault}
use Rattle.evp_format.specs.declared.record_type.RecordType.{RecordType}
use Rattle.evp_format.specs.Drafts.{has_field, nested_length, is_base_size, draft_of, draft_extent, may_default}
use Rattle.evp_format.specs.Describing.{base_word}
use Rattle.evp_format.specs.Parts.{new_field_name, allowed_size, allowed_default}
use Rattle.evp_format.specs.Steps.{◌>>=◌}
use Rattle.evp_format.specs.TypeText.{type_text_of}
use Rattle.evp_format.proofs.Parts.{field_name_facts, size_facts, default_facts}
use Rattle.evp_format.proofs.Pushed.{slice_get-some, each-push}
use Rattle.evp_format.proofs.TypeTexts.{stated_shape_text, type_text_spelled}
use Rattle.evp_format.proofs.WellLaidFormats.{Follows, no_drafts, drafts_push}
use Rattle.evp_format.proofs.WellLaidTypes.{bind_ok, ok_is, IsKnown, IsStatedShape, AreDrafts}
use Rattle.evp_profile.specs.Declarations.{DeclaredField}
use Rattle.evp_profile.specs.LayingOut.{size_meant, stated_field, stated_fields}
use Rattle.evp_profile.specs.Sizes.{is_number_size, HasDraftSize}

-- ---- a field

-- a declared field behind these, wherever it stands
pub record IsStated (pointer : ℕ) (earlier : List RecordType) (before : List DraftField) (declared : DeclaredField)
    (field : DraftField) : Type 0 where
  pub named : is_name field.name ≡ true
  pub fresh : has_field before field.name ≡ false
  pub known : IsKnown earlier field.base
  pub shaped : IsStatedShape field.shape
  pub sized : is_base_size pointer earlier field.base field.size ≡ true
  pub defaulted : may_default field.base field.shape field.size field.fallback ≡ true
  pub at_start : field.offset ≡ 0
  pub name_is : field.name ≡ declared.name
  pub text_is : declared.type_text ≡ base_word earlier field.base ++ stated_shape_text field.shape
  pub size_is : field.size ≡ size_meant pointer earlier field.base declared.size
  pub fallback_is : field.fallback ≡ declared.fallback

states_start : (name : List ℕ) (said : Base × DraftShape) (size : ℕ) (fallback : ℤ) → (draft_of name said size 0 fallback).offset ≡ 0
states_start name said size fallback = refl

pub stated_field_facts : (pointer : ℕ) (earlier : List RecordType) (before : List DraftField) (declared : DeclaredField)
    (field : DraftField) → stated_field pointer earlier before declared ≡ Ok field
    → IsStated pointer earlier before declared field
unfolding stated_field
stated_field_facts pointer earlier before declared field e =
    let type = length earlier in
    let number = length before in
    let last : List ℕ → Base × DraftShape → ℕ → ℤ → Result DraftField LayoutFault = λ name said size fallback. Ok
    (draft_of name said size 0 fallback) in
    let with_size : List ℕ → Base × DraftShape → ℕ → Result DraftField LayoutFault = λ name said size. allowed_default type number
    (draft_of name said size 0 (pos 0)) declared.fallback >>= last name said size in
    let with_type : List ℕ → Base × DraftShape → Result DraftField LayoutFault = λ name said. allowed_size pointer earlier number said.0
    (size_meant pointer earlier said.0 declared.size) >>= with_size name said in
    let with_name : List ℕ → Result DraftField LayoutFault = λ name. type_text_of earlier type number declared.type_text
    >>= with_type name in
    let name = bind_ok (new_field_name type before declared.name) with_name field e in
    let said = bind_ok (type_text_of earlier type number declared.type_text) (with_type name.0) field name.2 in
    let size = bind_ok (allowed_size pointer earlier number said.0.0 (size_meant pointer earlier said.0.0 declared.size))
    (with_size name.0 said.0) field said.2 in
    let plain = draft_of name.0 said.0 size.0 0 (pos 0) in
    let fallback = bind_ok (allowed_default type number plain declared.fallback) (last name.0 said.0 size.0) field size.2 in
    let made = draft_of name.0 said.0 size.0 0 fallback.0 in
    let named = field_name_facts type before declared.name name.0 name.1 in
    let spelled = type_text_spelled earlier type number declared.type_text said.0 said.1 in
    let sized = size_facts pointer earlier number said.0.0 (size_meant pointer earlier said.0.0 declared.size) size.0 size.1 in
    let defaulted = default_facts type number plain declared.fallback fallback.0 fallback.1 in
    let facts : IsStated pointer earlier before declared made = record {
      named = named.0;
      fresh = named.1;
      known = spelled.0;
      shaped = spelled.1;
      sized = sized.0;
      defaulted = defaulted.0;
      at_start = states_start name.0 said.0 size.0 fallback.0;
      name_is = sym named.2;
      text_is = sym spelled.2;
      size_is = sym sized.1;
      fallback_is = sym defaulted.1;
    } in
    subst (IsStated pointer earlier before declared) (ok_is made field fallback.2) facts

-- ---- sizes of numbers

number_size : (pointer : ℕ) (earlier : List RecordType) (base : Base) (size : ℕ) → is_base_size pointer earlier base size ≡ true
    → is_number_size base size ≡ true
number_size pointer earlier (Number kind) size sized = sized
number_size pointer earlier Text size sized = refl
number_size pointer earlier (Nested k) size sized = refl

abbrev AreSized : List DraftField → Type 0
AreSized fields = (k : ℕ) (field : DraftField) → slice_get fields k ≡ Some field → HasDraftSize field

sized_from : (pointer : ℕ) (earlier : List RecordType) (before : List DraftField) (declared : List DeclaredField) (drafts : List DraftField)
    → stated_fields pointer earlier before declared ≡ Ok drafts → AreSized before → AreSized drafts
    × (length drafts ≡ length before + length declared)
unfolding stated_fields
sized_from pointer earlier before [] drafts e sized = subst (λ (some : List DraftField). AreSized some × (length some ≡ length before + 0))
    (ok_is before drafts e) (sized, omega arith)
sized_from pointer earlier before (declared ∷ rest) drafts e sized =
    let field = bind_ok (stated_field pointer earlier before declared) (λ field. stated_fields pointer earlier (before ++ field ∷ []) rest)
    drafts e in
    let facts = stated_field_facts pointer earlier before declared field.0 field.1 in
    let grown = length-append before (field.0 ∷ []) in
    let all = sized_from pointer earlier (before ++ field.0 ∷ []) rest drafts field.2
    (each-push (λ k. HasDraftSize) before field.0 sized (number_size pointer earlier field.0.base field.0.size facts.sized)) in
    let count = all.1 in
    (all.0, omega (arith, grown, count))

-- as many fields as are declared, each number of a size of its kind
pub stated_sized : (pointer : ℕ) (earlier : List RecordType) (declared : List DeclaredField) (drafts : List DraftField)
    → stated_fields pointer earlier [] declared ≡ Ok drafts → All HasDraftSize drafts × (length drafts ≡ length declared)
stated_sized pointer earlier declared drafts e =
    let all = sized_from pointer earlier [] declared drafts e (λ k field found. absurd (cc)) in
    let count = all.1 in (
      λ k d below. let some = slice_get-some drafts k below in
          subst HasDraftSize (sym (get_or_from_slice_get drafts k some.0 d some.1)) (all.0 k some.0 some.1),
      omega (arith, count),
    )

-- ---- bounds

-- no type is longer
abbrev pub AreShort : List RecordType → Type 0
AreShort types = (k : ℕ) (type : RecordType) → slice_get types k ≡ Some type → type.length ≤ 65536

number_bound : (kind : Kind) (size : ℕ) → is_size_of kind size ≡ true → size ≤ 65536
number_bound Int size sized = grind (arith, nat_tests)
number_bound Unsigned size sized = grind (arith, nat_tests)
number_bound Char size sized = grind (arith, nat_tests)
number_bound Boolean size sized = grind (arith, nat_tests)
number_bound Enumeration size sized = grind (arith, nat_tests)

nested_bound : (earlier : List RecordType) (k : ℕ) (o : Option RecordType) → slice_get earlier k ≡ o → AreShort earlier
    → (elim o [ None ↦ 0 | Some type ↦ type.length ]) ≤ 65536
nested_bound earlier k None found short = omega arith
nested_bound earlier k (Some type) found short = short k type found

size_bound : (pointer : ℕ) (earlier : List RecordType) (base : Base) (size : ℕ) → pointer ≤ 8 → AreShort earlier
    → is_base_size pointer earlier base size ≡ true → size ≤ 65536
size_bound pointer earlier (Number kind) size small short sized = number_bound kind size sized
size_bound pointer earlier Text size small short sized = let same = eqb-true size pointer sized in omega (arith, same)
size_bound pointer earlier (Nested k) size small short sized =
    let same = eqb-true size (nested_length earlier k) sized in
    let bound = nested_bound earlier k (slice_get earlier k) refl short in
    omega (arith, same, bound)

extent_bound : (pointer size : ℕ) (shape : DraftShape) → pointer ≤ 8 → size ≤ 65536 → IsStatedShape shape
    → draft_extent pointer shape size ≤ 4294967296
extent_bound pointer size draft.One small short shaped = omega arith
extent_bound pointer size (draft.Fixed n) small short shaped = let most = mul-le-mul shaped.1 short in omega (arith, most)
extent_bound pointer size (draft.Counted name) small short shaped = omega arith

follows_from : (pointer : ℕ) (earlier : List RecordType) (before : List DraftField) (declared : DeclaredField) (field : DraftField)
    → pointer ≤ 8 → AreShort earlier → IsStated pointer earlier before declared field
    → Follows pointer earlier 4294967296 before field
follows_from pointer earlier before declared field small short stated =
    let size = size_bound pointer earlier field.base field.size small short stated.sized in
    let extent = extent_bound pointer field.size field.shape small size stated.shaped in
    let start = stated.at_start in
    record {
      is = record {
        named = stated.named;
        known = stated.known;
        sized = stated.sized;
        shaped = stated.shaped;
        inside = le-leb (field.offset + draft_extent pointer field.shape field.size) 4294967296 (omega (arith, start, extent));
        defaulted = stated.defaulted;
      };
      fresh = stated.fresh;
    }

drafts_from : (pointer : ℕ) (earlier : List RecordType) (before : List DraftField) (declared : List DeclaredField)
    (drafts : List DraftField) → pointer ≤ 8 → AreShort earlier
    → stated_fields pointer earlier before declared ≡ Ok drafts → AreDrafts pointer earlier 4294967296 before
    → AreDrafts pointer earlier 4294967296 drafts
unfolding stated_fields
drafts_from pointer earlier before [] drafts small short e are = subst (AreDrafts pointer earlier 4294967296) (ok_is before drafts e) are
drafts_from pointer earlier before (declared ∷ rest) drafts small short e are =
    let field = bind_ok (stated_field pointer earlier before declared) (λ field. stated_fields pointer earlier (before ++ field ∷ []) rest)
    drafts e in
    let follows = follows_from pointer earlier before declared field.0 small short
    (stated_field_facts pointer earlier before declared field.0 field.1) in
    drafts_from pointer earlier (before ++ field.0 ∷ []) rest drafts small short field.2
    (drafts_push pointer earlier 4294967296 before field.0 are follows)

-- stated fields as a description's, in a type that is long enough for each
pub stated_drafts : (pointer : ℕ) (earlier : List RecordType) (declared : List DeclaredField) (drafts : List DraftField) → pointer ≤ 8
    → AreShort earlier
    → stated_fields pointer earlier [] declared ≡ Ok drafts → AreDrafts pointer earlier 4294967296 drafts
stated_drafts pointer earlier declared drafts small short e = drafts_from pointer earlier [] declared drafts small short e
    (no_drafts pointer earlier 4294967296)
