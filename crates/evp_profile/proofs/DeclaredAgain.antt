-- A layout that is declared is laid out again: its fields, stated from the start, stand where it has them.
use Rattle.std.proofs.Common.{◌≡◌, ℕ, zero, suc, ◌-◌, ◌<◌, ◌≤◌, ℤ, pos, Bool, true, false, cond, ◌⊎◌, inl, inr, List, [], ◌∷◌, ◌++◌, length}
use Rattle.std.proofs.Common.{Some, Result, Ok, Err, refl, sym, ap, subst, ◌∙◌, append_assoc, arith}
use Rattle.std.specs.Prelude.{slice_get, min}
use Rattle.std.specs.Int.{next_multiple_of}
use Rattle.std.proofs.lemmas.Bool.{le-leb}
use Rattle.std.proofs.lemmas.List.{append-nil}
use Rattle.std.proofs.lemmas.Option.{slice_get_within}
use Rattle.evp_base.specs.Name.{is_name}
use Rattle.evp_format.specs.declared.draft.DraftField.{DraftField}
use Rattle.evp_format.specs.declared.draft.DraftShape.{DraftShape}
use Rattle.evp_format.specs.declared.draft.DraftShape.TheVariants as draft
use Rattle.evp_format.specs.declared.field.Base.{Base}
use Rattle.evp_format.specs.declared.field.Base.TheVariants.{Number, Text, Nested}
use Rattle.evp_format.specs.declared.field.Field.{Field}
use Rattle.evp_format.specs.declared.field.Shape.{Shape}
use Rattle.evp_format.specs.declared.field.Shape.TheVariants.{One, Fixed, Counted}
use Rattle.evp_format.specs.declared.layout_fault.LayoutFault.{LayoutFault}
use Rattle.evp_format.specs.declared.layout_fault.LayoutFault.TheVariants.{Limit}
use Rattle.evp_format.specs.declared.layout_fault.Which.TheVariants.{Length}
use Rattle.evp_format.specs.declared.record_type.RecordType.{RecordType}
use Rattle.evp_format.specs.Bytes.{bytes_equal}
use Rattle.evp_format.specs.Describing.{base_word, field_name, shape_text}
use Rattle.evp_format.specs.Drafts.{has_field, draft_of, type_of, depth_behind}
use Rattle.evp_format.specs.Parts.{new_type_name, new_field_count, new_field_name, allowed_size, allowed_default, ended_type}
use Rattle.evp_format.specs.SoFar.{MayFollow}
use Rattle.evp_format.specs.Steps.{◌>>=◌}
use Rattle.evp_format.specs.Tree.{Tree, trees, branches_of}
use Rattle.evp_format.specs.TypeText.{type_text_of}
use Rattle.evp_format.specs.WellLaid.{HasBaseSize, HasShape, CountsNothing, StatesDefault, IsLaidField, IsLaidType, all_fields}
use Rattle.evp_format.specs.WellLaid.{branches_depth}
use Rattle.evp_format.proofs.Again.{AreNamed, type_text_again}
use Rattle.evp_format.proofs.Parts.{type_name_again, field_count_again, field_name_again, size_again, default_again, ended_again}
use Rattle.evp_format.proofs.Pushed.{slice_get-some, slice_get-front}
use Rattle.evp_format.proofs.StatedFields.{stated_shape, stated_of, stated_all, slice_get-stated, slice_get-seam, list_any-false}
use Rattle.evp_format.proofs.StatedFields.{bytes_equal-false, laid_known, laid_sized, laid_stated_shape, laid_may_default, NamesDiffer}
use Rattle.evp_format.proofs.StatedFields.{counted_again, no_count_default}
use Rattle.evp_format.proofs.TypeTexts.{stated_shape_text}
use Rattle.evp_format.proofs.WellLaidTypes.{done, nested_length-some}
use Rattle.evp_profile.specs.declared.profile.Profile.{Profile}
use Rattle.evp_profile.specs.Alignment.{field_alignment, fields_alignment}
use Rattle.evp_profile.specs.CLayout.{IsLeastMultiple, field_end, IsLaidInC}
use Rattle.evp_profile.specs.DeclarationLaws.{HasDeclaredSize, IsDeclaredField, AreDeclaredFields, IsDeclaredType}
use Rattle.evp_profile.specs.Declarations.{DeclaredField, DeclaredType}
use Rattle.evp_profile.specs.LayingOut.{size_meant, stated_field, stated_fields, within_length, laid_type}
use Rattle.evp_profile.specs.Placing.{field_at, offset_behind, end_behind, end_of_fields, length_of_fields, placed_fields, placed_type}
use Rattle.evp_profile.specs.Profile.{pointer_size}
use Rattle.evp_profile.proofs.Multiples.{next_multiple_is_least, first_multiple}
use Rattle.evp_profile.proofs.PlacedTypes.{field_alignment_positive, placed_last}
use Rattle.evp_profile.proofs.Declared.{shape_placed}
use Rattle.evp_profile.proofs.Alignments.{branches_alignment_positive}
use Rattle.evp_profile.proofs.LaidOut.{number_size}
use Rattle.evp_profile.proofs.TypesPushed.{depth-placed_fields, alignment-placed_fields}

-- ---- fields before they stand anywhere

abbrev pub at_start : List Field → List Field
at_start [] = []
at_start (field ∷ fields) = field_at 0 field ∷ at_start fields

names-at_start : (fields : List Field) (c : ℕ) → field_name (at_start fields) c ≡ field_name fields c
names-at_start [] c = refl
names-at_start (field ∷ fields) zero = refl
names-at_start (field ∷ fields) (suc c) = names-at_start fields c

from_start : (fields : List Field) (k : ℕ) (start : Field) → slice_get (at_start fields) k ≡ Some start → (field : Field)
    × (slice_get fields k ≡ Some field) × (field_at 0 field ≡ start)
from_start [] k start found = absurd (cc)
from_start (field ∷ fields) zero start found = (field, refl, cc)
from_start (field ∷ fields) (suc k) start found = from_start fields k start found

to_start : (fields : List Field) (k : ℕ) (field : Field) → slice_get fields k ≡ Some field → slice_get (at_start fields) k
    ≡ Some (field_at 0 field)
to_start [] k field found = absurd (cc)
to_start (first ∷ fields) zero field found = let same : first ≡ field = cc in ap (λ (f : Field). Some (field_at 0 f)) same
to_start (first ∷ fields) (suc k) field found = to_start fields k field found

-- ---- what holds of them

start_differ : (fields : List Field) → NamesDiffer fields → NamesDiffer (at_start fields)
start_differ fields differ i j start other below found found' same =
    let first = from_start fields i start found in
    let second = from_start fields j other found' in
    let name : first.0.name ≡ start.name = ap (λ (f : Field). f.name) first.2 in
    let name' : second.0.name ≡ other.name = ap (λ (f : Field). f.name) second.2 in
    differ i j first.0 second.0 below first.1 second.1 (name ∙ same ∙ sym name')

start_shape : (fields : List Field) (shape : Shape) → HasShape fields shape → HasShape (at_start fields) shape
start_shape fields One has = has
start_shape fields (Fixed n) has = has
start_shape fields (Counted c) has = (field_at 0 has.0, to_start fields c has.0 has.1, has.2, has.3)

start_nothing : (fields : List Field) (k : ℕ) → CountsNothing fields k → CountsNothing (at_start fields) k
start_nothing fields k nothing i start found same =
    let from = from_start fields i start found in
    let shape : from.0.shape ≡ start.shape = ap (λ (f : Field). f.shape) from.2 in
    nothing i from.0 from.1 (shape ∙ same)

start_default : (fields : List Field) (k : ℕ) (field : Field) → (field.fallback ≡ pos 0) ⊎ StatesDefault fields k field
    → (field.fallback ≡ pos 0) ⊎ StatesDefault (at_start fields) k (field_at 0 field)
start_default fields k field (inl none) = inl none
start_default fields k field (inr states) = inr (record
    { single = states.single; in_range = states.in_range; counts_nothing = start_nothing fields k states.counts_nothing })

-- ---- they are stated

size_again_meant : (pointer : ℕ) (earlier : List RecordType) (base : Base) (size declared : ℕ) → HasBaseSize pointer earlier base size
    → HasDeclaredSize base size declared
    → size_meant pointer earlier base declared ≡ size
size_again_meant pointer earlier (Number kind) size declared sized is = sym is
size_again_meant pointer earlier Text size declared sized is = sym sized
size_again_meant pointer earlier (Nested k) size declared sized is = nested_length-some earlier k sized.0 sized.1 ∙ sym sized.2

-- a field of a well laid type, as it is stated behind these
field_again : (pointer : ℕ) (earlier : List RecordType) (room : ℕ) (all : List Field) (k : ℕ) (field : Field) (before : List DraftField)
    (declared : DeclaredField) → AreNamed earlier
    → IsLaidField pointer earlier room all k field → ((n : ℕ) (other : Field) → slice_get all n ≡ Some other → is_name other.name ≡ true)
    → has_field before field.name ≡ false
    → IsDeclaredField earlier all declared field → stated_field pointer earlier before declared
    ≡ Ok (stated_of (at_start all) (field_at 0 field))
unfolding stated_field
field_again pointer earlier room all k field before declared names laid named fresh is =
    let type = length earlier in
    let number = length before in
    let start = at_start all in
    let shape = stated_shape start field.shape in
    let said : Base × DraftShape = (field.base, shape) in
    let plain = draft_of field.name said field.size 0 (pos 0) in
    let start_named : (n : ℕ) (other : Field) → slice_get start n ≡ Some other → is_name other.name ≡ true =
    λ n other found. let from = from_start all n other found in ap (λ (f : Field). is_name f.name) (sym from.2) ∙ named n from.0 from.1 in
    let shaped = laid_stated_shape start field.shape (start_shape all field.shape laid.shape_allowed) start_named in
    let known = laid_known pointer earlier field.base field.size laid.size_allowed in
    let text : declared.type_text ≡ base_word earlier field.base ++ stated_shape_text shape = sym is.says
    ∙ ap (λ (t : List ℕ). base_word earlier field.base ++ t) (shape_placed start all field.shape (λ c. sym (names-at_start all c))) in
    let name_passes : new_field_name type before declared.name ≡ Ok field.name = ap (new_field_name type before) (sym is.named)
    ∙ field_name_again type before field.name laid.named fresh in
    let text_passes : type_text_of earlier type number declared.type_text ≡ Ok said = ap (type_text_of earlier type number) text
    ∙ type_text_again earlier type number field.base shape names known shaped in
    let size_passes : allowed_size pointer earlier number field.base (size_meant pointer earlier field.base declared.size) ≡ Ok field.size =
    ap (allowed_size pointer earlier number field.base)
    (size_again_meant pointer earlier field.base field.size declared.size laid.size_allowed is.sized)
    ∙ size_again pointer earlier number field.base field.size (laid_sized pointer earlier field.base field.size laid.size_allowed) in
    let default_passes : allowed_default type number plain declared.fallback ≡ Ok field.fallback =
    ap (allowed_default type number plain) (sym is.defaulted)
    ∙ default_again type number plain field.fallback
    (laid_may_default start k (field_at 0 field) (start_default all k field laid.default_allowed)) in
    let last : List ℕ → Base × DraftShape → ℕ → ℤ → Result DraftField LayoutFault = λ name said size fallback. Ok
    (draft_of name said size 0 fallback) in
    let with_size : List ℕ → Base × DraftShape → ℕ → Result DraftField LayoutFault = λ name said size. allowed_default type number
    (draft_of name said size 0 (pos 0)) declared.fallback >>= last name said size in
    let with_type : List ℕ → Base × DraftShape → Result DraftField LayoutFault = λ name said. allowed_size pointer earlier number said.0
    (size_meant pointer earlier said.0 declared.size) >>= with_size name said in
    let with_name : List ℕ → Result DraftField LayoutFault = λ name. type_text_of earlier type number declared.type_text
    >>= with_type name in
    ap (λ (r : Result (List ℕ) LayoutFault). r >>= with_name) name_passes
    ∙ ap (λ (r : Result (Base × DraftShape) LayoutFault). r >>= with_type field.name) text_passes
    ∙ ap (λ (r : Result ℕ LayoutFault). r >>= with_size field.name said) size_passes
    ∙ ap (λ (r : Result ℤ LayoutFault). r >>= last field.name said field.size) default_passes

stated_push : (all front : List Field) (field : Field) → stated_all all (at_start (front ++ field ∷ [])) ≡ stated_all all (at_start front)
    ++ stated_of all (field_at 0 field) ∷ []
stated_push all [] field = refl
stated_push all (first ∷ front) field = ap (λ (rest : List DraftField). stated_of all (field_at 0 first) ∷ rest)
    (stated_push all front field)

fields_again : (pointer : ℕ) (earlier : List RecordType) (type : RecordType) (front rest : List Field) (declared : List DeclaredField)
    → AreNamed earlier → IsLaidType pointer earlier type → type.fields ≡ front ++ rest
    → AreDeclaredFields earlier type.fields declared rest
    → stated_fields pointer earlier (stated_all (at_start type.fields) (at_start front)) declared
    ≡ Ok (stated_all (at_start type.fields) (at_start (front ++ rest)))
unfolding stated_fields
fields_again pointer earlier type front [] [] names laid split are = ap
    (λ (some : List Field). done (stated_all (at_start type.fields) (at_start some))) (sym (append-nil front))
fields_again pointer earlier type front [] (declared ∷ more) names laid split are = absurd are
fields_again pointer earlier type front (field ∷ rest) [] names laid split are = absurd are
fields_again pointer earlier type front (field ∷ rest) (declared ∷ more) names laid split are =
    let all = type.fields in
    let start = at_start all in
    let k = length front in
    let before = stated_all start (at_start front) in
    let at : slice_get all k ≡ Some field = ap (λ (some : List Field). slice_get some k) split ∙ slice_get-seam front rest field in
    let named : (n : ℕ) (other : Field) → slice_get all n ≡ Some other → is_name other.name
    ≡ true = λ n other found. (laid.each_field n other found).named in
    let fresh : has_field before field.name ≡ false =
    list_any-false (λ (f : DraftField). bytes_equal f.name field.name) before
    (λ n other found.
    let stated = slice_get-stated start (at_start front) n other found in
    let from = from_start front n stated.0 stated.1 in
    let inside = slice_get_within front n from.0 from.1 in
    let there : slice_get all n ≡ Some from.0 = ap (λ (some : List Field). slice_get some n) split
    ∙ slice_get-front front (field ∷ rest) n from.0 from.1 in
    ap (λ (f : DraftField). bytes_equal f.name field.name) (sym stated.2) ∙ ap (λ (f : Field). bytes_equal f.name field.name) (sym from.2)
    ∙ bytes_equal-false from.0.name field.name (laid.names_differ n k from.0 field inside there at)) in
    let first = field_again pointer earlier type.length all k field before declared names (laid.each_field k field at) named fresh are.0 in
    let together : (front ++ field ∷ []) ++ rest ≡ front ++ field ∷ rest = append_assoc front (field ∷ []) rest in
    let later = fields_again pointer earlier type (front ++ field ∷ []) rest more names laid (split ∙ sym together) are.1 in
    let with_field : DraftField → Result (List DraftField) LayoutFault = λ field. stated_fields pointer earlier (before ++ field ∷ []) more
    in
    ap (λ (r : Result DraftField LayoutFault). r >>= with_field) first
    ∙ ap (λ (some : List DraftField). stated_fields pointer earlier some more) (sym (stated_push start front field))
    ∙ later
    ∙ ap (λ (some : List Field). done (stated_all start (at_start some))) together

-- ---- they stand where the layout has them

multiples_are_one : (step n first second : ℕ) → IsLeastMultiple step n first → IsLeastMultiple step n second → first ≡ second
multiples_are_one step n first second one other =
    let below = one.least other.times (let is = other.is_multiple in let from = other.from in omega (arith, is, from)) in
    let above = other.least one.times (let is = one.is_multiple in let from = one.from in omega (arith, is, from)) in
    let is = one.is_multiple in
    let is' = other.is_multiple in
    omega (arith, below, above, is, is')

-- each field stands at the least multiple of its alignment behind the one before it, the first behind `end`
abbrev StandFrom : Profile → List Tree → ℕ → List Field → Type 0
StandFrom profile known end [] = Unit {0}
StandFrom profile known end (field ∷ fields) = (field.offset ≡ next_multiple_of end (field_alignment profile known field))
    × StandFrom profile known (field_end profile field) fields

placed_again : (profile : Profile) (known : List Tree) (end : ℕ) (fields : List Field) → StandFrom profile known end fields
    → placed_fields profile known end (at_start fields) ≡ fields
placed_again profile known end [] stand = refl
placed_again profile known end (field ∷ fields) stand =
    let offset : offset_behind profile known end (field_at 0 field) ≡ field.offset = sym stand.0 in
    let behind : end_behind profile known end (field_at 0 field) ≡ field_end profile field = ap
    (λ (n : ℕ). field_end profile (field_at n field)) offset in
    ap (λ (n : ℕ). field_at n field ∷ placed_fields profile known (end_behind profile known end (field_at 0 field)) (at_start fields))
    offset
    ∙ ap (λ (n : ℕ). field ∷ placed_fields profile known n (at_start fields)) behind
    ∙ ap (λ (some : List Field). field ∷ some) (placed_again profile known (field_end profile field) fields stand.1)

aligned : (profile : Profile) (earlier : List RecordType) (type : RecordType) (k : ℕ) (field : Field)
    → IsLaidType (pointer_size profile) earlier type → slice_get type.fields k ≡ Some field
    → 0 < field_alignment profile (trees earlier) field
aligned profile earlier type k field laid found =
    field_alignment_positive profile (trees earlier) field
    (number_size (pointer_size profile) earlier field.base field.size (laid.each_field k field found).size_allowed)

length-push : (front : List Field) (field : Field) → length (front ++ field ∷ []) ≡ suc (length front)
length-push [] field = refl
length-push (first ∷ front) field = ap suc (length-push front field)

stand_behind : (profile : Profile) (earlier : List RecordType) (type : RecordType) (front : List Field) (field : Field) (rest : List Field)
    → IsLaidType (pointer_size profile) earlier type → IsLaidInC profile earlier type
    → type.fields ≡ front ++ field ∷ rest → StandFrom profile (trees earlier) (field_end profile field) rest
stand_behind profile earlier type front field [] laid in_c split = tt
stand_behind profile earlier type front field (next ∷ rest) laid in_c split =
    let k = length front in
    let together : type.fields ≡ (front ++ field ∷ []) ++ next ∷ rest = split ∙ sym (append_assoc front (field ∷ []) (next ∷ rest)) in
    let at : slice_get type.fields k ≡ Some field = ap (λ (some : List Field). slice_get some k) split
    ∙ slice_get-seam front (next ∷ rest) field in
    let seam : slice_get type.fields (length (front ++ field ∷ [])) ≡ Some next = ap
    (λ (some : List Field). slice_get some (length (front ++ field ∷ []))) together ∙ slice_get-seam (front ++ field ∷ []) rest next in
    let one_more : length (front ++ field ∷ []) ≡ suc k = length-push front field in
    let at' : slice_get type.fields (suc k) ≡ Some next = subst (λ (n : ℕ). slice_get type.fields n ≡ Some next) one_more seam in
    let step = field_alignment profile (trees earlier) next in
    let least = next_multiple_is_least step (field_end profile field) (aligned profile earlier type (suc k) next laid at') in (
      multiples_are_one step (field_end profile field) next.offset (next_multiple_of (field_end profile field) step)
          (in_c.goes_on k field next at at') least,
      stand_behind profile earlier type (front ++ field ∷ []) next rest laid in_c together,
    )

stand_all : (profile : Profile) (earlier : List RecordType) (type : RecordType) (fields : List Field)
    → IsLaidType (pointer_size profile) earlier type → IsLaidInC profile earlier type → type.fields ≡ fields
    → StandFrom profile (trees earlier) 0 fields
stand_all profile earlier type [] laid in_c is = tt
stand_all profile earlier type (field ∷ rest) laid in_c is =
    let at : slice_get type.fields 0 ≡ Some field = ap (λ (some : List Field). slice_get some 0) is in (
      in_c.begins field at ∙ sym (first_multiple (field_alignment profile (trees earlier) field)
          (aligned profile earlier type 0 field laid at)),
      stand_behind profile earlier type [] field rest laid in_c is,
    )

-- ---- the type

placed_at_start : (profile : Profile) (earlier : List RecordType) (type : RecordType) → IsLaidType (pointer_size profile) earlier type
    → IsLaidInC profile earlier type
    → placed_fields profile (trees earlier) 0 (at_start type.fields) ≡ type.fields
placed_at_start profile earlier type laid in_c = placed_again profile (trees earlier) 0 type.fields
    (stand_all profile earlier type type.fields laid in_c refl)

length_again : (profile : Profile) (earlier : List RecordType) (type : RecordType) → IsLaidType (pointer_size profile) earlier type
    → IsLaidInC profile earlier type
    → length_of_fields profile (trees earlier) (at_start type.fields) ≡ type.length
length_again profile earlier type laid in_c =
    let known = trees earlier in
    let start = at_start type.fields in
    let placed = placed_at_start profile earlier type laid in_c in
    let step = fields_alignment profile known type.fields in
    let step_is : fields_alignment profile known start ≡ step = sym (alignment-placed_fields profile known 0 start)
    ∙ ap (fields_alignment profile known) placed in
    let last = slice_get-some type.fields (length type.fields - 1) (let some = laid.fields_allowed.0 in omega (arith, some)) in
    let end_is : end_of_fields profile known 0 start ≡ field_end profile last.0 =
    placed_last profile known 0 start last.0 (subst (λ (some : List Field). slice_get some (length some - 1) ≡ Some last.0) (sym placed)
    last.1) in
    let positive : 0 < step = let some = branches_alignment_positive profile (branches_of known type.fields) in omega (arith, some) in
    ap (next_multiple_of (end_of_fields profile known 0 start)) step_is
    ∙ ap (λ (n : ℕ). next_multiple_of n step) end_is
    ∙ multiples_are_one step (field_end profile last.0) (next_multiple_of (field_end profile last.0) step) type.length
    (next_multiple_is_least step (field_end profile last.0) positive) (in_c.ends last.0 last.1)

declared_count : (earlier : List RecordType) (all : List Field) (declared : List DeclaredField) (fields : List Field)
    → AreDeclaredFields earlier all declared fields → length declared ≡ length fields
declared_count earlier all [] [] are = refl
declared_count earlier all [] (field ∷ fields) are = absurd are
declared_count earlier all (declared ∷ rest) [] are = absurd are
declared_count earlier all (declared ∷ rest) (field ∷ fields) are = ap suc (declared_count earlier all rest fields are.1)

-- a type that may follow these, is laid out as in C and is the declared one
pub type_again : (profile : Profile) (earlier : List RecordType) (declared : DeclaredType) (type : RecordType) → AreNamed earlier
    → MayFollow (pointer_size profile) earlier type → IsLaidInC profile earlier type
    → IsDeclaredType earlier declared type → laid_type profile earlier declared ≡ Ok type
unfolding laid_type within_length
type_again profile earlier declared type names follows in_c is =
    let pointer = pointer_size profile in
    let known = trees earlier in
    let laid = follows.is in
    let fields = type.fields in
    let start = at_start fields in
    let drafts = stated_all start start in
    let unplaced = type_of type.name 0 start in
    let name : new_type_name earlier declared.name ≡ Ok type.name = ap (new_type_name earlier) (sym is.named)
    ∙ type_name_again earlier type.name laid.named laid.not_reserved follows.fresh in
    let count : new_field_count (all_fields earlier) (length declared.fields) ≡ Ok (length fields) =
    ap (new_field_count (all_fields earlier)) (declared_count earlier fields declared.fields fields is.fields)
    ∙ field_count_again (all_fields earlier) (length fields) laid.fields_allowed.0 laid.fields_allowed.1 follows.few in
    let stated : stated_fields pointer earlier [] declared.fields ≡ Ok drafts = fields_again pointer earlier type [] fields declared.fields
    names laid refl is.fields in
    let placed = placed_at_start profile earlier type laid in_c in
    let deep = depth-placed_fields profile known 0 start in
    let deep' = ap (λ (some : List Field). branches_depth (branches_of known some)) placed in
    let shallow = follows.shallow in
    let unplaced_shallow : depth_behind earlier unplaced ≤ 16 = omega (arith, deep, deep', shallow) in
    let ended : ended_type earlier type.name 0 drafts ≡ Ok unplaced =
    ended_again earlier drafts unplaced
    (counted_again start (length earlier) (start_differ fields laid.names_differ)
    (λ k other found. let from = from_start fields k other found in
    subst (λ (f : Field). HasShape start f.shape) from.2 (start_shape fields from.0.shape (laid.each_field k from.0 from.1).shape_allowed)))
    (no_count_default start
    (λ k other found. let from = from_start fields k other found in
    subst (λ (f : Field). (f.fallback ≡ pos 0) ⊎ StatesDefault start k f) from.2
    (start_default fields k from.0 (laid.each_field k from.0 from.1).default_allowed)))
    unplaced_shallow in
    let long = length_again profile earlier type laid in_c in
    let whole : placed_type profile known unplaced ≡ type =
    ap (λ (n : ℕ). type_of type.name n (placed_fields profile known 0 start)) long ∙ ap (type_of type.name type.length) placed in
    let within : within_length type ≡ Ok type = ap (λ (b : Bool). cond b (done type) (Err (Limit Length (min type.length 4294967295))))
    (le-leb type.length 65536 laid.length_allowed.1) in
    let finish : RecordType → Result RecordType LayoutFault = λ made. within_length (placed_type profile known made) in
    let with_drafts : List ℕ → List DraftField → Result RecordType LayoutFault = λ name drafts. ended_type earlier name 0 drafts
    >>= finish in
    let with_count : List ℕ → ℕ → Result RecordType LayoutFault = λ name count. stated_fields pointer earlier [] declared.fields
    >>= with_drafts name in
    let with_name : List ℕ → Result RecordType LayoutFault = λ name. new_field_count (all_fields earlier) (length declared.fields)
    >>= with_count name in
    ap (λ (r : Result (List ℕ) LayoutFault). r >>= with_name) name
    ∙ ap (λ (r : Result ℕ LayoutFault). r >>= with_count type.name) count
    ∙ ap (λ (r : Result (List DraftField) LayoutFault). r >>= with_drafts type.name) stated
    ∙ ap (λ (r : Result RecordType LayoutFault). r >>= finish) ended
    ∙ ap within_length whole
    ∙ within
