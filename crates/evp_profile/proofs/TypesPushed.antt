-- What is known of the types, one type on.
use Rattle.std.proofs.Common.{◌≡◌, ℕ, ◌+◌, ◌<◌, ◌≤◌, List, [], ◌∷◌, ◌++◌, length, take, max, map, slice_set, Result, Ok, refl, sym, ap}
use Rattle.std.proofs.Common.{subst, ◌∙◌, arith}
use Rattle.std.proofs.lemmas.List.{map_push, length-append, take_more_set}
use Rattle.evp_format.specs.declared.draft.DraftField.{DraftField}
use Rattle.evp_format.specs.declared.field.Field.{Field}
use Rattle.evp_format.specs.declared.layout_fault.LayoutFault.{LayoutFault}
use Rattle.evp_format.specs.declared.record_type.RecordType.{RecordType}
use Rattle.evp_format.specs.Drafts.{depth_behind}
use Rattle.evp_format.specs.Parts.{new_type_name, new_field_count, ended_type}
use Rattle.evp_format.specs.SoFar.{SoFar, so_far, AreLaid}
use Rattle.evp_format.specs.Steps.{◌>>=◌}
use Rattle.evp_format.specs.Tree.{Tree, branches_of, part_of, trees, resolved}
use Rattle.evp_format.specs.WellLaid.{branches_depth, part_depth, all_fields}
use Rattle.evp_format.proofs.Parts.{ended_facts}
use Rattle.evp_format.proofs.Trees.{trees_behind-append}
use Rattle.evp_format.proofs.WellLaidTypes.{bind_ok}
use Rattle.evp_profile.specs.declared.profile.Profile.{Profile}
use Rattle.evp_profile.specs.Alignment.{alignment, fields_alignment, field_alignment}
use Rattle.evp_profile.specs.Declarations.{DeclaredType}
use Rattle.evp_profile.specs.LaidSoFar.{AreAligned}
use Rattle.evp_profile.specs.LayingOut.{stated_fields, within_length, laid_type}
use Rattle.evp_profile.specs.Placing.{placed_fields, placed_type, end_behind}
use Rattle.evp_profile.specs.Profile.{pointer_size}
use Rattle.evp_profile.proofs.TypeFacts.{HasEnded, placed_facts}

pub trees-push : (types : List RecordType) (type : RecordType) → trees (types ++ type ∷ []) ≡ trees types ++ resolved (trees types) type
    ∷ []
trees-push types type = trees_behind-append [] types (type ∷ [])

mapped_push : (f : Tree → ℕ) (known : List ℕ) (types : List RecordType) (type : RecordType) (own : ℕ) → known ≡ map f (trees types) → own
    ≡ f (resolved (trees types) type)
    → known ++ own ∷ [] ≡ map f (trees (types ++ type ∷ []))
mapped_push f known types type own is this =
    ap (λ (some : List ℕ). some ++ own ∷ []) is ∙ ap (λ (n : ℕ). map f (trees types) ++ n ∷ []) this
    ∙ sym (map_push f (trees types) (resolved (trees types) type)) ∙ sym (ap (map f) (trees-push types type))

pub aligned_push : (profile : Profile) (alignments : List ℕ) (types : List RecordType) (type : RecordType) (own : ℕ) → alignments
    ≡ map (alignment profile) (trees types)
    → own ≡ fields_alignment profile (trees types) type.fields → alignments ++ own ∷ []
    ≡ map (alignment profile) (trees (types ++ type ∷ []))
aligned_push profile alignments types type own is this = mapped_push (alignment profile) alignments types type own is this

-- what is kept of the types, one type on
pub aligned_on : (profile : Profile) (before after : SoFar) (type : RecordType) (alignments : List ℕ) (number own : ℕ)
    → AreAligned profile before alignments
    → after ≡ so_far before.pointer (before.types ++ type ∷ []) → AreLaid after.pointer after.types → length before.types < 64
    → 64 ≤ length alignments → number ≡ length before.types
    → own ≡ fields_alignment profile (trees before.types) type.fields → AreAligned profile after (slice_set alignments number own)
aligned_on profile before after type alignments number own are pushed laid room long last this =
    let types = before.types in
    let grown = ap (λ (s : SoFar). s.types) pushed in
    let more = length-append types (type ∷ []) in
    let one_more : length (types ++ type ∷ []) ≡ number + 1 = omega (arith, more, last) in
    let front : take (length after.types) (slice_set alignments number own) ≡ take (length types) alignments ++ own ∷ [] =
    ap (λ (some : List RecordType). take (length some) (slice_set alignments number own)) grown
    ∙ ap (λ (n : ℕ). take n (slice_set alignments number own)) one_more
    ∙ take_more_set alignments number own (omega (arith, last, room, long))
    ∙ ap (λ (n : ℕ). take n alignments ++ own ∷ []) last in
    let all = ap length grown in
    record {
      has_pointer = ap (λ (s : SoFar). s.pointer) pushed ∙ are.has_pointer;
      few = omega (arith, all, one_more, last, room);
      laid = laid;
      aligned = front ∙ aligned_push profile (take (length types) alignments) types type own are.aligned this
          ∙ ap (λ (some : List RecordType). map (alignment profile) (trees some)) (sym grown);
    }

-- where fields stand changes neither how deep they nest nor their alignments
pub depth-placed_fields : (profile : Profile) (known : List Tree) (end : ℕ) (fields : List Field)
    → branches_depth (branches_of known (placed_fields profile known end fields)) ≡ branches_depth (branches_of known fields)
depth-placed_fields profile known end [] = refl
depth-placed_fields profile known end (field ∷ fields) = ap (λ (n : ℕ). max (part_depth (part_of known field.base)) n)
    (depth-placed_fields profile known (end_behind profile known end field) fields)

pub alignment-placed_fields : (profile : Profile) (known : List Tree) (end : ℕ) (fields : List Field)
    → fields_alignment profile known (placed_fields profile known end fields) ≡ fields_alignment profile known fields
alignment-placed_fields profile known end [] = refl
alignment-placed_fields profile known end (field ∷ fields) = ap (λ (n : ℕ). max (field_alignment profile known field) n)
    (alignment-placed_fields profile known (end_behind profile known end field) fields)

-- a type of which nothing is refused
pub record IsMade (profile : Profile) (earlier : List RecordType) (declared : DeclaredType) (type : RecordType) : Type 0 where
  pub name : List ℕ
  pub named : new_type_name earlier declared.name ≡ Ok name
  pub count : ℕ
  pub counted : new_field_count (all_fields earlier) (length declared.fields) ≡ Ok count
  pub drafts : List DraftField
  pub stated : stated_fields (pointer_size profile) earlier [] declared.fields ≡ Ok drafts
  pub ended : HasEnded profile earlier name drafts type

pub laid_type_facts : (profile : Profile) (earlier : List RecordType) (declared : DeclaredType) (type : RecordType)
    → laid_type profile earlier declared ≡ Ok type → IsMade profile earlier declared type
unfolding laid_type
laid_type_facts profile earlier declared type e =
    let placed : RecordType → Result RecordType LayoutFault = λ made. within_length (placed_type profile (trees earlier) made) in
    let with_drafts : List ℕ → List DraftField → Result RecordType LayoutFault = λ name drafts. ended_type earlier name 0 drafts
    >>= placed in
    let with_count : List ℕ → ℕ → Result RecordType LayoutFault = λ name count. stated_fields (pointer_size profile) earlier []
    declared.fields >>= with_drafts name in
    let with_name : List ℕ → Result RecordType LayoutFault = λ name. new_field_count (all_fields earlier) (length declared.fields)
    >>= with_count name in
    let name = bind_ok (new_type_name earlier declared.name) with_name type e in
    let count = bind_ok (new_field_count (all_fields earlier) (length declared.fields)) (with_count name.0) type name.2 in
    let drafts = bind_ok (stated_fields (pointer_size profile) earlier [] declared.fields) (with_drafts name.0) type count.2 in
    let made = bind_ok (ended_type earlier name.0 0 drafts.0) placed type drafts.2 in
    record {
      name = name.0;
      named = name.1;
      count = count.0;
      counted = count.1;
      drafts = drafts.0;
      stated = drafts.1;
      ended = placed_facts profile earlier name.0 drafts.0 made.0 type (ended_facts earlier name.0 0 drafts.0 made.0 made.1) made.2;
    }

-- it nests no deeper than 16
pub made_shallow : (profile : Profile) (earlier : List RecordType) (declared : DeclaredType) (type : RecordType)
    → IsMade profile earlier declared type → depth_behind earlier type ≤ 16
made_shallow profile earlier declared type made =
    let ended = made.ended in
    let placed = depth-placed_fields profile (trees earlier) 0 ended.fields in
    let unplaced = ended.shallow in
    subst (λ (t : RecordType). depth_behind earlier t ≤ 16) ended.is (omega (arith, placed, unplaced))
