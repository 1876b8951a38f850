-- What is laid out by a profile is a well laid format, and laid as in C.
use Rattle.std.proofs.Common.{◌≡◌, ◌≢◌, ℕ, suc, ◌+◌, ◌<◌, ◌≤◌, true, false, ◌⊎◌, inl, inr, List, [], ◌∷◌, ◌++◌, length, take, Some, Ok}
use Rattle.std.proofs.Common.{refl, sym, ap, subst, ◌∙◌, arith}
use Rattle.std.specs.Prelude.{slice_get}
use Rattle.std.proofs.lemmas.List.{length-append}
use Rattle.evp_base.specs.Name.{is_name}
use Rattle.evp_format.specs.declared.field.Base.{Base}
use Rattle.evp_format.specs.declared.field.Base.TheVariants.{Number, Text, Nested}
use Rattle.evp_format.specs.declared.field.Field.{Field}
use Rattle.evp_format.specs.declared.record_type.RecordType.{RecordType}
use Rattle.evp_format.specs.Drafts.{has_type}
use Rattle.evp_format.specs.Layout.{layout_with}
use Rattle.evp_format.specs.SoFar.{AreLaid, MayFollow}
use Rattle.evp_format.specs.Tree.{trees, branches_of}
use Rattle.evp_format.specs.WellLaid.{is_reserved, all_fields, extent, HasBaseSize, IsLaidField, IsLaidType, IsWellLaid}
use Rattle.evp_format.proofs.Parts.{type_name_facts, field_count_facts}
use Rattle.evp_format.proofs.Pushed.{slice_get-push, slice_get-some}
use Rattle.evp_format.proofs.WellLaidFormats.{no_types, types_push, before_old, before_new, well_laid}
use Rattle.evp_format.proofs.WellLaidTypes.{bind_ok, ok_is, AreCounted, counted_each, laid_field, names_differ}
use Rattle.evp_profile.specs.declared.profile.Profile.{Profile}
use Rattle.evp_profile.specs.declared.profile.Profile.TheVariants.{Le64, Le32, Be64, Be32}
use Rattle.evp_profile.specs.Alignment.{field_alignment, fields_alignment}
use Rattle.evp_profile.specs.CLayout.{IsLeastMultiple, field_end, IsLaidInC, IsCLayout}
use Rattle.evp_profile.specs.Declarations.{DeclaredType}
use Rattle.evp_profile.specs.LayingOut.{laid_type, laid_types}
use Rattle.evp_profile.specs.Placing.{end_of_fields, length_of_fields, field_at, placed_fields, placed_type}
use Rattle.evp_profile.specs.Profile.{byte_order, pointer_size}
use Rattle.evp_profile.specs.Sizes.{is_number_size}
use Rattle.evp_profile.proofs.Alignments.{branches_alignment_positive}
use Rattle.evp_profile.proofs.Ends.{unplaced}
use Rattle.evp_profile.proofs.Multiples.{next_multiple_is_least, first_multiple}
use Rattle.evp_profile.proofs.PlacedTypes.{placed_is, placed_at, placed_within, placed_in_order, placed_next, placed_first, placed_last}
use Rattle.evp_profile.proofs.PlacedTypes.{field_alignment_positive, placed_laid, AreSome, extent_positive}
use Rattle.evp_profile.proofs.Placings.{length-placed_fields}
use Rattle.evp_profile.proofs.StatedFacts.{AreShort, stated_sized, stated_drafts}
use Rattle.evp_profile.proofs.TypesPushed.{IsMade, laid_type_facts, made_shallow, alignment-placed_fields}

-- ---- pointers

pointer_small : (profile : Profile) → (1 ≤ pointer_size profile) × (pointer_size profile ≤ 8)
pointer_small Le64 = (omega arith, omega arith)
pointer_small Le32 = (omega arith, omega arith)
pointer_small Be64 = (omega arith, omega arith)
pointer_small Be32 = (omega arith, omega arith)

pointer_allowed : (profile : Profile) → (pointer_size profile ≡ 4) ⊎ (pointer_size profile ≡ 8)
pointer_allowed Le64 = inr refl
pointer_allowed Le32 = inl refl
pointer_allowed Be64 = inr refl
pointer_allowed Be32 = inl refl

-- ---- a type's fields before they are placed

-- each may stand in a type that is long enough
pub record HasFields (profile : Profile) (earlier : List RecordType) (fields : List Field) : Type 0 where
  pub some : 1 ≤ length fields
  pub most : length fields ≤ 1024
  pub few : all_fields earlier + length fields ≤ 4096
  pub each : (k : ℕ) (field : Field) → slice_get fields k ≡ Some field → IsLaidField (pointer_size profile) earlier 4294967296 fields k
      field
  pub names_differ : (i j : ℕ) (field other : Field) → i < j → slice_get fields i ≡ Some field → slice_get fields j ≡ Some other
      → field.name ≢ other.name

made_fields : (profile : Profile) (earlier : List RecordType) (declared : DeclaredType) (type : RecordType) → AreShort earlier
    → (made : IsMade profile earlier declared type)
    → HasFields profile earlier made.ended.fields
made_fields profile earlier declared type short made =
    let pointer = pointer_size profile in
    let fields = made.ended.fields in
    let drafts = stated_drafts pointer earlier declared.fields made.drafts (pointer_small profile).1 short made.stated in
    let each = counted_each (length earlier) 0 made.drafts made.drafts fields made.ended.counted in
    let counted : AreCounted made.drafts fields = record { same_length = each.0; each = each.1 } in
    let count = field_count_facts (all_fields earlier) (length declared.fields) made.count made.counted in
    let least = count.0 in
    let most = count.1 in
    let all = count.2 in
    let stated = count.3 in
    let number = (stated_sized pointer earlier declared.fields made.drafts made.stated).1 in
    let same = each.0 in
    record {
      some = omega (arith, least, stated, number, same);
      most = omega (arith, most, stated, number, same);
      few = omega (arith, all, stated, number, same);
      each = λ k field found. laid_field pointer earlier 4294967296 made.drafts fields k field drafts counted made.ended.without_default
          found;
      names_differ = names_differ pointer earlier 4294967296 made.drafts fields drafts counted;
    }

-- ---- the type

same_extent : (profile : Profile) (offset : ℕ) (from placed : Field) → field_at offset from ≡ placed → extent (pointer_size profile) from
    ≡ extent (pointer_size profile) placed
same_extent profile offset from placed is = ap (extent (pointer_size profile)) is

laid_placed : (profile : Profile) (earlier : List RecordType) (fields : List Field) (length : ℕ) (k : ℕ) (placed : Field)
    → HasFields profile earlier fields → end_of_fields profile (trees earlier) 0 fields ≤ length
    → slice_get (placed_fields profile (trees earlier) 0 fields) k ≡ Some placed
    → IsLaidField (pointer_size profile) earlier length (placed_fields profile (trees earlier) 0 fields) k placed
laid_placed profile earlier fields length k placed has short found =
    let from = placed_is profile (trees earlier) 0 fields k placed found in
    let within = placed_within profile (trees earlier) 0 fields k placed found in
    let same = same_extent profile placed.offset from.from placed from.is in
    subst (IsLaidField (pointer_size profile) earlier length (placed_fields profile (trees earlier) 0 fields) k) from.is
    (placed_laid profile (trees earlier) 0 (pointer_size profile) earlier 4294967296 length fields k placed.offset from.from
    (has.each k from.from from.found) (omega (arith, within, same, short)))

-- the last field ends no further than the type
ends_within : (profile : Profile) (earlier : List RecordType) (fields : List Field)
    → end_of_fields profile (trees earlier) 0 fields ≤ length_of_fields profile (trees earlier) fields
ends_within profile earlier fields =
    let whole = next_multiple_is_least (fields_alignment profile (trees earlier) fields) (end_of_fields profile (trees earlier) 0 fields)
    (let some = branches_alignment_positive profile (branches_of (trees earlier) fields) in omega (arith, some)) in
    whole.from

takes_some : (profile : Profile) (earlier : List RecordType) (fields : List Field) → AreSome earlier → HasFields profile earlier fields
    → 1 ≤ end_of_fields profile (trees earlier) 0 fields
takes_some profile earlier fields some has =
    let first = slice_get-some fields 0 (let some = has.some in omega (arith, some)) in
    let least = extent_positive (pointer_size profile) earlier 4294967296 fields 0 first.0 (pointer_small profile).0 some
    (has.each 0 first.0 first.1) in
    let stands = placed_at profile (trees earlier) 0 fields 0 first.0 first.1 in
    let within = placed_within profile (trees earlier) 0 fields 0 (field_at stands.0 first.0) stands.1 in
    omega (arith, least, within)

placed_names : (profile : Profile) (earlier : List RecordType) (fields : List Field) (i j : ℕ) (placed other : Field)
    → HasFields profile earlier fields → i < j
    → slice_get (placed_fields profile (trees earlier) 0 fields) i ≡ Some placed
    → slice_get (placed_fields profile (trees earlier) 0 fields) j ≡ Some other → placed.name ≢ other.name
placed_names profile earlier fields i j placed other has below found found' same =
    let first = placed_is profile (trees earlier) 0 fields i placed found in
    let second = placed_is profile (trees earlier) 0 fields j other found' in
    let first_name : first.from.name ≡ placed.name = ap (λ (f : Field). f.name) first.is in
    let second_name : second.from.name ≡ other.name = ap (λ (f : Field). f.name) second.is in
    has.names_differ i j first.from second.from below first.found second.found (first_name ∙ same ∙ sym second_name)

laid_whole : (profile : Profile) (earlier : List RecordType) (name : List ℕ) (fields : List Field) → is_name name ≡ true → is_reserved name
    ≡ false → AreSome earlier → HasFields profile earlier fields
    → length_of_fields profile (trees earlier) fields ≤ 65536 → IsLaidType (pointer_size profile) earlier
    (placed_type profile (trees earlier) (unplaced name fields))
laid_whole profile earlier name fields named not_reserved some has short =
    let within = ends_within profile earlier fields in
    let least = takes_some profile earlier fields some has in
    let same = length-placed_fields profile (trees earlier) 0 fields in
    let first = has.some in
    let most = has.most in
    record {
      named = named;
      not_reserved = not_reserved;
      length_allowed = (omega (arith, within, least), short);
      fields_allowed = (omega (arith, same, first), omega (arith, same, most));
      names_differ = λ i j placed other below found found'. placed_names profile earlier fields i j placed other has below found found';
      each_field = λ k placed found. laid_placed profile earlier fields (length_of_fields profile (trees earlier) fields) k placed
          has within found;
      apart = λ i j placed other below found found'. inl
          (placed_in_order profile (trees earlier) 0 fields i j placed other below found found');
    }

-- ---- as in C

pub number_size : (pointer : ℕ) (earlier : List RecordType) (base : Base) (size : ℕ) → HasBaseSize pointer earlier base size
    → is_number_size base size ≡ true
number_size pointer earlier (Number kind) size sized = sized
number_size pointer earlier Text size sized = refl
number_size pointer earlier (Nested k) size sized = refl

aligned_placed : (profile : Profile) (earlier : List RecordType) (fields : List Field) (k : ℕ) (placed : Field)
    → HasFields profile earlier fields
    → slice_get (placed_fields profile (trees earlier) 0 fields) k ≡ Some placed → 0 < field_alignment profile (trees earlier) placed
aligned_placed profile earlier fields k placed has found =
    let laid = laid_placed profile earlier fields (end_of_fields profile (trees earlier) 0 fields) k placed has (omega arith) found in
    field_alignment_positive profile (trees earlier) placed
    (number_size (pointer_size profile) earlier placed.base placed.size laid.size_allowed)

in_c_whole : (profile : Profile) (earlier : List RecordType) (name : List ℕ) (fields : List Field) → HasFields profile earlier fields
    → IsLaidInC profile earlier (placed_type profile (trees earlier) (unplaced name fields))
in_c_whole profile earlier name fields has = record {
  begins = λ placed found. placed_first profile (trees earlier) fields placed found
      ∙ first_multiple (field_alignment profile (trees earlier) placed) (aligned_placed profile earlier fields 0 placed has found);
  goes_on = λ k placed next found found'.
      let step = field_alignment profile (trees earlier) next in
      subst (IsLeastMultiple step (field_end profile placed))
      (sym (placed_next profile (trees earlier) 0 fields k placed next found found'))
      (next_multiple_is_least step (field_end profile placed) (aligned_placed profile earlier fields (suc k) next has found'));
  ends = λ placed found.
      let step = fields_alignment profile (trees earlier) fields in
      let end = end_of_fields profile (trees earlier) 0 fields in
      let whole = next_multiple_is_least step end (let some = branches_alignment_positive profile (branches_of (trees earlier) fields) in
      omega (arith, some)) in
      let behind = placed_last profile (trees earlier) 0 fields placed found in
      let aligned = alignment-placed_fields profile (trees earlier) 0 fields in
      subst (λ (n : ℕ). IsLeastMultiple n (field_end profile placed) (length_of_fields profile (trees earlier) fields)) (sym aligned)
      (subst (λ (n : ℕ). IsLeastMultiple step n (length_of_fields profile (trees earlier) fields)) behind whole);
}

-- ---- types

pub record AreOut (profile : Profile) (types : List RecordType) : Type 0 where
  pub laid : AreLaid (pointer_size profile) types
  pub in_c : (k : ℕ) (type : RecordType) → slice_get types k ≡ Some type → IsLaidInC profile (take k types) type

pub made_follows : (profile : Profile) (earlier : List RecordType) (declared : DeclaredType) (type : RecordType)
    → AreLaid (pointer_size profile) earlier → IsMade profile earlier declared type
    → MayFollow (pointer_size profile) earlier type × IsLaidInC profile earlier type
made_follows profile earlier declared type are made =
    let short : AreShort earlier = λ k other found. (are.each k other found).length_allowed.1 in
    let some : AreSome earlier = λ k other found. (are.each k other found).length_allowed.0 in
    let has = made_fields profile earlier declared type short made in
    let named = type_name_facts earlier declared.name made.name made.named in
    let laid = laid_whole profile earlier made.name made.ended.fields named.0 named.1 some has made.ended.short in
    let same = length-placed_fields profile (trees earlier) 0 made.ended.fields in
    let few = has.few in (
      record {
        is = subst (IsLaidType (pointer_size profile) earlier) made.ended.is laid;
        fresh = subst (λ (t : RecordType). has_type earlier t.name ≡ false) made.ended.is named.2;
        shallow = made_shallow profile earlier declared type made;
        few = subst (λ (t : RecordType). all_fields earlier + length t.fields ≤ 4096) made.ended.is (omega (arith, same, few));
      },
      subst (IsLaidInC profile earlier) made.ended.is (in_c_whole profile earlier made.name made.ended.fields has),
    )

out_push : (profile : Profile) (earlier : List RecordType) (declared : DeclaredType) (type : RecordType) → AreOut profile earlier
    → IsMade profile earlier declared type → AreOut profile (earlier ++ type ∷ [])
out_push profile earlier declared type are made =
    let follows = made_follows profile earlier declared type are.laid made in
    record {
      laid = types_push (pointer_size profile) earlier type are.laid follows.0;
      in_c = λ k other found. elim (slice_get-push earlier type k other found) [
        | inl old ↦ subst (λ (some : List RecordType). IsLaidInC profile some other) (before_old earlier type k old.0)
            (are.in_c k other old.1)
        | inr new ↦ subst (λ (some : List RecordType). IsLaidInC profile some other) (before_new earlier type k new.0)
            (subst (IsLaidInC profile earlier) new.1 follows.1)
      ];
    }

out_from : (profile : Profile) (earlier : List RecordType) (declared : List DeclaredType) (types : List RecordType)
    → laid_types profile earlier declared ≡ Ok types → AreOut profile earlier
    → AreOut profile types × (length types ≡ length earlier + length declared)
unfolding laid_types
out_from profile earlier [] types e are = subst (λ (some : List RecordType). AreOut profile some × (length some ≡ length earlier + 0))
    (ok_is earlier types e) (are, omega arith)
out_from profile earlier (declared ∷ rest) types e are =
    let type = bind_ok (laid_type profile earlier declared) (λ type. laid_types profile (earlier ++ type ∷ []) rest) types e in
    let all = out_from profile (earlier ++ type.0 ∷ []) rest types type.2
    (out_push profile earlier declared type.0 are (laid_type_facts profile earlier declared type.0 type.1)) in
    let grown = length-append earlier (type.0 ∷ []) in
    let count = all.1 in
    (all.0, omega (arith, grown, count))

-- ---- a format

types_out : (profile : Profile) (declared : List DeclaredType) (types : List RecordType) → laid_types profile [] declared ≡ Ok types
    → AreOut profile types × (length types ≡ length declared)
types_out profile declared types e =
    let all = out_from profile [] declared types e (record { laid = no_types (pointer_size profile); in_c = λ k type found. absurd (cc) })
    in
    let count = all.1 in
    (all.0, omega (arith, count))

pub laid_types-well_laid : (profile : Profile) (declared : List DeclaredType) (types : List RecordType) → 1 ≤ length declared
    → length declared ≤ 64 → laid_types profile [] declared ≡ Ok types
    → IsWellLaid (layout_with (byte_order profile) (pointer_size profile) types)
laid_types-well_laid profile declared types some few e =
    let all = types_out profile declared types e in
    let count = all.1 in
    well_laid (byte_order profile) (pointer_size profile) types (pointer_allowed profile) (omega (arith, count, some))
    (omega (arith, count, few)) all.0.laid

pub laid_types-as_in_c : (profile : Profile) (declared : List DeclaredType) (types : List RecordType) → laid_types profile [] declared
    ≡ Ok types
    → IsCLayout profile (layout_with (byte_order profile) (pointer_size profile) types)
laid_types-as_in_c profile declared types e = record {
  has_order = refl;
  has_pointer = refl;
  each_type = (types_out profile declared types e).0.in_c;
}
