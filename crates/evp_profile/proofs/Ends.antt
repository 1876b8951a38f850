-- What holds where a declared type ends.
use Rattle.std.proofs.Common.{◌≡◌, ℕ, ◌<◌, false, List, Ok, sym, subst, inl, inr, arith}
use Rattle.std.specs.Prelude.{nat_le}
use Rattle.std.specs.List.{All}
use Rattle.std.proofs.lemmas.Bool.Decides.{leb_tells}
use Rattle.std.proofs.lemmas.Option.{get_or_from_slice_get}
use Rattle.evp_format.specs.declared.draft.DraftField.{DraftField}
use Rattle.evp_format.specs.declared.field.Field.{Field}
use Rattle.evp_format.specs.declared.record_type.RecordType.{RecordType}
use Rattle.evp_format.specs.Drafts.{counted_fields, type_of, field_with}
use Rattle.evp_format.proofs.Pushed.{slice_get-some}
use Rattle.evp_format.proofs.WellLaidTypes.{counted_each}
use Rattle.evp_profile.specs.Sizes.{HasNumberSize, HasDraftSize}

pub above_is_false : (a b : ℕ) → b < a → nat_le a b ≡ false
above_is_false a b below = elim (leb_tells a b) [ inl within ↦ absurd (let most = within.1 in omega (arith, most)) | inr past ↦ past.0 ]

-- the type whose fields don't stand anywhere yet
abbrev pub unplaced : List ℕ → List Field → RecordType
unplaced name fields = type_of name 0 fields

pub counted_sized : (type : ℕ) (drafts : List DraftField) (fields : List Field) → counted_fields type 0 drafts drafts ≡ Ok fields
    → All HasDraftSize drafts → All HasNumberSize fields
counted_sized type drafts fields counted sized k d below =
    let each = counted_each type 0 drafts drafts fields counted in
    let some = slice_get-some fields k below in
    let from = each.1 k some.0 some.1 in
    let same = each.0 in
    let is : some.0 ≡ field_with from.0 from.2.shape = from.2.is in
    let draft_is = get_or_from_slice_get drafts k from.0 from.0 from.1 in
    let stated : HasDraftSize from.0 = subst HasDraftSize draft_is (sized k from.0 (omega (arith, same, below))) in
    let field_is = get_or_from_slice_get fields k some.0 d some.1 in
    subst HasNumberSize (sym field_is) (subst HasNumberSize (sym is) stated)
