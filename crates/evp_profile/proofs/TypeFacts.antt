-- What holds of a declared type that isn't refused.
use Rattle.std.proofs.Common.{◌≡◌, ℕ, ◌≤◌, List, length, min, None, Ok, sym, ap, subst, ◌∙◌}
use Rattle.std.specs.Prelude.{nat_le}
use Rattle.std.proofs.lemmas.Bool.{leb-true}
use Rattle.evp_format.specs.declared.draft.DraftField.{DraftField}
use Rattle.evp_format.specs.declared.field.Field.{Field}
use Rattle.evp_format.specs.declared.layout_fault.LayoutFault.TheVariants.{Limit}
use Rattle.evp_format.specs.declared.layout_fault.Which.TheVariants.{Length}
use Rattle.evp_format.specs.declared.record_type.RecordType.{RecordType}
use Rattle.evp_format.specs.Drafts.{counted_fields, count_with_default, depth_behind}
use Rattle.evp_format.specs.Tree.{trees}
use Rattle.evp_format.proofs.Parts.{Ended}
use Rattle.evp_format.proofs.WellLaidTypes.{passed}
use Rattle.evp_profile.specs.declared.profile.Profile.{Profile}
use Rattle.evp_profile.specs.LayingOut.{within_length}
use Rattle.evp_profile.specs.Placing.{length_of_fields, placed_type}
use Rattle.evp_profile.proofs.Ends.{unplaced}

-- a type that is made of these fields, and of which nothing is refused where it ends
pub record HasEnded (profile : Profile) (earlier : List RecordType) (name : List ℕ) (drafts : List DraftField) (type : RecordType) : Type 0
  where
    pub fields : List Field
    pub counted : counted_fields (length earlier) 0 drafts drafts ≡ Ok fields
    pub without_default : count_with_default fields 0 fields ≡ None
    pub shallow : depth_behind earlier (unplaced name fields) ≤ 16
    pub short : length_of_fields profile (trees earlier) fields ≤ 65536
    pub is : placed_type profile (trees earlier) (unplaced name fields) ≡ type

-- the type is placed once its fields have ended
pub placed_facts : (profile : Profile) (earlier : List RecordType) (name : List ℕ) (drafts : List DraftField) (made type : RecordType)
    → Ended earlier name 0 drafts made
    → within_length (placed_type profile (trees earlier) made) ≡ Ok type → HasEnded profile earlier name drafts type
unfolding within_length
placed_facts profile earlier name drafts made type ended e =
    let placed = placed_type profile (trees earlier) made in
    let short = passed (nat_le placed.length 65536) (Limit Length (min placed.length 4294967295)) placed type e in
    record {
      fields = ended.fields;
      counted = ended.counted;
      without_default = ended.without_default;
      shallow = subst (λ (t : RecordType). depth_behind earlier t ≤ 16) (sym ended.is) ended.shallow;
      short = subst (λ (t : RecordType). (placed_type profile (trees earlier) t).length ≤ 65536) (sym ended.is)
          (leb-true placed.length 65536 short.0);
      is = ap (placed_type profile (trees earlier)) ended.is ∙ short.1;
    }
