-- Transforms.
use Rattle.std.proofs.Common.{◌≡◌, ℕ, Bool, true, cond, List, [], ◌∷◌, ◌++◌, length, take, drop, Result}
use Rattle.std.proofs.Common.{Option, Some, sym, ap, ◌∙◌, subst, slice_get, arith}
use Rattle.std.specs.Prelude.{All}
use Rattle.std.proofs.Math.Seq.{take-append_seam}
use Rattle.std.proofs.lemmas.List.Elements.{All-weaker}
use Rattle.evp_action.specs.declared.acted.To.TheVariants as to
use Rattle.evp_action.specs.declared.action.Setting.{Setting}
use Rattle.evp_action.specs.declared.refusal.Refusal.{Refusal}
use Rattle.evp_action.specs.declared.acted.Acted.{Acted}
use Rattle.evp_action.specs.Acting.{converting, transformed, transforms, set_from}
use Rattle.evp_action.specs.Agreement.{AreSettings, IsSetting, IsSettable}
use Rattle.evp_action.specs.Asking.{converts, is_converted, transform_pairs, Keeps, Asks, AsksOnly, BuildsFor}
use Rattle.evp_action.specs.Converted.{IsConverted, IsInto, IsPackedIn, IsPackedConversionOf, IsCauseFor, IsRefused}
use Rattle.evp_action.specs.Outcome.{Outcome, sent}
use Rattle.evp_action.specs.Performed.{IsComeOf}
use Rattle.evp_action.specs.Settings.{CanSet, AreSet, StopsBy, IsAnswerWithSet}
use Rattle.evp_action.specs.Storing.{IsPacked}
use Rattle.evp_action.specs.Working.{IsAnswer}
use Rattle.evp_action.proofs.Conversions.{some_same, goes_on}
use Rattle.evp_action.proofs.PackedRecords.{packed_viewed}
use Rattle.evp_action.proofs.Works.{into_value, refused_at, asks_both}
use Rattle.evp_cache.specs.Known.{Cells, Known}
use Rattle.evp_format.specs.Datum.{Datum, rec, Entries}
use Rattle.evp_format.specs.Layout.{Layout}
use Rattle.evp_format.specs.Viewing.{view}
use Rattle.evp_format.specs.WellLaid.{IsWellLaid}
use Rattle.evp_record.specs.Owned.{owned_of}
use Rattle.evp_record.specs.OwnedBytes.{OwnedBytes}

-- a buffer's items, all of which were written
pub in_buffer : (len : ℕ) (items new : List ℕ) → length new ≡ len → take len (new ++ drop (length new) items) ≡ new
in_buffer len items new long = ap (λ (n : ℕ). take n (new ++ drop (length new) items)) (sym long)
    ∙ take-append_seam new (drop (length new) items)

-- the settings may be stored
pub can_set : (formats : List Layout) (declared format into : ℕ) (layout receiver : Layout) (settings : List Setting)
    → AreSettings formats declared format into settings → slice_get formats format ≡ Some layout → slice_get formats into ≡ Some receiver
    → All (CanSet layout receiver) settings
can_set formats declared format into layout receiver settings are there receiver_is =
    All-weaker (IsSetting formats declared format into) (CanSet layout receiver)
    (λ setting is. record {
      bound = some_same _ _ _ there is.bound.there;
      settable = subst (λ (l : Layout). IsSettable l setting.field) (some_same _ _ _ is.into_it.there receiver_is) is.settable;
    }) settings are.each

-- a packed record of the format that is there
pub packed_at : (formats : List Layout) (into : ℕ) (receiver : Layout) (fields : Entries) (bytes : List ℕ)
    → slice_get formats into ≡ Some receiver
    → IsPackedIn formats into fields bytes → IsPacked receiver fields bytes
packed_at formats into receiver fields bytes there is =
    subst (λ (l : Layout). IsPacked l fields bytes) (some_same _ _ _ is.there there) is.packed

pub laid_in : (formats : List Layout) (into : ℕ) (receiver : Layout) (fields : Entries) (bytes : List ℕ)
    → slice_get formats into ≡ Some receiver
    → IsPackedIn formats into fields bytes → IsWellLaid receiver
laid_in formats into receiver fields bytes there is = subst IsWellLaid (some_same _ _ _ is.there there) is.laid

-- the settings begin at the record that was converted
transformed_is : (formats : List Layout) (into : ℕ) (receiver : Layout) (settings : List Setting) (value : Datum) (fields : Entries)
    → slice_get formats into ≡ Some receiver
    → transformed (slice_get formats into) into settings value (rec fields)
    ≡ set_from receiver 0 settings value fields (λ entries. sent to.All into (rec entries))
transformed_is formats into receiver settings value fields there =
    ap (λ (o : Option Layout). transformed o into settings value (rec fields)) there

-- what is sent with the fields set
pub set_sent : (formats : List Layout) (into : ℕ) (receiver : Layout) (settings : List Setting) (value : Datum) (fields : Entries)
    (bytes : List ℕ) (owned : OwnedBytes) → slice_get formats into ≡ Some receiver → IsWellLaid receiver
    → AreSet receiver 0 settings value fields bytes → owned ≡ owned_of into bytes
    → IsComeOf formats (transformed (slice_get formats into) into settings value (rec fields)) (sent to.All) owned
set_sent formats into receiver settings value fields bytes owned there laid are is =
    let numbered = ap (λ (o : OwnedBytes). o.format) is in
    record {
      value = rec are.fields;
      has = record {
        layout = receiver;
        there = ap (slice_get formats) numbered ∙ there;
        viewed = ap (λ (o : OwnedBytes). view receiver o.bytes) is ∙ packed_viewed receiver are.fields bytes laid are.packed;
      };
      is = transformed_is formats into receiver settings value fields there
          ∙ (are.is (λ (entries : Entries). sent to.All into (rec entries))
          ∙ ap (λ (n : ℕ). sent to.All n (rec are.fields)) (sym numbered));
    }

-- the setting that stops it
pub set_stopped : (formats : List Layout) (into : ℕ) (receiver : Layout) (settings : List Setting) (value : Datum) (fields : Entries)
    (cause : Refusal) → slice_get formats into ≡ Some receiver → StopsBy receiver 0 settings value fields cause
    → IsRefused (transformed (slice_get formats into) into settings value (rec fields)) cause
set_stopped formats into receiver settings value fields cause there stops =
    subst (λ (outcome : Outcome). IsRefused outcome cause) (sym (transformed_is formats into receiver settings value fields there))
    (stops (λ (entries : Entries). sent to.All into (rec entries)))

-- ---- the two conversions

converts_is : (formats : List Layout) (from to limit : ℕ) (value made : Datum) → IsConverted formats from to limit value made
    → converts (slice_get formats from) (slice_get formats to) limit value ≡ true
converts_is formats from to limit value made is =
    ap (λ (o : Option Layout). converts o (slice_get formats to) limit value) is.sender_is
    ∙ (ap (λ (o : Option Layout). converts (Some is.sender) o limit value) is.receiver_is ∙ ap is_converted is.is)

-- both pairs may be asked for
pub asks_two : (formats : List Layout) (limit format into from : ℕ) (value : Datum) (owned : OwnedBytes) (old mid new : List Known)
    → IsInto formats from format limit value owned → AsksOnly from format old mid → AsksOnly owned.format into mid new
    → Asks (transform_pairs formats limit format into from value) old new
asks_two formats limit format into from value owned old mid new is first second =
    subst (λ (b : Bool). Asks ((from, format) ∷ cond b ((format, into) ∷ []) []) old new)
    (sym (converts_is formats from format limit value is.value_made is.converted))
    (asks_both from format into old mid new first (subst (λ (n : ℕ). AsksOnly n into mid new) is.numbered second))

pub keeps_both : (cells : Cells) (formats : List Layout) (old mid new : List Known) → Keeps cells formats old mid
    → Keeps cells formats mid new
    → Keeps cells formats old new
keeps_both cells formats old mid new first second = record {
  right = second.right;
  kept = λ from to earlier known. second.kept from to earlier (first.kept from to earlier known);
}

-- the outcome of the first conversion is that of what follows
pub behind_first : (formats : List Layout) (limit format into from : ℕ) (settings : List Setting) (value : Datum) (owned : OwnedBytes)
    → (is : IsInto formats from format limit value owned)
    → transforms formats limit format into settings from value
    ≡ converting (slice_get formats owned.format) (slice_get formats into) limit is.value_made
    (transformed (slice_get formats into) into settings is.value_made)
behind_first formats limit format into from settings value owned is =
    goes_on formats from format limit value is.value_made is.converted
    (λ made. converting (slice_get formats format) (slice_get formats into) limit made
    (transformed (slice_get formats into) into settings made))
    ∙ ap (λ (n : ℕ). converting (slice_get formats n) (slice_get formats into) limit is.value_made
    (transformed (slice_get formats into) into settings is.value_made)) (sym is.numbered)

-- the second is refused
pub second_refused : (formats : List Layout) (limit format into from : ℕ) (settings : List Setting) (value : Datum) (owned : OwnedBytes)
    (cause : Refusal) → (is : IsInto formats from format limit value owned)
    → IsCauseFor formats into limit owned cause
    → IsRefused (transforms formats limit format into settings from value) cause
second_refused formats limit format into from settings value owned cause is why =
    subst (λ (outcome : Outcome). IsRefused outcome cause) (sym (behind_first formats limit format into from settings value owned is))
    (refused_at formats owned.format into limit is.value_made (transformed (slice_get formats into) into settings is.value_made) cause
    (why is.value_made (into_value formats from format limit value owned is)))

-- what is done with both
pub behind_both : (formats : List Layout) (limit format into from : ℕ) (settings : List Setting) (value : Datum) (owned : OwnedBytes)
    (bytes : List ℕ) (answer : Result Acted Refusal) → (is : IsInto formats from format limit value owned)
    → IsPackedConversionOf formats into limit owned bytes → IsAnswerWithSet formats into settings owned bytes answer
    → IsAnswer formats (transforms formats limit format into settings from value) answer
behind_both formats limit format into from settings value owned bytes answer is packs does =
    let has = into_value formats from format limit value owned is in
    let second = packs is.value_made has in
    subst (λ (outcome : Outcome). IsAnswer formats outcome answer)
    (sym (behind_first formats limit format into from settings value owned is
    ∙ goes_on formats owned.format into limit is.value_made (rec second.fields) second.converted
    (transformed (slice_get formats into) into settings is.value_made)))
    (does is.value_made second.fields has second.packed)

-- as many plans are built as for both
pub builds_both : (old mid new : List Known) (before between after spared : ℕ) → BuildsFor 0 old mid before between
    → BuildsFor spared mid new between after → BuildsFor spared old new before after
builds_both old mid new before between after spared first second = omega (arith, first, second)

pub builds_done : (old mid new : List Known) (before between after spared : ℕ) → BuildsFor 0 old mid before between
    → BuildsFor 0 mid new between after → BuildsFor spared old new before after
builds_done old mid new before between after spared first second = omega (arith, first, second)
