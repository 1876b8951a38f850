-- What a plan that was found packs.
use Rattle.std.proofs.Common.{◌≡◌, ℕ, ◌<◌, ◌^◌, List, Ok, Some, length, ap, ◌∙◌, subst, sym}
use Rattle.std.specs.Prelude.{All, Option, None, IfSome}
use Rattle.evp_action.specs.Converted.{IsInto, IsPackedInto, IsPackedConversion, plan_of}
use Rattle.evp_action.specs.Performed.{HasValue}
use Rattle.evp_action.proofs.Conversions.{IsLent, has_plan, value_is, converted_by, some_same}
use Rattle.evp_action.proofs.PackedRecords.{held_is_typed, value_is_record, converted_is_packed}
use Rattle.evp_action.proofs.PackedRecords.{packed_viewed, packed_short}
use Rattle.evp_cache.specs.declared.found.Found.{Found}
use Rattle.evp_cache.specs.Known.{IsFoundFor}
use Rattle.evp_format.specs.Converting.{made, convert}
use Rattle.evp_format.specs.Datum.{Datum, rec, entries_of}
use Rattle.evp_format.specs.Layout.{Layout}
use Rattle.evp_format.specs.Viewing.{view}
use Rattle.evp_format.specs.WellLaid.{IsWellLaid}
use Rattle.evp_format.proofs.MadeAll.{converted-receivers}
use Rattle.evp_plan.specs.Planned.{Planned, StandsFor}
use Rattle.evp_record.specs.Owned.{owned_of}
use Rattle.evp_record.specs.OwnedBytes.{OwnedBytes}
use Rattle.evp_record.specs.Record.{Record, IsRecord, value_of}
use Rattle.evp_runner.specs.Running.{IsConversion}

-- the packed conversion of a record, whose value is one of its format
pub packed_conversion : (plan : Planned) (held : Record) (to : Layout) (limit : ℕ) (bytes : List ℕ) → IsRecord held
    → IsWellLaid held.layout
    → All (λ byte. byte < 256) held.bytes → StandsFor plan held.layout to → IsConversion held to limit bytes
    → IsPackedConversion held to limit bytes
packed_conversion plan held to limit bytes is laid are stands done =
    let typed = held_is_typed held laid are is.viewed in
    let received = converted-receivers held.layout to (value_of held) done.value limit done.size laid stands.laid stands.no_clash typed
    done.converted in
    let P : Datum → Type 0 = λ v. convert to (value_of held) limit ≡ made v done.size in
    record {
      fields = entries_of (Some done.value);
      size = done.size;
      converted = subst P (sym (value_is_record to done.value received.of_format)) done.converted;
      packed = converted_is_packed held to limit bytes laid typed stands.laid stands.no_clash done;
    }

-- by what was found
pub packed_into : (formats : List Layout) (owned : OwnedBytes) (to limit : ℕ) (held : Record) (found : Found) (plan : Planned)
    (bytes : List ℕ) (value : Datum) → IsLent formats owned held → IsFoundFor formats owned.format to found → plan_of found ≡ Some plan
    → ((receiver : Layout) → StandsFor plan held.layout receiver → IsPackedConversion held receiver limit bytes)
    → HasValue formats owned value → IsPackedInto formats owned.format to limit value bytes
packed_into formats owned to limit held found plan bytes value lent is there packs has =
    let known = has_plan formats owned to held found plan lent is there in
    let done = packs known.receiver known.stands in
    record {
      fields = done.fields;
      converted = converted_by formats owned.format to limit held plan value (rec done.fields) done.size known
          (value_is formats owned held value lent has) done.converted;
      packed = record { layout = known.receiver; there = known.receiver_is; laid = known.stands.laid; packed = done.packed };
    }

-- a record of the packed conversion is one of the converted value
pub packed_is_into : (formats : List Layout) (from to limit : ℕ) (value : Datum) (bytes : List ℕ) (result : OwnedBytes)
    → IsPackedInto formats from to limit value bytes → result ≡ owned_of to bytes → IsInto formats from to limit value result
packed_is_into formats from to limit value bytes result packs result_is =
    let into = packs.packed in
    let same : into.layout ≡ packs.converted.receiver = some_same _ _ _ into.there packs.converted.receiver_is in
    record {
      value_made = rec packs.fields;
      converted = packs.converted;
      numbered = ap (λ (o : OwnedBytes). o.format) result_is;
      viewed = ap (λ (o : OwnedBytes). view packs.converted.receiver o.bytes) result_is
          ∙ subst (λ (l : Layout). view l bytes ≡ Ok (rec packs.fields)) same
          (packed_viewed into.layout packs.fields bytes into.laid into.packed);
    }

-- and is short
pub packed_into_short : (formats : List Layout) (from to limit : ℕ) (value : Datum) (bytes : List ℕ)
    → IsPackedInto formats from to limit value bytes → length bytes < 2 ^ 32
packed_into_short formats from to limit value bytes packs =
    packed_short packs.packed.layout packs.fields bytes packs.packed.laid packs.packed.packed

-- what holds of a value that is there holds of it in other words
pub some_weaker : {A : Type 0} (P Q : A → Type 0) (o : Option A) → ((a : A) → P a → Q a) → IfSome o P → IfSome o Q
some_weaker P Q (Some a) weaker held = weaker a held
some_weaker P Q None weaker held = held
