-- Packed records: the value that their bytes have, and that a conversion makes one.
use Rattle.std.proofs.Common.{◌≡◌, ℕ, ◌^◌, ◌<◌, List, All, length, Result, Ok, Err, Some, None, refl, sym, ap, ◌∙◌, subst, arith}
use Rattle.std.specs.Prelude.{IsOk}
use Rattle.evp_action.specs.Storing.{IsPacked}
use Rattle.evp_format.proofs.MadeAll.{converted-receivers}
use Rattle.evp_format.specs.Clashing.{clash}
use Rattle.evp_format.specs.declared.broken.Broken.{Broken}
use Rattle.evp_format.specs.Datum.{Datum, num, null, text, list, rec, Entries, entries_of}
use Rattle.evp_format.specs.Layout.{Layout}
use Rattle.evp_format.specs.Packing.{pack, packed_size}
use Rattle.evp_format.specs.Typed.{IsOf}
use Rattle.evp_format.specs.Viewing.{view}
use Rattle.evp_format.specs.WellLaid.{IsWellLaid}
use Rattle.evp_record.proofs.ViewPacked.{view-pack, length-pack}
use Rattle.evp_record.proofs.ViewTypedAll.{view-typed}
use Rattle.evp_record.specs.Record.{Record, value_of, value_or_null}
use Rattle.evp_runner.specs.Running.{IsConversion}

-- a packed record has the value of its fields
pub packed_viewed : (layout : Layout) (entries : Entries) (bytes : List ℕ) → IsWellLaid layout → IsPacked layout entries bytes
    → view layout bytes ≡ Ok (rec entries)
packed_viewed layout entries bytes laid packed =
    ap (view layout) packed.packed ∙ view-pack layout (rec entries) laid packed.of_format packed.small

-- and is short
pub packed_short : (layout : Layout) (entries : Entries) (bytes : List ℕ) → IsWellLaid layout → IsPacked layout entries bytes
    → length bytes < 2 ^ 32
packed_short layout entries bytes laid packed =
    let long = ap length packed.packed ∙ length-pack layout (rec entries) laid packed.of_format in
    omega (arith, long, packed.small)

-- a value of a format is a record
pub value_is_record : (layout : Layout) (value : Datum) → IsOf layout value → rec (entries_of (Some value)) ≡ value
value_is_record layout (rec entries) typed = refl
value_is_record layout (num n) typed = absurd typed
value_is_record layout null typed = absurd typed
value_is_record layout (text bytes) typed = absurd typed
value_is_record layout (list elements) typed = absurd typed

-- the value of a record is of its format
pub held_is_typed : (held : Record) → IsWellLaid held.layout → All (λ byte. byte < 256) held.bytes → IsOk (view held.layout held.bytes)
    → IsOf held.layout (value_of held)
held_is_typed held laid are ok = typed_by (view held.layout held.bytes) refl ok
  where
    typed_by : (read : Result Datum Broken) → view held.layout held.bytes ≡ read → IsOk read → IsOf held.layout (value_of held)
    typed_by (Ok value) is ok =
        subst (λ (found : Result Datum Broken). IsOf held.layout (value_or_null found)) (sym is)
        (view-typed held.layout held.bytes value laid are is)
    typed_by (Err fault) is ok = cc

-- what a record is converted to, packed, is a packed record of the receiver's format
pub converted_is_packed : (held : Record) (to : Layout) (limit : ℕ) (bytes : List ℕ) → IsWellLaid held.layout
    → IsOf held.layout (value_of held) → IsWellLaid to → clash held.layout to ≡ None → (made : IsConversion held to limit bytes)
    → IsPacked to (entries_of (Some made.value)) bytes
converted_is_packed held to limit bytes laid typed laid' no_clash made =
    let receivers = converted-receivers held.layout to (value_of held) made.value limit made.size laid laid' no_clash typed made.converted
    in
    let long = ap length made.packed ∙ length-pack to made.value laid' receivers.of_format in
    let small : packed_size to made.value < 2 ^ 32 = omega (arith, long, made.short) in
    let same = sym (value_is_record to made.value receivers.of_format) in
    record {
      of_format = subst (IsOf to) same receivers.of_format;
      packed = subst (λ (value : Datum). bytes ≡ pack to value) same made.packed;
      small = subst (λ (value : Datum). packed_size to value < 2 ^ 32) same small;
    }
