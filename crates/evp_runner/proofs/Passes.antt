-- What `run` and `pass` hand over: the packed conversion, or the record's own bytes.
use Rattle.std.proofs.Common.{◌≡◌, ℕ, ◌^◌, ◌<◌, ◌≤◌, List, ◌++◌, length, drop, Ok, sym, ap, ◌∙◌}
use Rattle.std.proofs.Common.{subst, arith}
use Rattle.std.specs.Prelude.{IsTrue, false, All, take, replicate}
use Rattle.std.proofs.Math.Seq.{take-append_seam}
use Rattle.std.proofs.lemmas.List.{take-replicate, length-replicate}
use Rattle.std.specs.Cow.{cow_slice_items, IsBorrowedSlice, IsOwnedSlice}
use Rattle.std.specs.declared.borrow.CowSlice.{CowSlice}
use Rattle.std.specs.declared.borrow.CowSlice.TheVariants.{Borrowed, Owned}
use Rattle.evp_format.specs.Converting.{Made, made, unfit, large, convert}
use Rattle.evp_format.specs.Datum.{Datum}
use Rattle.evp_format.specs.Layout.{Layout}
use Rattle.evp_format.specs.Packing.{packed_size}
use Rattle.evp_format.specs.Typed.{IsOf}
use Rattle.evp_format.specs.Viewing.{view}
use Rattle.evp_format.specs.WellLaid.{IsWellLaid}
use Rattle.evp_format.proofs.MadeAll.{converted-receivers}
use Rattle.evp_format.proofs.MadeItself.{converted-itself}
use Rattle.evp_plan.specs.Planned.{Planned, StandsFor}
use Rattle.evp_record.specs.Record.{Record, IsRecord, value_of}
use Rattle.evp_record.proofs.ViewPacked.{view-pack, length-pack}
use Rattle.evp_record.proofs.ViewTypedAll.{view-typed}
use Rattle.evp_runner.specs.Outcome.{outcome}
use Rattle.evp_runner.specs.Running.{AreConverted, AtSize, IsConversion, IsPassed}
use Rattle.evp_runner.proofs.Runs.{ConvertedTo, viewed_as}

-- a size that was found is that of a value
found_value : (m : Made Datum) (n : ℕ) → outcome m ≡ Ok n → ConvertedTo m n
found_value (made value size) n is = let same : size ≡ n = cc in record { value = value; is = ap (λ (s : ℕ). made value s) same }
found_value (unfit place) n is = cc
found_value (large place) n is = cc

-- the packed conversion, in a buffer of its size
pub conversion_of : (plan : Planned) (held : Record) (bytes : List ℕ) (size : ℕ) → AreConverted plan held bytes → length bytes ≡ size
    → size < 2 ^ 32 → AtSize plan held size (λ to limit. IsConversion held to limit bytes)
conversion_of plan held bytes size are long small to limit stands found =
    let converted = found_value (convert to (value_of held) limit) size found in
    record {
      value = converted.value;
      size = size;
      converted = converted.is;
      packed = are to converted.value limit size stands converted.is;
      short = omega (arith, long, small);
    }

-- a buffer's items, all of which were written
pub in_buffer : (len : ℕ) (items new : List ℕ) → length new ≡ len → take len (new ++ drop (length new) items) ≡ new
in_buffer len items new long = ap (λ (n : ℕ). take n (new ++ drop (length new) items)) (sym long)
    ∙ take-append_seam new (drop (length new) items)

-- the front of a list of zeros
pub zero_front : (size room : ℕ) (items : List ℕ) → size ≤ room → items ≡ take size (replicate room 0) → items ≡ replicate size 0
zero_front size room items within is = is ∙ take-replicate size room 0 within

-- zeros, by how many they are
pub zeros_by_length : (size : ℕ) (items : List ℕ) → items ≡ replicate size 0 → items ≡ replicate (length items) 0
zeros_by_length size items is = is ∙ ap (λ (n : ℕ). replicate n 0) (sym (ap length is ∙ length-replicate size 0))

-- what it needs of a record that its value is one of its format
pub record IsTyped (held : Record) : Type 0 where
  pub is : IsRecord held
  pub laid : IsWellLaid held.layout
  pub bytes : All (λ byte. byte < 256) held.bytes

-- by what the record's accessors hand out
pub typed_by : (held : Record) (bytes : List ℕ) (layout : Layout) → All (λ byte. byte < 256) bytes → bytes ≡ held.bytes → IsRecord held
    → layout ≡ held.layout → IsWellLaid layout → IsTyped held
typed_by held bytes layout are bytes_is is layout_is laid =
    record { is = is; laid = subst IsWellLaid layout_is laid; bytes = subst (All (λ (byte : ℕ). byte < 256)) bytes_is are }

typed_value : (held : Record) → IsTyped held → IsOf held.layout (value_of held)
typed_value held known = view-typed held.layout held.bytes (value_of held) known.laid known.bytes (viewed_as held known.is)

-- a value converted to its own format is itself, where some limit allows a conversion of this size
converted_own : (plan : Planned) (held : Record) (to : Layout) (limit size : ℕ) → StandsFor plan held.layout to → IsTyped held
    → held.layout ≡ to
    → outcome (convert to (value_of held) limit) ≡ Ok size → convert to (value_of held) limit ≡ made (value_of held) size
converted_own plan held to limit size stands known same found =
    let value = value_of held in
    let seen = viewed_as held known.is in
    let typed = typed_value held known in
    let n = packed_size held.layout value in
    let P : Layout → Type 0 = λ l. convert l value n ≡ made value n in
    let itself = subst P same (converted-itself held.layout value n known.laid typed (omega arith)) in
    let converted = found_value (convert to value limit) size found in
    let sizes : n ≡ size = sym (stands.sizes held.bytes value value n n seen itself)
    ∙ stands.sizes held.bytes value converted.value limit size seen converted.is in
    let within = (converted-receivers held.layout to value converted.value limit size known.laid stands.laid stands.no_clash typed
    converted.is).within in
    let Q : Layout → Type 0 = λ l. convert l value limit ≡ made value n in
    let here = subst Q same (converted-itself held.layout value limit known.laid typed (omega (arith, sizes, within))) in
    here ∙ ap (λ (m : ℕ). made value m) sizes

-- the record's own bytes, where the formats are equal
pub passed_own : {Z : Type 0} (plan : Planned) (held : Record) (size : ℕ) (lent : CowSlice ℕ Z) → IsBorrowedSlice lent
    → cow_slice_items lent ≡ held.bytes → IsTrue plan.alike → IsTyped held → AtSize plan held size (λ to limit. IsPassed held to limit lent)
passed_own plan held size (Borrowed bytes) borrowed own alike known to limit stands found =
    let same = stands.alike.0 alike in
    let P : Layout → Type 0 = λ l. view l held.bytes ≡ Ok (value_of held) in
    record {
      value = value_of held;
      size = size;
      converted = converted_own plan held to limit size stands known same found;
      viewed = ap (view to) own ∙ subst P same (viewed_as held known.is);
      short = omega (arith, ap length own, known.is.short);
      lent = ((λ b. same), (λ e. borrowed));
      own = λ b. own;
      packed = λ owned. absurd owned;
    }
passed_own plan held size (Owned bytes) borrowed own alike known to limit stands found = absurd borrowed

-- the packed conversion, where they aren't
pub passed_packed : {Z : Type 0} (plan : Planned) (held : Record) (size : ℕ) (made_of : CowSlice ℕ Z) → IsOwnedSlice made_of
    → plan.alike ≡ false → IsTyped held → AtSize plan held size (λ to limit. IsConversion held to limit (cow_slice_items made_of))
    → AtSize plan held size (λ to limit. IsPassed held to limit made_of)
passed_packed plan held size (Borrowed bytes) owned other known conversion to limit stands found = absurd owned
passed_packed plan held size (Owned bytes) owned other known conversion to limit stands found =
    let done = conversion to limit stands found in
    let received =
    converted-receivers held.layout to (value_of held) done.value limit done.size known.laid stands.laid stands.no_clash
    (typed_value held known) done.converted in
    let long = ap length done.packed ∙ length-pack to done.value stands.laid received.of_format in
    record {
      value = done.value;
      size = done.size;
      converted = done.converted;
      viewed = ap (view to) done.packed ∙ view-pack to done.value stands.laid received.of_format (omega (arith, long, done.short));
      short = done.short;
      lent = ((λ b. absurd b), (λ e. absurd (not_alike (stands.alike.1 e))));
      own = λ b. absurd b;
      packed = λ o. done.packed;
    }
  where
    not_alike : IsTrue plan.alike → ⊥
    not_alike alike = cc
