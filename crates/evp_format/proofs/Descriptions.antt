-- Descriptions as a whole: what is read is well laid and described so, and the laws.
use Rattle.std.proofs.Common.{◌≡◌, ◌≢◌, ℕ, suc, ◌<◌, ◌≤◌, Bool, true, false, cond, ◌⊎◌, inl, inr, List, [], ◌∷◌, length, get_or, Result, Ok}
use Rattle.std.proofs.Common.{Err, refl, sym, ap, subst, ◌∙◌, arith}
use Rattle.std.specs.Prelude.{◌&&◌, not, nat_eq, nat_le, nat_lt, IfOk, MatchOption}
use Rattle.std.proofs.lemmas.Bool.{and_parts, eqb-true, leb-true}
use Rattle.std.proofs.lemmas.List.Elements.{All-nil, All-cons}
use Rattle.evp_base.specs.declared.order.Order.{Order}
use Rattle.evp_base.proofs.Digits.{AreBytes}
use Rattle.evp_format.specs.declared.layout_fault.LayoutFault.{LayoutFault}
use Rattle.evp_format.specs.declared.layout_fault.LayoutFault.TheVariants.{Pointer, Trailing, Limit, Plain}
use Rattle.evp_format.specs.declared.layout_fault.Which.TheVariants.{Types}
use Rattle.evp_format.specs.declared.record_type.RecordType.{RecordType}
use Rattle.evp_format.specs.Describing.{describe, types_state_default}
use Rattle.evp_format.specs.DescriptionLaws.{DescriptionsAreDistinct, FaultsAreExact}
use Rattle.evp_format.specs.Layout.{Layout, layout_with}
use Rattle.evp_format.specs.Reading.{number_at, magic_at, order_at, pointer_at, type_count_at, types_at, with_default, layout_at, layout_of}
use Rattle.evp_format.specs.Steps.{◌>>=◌, Gives, fault_of}
use Rattle.evp_format.specs.WellLaid.{IsWellLaid}
use Rattle.evp_format.proofs.DescribedFormats.{read_described}
use Rattle.evp_format.proofs.FormatsAgain.{described_again, descriptions_distinct}
use Rattle.evp_format.proofs.WellLaidFormats.{no_types, types_facts, well_laid}
use Rattle.evp_format.proofs.WellLaidTypes.{bind_ok, passed, not_refused, ok_is}

-- bytes of a slice
pub bytes_are : (bytes : List ℕ) → ((k : ℕ) → get_or bytes k 0 < 256) → AreBytes bytes
bytes_are [] each = All-nil (λ byte. byte < 256)
bytes_are (byte ∷ bytes) each = All-cons (λ byte. byte < 256) byte bytes (each 0) (bytes_are bytes (λ k. each (suc k)))

abbrev sized : ℕ × ℕ → Result (ℕ × ℕ) LayoutFault
sized n = Ok n

pointer_step : (n pointer : ℕ × ℕ) (b c : Bool) → nat_eq n.0 4 ≡ b → nat_eq n.0 8 ≡ c → cond b (sized n) (cond c (sized n) (Err Pointer))
    ≡ Ok pointer → (pointer.0 ≡ 4) ⊎ (pointer.0 ≡ 8)
pointer_step n pointer true c four eight e = inl (sym (ap (λ (s : ℕ × ℕ). s.0) (ok_is n pointer e)) ∙ eqb-true n.0 4 four)
pointer_step n pointer false true four eight e = inr (sym (ap (λ (s : ℕ × ℕ). s.0) (ok_is n pointer e)) ∙ eqb-true n.0 8 eight)
pointer_step n pointer false false four eight e = absurd (cc)

pointer_facts : (bytes : List ℕ) (at : ℕ) (pointer : ℕ × ℕ) → pointer_at bytes at ≡ Ok pointer → (pointer.0 ≡ 4) ⊎ (pointer.0 ≡ 8)
unfolding pointer_at
pointer_facts bytes at pointer e =
    let n = bind_ok (number_at 1 bytes at) (λ n. cond (nat_eq n.0 4) (sized n) (cond (nat_eq n.0 8) (sized n) (Err Pointer))) pointer e in
    pointer_step n.0 pointer (nat_eq n.0.0 4) (nat_eq n.0.0 8) refl refl n.2

type_count_facts : (bytes : List ℕ) (at : ℕ) (count : ℕ × ℕ) → type_count_at bytes at ≡ Ok count → (1 ≤ count.0) × (count.0 ≤ 64)
unfolding type_count_at
type_count_facts bytes at count e =
    let n = bind_ok (number_at 2 bytes at) (λ n. cond (nat_le 1 n.0 && nat_le n.0 64) (Ok n) (Err (Limit Types n.0))) count e in
    let fits = passed (nat_le 1 n.0.0 && nat_le n.0.0 64) (Limit Types n.0.0) n.0 count n.2 in
    let parts = and_parts (nat_le 1 n.0.0) (nat_le n.0.0 64) fits.0 in
    subst (λ (s : ℕ × ℕ). (1 ≤ s.0) × (s.0 ≤ 64)) fits.1 (leb-true 1 n.0.0 parts.0, leb-true n.0.0 64 parts.1)

layout_at_laid : (bytes : List ℕ) (layout : Layout × ℕ) → layout_at bytes ≡ Ok layout → IsWellLaid layout.0
unfolding layout_at with_default
layout_at_laid bytes layout e =
    let with_types : Bool → Order → ℕ → List RecordType × ℕ → Result (Layout × ℕ) LayoutFault = λ stated order pointer types. with_default
    stated (layout_with order pointer types.0) types.1 in
    let with_count : Bool → Order → ℕ → ℕ × ℕ → Result (Layout × ℕ) LayoutFault = λ stated order pointer count. types_at count.0 stated
    pointer [] bytes count.1 >>= with_types stated order pointer in
    let with_pointer : Bool → Order → ℕ × ℕ → Result (Layout × ℕ) LayoutFault = λ stated order pointer. type_count_at bytes pointer.1
    >>= with_count stated order pointer.0 in
    let with_order : Bool → Order × ℕ → Result (Layout × ℕ) LayoutFault = λ stated order. pointer_at bytes order.1
    >>= with_pointer stated order.0 in
    let with_magic : Bool × ℕ → Result (Layout × ℕ) LayoutFault = λ stated. order_at bytes stated.1 >>= with_order stated.0 in
    let stated = bind_ok (magic_at bytes) with_magic layout e in
    let order = bind_ok (order_at bytes stated.0.1) (with_order stated.0.0) layout stated.2 in
    let pointer = bind_ok (pointer_at bytes order.0.1) (with_pointer stated.0.0 order.0.0) layout order.2 in
    let count = bind_ok (type_count_at bytes pointer.0.1) (with_count stated.0.0 order.0.0 pointer.0.0) layout pointer.2 in
    let types = bind_ok (types_at count.0.0 stated.0.0 pointer.0.0 [] bytes count.0.1) (with_types stated.0.0 order.0.0 pointer.0.0) layout
    count.2 in
    let made : Layout × ℕ = (layout_with order.0.0 pointer.0.0 types.0.0, types.0.1) in
    let some_default = not_refused (stated.0.0 && not (types_state_default types.0.0)) Plain (Ok made) layout types.2 in
    let facts = types_facts count.0.0 stated.0.0 pointer.0.0 [] bytes count.0.1 types.0 types.1 (no_types pointer.0.0) in
    let limits = type_count_facts bytes pointer.0.1 count.0 count.1 in
    let long = facts.1 in
    let some = limits.0 in
    let few = limits.1 in
    subst (λ (l : Layout × ℕ). IsWellLaid l.0) (ok_is made layout some_default.1)
    (well_laid order.0.0 pointer.0.0 types.0.0 (pointer_facts bytes order.0.1 pointer.0 pointer.1) (omega (arith, long, some))
    (omega (arith, long, few)) facts.0)

pub layout_laid : (bytes : List ℕ) (layout : Layout) → layout_of bytes ≡ Ok layout → IsWellLaid layout
unfolding layout_of
layout_laid bytes layout e =
    let read = bind_ok (layout_at bytes) (λ layout. cond (nat_lt layout.1 (length bytes)) (Err (Trailing layout.1)) (Ok layout.0)) layout e
    in
    let ended = not_refused (nat_lt read.0.1 (length bytes)) (Trailing read.0.1) (Ok read.0.0) layout read.2 in
    subst IsWellLaid (ok_is read.0.0 layout ended.1) (layout_at_laid bytes read.0 read.1)

-- what is read is well laid, and the bytes are its description
pub found_described : (bytes : List ℕ) (result : Result Layout LayoutFault) → AreBytes bytes
    → Gives (λ (layout : Layout). layout) result (layout_of bytes) → IfOk result (λ layout. IsWellLaid layout × (bytes ≡ describe layout))
found_described bytes (Ok layout) are said = (layout_laid bytes layout said, read_described bytes layout are said)
found_described bytes (Err fault) are said = tt

-- ---- the laws

pub distinct_law : DescriptionsAreDistinct
distinct_law layout other more laid laid' same = descriptions_distinct layout other more laid laid' same

exact_step : (bytes : List ℕ) (read : Result Layout LayoutFault) → AreBytes bytes → layout_of bytes ≡ read
    → MatchOption (fault_of read) ((layout : Layout) × IsWellLaid layout × (bytes ≡ describe layout))
    (λ fault. (layout : Layout) → IsWellLaid layout → bytes ≢ describe layout)
exact_step bytes (Ok layout) are is = (layout, layout_laid bytes layout is, read_described bytes layout are is)
exact_step bytes (Err fault) are is = λ layout laid same. let read : layout_of bytes ≡ Ok layout = ap layout_of same
    ∙ described_again layout laid in let both = sym is ∙ read in absurd (cc)

pub exact_law : FaultsAreExact
exact_law bytes are = exact_step bytes (layout_of bytes) are refl
