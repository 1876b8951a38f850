-- A well laid format that is described is read again.
use Rattle.std.proofs.Common.{◌≡◌, ℕ, ◌+◌, ◌<◌, ◌≤◌, pos, Bool, true, false, cond, ◌⊎◌, inl, inr, List, [], ◌∷◌, ◌++◌, length}
use Rattle.std.proofs.Common.{take, Result, Ok, Err, codes, refl, sym, ap, subst, ◌∙◌, arith}
use Rattle.std.specs.Prelude.{◌&&◌, not, nat_le, nat_lt}
use Rattle.std.specs.Ordering.{int_eq}
use Rattle.std.specs.List.{list_all}
use Rattle.std.proofs.lemmas.Bool.{and_parts, le-leb, le-ltb}
use Rattle.std.proofs.lemmas.Bool.Decides.{Decides-int_eq}
use Rattle.std.proofs.lemmas.List.{length-append, append-nil, drop_all, nil_from_length}
use Rattle.evp_base.specs.declared.order.Order.{Order}
use Rattle.evp_base.specs.declared.order.Order.TheVariants.{Little, Big}
use Rattle.evp_format.specs.declared.field.Field.{Field}
use Rattle.evp_format.specs.declared.layout_fault.LayoutFault.{LayoutFault}
use Rattle.evp_format.specs.declared.layout_fault.LayoutFault.TheVariants.{Short, Magic, Trailing, Limit, Plain}
use Rattle.evp_format.specs.declared.layout_fault.Which.TheVariants.{Types}
use Rattle.evp_format.specs.declared.record_type.RecordType.{RecordType}
use Rattle.evp_format.specs.Bytes.{bytes_equal}
use Rattle.evp_format.specs.Describing.{described_number, described_types}
use Rattle.evp_format.specs.Describing.{all_default_zero, states_default, magic, order_number, describe}
use Rattle.evp_format.specs.Layout.{Layout, layout_with}
use Rattle.evp_format.specs.Reading.{number_at}
use Rattle.evp_format.specs.Reading.{types_at, magic_at, order_at, pointer_at, type_count_at, with_default, layout_at, layout_of}
use Rattle.evp_format.specs.Steps.{◌>>=◌}
use Rattle.evp_format.specs.WellLaid.{IsWellLaid}
use Rattle.evp_format.proofs.Places.{Stands, stands_front, stands_back, number_again, cut_stands}
use Rattle.evp_format.proofs.TypesAgain.{HasPlain, HavePlain, types_again}

-- ---- defaults

fields_plain : (fields : List Field) → all_default_zero fields ≡ true → HasPlain false fields
fields_plain [] all = tt
fields_plain (field ∷ fields) all =
    let parts = and_parts (int_eq field.fallback (pos 0)) (all_default_zero fields) all in
    (λ unstated. (Decides-int_eq field.fallback (pos 0)).0 parts.0, fields_plain fields parts.1)

types_plain : (types : List RecordType) → list_all (λ (type : RecordType). all_default_zero type.fields) types ≡ true
    → HavePlain false types
types_plain [] all = tt
types_plain (type ∷ types) all =
    let parts = and_parts (all_default_zero type.fields) (list_all (λ (type : RecordType). all_default_zero type.fields) types) all in
    (fields_plain type.fields parts.0, types_plain types parts.1)

stated_fields : (fields : List Field) → HasPlain true fields
stated_fields [] = tt
stated_fields (field ∷ fields) = (λ unstated. absurd (cc), stated_fields fields)

stated_types : (types : List RecordType) → HavePlain true types
stated_types [] = tt
stated_types (type ∷ types) = (stated_fields type.fields, stated_types types)

plain_step : (types : List RecordType) (b : Bool) → list_all (λ (type : RecordType). all_default_zero type.fields) types ≡ b
    → HavePlain (cond b false true) types
plain_step types true all = types_plain types all
plain_step types false all = stated_types types

layout_plain : (layout : Layout) → HavePlain (states_default layout) layout.types
layout_plain layout = plain_step layout.types (list_all (λ (type : RecordType). all_default_zero type.fields) layout.types) refl

-- ---- a format

magic_long : (stated : Bool) → length (magic stated) ≡ 4
magic_long true = refl
magic_long false = refl

abbrev begun : Bool → Result (Bool × ℕ) LayoutFault
begun stated = Ok (stated, 4)

by_magic : (front : List ℕ) (stated : Bool) → front ≡ magic stated
    → cond (bytes_equal front (codes "NDF1")) (begun false) (cond (bytes_equal front (codes "NDF2")) (begun true) (Err Magic))
    ≡ begun stated
by_magic front true is = rw is refl
by_magic front false is = rw is refl

magic_again : (bytes : List ℕ) (stated : Bool) → Stands bytes 0 (magic stated) 4 → magic_at bytes ≡ Ok (stated, 4)
unfolding magic_at
magic_again bytes stated stands =
    let inside = stands.within in
    let short : nat_lt (length bytes) 4 ≡ false = le-ltb (length bytes) 4 inside in
    let front : take 4 bytes ≡ magic stated = cut_stands bytes 0 (magic stated) 4 4 stands (magic_long stated) in
    let tested : Result (Bool × ℕ) LayoutFault = cond (bytes_equal (take 4 bytes) (codes "NDF1")) (begun false)
    (cond (bytes_equal (take 4 bytes) (codes "NDF2")) (begun true) (Err Magic)) in
    ap (λ (b : Bool). cond b (Err (Short 0)) tested) short ∙ by_magic (take 4 bytes) stated front

order_again : (order : Order) (bytes : List ℕ) (at next : ℕ) → number_at 1 bytes at ≡ Ok (order_number order, next) → order_at bytes at
    ≡ Ok (order, next)
unfolding order_at
order_again Little bytes at next read = rw read refl
order_again Big bytes at next read = rw read refl

pointer_again : (pointer : ℕ) (bytes : List ℕ) (at next : ℕ) → (pointer ≡ 4) ⊎ (pointer ≡ 8) → number_at 1 bytes at ≡ Ok (pointer, next)
    → pointer_at bytes at ≡ Ok (pointer, next)
unfolding pointer_at
pointer_again pointer bytes at next (inl four) read = rw (read, four) refl
pointer_again pointer bytes at next (inr eight) read = rw (read, eight) refl

type_count_again : (bytes : List ℕ) (at count next : ℕ) → number_at 2 bytes at ≡ Ok (count, next) → 1 ≤ count → count ≤ 64
    → type_count_at bytes at ≡ Ok (count, next)
unfolding type_count_at
type_count_again bytes at count next read least most =
    let tested : ℕ × ℕ → Result (ℕ × ℕ) LayoutFault = λ n. cond (nat_le 1 n.0 && nat_le n.0 64) (Ok n) (Err (Limit Types n.0)) in
    let good : (nat_le 1 count && nat_le count 64) ≡ true = rw (le-leb 1 count least, le-leb count 64 most) refl in
    ap (λ (r : Result (ℕ × ℕ) LayoutFault). r >>= tested) read ∙ ap (λ (b : Bool). cond b (Ok (count, next)) (Err (Limit Types count))) good

never_both : (b : Bool) → (b && not b) ≡ false
never_both true = refl
never_both false = refl

order_small : (order : Order) → order_number order < 256
order_small Little = omega arith
order_small Big = omega arith

-- a description at the front of some bytes is read as its format
pub layout_again : (layout : Layout) (bytes : List ℕ) (next : ℕ) → IsWellLaid layout → Stands bytes 0 (describe layout) next
    → layout_at bytes ≡ Ok (layout, next)
unfolding layout_at with_default
layout_again layout bytes next laid whole =
    let stated = states_default layout in
    let d0 = magic stated in
    let d1 = described_number 1 (order_number layout.order) in
    let d2 = described_number 1 layout.pointer in
    let d3 = described_number 2 (length layout.types) in
    let d4 = described_types stated layout.types layout.types in
    let n3 = 0 + length (d0 ++ d1 ++ d2 ++ d3) in
    let n2 = 0 + length (d0 ++ d1 ++ d2) in
    let n1 = 0 + length (d0 ++ d1) in
    let n0 = 0 + length d0 in
    let w3 = stands_front bytes 0 (d0 ++ d1 ++ d2 ++ d3) d4 next whole in
    let s4 = stands_back bytes 0 (d0 ++ d1 ++ d2 ++ d3) d4 next whole in
    let w2 = stands_front bytes 0 (d0 ++ d1 ++ d2) d3 n3 w3 in
    let s3 = stands_back bytes 0 (d0 ++ d1 ++ d2) d3 n3 w3 in
    let w1 = stands_front bytes 0 (d0 ++ d1) d2 n2 w2 in
    let s2 = stands_back bytes 0 (d0 ++ d1) d2 n2 w2 in
    let s0 = stands_front bytes 0 d0 d1 n1 w1 in
    let s1 = stands_back bytes 0 d0 d1 n1 w1 in
    let four : n0 ≡ 4 = let is = magic_long stated in omega (arith, is) in
    let some = laid.types_allowed.0 in
    let many = laid.types_allowed.1 in
    let pointer_small : layout.pointer < 256 = elim laid.pointer_allowed [ inl is ↦ omega (arith, is) | inr is ↦ omega (arith, is) ] in
    let r0 = magic_again bytes stated (subst (λ (n : ℕ). Stands bytes 0 (magic stated) n) four s0) in
    let r1 : order_at bytes 4 ≡ Ok (layout.order, n1) = order_again layout.order bytes 4 n1
    (number_again 1 bytes 4 (order_number layout.order) n1 (order_small layout.order) (subst (λ (n : ℕ). Stands bytes n d1 n1) four s1))
    in
    let r2 = pointer_again layout.pointer bytes n1 n2 laid.pointer_allowed (number_again 1 bytes n1 layout.pointer n2 pointer_small s2) in
    let r3 = type_count_again bytes n2 (length layout.types) n3 (number_again 2 bytes n2 (length layout.types) n3 (omega (arith, many)) s3)
    some many in
    let r4 = types_again stated layout [] layout.types bytes n3 next (record { laid = laid; is = refl }) (layout_plain layout) s4 in
    let with_types : Bool → Order → ℕ → List RecordType × ℕ → Result (Layout × ℕ) LayoutFault = λ stated order pointer types. with_default
    stated (layout_with order pointer types.0) types.1 in
    let with_count : Bool → Order → ℕ → ℕ × ℕ → Result (Layout × ℕ) LayoutFault = λ stated order pointer count. types_at count.0 stated
    pointer [] bytes count.1 >>= with_types stated order pointer in
    let with_pointer : Bool → Order → ℕ × ℕ → Result (Layout × ℕ) LayoutFault = λ stated order pointer. type_count_at bytes pointer.1
    >>= with_count stated order pointer.0 in
    let with_order : Bool → Order × ℕ → Result (Layout × ℕ) LayoutFault = λ stated order. pointer_at bytes order.1
    >>= with_pointer stated order.0 in
    let with_magic : Bool × ℕ → Result (Layout × ℕ) LayoutFault = λ stated. order_at bytes stated.1 >>= with_order stated.0 in
    ap (λ (r : Result (Bool × ℕ) LayoutFault). r >>= with_magic) r0
    ∙ ap (λ (r : Result (Order × ℕ) LayoutFault). r >>= with_order stated) r1
    ∙ ap (λ (r : Result (ℕ × ℕ) LayoutFault). r >>= with_pointer stated layout.order) r2
    ∙ ap (λ (r : Result (ℕ × ℕ) LayoutFault). r >>= with_count stated layout.order layout.pointer) r3
    ∙ ap (λ (r : Result (List RecordType × ℕ) LayoutFault). r >>= with_types stated layout.order layout.pointer) r4
    ∙ ap (λ (b : Bool). cond b (Err Plain) (Ok (layout, next))) (never_both stated)

-- a description is read as its format
pub described_again : (layout : Layout) → IsWellLaid layout → layout_of (describe layout) ≡ Ok layout
unfolding layout_of
described_again layout laid =
    let bytes = describe layout in
    let whole : Stands bytes 0 bytes (length bytes) = record {
      parts = sym (append-nil bytes) ∙ ap (λ (rest : List ℕ). bytes ++ rest) (sym (drop_all (length bytes) bytes (omega arith)));
      next_is = omega arith;
      within = omega arith;
    } in
    let read = layout_again layout bytes (length bytes) laid whole in
    let finish : Layout × ℕ → Result Layout LayoutFault = λ layout. cond (nat_lt layout.1 (length bytes)) (Err (Trailing layout.1))
    (Ok layout.0) in
    ap (λ (r : Result (Layout × ℕ) LayoutFault). r >>= finish) read ∙ ap (λ (b : Bool). cond b (Err (Trailing (length bytes))) (Ok layout))
    (le-ltb (length bytes) (length bytes) (omega arith))

read_as : Layout × ℕ → Result (Layout × ℕ) LayoutFault
read_as x = Ok x

read_once : (x y : Layout × ℕ) → read_as x ≡ read_as y → x ≡ y
unfolding read_as
read_once x y e = cc

-- no description begins another, and no two formats have one
pub descriptions_distinct : (layout other : Layout) (more : List ℕ) → IsWellLaid layout → IsWellLaid other → describe other
    ≡ describe layout ++ more → (layout ≡ other) × (more ≡ [])
unfolding read_as
descriptions_distinct layout other more laid laid' same =
    let bytes = describe other in
    let text = describe layout in
    let whole : Stands bytes 0 bytes (length bytes) = record {
      parts = sym (append-nil bytes) ∙ ap (λ (rest : List ℕ). bytes ++ rest) (sym (drop_all (length bytes) bytes (omega arith)));
      next_is = omega arith;
      within = omega arith;
    } in
    let joined : Stands bytes 0 (text ++ more) (length bytes) = subst (λ (t : List ℕ). Stands bytes 0 t (length bytes)) same whole in
    let front = stands_front bytes 0 text more (length bytes) joined in
    let one = layout_again layout bytes (0 + length text) laid front in
    let two = layout_again other bytes (length bytes) laid' whole in
    let both : read_as (layout, 0 + length text) ≡ read_as (other, length bytes) = sym one ∙ two in
    let pairs = read_once (layout, 0 + length text) (other, length bytes) both in
    let ends : 0 + length text ≡ length bytes = ap (λ (p : Layout × ℕ). p.1) pairs in
    let long = ap length same ∙ length-append text more in
    (ap (λ (p : Layout × ℕ). p.0) pairs, nil_from_length more (omega (arith, ends, long)))
