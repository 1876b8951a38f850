-- What is described is read again.
use Rattle.std.proofs.Common.{◌≡◌, ℕ, zero, suc, ◌+◌, ◌-◌, ◌<◌, ◌≤◌, Bool, true, false, cond, inl, inr, List, [], ◌∷◌, ◌++◌, length, take}
use Rattle.std.proofs.Common.{Option, Some, None, Result, Ok, codes, refl, sym, ap, subst, ◌∙◌, arith}
use Rattle.std.specs.Prelude.{slice_index, ◌&&◌, not, nat_eq, nat_le}
use Rattle.std.specs.Option.{ok_or}
use Rattle.std.specs.Fmt.{decimal}
use Rattle.std.specs.Str.Parse.{IsNumeral}
use Rattle.std.specs.List.{position_from, list_all}
use Rattle.std.proofs.lemmas.Bool.{and_parts, cases_Bool}
use Rattle.std.proofs.lemmas.Bool.Decides.{nat_tests}
use Rattle.std.proofs.lemmas.List.{length-append}
use Rattle.std.proofs.lemmas.Fmt.{decimal_is_IsNumeral, first_decimal, length-decimal-le}
use Rattle.evp_base.proofs.NameLemmas.{length-name}
use Rattle.std.proofs.lemmas.Str.Parse.{digit_at}
use Rattle.evp_base.specs.declared.kind.Kind.{Kind}
use Rattle.evp_base.specs.declared.kind.Kind.TheVariants.{Int, Unsigned, Char, Boolean, Enumeration}
use Rattle.evp_base.specs.Name.{is_name, begins_name, continues_name}
use Rattle.evp_format.specs.declared.draft.DraftShape.{DraftShape}
use Rattle.evp_format.specs.declared.draft.DraftShape.TheVariants.{One, Fixed, Counted}
use Rattle.evp_format.specs.declared.field.Base.{Base}
use Rattle.evp_format.specs.declared.field.Base.TheVariants.{Number, Text, Nested}
use Rattle.evp_format.specs.declared.layout_fault.LayoutFault.{LayoutFault}
use Rattle.evp_format.specs.declared.layout_fault.LayoutFault.TheVariants.{TypeText}
use Rattle.evp_format.specs.declared.record_type.RecordType.{RecordType}
use Rattle.evp_format.specs.declared.type_text.Word.{Word}
use Rattle.evp_format.specs.declared.type_text.Word.TheVariants.{Plain, Named}
use Rattle.evp_format.specs.Bytes.{bytes_equal}
use Rattle.evp_format.specs.Describing.{kind_word, type_name, base_word}
use Rattle.evp_format.specs.Steps.{◌>>=◌}
use Rattle.evp_format.specs.TypeText.{word_part, bracket_part, word_of, fixed_of, inside_of, shape_of, type_named, known_base, base_of}
use Rattle.evp_format.specs.TypeText.{type_text_of}
use Rattle.evp_format.specs.WellLaid.{is_reserved}
use Rattle.evp_format.proofs.FixedTexts.{fixed_yes}
use Rattle.evp_format.proofs.Pushed.{bytes_equal-true, bytes_equal-same, or_parts}
use Rattle.evp_format.proofs.TypeTexts.{stated_shape_text}
use Rattle.evp_format.proofs.WellLaidTypes.{IsKnown, IsStatedShape}

-- ---- words hold no bracket

-- no byte is a bracket
abbrev has_no_bracket : List ℕ → Bool
has_no_bracket [] = true
has_no_bracket (byte ∷ bytes) = not (nat_eq byte 91) && has_no_bracket bytes

continues_no_bracket : (byte : ℕ) → continues_name byte ≡ true → not (nat_eq byte 91) ≡ true
continues_no_bracket byte may = grind (arith, nat_tests)

begins_no_bracket : (byte : ℕ) → begins_name byte ≡ true → not (nat_eq byte 91) ≡ true
begins_no_bracket byte may = grind (arith, nat_tests)

both_true : (a b : Bool) → a ≡ true → b ≡ true → (a && b) ≡ true
both_true a b first second = rw (first, second) refl

all_no_bracket : (bytes : List ℕ) → list_all continues_name bytes ≡ true → has_no_bracket bytes ≡ true
all_no_bracket [] all = refl
all_no_bracket (byte ∷ bytes) all =
    let parts = and_parts (continues_name byte) (list_all continues_name bytes) all in
    both_true (not (nat_eq byte 91)) (has_no_bracket bytes) (continues_no_bracket byte parts.0) (all_no_bracket bytes parts.1)

name_no_bracket : (name : List ℕ) → is_name name ≡ true → has_no_bracket name ≡ true
name_no_bracket [] named = absurd (cc)
name_no_bracket (first ∷ others) named =
    let parts = and_parts (begins_name first) (list_all continues_name others && nat_le (length others) 63) named in
    let rest = and_parts (list_all continues_name others) (nat_le (length others) 63) parts.1 in
    both_true (not (nat_eq first 91)) (has_no_bracket others) (begins_no_bracket first parts.0) (all_no_bracket others rest.0)

not_false : (b : Bool) → not b ≡ true → b ≡ false
not_false true e = absurd (cc)
not_false false e = refl

-- a word, and behind it nothing or a bracket, comes apart there
parts_apart : (word rest : List ℕ) → has_no_bracket word ≡ true → word_part rest ≡ [] → bracket_part rest ≡ rest
    → (word_part (word ++ rest) ≡ word) × (bracket_part (word ++ rest) ≡ rest)
parts_apart [] rest none no_word all = (no_word, all)
parts_apart (byte ∷ word) rest none no_word all =
    let parts = and_parts (not (nat_eq byte 91)) (has_no_bracket word) none in
    let other = not_false (nat_eq byte 91) parts.0 in
    let later = parts_apart word rest parts.1 no_word all in (
      ap (λ (b : Bool). cond b [] (byte ∷ word_part (word ++ rest))) other ∙ ap (λ (some : List ℕ). byte ∷ some) later.0,
      ap (λ (b : Bool). cond b (byte ∷ (word ++ rest)) (bracket_part (word ++ rest))) other ∙ later.1,
    )

shape_no_word : (shape : DraftShape) → (word_part (stated_shape_text shape) ≡ [])
    × (bracket_part (stated_shape_text shape) ≡ stated_shape_text shape)
shape_no_word One = (refl, refl)
shape_no_word (Fixed n) = (refl, refl)
shape_no_word (Counted name) = (refl, refl)

-- ---- shapes

digit_begins_no_name : (byte : ℕ) → 48 ≤ byte → byte ≤ 57 → begins_name byte ≡ false
digit_begins_no_name byte least most = grind (arith, nat_tests)

name_is_no_number : (text : List ℕ) → IsNumeral 10 text → is_name text ≡ false
name_is_no_number [] numeral = refl
name_is_no_number (first ∷ others) numeral =
    let digit = digit_at (first ∷ others) 0 numeral.1 numeral.0 in
    ap (λ (b : Bool). b && (list_all continues_name others && nat_le (length others) 63)) (digit_begins_no_name first digit.0 digit.1)

last_of : (inside : List ℕ) (byte : ℕ) → (slice_index (inside ++ byte ∷ []) (length inside) ≡ byte)
    × (take (length inside) (inside ++ byte ∷ []) ≡ inside)
last_of [] byte = (refl, refl)
last_of (x ∷ inside) byte = let rest = last_of inside byte in (rest.0, ap (λ (some : List ℕ). x ∷ some) rest.1)

bracketed : (inside : List ℕ) (shape : DraftShape) → inside_of inside ≡ Some shape → shape_of (91 ∷ (inside ++ 93 ∷ [])) ≡ Some shape
unfolding shape_of
bracketed inside shape e =
    let text : List ℕ = inside ++ 93 ∷ [] in
    let long = length-append inside (93 ∷ []) in
    let n : length text - 1 ≡ length inside = omega (arith, long) in
    let last = last_of inside 93 in
    let ends : nat_eq (slice_index text (length text - 1)) 93 ≡ true = ap (λ (k : ℕ). nat_eq (slice_index text k) 93) n
    ∙ ap (λ (byte : ℕ). nat_eq byte 93) last.0 in
    ap (λ (b : Bool). cond b (inside_of (take (length text - 1) text)) None) ends ∙ ap (λ (k : ℕ). inside_of (take k text)) n
    ∙ ap inside_of last.1 ∙ e

shape_again : (shape : DraftShape) → IsStatedShape shape → shape_of (stated_shape_text shape) ≡ Some shape
unfolding shape_of inside_of
shape_again One stated = refl
shape_again (Fixed n) stated =
    let least = stated.0 in
    let most = stated.1 in
    let numeral = decimal_is_IsNumeral n (omega (arith, most)) in
    let first = first_decimal n (omega (arith, least)) (omega (arith, most)) in
    let fixed = fixed_yes (decimal n) n numeral.0 (λ zero. omega (arith, first, zero)) (sym numeral.1) least most in
    let no_name = name_is_no_number (decimal n) numeral.0 in
    bracketed (decimal n) (Fixed n) (ap (λ (b : Bool). cond b (Some (Counted (decimal n))) (fixed_of (decimal n))) no_name ∙ fixed)
shape_again (Counted name) stated = bracketed name (Counted name) (ap (λ (b : Bool). cond b (Some (Counted name)) (fixed_of name)) stated)

-- ---- words

kind_again : (kind : Kind) → word_of (kind_word kind) ≡ Some (Plain (Number kind))
unfolding word_of
kind_again Int = refl
kind_again Unsigned = refl
kind_again Char = refl
kind_again Boolean = refl
kind_again Enumeration = refl

text_word_again : word_of (codes "string") ≡ Some (Plain Text)
unfolding word_of
text_word_again = refl

-- a name has no space
spaced_is_no_name : (name : List ℕ) → is_name name ≡ true → bytes_equal name (codes "unsigned integer") ≡ false
spaced_is_no_name name named = elim (cases_Bool (bytes_equal name (codes "unsigned integer"))) [
  | inl equal ↦ absurd (let same = bytes_equal-true name (codes "unsigned integer") equal in
      let spaced : is_name (codes "unsigned integer") ≡ true = subst (λ (n : List ℕ). is_name n ≡ true) same named in cc)
  | inr other ↦ other
]

named_again : (name : List ℕ) → is_name name ≡ true → is_reserved name ≡ false → word_of name ≡ Some (Named name)
unfolding word_of
named_again name named free =
    let a = or_parts (bytes_equal name (codes "integer")) _ free in
    let b = or_parts (bytes_equal name (codes "unsigned")) _ a.1 in
    let c = or_parts (bytes_equal name (codes "char")) _ b.1 in
    let d = or_parts (bytes_equal name (codes "boolean")) _ c.1 in
    let e = or_parts (bytes_equal name (codes "enumeration")) _ d.1 in
    let f = or_parts (bytes_equal name (codes "string")) (bytes_equal name (codes "float")) e.1 in
    rw (a.0, spaced_is_no_name name named, c.0, d.0, e.0, f.0, f.1, b.0, named) refl

-- ---- bases

-- earlier types whose names are good and differ
pub record AreNamed (types : List RecordType) : Type 0 where
  pub named : (k : ℕ) → k < length types → is_name (type_name types k) ≡ true
  pub free : (k : ℕ) → k < length types → is_reserved (type_name types k) ≡ false
  pub differ : (i k : ℕ) → i < k → k < length types → bytes_equal (type_name types i) (type_name types k) ≡ false

named_found : (types : List RecordType) (name : List ℕ) (from k : ℕ) → k < length types → type_name types k ≡ name
    → ((i : ℕ) → i < k → bytes_equal (type_name types i) name ≡ false)
    → position_from (λ (type : RecordType). bytes_equal type.name name) from types ≡ Some (from + k)
named_found [] name from k below is others = absurd (omega arith)
named_found (first ∷ types) name from zero below is others =
    let here : from + 0 ≡ from = omega arith in
    let same : bytes_equal first.name name ≡ true = ap (λ (n : List ℕ). bytes_equal n name) is ∙ bytes_equal-same name in
    rw (here, same) refl
named_found (first ∷ types) name from (suc k) below is others =
    let there : from + suc k ≡ from + 1 + k = omega arith in
    rw (others 0 (omega arith), there) (named_found types name (from + 1) k (omega arith) is (λ i less. others (suc i) (omega arith)))

-- the word for a base, as a word
word_for : List RecordType → Base → Word
word_for types (Number kind) = Plain (Number kind)
word_for types Text = Plain Text
word_for types (Nested k) = Named (type_name types k)

word_again : (types : List RecordType) (base : Base) → AreNamed types → IsKnown types base → word_of (base_word types base)
    ≡ Some (word_for types base)
unfolding word_for
word_again types (Number kind) are known = kind_again kind
word_again types Text are known = text_word_again
word_again types (Nested k) are known = named_again (type_name types k) (are.named k known) (are.free k known)

base_again : (types : List RecordType) (type field : ℕ) (base : Base) → AreNamed types → IsKnown types base
    → base_of types type field (word_for types base) ≡ Ok base
unfolding word_for base_of
base_again types type field (Number kind) are known = refl
base_again types type field Text are known = refl
base_again types type field (Nested k) are known =
    let here : 0 + k ≡ k = omega arith in
    let found : type_named types (type_name types k) ≡ Some k = named_found types (type_name types k) 0 k known refl
    (λ i less. are.differ i k less known) ∙ ap (λ (n : ℕ). Some n) here in
    ap (known_base type field) found

kind_no_bracket : (kind : Kind) → has_no_bracket (kind_word kind) ≡ true
kind_no_bracket Int = refl
kind_no_bracket Unsigned = refl
kind_no_bracket Char = refl
kind_no_bracket Boolean = refl
kind_no_bracket Enumeration = refl

base_no_bracket : (types : List RecordType) (base : Base) → AreNamed types → IsKnown types base → has_no_bracket (base_word types base)
    ≡ true
base_no_bracket types (Number kind) are known = kind_no_bracket kind
base_no_bracket types Text are known = refl
base_no_bracket types (Nested k) are known = name_no_bracket (type_name types k) (are.named k known)

-- what a type text says is said again by its spelling
pub type_text_again : (types : List RecordType) (type field : ℕ) (base : Base) (shape : DraftShape) → AreNamed types → IsKnown types base
    → IsStatedShape shape
    → type_text_of types type field (base_word types base ++ stated_shape_text shape) ≡ Ok (base, shape)
unfolding type_text_of
type_text_again types type field base shape are known stated =
    let text : List ℕ = base_word types base ++ stated_shape_text shape in
    let none = shape_no_word shape in
    let apart = parts_apart (base_word types base) (stated_shape_text shape) (base_no_bracket types base are known) none.0 none.1 in
    let word : word_of (word_part text) ≡ Some (word_for types base) = ap word_of apart.0 ∙ word_again types base are known in
    let said : shape_of (bracket_part text) ≡ Some shape = ap shape_of apart.1 ∙ shape_again shape stated in
    let based = base_again types type field base are known in
    let with_shape : Word → DraftShape → Result (Base × DraftShape) LayoutFault = λ word shape. base_of types type field word
    >>= λ base. Ok (base, shape) in
    let with_word : Word → Result (Base × DraftShape) LayoutFault = λ word. ok_or (shape_of (bracket_part text)) (TypeText type field)
    >>= with_shape word in
    ap (λ (o : Option Word). ok_or o (TypeText type field) >>= with_word) word
    ∙ ap (λ (o : Option DraftShape). ok_or o (TypeText type field) >>= with_shape (word_for types base)) said
    ∙ ap (λ (r : Result Base LayoutFault). r >>= λ base. Ok (base, shape)) based

-- ---- lengths

kind_short : (kind : Kind) → length (kind_word kind) ≤ 64
kind_short Int = omega arith
kind_short Unsigned = omega arith
kind_short Char = omega arith
kind_short Boolean = omega arith
kind_short Enumeration = omega arith

base_short : (types : List RecordType) (base : Base) → AreNamed types → IsKnown types base → length (base_word types base) ≤ 64
base_short types (Number kind) are known = kind_short kind
base_short types Text are known = omega arith
base_short types (Nested k) are known = (length-name (type_name types k) (are.named k known)).1

shape_short : (shape : DraftShape) → IsStatedShape shape → length (stated_shape_text shape) ≤ 66
shape_short One stated = omega arith
shape_short (Fixed n) stated =
    let most = stated.1 in
    let digits = length-decimal-le 5 n (omega arith) (omega (arith, most)) (omega (arith, most)) in
    let long = length-append (codes "[" ++ decimal n) (codes "]") in
    let long' = length-append (codes "[") (decimal n) in
    omega (arith, digits, long, long')
shape_short (Counted name) stated =
    let short = (length-name name stated).1 in
    let long = length-append (codes "[" ++ name) (codes "]") in
    let long' = length-append (codes "[") name in
    omega (arith, short, long, long')

pub type_text_short : (types : List RecordType) (base : Base) (shape : DraftShape) → AreNamed types → IsKnown types base
    → IsStatedShape shape
    → length (base_word types base ++ stated_shape_text shape) < 256
type_text_short types base shape are known stated =
    let front = base_short types base are known in
    let back = shape_short shape stated in
    let long = length-append (base_word types base) (stated_shape_text shape) in
    omega (arith, front, back, long)
