-- Type texts: what is read is spelled so.
use Rattle.std.proofs.Common.{◌≡◌, ℕ, suc, ◌+◌, ◌-◌, ◌<◌, ◌≤◌, Bool, true, false, cond, List, [], ◌∷◌, ◌++◌, length, take, Option, Some}
use Rattle.std.proofs.Common.{None, Ok, codes, IsTrue, refl, sym, ap, subst, ◌∙◌, arith}
use Rattle.std.specs.Prelude.{slice_index, ◌&&◌, not, nat_eq, nat_le}
use Rattle.std.specs.Option.{ok_or}
use Rattle.std.specs.Fmt.{decimal}
use Rattle.std.specs.Str.Parse.{digits_value}
use Rattle.std.specs.List.{position_from}
use Rattle.std.proofs.lemmas.Bool.{and_parts, eqb-true, leb-true}
use Rattle.evp_base.specs.declared.kind.Kind.TheVariants.{Int, Unsigned, Char, Boolean, Enumeration}
use Rattle.evp_base.specs.Name.{is_name}
use Rattle.evp_format.specs.declared.draft.DraftShape.{DraftShape}
use Rattle.evp_format.specs.declared.draft.DraftShape.TheVariants.{One, Fixed, Counted}
use Rattle.evp_format.specs.declared.field.Base.{Base}
use Rattle.evp_format.specs.declared.field.Base.TheVariants.{Number, Text, Nested}
use Rattle.evp_format.specs.declared.layout_fault.LayoutFault.TheVariants.{TypeText}
use Rattle.evp_format.specs.declared.record_type.RecordType.{RecordType}
use Rattle.evp_format.specs.declared.type_text.Word.{Word}
use Rattle.evp_format.specs.declared.type_text.Word.TheVariants.{Plain, FloatWord, Named}
use Rattle.evp_format.specs.Bytes.{bytes_equal}
use Rattle.evp_format.specs.Describing.{kind_word, type_name, base_word}
use Rattle.evp_format.specs.Steps.{◌>>=◌}
use Rattle.evp_format.specs.TypeText.{word_part, bracket_part, word_of, type_word_of, fixed_of, inside_of, shape_of, type_named, known_base}
use Rattle.evp_format.specs.TypeText.{base_of, type_text_of}
use Rattle.evp_format.specs.WellLaid.{is_reserved, is_type_name}
use Rattle.evp_format.proofs.Pushed.{bytes_equal-true}
use Rattle.evp_format.proofs.WellLaidTypes.{bind_ok, ok_or_some, ok_is, IsKnown, IsStatedShape}

-- ---- the two parts

pub parts_together : (text : List ℕ) → word_part text ++ bracket_part text ≡ text
parts_together [] = refl
parts_together (byte ∷ bytes) = split (nat_eq byte 91) byte bytes (parts_together bytes)
  where
    split : (b : Bool) (byte : ℕ) (bytes : List ℕ) → word_part bytes ++ bracket_part bytes ≡ bytes
        → cond b [] (byte ∷ word_part bytes) ++ cond b (byte ∷ bytes) (bracket_part bytes) ≡ byte ∷ bytes
    split true byte bytes rest = refl
    split false byte bytes rest = ap (λ (some : List ℕ). byte ∷ some) rest

begins_step : (b : Bool) (byte : ℕ) (bytes rest : List ℕ) (first : ℕ) (others : List ℕ) → nat_eq byte 91 ≡ b → cond b (byte ∷ bytes) rest
    ≡ first ∷ others
    → (rest ≡ first ∷ others → first ≡ 91) → first ≡ 91
begins_step true byte bytes rest first others is e later = let same : byte ≡ first = cc in sym same ∙ eqb-true byte 91 is
begins_step false byte bytes rest first others is e later = later e

-- the second part begins with a bracket
pub bracket_begins : (text : List ℕ) (first : ℕ) (others : List ℕ) → bracket_part text ≡ first ∷ others → first ≡ 91
bracket_begins [] first others e = absurd (cc)
bracket_begins (byte ∷ bytes) first others e = begins_step (nat_eq byte 91) byte bytes (bracket_part bytes) first others refl e
    (bracket_begins bytes first others)

-- ---- words

-- how a word is spelled
abbrev pub SpellsWord : Word → List ℕ → Type 0
SpellsWord (Plain (Number kind)) text = text ≡ kind_word kind
SpellsWord (Plain Text) text = text ≡ codes "string"
SpellsWord (Plain (Nested k)) text = ⊥
SpellsWord FloatWord text = text ≡ codes "float"
SpellsWord (Named name) text = (text ≡ name) × (is_name name ≡ true)

word_step : (text key : List ℕ) (word word' : Word) (b : Bool) (rest : Option Word) → bytes_equal text key ≡ b → cond b (Some word) rest
    ≡ Some word'
    → (text ≡ key → SpellsWord word text) → (rest ≡ Some word' → SpellsWord word' text) → SpellsWord word' text
word_step text key word word' true rest is e spelled later = subst (λ (w : Word). SpellsWord w text) (let same : word ≡ word' = cc in same)
    (spelled (bytes_equal-true text key is))
word_step text key word word' false rest is e spelled later = later e

name_step : (text : List ℕ) (word : Word) (b : Bool) → is_type_name text ≡ b → cond b (Some (Named text)) None ≡ Some word
    → SpellsWord word text
name_step text word true is e = subst (λ (w : Word). SpellsWord w text) (let same : Named text ≡ word = cc in same)
    (refl, (and_parts (is_name text) (not (is_reserved text)) is).0)
name_step text word false is e = absurd (cc)

type_word_spelled : (text : List ℕ) (word : Word) → type_word_of text ≡ Some word → SpellsWord word text
type_word_spelled text word e = name_step text word (is_type_name text) refl e

pub word_spelled : (text : List ℕ) (word : Word) → word_of text ≡ Some word → SpellsWord word text
unfolding word_of
word_spelled text word e =
    word_step text (codes "integer") (Plain (Number Int)) word (bytes_equal text (codes "integer")) _ refl e (λ is. is) (λ e.
    word_step text (codes "unsigned integer") (Plain (Number Unsigned)) word (bytes_equal text (codes "unsigned integer")) _ refl e
    (λ is. is) (λ e.
    word_step text (codes "char") (Plain (Number Char)) word (bytes_equal text (codes "char")) _ refl e (λ is. is) (λ e.
    word_step text (codes "boolean") (Plain (Number Boolean)) word (bytes_equal text (codes "boolean")) _ refl e (λ is. is) (λ e.
    word_step text (codes "enumeration") (Plain (Number Enumeration)) word (bytes_equal text (codes "enumeration")) _ refl e (λ is. is)
    (λ e.
    word_step text (codes "string") (Plain Text) word (bytes_equal text (codes "string")) _ refl e (λ is. is) (λ e.
    word_step text (codes "float") FloatWord word (bytes_equal text (codes "float")) _ refl e (λ is. is) (type_word_spelled text word)))))))

-- ---- shapes

-- what stands behind a word
abbrev pub stated_shape_text : DraftShape → List ℕ
stated_shape_text One = []
stated_shape_text (Fixed n) = codes "[" ++ decimal n ++ codes "]"
stated_shape_text (Counted name) = codes "[" ++ name ++ codes "]"

-- what stands in brackets
abbrev SpellsInside : DraftShape → List ℕ → Type 0
SpellsInside One text = ⊥
SpellsInside (Fixed n) text = (decimal n ≡ text) × ((1 ≤ n) × (n ≤ 65536))
SpellsInside (Counted name) text = (name ≡ text) × IsTrue (is_name name)

fixed_step : (text : List ℕ) (n : ℕ) (shape : DraftShape) (b : Bool) → ((nat_le 1 n && nat_le n 65536) && bytes_equal (decimal n) text) ≡ b
    → cond b (Some (Fixed n)) None ≡ Some shape → SpellsInside shape text
fixed_step text n shape true is e =
    let parts = and_parts (nat_le 1 n && nat_le n 65536) (bytes_equal (decimal n) text) is in
    let bounds = and_parts (nat_le 1 n) (nat_le n 65536) parts.0 in
    subst (λ (s : DraftShape). SpellsInside s text) (let same : Fixed n ≡ shape = cc in same)
    (bytes_equal-true (decimal n) text parts.1, (leb-true 1 n bounds.0, leb-true n 65536 bounds.1))
fixed_step text n shape false is e = absurd (cc)

fixed_spelled : (text : List ℕ) (shape : DraftShape) → fixed_of text ≡ Some shape → SpellsInside shape text
unfolding fixed_of
fixed_spelled text shape e = let n = digits_value 10 text in
    fixed_step text n shape ((nat_le 1 n && nat_le n 65536) && bytes_equal (decimal n) text) refl e

inside_step : (text : List ℕ) (shape : DraftShape) (b : Bool) → is_name text ≡ b → cond b (Some (Counted text)) (fixed_of text) ≡ Some shape
    → SpellsInside shape text
inside_step text shape true is e = subst (λ (s : DraftShape). SpellsInside s text) (let same : Counted text ≡ shape = cc in same) (refl, is)
inside_step text shape false is e = fixed_spelled text shape e

inside_spelled : (text : List ℕ) (shape : DraftShape) → inside_of text ≡ Some shape → SpellsInside shape text
unfolding inside_of
inside_spelled text shape e = inside_step text shape (is_name text) refl e

ends_with : (x : ℕ) (xs : List ℕ) (byte : ℕ) → slice_index (x ∷ xs) (length xs) ≡ byte → take (length xs) (x ∷ xs) ++ byte ∷ [] ≡ x ∷ xs
ends_with x [] byte is = ap (λ (b : ℕ). b ∷ []) (sym is)
ends_with x (y ∷ ys) byte is = ap (λ (some : List ℕ). x ∷ some) (ends_with y ys byte is)

-- a text whose last byte is this
last_is : (rest : List ℕ) (byte : ℕ) → 0 < byte → slice_index rest (length rest - 1) ≡ byte → take (length rest - 1) rest ++ byte ∷ []
    ≡ rest
last_is [] byte some is = absurd (omega (arith, is))
last_is (x ∷ xs) byte some is =
    let n : suc (length xs) - 1 ≡ length xs = omega arith in
    rw n (ends_with x xs byte (ap (slice_index (x ∷ xs)) (sym n) ∙ is))

shape_from_inside : (shape : DraftShape) (inside : List ℕ) → SpellsInside shape inside
    → (codes "[" ++ inside ++ codes "]" ≡ stated_shape_text shape) × IsStatedShape shape
shape_from_inside One inside spelled = absurd spelled
shape_from_inside (Fixed n) inside spelled = (ap (λ (text : List ℕ). codes "[" ++ text ++ codes "]") (sym spelled.0), spelled.1)
shape_from_inside (Counted name) inside spelled = (ap (λ (text : List ℕ). codes "[" ++ text ++ codes "]") (sym spelled.0), spelled.1)

bracket_step : (rest : List ℕ) (shape : DraftShape) (b : Bool) → nat_eq (slice_index rest (length rest - 1)) 93 ≡ b
    → cond b (inside_of (take (length rest - 1) rest)) None ≡ Some shape
    → (91 ∷ rest ≡ stated_shape_text shape) × IsStatedShape shape
bracket_step rest shape true is e =
    let inside = take (length rest - 1) rest in
    let spelled = shape_from_inside shape inside (inside_spelled inside shape e) in
    let whole = last_is rest 93 (omega arith) (eqb-true (slice_index rest (length rest - 1)) 93 is) in
    (ap (λ (some : List ℕ). 91 ∷ some) (sym whole) ∙ spelled.0, spelled.1)
bracket_step rest shape false is e = absurd (cc)

shape_step : (text brackets : List ℕ) (shape : DraftShape) → bracket_part text ≡ brackets → shape_of brackets ≡ Some shape
    → (brackets ≡ stated_shape_text shape) × IsStatedShape shape
unfolding shape_of
shape_step text [] shape is e = let same : One ≡ shape = cc in (ap stated_shape_text same, subst IsStatedShape same tt)
shape_step text (bracket ∷ rest) shape is e =
    let begins = bracket_begins text bracket rest is in
    let spelled = bracket_step rest shape (nat_eq (slice_index rest (length rest - 1)) 93) refl e in
    (ap (λ (byte : ℕ). byte ∷ rest) begins ∙ spelled.0, spelled.1)

pub shape_spelled : (text : List ℕ) (shape : DraftShape) → shape_of (bracket_part text) ≡ Some shape
    → (bracket_part text ≡ stated_shape_text shape) × IsStatedShape shape
shape_spelled text shape e = shape_step text (bracket_part text) shape refl e

-- ---- bases

position_step : (earlier : List RecordType) (first : RecordType) (name : List ℕ) (from k : ℕ) (b : Bool) → bytes_equal first.name name ≡ b
    → cond b (Some from) (position_from (λ (type : RecordType). bytes_equal type.name name) (from + 1) earlier) ≡ Some k
    → (position_from (λ (type : RecordType). bytes_equal type.name name) (from + 1) earlier ≡ Some k → (n : ℕ) × (k ≡ from + 1 + n)
    × (n < length earlier) × (type_name earlier n ≡ name))
    → (n : ℕ) × (k ≡ from + n) × (n < suc (length earlier)) × (type_name (first ∷ earlier) n ≡ name)
position_step earlier first name from k true is found later =
    (0, (let same : from ≡ k = cc in omega (arith, same)), omega arith, bytes_equal-true first.name name is)
position_step earlier first name from k false is found later =
    let rest = later found in (suc rest.0, (let far = rest.1 in omega (arith, far)), (let below = rest.2 in omega (arith, below)), rest.3)

named_at : (earlier : List RecordType) (name : List ℕ) (from k : ℕ) → position_from (λ (type : RecordType). bytes_equal type.name name) from
    earlier ≡ Some k
    → (n : ℕ) × (k ≡ from + n) × (n < length earlier) × (type_name earlier n ≡ name)
named_at [] name from k found = absurd (cc)
named_at (first ∷ earlier) name from k found = position_step earlier first name from k (bytes_equal first.name name) refl found
    (named_at earlier name (from + 1) k)

known_step : (earlier : List RecordType) (type field : ℕ) (name : List ℕ) (base : Base) (o : Option ℕ) → type_named earlier name ≡ o
    → known_base type field o ≡ Ok base
    → IsKnown earlier base × (base_word earlier base ≡ name)
known_step earlier type field name base None is e = absurd (cc)
known_step earlier type field name base (Some k) is e =
    let at = named_at earlier name 0 k is in
    let here : at.0 ≡ k = let far = at.1 in omega (arith, far) in
    let known : IsKnown earlier (Nested k) × (base_word earlier (Nested k) ≡ name) = subst
    (λ (n : ℕ). (n < length earlier) × (type_name earlier n ≡ name)) here (at.2, at.3) in
    subst (λ (b : Base). IsKnown earlier b × (base_word earlier b ≡ name)) (ok_is (Nested k) base e) known

base_spelled : (earlier : List RecordType) (type field : ℕ) (word : Word) (base : Base) (text : List ℕ) → SpellsWord word text
    → base_of earlier type field word ≡ Ok base
    → IsKnown earlier base × (base_word earlier base ≡ text)
unfolding base_of
base_spelled earlier type field (Plain (Number kind)) base text spelled e = subst
    (λ (b : Base). IsKnown earlier b × (base_word earlier b ≡ text)) (ok_is (Number kind) base e) (tt, sym spelled)
base_spelled earlier type field (Plain Text) base text spelled e = subst (λ (b : Base). IsKnown earlier b × (base_word earlier b ≡ text))
    (ok_is Text base e) (tt, sym spelled)
base_spelled earlier type field (Plain (Nested k)) base text spelled e = absurd spelled
base_spelled earlier type field FloatWord base text spelled e = absurd (cc)
base_spelled earlier type field (Named name) base text spelled e =
    let known = known_step earlier type field name base (type_named earlier name) refl e in
    (known.0, known.1 ∙ sym spelled.0)

-- what a type text says is spelled by it
pub type_text_spelled : (earlier : List RecordType) (type field : ℕ) (text : List ℕ) (said : Base × DraftShape)
    → type_text_of earlier type field text ≡ Ok said
    → IsKnown earlier said.0 × IsStatedShape said.1 × (base_word earlier said.0 ++ stated_shape_text said.1 ≡ text)
unfolding type_text_of
type_text_spelled earlier type field text said e =
    let word = bind_ok (ok_or (word_of (word_part text)) (TypeText type field))
    (λ word. ok_or (shape_of (bracket_part text)) (TypeText type field) >>= λ shape. base_of earlier type field word
    >>= λ base. Ok (base, shape)) said e in
    let shape = bind_ok (ok_or (shape_of (bracket_part text)) (TypeText type field))
    (λ shape. base_of earlier type field word.0 >>= λ base. Ok (base, shape)) said word.2 in
    let base = bind_ok (base_of earlier type field word.0) (λ base. Ok (base, shape.0)) said shape.2 in
    let made : Base × DraftShape = (base.0, shape.0) in
    let spelled_word = word_spelled (word_part text) word.0 (ok_or_some (word_of (word_part text)) (TypeText type field) word.0 word.1) in
    let spelled_shape = shape_spelled text shape.0 (ok_or_some (shape_of (bracket_part text)) (TypeText type field) shape.0 shape.1) in
    let spelled_base = base_spelled earlier type field word.0 base.0 (word_part text) spelled_word base.1 in
    let whole : base_word earlier base.0 ++ stated_shape_text shape.0 ≡ text =
    ap (λ (front : List ℕ). front ++ stated_shape_text shape.0) spelled_base.1
    ∙ ap (λ (back : List ℕ). word_part text ++ back) (sym spelled_shape.0) ∙ parts_together text in
    subst (λ (s : Base × DraftShape). IsKnown earlier s.0 × IsStatedShape s.1 × (base_word earlier s.0 ++ stated_shape_text s.1 ≡ text))
    (ok_is made said base.2) (spelled_base.0, spelled_shape.1, whole)
