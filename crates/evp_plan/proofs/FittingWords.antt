-- Words that fit a kind and size, and what the tests by them show.
use Rattle.std.proofs.Common.{◌≡◌, ℕ, zero, suc, ◌+◌, ◌-◌, ◌*◌, ◌^◌, ◌<◌, ◌≤◌, ℤ, pos, ◌-ℤ◌, ◌≤ℤ◌, IsTrue, true, List, length}
use Rattle.std.proofs.Common.{inl, inr, refl, sym, ap, ◌∙◌, subst, arith}
use Rattle.std.specs.Prelude.{nat_lt, if◌then◌else◌}
use Rattle.std.proofs.lemmas.Bool.{cases_lt, lt-ltb, le-ltb, eqb-true}
use Rattle.std.proofs.lemmas.Bool.Decides.{nat_tests}
use Rattle.std.proofs.lemmas.Int.{ints}
use Rattle.byteorder.proofs.Bytes.{pow256}
use Rattle.evp_base.specs.declared.kind.Kind.{Kind}
use Rattle.evp_base.specs.declared.kind.Kind.TheVariants.{Int, Unsigned, Char, Boolean, Enumeration}
use Rattle.evp_base.specs.Numbers.{magnitude, number, truth, twos_complement, least, greatest, is_width, is_size_of}
use Rattle.evp_base.proofs.Complement.{width as width_of}
use Rattle.evp_base.proofs.Digits.{AreBytes, magnitude-lt}
use Rattle.evp_format.proofs.Places.{AreBytes-cut}
use Rattle.evp_format.specs.Bytes.{bytes_at}
use Rattle.evp_format.specs.Converting.{Made, made}
use Rattle.evp_format.specs.declared.place.PlaceStep.{PlaceStep}
use Rattle.evp_format.specs.Viewing.{Image}
use Rattle.evp_plan.specs.declared.step.Op.{Op}
use Rattle.evp_plan.specs.declared.step.Op.TheVariants.{Number, Text, Nest, Each, Many}
use Rattle.evp_plan.specs.declared.step.Origin.TheVariants.{Standing, Stated}
use Rattle.evp_plan.specs.declared.words.Words.{Words}
use Rattle.evp_plan.specs.Among.{is_among, AreFitting}
use Rattle.evp_plan.specs.Measuring.{op_fits, measured_op}
use Rattle.evp_plan.specs.Ready.{IsOpThere}
use Rattle.evp_plan.specs.Words.{AreWordsFor}
use Rattle.evp_plan.proofs.Defaults.{range_test}
use Rattle.evp_plan.proofs.QuietSteps.{length_cut}

-- ---- words and numbers

-- a word whose top bit is a sign
signed_in : (low high : ℤ) (modulus half below top under m : ℕ) → modulus ≡ 2 * half → low ≤ℤ (pos 0 -ℤ pos below)
    → pos top ≤ℤ high → top < half → half ≤ suc under → modulus ≤ suc under + below → m < modulus → is_among top under m ≡ true
    → (low ≤ℤ (if nat_lt (2 * m) modulus then pos m else pos m -ℤ pos modulus))
    × ((if nat_lt (2 * m) modulus then pos m else pos m -ℤ pos modulus) ≤ℤ high)
signed_in low high modulus half below top under m halves least greatest small past reach inside among = elim (cases_lt (2 * m) modulus) [
  | inl less ↦
      let near : m ≤ top = grind (arith, nat_tests, among, less, halves, past) in
      rw (lt-ltb (2 * m) modulus less) (omega (arith, ints, least), omega (arith, ints, near, greatest))
  | inr more ↦
      let far : under < m = grind (arith, nat_tests, among, more, halves, small) in
      rw (le-ltb (2 * m) modulus more) (omega (arith, ints, least, far, reach), omega (arith, ints, inside, greatest))
]

-- a size of a kind is a width
pub size_width : (kind : Kind) (size : ℕ) → IsTrue (is_size_of kind size) → IsTrue (is_width size)
size_width Int size allowed = allowed
size_width Unsigned size allowed = allowed
size_width Boolean size allowed = allowed
size_width Enumeration size allowed = allowed
size_width Char size allowed = subst (λ (n : ℕ). IsTrue (is_width n)) (sym (eqb-true size 1 allowed)) refl

truth_is : (m : ℕ) → m ≤ 1 → truth m ≡ pos m
truth_is zero small = refl
truth_is (suc zero) small = refl
truth_is (suc (suc m)) small = absurd (omega (arith, small))

-- the words up to `top` and above `under` stay between the bounds of both kinds
pub record AreBounds (kind : Kind) (size : ℕ) (from : Kind) (width top under : ℕ) : Type 0 where
  pub allowed : IsTrue (is_size_of from width)
  pub high : ℕ
  pub below : ℕ
  pub from_high : ℕ
  pub from_below : ℕ
  pub high_is : pos high ≡ greatest kind size
  pub below_is : (pos 0 -ℤ pos below) ≡ least kind size
  pub from_high_is : pos from_high ≡ greatest from width
  pub from_below_is : (pos 0 -ℤ pos from_below) ≡ least from width
  pub less : top ≤ high
  pub from_less : top ≤ from_high
  pub reach : 2 ^ (8 * width) ≤ suc under + below
  pub from_reach : 2 ^ (8 * width) ≤ suc under + from_below

-- where the sender's are never below 0
plain_fitting : (kind : Kind) (size : ℕ) (from : Kind) (width top under m : ℕ) → AreBounds kind size from width top under
    → least from width ≡ pos 0 → m < 2 ^ (8 * width) → is_among top under m ≡ true
    → (m ≤ top) × ((least kind size ≤ℤ pos m) × (pos m ≤ℤ greatest kind size))
plain_fitting kind size from width top under m bounds none inside among =
    let reach = bounds.from_reach in
    let below = bounds.from_below_is ∙ none in
    let near : m ≤ under = omega (arith, ints, inside, reach, below) in
    let small : m ≤ top = grind (arith, nat_tests, near, among) in
    let least_is = bounds.below_is in
    let greatest_is = bounds.high_is in
    let less = bounds.less in
    (small, (omega (arith, ints, least_is), omega (arith, ints, greatest_is, less, small)))

-- where they are signed
signed_fitting : (kind : Kind) (size : ℕ) (from : Kind) (width top under m : ℕ) → AreBounds kind size from width top under
    → IsTrue (is_width width) → least from width ≡ least Int width → greatest from width ≡ greatest Int width → m < 2 ^ (8 * width)
    → is_among top under m ≡ true → (least kind size ≤ℤ twos_complement width m) × (twos_complement width m ≤ℤ greatest kind size)
signed_fitting kind size from width top under m bounds allowed lowest highest inside among =
    let half = 2 ^ (8 * width - 1) in
    let wide = width_of width allowed in
    let doubled = wide.half in
    let some = wide.least in
    let least_is = bounds.below_is in
    let greatest_is = bounds.high_is in
    let less = bounds.less in
    let below = bounds.from_below_is ∙ lowest in
    let high = bounds.from_high_is ∙ highest in
    let from_less = bounds.from_less in
    let reach = bounds.from_reach in
    signed_in (least kind size) (greatest kind size) (2 ^ (8 * width)) half bounds.below top under m doubled
    (omega (arith, ints, least_is))
    (omega (arith, ints, greatest_is, less)) (omega (arith, ints, high, from_less, some)) (omega (arith, ints, below, reach, doubled))
    bounds.reach inside among

pub fitting : (kind : Kind) (size : ℕ) (from : Kind) (width top under : ℕ) → AreBounds kind size from width top under
    → AreFitting kind size from width top under
fitting kind size Unsigned width top under bounds order bytes long inside among =
    (plain_fitting kind size Unsigned width top under (magnitude order bytes) bounds refl inside among).1
fitting kind size Char width top under bounds order bytes long inside among =
    (plain_fitting kind size Char width top under (magnitude order bytes) bounds refl inside among).1
fitting kind size Boolean width top under bounds order bytes long inside among =
    let m = magnitude order bytes in
    let fits = plain_fitting kind size Boolean width top under m bounds refl inside among in
    let small = fits.0 in
    let less = bounds.from_less in
    let high = bounds.from_high_is in
    let P : ℤ → Type 0 = λ n. (least kind size ≤ℤ n) × (n ≤ℤ greatest kind size) in
    subst P (sym (truth_is m (omega (arith, ints, small, less, high)))) fits.1
fitting kind size Int width top under bounds order bytes long inside among =
    let m = magnitude order bytes in
    let In : ℕ → Type 0 = λ w. (least kind size ≤ℤ twos_complement w m) × (twos_complement w m ≤ℤ greatest kind size) in
    subst In (sym long) (signed_fitting kind size Int width top under m bounds bounds.allowed refl refl inside among)
fitting kind size Enumeration width top under bounds order bytes long inside among =
    let m = magnitude order bytes in
    let In : ℕ → Type 0 = λ w. (least kind size ≤ℤ twos_complement w m) × (twos_complement w m ≤ℤ greatest kind size) in
    subst In (sym long) (signed_fitting kind size Enumeration width top under m bounds bounds.allowed refl refl inside among)

-- ---- what the tests show

-- the word stands inside the bytes
pub words_inside : (image : Image) (at size : ℕ) (op : Op) (words : Words) (Inside : ℕ → Type 0) → AreWordsFor size op words
    → IsOpThere image at op Inside → at + words.offset + words.size ≤ length image.bytes
words_inside image at size (Number kind (Standing source)) words Inside are there =
    let offset = are.offset in
    let long = are.size_is in
    let within = there.0 in
    omega (arith, offset, long, within)
words_inside image at size (Number kind (Stated n)) words Inside are there = absurd are
words_inside image at size (Text from) words Inside are there = absurd are
words_inside image at size (Nest offset) words Inside are there = absurd are
words_inside image at size (Each count elements) words Inside are there = absurd are
words_inside image at size (Many origin elements) words Inside are there = absurd are

-- the number fits
pub words_fit : (image : Image) (at size : ℕ) (op : Op) (words : Words) (Inside : ℕ → Type 0) → AreWordsFor size op words
    → IsOpThere image at op Inside → AreBytes image.bytes
    → is_among words.top words.under (magnitude image.order (bytes_at (at + words.offset) words.size image.bytes)) ≡ true
    → op_fits image at size op ≡ true
words_fit image at size (Number kind (Standing source)) words Inside are there bytes_are among =
    let bytes = bytes_at (at + source.offset) source.size image.bytes in
    let long = length_cut image.bytes (at + source.offset) source.size there.0 in
    let less : magnitude image.order bytes < 2 ^ (8 * length bytes) =
    rw (← pow256 (length bytes)) (magnitude-lt image.order bytes (AreBytes-cut image.bytes (at + source.offset) source.size bytes_are)) in
    let Below : ℕ → Type 0 = λ n. magnitude image.order bytes < 2 ^ (8 * n) in
    let places : bytes_at (at + words.offset) words.size image.bytes ≡ bytes =
    ap (λ (o : ℕ). bytes_at (at + o) words.size image.bytes) are.offset
    ∙ ap (λ (n : ℕ). bytes_at (at + source.offset) n image.bytes) are.size_is in
    let here = sym (ap (λ (b : List ℕ). is_among words.top words.under (magnitude image.order b)) places) ∙ among in
    range_test kind size (number image.order source.kind bytes) (are.fit image.order bytes long (subst Below long less) here)
words_fit image at size (Number kind (Stated n)) words Inside are there bytes_are among = absurd are
words_fit image at size (Text from) words Inside are there bytes_are among = absurd are
words_fit image at size (Nest offset) words Inside are there bytes_are among = absurd are
words_fit image at size (Each count elements) words Inside are there bytes_are among = absurd are
words_fit image at size (Many origin elements) words Inside are there bytes_are among = absurd are

-- it takes no block
pub words_measured : (limit : ℕ) (image : Image) (size : ℕ) (op : Op) (words : Words) (inside : List PlaceStep → ℕ → ℕ → Made (Unit {0}))
    (place : List PlaceStep) (at after : ℕ) → AreWordsFor size op words
    → measured_op limit image size op inside place at after ≡ made tt after
words_measured limit image size (Number kind (Standing source)) words inside place at after are = refl
words_measured limit image size (Number kind (Stated n)) words inside place at after are = absurd are
words_measured limit image size (Text from) words inside place at after are = absurd are
words_measured limit image size (Nest offset) words inside place at after are = absurd are
words_measured limit image size (Each count elements) words inside place at after are = absurd are
words_measured limit image size (Many origin elements) words inside place at after are = absurd are
