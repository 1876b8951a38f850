-- The words of quick tests, by their bytes.
use Rattle.std.proofs.Common.{◌≡◌, ℕ, ◌+◌, IsTrue, Bool, true, false, List, [], ◌∷◌, ◌++◌, length, get_or, take}
use Rattle.std.proofs.Common.{Option, Some, None, refl, sym, ap, ◌∙◌, subst, ◌<◌}
use Rattle.std.specs.List.{All}
use Rattle.std.specs.Prelude.{IfSome, nat_eq, ◌||◌, if◌then◌else◌}
use Rattle.std.proofs.lemmas.Bool.{eqb-true}
use Rattle.std.proofs.lemmas.List.{take_more}
use Rattle.std.proofs.lemmas.List.Elements.{All-nil, All-head, All-tail, All-cons}
use Rattle.evp_plan.specs.declared.quick.Quick.{Quick}
use Rattle.evp_plan.specs.declared.words.Words.{Words}
use Rattle.evp_plan.specs.Quicks.{with_words, words_in}

-- ---- the list of one size

with_words-append : (size : ℕ) (o : Option Words) (xs ys : List Words)
    → with_words size o (xs ++ ys) ≡ with_words size o xs ++ ys
with_words-append size None xs ys = refl
with_words-append size (Some words) xs ys = by (nat_eq words.size size)
  where
    by : (b : Bool) → (if b then words ∷ (xs ++ ys) else (xs ++ ys)) ≡ (if b then words ∷ xs else xs) ++ ys
    by true = refl
    by false = refl

words_in-append : (size : ℕ) (xs ys : List Quick) → words_in size (xs ++ ys) ≡ words_in size xs ++ words_in size ys
words_in-append size [] ys = refl
words_in-append size (test ∷ xs) ys =
    ap (with_words size test.words) (words_in-append size xs ys) ∙ with_words-append size test.words (words_in size xs) (words_in size ys)

-- one test more
pub words_more : (size : ℕ) (tests : List Quick) (k : ℕ) (test : Quick) (words pushed : List Words) → words ≡ words_in size (take k tests)
    → k < length tests → test ≡ get_or tests k test → pushed ≡ words ++ with_words size test.words []
    → pushed ≡ words_in size (take (k + 1) tests)
words_more size tests k test words pushed so_far below own is =
    let more : take (k + 1) tests ≡ take k tests ++ test ∷ [] =
    take_more tests k test below ∙ ap (λ (t : Quick). take k tests ++ t ∷ []) (sym own) in
    is ∙ ap (λ (w : List Words). w ++ with_words size test.words []) so_far
    ∙ sym (words_in-append size (take k tests) (test ∷ [])) ∙ sym (ap (words_in size) more)

-- ---- what holds of each

All-with : (size : ℕ) (P : Words → Type 0) (o : Option Words) (rest : List Words)
    → IfSome o (λ words. words.size ≡ size → P words) → All P rest → All P (with_words size o rest)
All-with size P None rest one all = all
All-with size P (Some words) rest one all = by (nat_eq words.size size) refl
  where
    by : (b : Bool) → nat_eq words.size size ≡ b → All P (if b then words ∷ rest else rest)
    by true same = All-cons P words rest (one (eqb-true words.size size same)) all
    by false other = all

-- of each of a size in the list of that size
each_listed : (size : ℕ) (P : Words → Type 0) (tests : List Quick)
    → All (λ (test : Quick). IfSome test.words (λ words. words.size ≡ size → P words)) tests → All P (words_in size tests)
each_listed size P [] known = All-nil P
each_listed size P (test ∷ tests) known =
    let Known : Quick → Type 0 = λ t. IfSome t.words (λ words. words.size ≡ size → P words) in
    All-with size P test.words (words_in size tests) (All-head Known test tests known)
    (each_listed size P tests (All-tail Known test tests known))

All-rest : (size : ℕ) (P : Words → Type 0) (o : Option Words) (rest : List Words) → All P (with_words size o rest) → All P rest
All-rest size P None rest all = all
All-rest size P (Some words) rest all = by (nat_eq words.size size) all
  where
    by : (b : Bool) → All P (if b then words ∷ rest else rest) → All P rest
    by true all = All-tail P words rest all
    by false all = all

-- of a word whose size is one of four
one_of : (P : Words → Type 0) (words : Words) (ones twos fours eights : List Words) (b1 b2 b4 b8 : Bool)
    → IsTrue (b1 || (b2 || (b4 || b8))) → All P (if b1 then words ∷ ones else ones) → All P (if b2 then words ∷ twos else twos)
    → All P (if b4 then words ∷ fours else fours) → All P (if b8 then words ∷ eights else eights) → P words
one_of P words ones twos fours eights true b2 b4 b8 wide a1 a2 a4 a8 = All-head P words ones a1
one_of P words ones twos fours eights false true b4 b8 wide a1 a2 a4 a8 = All-head P words twos a2
one_of P words ones twos fours eights false false true b8 wide a1 a2 a4 a8 = All-head P words fours a4
one_of P words ones twos fours eights false false false true wide a1 a2 a4 a8 = All-head P words eights a8
one_of P words ones twos fours eights false false false false wide a1 a2 a4 a8 = cc

of_first : (P : Words → Type 0) (o : Option Words) (ones twos fours eights : List Words) → All P (with_words 1 o ones)
    → All P (with_words 2 o twos) → All P (with_words 4 o fours) → All P (with_words 8 o eights) → IfSome o P
of_first P None ones twos fours eights a1 a2 a4 a8 = tt
of_first P (Some words) ones twos fours eights a1 a2 a4 a8 =
    one_of P words ones twos fours eights (nat_eq words.size 1) (nat_eq words.size 2) (nat_eq words.size 4) (nat_eq words.size 8)
    words.allowed a1 a2 a4 a8

-- of the words of each test, where it holds of each in the four lists
each_of_four : (P : Words → Type 0) (tests : List Quick) → All P (words_in 1 tests) → All P (words_in 2 tests)
    → All P (words_in 4 tests) → All P (words_in 8 tests) → All (λ (test : Quick). IfSome test.words P) tests
each_of_four P [] a1 a2 a4 a8 = All-nil (λ (test : Quick). IfSome test.words P)
each_of_four P (test ∷ tests) a1 a2 a4 a8 =
    All-cons (λ (t : Quick). IfSome t.words P) test tests
    (of_first P test.words (words_in 1 tests) (words_in 2 tests) (words_in 4 tests) (words_in 8 tests) a1 a2 a4 a8)
    (each_of_four P tests (All-rest 1 P test.words (words_in 1 tests) a1) (All-rest 2 P test.words (words_in 2 tests) a2)
    (All-rest 4 P test.words (words_in 4 tests) a4) (All-rest 8 P test.words (words_in 8 tests) a8))

-- ---- of slices that hold the lists

any_sized : (size : ℕ) (o : Option Words) → IfSome o (λ words. words.size ≡ size → words.size ≡ size)
any_sized size None = tt
any_sized size (Some words) = λ same. same

pub slice_sized : (size : ℕ) (tests : List Quick) (items slice : List Words) → slice ≡ items → items ≡ words_in size tests
    → All (λ (words : Words). words.size ≡ size) slice
slice_sized size tests items slice same is =
    let Sized : Words → Type 0 = λ words. words.size ≡ size in
    subst (λ (ws : List Words). All Sized ws) (sym (same ∙ is))
    (each_listed size Sized tests (λ k d below. any_sized size (get_or tests k d).words))

any_known : (size : ℕ) (P : Words → Type 0) (o : Option Words) → IfSome o P → IfSome o (λ words. words.size ≡ size → P words)
any_known size P None known = tt
any_known size P (Some words) known = λ _. known

pub slice_known : (size : ℕ) (P : Words → Type 0) (tests held : List Quick) (items slice : List Words) → slice ≡ items
    → items ≡ words_in size tests → tests ≡ held → All (λ (test : Quick). IfSome test.words P) held → All P slice
slice_known size P tests held items slice same is view known =
    let Known : List Quick → Type 0 = λ ts. All (λ (test : Quick). IfSome test.words P) ts in
    let own = subst Known (sym view) known in
    subst (λ (ws : List Words). All P ws) (sym (same ∙ is))
    (each_listed size P tests (λ k d below. any_known size P (get_or tests k d).words (own k d below)))

pub tests_known : (P : Words → Type 0) (tests held : List Quick) (ones twos fours eights : List Words) → ones ≡ words_in 1 tests
    → twos ≡ words_in 2 tests → fours ≡ words_in 4 tests → eights ≡ words_in 8 tests → tests ≡ held → All P ones → All P twos
    → All P fours → All P eights → All (λ (test : Quick). IfSome test.words P) held
tests_known P tests held ones twos fours eights is_1 is_2 is_4 is_8 view a1 a2 a4 a8 =
    let Each : List Words → Type 0 = λ ws. All P ws in
    subst (λ (ts : List Quick). All (λ (test : Quick). IfSome test.words P) ts) view
    (each_of_four P tests (subst Each is_1 a1) (subst Each is_2 a2) (subst Each is_4 a4) (subst Each is_8 a8))
