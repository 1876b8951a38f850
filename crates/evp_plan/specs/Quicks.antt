-- Steps with quick tests.
use Rattle.std.specs.Prelude.{ℕ, ◌+◌, ◌≤◌, nat_eq, Bool, true, false, IsTrue, if◌then◌else◌}
use Rattle.std.specs.Prelude.{List, [], ◌∷◌, length, map, Option, Some, None, IfSome}
use Rattle.std.specs.List.{list_all}
use Rattle.evp_base.specs.declared.order.Order.{Order}
use Rattle.evp_base.specs.Numbers.{magnitude}
use Rattle.evp_format.specs.Bytes.{bytes_at}
use Rattle.evp_plan.specs.declared.quick.Quick.{Quick}
use Rattle.evp_plan.specs.declared.step.Step.{Step}
use Rattle.evp_plan.specs.declared.words.Words.{Words}
use Rattle.evp_plan.specs.Among.{is_among}
use Rattle.evp_plan.specs.Words.{AreWordsFor}

-- the steps of which these are tests
abbrev pub steps_in : List Quick → List Step
steps_in tests = map (λ (test : Quick). test.step) tests

-- the words are those that fit what the step makes
abbrev pub IsFit : Quick → Type 0
IsFit test = IfSome test.words (AreWordsFor test.step.task.size test.step.task.op)

-- words of so many bytes, and those behind them
abbrev pub with_words : ℕ → Option Words → List Words → List Words
with_words size None rest = rest
with_words size (Some words) rest = if nat_eq words.size size then words ∷ rest else rest

-- the words of these that have so many bytes
abbrev pub words_in : ℕ → List Quick → List Words
words_in size [] = []
words_in size (test ∷ tests) = with_words size test.words (words_in size tests)

abbrev pub has_words : Option Words → Bool
has_words None = false
has_words (Some words) = true

-- each of these has words
abbrev pub have_words : List Quick → Bool
have_words tests = list_all (λ (test : Quick). has_words test.words) tests

-- a word of the record at `at` stands inside these bytes
abbrev pub IsInside : ℕ → List ℕ → Words → Type 0
IsInside at bytes words = at + words.offset + words.size ≤ length bytes

-- it is one of these
abbrev pub IsThere : ℕ → Order → List ℕ → Words → Type 0
IsThere at order bytes words = IsTrue (is_among words.top words.under
    (magnitude order (bytes_at (at + words.offset) words.size bytes)))
