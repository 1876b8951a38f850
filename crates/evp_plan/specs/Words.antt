-- The words that fit what a step makes.
use Rattle.std.specs.Prelude.{◌≡◌, ℕ}
use Rattle.evp_base.specs.declared.kind.Kind.{Kind}
use Rattle.evp_plan.specs.declared.step.Op.{Op}
use Rattle.evp_plan.specs.declared.step.Op.TheVariants.{Number, Text, Nest, Each, Many}
use Rattle.evp_plan.specs.declared.step.Origin.TheVariants.{Standing, Stated}
use Rattle.evp_plan.specs.declared.step.Source.{Source}
use Rattle.evp_plan.specs.declared.words.Words.{Words}
use Rattle.evp_plan.specs.Among.{AreFitting}

-- these are words of the source that fit a kind and size
pub record AreWordsOf (kind : Kind) (size : ℕ) (source : Source) (words : Words) : Type 0 where
  pub offset : words.offset ≡ source.offset
  pub size_is : words.size ≡ source.size
  pub fit : AreFitting kind size source.kind source.size words.top words.under

-- these are words that fit what an operation makes, which is a number that stands in the record
abbrev pub AreWordsFor : ℕ → Op → Words → Type 0
AreWordsFor size (Number kind (Standing source)) words = AreWordsOf kind size source words
AreWordsFor size (Number kind (Stated n)) words = ⊥
AreWordsFor size (Text from) words = ⊥
AreWordsFor size (Nest offset) words = ⊥
AreWordsFor size (Each count elements) words = ⊥
AreWordsFor size (Many origin elements) words = ⊥
