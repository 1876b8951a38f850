-- Which bytes of a number are the sign of another where it fits.
use Rattle.std.specs.Prelude.{◌≡◌, ℕ, suc, ◌+◌, ◌-◌, ◌*◌, ◌^◌, ◌<◌, ◌≤◌, IsTrue, List, Option, Some, IfSome}
use Rattle.evp_base.specs.declared.order.Order.{Order}
use Rattle.evp_base.specs.declared.order.Order.TheVariants.{Little, Big}
use Rattle.evp_base.specs.Numbers.{is_width}
use Rattle.evp_wide.specs.Gathered.{sign_byte}
use Rattle.evp_plan.specs.declared.fill.Cut.{Cut}
use Rattle.evp_plan.specs.declared.fill.Fill.{Fill}
use Rattle.evp_plan.specs.declared.fill.Filling.{Filling}
use Rattle.evp_plan.specs.declared.fill.Filling.TheVariants.{Zeros, Positive, Signed}
use Rattle.evp_plan.specs.declared.quick.Quick.{Quick}
use Rattle.evp_plan.specs.declared.words.Words.{Words}
use Rattle.evp_plan.specs.Quicks.{IsInside, IsThere}
use Rattle.evp_plan.specs.Fills.{byte_there, AreFilled, AreBytes}

-- where byte k of a number of so many bytes stands, the lowest first
abbrev pub place_of : Order → ℕ → ℕ → ℕ → ℕ
place_of Little offset width k = offset + k
place_of Big offset width k = offset + (width - 1 - k)

-- the words up to `top` and above `under` hold those of so many bytes whose bytes above are filled so
abbrev pub AreWide : Filling → ℕ → ℕ → ℕ → ℕ → Type 0
AreWide Zeros size width top under = 2 ^ (8 * size) ≤ suc top
AreWide Positive size width top under = 2 ^ (8 * size - 1) ≤ suc top
AreWide Signed size width top under = (2 ^ (8 * size - 1) ≤ suc top)
    × (under + 2 ^ (8 * size - 1) < 2 ^ (8 * width))

-- a word whose bytes from the cut on are so is one of these
pub record IsCutOf (words : Words) (cut : Cut) : Type 0 where
  pub allowed : IsTrue (is_width cut.size)
  pub less : cut.size ≤ words.size
  pub wide : AreWide cut.filling cut.size words.size words.top words.under

-- the bytes of a word from one on are the sign of that byte
abbrev pub AreAbove : Order → Words → ℕ → Option ℕ → ℕ → List ℕ → Type 0
AreAbove order words size sign at bytes =
    (k : ℕ) → size ≤ k → k < words.size
    → byte_there at bytes (Some (place_of order words.offset words.size k))
    ≡ sign_byte (byte_there at bytes sign)

-- the second list of fills tells what the first tells, and that those bytes are that sign
abbrev pub AddsAbove : Order → Words → ℕ → Option ℕ → List Fill → List Fill → Type 0
AddsAbove order words size sign old new =
    (at : ℕ) (bytes : List ℕ) → AreFilled at bytes new
    → AreFilled at bytes old × AreAbove order words size sign at bytes

-- and that the byte below them has no sign
abbrev pub AddsPositive : Order → Words → ℕ → ℕ → List Fill → List Fill → Type 0
AddsPositive order words size below old new =
    (at : ℕ) (bytes : List ℕ) → AreFilled at bytes new
    → AreFilled at bytes old × (AreAbove order words size (Some below) at bytes
    × (0 ≡ sign_byte (byte_there at bytes (Some below))))

-- the second list of fills tells what the first tells, and that the word is one of those that fit
abbrev pub AddsFillsOf : Order → Words → List Fill → List Fill → Type 0
AddsFillsOf order words old new =
    (at : ℕ) (bytes : List ℕ) → AreBytes bytes → AreFilled at bytes new
    → AreFilled at bytes old × (IsInside at bytes words → IsThere at order bytes words)

-- the same of a test's words, where it has some
abbrev pub AddsTestOf : Order → Quick → List Fill → List Fill → Type 0
AddsTestOf order test old new =
    (at : ℕ) (bytes : List ℕ) → AreBytes bytes → AreFilled at bytes new
    → AreFilled at bytes old
    × (IfSome test.words (IsInside at bytes) → IfSome test.words (IsThere at order bytes))
