-- Windows of sixteen bytes in which bytes are compared with signs.
use Rattle.std.specs.Prelude.{◌≡◌, ℕ, ◌+◌, ◌<◌, ◌≤◌, List, ◌∷◌, length, drop, Option, IfSome}
use Rattle.std.specs.List.{All}
use Rattle.evp_base.specs.declared.order.Order.{Order}
use Rattle.evp_wide.specs.Gathered.{picked, gathered, signs_gathered}
use Rattle.evp_plan.specs.declared.fill.Window.{Window}
use Rattle.evp_plan.specs.declared.quick.Quick.{Quick}
use Rattle.evp_plan.specs.declared.told.Told.{Told}
use Rattle.evp_plan.specs.Quicks.{IsInside}
use Rattle.evp_plan.specs.Fills.{byte_there, AreBytes, AreWordsInside, AreWordsThere}

-- all of them, one after another
abbrev pub windows_of : Told → List Window
windows_of told = told.one ∷ told.two ∷ told.three ∷ told.four ∷ told.rest.items

-- each byte that the window's one mask picks is the sign of the byte that the other picks
abbrev pub HasFills : ℕ → List ℕ → Window → Type 0
HasFills at bytes window = gathered window.picks.places (drop (at + window.at) bytes)
    ≡ signs_gathered window.signs.places (drop (at + window.at) bytes)

-- so for each of these windows
abbrev pub HaveFills : ℕ → List ℕ → List Window → Type 0
HaveFills at bytes windows = All (HasFills at bytes) windows

-- the windows stand inside the bytes
abbrev pub AreInside : ℕ → List ℕ → List Window → Type 0
AreInside at bytes windows = All (λ (window : Window). at + window.at + 16 ≤ length bytes) windows

-- windows that tell whether the words of these tests fit, of a sender of this order: they stand inside
-- bytes that hold the words, and where all of them have their fills, the words are among those that fit
pub record AreLanesOf (order : Order) (tests : List Quick) (windows : List Window) : Type 0 where
  pub inside : (at : ℕ) (bytes : List ℕ) → AreWordsInside at bytes tests → AreInside at bytes windows
  pub tell : (at : ℕ) (bytes : List ℕ) → AreBytes bytes → AreWordsInside at bytes tests
      → HaveFills at bytes windows → AreWordsThere at order bytes tests

-- the place of the byte at an offset in the window that begins at `begin`
abbrev pub IsPlaceIn : ℕ → Option ℕ → ℕ → Type 0
IsPlaceIn begin offset place =
    (at : ℕ) (bytes : List ℕ) → picked (drop (at + begin) bytes) place ≡ byte_there at bytes offset

-- the bytes hold so many of the record where they hold the test's words
abbrev pub IsEndOf : Quick → ℕ → Type 0
IsEndOf test end =
    (at : ℕ) (bytes : List ℕ) → IfSome test.words (IsInside at bytes) → 0 < end
    → at + end ≤ length bytes

-- the same of all of these tests
abbrev pub IsReachOf : List Quick → ℕ → Type 0
IsReachOf tests reach =
    (at : ℕ) (bytes : List ℕ) → AreWordsInside at bytes tests → 0 < reach
    → at + reach ≤ length bytes
