-- Which words of a sender's numbers, with no sign, stand for numbers of another kind and size.
use Rattle.std.specs.Prelude.{◌≡◌, ℕ, ◌*◌, ◌^◌, ◌<◌, Bool, true, ◌||◌, nat_le, nat_lt, List}
use Rattle.std.specs.Prelude.{length}
use Rattle.evp_base.specs.declared.kind.Kind.{Kind}
use Rattle.evp_base.specs.declared.order.Order.{Order}
use Rattle.evp_base.specs.Numbers.{magnitude, number, InRange}

-- one of the words up to `top`, or above `under`
abbrev pub is_among : ℕ → ℕ → ℕ → Bool
is_among top under word = nat_le word top || nat_lt under word

-- numbers of the second kind and of `width` bytes with such a word are numbers of the first kind
-- and of `size` bytes
abbrev pub AreFitting : Kind → ℕ → Kind → ℕ → ℕ → ℕ → Type 0
AreFitting kind size from width top under =
    (order : Order) (bytes : List ℕ) → length bytes ≡ width
    → magnitude order bytes < 2 ^ (8 * width) → is_among top under (magnitude order bytes) ≡ true
    → InRange kind size (number order from bytes)
