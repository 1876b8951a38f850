-- Texts among bytes: they end with a zero byte.
use Rattle.std.specs.Prelude.{◌≡◌, ℕ, ◌+◌, ◌-◌, ◌*◌, ◌<◌, List, ◌++◌, length, take, drop, replicate}
use Rattle.evp_base.specs.declared.kind.Kind.TheVariants.{Int}
use Rattle.evp_base.specs.declared.order.Order.{Order}
use Rattle.memchr.specs.Find.{Nowhere, Passes, is_byte}
use Rattle.evp_wide.specs.Elements.{rewritten}

-- so many bytes stand from a place on before the first zero byte there
pub record IsZeroBehind (bytes : List ℕ) (from count : ℕ) : Type 0 where
  pub within : from + count < length bytes
  pub before : Nowhere (Passes (is_byte 0) bytes) from (from + count)
  pub here : Passes (is_byte 0) bytes (from + count)

-- the first `size` bytes stayed, zeros follow up to a place, and from there on so many of other
-- bytes; nothing is said of what is behind
abbrev pub IsFrontWith : ℕ → ℕ → ℕ → List ℕ → List ℕ → List ℕ → Type 0
IsFrontWith size to count from old new =
    take (to + count) new ≡ take size old ++ (replicate (to - size) 0 ++ take count from)

-- from a place on the bytes are n signed numbers, of `size` bytes each, made of those of `width`
-- bytes that stand at another place; all else stayed
abbrev pub with_signed : ℕ → ℕ → Order → List ℕ → ℕ → ℕ → Order → ℕ → List ℕ → List ℕ
with_signed to size to_order from at width from_order n old =
    take to old ++ (rewritten Int to_order size from_order width (take (n * width) (drop at from))
    ++ drop (to + n * size) old)
