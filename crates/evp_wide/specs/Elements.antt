-- Arrays whose elements are swapped or widened.
use Rattle.std.specs.Prelude.{◌≡◌, ◌≢◌, ℕ, IsTrue, List, flat_map, reverse}
use Rattle.evp_base.specs.Numbers.{number, digits, is_size_of}
use Rattle.evp_base.specs.declared.kind.Kind.{Kind}
use Rattle.evp_base.specs.declared.kind.Kind.TheVariants.{Boolean}
use Rattle.evp_base.specs.declared.order.Order.{Order}
use Rattle.evp_wide.specs.Groups.{elements}

-- each group of this size reversed
abbrev pub swapped : ℕ → List ℕ → List ℕ
swapped size bytes = flat_map reverse (elements size bytes)

-- each number of one order and size written in another order and size
abbrev pub rewritten : Kind → Order → ℕ → Order → ℕ → List ℕ → List ℕ
rewritten kind out_order out_size from_order from_size bytes =
    flat_map (λ element. digits out_order out_size (number from_order kind element))
    (elements from_size bytes)

-- the numbers in the other order, whatever kind they are but boolean
abbrev pub AreReordered : Order → Order → ℕ → List ℕ → List ℕ → Type 0
AreReordered out_order from_order size from out =
    (kind : Kind) → kind ≢ Boolean → IsTrue (is_size_of kind size)
    → out ≡ rewritten kind out_order size from_order size from
