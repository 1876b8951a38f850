-- What a format is to its callers.
use Rattle.std.specs.Prelude.{ℕ, List}
use Rattle.evp_base.specs.declared.order.Order.{Order}
use Rattle.evp_format.specs.declared.record_type.RecordType.{RecordType}

-- the byte order and pointer size of a machine, and record types of which the last is the record
pub record Layout : Type 0 where
  pub order : Order
  pub pointer : ℕ
  pub types : List RecordType

abbrev pub layout_with : Order → ℕ → List RecordType → Layout
layout_with order pointer types = record { order = order; pointer = pointer; types = types }
