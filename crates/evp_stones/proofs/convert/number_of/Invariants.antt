use Rattle.std.proofs.Common.{◌≡◌, drop}
use Rattle.std.specs.List.{position_from}
use Rattle.evp_format.specs.Bytes.{bytes_equal}
use Rattle.evp_stones.proofs.convert.number_of.Given as goal

abbrev pub invariant-loop-number : goal.invariant-loop-number
invariant-loop-number l = position_from (λ name. bytes_equal name l.wanted) l.number (drop l.number l.names)
    ≡ position_from (λ name. bytes_equal name l.wanted) 0 l.names
