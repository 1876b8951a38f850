use Rattle.std.proofs.Common.{◌≡◌, drop}
use Rattle.evp_format.specs.Datum.{named}
use Rattle.evp_format.specs.ValueView.{entries_of_pairs}
use Rattle.evp_value.proofs.partner.value_named.Given as goal

abbrev pub invariant-loop-pair : goal.invariant-loop-pair
invariant-loop-pair l = named l.name (entries_of_pairs (drop l.pair-index l.pairs)) ≡ named l.name (entries_of_pairs l.pairs)
