use Rattle.std.proofs.Common.{◌≡◌, drop}
use Rattle.std.specs.List.{position_from}
use Rattle.evp_format.specs.Bytes.{bytes_equal}
use Rattle.evp_file.specs.declared.file.KnownFormat.{KnownFormat}
use Rattle.evp_file.specs.Reading.{known_number}
use Rattle.evp_file.proofs.frame.known_number.Given as goal

abbrev pub invariant-loop-number : goal.invariant-loop-number
invariant-loop-number l = position_from (λ (one : KnownFormat). bytes_equal one.id.0 l.id) l.number (drop l.number l.known)
    ≡ known_number l.known l.id
