use Rattle.std.proofs.Common.{◌≡◌, ◌*◌, take}
use Rattle.std.specs.List.{flat_map}
use Rattle.evp_base.specs.Numbers.{number, digits}
use Rattle.evp_wide.specs.Groups.{groups}
use Rattle.evp_wide.proofs.numbers.rewrite_each.Given as goal

abbrev pub invariant-loop-element : goal.invariant-loop-element
invariant-loop-element l =
    take (l.element * l.out_size) l.out
    ≡ flat_map (λ e. digits l.out_order l.out_size (number l.from_order l.kind e)) (groups l.from_size l.element l.from)
