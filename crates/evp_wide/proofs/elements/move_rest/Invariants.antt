use Rattle.std.proofs.Common.{◌≡◌, ◌*◌, take}
use Rattle.std.specs.List.{flat_map}
use Rattle.evp_wide.specs.Gathered.{gathered}
use Rattle.evp_wide.specs.Groups.{groups}
use Rattle.evp_wide.proofs.elements.move_rest.Given as goal

abbrev pub invariant-loop-element : goal.invariant-loop-element
invariant-loop-element l =
    take (l.element * l.mover.out_size) l.out ≡ flat_map (gathered (take l.mover.out_size l.mover.mask))
    (groups l.mover.from_size l.element l.from)
