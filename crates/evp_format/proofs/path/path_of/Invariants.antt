use Rattle.std.proofs.Common.{◌≡◌, ◌++◌, ◌<◌, drop, length, IfSome}
use Rattle.evp_format.specs.Path.{path_of, path_in}
use Rattle.evp_format.proofs.Paths.{part_reached}
use Rattle.evp_format.proofs.path.path_of.Given as goal

abbrev pub invariant-loop-step : goal.invariant-loop-step
invariant-loop-step l =
    (path_of l.format l.place ≡ l.path ++ path_in (part_reached l.format l.reached) (drop l.step-index l.place))
    × IfSome l.reached (λ n. n < length l.types)
