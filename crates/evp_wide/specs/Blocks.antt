-- Elements that are made in blocks of sixteen bytes.
use Rattle.std.specs.Prelude.{◌≡◌, ℕ, ◌*◌, List, take, flat_map}
use Rattle.evp_wide.specs.declared.mover.Mover.{Mover}
use Rattle.evp_wide.specs.Gathered.{gathered}
use Rattle.evp_wide.specs.Groups.{groups}

-- the elements of so many blocks stand in front
abbrev pub AreMade : Mover → List ℕ → ℕ → List ℕ → Type 0
AreMade mover from blocks out = take (blocks * 16) out
    ≡ flat_map (gathered (take mover.out_size mover.mask))
    (groups mover.from_size (blocks * mover.count) from)
