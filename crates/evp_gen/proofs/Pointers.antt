-- Pointers of a profile's machine.
use Rattle.std.proofs.Common.{ℕ, ◌^◌, ◌<◌, ◌≤◌, pos, refl, arith}
use Rattle.std.specs.Prelude.{IsTrue}
use Rattle.std.proofs.lemmas.Int.{ints}
use Rattle.evp_base.specs.Numbers.{is_width, FitsBytes}
use Rattle.evp_profile.specs.declared.profile.Profile.{Profile}
use Rattle.evp_profile.specs.declared.profile.Profile.TheVariants.{Le64, Le32, Be64, Be32}
use Rattle.evp_profile.specs.Profile.{pointer_size}

pub pointer_le : (profile : Profile) → pointer_size profile ≤ 8
pointer_le Le64 = omega arith
pointer_le Le32 = omega arith
pointer_le Be64 = omega arith
pointer_le Be32 = omega arith

pub pointer_ge : (profile : Profile) → 4 ≤ pointer_size profile
pointer_ge Le64 = omega arith
pointer_ge Le32 = omega arith
pointer_ge Be64 = omega arith
pointer_ge Be32 = omega arith

pub pointer_width : (profile : Profile) → IsTrue (is_width (pointer_size profile))
pointer_width Le64 = refl
pointer_width Le32 = refl
pointer_width Be64 = refl
pointer_width Be32 = refl

pub pointer_fits : (profile : Profile) (n : ℕ) → n < 2 ^ 16 → FitsBytes (pointer_size profile) (pos n)
pointer_fits Le64 n below = (omega (arith, ints, below), omega (arith, ints, below))
pointer_fits Le32 n below = (omega (arith, ints, below), omega (arith, ints, below))
pointer_fits Be64 n below = (omega (arith, ints, below), omega (arith, ints, below))
pointer_fits Be32 n below = (omega (arith, ints, below), omega (arith, ints, below))
