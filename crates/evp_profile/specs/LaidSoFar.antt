-- The types that are laid out so far for a machine, and how each is aligned.
use Rattle.std.specs.Prelude.{◌≡◌, ℕ, ◌≤◌, List, length, take, map}
use Rattle.evp_format.specs.declared.record_type.RecordType.{RecordType}
use Rattle.evp_format.specs.SoFar.{SoFar, AreLaid}
use Rattle.evp_format.specs.Tree.{trees}
use Rattle.evp_profile.specs.declared.profile.Profile.{Profile}
use Rattle.evp_profile.specs.Alignment.{alignment}
use Rattle.evp_profile.specs.Profile.{pointer_size}

pub record LaidSoFar : Type 0 where
  pub profile : Profile
  pub types : List RecordType

abbrev pub laid_so_far : Profile → List RecordType → LaidSoFar
laid_so_far profile types = record { profile = profile; types = types }

pub record AreAligned (profile : Profile) (so_far : SoFar) (alignments : List ℕ) : Type 0 where
  pub has_pointer : so_far.pointer ≡ pointer_size profile
  pub few : length so_far.types ≤ 64
  pub laid : AreLaid so_far.pointer so_far.types
  pub aligned : take (length so_far.types) alignments ≡ map (alignment profile) (trees so_far.types)
