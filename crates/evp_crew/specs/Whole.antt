-- What holds of all that was carried.
use Rattle.std.specs.Prelude.{◌≡◌, ◌≤◌, [], length, vec_capacity}
use Rattle.evp_stone.specs.Job.{IsJob}
use Rattle.evp_crew.specs.declared.carried.Carried.TheInside.{Inside}
use Rattle.evp_crew.specs.Carried.{AreFirst, CarriedShape}
use Rattle.evp_crew.specs.Parting.{actors_of}
use Rattle.evp_crew.specs.Rota.{three}

abbrev pub carried_of : Inside → CarriedShape
carried_of carried = record {
  job = carried.job.value;
  cells = carried.cache.value;
  crew = carried.crew;
  seats = carried.seats.items;
}

-- there is one seat for each actor of one job, in order, each closed, and room for their accounts
pub record HoldsWhole (carried : Inside) : Type 0 where
  pub job : IsJob carried.job.value
  pub whole : AreFirst (three carried.job.value carried.cache.value carried.crew)
      (actors_of carried.job.value) carried.seats.items
  pub sources : carried.sources ≡ length carried.job.value.sources
  pub none : carried.room.items ≡ []
  pub room : length carried.seats.items ≤ vec_capacity carried.room
