-- What a seat is seen as.
use Rattle.crossbeam_utils.specs.Padded.{padded_value}
use Rattle.evp_crew.specs.declared.seat.Seat.TheInside.{Inside}
use Rattle.evp_crew.specs.Seat.{SeatShape}

abbrev pub seat_of : Inside → SeatShape
seat_of seat = record {
  number = seat.number;
  actor = (padded_value seat.equipped.value).actor;
  passes = (padded_value seat.equipped.value).passes;
  job = seat.job.value;
  cells = seat.cache.value;
  crew = seat.crew.value;
}
