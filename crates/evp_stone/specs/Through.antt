-- What reaches a route's last stone where no stone is ever frozen. It knows no rounds.
use Rattle.std.specs.Prelude.{List}
use Rattle.std.specs.List.{fold}
use Rattle.evp_stone.specs.Carried.{Carried, Acts, sent_on}
use Rattle.evp_stone.specs.Rounds.{Step}

module _ (act : Acts) where
  -- the source's records, sent along the positions
  abbrev pub through : List Carried → List Step → List Carried
  through records steps = fold (λ came step. sent_on act step.stone step.position came) records
      steps
