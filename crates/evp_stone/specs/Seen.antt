-- What a stone's actor is seen as.
use Rattle.std.specs.Prelude.{◌∷◌, map, Some}
use Rattle.evp_stone.specs.declared.entry.Entry.{Entry}
use Rattle.evp_stone.specs.declared.worker.Worker.{Worker}
use Rattle.evp_stone.specs.Settling.{work_of}
use Rattle.evp_stone.specs.State.{StoneWork}

abbrev pub seen : Worker → StoneWork
seen worker = record {
  stone = worker.stone;
  waiting = worker.waiting.items;
  hand = worker.hand;
  routes = map work_of worker.routes.items;
}

-- the same with this entry waiting first
abbrev pub gives : StoneWork → Entry → StoneWork
gives work entry = record {
  stone = work.stone;
  waiting = entry ∷ work.waiting;
  hand = work.hand;
  routes = work.routes;
}

-- the stone with this entry in hand
abbrev pub holding : StoneWork → Entry → StoneWork
holding work entry = record {
  stone = work.stone;
  waiting = work.waiting;
  hand = Some entry;
  routes = work.routes;
}
