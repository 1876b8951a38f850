use Rattle.std.proofs.Common.{◌<◌, All}
use Rattle.evp_stones.proofs.Turns.{TurnsSoFar}
use Rattle.evp_stones.proofs.order.turns_in.Given as goal

-- the lines before this place were read
abbrev pub invariant-loop : goal.invariant-loop
invariant-loop l = record {
  so_far : TurnsSoFar l.fn.actors l.fn.name l.fn.bytes l.counter l.at l.turns.items;
  within : All (λ actor. actor < l.fn.actors) l.turns.items;
}
