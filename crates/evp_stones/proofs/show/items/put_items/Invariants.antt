use Rattle.evp_stones.proofs.Numbered.{Through}
use Rattle.evp_stones.specs.Show.{item_line}
use Rattle.evp_stones.proofs.show.items.put_items.Given as goal

-- the records before this one were handed on
abbrev pub invariant-loop-number : goal.invariant-loop-number
invariant-loop-number g l =
    Through g.K.Sink.faults g.K.Sink.put l.fn.sink l.sink l.fn.pieces l.pieces (item_line l.fn.formats) l.fn.items l.number
