use Rattle.std.proofs.Common.{arith, drop, take, ◌-◌, length, length-take, length-drop}
use Rattle.evp_depot.proofs.FrontLemmas.{front_after}
use Rattle.evp_depot.proofs.reading.read_behind.Goals as goal

pub returns-clause-front : goal.returns-clause-front
returns-clause-front g c =
    let buffer = c.args.buffer.now in
    let at = c.args.filled in
    let piece = take (length buffer - at) (drop at buffer) in
    front_after (g.D.Depot.held c.args.depot.now) c.args.name.now c.read.result buffer piece c.read.new.into _ at
    (omega (arith, c.requires, length-take (length buffer - at) (drop at buffer), length-drop at buffer)) c.read.auto.into
    c.read.ensures.in_piece c.read.ensures.bytes
