use Rattle.std.proofs.Common.{arith}
use Rattle.evp_record.proofs.Laid.{laid_at, inside, extent_of_counted}
use Rattle.evp_record.proofs.record.Checked.start.Goals as goal

pub pointer-requires-clause-inside : goal.pointer-requires-clause-inside
pointer-requires-clause-inside c =
    let layout = c.args.self.now.layout in
    let there = c.requires.there in
    let at = laid_at layout c.args.spot.type_number there.number c.args.field.now c.requires.laid there.there in
    let fits = inside layout c.args.spot.type_number there.number c.args.field.now at in
    let takes = extent_of_counted layout.pointer c.args.field.now c.in-Counted.field-0 c.in-Counted.is in
    let within = c.requires.reached.inside in
    omega (arith, fits, takes, within)
