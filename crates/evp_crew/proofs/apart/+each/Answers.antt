use Rattle.std.proofs.Common.{arith}
use Rattle.std.specs.Fork.{AcceptsAt, ChangesAt}
use Rattle.evp_crew.proofs.Places.{behind, together}
use Rattle.evp_crew.proofs.apart.+each.Goals as goal

pub begin-beside-requires-clause-others : goal.begin-beside-requires-clause-others
begin-beside-requires-clause-others g t c κs within =
    let cut = c.split_at_mut-first in
    record {
      room = omega (arith, c.requires.room);
      each = behind (AcceptsAt g.F.Fn c.args.f.now) c.args.from cut.result.0.now cut.result.1.now
          c.args.all.now cut.ensures.value cut.ensures.front_len c.requires.each;
    }

pub begin-returns : goal.begin-returns
begin-returns g t c =
    let cut = c.split_at_mut-first in
    record {
      each = together (ChangesAt g.F.Fn c.args.f.now) c.args.from cut.result.0.now cut.result.1.now
          c.args.all.now c.beside.new.first c.beside.new.others cut.ensures.value cut.ensures.front_len
          (omega arith) c.beside.ensures.first.each c.beside.ensures.others.each;
    }
