use Rattle.std.proofs.Common.{sym, subst}
use Rattle.evp_cache.specs.Known.{Cells}
use Rattle.evp_crew.specs.Carried.{AreFirst}
use Rattle.evp_crew.specs.Parting.{actors_of}
use Rattle.evp_crew.specs.Rota.{three}
use Rattle.evp_crew.proofs.Through.{all_went_through}
use Rattle.evp_crew.proofs.carried.Carried.new.Goals as goal

pub returns : goal.returns
returns c =
    let job = c.args.job.now in
    let seats = c.args.seats.items in
    record {
      job_is = c.of.ensures;
      whole = subst (λ (k : Cells). AreFirst (three job k c.args.crew) (actors_of job) seats) (sym c.of-2.ensures) c.requires;
      through = all_went_through job c.parts.ensures.kept c.args.cache.now c.args.crew seats c.requires;
    }
