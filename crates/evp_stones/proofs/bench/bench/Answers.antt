use Rattle.std.proofs.Common.{Ok, ap, ◌∙◌}
use Rattle.evp_stones.specs.Bench.{bench_text}
use Rattle.evp_stones.proofs.bench.bench.Goals as goal

pub returns : goal.returns
returns g c = record {
  job = c.in_ok-job.job;
  is = c.in_ok-job.ensures;
  answered = ap Ok (c.summary_of-summary.ensures ∙ ap (bench_text c.args.records) c.in_ok-carried.ensures.carried);
}
