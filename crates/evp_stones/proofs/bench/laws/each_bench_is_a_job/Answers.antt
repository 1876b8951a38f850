use Rattle.evp_job.proofs.PartsKept.{reading_of}
use Rattle.evp_stones.proofs.BenchFiles.{fills_bench}
use Rattle.evp_stones.proofs.BenchParts.{states_bench}
use Rattle.evp_stones.proofs.bench.laws.each_bench_is_a_job.Goals as goal

pub returns : goal.returns
returns c = λ n few. (
  states_bench c.one_tree.ensures c.tree_or_fault.ensures (reading_of c.each_text_is_answered.ensures) n few,
  fills_bench n few,
)
