-- The generator's document states its job, and nothing else.
use Rattle.std.proofs.Common.{◌≡◌, ℕ, ◌≤◌, codes, Result, Ok, Err, refl, ap, subst, sym, arith}
use Rattle.evp_base.specs.declared.step.Step.TheVariants.{Field}
use Rattle.evp_expr.specs.Laws.{OneTree, TreeOrFault}
use Rattle.evp_gen.specs.Document.{job_value}
use Rattle.evp_graph.proofs.Faults.{RulesOut-from_fault}
use Rattle.evp_job.specs.declared.fault.JobFault.{JobFault}
use Rattle.evp_job.specs.declared.fault.JobFault.TheVariants as fault
use Rattle.evp_job.specs.Expressions.{Reading}
use Rattle.evp_job.specs.Forms.{whole_number, number_within, object_in, no_others}
use Rattle.evp_job.specs.Head.{HeadShape, head_with, head_in}
use Rattle.evp_job.specs.Job.{PartsShape, parts_with, parts_in, IsRouted, IsMadeOf}
use Rattle.evp_job.specs.TextShape.{TextShape}
use Rattle.evp_stones.specs.BenchJob.{bench_graph, bench_job, bench_rounds, bench_sources, bench_stones}
use Rattle.evp_stones.specs.BenchLaws.{StatesBenchJob}
use Rattle.evp_stones.proofs.BenchFormats.{formats_there, sources_there}
use Rattle.evp_stones.proofs.BenchGraph.{graph_sound, routes_counted}
use Rattle.evp_stones.proofs.BenchRounds.{rounds_there}
use Rattle.evp_stones.proofs.BenchSteps.{then_is, under_is}
use Rattle.evp_stones.proofs.BenchStones.{bench_named, stones_there}

abbrev bench_head : HeadShape
bench_head = head_with 256 16 bench_named bench_sources

abbrev bench_parts : ℕ → PartsShape
bench_parts n = parts_with bench_head bench_stones (bench_rounds n)

head_there : (n : ℕ) → head_in (job_value n) ≡ Ok bench_head
unfolding whole_number number_within object_in head_in
head_there n =
    then_is _ (under_is (Field (codes "formats")) formats_there) (then_is _ (under_is (Field (codes "sources")) sources_there) refl)

parts_there : OneTree → TreeOrFault → (reading : Reading) (n : ℕ) → n ≤ 20000 → parts_in reading (job_value n) ≡ Ok (bench_parts n)
unfolding no_others parts_in
parts_there one no_fault reading n few =
    then_is _ (head_there n) (then_is _ (under_is (Field (codes "stones")) (stones_there one no_fault reading))
    (then_is _ (under_is (Field (codes "rounds")) (rounds_there n few)) refl))

-- ---- the graph is sound and its routes are few, so nothing is refused

few_routes : (count : ℕ) → count ≡ 56 → count ≤ 1024
few_routes count is = omega (arith, is)

pub routed_only : (n : ℕ) (answer : Result TextShape JobFault) → IsRouted (bench_parts n) answer → answer ≡ Ok (bench_job n)
routed_only n (Ok text) routed = ap Ok routed.2
routed_only n (Err (fault.Graph cause)) routed = absurd (RulesOut-from_fault bench_graph cause routed.1 routed.0 graph_sound)
routed_only n (Err fault.Routes) routed = let many = routed.1 in let count = routes_counted in absurd (omega (arith, many, count))
routed_only n (Err (fault.Member path)) routed = absurd routed
routed_only n (Err (fault.Layout format cause)) routed = absurd routed
routed_only n (Err (fault.UnknownFormat path)) routed = absurd routed
routed_only n (Err (fault.Expr stone k cause)) routed = absurd routed
routed_only n (Err (fault.Bind stone k cause)) routed = absurd routed
routed_only n (Err (fault.SetTarget stone k)) routed = absurd routed
routed_only n (Err (fault.Submit source asked held)) routed = absurd routed
routed_only n (Err (fault.Carriage carried limit)) routed = absurd routed
routed_only n (Err (fault.Limit path number)) routed = absurd routed
routed_only n (Err (fault.RecordLength format)) routed = absurd routed
routed_only n (Err (fault.Twice path)) routed = absurd routed
routed_only n (Err fault.Memory) routed = absurd routed

-- ---- the whole

pub states_bench : OneTree → TreeOrFault → Reading → (n : ℕ) → n ≤ 20000 → StatesBenchJob n
states_bench one no_fault reading n few = record {
  states = (
    reading,
    subst (λ (r : Result PartsShape JobFault). IsMadeOf r (Ok (bench_job n))) (sym (parts_there one no_fault reading n few))
        (graph_sound, few_routes _ routes_counted, refl),
  );
  alone = λ answer stated. routed_only n answer
      (subst (λ (r : Result PartsShape JobFault). IsMadeOf r answer) (parts_there one no_fault stated.0 n few) stated.1);
}
