use Rattle.std.proofs.Common.{◌≡◌, List, ℕ, subst, sym, ◌∙◌}
use Rattle.evp_graph.specs.Shape.{shape, IsSound, IsCycle, IsAcyclic}
use Rattle.evp_graph.specs.declared.fault.GraphFault.TheVariants.{Cycle}
use Rattle.evp_graph.proofs.Faults.{RulesOut-from_fault}
use Rattle.evp_graph.proofs.graph.Graph.new.Goals as goal

pub returns-in-Some-clause-unsound : goal.returns-in-Some-clause-unsound
returns-in-Some-clause-unsound c =
    let cycle : IsCycle c.args.targets.now c.in-Some.cycle = rw c.in-Some.is at c.in_ok-cycle.ensures.cycle in
    RulesOut-from_fault (shape c.args.sources.now c.args.targets.now) (Cycle c.in-Some.cycle)
    (c.in_ok-check.ensures.sources, c.in_ok-check.ensures.targets, cycle)

pub invariant_of-result : goal.invariant_of-result
invariant_of-result c =
    let acyclic : IsAcyclic c.args.targets.now = rw c.in_default.is at c.in_ok-cycle.ensures.none in
    let sound : IsSound (shape c.args.sources.now c.args.targets.now) = record {
      sources = c.in_ok-check.ensures.sources;
      targets = c.in_ok-check.ensures.targets;
      acyclic = acyclic;
    } in
    let sources : c.new-sources.result ≡ c.args.sources.now = c.new-sources.ensures ∙ c.in_ok-from_slice.ensures.items in
    let S : List ℕ → Type 0 = λ l. IsSound (shape l c.args.targets.now) in
    let T : List (List ℕ) → Type 0 = λ l. IsSound (shape c.new-sources.result l) in
    subst T (sym c.in_ok-targets.ensures) (subst S (sym sources) sound)
