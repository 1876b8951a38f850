use Rattle.std.proofs.Common.{◌≡◌, ◌∙◌, ap, ℕ, List, length, IfSome, subst}
use Rattle.evp_base.specs.declared.order.Order.{Order}
use Rattle.evp_format.specs.Tree.{root_of, length_of}
use Rattle.evp_plan.specs.declared.step.Step.{Step}
use Rattle.evp_plan.specs.Cells.{AreMovesOf, IsWholeOf}
use Rattle.evp_plan.specs.Planned.{Planned}
use Rattle.evp_plan.specs.Program.{programs, last_steps}
use Rattle.evp_plan.specs.Quiet.{tests_in}
use Rattle.evp_plan.proofs.LaidSteps.{plan_laid, last_tests}
use Rattle.evp_plan.proofs.Tables.{root_length}
use Rattle.evp_plan.proofs.plan.Plan.new.Goals as goal

pub returns : goal.returns
returns c =
    let from = c.args.from.now in
    let to = c.args.to.now in
    let sent = c.root.result.now in
    let root = c.root-2.result.now in
    let with_parts : Order → ℕ → ℕ → Order → ℕ → ℕ → Planned = λ sent_order sent_pointer room order pointer fixed. record {
      sender = record { order = sent_order; pointer = sent_pointer };
      room = room;
      order = order;
      pointer = pointer;
      fixed = fixed;
      table = c.args.table.items;
      alike = c.args.alike;
    } in
    ap (λ (o : Order). with_parts o c.pointer-2.result sent.length c.order-order.result c.pointer.result root.length) c.order-sender.ensures
    ∙ ap (λ (p : ℕ). with_parts from.order p sent.length c.order-order.result c.pointer.result root.length) c.pointer-2.ensures
    ∙ ap (λ (n : ℕ). with_parts from.order from.pointer n c.order-order.result c.pointer.result root.length)
    (root_length from sent c.root.ensures.laid c.root.ensures.value)
    ∙ ap (λ (o : Order). with_parts from.order from.pointer (length_of (root_of from)) o c.pointer.result root.length) c.order-order.ensures
    ∙ ap (λ (p : ℕ). with_parts from.order from.pointer (length_of (root_of from)) to.order p root.length) c.pointer.ensures
    ∙ ap (λ (n : ℕ). with_parts from.order from.pointer (length_of (root_of from)) to.order to.pointer n)
    (root_length to root c.root-2.ensures.laid c.root-2.ensures.value)

pub invariant_of-result : goal.invariant_of-result
invariant_of-result c =
    let from = c.args.from.now in
    let to = c.args.to.now in
    let table = c.args.table.items in
    let sent = c.root.result.now in
    let root = c.root-2.result.now in
    let sender = c.order-sender.result in
    let last = c.last_list-last.ensures ∙ ap last_steps c.as_slice.ensures.value in
    let tests = c.in_ok-tests.ensures ∙ ap tests_in c.as_slice-3.ensures.value in
    let tested = c.last_list-2.ensures ∙ ap last_steps (c.as_slice-5.ensures.value ∙ tests) ∙ last_tests table in
    let Whole : List Step → Type 0 = λ steps. IfSome c.in_ok-whole.whole (λ moves. IsWholeOf sender c.order-order.result steps moves
    × (length moves.cells ≡ root.length)) in
    let Moving : List (List Step) → Type 0 = λ lists. AreMovesOf sender c.order-order.result lists c.in_ok-moves.moves.items in (
      c.requires.ordered,
      (
        c.requires.some,
        (
          subst Moving c.as_slice-2.ensures.value c.in_ok-moves.ensures,
          (
            subst Whole last c.in_ok-whole.ensures,
            (
              tests,
              (
                c.in_ok-quick.ensures ∙ c.last_list.ensures ∙ ap last_steps c.as_slice-4.ensures.value,
                (
                  plan_laid c.in_ok-laid.laid from.order sender to.order c.order-order.result c.last_list-last.result.now
                      (last_steps table) c.last_list-2.result.now (programs table) (length_of (root_of from)) sent.length
                      (length_of (root_of to)) root.length from.pointer c.pointer-2.result to.pointer c.pointer.result
                      c.in_ok-laid.ensures c.order-sender.ensures c.order-order.ensures last tested
                      (root_length from sent c.root.ensures.laid c.root.ensures.value)
                      (root_length to root c.root-2.ensures.laid c.root-2.ensures.value) c.pointer-2.ensures c.pointer.ensures,
                  c.in_ok-told.ensures,
                ),
              ),
            ),
          ),
        ),
      ),
    )
