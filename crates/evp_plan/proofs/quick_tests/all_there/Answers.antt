use Rattle.std.proofs.Common.{List, ◌∷◌, [], ◌++◌, take, sym, ap, ◌∙◌, subst}
use Rattle.std.specs.List.{All}
use Rattle.std.proofs.lemmas.List.{take_more, take_all}
use Rattle.std.proofs.lemmas.List.Elements.{All-push}
use Rattle.evp_plan.specs.declared.words.Words.{Words}
use Rattle.evp_plan.specs.Quicks.{IsThere}
use Rattle.evp_plan.proofs.quick_tests.all_there.Goals as goal

pub loop-entry-preserved : goal.loop-entry-preserved
loop-entry-preserved c =
    let words = c.args.words.now in
    let k = c.loop-entry.entry-index in
    let entry = c.entry-item.result in
    let There : Words → Type 0 = IsThere c.args.at c.args.order c.args.bytes.now in
    let more = take_more words k entry c.loop-entry-test.true ∙ ap (λ (w : Words). take k words ++ w ∷ []) (sym c.entry-item.is) in
    subst (λ (ws : List Words). All There ws) (sym more)
    (All-push There (take k words) entry c.loop-entry.invariant (sym c.if-not-has_there.ensures))

pub returns : goal.returns
returns c = λ _.
    let There : Words → Type 0 = IsThere c.args.at c.args.order c.args.bytes.now in
    subst (λ (ws : List Words). All There ws) (take_all c.loop-entry.entry-index c.args.words.now c.loop-entry-test.false)
    c.loop-entry.invariant
