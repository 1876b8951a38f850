use Rattle.std.proofs.Common.{sym, subst}
use Rattle.std.specs.Prelude.{IfSome}
use Rattle.evp_plan.specs.declared.block.Block.{Block}
use Rattle.evp_runner.specs.Sizing.{image_by_eight, IsBlockInside, EndsAt}
use Rattle.evp_runner.proofs.BlockEnds.{some_array}
use Rattle.evp_runner.proofs.sizing.size_of_block.Goals as goal

pub size_of_text-requires-clause-inside : goal.size_of_text-requires-clause-inside
size_of_text-requires-clause-inside c = subst (IsBlockInside c.args.bytes.now) c.in-Text.is c.requires.inside

pub size_of_array-requires-clause-inside : goal.size_of_array-requires-clause-inside
size_of_array-requires-clause-inside c = subst (IsBlockInside c.args.bytes.now) c.in-Array.is c.requires.inside

pub returns-in-Text-clause-ends : goal.returns-in-Text-clause-ends
returns-in-Text-clause-ends c =
    let Ends : Block → Type 0 = λ block. IfSome c.size_of_text.result
    (λ end. EndsAt (image_by_eight c.args.order c.args.bytes.now) block c.args.size end) in
    subst Ends (sym c.in-Text.is) c.size_of_text.ensures.ends

pub returns-in-Array-clause-ends : goal.returns-in-Array-clause-ends
returns-in-Array-clause-ends c =
    let Ends : Block → Type 0 = λ block. IfSome c.size_of_array.result
    (λ end. EndsAt (image_by_eight c.args.order c.args.bytes.now) block c.args.size end) in
    subst Ends (sym c.in-Array.is)
    (some_array (image_by_eight c.args.order c.args.bytes.now) c.in-Array.array c.args.size c.size_of_array.result
    c.size_of_array.ensures.few c.size_of_array.ensures.ends)
