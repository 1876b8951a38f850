use Rattle.std.proofs.Common.{◌∙◌, sym, arith}
use Rattle.std.specs.declared.borrow.CowSlice.TheVariants.{Borrowed, Owned}
use Rattle.evp_format.proofs.Descriptions.{bytes_are}
use Rattle.evp_runner.proofs.Passes.{passed_own, passed_packed, typed_by}
use Rattle.evp_runner.proofs.passing.handed_on.Goals as goal

pub returns-then-alike : goal.returns-then-alike
returns-then-alike c =
    let known =
    typed_by c.args.item c.args.bytes.now c.format.result.now (bytes_are c.args.bytes.now (λ k. omega (arith, c.type_inv.bytes k)))
    c.requires.own c.format.ensures.kept c.format.ensures.value c.types-types.ensures.laid in
    passed_own c.args.plan.now c.args.item c.args.size (Borrowed c.args.bytes) tt c.requires.own (sym c.alike.ensures ∙ c.if-alike.true)
    known

pub returns : goal.returns
returns c =
    let known =
    typed_by c.args.item c.args.bytes.now c.format.result.now (bytes_are c.args.bytes.now (λ k. omega (arith, c.type_inv.bytes k)))
    c.requires.own c.format.ensures.kept c.format.ensures.value c.types-types.ensures.laid in
    passed_packed c.args.plan.now c.args.item c.args.size (Owned c.in_ok-packed_apart.field-0) tt
    (sym c.alike.ensures ∙ c.if-alike.false) known c.in_ok-packed_apart.ensures
