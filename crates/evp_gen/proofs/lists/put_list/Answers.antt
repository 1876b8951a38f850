use Rattle.std.proofs.Common.{sym, ap, arith}
use Rattle.evp_format.specs.Packing.{Pieces, put_pieces}
use Rattle.evp_gen.proofs.Packed.{listed_some}
use Rattle.evp_gen.proofs.lists.put_list.Goals as goal

pub put_elements-requires-clause-inside : goal.put_elements-requires-clause-inside
put_elements-requires-clause-inside c =
    let listed = listed_some c.args.profile c.args.index c.args.before c.if-index-eq0.false in
    let size = ap (λ (p : Pieces). p.size) listed in
    let block = c.next_block-block.ensures in
    let inside = c.requires.inside in
    let kept = c.put_pointer-2.auto.packed in
    omega (arith, size, block, inside, kept)

pub returns : goal.returns
returns c =
    let listed = listed_some c.args.profile c.args.index c.args.before c.if-index-eq0.false in
    rw (
      c.put_elements.ensures,
      c.put_pointer-2.ensures,
      c.next_block-block.ensures,
      c.pointer_of.ensures.value,
    )
    (sym (ap (λ (p : Pieces). put_pieces p.all c.args.packed.now) listed))
