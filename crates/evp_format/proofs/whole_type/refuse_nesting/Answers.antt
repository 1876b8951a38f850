use Rattle.std.proofs.Common.{◌≡◌, false, Bool, List, ℕ, cond, Result, Ok, Err, sym, ap, ◌∙◌, arith}
use Rattle.std.specs.Prelude.{nat_le}
use Rattle.std.proofs.lemmas.Bool.{le-leb}
use Rattle.std.proofs.lemmas.Bool.Decides.{nat_tests}
use Rattle.evp_format.specs.declared.field.Field.{Field}
use Rattle.evp_format.specs.declared.layout_fault.LayoutFault.{LayoutFault}
use Rattle.evp_format.specs.declared.layout_fault.LayoutFault.TheVariants.{Limit}
use Rattle.evp_format.specs.declared.layout_fault.Which.TheVariants.{Nesting}
use Rattle.evp_format.specs.declared.record_type.RecordType.{RecordType}
use Rattle.evp_format.specs.Drafts.{depth_behind, within_nesting}
use Rattle.evp_format.specs.Tree.{trees, tree, branches_of}
use Rattle.evp_format.specs.WellLaid.{depth}
use Rattle.evp_format.proofs.whole_type.refuse_nesting.Goals as goal

pub returns-then-depth-le16 : goal.returns-then-depth-le16
unfolding within_nesting
returns-then-depth-le16 c =
    let type = c.args.record_type.now in
    let earlier = trees c.args.earlier.now in
    let deep : c.depth_behind-depth.result ≡ depth_behind c.args.earlier.now type =
    c.depth_behind-depth.ensures.value earlier type.length c.requires.nested
    ∙ ap (λ (fields : List Field). depth (tree type.length (branches_of earlier fields))) c.as_slice.ensures in
    let shallow = c.if-depth-le16.true in
    let fault : Result RecordType LayoutFault = Err (Limit Nesting (depth_behind c.args.earlier.now type)) in
    ap (λ (b : Bool). cond b (Ok type) fault) (le-leb (depth_behind c.args.earlier.now type) 16 (omega (arith, deep, shallow)))

pub returns-else-depth-le16 : goal.returns-else-depth-le16
unfolding within_nesting
returns-else-depth-le16 c =
    let type = c.args.record_type.now in
    let earlier = trees c.args.earlier.now in
    let deep : c.depth_behind-depth.result ≡ depth_behind c.args.earlier.now type =
    c.depth_behind-depth.ensures.value earlier type.length c.requires.nested
    ∙ ap (λ (fields : List Field). depth (tree type.length (branches_of earlier fields))) c.as_slice.ensures in
    let too_deep = c.if-depth-le16.false in
    let over : nat_le c.depth_behind-depth.result 16 ≡ false = grind (arith, nat_tests, too_deep) in
    let answer : ℕ → Result RecordType LayoutFault = λ n. Err (Limit Nesting n) in
    ap (λ (b : Bool). cond b (Ok type) (answer (depth_behind c.args.earlier.now type))) (ap (λ (n : ℕ). nat_le n 16) (sym deep) ∙ over)
    ∙ ap answer (sym deep ∙ sym c.from.ensures)
