use Rattle.std.proofs.Common.{[], ap, ◌∙◌, arith}
use Rattle.evp_format.specs.Tree.{root_of, length_of}
use Rattle.evp_format.specs.Viewing.{view, view_tree, image_of}
use Rattle.evp_record.specs.Marks.{marked}
use Rattle.evp_format.proofs.LaidBases.{root_length}
use Rattle.evp_record.proofs.Viewed.{one_outcome, viewed-broken, viewed-read, view-walked, root_walk}
use Rattle.evp_record.proofs.record.first_fault.Goals as goal

pub record-requires-clause-mark_in : goal.record-requires-clause-mark_in
record-requires-clause-mark_in c =
    let long = root_length c.args.format.now c.root.result.now c.root.ensures.laid c.root.ensures.value in
    omega (arith, long)

pub unreachable-requires : goal.unreachable-requires
unreachable-requires c =
    let layout = c.args.format.now in
    let bytes = c.args.bytes.now in
    let walk = root_walk layout bytes c.types.result.now c.root.result.now c.root-2.result c.root.ensures.laid c.types.ensures.value
    c.root.ensures.value c.root-2.ensures in
    let whole = view_tree (image_of layout bytes) (root_of layout) 0 [] (length_of (root_of layout)) in
    one_outcome (view layout bytes)
    (rw (view-walked layout bytes c.requires.whole) (viewed-read whole c.in-Ok.field-0 (c.in-Ok.ensures.value ∙ ap marked walk)))
    c.requires.broken

pub returns : goal.returns
returns c =
    let layout = c.args.format.now in
    let bytes = c.args.bytes.now in
    let walk = root_walk layout bytes c.types.result.now c.root.result.now c.root-2.result c.root.ensures.laid c.types.ensures.value
    c.root.ensures.value c.root-2.ensures in
    view-walked layout bytes c.requires.whole
    ∙ viewed-broken (view_tree (image_of layout bytes) (root_of layout) 0 [] (length_of (root_of layout))) c.in-Err.fault
    (c.in-Err.ensures.value ∙ ap marked walk)
