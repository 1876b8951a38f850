use Rattle.std.proofs.Common.{◌+◌, ◌-◌, ◌≤◌, List, [], length, ap, sym, ◌∙◌, subst, arith}
use Rattle.std.specs.Prelude.{IsOk}
use Rattle.evp_format.specs.declared.record_type.RecordType.{RecordType}
use Rattle.evp_format.specs.Tree.{root_of, length_of, tree_of}
use Rattle.evp_format.specs.Viewing.{view, view_tree, image_of}
use Rattle.evp_record.specs.Record.{Record}
use Rattle.evp_format.proofs.LaidBases.{root_length}
use Rattle.evp_record.proofs.Viewed.{view-walked, root_mark, viewed-marked, viewed-unmarked}
use Rattle.evp_record.proofs.record.walked_whole.Goals as goal
use Rattle.evp_record.proofs.record.walked_whole.Goals.{Else-is_none}

pub record-end-requires-clause-inside : goal.record-end-requires-clause-inside
record-end-requires-clause-inside c =
    let layout = c.args.format.now in
    let Inside : Record → Type 0 = λ held. 0 + length_of (tree_of held.layout (length c.types.result.now - 1)) ≤ length held.bytes in
    let last = ap (λ (types : List RecordType). length_of (tree_of layout (length types - 1))) c.types.ensures.value in
    subst Inside (sym c.new.ensures) (omega (arith, last, c.requires.whole))

pub record-end-requires-clause-mark_in : goal.record-end-requires-clause-mark_in
record-end-requires-clause-mark_in c =
    let long = root_length c.args.format.now c.root.result.now c.root.ensures.laid c.root.ensures.value in
    let Whole : Record → Type 0 = λ held. c.root.result.now.length ≤ length held.bytes in
    subst Whole (sym c.new.ensures) (omega (arith, long, c.requires.whole))

pub first_fault-requires-clause-broken : goal.first_fault-requires-clause-broken
first_fault-requires-clause-broken c =
    let layout = c.args.format.now in
    let bytes = c.args.bytes.now in
    let mark = root_mark layout bytes c.new.result c.types.result.now c.root.result.now c.root.ensures.laid c.new.ensures
    c.types.ensures.value c.root.ensures.value in
    rw (view-walked layout bytes c.requires.whole)
    (viewed-unmarked (view_tree (image_of layout bytes) (root_of layout) 0 [] (length_of (root_of layout))) c.record-end.result
    (c.record-end.ensures.value ∙ mark) c.if-is_none.ensures)

has_view : (c : Else-is_none) → IsOk (view c.args.format.now c.args.bytes.now)
has_view c =
    let layout = c.args.format.now in
    let bytes = c.args.bytes.now in
    let mark = root_mark layout bytes c.new.result c.types.result.now c.root.result.now c.root.ensures.laid c.new.ensures
    c.types.ensures.value c.root.ensures.value in
    rw (view-walked layout bytes c.requires.whole)
    (viewed-marked (view_tree (image_of layout bytes) (root_of layout) 0 [] (length_of (root_of layout))) c.record-end.result
    (c.record-end.ensures.value ∙ mark) c.if-is_none.ensures)

pub invariant_of-result : goal.invariant_of-result
invariant_of-result c = record { short = c.requires.short; viewed = has_view c }

pub returns-clause-viewed : goal.returns-clause-viewed
returns-clause-viewed c = has_view c
