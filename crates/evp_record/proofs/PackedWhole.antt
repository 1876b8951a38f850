-- A packed record as a whole: the pieces on zeros.
use Rattle.std.proofs.Common.{◌≡◌, ℕ, ◌+◌, ◌-◌, List, [], ◌++◌, length, get_or, Some, sym, ap, ◌∙◌, subst, arith}
use Rattle.std.proofs.lemmas.List.{length-replicate, replicate-append-replicate}
use Rattle.std.specs.Prelude.{replicate, slice_get}
use Rattle.evp_format.proofs.Lists.{found_at}
use Rattle.evp_format.proofs.Trees.{laid_root}
use Rattle.evp_format.specs.Converting.{entries_of}
use Rattle.evp_format.specs.Datum.{Datum, num, null, text, list, rec}
use Rattle.evp_format.specs.declared.record_type.RecordType.{RecordType}
use Rattle.evp_format.specs.Layout.{Layout}
use Rattle.evp_format.specs.Packing.{machine_of, pack, pieces_of, pack_tree, put_pieces}
use Rattle.evp_format.specs.Tree.{tree_of, root_of, length_of}
use Rattle.evp_format.specs.Typed.{IsOf, IsOfTree}
use Rattle.evp_format.specs.WellLaid.{IsWellLaid}
use Rattle.evp_record.proofs.Pieces.{Within, IsPlaced}
use Rattle.evp_record.proofs.Placed.{placed_tree}
use Rattle.evp_record.specs.Onto.{onto, grown}
use Rattle.evp_format.proofs.LaidBases.{root_length}

-- a value of the format is a record of its last type
pub of_root : (layout : Layout) (datum : Datum) → IsOf layout datum → IsOfTree (root_of layout) (entries_of (Some datum))
of_root layout (rec members) typed = typed
of_root layout (num z) typed = absurd typed
of_root layout null typed = absurd typed
of_root layout (text bytes) typed = absurd typed
of_root layout (list elements) typed = absurd typed

-- the pieces of a record's value lie in its fixed part or in blocks behind it
pub placed_whole : (layout : Layout) (datum : Datum) → IsWellLaid layout → IsOf layout datum
    → IsPlaced (Within 0 (length_of (root_of layout))) (length_of (root_of layout)) (pieces_of layout datum)
placed_whole layout datum laid typed =
    placed_tree (machine_of layout) (root_of layout) 0 (entries_of (Some datum)) (length_of (root_of layout)) (laid_root layout laid)
    (of_root layout datum typed) (omega arith)

-- zeros as long as the fixed part
pub begun : (size : ℕ) → grown [] size ≡ replicate size 0
begun size = let none : size - 0 ≡ size = omega arith in ap (λ (n : ℕ). replicate n 0) none

-- the pieces put on the zeros of the fixed part are the packed record
pub packed_whole : (layout : Layout) (datum : Datum) (begin out : List ℕ) → IsWellLaid layout → IsOf layout datum
    → begin ≡ replicate (length_of (root_of layout)) 0
    → out ≡ onto begin (pack_tree (machine_of layout) (root_of layout) 0 (entries_of (Some datum)) (length begin)) → out ≡ pack layout datum
packed_whole layout datum begin out laid typed zeros packs =
    let fixed = length_of (root_of layout) in
    let pieces = pieces_of layout datum in
    let placed = placed_whole layout datum laid typed in
    let long : length (replicate fixed 0) ≡ fixed = length-replicate {A = ℕ} fixed 0 in
    let count : fixed + (pieces.size - fixed) ≡ pieces.size = omega (arith, placed.grows) in
    packs ∙ ap (λ (b : List ℕ). onto b (pack_tree (machine_of layout) (root_of layout) 0 (entries_of (Some datum)) (length b))) zeros
    ∙ ap (λ (n : ℕ). onto (replicate fixed 0) (pack_tree (machine_of layout) (root_of layout) 0 (entries_of (Some datum)) n)) long
    ∙ ap (λ (n : ℕ). put_pieces pieces.all (replicate fixed 0 ++ replicate (pieces.size - n) 0)) long
    ∙ ap (put_pieces pieces.all) (replicate-append-replicate fixed (pieces.size - fixed) 0 ∙ ap (λ (n : ℕ). replicate n 0) count)

-- the zeros that a record begins with, made for the last of these types
pub whole_begins : (layout : Layout) (types : List RecordType) (last : RecordType) (new begin : List ℕ) → IsWellLaid layout
    → types ≡ layout.types → last ≡ get_or types (length types - 1) last → new ≡ []
    → begin ≡ grown new (get_or types (length types - 1) last).length → (begin ≡ replicate (length_of (root_of layout)) 0)
    × (tree_of layout (length types - 1) ≡ root_of layout)
whole_begins layout types last new begin laid same is none zeros =
    let count : length types - 1 ≡ length layout.types - 1 = ap (λ (ts : List RecordType). length ts - 1) same in
    let long = ap (λ (ts : List RecordType). length ts) same in
    let some = laid.types_allowed.0 in
    let Found : ℕ → Type 0 = λ n. slice_get layout.types n ≡ Some last in
    let found = subst Found count (found_at types layout.types (length types - 1) last same (omega (arith, long, some)) is) in
    let fixed : (get_or types (length types - 1) last).length ≡ length_of (root_of layout) = ap (λ (t : RecordType). t.length) (sym is)
    ∙ sym (root_length layout last laid found) in (
      zeros ∙ ap (λ (b : List ℕ). grown b (get_or types (length types - 1) last).length) none
          ∙ begun (get_or types (length types - 1) last).length ∙ ap (λ (n : ℕ). replicate n 0) fixed,
      ap (tree_of layout) count,
    )
