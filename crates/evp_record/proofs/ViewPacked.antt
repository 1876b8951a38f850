-- The law of packing: what is packed is viewed as it was.
use Rattle.std.proofs.Common.{◌≡◌, ℕ, ◌≤◌, ◌<◌, [], length, nat_lt, ap, ◌∙◌, arith}
use Rattle.std.proofs.lemmas.Bool.{le-ltb}
use Rattle.std.proofs.lemmas.List.{length-replicate}
use Rattle.std.specs.Prelude.{replicate}
use Rattle.evp_format.proofs.Trees.{laid_root}
use Rattle.evp_format.specs.Datum.{Datum, num, null, text, list, rec}
use Rattle.evp_format.specs.LaidTree.{IsLaidTree}
use Rattle.evp_format.specs.Layout.{Layout}
use Rattle.evp_format.specs.Packing.{Piece, machine_of, pack, packed_size, pieces_of}
use Rattle.evp_format.specs.Tree.{Tree, tree, root_of, length_of}
use Rattle.evp_format.specs.Typed.{IsOf}
use Rattle.evp_format.specs.Viewing.{viewed}
use Rattle.evp_format.specs.WellLaid.{IsWellLaid}
use Rattle.evp_record.proofs.Held.{Holds, held_all}
use Rattle.evp_record.proofs.Onto.{AreInside, inside-placed, length-put_pieces}
use Rattle.evp_record.proofs.Pieces.{end_of, Within, Each, each_map}
use Rattle.evp_record.proofs.ReadBack.{goes_on}
use Rattle.evp_record.proofs.ViewAll.{tree_reads}
use Rattle.evp_record.proofs.PackedWhole.{placed_whole}
use Rattle.evp_record.specs.Laws.{PackedIsViewed}

-- a record type has at least one byte
some_byte : (pointer : ℕ) (nested : Tree) → IsLaidTree pointer nested → 0 < length_of nested
some_byte pointer (tree fixed branches) laid = let some = laid.0.laid.length_allowed.0 in let same = laid.0.has_length in omega
    (arith, some, same)

-- the pieces lie inside the packed record
inside_whole : (layout : Layout) (value : Datum) → IsWellLaid layout → IsOf layout value
    → AreInside (length {A = ℕ} (replicate (packed_size layout value) 0)) (pieces_of layout value).all
inside_whole layout value laid typed =
    let fixed = length_of (root_of layout) in
    let pieces = pieces_of layout value in
    let long = length-replicate {A = ℕ} pieces.size 0 in
    each_map _ (λ (piece : Piece). end_of piece ≤ length {A = ℕ} (replicate pieces.size 0)) pieces.all
    (λ piece fits. omega (arith, fits, long))
    (inside-placed (Within 0 fixed) fixed pieces (λ piece here. omega (arith, here.to)) (placed_whole layout value laid typed))

-- the packed record is as long as the packed size says
pub length-pack : (layout : Layout) (value : Datum) → IsWellLaid layout → IsOf layout value
    → length (pack layout value) ≡ packed_size layout value
length-pack layout value laid typed =
    length-put_pieces (pieces_of layout value).all (replicate (packed_size layout value) 0) (inside_whole layout value laid typed)
    ∙ length-replicate {A = ℕ} (packed_size layout value) 0

-- all pieces stand in the packed record
held_whole : (layout : Layout) (value : Datum) → IsWellLaid layout → IsOf layout value
    → Each (Holds (pack layout value)) (pieces_of layout value).all
held_whole layout value laid typed =
    held_all (pieces_of layout value).all (replicate (packed_size layout value) 0) (placed_whole layout value laid typed).apart
    (inside_whole layout value laid typed)

-- what is packed is viewed as it was
pub view-pack : PackedIsViewed
view-pack layout (rec members) laid typed small =
    let value = rec members in
    let root = root_of layout in
    let fixed = length_of root in
    let bytes = pack layout value in
    let placed = placed_whole layout value laid typed in
    let long = length-pack layout value laid typed in
    let some = some_byte layout.pointer root (laid_root layout laid) in
    let reads =
    tree_reads (machine_of layout) bytes root 0 members [] fixed fixed laid.pointer_allowed (omega (arith, long, small))
    (laid_root layout laid) typed (omega arith) some (omega arith) (omega (arith, long))
    (held_whole layout value laid typed) in
    ap viewed (goes_on (nat_lt (length bytes) fixed) _ _ (le-ltb (length bytes) fixed (omega (arith, long, placed.grows))) ∙ reads.1)
view-pack layout (num n) laid typed small = absurd typed
view-pack layout null laid typed small = absurd typed
view-pack layout (text bytes) laid typed small = absurd typed
view-pack layout (list elements) laid typed small = absurd typed
