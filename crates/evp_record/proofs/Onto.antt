-- Pieces put on bytes: lengths stay, and what is put behind other pieces may be put on their result.
use Rattle.std.proofs.Common.{◌≡◌, ℕ, ◌+◌, ◌-◌, ◌≤◌, List, [], ◌∷◌, ◌++◌, length, take, drop, ◌⊎◌, inl, inr, refl, sym, ap, ◌∙◌, arith}
use Rattle.std.proofs.Common.{append_assoc, length-append, length-drop}
use Rattle.std.proofs.lemmas.List.{append-nil, length-take-le, length-replicate, replicate-append-replicate, take-append-le, drop-append-le}
use Rattle.std.specs.Prelude.{replicate}
use Rattle.evp_format.specs.Bytes.{put_at}
use Rattle.evp_format.specs.Packing.{Piece, Pieces, put_pieces}
use Rattle.evp_record.proofs.Pieces.{end_of, InBlocks, Each, each_map, IsPlaced, IsBelow}
use Rattle.evp_record.specs.Onto.{grown, onto}

pub length-put_at : (at : ℕ) (new bytes : List ℕ) → at + length new ≤ length bytes → length (put_at at new bytes) ≡ length bytes
length-put_at at new bytes fits =
    let before = length-take-le at bytes (omega (arith, fits)) in
    let front = length-append (take at bytes) new in
    let whole = length-append (take at bytes ++ new) (drop (at + length new) bytes) in
    let behind = length-drop (at + length new) bytes in
    omega (arith, before, front, whole, behind, fits)

put_at-append : (at : ℕ) (new bytes more : List ℕ) → at + length new ≤ length bytes
    → put_at at new (bytes ++ more) ≡ put_at at new bytes ++ more
put_at-append at new bytes more fits =
    let before : at ≤ length bytes = omega (arith, fits) in
    ap (λ (front : List ℕ). (front ++ new) ++ drop (at + length new) (bytes ++ more)) (take-append-le at bytes more before)
    ∙ ap (λ (back : List ℕ). (take at bytes ++ new) ++ back) (drop-append-le (at + length new) bytes more fits)
    ∙ sym (append_assoc (take at bytes ++ new) (drop (at + length new) bytes) more)

-- each piece ends inside this many bytes
abbrev pub AreInside : ℕ → List Piece → Type 0
AreInside size pieces = Each (λ (piece : Piece). end_of piece ≤ size) pieces

pub length-put_pieces : (pieces : List Piece) (bytes : List ℕ) → AreInside (length bytes) pieces
    → length (put_pieces pieces bytes) ≡ length bytes
length-put_pieces [] bytes inside = refl
length-put_pieces (piece ∷ pieces) bytes inside =
    let kept = length-put_at piece.at piece.bytes bytes inside.0 in
    length-put_pieces pieces (put_at piece.at piece.bytes bytes) (each_map _ _ pieces (λ other fits. omega (arith, fits, kept)) inside.1)
    ∙ kept

put_pieces-append_bytes : (pieces : List Piece) (bytes more : List ℕ) → AreInside (length bytes) pieces
    → put_pieces pieces (bytes ++ more) ≡ put_pieces pieces bytes ++ more
put_pieces-append_bytes [] bytes more inside = refl
put_pieces-append_bytes (piece ∷ pieces) bytes more inside =
    let kept = length-put_at piece.at piece.bytes bytes inside.0 in
    ap (put_pieces pieces) (put_at-append piece.at piece.bytes bytes more inside.0)
    ∙ put_pieces-append_bytes pieces (put_at piece.at piece.bytes bytes) more
    (each_map _ _ pieces (λ other fits. omega (arith, fits, kept)) inside.1)

put_pieces-append : (first rest : List Piece) (bytes : List ℕ) → put_pieces (first ++ rest) bytes ≡ put_pieces rest (put_pieces first bytes)
put_pieces-append [] rest bytes = refl
put_pieces-append (piece ∷ first) rest bytes = put_pieces-append first rest (put_at piece.at piece.bytes bytes)

pub length-grown : (bytes : List ℕ) (size : ℕ) → length bytes ≤ size → length (grown bytes size) ≡ size
length-grown bytes size fits =
    let whole = length-append bytes (replicate (size - length bytes) 0) in
    let zeros = length-replicate {A = ℕ} (size - length bytes) 0 in
    omega (arith, whole, zeros, fits)

-- zeros in two goes
grown-grown : (bytes : List ℕ) (middle size : ℕ) → length bytes ≤ middle → middle ≤ size
    → grown bytes middle ++ replicate (size - middle) 0 ≡ grown bytes size
grown-grown bytes middle size first second =
    let count : (middle - length bytes) + (size - middle) ≡ size - length bytes = omega (arith, first, second) in
    append_assoc bytes (replicate (middle - length bytes) 0) (replicate (size - middle) 0)
    ∙ ap (λ (zeros : List ℕ). bytes ++ zeros) (replicate-append-replicate (middle - length bytes) (size - middle) 0
    ∙ ap (λ (n : ℕ). replicate n 0) count)

pub inside-placed : (R : Piece → Type 0) (size : ℕ) (pieces : Pieces) → IsBelow R size → IsPlaced R size pieces
    → AreInside pieces.size pieces.all
inside-placed R size pieces low placed =
    let ends : (piece : Piece) → R piece ⊎ InBlocks size pieces.size piece → end_of piece ≤ pieces.size =
    λ piece at. elim at [ inl here ↦ (let below = low piece here in omega (arith, below, placed.grows)) | inr block ↦ block.to ] in
    each_map _ _ pieces.all ends placed.each

pub length-onto : (R : Piece → Type 0) (bytes : List ℕ) (pieces : Pieces) → IsBelow R (length bytes) → IsPlaced R (length bytes) pieces
    → length (onto bytes pieces) ≡ pieces.size
length-onto R bytes pieces low placed =
    let grew = length-grown bytes pieces.size placed.grows in
    let inside = each_map _ (λ (piece : Piece). end_of piece ≤ length (grown bytes pieces.size)) pieces.all
    (λ piece fits. omega (arith, fits, grew)) (inside-placed R (length bytes) pieces low placed) in
    length-put_pieces pieces.all (grown bytes pieces.size) inside ∙ grew

-- pieces behind others
pub onto-then : (R : Piece → Type 0) (bytes : List ℕ) (first rest : Pieces) → IsBelow R (length bytes) → IsPlaced R (length bytes) first
    → first.size ≤ rest.size
    → onto bytes (record { all = first.all ++ rest.all; size = rest.size }) ≡ onto (onto bytes first) rest
onto-then R bytes first rest low placed grows =
    let grew = length-grown bytes first.size placed.grows in
    let inside = each_map _ (λ (piece : Piece). end_of piece ≤ length (grown bytes first.size)) first.all
    (λ piece fits. omega (arith, fits, grew)) (inside-placed R (length bytes) first low placed) in
    let long = length-onto R bytes first low placed in
    put_pieces-append first.all rest.all (grown bytes rest.size)
    ∙ ap (λ (b : List ℕ). put_pieces rest.all (put_pieces first.all b)) (sym (grown-grown bytes first.size rest.size placed.grows grows))
    ∙ ap (put_pieces rest.all) (put_pieces-append_bytes first.all (grown bytes first.size) (replicate (rest.size - first.size) 0) inside)
    ∙ ap (λ (n : ℕ). put_pieces rest.all (onto bytes first ++ replicate (rest.size - n) 0)) (sym long)

-- no piece, and no block
pub onto-none : (bytes : List ℕ) → onto bytes (record { all = []; size = length bytes }) ≡ bytes
onto-none bytes =
    let none : length bytes - length bytes ≡ 0 = omega arith in
    ap (λ (n : ℕ). bytes ++ replicate n 0) none ∙ append-nil bytes
