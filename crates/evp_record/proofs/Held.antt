-- Pieces that lie apart all stand in the bytes on which they are put.
use Rattle.std.proofs.Common.{◌≡◌, ℕ, ◌+◌, ◌≤◌, List, [], ◌∷◌, ◌++◌, length, take, drop, inl, inr, sym, ap, ◌∙◌, arith, append_assoc}
use Rattle.std.proofs.Common.{length-append, take-append-drop}
use Rattle.std.proofs.Math.Seq.{drop-append_seam, take-append_seam}
use Rattle.std.proofs.lemmas.List.{drop-take, take-append-le, length-take-le}
use Rattle.std.proofs.lemmas.Slice.{drop-append-drop}
use Rattle.evp_format.specs.Bytes.{bytes_at, put_at}
use Rattle.evp_format.specs.Packing.{Piece, put_pieces}
use Rattle.evp_record.proofs.Onto.{AreInside, length-put_at}
use Rattle.evp_record.proofs.Pieces.{end_of, ApartFrom, Each, AreApart, each_map}

-- the piece stands at its place
abbrev pub Holds : List ℕ → Piece → Type 0
Holds bytes piece = bytes_at piece.at (length piece.bytes) bytes ≡ piece.bytes

-- what was put there stands there
bytes_at-put_at : (at : ℕ) (new bytes : List ℕ) → at + length new ≤ length bytes → bytes_at at (length new) (put_at at new bytes) ≡ new
bytes_at-put_at at new bytes fits =
    let front = take at bytes in
    let back = drop (at + length new) bytes in
    let count : length front ≡ at = length-take-le at bytes (omega (arith, fits)) in
    ap (λ (b : List ℕ). take (length new) (drop at b)) (append_assoc front new back)
    ∙ ap (λ (n : ℕ). take (length new) (drop n (front ++ (new ++ back)))) (sym count)
    ∙ ap (take (length new)) (drop-append_seam front (new ++ back)) ∙ take-append_seam new back

-- bytes before the place stay
take-put_at : (n at : ℕ) (new bytes : List ℕ) → n ≤ at → at + length new ≤ length bytes → take n (put_at at new bytes) ≡ take n bytes
take-put_at n at new bytes before fits =
    let front = take at bytes in
    let back = drop (at + length new) bytes in
    let count : length front ≡ at = length-take-le at bytes (omega (arith, fits)) in
    ap (take n) (append_assoc front new back) ∙ take-append-le n front (new ++ back) (omega (arith, before, count))
    ∙ sym (take-append-le n front (drop at bytes) (omega (arith, before, count)))
    ∙ ap (take n) (take-append-drop at bytes)

held_before : (at : ℕ) (new bytes : List ℕ) (piece : Piece) → end_of piece ≤ at → at + length new ≤ length bytes → Holds bytes piece
    → Holds (put_at at new bytes) piece
held_before at new bytes piece before fits held =
    sym (drop-take piece.at (length piece.bytes) (put_at at new bytes))
    ∙ ap (drop piece.at) (take-put_at (piece.at + length piece.bytes) at new bytes before fits)
    ∙ drop-take piece.at (length piece.bytes) bytes ∙ held

held_behind : (at : ℕ) (new bytes : List ℕ) (piece : Piece) → at + length new ≤ piece.at → at + length new ≤ length bytes
    → Holds bytes piece → Holds (put_at at new bytes) piece
held_behind at new bytes piece behind fits held =
    let front = take at bytes ++ new in
    let count : length front ≡ at + length new =
    (let taken = length-take-le at bytes (omega (arith, fits)) in let both = length-append (take at bytes) new in omega
    (arith, taken, both)) in
    ap (take (length piece.bytes)) (drop-append-drop (at + length new) bytes front piece.at behind count) ∙ held

held_apart : (put piece : Piece) (bytes : List ℕ) → ApartFrom put piece → end_of put ≤ length bytes → Holds bytes piece
    → Holds (put_at put.at put.bytes bytes) piece
held_apart put piece bytes (inl before) fits held = held_behind put.at put.bytes bytes piece before fits held
held_apart put piece bytes (inr behind) fits held = held_before put.at put.bytes bytes piece behind fits held

-- a piece stays where it is, apart from what is put
held_through : (pieces : List Piece) (piece : Piece) (bytes : List ℕ) → Each (ApartFrom piece) pieces → AreInside (length bytes) pieces
    → Holds bytes piece → Holds (put_pieces pieces bytes) piece
held_through [] piece bytes apart inside held = held
held_through (put ∷ pieces) piece bytes apart inside held =
    let kept = length-put_at put.at put.bytes bytes inside.0 in
    held_through pieces piece (put_at put.at put.bytes bytes) apart.1
    (each_map _ _ pieces (λ other fits. omega (arith, fits, kept)) inside.1)
    (held_apart put piece bytes (swapped piece put apart.0) inside.0 held)
  where
    swapped : (piece other : Piece) → ApartFrom piece other → ApartFrom other piece
    swapped piece other (inl before) = inr before
    swapped piece other (inr behind) = inl behind

-- all pieces stand
pub held_all : (pieces : List Piece) (bytes : List ℕ) → AreApart pieces → AreInside (length bytes) pieces
    → Each (Holds (put_pieces pieces bytes)) pieces
held_all [] bytes apart inside = tt
held_all (piece ∷ pieces) bytes apart inside =
    let kept = length-put_at piece.at piece.bytes bytes inside.0 in
    let rest = each_map _ (λ (other : Piece). end_of other ≤ length (put_at piece.at piece.bytes bytes)) pieces
    (λ other fits. omega (arith, fits, kept)) inside.1 in
    let next = put_at piece.at piece.bytes bytes in
    (held_through pieces piece next apart.0 rest (bytes_at-put_at piece.at piece.bytes bytes inside.0), held_all pieces next apart.1 rest)
