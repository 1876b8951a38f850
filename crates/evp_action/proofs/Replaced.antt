-- A piece put last, over the one that stood in its place, is as if it had been put in its turn.
use Rattle.std.proofs.Common.{◌≡◌, ℕ, ◌+◌, ◌-◌, ◌≤◌, List, [], ◌∷◌, ◌++◌, length, take, drop, inl, inr, refl, sym, ap, ◌∙◌, arith}
use Rattle.std.proofs.Common.{append_assoc, length-append, length-drop, take-append-drop}
use Rattle.std.proofs.Math.Seq.{drop-append_seam, take-append_seam}
use Rattle.std.proofs.lemmas.List.{length-take-le}
use Rattle.evp_format.specs.Bytes.{put_at}
use Rattle.evp_format.specs.Packing.{Piece, put_pieces}
use Rattle.evp_record.proofs.Onto.{AreInside, length-put_at}
use Rattle.evp_record.proofs.Pieces.{end_of, ApartFrom, Each, AreApart, each_map}

-- bytes put in the place of as many that stand between two others
put_between : (front old back new : List ℕ) (at : ℕ) → length front ≡ at → length old ≡ length new
    → put_at at new (front ++ (old ++ back)) ≡ front ++ (new ++ back)
put_between front old back new at before same =
    let count : at + length new ≡ length (front ++ old) = (let both = length-append front old in omega (arith, both, before, same)) in
    ap (λ (n : ℕ). (take n (front ++ (old ++ back)) ++ new) ++ drop (at + length new) (front ++ (old ++ back))) (sym before)
    ∙ ap (λ (first : List ℕ). (first ++ new) ++ drop (at + length new) (front ++ (old ++ back))) (take-append_seam front (old ++ back))
    ∙ ap (λ (n : ℕ). (front ++ new) ++ drop n (front ++ (old ++ back))) count
    ∙ ap (λ (all : List ℕ). (front ++ new) ++ drop (length (front ++ old)) all) (sym (append_assoc front old back))
    ∙ ap (λ (last : List ℕ). (front ++ new) ++ last) (drop-append_seam (front ++ old) back) ∙ append_assoc front new back

-- what stands before a place, there and behind it
whole : (at size : ℕ) (bytes : List ℕ) → take at bytes ++ (take size (drop at bytes) ++ drop size (drop at bytes)) ≡ bytes
whole at size bytes =
    ap (λ (rest : List ℕ). take at bytes ++ rest) (take-append-drop size (drop at bytes)) ∙ take-append-drop at bytes

-- what is put over as many bytes hides them
pub put_twice : (at : ℕ) (old new bytes : List ℕ) → length old ≡ length new → at + length new ≤ length bytes
    → put_at at new (put_at at old bytes) ≡ put_at at new bytes
put_twice at old new bytes same fits =
    let front = take at bytes in
    let here = take (length new) (drop at bytes) in
    let back = drop (length new) (drop at bytes) in
    let left = length-drop at bytes in
    let before : length front ≡ at = length-take-le at bytes (omega (arith, fits)) in
    let count : length here ≡ length new = length-take-le (length new) (drop at bytes) (omega (arith, fits, left)) in
    let split = whole at (length new) bytes in
    ap (λ (all : List ℕ). put_at at new (put_at at old all)) (sym split)
    ∙ ap (put_at at new) (put_between front here back old at before (count ∙ sym same))
    ∙ put_between front old back new at before same
    ∙ sym (put_between front here back new at before count) ∙ ap (put_at at new) split

-- two places that lie apart, the first before the second
put_swap_ordered : (front old middle other back new next : List ℕ) → length old ≡ length new → length other ≡ length next
    → (at place : ℕ) → length front ≡ at → length (front ++ (old ++ middle)) ≡ place
    → put_at at new (put_at place next (front ++ (old ++ (middle ++ (other ++ back)))))
    ≡ put_at place next (put_at at new (front ++ (old ++ (middle ++ (other ++ back)))))
put_swap_ordered front old middle other back new next same same' at place before before' =
    let joined : (here rest : List ℕ) → (front ++ (here ++ middle)) ++ rest ≡ front ++ (here ++ (middle ++ rest)) =
    λ here rest. append_assoc front (here ++ middle) rest ∙ ap (λ (all : List ℕ). front ++ all) (append_assoc here middle rest) in
    let moved : length (front ++ (new ++ middle)) ≡ place =
    (let a = length-append front (old ++ middle) in let b = length-append old middle in let c = length-append front (new ++ middle) in
    let d = length-append new middle in omega (arith, a, b, c, d, before', same)) in
    ap (λ (all : List ℕ). put_at at new (put_at place next all)) (sym (joined old (other ++ back)))
    ∙ ap (put_at at new) (put_between (front ++ (old ++ middle)) other back next place before' same' ∙ joined old (next ++ back))
    ∙ put_between front old (middle ++ (next ++ back)) new at before same
    ∙ sym (joined new (next ++ back))
    ∙ sym (put_between (front ++ (new ++ middle)) other back next place moved same')
    ∙ ap (put_at place next) (joined new (other ++ back))
    ∙ ap (put_at place next) (sym (put_between front old (middle ++ (other ++ back)) new at before same))

put_swap_before : (at : ℕ) (new : List ℕ) (place : ℕ) (next bytes : List ℕ) → at + length new ≤ place → place + length next ≤ length bytes
    → put_at at new (put_at place next bytes) ≡ put_at place next (put_at at new bytes)
put_swap_before at new place next bytes before fits =
    let front = take at bytes in
    let old = take (length new) (drop at bytes) in
    let behind = drop (length new) (drop at bytes) in
    let gap = place - (at + length new) in
    let middle = take gap behind in
    let other = take (length next) (drop gap behind) in
    let back = drop (length next) (drop gap behind) in
    let l1 = length-drop at bytes in
    let l2 = length-drop (length new) (drop at bytes) in
    let l3 = length-drop gap behind in
    let c1 : length front ≡ at = length-take-le at bytes (omega (arith, fits, before)) in
    let c2 : length old ≡ length new = length-take-le (length new) (drop at bytes) (omega (arith, fits, before, l1)) in
    let c3 : length middle ≡ gap = length-take-le gap behind (omega (arith, fits, before, l1, l2)) in
    let c4 : length other ≡ length next = length-take-le (length next) (drop gap behind) (omega (arith, fits, before, l1, l2, l3)) in
    let whole_place : length (front ++ (old ++ middle)) ≡ place =
    (let a = length-append front (old ++ middle) in let b = length-append old middle in omega (arith, a, b, c1, c2, c3, before)) in
    let split : front ++ (old ++ (middle ++ (other ++ back))) ≡ bytes =
    ap (λ (rest : List ℕ). front ++ (old ++ rest)) (whole gap (length next) behind) ∙ whole at (length new) bytes in
    ap (λ (all : List ℕ). put_at at new (put_at place next all)) (sym split)
    ∙ put_swap_ordered front old middle other back new next c2 c4 at place c1 whole_place
    ∙ ap (λ (all : List ℕ). put_at place next (put_at at new all)) split

-- two pieces that lie apart may be put in either order
pub put_swap : (piece other : Piece) (bytes : List ℕ) → ApartFrom piece other → end_of piece ≤ length bytes → end_of other ≤ length bytes
    → put_at piece.at piece.bytes (put_at other.at other.bytes bytes) ≡ put_at other.at other.bytes (put_at piece.at piece.bytes bytes)
put_swap piece other bytes (inl before) fits fits' = put_swap_before piece.at piece.bytes other.at other.bytes bytes before fits'
put_swap piece other bytes (inr behind) fits fits' =
    sym (put_swap_before other.at other.bytes piece.at piece.bytes bytes behind fits)

-- a piece that lies apart from others may be put before them or behind
put_behind : (pieces : List Piece) (piece : Piece) (bytes : List ℕ) → Each (ApartFrom piece) pieces → AreInside (length bytes) pieces
    → end_of piece ≤ length bytes
    → put_at piece.at piece.bytes (put_pieces pieces bytes) ≡ put_pieces pieces (put_at piece.at piece.bytes bytes)
put_behind [] piece bytes apart inside fits = refl
put_behind (other ∷ pieces) piece bytes apart inside fits =
    let kept = length-put_at other.at other.bytes bytes inside.0 in
    put_behind pieces piece (put_at other.at other.bytes bytes) apart.1
    (each_map _ _ pieces (λ (p : Piece) ends. omega (arith, ends, kept)) inside.1) (omega (arith, fits, kept))
    ∙ ap (put_pieces pieces) (put_swap piece other bytes apart.0 fits inside.0)

abbrev pub piece_at : ℕ → List ℕ → Piece
piece_at at bytes = record { at = at; bytes = bytes }

-- other bytes in the place of the first piece's
pub put_first : (at : ℕ) (old new : List ℕ) (pieces : List Piece) (bytes : List ℕ) → length old ≡ length new
    → AreApart (piece_at at old ∷ pieces) → AreInside (length bytes) (piece_at at old ∷ pieces)
    → put_pieces (piece_at at new ∷ pieces) bytes ≡ put_at at new (put_pieces (piece_at at old ∷ pieces) bytes)
put_first at old new pieces bytes same apart inside =
    let kept = length-put_at at old bytes inside.0 in
    let still : (other : Piece) → ApartFrom (piece_at at old) other → ApartFrom (piece_at at new) other =
    λ other lies. elim lies [ inl before ↦ inl (omega (arith, before, same)) | inr behind ↦ inr behind ] in
    sym (put_behind pieces (piece_at at new) (put_at at old bytes) (each_map _ _ pieces still apart.0)
    (each_map _ _ pieces (λ (p : Piece) ends. omega (arith, ends, kept)) inside.1) (omega (arith, inside.0, kept, same))
    ∙ ap (put_pieces pieces) (put_twice at old new bytes same (omega (arith, inside.0, same))))
