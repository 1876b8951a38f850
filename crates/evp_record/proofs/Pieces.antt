-- Where the pieces of a packed part lie: inside the part's extent or in blocks behind what stood there, apart from one another.
use Rattle.std.proofs.Common.{ℕ, ◌+◌, ◌≤◌, List, [], ◌∷◌, ◌++◌, length, ◌⊎◌, inl, inr, arith}
use Rattle.evp_format.specs.Packing.{Piece, Pieces}

-- the place behind a piece
abbrev pub end_of : Piece → ℕ
end_of piece = piece.at + length piece.bytes

-- inside the bytes from `at` on
pub record Within (at extent : ℕ) (piece : Piece) : Type 0 where
  pub from : at ≤ piece.at
  pub to : end_of piece ≤ at + extent

-- behind `size` and not past `last`
pub record InBlocks (size last : ℕ) (piece : Piece) : Type 0 where
  pub from : size ≤ piece.at
  pub to : end_of piece ≤ last

abbrev pub ApartFrom : Piece → Piece → Type 0
ApartFrom piece other = (end_of piece ≤ other.at) ⊎ (end_of other ≤ piece.at)

abbrev pub Each : (Piece → Type 0) → List Piece → Type 0
Each P [] = Unit {0}
Each P (piece ∷ pieces) = P piece × Each P pieces

abbrev pub AreApart : List Piece → Type 0
AreApart [] = Unit {0}
AreApart (piece ∷ pieces) = Each (ApartFrom piece) pieces × AreApart pieces

pub each_map : (P Q : Piece → Type 0) (pieces : List Piece) → ((piece : Piece) → P piece → Q piece) → Each P pieces → Each Q pieces
each_map P Q [] every each = tt
each_map P Q (piece ∷ pieces) every each = (every piece each.0, each_map P Q pieces every each.1)

pub each_append : (P : Piece → Type 0) (first rest : List Piece) → Each P first → Each P rest → Each P (first ++ rest)
each_append P [] rest each each' = each'
each_append P (piece ∷ first) rest each each' = (each.0, each_append P first rest each.1 each')

apart_append : (first rest : List Piece) → AreApart first → AreApart rest → Each (λ (piece : Piece). Each (ApartFrom piece) rest) first
    → AreApart (first ++ rest)
apart_append [] rest apart apart' each = apart'
apart_append (piece ∷ first) rest apart apart' each = (
  each_append (ApartFrom piece) first rest apart.0 each.0,
  apart_append first rest apart.1 apart' each.1,
)

-- pieces in a region of what stood there, which was `size` bytes long, or in blocks behind it
pub record IsPlaced (R : Piece → Type 0) (size : ℕ) (pieces : Pieces) : Type 0 where
  pub grows : size ≤ pieces.size
  pub each : Each (λ (piece : Piece). R piece ⊎ InBlocks size pieces.size piece) pieces.all
  pub apart : AreApart pieces.all

-- a region that lies in the first `size` bytes
abbrev pub IsBelow : (Piece → Type 0) → ℕ → Type 0
IsBelow R size = (piece : Piece) → R piece → end_of piece ≤ size

-- two regions of which no pieces overlap
abbrev pub AreRegionsApart : (Piece → Type 0) → (Piece → Type 0) → Type 0
AreRegionsApart R S = (piece other : Piece) → R piece → S other → ApartFrom piece other

-- no piece at all
abbrev pub Nowhere : Piece → Type 0
Nowhere piece = ⊥

-- a region as part of another
pub placed_in : (R S : Piece → Type 0) (size : ℕ) (pieces : Pieces) → ((piece : Piece) → R piece → S piece) → IsPlaced R size pieces
    → IsPlaced S size pieces
placed_in R S size pieces inside placed =
    let wider : (piece : Piece) → R piece ⊎ InBlocks size pieces.size piece → S piece
    ⊎ InBlocks size pieces.size piece = λ piece at. elim at [ inl here ↦ inl (inside piece here) | inr there ↦ inr there ] in
    record { grows = placed.grows; each = each_map _ _ pieces.all wider placed.each; apart = placed.apart }

-- pieces in a block that begins behind what stood there
pub placed_in_block : (at extent size after : ℕ) (pieces : Pieces) → size ≤ at → at + extent ≤ after
    → IsPlaced (Within at extent) after pieces → IsPlaced Nowhere size pieces
placed_in_block at extent size after pieces behind fits placed =
    let grown : size ≤ pieces.size = omega (arith, placed.grows) in
    let block : (piece : Piece) → Within at extent piece ⊎ InBlocks after pieces.size piece → ⊥ ⊎ InBlocks size pieces.size piece =
    λ piece there. elim there [
      | inl here ↦ inr (record { from = omega (arith, here.from); to = omega (arith, here.to, placed.grows) })
      | inr later ↦ inr (record { from = omega (arith, later.from); to = later.to })
    ] in
    record { grows = grown; each = each_map _ _ pieces.all block placed.each; apart = placed.apart }

apart_of : (R S : Piece → Type 0) (size middle last : ℕ) → size ≤ middle → IsBelow R size → IsBelow S size → AreRegionsApart R S
    → (piece other : Piece) → R piece ⊎ InBlocks size middle piece → S other ⊎ InBlocks middle last other → ApartFrom piece other
apart_of R S size middle last grown low low' apart piece other (inl here) (inl there) = apart piece other here there
apart_of R S size middle last grown low low' apart piece other (inl here) (inr there) = let below = low piece here in inl
    (omega (arith, below, there.from))
apart_of R S size middle last grown low low' apart piece other (inr here) (inl there) = let below = low' other there in inr
    (omega (arith, below, here.from))
apart_of R S size middle last grown low low' apart piece other (inr here) (inr there) = inl (omega (arith, here.to, there.from))

-- pieces that are packed behind others
pub placed_then : (R S T : Piece → Type 0) (size : ℕ) (first rest : Pieces) → IsPlaced R size first → IsPlaced S first.size rest
    → ((piece : Piece) → R piece → T piece) → ((piece : Piece) → S piece → T piece) → IsBelow R size → IsBelow S size → AreRegionsApart R S
    → IsPlaced T size (record { all = first.all ++ rest.all; size = rest.size })
placed_then R S T size first rest placed placed' inside inside' low low' apart =
    let grown : size ≤ rest.size = omega (arith, placed.grows, placed'.grows) in
    let before : (piece : Piece) → R piece ⊎ InBlocks size first.size piece → T piece ⊎ InBlocks size rest.size piece =
    λ piece at. elim at
    [ inl here ↦ inl (inside piece here) | inr block ↦ inr (record { from = block.from; to = omega (arith, block.to, placed'.grows) }) ]
    in
    let behind : (piece : Piece) → S piece ⊎ InBlocks first.size rest.size piece → T piece ⊎ InBlocks size rest.size piece =
    λ piece at. elim at
    [ inl here ↦ inl (inside' piece here) | inr block ↦ inr (record { from = omega (arith, block.from, placed.grows); to = block.to }) ]
    in
    let others : (piece : Piece) → R piece ⊎ InBlocks size first.size piece → Each (ApartFrom piece) rest.all =
    λ piece at. each_map _ (ApartFrom piece) rest.all (λ other there. apart_of R S size first.size rest.size placed.grows low low' apart
    piece other at there) placed'.each in
    record {
      grows = grown;
      each = each_append _ first.all rest.all (each_map _ _ first.all before placed.each) (each_map _ _ rest.all behind placed'.each);
      apart = apart_append first.all rest.all placed.apart placed'.apart (each_map _ _ first.all others placed.each);
    }
