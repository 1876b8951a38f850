-- The one packed record of a value: the fixed part, then the blocks in the order of the walk, each
-- at the next multiple of 8; all else is zero.
use Rattle.std.specs.Prelude.{ℕ, suc, ◌+◌, ◌*◌, pos, List, [], ◌∷◌, ◌++◌, length, replicate}
use Rattle.std.specs.Prelude.{Option, Some, None}
use Rattle.evp_base.specs.declared.order.Order.{Order}
use Rattle.evp_base.specs.Numbers.{digits}
use Rattle.evp_format.specs.declared.field.Field.{Field}
use Rattle.evp_format.specs.declared.field.Shape.{Shape}
use Rattle.evp_format.specs.declared.field.Shape.TheVariants.{One, Fixed, Counted}
use Rattle.evp_format.specs.Bytes.{next_block, put_at}
use Rattle.evp_format.specs.Converting.{as_number, entries_of, elements_of}
use Rattle.evp_format.specs.Datum.{Datum, num, null, text, list, rec, Elements, empty_list, element}
use Rattle.evp_format.specs.Datum.{Entries, empty_record, entry, count_of}
use Rattle.evp_format.specs.Layout.{Layout}
use Rattle.evp_format.specs.Tree.{Tree, tree, Branches, no_fields, branch, Part, number_part}
use Rattle.evp_format.specs.Tree.{text_part, tree_part, length_of, root_of}

-- bytes that stand at a place of the record
pub record Piece : Type 0 where
  pub at : ℕ
  pub bytes : List ℕ

-- the pieces of a part of a record, in the order of the walk, and the size behind their blocks
pub record Pieces : Type 0 where
  pub all : List Piece
  pub size : ℕ

-- how a machine stores numbers and pointers
pub record Machine : Type 0 where
  pub order : Order
  pub pointer : ℕ

-- one piece, and no block
abbrev pub one_piece : ℕ → List ℕ → ℕ → Pieces
one_piece at bytes size = record { all = record { at = at; bytes = bytes } ∷ []; size = size }

-- these pieces, followed by those that `next` gives from the size behind them
abbrev pub then_pack : Pieces → (ℕ → Pieces) → Pieces
then_pack first next =
    let rest = next first.size in record { all = first.all ++ rest.all; size = rest.size }

-- a pointer to the block at q, 0 for none
abbrev pub pointer_piece : Machine → ℕ → ℕ → ℕ → Pieces
pointer_piece machine at q size = one_piece at (digits machine.order machine.pointer (pos q)) size

-- a string: null has pointer 0, a text a block of its bytes and a zero
abbrev pub pack_text : Machine → ℕ → Datum → ℕ → Pieces
pack_text machine at (text bytes) size =
    let q = next_block size in
    then_pack (pointer_piece machine at q size)
    (λ _. one_piece q (bytes ++ 0 ∷ []) (q + length bytes + 1))
pack_text machine at null size = pointer_piece machine at 0 size
pack_text machine at (num n) size = pointer_piece machine at 0 size
pack_text machine at (list elements) size = pointer_piece machine at 0 size
pack_text machine at (rec entries) size = pointer_piece machine at 0 size

-- elements k, k + 1 and so on, `one` packing each by its index
abbrev pub pack_elements : (ℕ → Datum → ℕ → Pieces) → Elements → ℕ → ℕ → Pieces
pack_elements one empty_list k size = record { all = []; size = size }
pack_elements one (element datum rest) k size =
    then_pack (one k datum size) (λ after. pack_elements one rest (suc k) after)

-- a counted array: the empty list has pointer 0 and no block; else its own block stands before
-- those of its elements
abbrev pub pack_counted : Machine → ℕ → ℕ → Elements → (ℕ → Datum → ℕ → Pieces) → ℕ → Pieces
pack_counted machine at element_size empty_list one size = pointer_piece machine at 0 size
pack_counted machine at element_size (element datum rest) one size =
    let q = next_block size in
    let elements = element datum rest in
    then_pack (pointer_piece machine at q (q + count_of elements * element_size))
    (λ after. pack_elements (λ k. one (q + k * element_size)) elements 0 after)

-- the elements of a list
abbrev pub listed : Option Elements → Elements
listed None = empty_list
listed (Some elements) = elements

-- a field of the record at `at`; `one` packs a part at an offset
abbrev pub pack_shaped : Machine → Field → Shape → ℕ → Datum → (ℕ → Datum → ℕ → Pieces) → ℕ → Pieces
pack_shaped machine field One at datum one size = one (at + field.offset) datum size
pack_shaped machine field (Fixed n) at datum one size =
    pack_elements (λ k. one (at + field.offset + k * field.size))
    (listed (elements_of (Some datum))) 0 size
pack_shaped machine field (Counted c) at datum one size =
    pack_counted machine (at + field.offset) field.size (listed (elements_of (Some datum))) one size

abbrev mutual
  -- the record at `at`, its blocks from `size` on
  pub pack_tree : Machine → Tree → ℕ → Entries → ℕ → Pieces
  pack_tree machine (tree length branches) at entries size =
      pack_branches machine branches at entries size

  pub pack_branches : Machine → Branches → ℕ → Entries → ℕ → Pieces
  pack_branches machine no_fields at entries size = record { all = []; size = size }
  pack_branches machine (branch field part rest) at empty_record size =
      record { all = []; size = size }
  pack_branches machine (branch field part rest) at (entry name datum others) size =
      then_pack (pack_shaped machine field field.shape at datum
      (λ offset value after. pack_part machine part field.size offset value after) size)
      (λ after. pack_branches machine rest at others after)

  pub pack_part : Machine → Part → ℕ → ℕ → Datum → ℕ → Pieces
  pack_part machine (number_part kind) element_size at datum size =
      one_piece at (digits machine.order element_size (as_number datum)) size
  pack_part machine text_part element_size at datum size = pack_text machine at datum size
  pack_part machine (tree_part nested) element_size at datum size =
      pack_tree machine nested at (entries_of (Some datum)) size

-- the pieces on a list of bytes
abbrev pub put_pieces : List Piece → List ℕ → List ℕ
put_pieces [] bytes = bytes
put_pieces (piece ∷ pieces) bytes = put_pieces pieces (put_at piece.at piece.bytes bytes)

abbrev pub machine_of : Layout → Machine
machine_of layout = record { order = layout.order; pointer = layout.pointer }

-- the pieces of a format's record
abbrev pub pieces_of : Layout → Datum → Pieces
pieces_of layout value =
    let root = root_of layout in
    pack_tree (machine_of layout) root 0 (entries_of (Some value)) (length_of root)

-- the packed size of a value, in bytes
abbrev pub packed_size : Layout → Datum → ℕ
packed_size layout value = (pieces_of layout value).size

-- the packed record of a value
abbrev pub pack : Layout → Datum → List ℕ
pack layout value =
    let pieces = pieces_of layout value in put_pieces pieces.all (replicate pieces.size 0)
