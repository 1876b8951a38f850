-- What is written by a list that says of each byte what it is made from. The sender's record stands
-- at `at`.
use Rattle.std.specs.Prelude.{◌≡◌, ℕ, zero, suc, ◌+◌, ◌-◌, ◌≤◌, Bool, true, false, nat_lt, nat_eq}
use Rattle.std.specs.Prelude.{if◌then◌else◌, List, [], ◌∷◌, map, max, get_or, replicate, reverse}
use Rattle.std.specs.Prelude.{slice_get, slice_index, length, take, drop, ◌++◌, Option, Some}
use Rattle.std.specs.List.{All, list_all}
use Rattle.evp_base.specs.Numbers.{digits}
use Rattle.evp_base.specs.declared.kind.Kind.{Kind}
use Rattle.evp_base.specs.declared.kind.Kind.TheVariants.{Int, Unsigned, Char, Boolean, Enumeration}
use Rattle.evp_base.specs.declared.order.Order.{Order}
use Rattle.evp_base.specs.declared.order.Order.TheVariants.{Little, Big}
pub use Rattle.evp_wide.specs.Gathered.{sign_byte}
use Rattle.evp_wide.specs.Gathered.{gathered, signs_gathered, with_constant, with_kept}
use Rattle.evp_wide.specs.declared.lanes.Blend.{Blend}
use Rattle.evp_plan.specs.declared.cell.Cell.{Cell}
use Rattle.evp_plan.specs.declared.gather.Gather.{Gather}
use Rattle.evp_plan.specs.declared.gather.Gathers.{Gathers}
use Rattle.evp_plan.specs.declared.gather.Pair.{Pair}
use Rattle.evp_plan.specs.declared.step.Op.{Op}
use Rattle.evp_plan.specs.declared.step.Op.TheVariants.{Number, Text, Nest, Each, Many}
use Rattle.evp_plan.specs.declared.step.Origin.{Origin}
use Rattle.evp_plan.specs.declared.step.Origin.TheVariants.{Standing, Stated}
use Rattle.evp_plan.specs.declared.step.Step.{Step}
use Rattle.evp_plan.specs.declared.cell.Cell.TheVariants.{Keep, Constant, Byte, Sign}

-- the byte that is made, where `old` stood
abbrev pub cell_value : List ℕ → ℕ → Cell → ℕ → ℕ
cell_value from at Keep old = old
cell_value from at (Constant byte) old = byte
cell_value from at (Byte offset) old = slice_index from (at + offset)
cell_value from at (Sign offset) old = sign_byte (slice_index from (at + offset))

-- the bytes, with those in front made as the cells say
abbrev pub painted : List ℕ → ℕ → List Cell → List ℕ → List ℕ
painted from at [] out = out
painted from at (cell ∷ cells) [] = []
painted from at (cell ∷ cells) (old ∷ out) = cell_value from at cell old ∷ painted from at cells out

-- the bytes, with those from t on made as the cells say
abbrev pub painted_at : List ℕ → ℕ → ℕ → List Cell → List ℕ → List ℕ
painted_at from at zero cells out = painted from at cells out
painted_at from at (suc t) cells [] = []
painted_at from at (suc t) cells (byte ∷ out) = byte ∷ painted_at from at t cells out

-- the same for n records of the sender's, so many bytes apart from `at` on; those that are made stand
-- `width` bytes apart, from t on
abbrev pub painted_each : List ℕ → ℕ → ℕ → ℕ → ℕ → ℕ → List Cell → List ℕ → List ℕ
painted_each from at stride t width zero cells out = out
painted_each from at stride t width (suc n) cells out = painted_each from (at + stride) stride
    (t + width) width n cells (painted_at from at t cells out)

-- what is made by the first, where the second was made before
abbrev pub over : Cell → Cell → Cell
over Keep below = below
over (Constant byte) below = Constant byte
over (Byte offset) below = Byte offset
over (Sign offset) below = Sign offset

abbrev pub laid_over : List Cell → List Cell → List Cell
laid_over [] cells = cells
laid_over (cell ∷ upper) [] = []
laid_over (cell ∷ upper) (below ∷ cells) = over cell below ∷ laid_over upper cells

-- the cells, with others laid over those from a place on
abbrev pub overlaid : ℕ → List Cell → List Cell → List Cell
overlaid zero upper cells = laid_over upper cells
overlaid (suc place) upper [] = []
overlaid (suc place) upper (cell ∷ cells) = cell ∷ overlaid place upper cells

-- ---- numbers

-- so many bytes from an offset on
abbrev pub bytes_from : ℕ → ℕ → List Cell
bytes_from offset zero = []
bytes_from offset (suc n) = Byte offset ∷ bytes_from (suc offset) n

-- the lowest first
abbrev pub turned : {A : Type 0} → Order → List A → List A
turned Little xs = xs
turned Big xs = reverse xs

-- cut or filled up to a size
abbrev pub resized : {A : Type 0} → ℕ → A → List A → List A
resized zero more xs = []
resized (suc size) more [] = more ∷ resized size more []
resized (suc size) more (x ∷ xs) = x ∷ resized size more xs

-- where the top bit of a number stands
abbrev pub top_offset : Order → ℕ → ℕ → ℕ
top_offset Little offset width = offset + width - 1
top_offset Big offset width = offset

-- what fills up a number of a kind
abbrev pub filling : Kind → ℕ → Cell
filling Int top = Sign top
filling Unsigned top = Constant 0
filling Char top = Constant 0
filling Boolean top = Constant 0
filling Enumeration top = Sign top

-- a number of `size` bytes from one of `width` bytes at an offset
abbrev pub number_cells : Order → ℕ → Order → Kind → ℕ → ℕ → List Cell
number_cells order size from_order kind offset width =
    turned order (resized size (filling kind (top_offset from_order offset width))
    (turned from_order (bytes_from offset width)))

-- stated bytes
abbrev pub constants : List ℕ → List Cell
constants bytes = map (λ byte. Constant byte) bytes

-- ---- sixteen bytes at once

-- a byte of the sender's record, or its sign
abbrev pub picked_cell : Bool → ℕ → Cell
picked_cell false offset = Byte offset
picked_cell true offset = Sign offset

-- what is made where a gather picks the byte at that place, or its sign, keeps those bits and sets
-- these
abbrev pub blend_cell : Bool → ℕ → ℕ → ℕ → ℕ → Cell
blend_cell signed at place keep constant = if nat_lt place 16 then picked_cell signed (at + place)
    else (if nat_eq keep 0 then Constant constant else Keep)

abbrev pub blend_cells : Bool → ℕ → List ℕ → List ℕ → List ℕ → List Cell
blend_cells signed at [] keeps constants = []
blend_cells signed at (place ∷ places) [] constants = []
blend_cells signed at (place ∷ places) (keep ∷ keeps) [] = []
blend_cells signed at (place ∷ places) (keep ∷ keeps) (constant ∷ constants) = blend_cell signed at
    place keep constant ∷ blend_cells signed at places keeps constants

-- the lanes that a gather picks of a window
abbrev pub lanes : Bool → List ℕ → List ℕ → List ℕ
lanes false places window = gathered places window
lanes true places window = signs_gathered places window

-- the bytes where a gather writes sixteen, of which it picked these
abbrev pub written : List ℕ → Blend → ℕ → List ℕ → List ℕ
written picked blend to out = take to out
    ++ (with_constant (with_kept picked blend.keep (drop to out)) blend.constant ++ drop (to + 16) out)

-- ---- gathers one after another

abbrev pub gather_cells : Gather → List Cell
gather_cells gather = blend_cells gather.signed gather.at gather.blend.mask.places gather.blend.keep
    gather.blend.constant

abbrev pub gathers_over : List Gather → List Cell → List Cell
gathers_over [] cells = cells
gathers_over (gather ∷ gathers) cells = gathers_over gathers
    (overlaid gather.to (gather_cells gather) cells)

-- inside a record of this length, from so many bytes
abbrev pub IsGatherWithin : ℕ → ℕ → Gather → Type 0
IsGatherWithin length reach gather = (gather.to + 16 ≤ length) × (gather.at + 16 ≤ reach)

-- both of a pair are
abbrev pub IsPairWithin : ℕ → ℕ → Pair → Type 0
IsPairWithin length reach pair = IsGatherWithin length reach pair.one × IsGatherWithin length reach
    pair.two

-- all are, and the first are plain
pub record AreWithin (length reach : ℕ) (gathers : Gathers) : Type 0 where
  pub plain : All (λ gather. gather.plain ≡ true) gathers.plain.items
  pub first : All (IsGatherWithin length reach) gathers.plain.items
  pub second : All (IsPairWithin length reach) gathers.pairs.items
  pub third : All (IsGatherWithin length reach) gathers.mixed.items

-- the bytes, where gathers one after another made those of the record at t
abbrev pub gathered_at : List ℕ → ℕ → ℕ → List Gather → List ℕ → List ℕ
gathered_at from at t [] out = out
gathered_at from at t (gather ∷ gathers) out = gathered_at from at t gathers
    (painted_at from at (t + gather.to) (gather_cells gather) out)

-- the same for n records, each gather for all of them
abbrev pub gathered_each : List ℕ → ℕ → ℕ → ℕ → ℕ → ℕ → List Gather → List ℕ → List ℕ
gathered_each from at stride t width n [] out = out
gathered_each from at stride t width n (gather ∷ gathers) out = gathered_each from at stride t
    width n gathers (painted_each from at stride (t + gather.to) width n (gather_cells gather) out)

-- ---- what moves do

-- what is made of each byte of a record, from so many bytes of the sender's
pub record Moving : Type 0 where
  pub cells : List Cell
  pub reach : ℕ

-- ---- steps

-- a number from what it is made from
abbrev pub origin_cells : Order → ℕ → Order → Origin → List Cell
origin_cells order size from_order (Standing source) = number_cells order size from_order
    source.kind source.offset source.size
origin_cells order size from_order (Stated n) = constants (digits order size n)

-- a field that is a single number
abbrev pub op_cells : Order → ℕ → Order → Op → List Cell
op_cells order size from_order (Number kind origin) = origin_cells order size from_order origin
op_cells order size from_order (Text from) = []
op_cells order size from_order (Nest offset) = []
op_cells order size from_order (Each count elements) = []
op_cells order size from_order (Many origin elements) = []

-- the cells, with those of these steps laid over
abbrev pub steps_over : Order → Order → List Step → List Cell → List Cell
steps_over order from_order [] cells = cells
steps_over order from_order (step ∷ steps) cells =
    steps_over order from_order steps
    (overlaid step.task.offset (op_cells order step.task.size from_order step.task.op) cells)

-- where the last of the fields ends
abbrev pub end_of : List Step → ℕ
end_of [] = 0
end_of (step ∷ steps) = max (step.task.offset + step.task.size) (end_of steps)

-- where the last of the sender's numbers ends
abbrev pub source_end : Op → ℕ
source_end (Number kind (Standing source)) = source.offset + source.size
source_end (Number kind (Stated n)) = 0
source_end (Text from) = 0
source_end (Nest offset) = 0
source_end (Each count elements) = 0
source_end (Many origin elements) = 0

abbrev pub reach_of : List Step → ℕ
reach_of [] = 0
reach_of (step ∷ steps) = max (source_end step.task.op) (reach_of steps)

-- a single number whose bytes are some of the sender's, or stated
abbrev pub is_plain_kind : Kind → Bool
is_plain_kind Int = true
is_plain_kind Unsigned = true
is_plain_kind Char = true
is_plain_kind Boolean = false
is_plain_kind Enumeration = true

abbrev pub is_plain_op : Op → Bool
is_plain_op (Number kind (Standing source)) = is_plain_kind source.kind
is_plain_op (Number kind (Stated n)) = true
is_plain_op (Text from) = false
is_plain_op (Nest offset) = false
is_plain_op (Each count elements) = false
is_plain_op (Many origin elements) = false

-- the moves make what these steps make of a record's bytes that were made as these cells say before,
-- from a sender of this order whose record has at least so many bytes
pub record AreMovesWithin (from_order order : Order) (steps : List Step) (below : List Cell)
    (room : ℕ) (moves : Moving) : Type 0 where
  pub plain : list_all (λ step. is_plain_op step.task.op) steps ≡ true
  pub cells : moves.cells ≡ steps_over order from_order steps below
  pub reach : moves.reach ≤ max (reach_of steps) room

-- the moves make what these steps make of a record's bytes that were made as these cells say before,
-- from a sender of this order
pub record AreMovesOver (from_order order : Order) (steps : List Step) (below : List Cell)
    (moves : Moving) : Type 0 where
  pub plain : list_all (λ step. is_plain_op step.task.op) steps ≡ true
  pub cells : moves.cells ≡ steps_over order from_order steps below
  pub reach : moves.reach ≤ reach_of steps

-- the moves make what these steps make, and keep what stood between
abbrev pub IsMovesOf : Order → Order → List Step → Moving → Type 0
IsMovesOf from_order order steps moves =
    AreMovesOver from_order order steps (replicate (end_of steps) Keep) moves

-- the moves make what these steps make, and zeros between
pub record IsWholeOf (from_order order : Order) (steps : List Step) (moves : Moving) : Type 0 where
  pub fits : end_of steps ≤ length moves.cells
  pub over : AreMovesOver from_order order steps (replicate (length moves.cells) (Constant 0)) moves

-- those of each list of steps, where there are some
abbrev pub AreMovesOf : Order → Order → List (List Step) → List (Option Moving) → Type 0
AreMovesOf from_order order table all =
    (k : ℕ) (moves : Moving) → slice_get all k ≡ Some (Some moves)
    → IsMovesOf from_order order (get_or table k []) moves
