-- A pair paints by the cells of its two gathers.
use Rattle.std.proofs.Common.{◌≡◌, ℕ, zero, suc, ◌+◌, ◌*◌, ◌<◌, ◌≤◌, Bool, true, false, ◌&&◌, List, [], ◌∷◌, ◌++◌, length, take}
use Rattle.std.proofs.Common.{drop, get_or, refl, sym, ap, ◌∙◌, subst, ◌⊎◌, inl, inr, arith, add-zero}
use Rattle.std.specs.Prelude.{replicate}
use Rattle.std.proofs.lemmas.Bool.{lt-ltb, le-ltb, cases_lt}
use Rattle.std.proofs.lemmas.Bool.Decides.{nat_tests}
use Rattle.std.proofs.lemmas.List.{at_drop_more}
use Rattle.std.specs.Int.Bits.{bit_or, or_zero_l, or_zero_r}
use lib.Lanes.{zip2}
use Rattle.evp_wide.specs.Gathered.{picked, gathered, with_constant}
use Rattle.evp_plan.specs.declared.cell.Cell.{Cell}
use Rattle.evp_plan.specs.declared.cell.Cell.TheVariants.{Keep}
use Rattle.evp_plan.specs.declared.gather.Pair.{Pair}
use Rattle.evp_plan.specs.Cells.{cell_value, painted, painted_at, painted_each, picked_cell, blend_cell, blend_cells, gather_cells}
use Rattle.evp_plan.specs.Cells.{lanes, gathered_at, gathered_each}
use Rattle.evp_plan.specs.Clean.{is_paired_byte, are_paired, IsPlain}
use Rattle.evp_plan.specs.Pairs.{in_pairs, pair_cells}
use Rattle.evp_plan.proofs.Apart.{each_over}
use Rattle.evp_plan.proofs.Gathered.{read_as, none_read, value_read, byte_there, first_lane, no_lane, sixteen_cells}
use Rattle.evp_plan.proofs.Painting.{painted_at-overlaid}

-- ---- one byte

paired_cases : (first second keep : ℕ) → is_paired_byte first second keep ≡ true
    → ((second < 16) × (128 ≤ first)) ⊎ ((16 ≤ second) × (keep ≡ 255))
paired_cases first second keep paired = grind (arith, nat_tests)

-- the cell of a plain gather
abbrev plain_cell : ℕ → ℕ → Cell
plain_cell offset place = blend_cell false offset place 0 0

plain_byte : (from : List ℕ) (at offset place old : ℕ)
    → picked (drop (at + offset) from) place ≡ cell_value from at (plain_cell offset place) old
plain_byte from at offset place old = elim (cases_lt place 16) [
  | inl below ↦
      let cell : plain_cell offset place ≡ picked_cell false (offset + place) = rw (lt-ltb place 16 below) refl in
      byte_there from at offset place below ∙ sym (ap (λ (c : Cell). cell_value from at c old) cell)
  | inr past ↦ rw (le-ltb place 16 past) refl
]

byte_paired : (signed : Bool) (from : List ℕ) (at a b first second keep constant old : ℕ) → is_paired_byte first second keep ≡ true
    → bit_or (picked (drop (at + a) from) first) (read_as signed (picked (drop (at + b) from) second))
    ≡ cell_value from at (blend_cell signed b second keep constant) (cell_value from at (plain_cell a first) old)
byte_paired signed from at a b first second keep constant old paired =
    let window = drop (at + b) from in
    let made = cell_value from at (plain_cell a first) old in
    elim (paired_cases first second keep paired) [
      | inl one ↦
          let none : picked (drop (at + a) from) first ≡ 0 = rw (le-ltb first 16 (omega (arith, one.1))) refl in
          let cell : blend_cell signed b second keep constant ≡ picked_cell signed (b + second) = rw (lt-ltb second 16 one.0) refl in
          ap (λ (x : ℕ). bit_or x (read_as signed (picked window second))) none ∙ or_zero_l (read_as signed (picked window second))
          ∙ ap (read_as signed) (byte_there from at b second one.0) ∙ sym (value_read signed from at (b + second) made)
          ∙ sym (ap (λ (c : Cell). cell_value from at c made) cell)
      | inr two ↦
          let none : picked window second ≡ 0 = rw (le-ltb second 16 two.0) refl in
          let cell : blend_cell signed b second keep constant ≡ Keep = rw (le-ltb second 16 two.0, two.1) refl in
          ap (bit_or (picked (drop (at + a) from) first)) (ap (read_as signed) none ∙ none_read signed)
          ∙ or_zero_r (picked (drop (at + a) from) first) ∙ plain_byte from at a first old
          ∙ sym (ap (λ (c : Cell). cell_value from at c made) cell)
    ]

-- ---- all bytes of a block

paired_first : (first second keep : ℕ) (firsts seconds keeps : List ℕ) → are_paired (first ∷ firsts) (second ∷ seconds) (keep ∷ keeps) ≡ true
    → (is_paired_byte first second keep ≡ true) × (are_paired firsts seconds keeps ≡ true)
paired_first first second keep firsts seconds keeps paired = both (is_paired_byte first second keep) (are_paired firsts seconds keeps) paired
  where
    both : (a b : Bool) → (a && b) ≡ true → (a ≡ true) × (b ≡ true)
    both true b is = (refl, is)
    both false b is = cc

-- the cells of a plain gather
abbrev plain_cells : ℕ → List ℕ → ℕ → List Cell
plain_cells offset places n = blend_cells false offset places (replicate n 0) (replicate n 0)

block_paired : (signed : Bool) (from : List ℕ) (at a b : ℕ) (firsts seconds keeps constants out : List ℕ)
    → are_paired firsts seconds keeps ≡ true → length seconds ≡ length firsts → length constants ≡ length firsts
    → length firsts ≤ length out
    → zip2 bit_or (gathered firsts (drop (at + a) from)) (lanes signed seconds (drop (at + b) from)) ++ drop (length firsts) out
    ≡ painted from at (blend_cells signed b seconds keeps constants) (painted from at (plain_cells a firsts (length firsts)) out)
block_paired signed from at a b [] [] keeps constants out paired long long' room =
    ap (λ (l : List ℕ). zip2 bit_or [] l ++ out) (no_lane signed (drop (at + b) from))
block_paired signed from at a b [] (second ∷ seconds) keeps constants out paired long long' room = absurd (omega (arith, long))
block_paired signed from at a b (first ∷ firsts) [] keeps constants out paired long long' room = cc
block_paired signed from at a b (first ∷ firsts) (second ∷ seconds) [] constants out paired long long' room = cc
block_paired signed from at a b (first ∷ firsts) (second ∷ seconds) (keep ∷ keeps) [] out paired long long' room =
    absurd (omega (arith, long'))
block_paired signed from at a b (first ∷ firsts) (second ∷ seconds) (keep ∷ keeps) (constant ∷ constants) [] paired long long' room =
    absurd (omega (arith, room))
block_paired signed from at a b (first ∷ firsts) (second ∷ seconds) (keep ∷ keeps) (constant ∷ constants) (old ∷ out) paired long long' room =
    let parts = paired_first first second keep firsts seconds keeps paired in
    let window = drop (at + a) from in
    let other = drop (at + b) from in
    let upper = blend_cell signed b second keep constant in
    let rest = block_paired signed from at a b firsts seconds keeps constants out parts.1 (omega (arith, long)) (omega (arith, long'))
    (omega (arith, room)) in
    ap (λ (l : List ℕ). zip2 bit_or (gathered (first ∷ firsts) window) l ++ drop (length firsts) out) (first_lane signed second seconds other)
    ∙ ap (λ (x : ℕ). x ∷ (zip2 bit_or (gathered firsts window) (lanes signed seconds other) ++ drop (length firsts) out))
    (byte_paired signed from at a b first second keep constant old parts.0)
    ∙ ap (λ (l : List ℕ). cell_value from at upper (cell_value from at (plain_cell a first) old) ∷ l) rest

paired_is : (signed : Bool) (from : List ℕ) (at a b to : ℕ) (firsts seconds keeps constants out : List ℕ)
    → are_paired firsts seconds keeps ≡ true → length firsts ≡ 16 → length seconds ≡ 16 → length constants ≡ 16 → to + 16 ≤ length out
    → take to out
    ++ (with_constant (gathered firsts (drop (at + a) from)) (lanes signed seconds (drop (at + b) from)) ++ drop (to + 16) out)
    ≡ painted_at from at to (blend_cells signed b seconds keeps constants) (painted_at from at to (plain_cells a firsts 16) out)
paired_is signed from at a b zero firsts seconds keeps constants out paired long long' long'' room =
    let whole = block_paired signed from at a b firsts seconds keeps constants out paired (long' ∙ sym long) (long'' ∙ sym long)
    (omega (arith, long, room)) in
    let P : ℕ → Type 0 = λ n.
    zip2 bit_or (gathered firsts (drop (at + a) from)) (lanes signed seconds (drop (at + b) from)) ++ drop n out
    ≡ painted from at (blend_cells signed b seconds keeps constants) (painted from at (plain_cells a firsts n) out) in
    subst P long whole
paired_is signed from at a b (suc to) firsts seconds keeps constants [] paired long long' long'' room = absurd (omega (arith, room))
paired_is signed from at a b (suc to) firsts seconds keeps constants (byte ∷ out) paired long long' long'' room =
    let next : suc to + 16 ≡ suc (to + 16) = omega arith in
    let made = with_constant (gathered firsts (drop (at + a) from)) (lanes signed seconds (drop (at + b) from)) in
    ap (λ (n : ℕ). byte ∷ (take to out ++ (made ++ drop n (byte ∷ out)))) next
    ∙ ap (λ (l : List ℕ). byte ∷ l)
    (paired_is signed from at a b to firsts seconds keeps constants out paired long long' long'' (omega (arith, room)))

-- ---- a pair's sixteen bytes

-- both gathers, one after the other
pub pair_merged : (from : List ℕ) (at p : ℕ) (pair : Pair) (out : List ℕ) → p + 16 ≤ length out
    → painted_at from at p (gather_cells pair.two) (painted_at from at p (gather_cells pair.one) out) ≡ painted_at from at p (pair_cells pair) out
pair_merged from at p pair out room =
    let one = gather_cells pair.one in
    let two = gather_cells pair.two in
    let long = sixteen_cells pair.one in
    let long' = sixteen_cells pair.two in
    sym (ap (λ (n : ℕ). painted_at from at n two (painted_at from at p one out)) (add-zero p))
    ∙ painted_at-overlaid from at p 0 two one out (omega (arith, long, long')) (omega (arith, room, long))

-- what is written is what both make
pub pair_made : (from : List ℕ) (at p : ℕ) (pair : Pair) (signed : Bool) (out out' : List ℕ) → p + 16 ≤ length out
    → pair.two.signed ≡ signed
    → out' ≡ take p out
    ++ (with_constant (gathered pair.one.blend.mask.places (drop (at + pair.one.at) from))
    (lanes signed pair.two.blend.mask.places (drop (at + pair.two.at) from)) ++ drop (p + 16) out)
    → out' ≡ painted_at from at p (pair_cells pair) out
pair_made from at p pair signed out out' room is made =
    let one = pair.one in
    let two = pair.two in
    let places = one.blend.mask.places in
    let plain : IsPlain one.signed one.blend = one.alone pair.plain in
    let cells : gather_cells one ≡ plain_cells one.at places 16 =
    ap (λ (s : Bool). blend_cells s one.at places one.blend.keep one.blend.constant) plain.bytes
    ∙ ap (λ (k : List ℕ). blend_cells false one.at places k one.blend.constant) plain.none_kept
    ∙ ap (blend_cells false one.at places (replicate 16 0)) plain.none_set in
    let picks = gathered places (drop (at + one.at) from) in
    let window = drop (at + two.at) from in
    made
    ∙ sym (ap (λ (s : Bool). take p out ++ (with_constant picks (lanes s two.blend.mask.places window) ++ drop (p + 16) out)) is)
    ∙ paired_is two.signed from at one.at two.at p places two.blend.mask.places two.blend.keep two.blend.constant out pair.paired
    one.blend.mask.sixteen two.blend.mask.sixteen two.blend.sets room
    ∙ sym (ap (λ (c : List Cell). painted_at from at p (gather_cells two) (painted_at from at p c out)) cells)
    ∙ pair_merged from at p pair out room

-- one pair more
pub next_pair : (from : List ℕ) (at t k : ℕ) (pairs : List Pair) (pair : Pair) (out out' : List ℕ) → k < length pairs
    → pair ≡ get_or pairs k pair → t + pair.one.to + 16 ≤ length out → out' ≡ painted_at from at (t + pair.one.to) (pair_cells pair) out
    → gathered_at from at t (in_pairs (drop (k + 1) pairs)) out' ≡ gathered_at from at t (in_pairs (drop k pairs)) out
next_pair from at t k pairs pair out out' below is room made =
    let rest = drop (k + 1) pairs in
    let two = gather_cells pair.two in
    let first = painted_at from at (t + pair.one.to) (gather_cells pair.one) out in
    ap (gathered_at from at t (in_pairs rest))
    (made ∙ sym (pair_merged from at (t + pair.one.to) pair out room)
    ∙ sym (ap (λ (n : ℕ). painted_at from at (t + n) two first) pair.to))
    ∙ ap (λ (p : Pair). gathered_at from at t (in_pairs (p ∷ rest)) out) is
    ∙ sym (at_drop_more (λ (ps : List Pair). gathered_at from at t (in_pairs ps) out) pairs k pair below)

-- one pair more, for all records
pub next_pair_each : (from : List ℕ) (at stride t width n k : ℕ) (pairs : List Pair) (pair : Pair) (out out' : List ℕ) → k < length pairs
    → pair ≡ get_or pairs k pair → pair.one.to + 16 ≤ width → ((j : ℕ) → j < n → t + j * width + pair.one.to + 16 ≤ length out)
    → out' ≡ painted_each from at stride (t + pair.one.to) width n (pair_cells pair) out
    → gathered_each from at stride t width n (in_pairs (drop (k + 1) pairs)) out'
    ≡ gathered_each from at stride t width n (in_pairs (drop k pairs)) out
next_pair_each from at stride t width n k pairs pair out out' below is apart room made =
    let rest = drop (k + 1) pairs in
    let one = gather_cells pair.one in
    let two = gather_cells pair.two in
    let to = t + pair.one.to in
    let long' = sixteen_cells pair.two in
    let first = painted_each from at stride to width n one out in
    let merged = each_over from at stride to width n 16 0 two one out (sixteen_cells pair.one) (omega (arith, long')) (omega (arith, apart))
    (λ j under. let fits = room j under in omega (arith, fits)) in
    ap (gathered_each from at stride t width n (in_pairs rest))
    (made ∙ sym merged ∙ ap (λ (p : ℕ). painted_each from at stride p width n two first) (add-zero to)
    ∙ sym (ap (λ (m : ℕ). painted_each from at stride (t + m) width n two first) pair.to))
    ∙ ap (λ (p : Pair). gathered_each from at stride t width n (in_pairs (p ∷ rest)) out) is
    ∙ sym (at_drop_more (λ (ps : List Pair). gathered_each from at stride t width n (in_pairs ps) out) pairs k pair below)
