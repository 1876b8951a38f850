-- A gather paints by its cells.
use Rattle.std.proofs.Common.{◌≡◌, ℕ, zero, suc, ◌+◌, ◌<◌, ◌≤◌, Bool, true, false, ◌&&◌, List, [], ◌∷◌, ◌++◌, length, take}
use Rattle.std.proofs.Common.{drop, get_or, refl, sym, ap, ◌∙◌, subst, ◌⊎◌, inl, inr, arith}
use Rattle.std.specs.Prelude.{slice_index, replicate, IfSome, Option, Some, None}
use Rattle.std.proofs.Math.Nat.{mod-eq_of_lt}
use Rattle.std.proofs.lemmas.Bool.Decides.{nat_tests}
use Rattle.std.proofs.lemmas.Grind.{and_numeral}
use Rattle.std.proofs.lemmas.Bool.{lt-ltb, le-ltb}
use Rattle.std.proofs.lemmas.List.{get_or-drop, at_drop_more}
use Rattle.std.specs.Int.Bits.{bit_or, bit_and, or_zero_l, or_zero_r, and_zero_r}
use lib.Lanes.{zip2}
use Rattle.evp_base.proofs.Digits.{AreBytes}
use Rattle.evp_wide.specs.Gathered.{picked, sign_byte, with_constant, with_kept}
use Rattle.evp_plan.specs.declared.cell.Cell.{Cell}
use Rattle.evp_plan.specs.declared.cell.Cell.TheVariants.{Keep, Constant}
use Rattle.evp_plan.specs.declared.gather.Gather.{Gather}
use Rattle.evp_plan.specs.Cells.{cell_value, painted, painted_at, overlaid, picked_cell, blend_cell, blend_cells, gather_cells}
use Rattle.evp_plan.specs.Cells.{gathers_over, lanes, written}
use Rattle.evp_plan.specs.Cells.{IsGatherWithin, gathered_at}
use Rattle.std.specs.List.{All}
use Rattle.evp_plan.specs.Clean.{is_clean_byte, is_clean}
use Rattle.evp_plan.proofs.Painting.{painted_at-overlaid, length-overlaid}

-- ---- one byte

kept : (old : ℕ) → old < 256 → bit_and old 255 ≡ old
kept old below = and_numeral old 254 refl ∙ mod-eq_of_lt below

clean_cases : (place keep constant : ℕ) → is_clean_byte place keep constant ≡ true
    → ((place < 16) × ((keep ≡ 0) × (constant ≡ 0))) ⊎ (((128 ≤ place) × (keep ≡ 0)) ⊎ ((128 ≤ place) × ((keep ≡ 255) × (constant ≡ 0))))
clean_cases place keep constant clean = grind (arith, nat_tests)

-- a byte that is picked, or its sign
abbrev pub read_as : Bool → ℕ → ℕ
read_as false byte = byte
read_as true byte = sign_byte byte

pub none_read : (signed : Bool) → read_as signed 0 ≡ 0
none_read false = refl
none_read true = refl

pub value_read : (signed : Bool) (from : List ℕ) (at offset old : ℕ)
    → cell_value from at (picked_cell signed offset) old ≡ read_as signed (slice_index from (at + offset))
value_read false from at offset old = refl
value_read true from at offset old = refl

-- a byte of a window is one of the record's
pub byte_there : (from : List ℕ) (at offset place : ℕ) → place < 16
    → picked (drop (at + offset) from) place ≡ slice_index from (at + (offset + place))
byte_there from at offset place below =
    rw (lt-ltb place 16 below) (get_or-drop (at + offset) from place 0 ∙ ap (λ (n : ℕ). slice_index from n) (omega arith))

-- the byte that is written, by its three sources
abbrev blended : Bool → List ℕ → ℕ → ℕ → ℕ → ℕ → ℕ
blended signed window place keep constant old = bit_or (bit_or (read_as signed (picked window place)) (bit_and old keep)) constant

byte_is : (signed : Bool) (from : List ℕ) (at offset place keep constant old : ℕ) → old < 256 → is_clean_byte place keep constant ≡ true
    → blended signed (drop (at + offset) from) place keep constant old
    ≡ cell_value from at (blend_cell signed offset place keep constant) old
byte_is signed from at offset place keep constant old below clean =
    let window = drop (at + offset) from in
    let read = read_as signed (picked window place) in
    elim (clean_cases place keep constant clean) [
      | inl one ↦
          let there = byte_there from at offset place one.0 in
          let cell : blend_cell signed offset place keep constant ≡ picked_cell signed (offset + place) = rw (lt-ltb place 16 one.0) refl in
          ap (λ (k : ℕ). blended signed window place k constant old) one.1.0 ∙ ap (λ (k : ℕ). blended signed window place 0 k old) one.1.1
          ∙ or_zero_r (bit_or read (bit_and old 0)) ∙ ap (bit_or read) (and_zero_r old) ∙ or_zero_r read
          ∙ ap (read_as signed) there ∙ sym (value_read signed from at (offset + place) old)
          ∙ sym (ap (λ (c : Cell). cell_value from at c old) cell)
      | inr (inl two) ↦
          let none : picked window place ≡ 0 = rw (le-ltb place 16 (omega (arith, two))) refl in
          let cell : blend_cell signed offset place keep constant ≡ Constant constant =
          rw (le-ltb place 16 (omega (arith, two)), two.1) refl in
          ap (λ (k : ℕ). blended signed window place k constant old) two.1
          ∙ ap (λ (b : ℕ). bit_or (bit_or b (bit_and old 0)) constant) (ap (read_as signed) none ∙ none_read signed)
          ∙ ap (λ (b : ℕ). bit_or b constant) (or_zero_l (bit_and old 0) ∙ and_zero_r old) ∙ or_zero_l constant
          ∙ sym (ap (λ (c : Cell). cell_value from at c old) cell)
      | inr (inr three) ↦
          let none : picked window place ≡ 0 = rw (le-ltb place 16 (omega (arith, three))) refl in
          let cell : blend_cell signed offset place keep constant ≡ Keep = rw (le-ltb place 16 (omega (arith, three)), three.1.0) refl in
          ap (λ (k : ℕ). blended signed window place k constant old) three.1.0
          ∙ ap (λ (k : ℕ). blended signed window place 255 k old) three.1.1
          ∙ or_zero_r (bit_or read (bit_and old 255))
          ∙ ap (λ (b : ℕ). bit_or b (bit_and old 255)) (ap (read_as signed) none ∙ none_read signed)
          ∙ or_zero_l (bit_and old 255) ∙ kept old below
          ∙ sym (ap (λ (c : Cell). cell_value from at c old) cell)
    ]

-- ---- all bytes of a block

pub clean_first : (place keep constant : ℕ) (places keeps constants : List ℕ)
    → is_clean (place ∷ places) (keep ∷ keeps) (constant ∷ constants) ≡ true
    → (is_clean_byte place keep constant ≡ true) × (is_clean places keeps constants ≡ true)
clean_first place keep constant places keeps constants clean = both (is_clean_byte place keep constant) (is_clean places keeps constants)
    clean
  where
    both : (a b : Bool) → (a && b) ≡ true → (a ≡ true) × (b ≡ true)
    both true b is = (refl, is)
    both false b is = cc

pub first_lane : (signed : Bool) (place : ℕ) (places window : List ℕ)
    → lanes signed (place ∷ places) window ≡ read_as signed (picked window place) ∷ lanes signed places window
first_lane false place places window = refl
first_lane true place places window = refl

pub no_lane : (signed : Bool) (window : List ℕ) → lanes signed [] window ≡ []
no_lane false window = refl
no_lane true window = refl

-- the bytes of a block that are written
abbrev block : List ℕ → List ℕ → List ℕ → ℕ → List ℕ → List ℕ
block picked keeps constants n out = zip2 bit_or (zip2 bit_or picked (zip2 bit_and (take n out) keeps)) constants ++ drop n out

block_is : (signed : Bool) (from : List ℕ) (at offset : ℕ) (places keeps constants out : List ℕ) → AreBytes out
    → is_clean places keeps constants ≡ true → length keeps ≡ length places → length constants ≡ length places
    → length places ≤ length out
    → block (lanes signed places (drop (at + offset) from)) keeps constants (length places) out
    ≡ painted from at (blend_cells signed offset places keeps constants) out
block_is signed from at offset [] keeps constants out are clean long long' room =
    ap (λ (l : List ℕ). block l keeps constants 0 out) (no_lane signed (drop (at + offset) from))
block_is signed from at offset (place ∷ places) [] constants out are clean long long' room = absurd (omega (arith, long))
block_is signed from at offset (place ∷ places) (keep ∷ keeps) [] out are clean long long' room = absurd (omega (arith, long'))
block_is signed from at offset (place ∷ places) (keep ∷ keeps) (constant ∷ constants) [] are clean long long' room =
    absurd (omega (arith, room))
block_is signed from at offset (place ∷ places) (keep ∷ keeps) (constant ∷ constants) (old ∷ out) are clean long long' room =
    let window = drop (at + offset) from in
    let parts = clean_first place keep constant places keeps constants clean in
    let rest = block_is signed from at offset places keeps constants out (λ k d below. are (suc k) d (omega arith)) parts.1
    (omega (arith, long)) (omega (arith, long')) (omega (arith, room)) in
    ap (λ (l : List ℕ). block l (keep ∷ keeps) (constant ∷ constants) (suc (length places)) (old ∷ out))
    (first_lane signed place places window)
    ∙ ap (λ (b : ℕ). b ∷ block (lanes signed places window) keeps constants (length places) out)
    (byte_is signed from at offset place keep constant old (are 0 0 (omega arith)) parts.0)
    ∙ ap (λ (l : List ℕ). cell_value from at (blend_cell signed offset place keep constant) old ∷ l) rest

pub gather_is : (signed : Bool) (from : List ℕ) (at offset to : ℕ) (places keeps constants out : List ℕ) → AreBytes out
    → is_clean places keeps constants ≡ true
    → length places ≡ 16 → length keeps ≡ 16 → length constants ≡ 16 → to + 16 ≤ length out
    → take to out ++ (with_constant (with_kept (lanes signed places (drop (at + offset) from)) keeps (drop to out)) constants
    ++ drop (to + 16) out)
    ≡ painted_at from at to (blend_cells signed offset places keeps constants) out
gather_is signed from at offset zero places keeps constants out are clean long long' long'' room =
    let whole = block_is signed from at offset places keeps constants out are clean (long' ∙ sym long) (long'' ∙ sym long)
    (omega (arith, long, room)) in
    let P : ℕ → Type 0 = λ n.
    block (lanes signed places (drop (at + offset) from)) keeps constants n out
    ≡ painted from at (blend_cells signed offset places keeps constants) out in
    subst P long whole
gather_is signed from at offset (suc to) places keeps constants [] are clean long long' long'' room = absurd (omega (arith, room))
gather_is signed from at offset (suc to) places keeps constants (byte ∷ out) are clean long long' long'' room =
    let next : suc to + 16 ≡ suc (to + 16) = omega arith in
    ap (λ (n : ℕ). byte
    ∷ (take to out ++ (with_constant (with_kept (lanes signed places (drop (at + offset) from)) keeps (drop to out)) constants
    ++ drop n (byte ∷ out)))) next
    ∙ ap (λ (l : List ℕ). byte ∷ l) (gather_is signed from at offset to places keeps constants out
    (λ k d below. are (suc k) d (omega arith)) clean long long' long'' (omega (arith, room)))

-- ---- gathers one after another

pub length-gathers_over : (gathers : List Gather) (cells : List Cell) → length (gathers_over gathers cells) ≡ length cells
length-gathers_over [] cells = refl
length-gathers_over (gather ∷ gathers) cells =
    length-gathers_over gathers (overlaid gather.to (gather_cells gather) cells) ∙ length-overlaid gather.to (gather_cells gather) cells

pub length-blend_cells : (signed : Bool) (offset : ℕ) (places keeps constants : List ℕ)
    → length keeps ≡ length places → length constants ≡ length places
    → length (blend_cells signed offset places keeps constants) ≡ length places
length-blend_cells signed offset [] keeps constants long long' = refl
length-blend_cells signed offset (place ∷ places) [] constants long long' = absurd (omega (arith, long))
length-blend_cells signed offset (place ∷ places) (keep ∷ keeps) [] long long' = absurd (omega (arith, long'))
length-blend_cells signed offset (place ∷ places) (keep ∷ keeps) (constant ∷ constants) long long' =
    ap suc (length-blend_cells signed offset places keeps constants (omega (arith, long)) (omega (arith, long')))

-- a gather's sixteen bytes, of its record at t
pub one_gather : (from : List ℕ) (at t : ℕ) (gather : Gather) (out out' : List ℕ) → AreBytes out → t + gather.to + 16 ≤ length out
    → out' ≡ written (lanes gather.signed gather.blend.mask.places (drop (at + gather.at) from)) gather.blend (t + gather.to) out
    → out' ≡ painted_at from at (t + gather.to) (gather_cells gather) out
one_gather from at t gather out out' are room made =
    let blend = gather.blend in
    made ∙ gather_is gather.signed from at gather.at (t + gather.to) blend.mask.places blend.keep blend.constant out are gather.clean
    blend.mask.sixteen blend.keeps blend.sets room

pub sixteen_cells : (gather : Gather) → length (gather_cells gather) ≡ 16
sixteen_cells gather =
    let blend = gather.blend in
    length-blend_cells gather.signed gather.at blend.mask.places blend.keep blend.constant (blend.keeps ∙ sym blend.mask.sixteen)
    (blend.sets ∙ sym blend.mask.sixteen) ∙ blend.mask.sixteen

-- one gather more
pub next_gather : (from : List ℕ) (at t k : ℕ) (gathers : List Gather) (gather : Gather) (out out' : List ℕ) → k < length gathers
    → gather ≡ get_or gathers k gather → out' ≡ painted_at from at (t + gather.to) (gather_cells gather) out
    → gathered_at from at t (drop (k + 1) gathers) out' ≡ gathered_at from at t (drop k gathers) out
next_gather from at t k gathers gather out out' below is made =
    let rest = drop (k + 1) gathers in
    ap (gathered_at from at t rest) made
    ∙ ap (λ (g : Gather). gathered_at from at t (g ∷ rest) out) is
    ∙ sym (at_drop_more (λ (gs : List Gather). gathered_at from at t gs out) gathers k gather below)

-- gathers one after another paint by their cells, laid over those before
pub painted_over : (from : List ℕ) (at t n reach : ℕ) (gathers : List Gather) (cells : List Cell) (out : List ℕ)
    → All (IsGatherWithin n reach) gathers → length cells ≡ n → t + n ≤ length out
    → gathered_at from at t gathers (painted_at from at t cells out) ≡ painted_at from at t (gathers_over gathers cells) out
painted_over from at t n reach [] cells out within long room = refl
painted_over from at t n reach (gather ∷ gathers) cells out within long room =
    let upper = gather_cells gather in
    let fits = within 0 gather (omega arith) in
    let sixteen = sixteen_cells gather in
    ap (gathered_at from at t gathers)
    (painted_at-overlaid from at t gather.to upper cells out (omega (arith, fits.0, sixteen, long)) (omega (arith, room, long)))
    ∙ painted_over from at t n reach gathers (overlaid gather.to upper cells) out (λ k d below. within (suc k) d (omega (arith, below)))
    (length-overlaid gather.to upper cells ∙ long) room

painted-Keep : (from : List ℕ) (at n : ℕ) (out : List ℕ) → painted from at (replicate n Keep) out ≡ out
painted-Keep from at zero out = refl
painted-Keep from at (suc n) [] = refl
painted-Keep from at (suc n) (old ∷ out) = ap (λ (l : List ℕ). old ∷ l) (painted-Keep from at n out)

pub no_gather : (from : List ℕ) (at t n : ℕ) (out : List ℕ) → painted_at from at t (replicate n Keep) out ≡ out
no_gather from at zero n out = painted-Keep from at n out
no_gather from at (suc t) n [] = refl
no_gather from at (suc t) n (byte ∷ out) = ap (λ (l : List ℕ). byte ∷ l) (no_gather from at t n out)

pub painted-zeros : (from : List ℕ) (at n : ℕ) (out : List ℕ) → n ≡ length out
    → painted from at (replicate n (Constant 0)) out ≡ replicate (length out) 0
painted-zeros from at zero [] long = refl
painted-zeros from at zero (old ∷ out) long = absurd (omega (arith, long))
painted-zeros from at (suc n) [] long = absurd (omega (arith, long))
painted-zeros from at (suc n) (old ∷ out) long = ap (λ (l : List ℕ). 0 ∷ l) (painted-zeros from at n out (omega (arith, long)))

-- where the gathers of a list have room
pub all_fit : (n reach at t long room : ℕ) (gathers items : List Gather) → gathers ≡ items → All (IsGatherWithin n reach) items
    → at + reach ≤ long → t + n ≤ room
    → All (λ (g : Gather). (at + g.at + 16 ≤ long) × (t + g.to + 16 ≤ room)) gathers
all_fit n reach at t long room gathers items is within reaches fits = λ k d below.
    (let P : List Gather → Type 0 = λ gs. All (IsGatherWithin n reach) gs in
    let here = subst P (sym is) within k d below in
    (omega (arith, here.1, reaches), omega (arith, here.0, fits)))

-- a gather that stands at a place within has room
pub within_if : (made : Option Gather) (to at n reach : ℕ) → IfSome made (λ gather. (gather.to ≡ to) × (gather.at ≡ at)) → to + 16 ≤ n
    → at + 16 ≤ reach → IfSome made (IsGatherWithin n reach)
within_if None to at n reach is fits reaches = is
within_if (Some gather) to at n reach is fits reaches = (omega (arith, is.0, fits), omega (arith, is.1, reaches))
