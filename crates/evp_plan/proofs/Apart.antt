-- Records that don't reach into one another can be made gather by gather.
use Rattle.std.proofs.Common.{◌≡◌, ℕ, zero, suc, ◌+◌, ◌*◌, ◌<◌, ◌≤◌, List, [], ◌∷◌, length, drop, get_or, refl, sym, ap, ◌∙◌, subst, arith}
use Rattle.std.specs.Prelude.{replicate}
use Rattle.std.specs.List.{All}
use Rattle.std.proofs.lemmas.List.{length-replicate, at_drop_more}
use Rattle.evp_plan.specs.declared.cell.Cell.{Cell}
use Rattle.evp_plan.specs.declared.cell.Cell.TheVariants.{Keep}
use Rattle.evp_plan.specs.declared.gather.Gather.{Gather}
use Rattle.evp_plan.specs.declared.gather.Gathers.{Gathers}
use Rattle.evp_plan.specs.declared.gather.Pair.{Pair}
use Rattle.evp_plan.specs.Cells.{cell_value, painted, painted_at, painted_each, overlaid, gather_cells, gathers_over, gathered_each}
use Rattle.evp_plan.specs.Cells.{IsGatherWithin, IsPairWithin, AreWithin}
use Rattle.evp_plan.specs.Pairs.{in_pairs, all_over}
use Rattle.evp_plan.proofs.AllGathers.{pairs_within}
use Rattle.evp_plan.proofs.Gathered.{no_gather, sixteen_cells, length-gathers_over}
use Rattle.evp_plan.proofs.Painting.{painted_at-overlaid, length-painted_at, length-overlaid}

-- ---- places that don't meet

front_apart : (from : List ℕ) (a b q : ℕ) (upper cells : List Cell) (out : List ℕ) → length upper ≤ q
    → painted from a upper (painted_at from b q cells out) ≡ painted_at from b q cells (painted from a upper out)
front_apart from a b q [] cells out apart = refl
front_apart from a b zero (cell ∷ upper) cells out apart = absurd (omega (arith, apart))
front_apart from a b (suc q) (cell ∷ upper) cells [] apart = refl
front_apart from a b (suc q) (cell ∷ upper) cells (old ∷ out) apart =
    ap (λ (l : List ℕ). cell_value from a cell old ∷ l) (front_apart from a b q upper cells out (omega (arith, apart)))

-- what is painted in front of the rest may be painted after it
places_apart : (from : List ℕ) (a b p q : ℕ) (upper cells : List Cell) (out : List ℕ) → p + length upper ≤ q
    → painted_at from a p upper (painted_at from b q cells out) ≡ painted_at from b q cells (painted_at from a p upper out)
places_apart from a b zero q upper cells out apart = front_apart from a b q upper cells out (omega (arith, apart))
places_apart from a b (suc p) zero upper cells out apart = absurd (omega (arith, apart))
places_apart from a b (suc p) (suc q) upper cells [] apart = refl
places_apart from a b (suc p) (suc q) upper cells (old ∷ out) apart =
    ap (λ (l : List ℕ). old ∷ l) (places_apart from a b p q upper cells out (omega (arith, apart)))

records_apart : (from : List ℕ) (a p b stride q width n : ℕ) (upper cells : List Cell) (out : List ℕ) → p + length upper ≤ q
    → painted_at from a p upper (painted_each from b stride q width n cells out)
    ≡ painted_each from b stride q width n cells (painted_at from a p upper out)
records_apart from a p b stride q width zero upper cells out apart = refl
records_apart from a p b stride q width (suc n) upper cells out apart =
    records_apart from a p (b + stride) stride (q + width) width n upper cells (painted_at from b q cells out) (omega (arith, apart))
    ∙ ap (painted_each from (b + stride) stride (q + width) width n cells) (places_apart from a b p q upper cells out apart)

-- ---- one gather more, for all records

pub each_over : (from : List ℕ) (at stride t width n m place : ℕ) (upper cells : List Cell) (out : List ℕ) → length cells ≡ m
    → place + length upper ≤ m → m ≤ width → ((k : ℕ) → k < n → t + k * width + m ≤ length out)
    → painted_each from at stride (t + place) width n upper (painted_each from at stride t width n cells out)
    ≡ painted_each from at stride t width n (overlaid place upper cells) out
each_over from at stride t width zero m place upper cells out long fits apart room = refl
each_over from at stride t width (suc n) m place upper cells out long fits apart room =
    let first = room 0 (omega arith) in
    let next : t + place + width ≡ t + width + place = omega arith in
    let made = painted_at from at t cells out in
    let over = painted_at from at t (overlaid place upper cells) out in
    ap (painted_each from (at + stride) stride (t + place + width) width n upper)
    (records_apart from at (t + place) (at + stride) stride (t + width) width n upper cells made (omega (arith, fits, apart))
    ∙ ap (painted_each from (at + stride) stride (t + width) width n cells)
    (painted_at-overlaid from at t place upper cells out (omega (arith, fits, long)) (omega (arith, first, long))))
    ∙ ap (λ (p : ℕ). painted_each from (at + stride) stride p width n upper
    (painted_each from (at + stride) stride (t + width) width n cells over)) next
    ∙ each_over from (at + stride) stride (t + width) width n m place upper cells over long fits apart
    (λ k below. let same = length-painted_at from at t (overlaid place upper cells) out in let more = room (suc k) (omega (arith, below)) in
    omega (arith, same, more))

pub next_each : (from : List ℕ) (at stride t width n k : ℕ) (gathers : List Gather) (gather : Gather) (out out' : List ℕ)
    → k < length gathers → gather ≡ get_or gathers k gather
    → out' ≡ painted_each from at stride (t + gather.to) width n (gather_cells gather) out
    → gathered_each from at stride t width n (drop (k + 1) gathers) out' ≡ gathered_each from at stride t width n (drop k gathers) out
next_each from at stride t width n k gathers gather out out' below is made =
    let rest = drop (k + 1) gathers in
    ap (gathered_each from at stride t width n rest) made
    ∙ ap (λ (g : Gather). gathered_each from at stride t width n (g ∷ rest) out) is
    ∙ sym (at_drop_more (λ (gs : List Gather). gathered_each from at stride t width n gs out) gathers k gather below)

-- ---- all gathers, for all records

each_gathered : (from : List ℕ) (at stride t width n m reach : ℕ) (gathers : List Gather) (cells : List Cell) (out : List ℕ)
    → All (IsGatherWithin m reach) gathers → length cells ≡ m → m ≤ width → ((k : ℕ) → k < n → t + k * width + m ≤ length out)
    → gathered_each from at stride t width n gathers (painted_each from at stride t width n cells out)
    ≡ painted_each from at stride t width n (gathers_over gathers cells) out
each_gathered from at stride t width n m reach [] cells out within long apart room = refl
each_gathered from at stride t width n m reach (gather ∷ gathers) cells out within long apart room =
    let upper = gather_cells gather in
    let fits = within 0 gather (omega arith) in
    let sixteen = sixteen_cells gather in
    ap (gathered_each from at stride t width n gathers)
    (each_over from at stride t width n m gather.to upper cells out long (omega (arith, fits.0, sixteen)) apart room)
    ∙ each_gathered from at stride t width n m reach gathers (overlaid gather.to upper cells) out
    (λ k d below. within (suc k) d (omega (arith, below))) (length-overlaid gather.to upper cells ∙ long) apart room

none_each : (from : List ℕ) (at stride t width n m : ℕ) (out : List ℕ) → painted_each from at stride t width n (replicate m Keep) out ≡ out
none_each from at stride t width zero m out = refl
none_each from at stride t width (suc n) m out =
    ap (painted_each from (at + stride) stride (t + width) width n (replicate m Keep)) (no_gather from at t m out)
    ∙ none_each from (at + stride) stride (t + width) width n m out

list_more : (from : List ℕ) (at stride t width n m reach : ℕ) (gathers : List Gather) (cells : List Cell) (old out out' : List ℕ)
    → All (IsGatherWithin m reach) gathers → length cells ≡ m → m ≤ width → ((k : ℕ) → k < n → t + k * width + m ≤ length old)
    → out ≡ painted_each from at stride t width n cells old → out' ≡ gathered_each from at stride t width n gathers out
    → out' ≡ painted_each from at stride t width n (gathers_over gathers cells) old
list_more from at stride t width n m reach gathers cells old out out' within long apart room made made' =
    made' ∙ ap (gathered_each from at stride t width n gathers) made
    ∙ each_gathered from at stride t width n m reach gathers cells old within long apart room

-- all lists, one after the other
pub all_each : (from : List ℕ) (at stride t width n m reach : ℕ) (gathers : Gathers) (cells : List Cell) (old one two three : List ℕ)
    → cells ≡ all_over gathers (replicate m Keep) → AreWithin m reach gathers
    → m ≤ width → ((k : ℕ) → k < n → t + k * width + m ≤ length old)
    → one ≡ gathered_each from at stride t width n gathers.plain.items old
    → two ≡ gathered_each from at stride t width n (in_pairs gathers.pairs.items) one
    → three ≡ gathered_each from at stride t width n gathers.mixed.items two
    → three ≡ painted_each from at stride t width n cells old
all_each from at stride t width n m reach gathers cells old one two three is within apart room made made' made'' =
    let keeps : List Cell = replicate m Keep in
    let pairs = in_pairs gathers.pairs.items in
    let first = gathers_over gathers.plain.items keeps in
    let second = gathers_over pairs first in
    let long : length keeps ≡ m = length-replicate {A = Cell} m Keep in
    let long' : length first ≡ m = length-gathers_over gathers.plain.items keeps ∙ long in
    let long'' : length second ≡ m = length-gathers_over pairs first ∙ long' in
    let none = sym (none_each from at stride t width n m old) in
    let after_first = list_more from at stride t width n m reach gathers.plain.items keeps old old one within.first long apart room
    none made in
    let after_second = list_more from at stride t width n m reach pairs first old one two
    (pairs_within m reach gathers.pairs.items within.second) long' apart room after_first made' in
    list_more from at stride t width n m reach gathers.mixed.items second old two three within.third long'' apart room
    after_second made''
    ∙ sym (ap (λ (c : List Cell). painted_each from at stride t width n c old) is)

-- where the gathers of a list have room in each record
pub all_room : (n m reach first apart room : ℕ) (gathers items : List Gather) → gathers ≡ items → All (IsGatherWithin m reach) items
    → ((k : ℕ) → k < n → first + k * apart + m ≤ room)
    → All (λ (g : Gather). (k : ℕ) → k < n → first + k * apart + g.to + 16 ≤ room) gathers
all_room n m reach first apart room gathers items is within rooms = λ i d below k under.
    (let P : List Gather → Type 0 = λ gs. All (IsGatherWithin m reach) gs in
    let here = subst P (sym is) within i d below in
    let fits = rooms k under in
    omega (arith, here.0, fits))

-- the same of pairs, which are all inside their records
pub pairs_room : (n m reach first apart room : ℕ) (pairs items : List Pair) → pairs ≡ items → All (IsPairWithin m reach) items
    → m ≤ apart → ((k : ℕ) → k < n → first + k * apart + m ≤ room)
    → All (λ (p : Pair). (p.one.to + 16 ≤ apart) × ((k : ℕ) → k < n → first + k * apart + p.one.to + 16 ≤ room)) pairs
pairs_room n m reach first apart room pairs items is within wide rooms = λ i d below.
    (let here = subst (λ (ps : List Pair). All (IsPairWithin m reach) ps) (sym is) within i d below in
    (omega (arith, here.0.0, wide), λ k under. (let fits = rooms k under in omega (arith, here.0.0, fits))))
