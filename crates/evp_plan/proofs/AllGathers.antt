-- All gathers of a record, one list after another.
use Rattle.std.proofs.Common.{◌≡◌, ℕ, ◌+◌, ◌≤◌, List, [], ◌∷◌, length, sym, ap, ◌∙◌, subst, arith}
use Rattle.std.specs.Prelude.{replicate}
use Rattle.std.specs.List.{All}
use Rattle.std.proofs.lemmas.List.{length-replicate}
use Rattle.std.proofs.lemmas.List.Elements.{All-nil, All-cons, All-tail}
use Rattle.evp_plan.specs.declared.cell.Cell.{Cell}
use Rattle.evp_plan.specs.declared.cell.Cell.TheVariants.{Keep}
use Rattle.evp_plan.specs.declared.gather.Gather.{Gather}
use Rattle.evp_plan.specs.declared.gather.Gathers.{Gathers}
use Rattle.evp_plan.specs.declared.gather.Pair.{Pair}
use Rattle.evp_plan.specs.Cells.{painted_at, gathers_over, gathered_at, IsGatherWithin, IsPairWithin, AreWithin}
use Rattle.evp_plan.specs.Pairs.{in_pairs, all_over}
use Rattle.evp_plan.proofs.Gathered.{length-gathers_over, painted_over, no_gather}

-- the gathers of pairs that are within
pub pairs_within : (n reach : ℕ) (pairs : List Pair) → All (IsPairWithin n reach) pairs → All (IsGatherWithin n reach) (in_pairs pairs)
pairs_within n reach [] within = All-nil (IsGatherWithin n reach)
pairs_within n reach (pair ∷ pairs) within =
    let Within = IsGatherWithin n reach in
    let first = within 0 pair (omega arith) in
    let rest = pairs_within n reach pairs (All-tail (IsPairWithin n reach) pair pairs within) in
    All-cons Within pair.one (pair.two ∷ in_pairs pairs) first.0 (All-cons Within pair.two (in_pairs pairs) first.1 rest)

pub length-all_over : (gathers : Gathers) (cells : List Cell) → length (all_over gathers cells) ≡ length cells
length-all_over gathers cells =
    let first = gathers_over gathers.plain.items cells in
    let second = gathers_over (in_pairs gathers.pairs.items) first in
    length-gathers_over gathers.mixed.items second ∙ length-gathers_over (in_pairs gathers.pairs.items) first
    ∙ length-gathers_over gathers.plain.items cells

-- cells as a method sees them
pub cells_long : (cells : List Cell) (gathers : Gathers) (n : ℕ) → cells ≡ all_over gathers (replicate n Keep) → length cells ≡ n
cells_long cells gathers n is = ap length is ∙ length-all_over gathers (replicate n Keep) ∙ length-replicate {A = Cell} n Keep

-- one list more
list_more : (from : List ℕ) (at t n reach : ℕ) (gathers : List Gather) (cells : List Cell) (old out out' : List ℕ)
    → All (IsGatherWithin n reach) gathers → length cells ≡ n → t + n ≤ length old → out ≡ painted_at from at t cells old
    → out' ≡ gathered_at from at t gathers out → out' ≡ painted_at from at t (gathers_over gathers cells) old
list_more from at t n reach gathers cells old out out' within long room made made' =
    made' ∙ ap (gathered_at from at t gathers) made ∙ painted_over from at t n reach gathers cells old within long room

-- all lists, one after the other
pub all_gathers : (from : List ℕ) (at t n reach : ℕ) (gathers : Gathers) (cells : List Cell) (old one two three : List ℕ)
    → cells ≡ all_over gathers (replicate n Keep) → AreWithin n reach gathers → t + n ≤ length old
    → one ≡ gathered_at from at t gathers.plain.items old → two ≡ gathered_at from at t (in_pairs gathers.pairs.items) one
    → three ≡ gathered_at from at t gathers.mixed.items two → three ≡ painted_at from at t cells old
all_gathers from at t n reach gathers cells old one two three is within room made made' made'' =
    let keeps : List Cell = replicate n Keep in
    let pairs = in_pairs gathers.pairs.items in
    let first = gathers_over gathers.plain.items keeps in
    let second = gathers_over pairs first in
    let long : length keeps ≡ n = length-replicate {A = Cell} n Keep in
    let long' : length first ≡ n = length-gathers_over gathers.plain.items keeps ∙ long in
    let long'' : length second ≡ n = length-gathers_over pairs first ∙ long' in
    let none = sym (no_gather from at t n old) in
    let after_first = list_more from at t n reach gathers.plain.items keeps old old one within.first long room none made in
    let after_second = list_more from at t n reach pairs first old one two
    (pairs_within n reach gathers.pairs.items within.second) long' room after_first made' in
    list_more from at t n reach gathers.mixed.items second old two three within.third long'' room after_second made''
    ∙ sym (ap (λ (c : List Cell). painted_at from at t c old) is)

-- where the pairs of a list have room
pub pairs_fit : (n reach at t long room : ℕ) (pairs items : List Pair) → pairs ≡ items → All (IsPairWithin n reach) items
    → at + reach ≤ long → t + n ≤ room
    → All (λ (p : Pair). (at + p.one.at + 16 ≤ long) × ((at + p.two.at + 16 ≤ long) × (t + p.one.to + 16 ≤ room))) pairs
pairs_fit n reach at t long room pairs items is within reaches fits = λ k d below.
    (let here = subst (λ (ps : List Pair). All (IsPairWithin n reach) ps) (sym is) within k d below in
    (omega (arith, here.0.1, reaches), (omega (arith, here.1.1, reaches), omega (arith, here.0.0, fits))))

-- the same of two that are all
pub both_fit : (n reach at t long room : ℕ) (one two : Pair) (items : List Pair) → items ≡ one ∷ two ∷ []
    → All (IsPairWithin n reach) items → at + reach ≤ long → t + n ≤ room
    → ((at + one.one.at + 16 ≤ long) × ((at + one.two.at + 16 ≤ long) × (t + one.one.to + 16 ≤ room)))
    × ((at + two.one.at + 16 ≤ long) × ((at + two.two.at + 16 ≤ long) × (t + two.one.to + 16 ≤ room)))
both_fit n reach at t long room one two items is within reaches fits =
    let all = pairs_fit n reach at t long room (one ∷ two ∷ []) items (sym is) within reaches fits in
    (all 0 one (omega arith), all 1 two (omega arith))
