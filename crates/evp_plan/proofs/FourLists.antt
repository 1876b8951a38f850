-- Gathers that are run four at a time.
use Rattle.std.proofs.Common.{◌≡◌, ℕ, ◌+◌, ◌*◌, ◌<◌, ◌≤◌, List, [], ◌∷◌, ◌++◌, length, take, drop, get_or, refl, sym, ap, ◌∙◌}
use Rattle.std.proofs.Common.{subst, arith, append_assoc}
use Rattle.std.specs.List.{All}
use Rattle.std.proofs.lemmas.List.{take_more, at_drop_more}
use Rattle.std.proofs.lemmas.List.Elements.{All-nil, All-cons, All-tail}
use Rattle.evp_base.proofs.Digits.{AreBytes}
use Rattle.evp_plan.specs.declared.gather.Four.{Four}
use Rattle.evp_plan.specs.declared.gather.Gather.{Gather}
use Rattle.evp_plan.specs.Cells.{gather_cells, gathered_at, lanes, painted_at, written, IsGatherWithin}
use Rattle.evp_plan.specs.declared.gather.Pair.{Pair}
use Rattle.evp_plan.specs.Fours.{in_fours, AreParted}
use Rattle.evp_plan.specs.Pairs.{in_pairs}
use Rattle.evp_plan.proofs.Gathered.{one_gather}

-- ---- the lists that are made

in_fours-append : (xs ys : List Four) → in_fours (xs ++ ys) ≡ in_fours xs ++ in_fours ys
in_fours-append [] ys = refl
in_fours-append (four ∷ xs) ys =
    ap (λ (gs : List Gather). four.one ∷ four.two ∷ four.three ∷ four.four ∷ gs) (in_fours-append xs ys)

own_more : (gathers : List Gather) (k : ℕ) (gather : Gather) → k < length gathers → gather ≡ get_or gathers k gather
    → take (k + 1) gathers ≡ take k gathers ++ gather ∷ []
own_more gathers k gather below is =
    take_more gathers k gather below ∙ ap (λ (g : Gather). take k gathers ++ g ∷ []) (sym is)

pub own_index : (gathers : List Gather) (k : ℕ) (gather item : Gather) → gather ≡ item → item ≡ get_or gathers k item
    → gather ≡ get_or gathers k gather
own_index gathers k gather item same is = same ∙ is ∙ ap (get_or gathers k) (sym same)

pub four_pushed : (gathers : List Gather) (k : ℕ) (fours pushed : List Four) (made : Four) → k * 4 + 4 ≤ length gathers
    → in_fours fours ≡ take (k * 4) gathers → made.one ≡ get_or gathers (k * 4) made.one → made.two ≡ get_or gathers (k * 4 + 1) made.two
    → made.three ≡ get_or gathers (k * 4 + 2) made.three → made.four ≡ get_or gathers (k * 4 + 3) made.four
    → pushed ≡ fours ++ made ∷ [] → in_fours pushed ≡ take ((k + 1) * 4) gathers
four_pushed gathers k fours pushed made below so_far one two three four is =
    let n = k * 4 in
    let a = own_more gathers n made.one (omega (arith, below)) one in
    let b = own_more gathers (n + 1) made.two (omega (arith, below)) two in
    let to_two : n + 2 ≡ n + 1 + 1 = omega arith in
    let to_three : n + 3 ≡ n + 2 + 1 = omega arith in
    let to_four : (k + 1) * 4 ≡ n + 3 + 1 = omega arith in
    let c = own_more gathers (n + 2) made.three (omega (arith, below)) three in
    let d = own_more gathers (n + 3) made.four (omega (arith, below)) four in
    let first = take n gathers in
    let up_to : take ((k + 1) * 4) gathers ≡ first ++ made.one ∷ made.two ∷ made.three ∷ made.four ∷ [] =
    ap (λ (i : ℕ). take i gathers) to_four ∙ d
    ∙ ap (λ (gs : List Gather). gs ++ made.four ∷ []) (ap (λ (i : ℕ). take i gathers) to_three ∙ c
    ∙ ap (λ (gs : List Gather). gs ++ made.three ∷ []) (ap (λ (i : ℕ). take i gathers) to_two ∙ b
    ∙ ap (λ (gs : List Gather). gs ++ made.two ∷ []) a ∙ append_assoc first (made.one ∷ []) (made.two ∷ []))
    ∙ append_assoc first (made.one ∷ made.two ∷ []) (made.three ∷ []))
    ∙ append_assoc first (made.one ∷ made.two ∷ made.three ∷ []) (made.four ∷ []) in
    ap in_fours is ∙ in_fours-append fours (made ∷ [])
    ∙ ap (λ (gs : List Gather). gs ++ made.one ∷ made.two ∷ made.three ∷ made.four ∷ []) so_far ∙ sym up_to

pub rest_pushed : (gathers rest pushed : List Gather) (k : ℕ) (gather : Gather) (whole : List Gather) → k < length gathers
    → gather ≡ get_or gathers k gather → pushed ≡ rest ++ gather ∷ [] → rest ++ drop k gathers ≡ whole
    → pushed ++ drop (k + 1) gathers ≡ whole
rest_pushed gathers rest pushed k gather whole below is made so_far =
    ap (λ (gs : List Gather). gs ++ drop (k + 1) gathers) made ∙ append_assoc rest (gather ∷ []) (drop (k + 1) gathers)
    ∙ ap (λ (g : Gather). rest ++ g ∷ drop (k + 1) gathers) is
    ∙ sym (at_drop_more (λ (gs : List Gather). rest ++ gs) gathers k gather below) ∙ so_far

-- ---- what they do

-- a gather by places that are its own
pub placed : (from : List ℕ) (at t : ℕ) (gather : Gather) (to begin : ℕ) (out out' : List ℕ) → AreBytes out → to ≡ t + gather.to
    → begin ≡ at + gather.at → t + gather.to + 16 ≤ length out
    → out' ≡ written (lanes gather.signed gather.blend.mask.places (drop begin from)) gather.blend to out
    → out' ≡ painted_at from at (t + gather.to) (gather_cells gather) out
placed from at t gather to begin out out' are to_is begin_is room made =
    one_gather from at t gather out out' are room
    (made ∙ ap (λ (b : ℕ). written (lanes gather.signed gather.blend.mask.places (drop b from)) gather.blend to out) begin_is
    ∙ ap (λ (p : ℕ). written (lanes gather.signed gather.blend.mask.places (drop (at + gather.at) from)) gather.blend p out) to_is)

pub next_four : (from : List ℕ) (at t k : ℕ) (fours : List Four) (four : Four) (out out' : List ℕ) → k < length fours
    → four ≡ get_or fours k four
    → out' ≡ gathered_at from at t (four.one ∷ four.two ∷ four.three ∷ four.four ∷ []) out
    → gathered_at from at t (in_fours (drop (k + 1) fours)) out' ≡ gathered_at from at t (in_fours (drop k fours)) out
next_four from at t k fours four out out' below is made =
    let rest = drop (k + 1) fours in
    ap (gathered_at from at t (in_fours rest)) made
    ∙ ap (λ (f : Four). gathered_at from at t (in_fours (f ∷ rest)) out) is
    ∙ sym (at_drop_more (λ (fs : List Four). gathered_at from at t (in_fours fs) out) fours k four below)

gathered-append : (from : List ℕ) (at t : ℕ) (xs ys : List Gather) (out : List ℕ)
    → gathered_at from at t (xs ++ ys) out ≡ gathered_at from at t ys (gathered_at from at t xs out)
gathered-append from at t [] ys out = refl
gathered-append from at t (gather ∷ xs) ys out =
    gathered-append from at t xs ys (painted_at from at (t + gather.to) (gather_cells gather) out)

-- fours and the rest do what all of them do
pub both_parts : (from : List ℕ) (at t : ℕ) (gathers rest : List Gather) (fours : List Four) (old out out' : List ℕ)
    → AreParted gathers fours rest → out ≡ gathered_at from at t (in_fours fours) old → out' ≡ gathered_at from at t rest out
    → out' ≡ gathered_at from at t gathers old
both_parts from at t gathers rest fours old out out' parted made made' =
    made' ∙ ap (gathered_at from at t rest) made ∙ sym (gathered-append from at t (in_fours fours) rest old)
    ∙ ap (λ (gs : List Gather). gathered_at from at t gs old) parted

-- ---- where they are

past : (P : Gather → Type 0) (a b c d : Gather) (gathers : List Gather) → All P (a ∷ b ∷ c ∷ d ∷ gathers) → All P gathers
past P a b c d gathers all =
    All-tail P d gathers (All-tail P c (d ∷ gathers) (All-tail P b (c ∷ d ∷ gathers) (All-tail P a (b ∷ c ∷ d ∷ gathers) all)))

all_behind : (P : Gather → Type 0) (fours : List Four) (rest : List Gather) → All P (in_fours fours ++ rest) → All P rest
all_behind P [] rest all = all
all_behind P (four ∷ fours) rest all =
    all_behind P fours rest (past P four.one four.two four.three four.four (in_fours fours ++ rest) all)

all_fours : (P : Gather → Type 0) (fours : List Four) (rest : List Gather) → All P (in_fours fours ++ rest)
    → All (λ (four : Four). P four.four) fours
all_fours P [] rest all = All-nil (λ (four : Four). P four.four)
all_fours P (four ∷ fours) rest all =
    All-cons (λ (f : Four). P f.four) four fours (all 3 four.four (omega arith))
    (all_fours P fours rest (past P four.one four.two four.three four.four (in_fours fours ++ rest) all))

pub rest_all : (P : Gather → Type 0) (gathers rest : List Gather) (fours : List Four) → AreParted gathers fours rest → All P gathers
    → All P rest
rest_all P gathers rest fours parted all = all_behind P fours rest (subst (λ (gs : List Gather). All P gs) (sym parted) all)

pub fours_fit : (n reach at t long room : ℕ) (gathers rest : List Gather) (fours slice : List Four) → slice ≡ fours
    → AreParted gathers fours rest → All (IsGatherWithin n reach) gathers → at + reach ≤ long → t + n ≤ room
    → All (λ (four : Four). (at + four.one.at + 64 ≤ long) × (t + four.one.to + 64 ≤ room)) slice
fours_fit n reach at t long room gathers rest fours slice same parted within reaches fits = λ k d below.
    (let P : Gather → Type 0 = IsGatherWithin n reach in
    let all = all_fours P fours rest (subst (λ (gs : List Gather). All P gs) (sym parted) within) in
    let here = subst (λ (fs : List Four). All (λ (four : Four). P four.four) fs) (sym same) all k d below in
    let four = get_or slice k d in
    let at_is = four.at.1.1 in
    let to_is = four.to.1.1 in
    (omega (arith, here.1, reaches, at_is), omega (arith, here.0, fits, to_is)))

-- ---- where there is nothing else

pub no_gathers : (from : List ℕ) (at t : ℕ) (gathers : List Gather) (out : List ℕ) → length gathers ≡ 0
    → out ≡ gathered_at from at t gathers out
no_gathers from at t [] out none = refl
no_gathers from at t (gather ∷ gathers) out none = absurd (omega (arith, none))

pub no_pairs : (from : List ℕ) (at t : ℕ) (pairs : List Pair) (out : List ℕ) → length pairs ≡ 0
    → out ≡ gathered_at from at t (in_pairs pairs) out
no_pairs from at t [] out none = refl
no_pairs from at t (pair ∷ pairs) out none = absurd (omega (arith, none))

both_there : (P : Gather → Type 0) (one two : Gather) (gathers : List Gather) → gathers ≡ one ∷ two ∷ [] → All P gathers → P one × P two
both_there P one two gathers is all =
    let both = subst (λ (gs : List Gather). All P gs) is all in
    (both 0 one (omega arith), both 1 two (omega arith))

pub two_fit : (n reach at t long room : ℕ) (one two : Gather) (gathers : List Gather) → gathers ≡ one ∷ two ∷ []
    → All (IsGatherWithin n reach) gathers → at + reach ≤ long → t + n ≤ room
    → ((at + one.at + 16 ≤ long) × (t + one.to + 16 ≤ room)) × ((at + two.at + 16 ≤ long) × (t + two.to + 16 ≤ room))
two_fit n reach at t long room one two gathers is within reaches fits =
    let both = both_there (IsGatherWithin n reach) one two gathers is within in (
      (omega (arith, both.0.1, reaches), omega (arith, both.0.0, fits)),
      (omega (arith, both.1.1, reaches), omega (arith, both.1.0, fits)),
    )
