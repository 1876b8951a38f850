-- Fronts of a flow: which part comes next, and how a front goes on by it.
use Rattle.std.proofs.Common.{◌≡◌, ℕ, zero, suc, ◌+◌, List, [], ◌∷◌, ◌++◌, length, map, take, drop, Some, append_assoc}
use Rattle.std.proofs.Common.{refl, sym, ap, ◌∙◌, add-one, arith, length-append}
use Rattle.std.proofs.lemmas.List.{append-nil, map-append}
use Rattle.std.specs.List.{slice_get}
use Rattle.evp_stone.specs.Carried.{Carried}
use Rattle.evp_stone.specs.Flow.{Part, item, mark, flow_from}
use Rattle.evp_stone.specs.State.{front_of, IsFront}

pub item_same : (c d : Carried) → item c ≡ item d → c ≡ d
item_same c d same = cc

-- what stands behind a front of so many whole rounds and these records
abbrev front_from : ℕ → List (List Carried) → ℕ → List Carried → List Part
front_from k arrivals rounds records = flow_from k (take rounds arrivals) ++ map item records

-- the part behind a front is a record of the next round, or its end
pub record Record (arrivals : List (List Carried)) (round : ℕ) (new : List Carried) (c : Carried) : Type 0 where
  pub later : List Carried
  pub there : slice_get arrivals round ≡ Some (new ++ c ∷ later)

pub record End (arrivals : List (List Carried)) (round : ℕ) (new : List Carried) : Type 0 where
  pub there : slice_get arrivals round ≡ Some new

abbrev pub Next : List (List Carried) → ℕ → ℕ → List Carried → Part → Type 0
Next arrivals first round new (item c) = Record arrivals round new c
Next arrivals first round new (mark ended) = (ended ≡ first + round) × End arrivals round new

head_of : {X : Type 0} (x y : X) (xs ys : List X) → x ∷ xs ≡ y ∷ ys → (x ≡ y) × (xs ≡ ys)
head_of x y xs ys same = (cc, cc)

after_same : {X : Type 0} (xs ys zs : List X) → xs ++ ys ≡ xs ++ zs → ys ≡ zs
after_same [] ys zs same = same
after_same (x ∷ xs) ys zs same = after_same xs ys zs (head_of x x (xs ++ ys) (xs ++ zs) same).1

grow : (c n : Carried) (xs ys : List Carried) → c ≡ n → Some xs ≡ Some ys → Some (c ∷ xs) ≡ Some (n ∷ ys)
grow c n xs ys one rest = cc

next_in : (first : ℕ) (came new : List Carried) (arrivals : List (List Carried)) (part : Part) (others more : List Part)
    → map item came ++ mark first ∷ others ≡ map item new ++ part ∷ more
    → Next (came ∷ arrivals) first 0 new part
next_in first [] [] arrivals (item c) others more same = absurd (cc)
next_in first [] [] arrivals (mark ended) others more same =
    let is : mark first ≡ mark ended = (head_of (mark first) (mark ended) others more same).0 in
    ((let e : first ≡ ended = cc in omega arith), record { there = refl })
next_in first [] (n ∷ new) arrivals part others more same = absurd (cc)
next_in first (c ∷ came) [] arrivals (item d) others more same =
    let is = item_same c d (head_of (item c) (item d) (map item came ++ mark first ∷ others) more same).0 in
    record { later = came; there = rw is refl }
next_in first (c ∷ came) [] arrivals (mark ended) others more same = absurd (cc)
next_in first (c ∷ came) (n ∷ new) arrivals (item d) others more same =
    let both = head_of (item c) (item n) (map item came ++ mark first ∷ others) (map item new ++ item d ∷ more) same in
    let rest : Record (came ∷ arrivals) 0 new d = next_in first came new arrivals (item d) others more both.1 in
    record { later = rest.later; there = grow c n came (new ++ d ∷ rest.later) (item_same c n both.0) rest.there }
next_in first (c ∷ came) (n ∷ new) arrivals (mark ended) others more same =
    let both = head_of (item c) (item n) (map item came ++ mark first ∷ others) (map item new ++ mark ended ∷ more) same in
    let rest : (ended ≡ first + 0) × End (came ∷ arrivals) 0 new = next_in first came new arrivals (mark ended) others more both.1 in
    (rest.0, record { there = grow c n came new (item_same c n both.0) rest.1.there })

none_behind : (new : List Carried) (part : Part) (more : List Part) → [] ≡ map item new ++ part ∷ more → ⊥
none_behind [] part more same = cc
none_behind (n ∷ new) part more same = cc

later_round : (first round : ℕ) (came new : List Carried) (arrivals : List (List Carried)) (part : Part)
    → Next arrivals (first + 1) round new part → Next (came ∷ arrivals) first (suc round) new part
later_round first round came new arrivals (item c) next = record { later = next.later; there = next.there }
later_round first round came new arrivals (mark ended) next = (let e = next.0 in omega arith, record { there = next.1.there })

next_from : (first : ℕ) (arrivals : List (List Carried)) (round : ℕ) (new : List Carried) (part : Part) (more : List Part)
    → flow_from first arrivals ≡ front_from first arrivals round new ++ part ∷ more → Next arrivals first round new part
next_from first [] zero new part more same = absurd (none_behind new part more same)
next_from first [] (suc round) new part more same = absurd (none_behind new part more same)
next_from first (came ∷ arrivals) zero new part more same = next_in first came new arrivals part (flow_from (first + 1) arrivals) more same
next_from first (came ∷ arrivals) (suc round) new part more same =
    let front = flow_from (first + 1) (take round arrivals) in
    let joined : map item came ++ mark first ∷ flow_from (first + 1) arrivals
    ≡ map item came ++ mark first ∷ ((front ++ map item new) ++ part ∷ more) =
    same ∙ ap (λ (l : List Part). l ++ part ∷ more) (append_assoc (map item came) (mark first ∷ front) (map item new))
    ∙ append_assoc (map item came) (mark first ∷ front ++ map item new) (part ∷ more) in
    let rest = head_of (mark first) (mark first) (flow_from (first + 1) arrivals) ((front ++ map item new) ++ part ∷ more)
    (after_same (map item came) (mark first ∷ flow_from (first + 1) arrivals)
    (mark first ∷ ((front ++ map item new) ++ part ∷ more)) joined) in
    later_round first round came new arrivals part (next_from (first + 1) arrivals round new part more rest.1)

-- what stands at the end of a front
pub behind : {X : Type 0} (front others : List X) (x : X) → slice_get (front ++ others) (length front) ≡ Some x
    → others ≡ x ∷ drop 1 others
behind [] [] x at = absurd (cc)
behind [] (y ∷ others) x at = cc
behind (f ∷ front) others x at = behind front others x at

pub at_end : {X : Type 0} (front more : List X) (x : X) → slice_get (front ++ x ∷ more) (length front) ≡ Some x
at_end [] more x = refl
at_end (f ∷ front) more x = at_end front more x

-- the part behind a front
pub next_part : (arrivals : List (List Carried)) (count round : ℕ) (new : List Carried) (part : Part)
    → IsFront (flow_from 0 arrivals) count (front_of arrivals round new) → slice_get (flow_from 0 arrivals) count ≡ Some part
    → Next arrivals 0 round new part
next_part arrivals count round new part front at =
    let all = front_of arrivals round new in
    let here : slice_get (all ++ front.others) (length all) ≡ Some part = rw (front.whole, front.long) at in
    let rest = behind all front.others part here in
    next_from 0 arrivals round new part (drop 1 front.others) (sym front.whole ∙ ap (λ (l : List Part). all ++ l) rest)

-- a flow, taken apart at a round
flow_apart : (first : ℕ) (arrivals : List (List Carried)) (round : ℕ) (came : List Carried) → slice_get arrivals round ≡ Some came
    → flow_from first arrivals ≡ front_from first arrivals round came
    ++ mark (first + round) ∷ flow_from (first + round + 1) (drop (suc round) arrivals)
flow_apart first [] round came at = absurd (cc)
flow_apart first (here ∷ arrivals) zero came at =
    let is : here ≡ came = cc in
    rw (is) (ap (λ (n : ℕ). map item came ++ mark n ∷ flow_from (n + 1) arrivals) (omega arith))
flow_apart first (here ∷ arrivals) (suc round) came at =
    let front = flow_from (first + 1) (take round arrivals) in
    let last : ℕ → List Part = λ (n : ℕ). mark n ∷ flow_from (n + 1) (drop (suc round) arrivals) in
    ap (λ (l : List Part). map item here ++ mark first ∷ l) (flow_apart (first + 1) arrivals round came at)
    ∙ sym (append_assoc (map item here) (mark first ∷ front ++ map item came) (last (first + 1 + round)))
    ∙ ap (λ (l : List Part). l ++ last (first + 1 + round)) (sym (append_assoc (map item here) (mark first ∷ front) (map item came)))
    ∙ ap (λ (n : ℕ). front_from first (here ∷ arrivals) (suc round) came ++ last n) (omega arith)

-- a front, and what stands behind it
pub record GoesOnBy (parts : List Part) (count : ℕ) (part : Part) (front : List Part) : Type 0 where
  pub there : slice_get parts count ≡ Some part
  pub longer : IsFront parts (count + 1) front

goes_on : (parts front : List Part) (count : ℕ) (part : Part) (more : List Part) → parts ≡ front ++ part ∷ more → count ≡ length front
    → GoesOnBy parts count part (front ++ part ∷ [])
goes_on parts front count part more whole long = record {
  there = rw (whole, long) (at_end front more part);
  longer = record {
    others = more;
    whole = append_assoc front (part ∷ []) more ∙ sym whole;
    long = omega (arith, length-append front (part ∷ []));
  };
}

-- a record more of the next round
pub front_record : (arrivals : List (List Carried)) (count round : ℕ) (new later : List Carried) (c : Carried)
    → slice_get arrivals round ≡ Some (new ++ c ∷ later) → count ≡ length (front_of arrivals round new)
    → GoesOnBy (flow_from 0 arrivals) count (item c) (front_of arrivals round (new ++ c ∷ []))
front_record arrivals count round new later c at long =
    let whole = flow_from 0 (take round arrivals) in
    let end = mark (0 + round) ∷ flow_from (0 + round + 1) (drop (suc round) arrivals) in
    let parts : flow_from 0 arrivals ≡ front_of arrivals round new ++ item c ∷ (map item later ++ end) =
    flow_apart 0 arrivals round (new ++ c ∷ later) at
    ∙ ap (λ (l : List Part). (whole ++ l) ++ end) (map-append item new (c ∷ later))
    ∙ ap (λ (l : List Part). l ++ end) (sym (append_assoc whole (map item new) (item c ∷ map item later)))
    ∙ append_assoc (front_of arrivals round new) (item c ∷ map item later) end in
    let made = goes_on (flow_from 0 arrivals) (front_of arrivals round new) count (item c) (map item later ++ end) parts long in
    let same : front_of arrivals round (new ++ c ∷ []) ≡ front_of arrivals round new ++ item c ∷ [] =
    ap (λ (l : List Part). whole ++ l) (map-append item new (c ∷ [])) ∙ sym (append_assoc whole (map item new) (item c ∷ [])) in
    record { there = made.there; longer = rw (same) made.longer }

pub take_more : {X : Type 0} (xs : List X) (k : ℕ) (x : X) → slice_get xs k ≡ Some x → take (suc k) xs ≡ take k xs ++ x ∷ []
take_more [] k x at = absurd (cc)
take_more (y ∷ xs) zero x at = cc
take_more (y ∷ xs) (suc k) x at = ap (λ (l : List _). y ∷ l) (take_more xs k x at)

flow_more : (first : ℕ) (arrivals : List (List Carried)) (round : ℕ) (came : List Carried) → slice_get arrivals round ≡ Some came
    → flow_from first (take (suc round) arrivals) ≡ front_from first arrivals round came ++ mark (first + round) ∷ []
flow_more first [] round came at = absurd (cc)
flow_more first (here ∷ arrivals) zero came at =
    let is : here ≡ came = cc in
    rw (is) (ap (λ (n : ℕ). map item came ++ mark n ∷ []) (omega arith))
flow_more first (here ∷ arrivals) (suc round) came at =
    let front = flow_from (first + 1) (take round arrivals) in
    ap (λ (l : List Part). map item here ++ mark first ∷ l) (flow_more (first + 1) arrivals round came at)
    ∙ sym (append_assoc (map item here) (mark first ∷ front ++ map item came) (mark (first + 1 + round) ∷ []))
    ∙ ap (λ (l : List Part). l ++ mark (first + 1 + round) ∷ []) (sym (append_assoc (map item here) (mark first ∷ front) (map item came)))
    ∙ ap (λ (n : ℕ). front_from first (here ∷ arrivals) (suc round) came ++ mark n ∷ []) (omega arith)

-- the end of a round whose records are all in front
pub front_end : (arrivals : List (List Carried)) (count round : ℕ) (came : List Carried)
    → slice_get arrivals round ≡ Some came → count ≡ length (front_of arrivals round came)
    → GoesOnBy (flow_from 0 arrivals) count (mark round) (front_of arrivals (round + 1) [])
front_end arrivals count round came at long =
    let end = flow_from (round + 1) (drop (suc round) arrivals) in
    let parts : flow_from 0 arrivals ≡ front_of arrivals round came ++ mark round ∷ end =
    flow_apart 0 arrivals round came at
    ∙ ap (λ (n : ℕ). front_of arrivals round came ++ mark n ∷ flow_from (n + 1) (drop (suc round) arrivals)) (omega arith) in
    let made = goes_on (flow_from 0 arrivals) (front_of arrivals round came) count (mark round) end parts long in
    let same : front_of arrivals (round + 1) [] ≡ front_of arrivals round came ++ mark round ∷ [] =
    append-nil (flow_from 0 (take (round + 1) arrivals)) ∙ ap (λ (n : ℕ). flow_from 0 (take n arrivals)) (add-one round)
    ∙ flow_more 0 arrivals round came at ∙ ap (λ (n : ℕ). front_of arrivals round came ++ mark n ∷ []) (omega arith) in
    record { there = made.there; longer = rw (same) made.longer }
