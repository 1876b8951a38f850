-- The graph of the generator's stones: each target stands behind its stone, so there is no cycle.
use Rattle.std.proofs.Common.{◌≡◌, ℕ, suc, zero, ◌+◌, ◌<◌, Bool, true, nat_lt, ◌&&◌, List, [], ◌∷◌, length, refl, arith}
use Rattle.std.specs.List.{list_all, All}
use Rattle.std.specs.Prelude.{slice_index_or}
use Rattle.std.proofs.lemmas.Bool.{and_parts, ltb-true}
use Rattle.std.proofs.lemmas.List.Elements.{All-nil, All-cons, All-contains, All-weaker}
use Rattle.evp_graph.specs.Routes.{routes_of}
use Rattle.evp_graph.specs.Shape.{targets_of, IsTarget, Leads, IsAcyclic, AreStones, IsSound}
use Rattle.evp_stones.specs.BenchJob.{bench_graph}

-- what a test shows of each element, where all pass
pub each_passes : {X : Type 0} (test : X → Bool) (P : X → Type 0) → ((x : X) → test x ≡ true → P x) → (xs : List X)
    → list_all test xs ≡ true → All P xs
each_passes test P shows [] all = All-nil P
each_passes test P shows (x ∷ xs) all =
    let parts = and_parts (test x) (list_all test xs) all in
    All-cons P x xs (shows x parts.0) (each_passes test P shows xs parts.1)

-- ---- no cycle

-- targets stand behind their stones, of which the first has this number
abbrev all_rise : ℕ → List (List ℕ) → Bool
all_rise stone [] = true
all_rise stone (row ∷ rows) = list_all (nat_lt stone) row && all_rise (suc stone) rows

rises : (first : ℕ) (rows : List (List ℕ)) (a : ℕ) → all_rise first rows ≡ true → All (λ b. first + a < b) (slice_index_or rows a [])
rises first [] a all = All-nil (λ b. first + a < b)
rises first (row ∷ rows) zero all =
    let parts = and_parts (list_all (nat_lt first) row) (all_rise (suc first) rows) all in
    each_passes (nat_lt first) (λ b. first + 0 < b) (λ b less. let below = ltb-true first b less in omega (arith, below)) row parts.0
rises first (row ∷ rows) (suc a) all =
    let parts = and_parts (list_all (nat_lt first) row) (all_rise (suc first) rows) all in
    All-weaker (λ b. suc first + a < b) (λ b. first + suc a < b) (λ b below. omega (arith, below)) (slice_index_or rows a [])
    (rises (suc first) rows a parts.1)

target_above : (targets : List (List ℕ)) (a b : ℕ) → all_rise 0 targets ≡ true → IsTarget targets a b → a < b
target_above targets a b all there =
    let above : 0 + a < b = All-contains (λ c. 0 + a < c) (targets_of targets a) b (rises 0 targets a all) there in
    omega (arith, above)

path_above : (targets : List (List ℕ)) (a b : ℕ) (between : List ℕ) → all_rise 0 targets ≡ true → Leads targets a between b → a < b
path_above targets a b [] all leads = target_above targets a b all leads
path_above targets a b (c ∷ between) all leads =
    let first = target_above targets a c all leads.0 in
    let rest = path_above targets c b between all leads.1 in
    omega (arith, first, rest)

no_cycle : (targets : List (List ℕ)) → all_rise 0 targets ≡ true → IsAcyclic targets
no_cycle targets all stone reaches =
    let above = path_above targets stone stone reaches.0 all reaches.1 in
    omega (arith, above)

-- ---- the whole

are_stones : (stones : ℕ) (numbers : List ℕ) → list_all (λ n. nat_lt n stones) numbers ≡ true → AreStones stones numbers
are_stones stones numbers all = each_passes (λ n. nat_lt n stones) (λ n. n < stones) (λ n less. ltb-true n stones less) numbers all

have_targets : (stones : ℕ) (rows : List (List ℕ)) → list_all (list_all (λ n. nat_lt n stones)) rows ≡ true → All (AreStones stones) rows
have_targets stones rows all = each_passes (list_all (λ n. nat_lt n stones)) (AreStones stones) (are_stones stones) rows all

pub graph_sound : IsSound bench_graph
graph_sound = record {
  sources = are_stones (length bench_graph.targets) bench_graph.sources refl;
  targets = have_targets (length bench_graph.targets) bench_graph.targets refl;
  acyclic = no_cycle bench_graph.targets refl;
}

pub routes_counted : length (routes_of bench_graph) ≡ 56
routes_counted = refl
