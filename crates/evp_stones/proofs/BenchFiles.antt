-- The generator's files are right for its job.
use Rattle.std.proofs.Common.{◌≡◌, ℕ, zero, suc, ◌+◌, ◌*◌, ◌^◌, ◌<◌, ◌≤◌, nat_lt}
use Rattle.std.proofs.Common.{List, length, map, Ok, refl, sym, ap, ◌∙◌, subst, arith}
use Rattle.std.proofs.lemmas.Bool.{le-leb, ltb-true}
use Rattle.std.proofs.lemmas.List.FromFn.{length-map-range_with_len}
use Rattle.std.proofs.lemmas.List.Sums.{sum_by-le}
use Rattle.std.specs.List.{range_with_len, sum, sum_by}
use Rattle.evp_file.specs.declared.file.KnownFormat.{KnownFormat}
use Rattle.evp_gen.specs.Senders.{sent_item, sent_layout}
use Rattle.evp_graph.specs.declared.route.Route.{Route}
use Rattle.evp_graph.specs.Routes.{routes_of}
use Rattle.evp_job.specs.Filling.{filled, few_formats, enough_records, enough_from, light_enough, all_layouts}
use Rattle.evp_job.specs.Formats.{known_format}
use Rattle.evp_job.specs.Stated.{layouts_of}
use Rattle.evp_job.specs.TextShape.{TextShape}
use Rattle.evp_profile.specs.declared.profile.Profile.{Profile}
use Rattle.evp_profile.specs.declared.profile.Profile.TheVariants.{Le64, Le32, Be64, Be32}
use Rattle.evp_stone.specs.declared.round.Round.{Round}
use Rattle.evp_stone.specs.Job.{submits}
use Rattle.evp_stones.specs.BenchJob.{bench_graph, bench_layouts, bench_rounds}
use Rattle.evp_stones.specs.BenchLaws.{bench_files, FillsBenchJob}
use Rattle.evp_stones.proofs.BenchGraph.{each_passes, routes_counted}
use Rattle.evp_stones.proofs.BenchSteps.{then_is, passes}

-- ---- what a source submits

submitted_in_all : (n source : ℕ) → source < 4 → sum (submits source (bench_rounds n)) ≡ n
submitted_in_all n zero below = omega arith
submitted_in_all n (suc zero) below = omega arith
submitted_in_all n (suc (suc zero)) below = omega arith
submitted_in_all n (suc (suc (suc zero))) below = omega arith
submitted_in_all n (suc (suc (suc (suc source)))) below = absurd (omega (arith, below))

-- as many as its file has
enough : (n source there : ℕ) → source < 4 → there ≡ n → enough_records source (sum (submits source (bench_rounds n))) there ≡ Ok tt
enough n source there below is =
    ap (λ asked. enough_records source asked there) (submitted_in_all n source below) ∙ ap (enough_records source n) is
    ∙ passes _ (le-leb n n (omega arith))

-- the length of a sender's file
as_many : (profile : Profile) (s n : ℕ) → length (map (sent_item (sent_layout profile) s) (range_with_len 0 n)) ≡ n
as_many profile s n = length-map-range_with_len (sent_item (sent_layout profile) s) 0 n

all_enough : (n : ℕ) → enough_from (bench_rounds n) 0 (bench_files n) ≡ Ok tt
all_enough n =
    then_is _ (enough n 0 _ (omega arith) (as_many Le64 0 n)) (then_is _ (enough n 1 _ (omega arith) (as_many Le32 1 n))
    (then_is _ (enough n 2 _ (omega arith) (as_many Be64 2 n)) (then_is _ (enough n 3 _ (omega arith) (as_many Be32 3 n)) refl)))

-- ---- what is carried

carries : (n : ℕ) → n ≤ 20000
    → sum_by (λ (route : Route). sum (submits route.source (bench_rounds n))) (routes_of bench_graph)
    ≤ length (routes_of bench_graph) * 20000
carries n few = sum_by-le (λ (route : Route). sum (submits route.source (bench_rounds n))) 20000 (routes_of bench_graph)
    (each_passes (λ (route : Route). nat_lt route.source 4) (λ route. sum (submits route.source (bench_rounds n)) ≤ 20000)
    (λ route less. let all = submitted_in_all n route.source (ltb-true route.source 4 less) in omega (arith, all, few))
    (routes_of bench_graph) refl)

light : (records count : ℕ) → records ≤ count * 20000 → count ≡ 56 → light_enough records 256 ≡ Ok tt
light records count most is =
    passes _ (le-leb (records * (256 + 256)) (2 ^ 31) (omega (arith, subst (λ (k : ℕ). records ≤ k * 20000) is most)))

light_there : (n limit : ℕ) (rounds : List Round) (routes : List Route) → n ≤ 20000 → limit ≡ 256 → rounds ≡ bench_rounds n
    → routes ≡ routes_of bench_graph
    → light_enough (sum_by (λ (route : Route). sum (submits route.source rounds)) routes) limit ≡ Ok tt
light_there n limit rounds routes few is same all =
    subst (λ (k : ℕ). light_enough (sum_by (λ (route : Route). sum (submits route.source rounds)) routes) k ≡ Ok tt) (sym is)
    (subst (λ (r : List Round). light_enough (sum_by (λ (route : Route). sum (submits route.source r)) routes) 256 ≡ Ok tt) (sym same)
    (subst (λ (r : List Route). light_enough (sum_by (λ (route : Route). sum (submits route.source (bench_rounds n))) r) 256
    ≡ Ok tt) (sym all)
    (light _ (length (routes_of bench_graph)) (carries n few) routes_counted)))

-- ---- the whole

-- nine formats in all
few_there : (n : ℕ) (formats : List KnownFormat) → formats ≡ map known_format bench_layouts
    → few_formats (length (all_layouts (layouts_of formats) (bench_files n))) ≡ Ok tt
few_there n formats is =
    subst (λ (known : List KnownFormat). few_formats (length (all_layouts (layouts_of known) (bench_files n))) ≡ Ok tt) (sym is) refl

pub fills_bench : (n : ℕ) → n ≤ 20000 → FillsBenchJob n
unfolding filled
fills_bench n few text same =
    then_is _ (then_is _ (few_there n text.formats.items (ap (λ (t : TextShape). t.formats) same))
    (then_is _ (subst (λ (rounds : List Round). enough_from rounds 0 (bench_files n) ≡ Ok tt)
    (sym (ap (λ (t : TextShape). t.rounds) same)) (all_enough n))
    (light_there n text.limit text.rounds.items text.routes few (ap (λ (t : TextShape). t.limit) same)
    (ap (λ (t : TextShape). t.rounds) same) (ap (λ (t : TextShape). t.routes) same)))) refl
