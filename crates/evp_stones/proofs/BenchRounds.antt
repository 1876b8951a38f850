-- The rounds of the generator's document.
use Rattle.std.proofs.Common.{◌≡◌, ℕ, ◌-◌, ◌*◌, ◌/◌, ◌≤◌, true, nat_le, ◌&&◌, List, [], ◌∷◌, map, codes, Some, Ok, refl, arith}
use Rattle.std.proofs.lemmas.Bool.{le-leb}
use Rattle.evp_base.specs.declared.step.Step.TheVariants.{Field}
use Rattle.evp_gen.specs.Document.{round_value, rounds_value}
use Rattle.evp_gen.specs.Formats.{list_of, whole}
use Rattle.evp_job.specs.Forms.{whole_number, number_within, list_in, list_within, object_in, no_others}
use Rattle.evp_job.specs.Rounds.{submitted, submit_in, stone_of, frozen_in, round_in, rounds_in}
use Rattle.evp_stones.specs.BenchJob.{even_round, bench_rounds}
use Rattle.evp_stones.proofs.BenchSteps.{then_is, passes, under_is, each_are}

-- so many records, which aren't too many
number_there : (each : ℕ) → each ≤ 131072 → submitted (whole each) ≡ Ok each
unfolding whole_number number_within submitted
number_there each few = then_is _ (passes _ within) refl where
  within : (nat_le 0 each && nat_le each 131072) ≡ true
  within = rw (le-leb 0 each (omega arith), le-leb each 131072 few) refl

-- of each of the four sources
four_there : (each : ℕ) → each ≤ 131072
    → submit_in 4 (Some (list_of (whole each ∷ whole each ∷ whole each ∷ whole each ∷ []))) ≡ Ok (each ∷ each ∷ each ∷ each ∷ [])
unfolding list_in submit_in
four_there each few =
    let there = number_there each few in
    each_are submitted 0 [] (whole each ∷ whole each ∷ whole each ∷ whole each ∷ []) (each ∷ each ∷ each ∷ each ∷ [])
    (there, (there, (there, (there, tt))))

-- a round that freezes these
round_there : (each : ℕ) (frozen : List ℕ) → each ≤ 131072 → frozen_in 32 (Some (list_of (map whole frozen))) ≡ Ok frozen
    → round_in 4 32 (round_value each frozen) ≡ Ok (even_round each frozen)
unfolding object_in no_others round_in
round_there each frozen few there =
    then_is _ (under_is (Field (codes "submit")) (four_there each few)) (then_is _ (under_is (Field (codes "frozen")) there) refl)

none_frozen : frozen_in 32 (Some (list_of (map whole []))) ≡ Ok []
unfolding list_in frozen_in
none_frozen = refl

first_frozen : frozen_in 32 (Some (list_of (map whole (12 ∷ [])))) ≡ Ok (12 ∷ [])
unfolding whole_number list_in stone_of frozen_in
first_frozen = refl

second_frozen : frozen_in 32 (Some (list_of (map whole (16 ∷ [])))) ≡ Ok (16 ∷ [])
unfolding whole_number list_in stone_of frozen_in
second_frozen = refl

pub rounds_there : (n : ℕ) → n ≤ 20000 → rounds_in 4 32 (Some (rounds_value n)) ≡ Ok (bench_rounds n)
unfolding list_in list_within rounds_in
rounds_there n few =
    let quarter : n / 4 ≤ 131072 = omega (arith, few) in
    let rest : n - 3 * (n / 4) ≤ 131072 = omega (arith, few) in
    each_are (round_in 4 32) 0 []
    (round_value (n / 4) [] ∷ round_value (n / 4) (12 ∷ []) ∷ round_value (n / 4) (16 ∷ []) ∷ round_value (n - 3 * (n / 4)) (16 ∷ []) ∷ [])
    (bench_rounds n) (
      round_there (n / 4) [] quarter none_frozen,
      (
        round_there (n / 4) (12 ∷ []) quarter first_frozen,
        (round_there (n / 4) (16 ∷ []) quarter second_frozen, (round_there (n - 3 * (n / 4)) (16 ∷ []) rest second_frozen, tt)),
      ),
    )
