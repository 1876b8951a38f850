-- What holds of the rounds of each document that has some.
use Rattle.std.proofs.Common.{◌≡◌, ℕ, suc, ◌<◌, ◌≤◌, List, [], ◌∷◌, length, Option, Some, Ok, All, refl, sym, ap, ◌∙◌, subst, codes}
use Rattle.std.specs.Prelude.{nat_eq, nat_lt}
use Rattle.std.proofs.lemmas.Bool.{eqb-true, leb-true}
use Rattle.evp_base.specs.declared.step.Step.TheVariants.{Field}
use Rattle.serde_json.specs.Data.{Data}
use Rattle.serde_json.specs.Find.{get}
use Rattle.evp_stone.specs.declared.round.Round.{Round}
use Rattle.evp_job.specs.Forms.{misformed, whole_number, list_in, list_within, object_in, no_others}
use Rattle.evp_job.specs.Rounds.{round_with, submitted, submit_in, stone_of, frozen_in, round_in, rounds_in}
use Rattle.evp_job.specs.Stated.{IsRoundOf}
use Rattle.evp_job.specs.Steps.{only_if, under, each_in}
use Rattle.evp_job.proofs.HeadKept.{within_kept}
use Rattle.evp_job.proofs.WentOn.{went_on, from_under, the_same, passed, as_many, each_kept}

submitted_kept : (value : Data) (n : ℕ) → submitted value ≡ Ok n → n ≤ 131072
unfolding submitted
submitted_kept value n is = (within_kept 0 131072 (Some value) n is).1

submit_kept : (sources : ℕ) (value : Option Data) (numbers : List ℕ) → submit_in sources value ≡ Ok numbers
    → (length numbers ≡ sources) × All (λ n. n ≤ 131072) numbers
unfolding submit_in
submit_kept sources value numbers is =
    let values = went_on (list_in value) _ numbers is in
    let right = went_on (only_if (nat_eq (length values.value) sources) misformed) _ numbers values.rest in
    let all = each_kept (λ (n : ℕ). n ≤ 131072) submitted submitted_kept values.value numbers right.rest in (
      all.count ∙ eqb-true (length values.value) sources
          (passed (nat_eq (length values.value) sources) misformed right.value right.first),
      all.each,
    )

stone_below : (stones : ℕ) (value : Data) (n : ℕ) → stone_of stones value ≡ Ok n → n < stones
unfolding stone_of
stone_below stones value n is =
    let whole = went_on (whole_number (Some value)) _ n is in
    let there = went_on (only_if (nat_lt whole.value stones) misformed) _ n whole.rest in
    subst (λ (m : ℕ). m < stones) (the_same whole.value n there.rest)
    (leb-true (suc whole.value) stones (passed (nat_lt whole.value stones) misformed there.value there.first))

frozen_kept : (stones : ℕ) (value : Option Data) (numbers : List ℕ) → frozen_in stones value ≡ Ok numbers
    → All (λ n. n < stones) numbers
unfolding frozen_in
frozen_kept stones value numbers is =
    let values = went_on (list_in value) _ numbers is in
    (each_kept (λ (n : ℕ). n < stones) (stone_of stones) (stone_below stones) values.value numbers values.rest).each

round_kept : (sources stones : ℕ) (value : Data) (round : Round) → round_in sources stones value ≡ Ok round
    → IsRoundOf sources stones round
unfolding round_in
round_kept sources stones value round is =
    let object = went_on (object_in value) _ round is in
    let submit = went_on (under (Field (codes "submit")) (submit_in sources (get (codes "submit") object.value))) _ round
    object.rest in
    let frozen = went_on (under (Field (codes "frozen")) (frozen_in stones (get (codes "frozen") object.value))) _ round
    submit.rest in
    let alone = went_on (no_others (codes "submit" ∷ codes "frozen" ∷ []) object.value) _ round frozen.rest in
    let numbers = submit_kept sources (get (codes "submit") object.value) submit.value
    (from_under (Field (codes "submit")) (submit_in sources (get (codes "submit") object.value)) submit.value submit.first) in
    subst (IsRoundOf sources stones) (the_same (round_with submit.value frozen.value) round alone.rest)
    (record {
      submit = numbers.0;
      few = numbers.1;
      frozen = frozen_kept stones (get (codes "frozen") object.value) frozen.value
          (from_under (Field (codes "frozen")) (frozen_in stones (get (codes "frozen") object.value)) frozen.value frozen.first);
    })

pub record AreRoundsKept (sources stones : ℕ) (rounds : List Round) : Type 0 where
  pub each : All (IsRoundOf sources stones) rounds
  pub count : (1 ≤ length rounds) × (length rounds ≤ 64)

pub rounds_kept : (sources stones : ℕ) (value : Option Data) (rounds : List Round)
    → rounds_in sources stones value ≡ Ok rounds → AreRoundsKept sources stones rounds
unfolding rounds_in
rounds_kept sources stones value rounds is =
    let values = went_on (list_within 1 64 value) _ rounds is in
    let all = each_kept (IsRoundOf sources stones) (round_in sources stones) (round_kept sources stones) values.value rounds
    values.rest in
    record {
      each = all.each;
      count = subst (λ (n : ℕ). (1 ≤ n) × (n ≤ 64)) (sym all.count) (as_many 1 64 value values.value values.first);
    }
