-- Passes until none moves.
use Rattle.std.proofs.Common.{mul-le-mul_left, ◌≡◌, ℕ, ◌+◌, ◌*◌, ◌<◌, ◌≤◌, length, refl, ap, ◌∙◌, arith}
use Rattle.evp_core.specs.Held.{IsHeld, IsOfSame}
use Rattle.evp_core.specs.Progress.{turns_left}
use Rattle.evp_core.specs.Turns.{entries_in, turns}
use Rattle.evp_core.specs.Rotation.{all_numbers}
use Rattle.evp_core.specs.WorldShape.{WorldShape}
use Rattle.evp_core.specs.WorldTurned.{HaveTurned}
use Rattle.evp_core.proofs.Rounds.{HavePassed, none_passed, one_pass}

-- passes were made, each of which moved
pub record InPasses (start now : WorldShape) : Type 0 where
  pub held : IsHeld now
  pub same : IsOfSame start now
  pub passes : ℕ
  pub passed : HavePassed start now passes
  pub few : passes + turns_left now ≤ turns_left start
  pub done : now.done + length start.actors * turns_left now ≤ start.done + length start.actors * turns_left start

pub passes_start : (world : WorldShape) → IsHeld world → InPasses world world
passes_start world held = record {
  held = held;
  same = record { job = refl; count = refl; left = omega arith };
  passes = 0;
  passed = none_passed world;
  few = omega arith;
  done = omega arith;
}

pub same_then : (start old new : WorldShape) → IsOfSame start old → IsOfSame old new → IsOfSame start new
same_then start old new first then = record {
  job = then.job ∙ first.job;
  count = then.count ∙ first.count;
  left = let a = first.left in let b = then.left in omega arith;
}

one_less : (n d e l m s : ℕ) → e ≤ d + n → m < l → d + n * l ≤ s → e + n * m ≤ s
one_less n d e l m s more less done = let k = mul-le-mul_left {m = m + 1} {n = l} n (omega arith) in
    let both : n * (m + 1) ≡ n * m + n = omega arith in omega arith

-- one more pass moved
pub passes_on : (start old new : WorldShape) → InPasses start old → IsOfSame old new → IsHeld new → turns_left new < turns_left old
    → new.done ≤ old.done + length old.actors → HaveTurned old new (all_numbers old) → InPasses start new
passes_on start old new passes same held less done turned = record {
  held = held;
  same = same_then start old new passes.same same;
  passes = passes.passes + 1;
  passed = one_pass start old new passes.passes passes.passed passes.same.count turned;
  few = let few = passes.few in omega arith;
  done = let count = passes.same.count in
      one_less (length start.actors) old.done new.done (turns_left old) (turns_left new) _ (omega arith) less passes.done;
}

most : (n d e l s m : ℕ) → e ≤ d + n → d + n * l ≤ s + n * m → (f : ℕ) → m ≤ f → e ≤ s + n * (f + 1)
most n d e l s m more done f few = let k = mul-le-mul_left {m = m} {n = f} n few in
    let both : n * (f + 1) ≡ n * f + n = omega arith in omega arith

-- the last pass
pub passes_end : (start old new : WorldShape) → IsHeld start → InPasses start old → new.done ≤ old.done + length old.actors
    → new.done ≤ start.done + turns start.lists.job
passes_end start old new held passes done =
    let count = passes.same.count in
    let all = held.rules.count in
    let few : turns_left start ≤ 4 * entries_in start.lists.job = let c = held.counted in omega arith in
    let within = most (length start.actors) old.done new.done (turns_left old) start.done (turns_left start) (omega arith) passes.done
    (4 * entries_in start.lists.job) few in
    let same : length start.actors * (4 * entries_in start.lists.job + 1) ≡ turns start.lists.job =
    ap (λ (n : ℕ). n * (4 * entries_in start.lists.job + 1)) all in
    omega arith

passes_bound : (n p f : ℕ) → p ≤ f → (p + 1) * n ≤ n * (f + 1)
passes_bound n p f within = let k = mul-le-mul_left {m = p + 1} {n = f + 1} n (omega arith) in
    let turned : (p + 1) * n ≡ n * (p + 1) = omega arith in omega arith

-- with the last pass there were no more turns than carry the job
pub few_passes : (start old : WorldShape) → IsHeld start → (passes : InPasses start old)
    → (passes.passes + 1) * length start.actors ≤ turns start.lists.job
few_passes start old held passes =
    let all = held.rules.count in
    let few = passes.few in
    let within : passes.passes ≤ 4 * entries_in start.lists.job = let c = held.counted in omega arith in
    let bound = passes_bound (length start.actors) passes.passes (4 * entries_in start.lists.job) within in
    let same : length start.actors * (4 * entries_in start.lists.job + 1) ≡ turns start.lists.job =
    ap (λ (n : ℕ). n * (4 * entries_in start.lists.job + 1)) all in
    omega arith
