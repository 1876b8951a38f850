-- The work of `bench`, which reads nothing.
use Rattle.std.proofs.Common.{◌≡◌, ℕ, List, Option, Some, None, IfSome, OnSome, Ok, Err, inl, inr, refl, sym, subst, arith}
use Rattle.std.specs.Prelude.{⊤}
use Rattle.evp_depot.specs.Files.{Files}
use Rattle.evp_stones.specs.Answer.{IsBenched, IsReply, IsReadBy, Reply}
use Rattle.evp_stones.specs.Bench.{bench_text, IsBench}
use Rattle.evp_stones.specs.declared.refusal.Refusal.TheVariants.{Memory}
use Rattle.evp_stones.specs.Steps.{Works}
use Rattle.evp_stones.specs.Words.{Line, show, check, run, walk, convert, bench}

module _ {D : Type 0} (held : D → Option Files) (misses faults_of : D → ℕ) (depot : D) (records workers : ℕ) where
  same : (told : Option Files) → OnSome told (told ≡ told)
  same None = tt
  same (Some files) = refl

  bench_works : (output : List ℕ) → IsBench records (Ok output)
      → Works held misses faults_of depot depot (IsReply (bench records workers)) (IsReadBy (bench records workers)) (Ok output)
  bench_works output is = record {
    on_line = λ e. e;
    misses_stay = omega arith;
    faults_stay = omega arith;
    still_held = same (held depot);
    missed = λ e. absurd e;
    failed = λ e. absurd e;
    told = by (held depot);
  } where
    by : (told : Option Files) → IfSome told (λ files. IsBench records (Ok output))
    by None = tt
    by (Some files) = is

  starved : Works {X = List ℕ} held misses faults_of depot depot (IsReply (bench records workers))
      (IsReadBy (bench records workers)) (Err Memory)
  starved = record {
    on_line = λ e. e;
    misses_stay = omega arith;
    faults_stay = omega arith;
    still_held = same (held depot);
    missed = λ e. absurd e;
    failed = λ e. absurd e;
    told = by (held depot);
  } where
    by : (told : Option Files) → IfSome told (λ files. ⊤)
    by None = tt
    by (Some files) = tt

  -- each reply that may be
  pub bench_works_by : (reply : Reply) → IsBenched (bench records workers) reply
      → Works held misses faults_of depot depot (IsReply (bench records workers)) (IsReadBy (bench records workers)) reply
  bench_works_by reply (inl is) = subst
      (λ (r : Reply). Works held misses faults_of depot depot (IsReply (bench records workers)) (IsReadBy (bench records workers)) r)
      (sym is.answered) (bench_works (bench_text records is.job) (record { job = is.job; is = is.is; answered = refl }))
  bench_works_by reply (inr none) = subst
      (λ (r : Reply). Works held misses faults_of depot depot (IsReply (bench records workers)) (IsReadBy (bench records workers)) r)
      (sym none) starved

-- want of memory is no other reply to any line
pub benched_starved : (asked : Line) → IsBenched asked (Err Memory)
benched_starved (show name) = tt
benched_starved (check name) = tt
benched_starved (run job workers) = tt
benched_starved (walk job order) = tt
benched_starved (convert job format file) = tt
benched_starved (bench records workers) = inr refl
