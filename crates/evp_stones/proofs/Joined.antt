-- How works over a depot follow each other.
use Rattle.std.proofs.Common.{◌≡◌, ℕ, List, Option, Some, None, IfSome, OnSome, Result, Ok, Err, arith}
use Rattle.evp_depot.specs.Counts.{Rose-after}
use Rattle.evp_depot.specs.Files.{Files}
use Rattle.evp_stones.specs.declared.refusal.Refusal.{Refusal}
use Rattle.evp_stones.specs.declared.refusal.Refusal.TheVariants.{Words, Absent, Read, TooLong, NotJson, Job, Data, Order, Memory}
use Rattle.evp_stones.specs.Steps.{Works, Settles, IsWords, IsAbsent, IsFailed}

-- ---- an answer that is settled by what is said of it, and by more
settled_as : {X : Type 0} (says says' : Result X Refusal → Type 0) (reads reads' : List ℕ → Type 0) (answer : Result X Refusal)
    → ((a : Result X Refusal) → says a → says' a) → ((name : List ℕ) → reads name → reads' name)
    → Settles says reads answer → Settles says' reads' answer
settled_as says says' reads reads' (Ok x) on more settled = on (Ok x) settled
settled_as says says' reads reads' (Err Words) on more settled = on (Err Words) settled
settled_as says says' reads reads' (Err (Absent name)) on more settled = on (Err (Absent name)) settled
settled_as says says' reads reads' (Err (Read name)) on more settled = more name settled
settled_as says says' reads reads' (Err (TooLong name)) on more settled = on (Err (TooLong name)) settled
settled_as says says' reads reads' (Err NotJson) on more settled = on (Err NotJson) settled
settled_as says says' reads reads' (Err (Job fault)) on more settled = on (Err (Job fault)) settled
settled_as says says' reads reads' (Err (Data name fault)) on more settled = on (Err (Data name fault)) settled
settled_as says says' reads reads' (Err (Order name at)) on more settled = on (Err (Order name at)) settled
settled_as says says' reads reads' (Err Memory) on more settled = tt

pub works_as : {D X : Type 0} (held : D → Option Files) (misses faults_of : D → ℕ) (old new : D)
    (says says' : Files → Result X Refusal → Type 0) (reads reads' : Files → List ℕ → Type 0)
    (answer : Result X Refusal) → ((files : Files) (a : Result X Refusal) → says files a → says' files a)
    → ((files : Files) (name : List ℕ) → reads files name → reads' files name)
    → Works held misses faults_of old new says reads answer → Works held misses faults_of old new says' reads' answer
works_as held misses faults_of old new says says' reads reads' answer on more works = record {
  on_line = works.on_line;
  misses_stay = works.misses_stay;
  faults_stay = works.faults_stay;
  still_held = works.still_held;
  missed = works.missed;
  failed = works.failed;
  told = told_as (held old) works.told;
} where
  told_as : (told : Option Files) → IfSome told (λ files. Settles (says files) (reads files) answer)
      → IfSome told (λ files. Settles (says' files) (reads' files) answer)
  told_as None settled = tt
  told_as (Some files) settled = settled_as (says files) (says' files) (reads files) (reads' files) answer (on files) (more files) settled

-- ---- a refusal, whatever was wanted
same_refusal : (X Y : Type 0) (refusal : Refusal) → (IsWords {X = Y} (Err refusal) → IsWords {X = X} (Err refusal))
    × (IsAbsent {X = Y} (Err refusal) → IsAbsent {X = X} (Err refusal)) × (IsFailed {X = Y} (Err refusal) → IsFailed {X = X} (Err refusal))
same_refusal X Y Words = (λ e. e, λ e. e, λ e. e)
same_refusal X Y (Absent name) = (λ e. e, λ e. e, λ e. e)
same_refusal X Y (Read name) = (λ e. e, λ e. e, λ e. e)
same_refusal X Y (TooLong name) = (λ e. e, λ e. e, λ e. e)
same_refusal X Y NotJson = (λ e. e, λ e. e, λ e. e)
same_refusal X Y (Job fault) = (λ e. e, λ e. e, λ e. e)
same_refusal X Y (Data name fault) = (λ e. e, λ e. e, λ e. e)
same_refusal X Y (Order name at) = (λ e. e, λ e. e, λ e. e)
same_refusal X Y Memory = (λ e. e, λ e. e, λ e. e)

settled_cut : {X Y : Type 0} (says : Result X Refusal → Type 0) (says' : Result Y Refusal → Type 0) (reads reads' : List ℕ → Type 0)
    (refusal : Refusal) → ((r : Refusal) → says (Err r) → says' (Err r)) → ((name : List ℕ) → reads name → reads' name)
    → Settles says reads (Err refusal) → Settles says' reads' (Err refusal)
settled_cut says says' reads reads' Words on more settled = on Words settled
settled_cut says says' reads reads' (Absent name) on more settled = on (Absent name) settled
settled_cut says says' reads reads' (Read name) on more settled = more name settled
settled_cut says says' reads reads' (TooLong name) on more settled = on (TooLong name) settled
settled_cut says says' reads reads' NotJson on more settled = on NotJson settled
settled_cut says says' reads reads' (Job fault) on more settled = on (Job fault) settled
settled_cut says says' reads reads' (Data name fault) on more settled = on (Data name fault) settled
settled_cut says says' reads reads' (Order name at) on more settled = on (Order name at) settled
settled_cut says says' reads reads' Memory on more settled = tt

pub works_cut : {D X Y : Type 0} (held : D → Option Files) (misses faults_of : D → ℕ) (old new : D)
    (says : Files → Result X Refusal → Type 0) (says' : Files → Result Y Refusal → Type 0) (reads reads' : Files → List ℕ → Type 0)
    (refusal : Refusal) → ((files : Files) (r : Refusal) → says files (Err r) → says' files (Err r))
    → ((files : Files) (name : List ℕ) → reads files name → reads' files name)
    → Works held misses faults_of old new says reads (Err refusal) → Works held misses faults_of old new says' reads' (Err refusal)
works_cut {X = X} {Y = Y} held misses faults_of old new says says' reads reads' refusal on more works =
    let kind = same_refusal X Y refusal in
    record {
      on_line = λ e. works.on_line (kind.0 e);
      misses_stay = works.misses_stay;
      faults_stay = works.faults_stay;
      still_held = works.still_held;
      missed = λ e. works.missed (kind.1 e);
      failed = λ e. works.failed (kind.2 e);
      told = told_cut (held old) works.told;
    } where
      told_cut : (told : Option Files) → IfSome told (λ files. Settles (says files) (reads files) (Err refusal))
          → IfSome told (λ files. Settles (says' files) (reads' files) (Err refusal))
      told_cut None settled = tt
      told_cut (Some files) settled =
          settled_cut (says files) (says' files) (reads files) (reads' files) refusal (on files) (more files) settled

-- ---- works that succeeded, and then others
pub works_both : {D X Y : Type 0} (held : D → Option Files) (misses faults_of : D → ℕ) (old mid new : D)
    (before : Files → Result X Refusal → Type 0) (says says' : Files → Result Y Refusal → Type 0)
    (reads₀ reads reads' : Files → List ℕ → Type 0)
    (x : X) (answer : Result Y Refusal)
    → ((files : Files) → before files (Ok x) → (a : Result Y Refusal) → says files a → says' files a)
    → ((files : Files) → before files (Ok x) → (name : List ℕ) → reads files name → reads' files name)
    → Works held misses faults_of old mid before reads₀ (Ok x) → Works held misses faults_of mid new says reads answer
    → Works held misses faults_of old new says' reads' answer
works_both held misses faults_of old mid new before says says' reads₀ reads reads' x answer on more first second = record {
  on_line = second.on_line;
  misses_stay = omega (arith, first.misses_stay, second.misses_stay);
  faults_stay = omega (arith, first.faults_stay, second.faults_stay);
  still_held = held_both (held old) (held mid) (held new) first.still_held second.still_held;
  missed = λ e. Rose-after (misses old) (misses mid) (misses new) first.misses_stay second.misses_stay (second.missed e);
  failed = λ e. Rose-after (faults_of old) (faults_of mid) (faults_of new) first.faults_stay second.faults_stay (second.failed e);
  told = told_both (held old) (held mid) first.still_held first.told second.told;
} where
  held_both : (told later last : Option Files) → OnSome told (later ≡ told) → OnSome later (last ≡ later) → OnSome told (last ≡ told)
  held_both None later last still again = tt
  held_both (Some files) later last still again = rw still at again

  told_both : (told later : Option Files) → OnSome told (later ≡ told) → IfSome told (λ files. Settles (before files) (reads₀ files) (Ok x))
      → IfSome later (λ files. Settles (says files) (reads files) answer)
      → IfSome told (λ files. Settles (says' files) (reads' files) answer)
  told_both None later still done settled = tt
  told_both (Some files) later still done settled =
      settled_as (says files) (says' files) (reads files) (reads' files) answer (on files done) (more files done) (rw still at settled)

-- ---- want of memory may cut off any work
pub starved : {D X Y : Type 0} (held : D → Option Files) (misses faults_of : D → ℕ) (old new : D)
    (says : Files → Result X Refusal → Type 0) (says' : Files → Result Y Refusal → Type 0) (reads reads' : Files → List ℕ → Type 0)
    (answer : Result X Refusal) → Works held misses faults_of old new says reads answer
    → Works held misses faults_of old new says' reads' (Err Memory)
starved held misses faults_of old new says says' reads reads' answer works = record {
  on_line = λ e. e;
  misses_stay = works.misses_stay;
  faults_stay = works.faults_stay;
  still_held = works.still_held;
  missed = λ e. absurd e;
  failed = λ e. absurd e;
  told = told_starved (held old);
} where
  told_starved : (told : Option Files) → IfSome told (λ files. Settles (says' files) (reads' files) (Err Memory))
  told_starved None = tt
  told_starved (Some files) = tt
