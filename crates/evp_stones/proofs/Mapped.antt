-- What was worked out, seen by what it is worked out for.
use Rattle.std.proofs.Common.{ℕ, List, Option, Some, None, IfSome, Result, Ok, Err}
use Rattle.evp_depot.specs.Files.{Files}
use Rattle.evp_stones.specs.declared.refusal.Refusal.{Refusal}
use Rattle.evp_stones.specs.declared.refusal.Refusal.TheVariants.{Words, Absent, Read, TooLong, NotJson, Job, Data, Order, Memory}
use Rattle.evp_stones.specs.Steps.{Works, Settles, seen_by, IsWords, IsAbsent, IsFailed}

settled_on : {X Y : Type 0} (f : X → Y) (says : Result X Refusal → Type 0) (says' : Result Y Refusal → Type 0)
    (reads reads' : List ℕ → Type 0)
    (answer : Result X Refusal) → ((a : Result X Refusal) → says a → says' (seen_by f a)) → ((name : List ℕ) → reads name → reads' name)
    → Settles says reads answer → Settles says' reads' (seen_by f answer)
settled_on f says says' reads reads' (Ok x) on more settled = on (Ok x) settled
settled_on f says says' reads reads' (Err Words) on more settled = on (Err Words) settled
settled_on f says says' reads reads' (Err (Absent name)) on more settled = on (Err (Absent name)) settled
settled_on f says says' reads reads' (Err (Read name)) on more settled = more name settled
settled_on f says says' reads reads' (Err (TooLong name)) on more settled = on (Err (TooLong name)) settled
settled_on f says says' reads reads' (Err NotJson) on more settled = on (Err NotJson) settled
settled_on f says says' reads reads' (Err (Job fault)) on more settled = on (Err (Job fault)) settled
settled_on f says says' reads reads' (Err (Data name fault)) on more settled = on (Err (Data name fault)) settled
settled_on f says says' reads reads' (Err (Order name at)) on more settled = on (Err (Order name at)) settled
settled_on f says says' reads reads' (Err Memory) on more settled = tt

-- of which kind an answer is doesn't depend on how it is seen
pub same_kind : {X Y : Type 0} (f : X → Y) (answer : Result X Refusal) → (IsWords (seen_by f answer) → IsWords answer)
    × (IsAbsent (seen_by f answer) → IsAbsent answer) × (IsFailed (seen_by f answer) → IsFailed answer)
same_kind f (Ok x) = (λ e. e, λ e. e, λ e. e)
same_kind f (Err Words) = (λ e. e, λ e. e, λ e. e)
same_kind f (Err (Absent name)) = (λ e. e, λ e. e, λ e. e)
same_kind f (Err (Read name)) = (λ e. e, λ e. e, λ e. e)
same_kind f (Err (TooLong name)) = (λ e. e, λ e. e, λ e. e)
same_kind f (Err NotJson) = (λ e. e, λ e. e, λ e. e)
same_kind f (Err (Job fault)) = (λ e. e, λ e. e, λ e. e)
same_kind f (Err (Data name fault)) = (λ e. e, λ e. e, λ e. e)
same_kind f (Err (Order name at)) = (λ e. e, λ e. e, λ e. e)
same_kind f (Err Memory) = (λ e. e, λ e. e, λ e. e)

-- what is said of an answer, said of how it is seen
pub works_on : {D X Y : Type 0} (held : D → Option Files) (misses faults_of : D → ℕ) (old new : D) (f : X → Y)
    (says : Files → Result X Refusal → Type 0) (says' : Files → Result Y Refusal → Type 0) (reads reads' : Files → List ℕ → Type 0)
    (answer : Result X Refusal) → ((files : Files) (a : Result X Refusal) → says files a → says' files (seen_by f a))
    → ((files : Files) (name : List ℕ) → reads files name → reads' files name)
    → Works held misses faults_of old new says reads answer → Works held misses faults_of old new says' reads' (seen_by f answer)
works_on held misses faults_of old new f says says' reads reads' answer on more works =
    let kind = same_kind f answer in
    record {
      on_line = λ e. works.on_line (kind.0 e);
      misses_stay = works.misses_stay;
      faults_stay = works.faults_stay;
      still_held = works.still_held;
      missed = λ e. works.missed (kind.1 e);
      failed = λ e. works.failed (kind.2 e);
      told = told_on (held old) works.told;
    } where
      told_on : (told : Option Files) → IfSome told (λ files. Settles (says files) (reads files) answer)
          → IfSome told (λ files. Settles (says' files) (reads' files) (seen_by f answer))
      told_on None settled = tt
      told_on (Some files) settled =
          settled_on f (says files) (says' files) (reads files) (reads' files) answer (on files) (more files) settled
