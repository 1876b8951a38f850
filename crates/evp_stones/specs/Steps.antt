-- Steps of which each may be refused: the first refusal is the answer.
use Rattle.std.specs.Prelude.{◌≡◌, ℕ, ◌≤◌, List, Option, IfSome, OnSome, Result, Ok, Err, ⊤}
use Rattle.evp_depot.specs.Counts.{Rose}
use Rattle.evp_depot.specs.Files.{Files}
use Rattle.evp_stones.specs.declared.refusal.Refusal.{Refusal}
use Rattle.evp_stones.specs.declared.refusal.Refusal.TheVariants.{Words, Absent, Read, Memory}

infixl 10 ◌>>=◌
abbrev pub ◌>>=◌ : {A B : Type 0} → Result A Refusal → (A → Result B Refusal) → Result B Refusal
(Ok x) >>= f = f x
(Err refusal) >>= f = Err refusal

-- what was worked out, as it is seen
abbrev pub seen_by : {X Y : Type 0} → (X → Y) → Result X Refusal → Result Y Refusal
seen_by view (Ok x) = Ok (view x)
seen_by view (Err refusal) = Err refusal

-- the words are no line
abbrev pub IsWords : {X : Type 0} → Result X Refusal → Type 0
IsWords (Err Words) = ⊤
IsWords other = ⊥

-- nothing is held under a name
abbrev pub IsAbsent : {X : Type 0} → Result X Refusal → Type 0
IsAbsent (Err (Absent name)) = ⊤
IsAbsent other = ⊥

-- a read failed
abbrev pub IsFailed : {X : Type 0} → Result X Refusal → Type 0
IsFailed (Err (Read name)) = ⊤
IsFailed other = ⊥

-- What a call that reads nothing answered is true of it, unless there was no memory.
abbrev pub Yields : {X : Type 0} → (Result X Refusal → Type 0) → Result X Refusal → Type 0
Yields says (Err Words) = ⊥
Yields says (Err (Absent name)) = ⊥
Yields says (Err (Read name)) = ⊥
Yields says (Err Memory) = ⊤
Yields says answer = says answer

-- it is what a definition says
abbrev pub Gives : {X : Type 0} → Result X Refusal → Result X Refusal → Type 0
Gives answer said = Yields (λ a. said ≡ a) answer

-- what follows a step: this of what it made, or its refusal
abbrev pub Follows : {X Y : Type 0} → (X → Result Y Refusal → Type 0) → Result X Refusal
    → Result Y Refusal → Type 0
Follows rest (Ok x) answer = rest x answer
Follows rest (Err refusal) answer = answer ≡ Err refusal

-- What a call answered is what a definition says, but for two refusals: a read that failed is one
-- of a name that may be read, and of want of memory nothing is said.
abbrev pub Settles : {X : Type 0} → (Result X Refusal → Type 0) → (List ℕ → Type 0)
    → Result X Refusal → Type 0
Settles says reads (Err (Read name)) = reads name
Settles says reads (Err Memory) = ⊤
Settles says reads answer = says answer

-- What a call does that works out an answer over a depot.
pub record Works {D X : Type 0} (held : D → Option Files) (misses faults_of : D → ℕ) (old new : D)
    (says : Files → Result X Refusal → Type 0) (reads : Files → List ℕ → Type 0)
    (answer : Result X Refusal) : Type 0 where
  pub on_line : ¬ IsWords answer
  -- neither count falls, and what is held stays as it was
  pub misses_stay : misses old ≤ misses new
  pub faults_stay : faults_of old ≤ faults_of new
  pub still_held : OnSome (held old) (held new ≡ held old)
  -- a name is absent only where the depot's misses rose, and a read failed only where its faults
  -- did
  pub missed : IsAbsent answer → Rose (misses old) (misses new)
  pub failed : IsFailed answer → Rose (faults_of old) (faults_of new)
  -- by what the depot holds, where it tells that
  pub told : IfSome (held old) (λ files. Settles (says files) (reads files) answer)
