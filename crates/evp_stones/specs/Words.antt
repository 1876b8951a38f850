-- The words of a command line.
use Rattle.std.specs.Prelude.{ℕ, zero, suc, ◌≤◌, List, [], ◌∷◌, codes, if◌then◌else◌, Option}
use Rattle.std.specs.Prelude.{Some, None, ⊤}
use Rattle.std.specs.Str.{bytes_eq}
use Rattle.evp_stones.specs.DecimalNumber.{number_in}
use Rattle.evp_stones.specs.declared.words.Line.{Line as Kept}
use Rattle.evp_stones.specs.declared.words.Line.TheVariants as kept

-- what is to be done, and by which names
pub data Line : Type 0 where
  -- `show FILE`
  show : List ℕ → Line
  -- `check JOB`
  check : List ℕ → Line
  -- `run JOB N`, by so many workers
  run : List ℕ → ℕ → Line
  -- `walk JOB ORDER`
  walk : List ℕ → List ℕ → Line
  -- `convert JOB FORMAT FILE`
  convert : List ℕ → List ℕ → List ℕ → Line
  -- `bench N W`, with so many records of each source, by so many workers
  bench : ℕ → ℕ → Line

abbrev pub line_of_two : List ℕ → List ℕ → Option Line
line_of_two word name =
    if bytes_eq word (codes "show") then Some (show name) else
    (if bytes_eq word (codes "check") then Some (check name) else None)

-- by 1 to 64 workers
abbrev pub run_by : List ℕ → Option ℕ → Option Line
run_by job None = None
run_by job (Some zero) = None
run_by job (Some (suc others)) = Some (run job (suc others))

-- with 1 to 20,000 records, by 1 to 64 workers
abbrev pub bench_by : Option ℕ → Option ℕ → Option Line
bench_by None workers = None
bench_by (Some zero) workers = None
bench_by (Some (suc others)) None = None
bench_by (Some (suc others)) (Some zero) = None
bench_by (Some (suc others)) (Some (suc helpers)) = Some (bench (suc others) (suc helpers))

abbrev pub line_of_three : List ℕ → List ℕ → List ℕ → Option Line
line_of_three word second last =
    if bytes_eq word (codes "run") then run_by second (number_in 65 last) else
    (if bytes_eq word (codes "walk") then Some (walk second last) else
    (if bytes_eq word (codes "bench") then bench_by (number_in 20001 second) (number_in 65 last)
    else None))

abbrev pub line_of_four : List ℕ → List ℕ → List ℕ → List ℕ → Option Line
line_of_four word job format file =
    if bytes_eq word (codes "convert") then Some (convert job format file) else None

-- the line that the words are
abbrev pub line_of : List (List ℕ) → Option Line
line_of [] = None
line_of (word ∷ []) = None
line_of (word ∷ name ∷ []) = line_of_two word name
line_of (word ∷ second ∷ last ∷ []) = line_of_three word second last
line_of (word ∷ job ∷ format ∷ file ∷ []) = line_of_four word job format file
line_of (word ∷ job ∷ format ∷ file ∷ fifth ∷ words) = None

-- the line by the names that it borrows
abbrev pub seen : Kept → Line
seen (kept.Show name) = show name.now
seen (kept.Check name) = check name.now
seen (kept.Run job workers) = run job.now workers
seen (kept.Walk job order) = walk job.now order.now
seen (kept.Convert job format file) = convert job.now format.now file.now
seen (kept.Bench records workers) = bench records workers

-- so many workers may carry a job
abbrev pub AreWorkers : ℕ → Type 0
AreWorkers workers = (1 ≤ workers) × (workers ≤ 64)

-- the numbers are those that a line may have
abbrev pub IsWithin : Line → Type 0
IsWithin (run job workers) = AreWorkers workers
IsWithin (bench records workers) = ((1 ≤ records) × (records ≤ 20000)) × AreWorkers workers
IsWithin other = ⊤

-- the line is done without workers
abbrev pub IsAlone : Line → Type 0
IsAlone (run job workers) = ⊥
IsAlone (bench records workers) = ⊥
IsAlone other = ⊤
