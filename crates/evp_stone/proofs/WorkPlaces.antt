-- The place of the work on a route, as the code finds it and as it is seen.
use Rattle.std.proofs.Common.{◌≡◌, ℕ, zero, suc, ◌<◌, ◌≤◌, List, [], ◌∷◌, length, map, set, get_or, Some, Result, Ok, Err}
use Rattle.std.proofs.Common.{refl, sym, ap, subst, ◌∙◌, arith}
use Rattle.std.proofs.lemmas.List.{length-map}
use Rattle.std.proofs.lemmas.Option.{slice_get_within, slice_get-map, slice_get-get_or, get_or_from_slice_get}
use Rattle.std.specs.List.{slice_get}
use Rattle.std.specs.List.Sorted.{IsSearchInRange, IsBinarySearchResult}
use Rattle.std.specs.Ordering.{nat_cmp}
use Rattle.evp_stone.specs.declared.route_work.RouteWork as declared
use Rattle.evp_stone.specs.JobShape.{JobShape}
use Rattle.evp_stone.specs.Places.{Rises, IsIn, StandsAt, numbers_in}
use Rattle.evp_stone.specs.Settling.{work_of}
use Rattle.evp_stone.specs.State.{RouteWork, IsAmong, numbers_of}
use Rattle.evp_stone.specs.Tallied.{routes_at}
use Rattle.evp_stone.proofs.Apart.{number_at}
use Rattle.evp_stone.proofs.Change.{set_here}
use Rattle.evp_stone.proofs.Found.{found, ending-rises}

abbrev Works : Type 0
Works = List declared.RouteWork

abbrev route_in : declared.RouteWork → ℕ
route_in work = work.route

-- an element within is told whatever stands for none
number_or : (works : Works) (i : ℕ) (d : declared.RouteWork) → i < length works
    → get_or (numbers_in works) i 0 ≡ route_in (get_or works i d)
number_or [] i d below = absurd (omega (arith, below))
number_or (w ∷ works) zero d below = refl
number_or (w ∷ works) (suc i) d below = number_or works i d (omega (arith, below))

keys_rise : (works : Works) (d : declared.RouteWork) → Rises (numbers_in works) → (i j : ℕ) → i ≤ j → j < length works
    → route_in (get_or works i d) ≤ route_in (get_or works j d)
keys_rise works d rises i j le below =
    let long = length-map works route_in in
    let rise = rises i j le (omega (arith, below, long)) in
    let one = number_or works i d (omega arith) in
    let two = number_or works j d below in
    omega (arith, rise, one, two)

first_of : (works : Works) (i : ℕ) → i < length works → declared.RouteWork
first_of [] i below = absurd (omega (arith, below))
first_of (w ∷ works) i below = w

-- a search ended at the work on a route
pub record HasFound (works : Works) (route : ℕ) (result : Result ℕ ℕ) : Type 0 where
  pub place : ℕ
  pub is : result ≡ Ok place
  pub stands : StandsAt works route place

pub place_found : (works : Works) (route : ℕ) → Rises (numbers_in works) → IsIn (numbers_in works) route
    → (result : Result ℕ ℕ) → IsSearchInRange result (length works)
    → IsBinarySearchResult (λ (w : declared.RouteWork). nat_cmp w.route route) works result → HasFound works route result
place_found works route rises is_in result in_range searched =
    let below : is_in.at < length works = let w = is_in.within in let long = length-map works route_in in omega (arith, w, long) in
    let d = first_of works is_in.at below in
    let key : route_in (get_or works is_in.at d) ≡ route = sym (number_or works is_in.at d below) ∙ is_in.is in
    let at = found route_in works route d (keys_rise works d rises) is_in.at below key result in_range searched in
    record {
      place = at.at;
      is = at.is;
      stands = record { work = get_or works at.at d; here = slice_get-get_or works at.at d at.within; on = at.key_is };
    }

pub stands_at : (works : Works) (route : ℕ) (result : Result ℕ ℕ) (place : ℕ) → HasFound works route result → result ≡ Ok place
    → StandsAt works route place
stands_at works route result place has is =
    let same : has.place ≡ place = let e = sym has.is ∙ is in cc in subst (StandsAt works route) same has.stands

pub not_missed : (works : Works) (route : ℕ) (result : Result ℕ ℕ) (place : ℕ) → HasFound works route result → result ≡ Err place → ⊥
not_missed works route result place has is = let e = sym has.is ∙ is in cc

-- the numbers of what a stone is seen to work on
numbers_seen : (works : Works) → numbers_of (map work_of works) ≡ numbers_in works
numbers_seen [] = refl
numbers_seen (w ∷ works) = ap (λ (l : List ℕ). w.route ∷ l) (numbers_seen works)

pub numbers_rise : (job : JobShape) (stone : ℕ) (works : Works) → numbers_of (map work_of works) ≡ routes_at job stone
    → Rises (numbers_in works)
numbers_rise job stone works are =
    subst Rises (sym are ∙ numbers_seen works) (ending-rises stone 0 job.routes)

pub number_in : (works : Works) (route : ℕ) → IsAmong (map work_of works) route → IsIn (numbers_in works) route
number_in works route among =
    let at = number_at (map work_of works) (numbers_in works) among.place among.work (numbers_seen works) among.here in
    record {
      at = among.place;
      within = slice_get_within (numbers_in works) among.place among.work.route at;
      is = get_or_from_slice_get (numbers_in works) among.place among.work.route 0 at ∙ among.is;
    }

pub seen_at : (works : Works) (place : ℕ) (work : declared.RouteWork) → slice_get works place ≡ Some work
    → slice_get (map work_of works) place ≡ Some (work_of work)
seen_at works place work at = rw (slice_get-map work_of works place, at) refl

-- what is read at the work's place is that work
pub read_at : (works : Works) (route place : ℕ) (read : declared.RouteWork) → StandsAt works route place → read ≡ get_or works place read
    → slice_get works place ≡ Some read
read_at works route place read stands is =
    stands.here ∙ ap Some (sym (is ∙ get_or_from_slice_get works place stands.work read stands.here))

pub read_on : (works : Works) (route place : ℕ) (read : declared.RouteWork) → StandsAt works route place → read ≡ get_or works place read
    → read.route ≡ route
read_on works route place read stands is =
    ap route_in (is ∙ get_or_from_slice_get works place stands.work read stands.here) ∙ stands.on

pub place_within : (works : Works) (route place : ℕ) → StandsAt works route place → place < length works
place_within works route place stands = slice_get_within works place stands.work stands.here

-- what is seen of the works where one changes
pub seen_set : (works : Works) (place : ℕ) (new : declared.RouteWork)
    → map work_of (set works place new) ≡ set (map work_of works) place (work_of new)
seen_set [] place new = refl
seen_set (w ∷ works) zero new = refl
seen_set (w ∷ works) (suc place) new = ap (λ (l : List RouteWork). work_of w ∷ l) (seen_set works place new)

pub read_set : (works : Works) (route place : ℕ) (new read : declared.RouteWork) → StandsAt works route place
    → read ≡ get_or (set works place new) place read → read ≡ new
read_set works route place new read stands is =
    is ∙ get_or_from_slice_get (set works place new) place new read (set_here works place stands.work new stands.here)
