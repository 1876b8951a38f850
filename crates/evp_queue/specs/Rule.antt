-- The rule of a queue, over what it holds and what each of its passes knows.
use Rattle.std.specs.Prelude.{◌≡◌, ℕ, ◌⊎◌, Bool, true, false, List, [], ◌∷◌, All, Option, Some}
use Rattle.std.specs.Prelude.{None}
use mathlib.Core.Option.{some}
use lib.ListN.{get_elem?}
use Rattle.evp_queue.specs.Counts.{Counts, count_at, IsRoute, raised, those, others}
use Rattle.evp_queue.specs.Flow.{IsPlaced, Carries}
use Rattle.evp_queue.specs.declared.progress.Progress.{Progress}

module _ {W : Type 0} where
  abbrev pub progress : Option W → Bool → Counts → Progress W
  progress whole takes counts = record { whole = whole; takes = takes; counts = counts }

  -- what the first pass knows before the queue is opened
  abbrev pub unopened : Progress W
  unopened = progress None false []

  -- it is a pass of an open queue
  abbrev pub IsOpen : Progress W → Type 0
  IsOpen v = (whole : W) × (v.whole ≡ Some whole)

  -- the same pass with other counts
  abbrev pub with_counts : Progress W → Counts → Progress W
  with_counts v counts = progress v.whole v.takes counts

  -- one entry more on a route
  abbrev pub one_more : ℕ → Progress W → Progress W
  one_more route v = with_counts v (raised route v.counts)

  -- what a pass knows of those of its routes that are among these, and of the others
  abbrev pub part_of : List ℕ → Progress W → Progress W
  part_of routes v = with_counts v (those routes v.counts)

  abbrev pub rest_of : List ℕ → Progress W → Progress W
  rest_of routes v = with_counts v (others routes v.counts)

module _ {E W Fact : Type 0} (route_of position_of : E → ℕ) (flow : W → ℕ → List Fact)
    (stands_for : E → Fact → Type 0) where
  -- for each route of the queue, its entries in order stand for its flow from the taker's count
  -- to the giver's
  pub record Queued (entries : List E) (passes : List (Progress W)) : Type 0 where
    pub whole : W
    -- the number of the take pass, and its counts
    pub taker : ℕ
    pub taken : Counts
    -- for each route the number of the one give pass that has it, and the count there
    pub giver : ℕ → ℕ
    pub given : ℕ → ℕ
    pub of_whole : (pass : ℕ) (v : Progress W) → get_elem? passes pass ≡ some v
        → v.whole ≡ Some whole
    pub take_pass : get_elem? passes taker ≡ some (progress (Some whole) true taken)
    pub one_taker : (pass : ℕ) (v : Progress W) → get_elem? passes pass ≡ some v → v.takes ≡ true
        → pass ≡ taker
    pub give_pass : (route : ℕ) → IsRoute route taken
        → (v : Progress W) × (get_elem? passes (giver route) ≡ some v) × (v.takes ≡ false)
        × (count_at route v.counts ≡ Some (given route))
    pub one_giver : (pass : ℕ) (v : Progress W) (route : ℕ) → get_elem? passes pass ≡ some v
        → v.takes ≡ false → IsRoute route v.counts
        → IsRoute route taken × (pass ≡ giver route)
    pub on_routes : All (λ entry. IsRoute (route_of entry) taken) entries
    pub in_flow : (route count : ℕ) → count_at route taken ≡ Some count
        → Carries route_of position_of flow stands_for whole route count (given route) entries

  -- the queue has one pass and holds nothing, or it is open and keeps its rule
  abbrev pub Ruled : List E → List (Progress W) → Type 0
  Ruled entries passes = ((entries ≡ []) × (passes ≡ unopened ∷ [])) ⊎ Queued entries passes

  -- the entry comes next on its route: its position is the pass's count, and it stands for the
  -- fact there
  abbrev pub IsNext : Progress W → E → Type 0
  IsNext v entry =
      (count_at (route_of entry) v.counts ≡ Some (position_of entry))
      × ((whole : W) × (v.whole ≡ Some whole)
      × IsPlaced route_of position_of flow stands_for whole entry)

  abbrev pub Took : Progress W → E → Progress W → Type 0
  Took v entry w = IsNext v entry × (w ≡ one_more (route_of entry) v)

  -- at one moment the queue kept its rule with these entries, and one of its passes knew this
  abbrev pub Seen : Progress W → List E → Type 0
  Seen v entries = (passes : List (Progress W)) × (pass : ℕ) × Queued entries passes
      × (get_elem? passes pass ≡ some v)
