-- The lists of entries between the stones of a job, with their counts, and the rule that they keep.
use Rattle.std.specs.Prelude.{◌≡◌, ℕ, ◌+◌, ◌<◌, ◌≤◌, ◌==◌, ◌⊎◌, if◌then◌else◌}
use Rattle.std.specs.Prelude.{List, [], ◌∷◌, ◌++◌, length, map, replicate, Option, Some, None}
use Rattle.std.specs.Prelude.{slice_get, slice_set}
use Rattle.std.specs.List.{AllByRecursion}
use Rattle.std.specs.VecDeque.{deque_len, deque_capacity}
use Rattle.std.specs.declared.collections.VecDeque.{VecDeque}
use Rattle.std.specs.declared.alloc.Global.{Global}
use Rattle.evp_graph.specs.declared.route.Route.{Route}
use Rattle.evp_queue.specs.Flow.{Carries}
use Rattle.evp_stone.specs.declared.entry.Entry.{Entry}
use Rattle.evp_stone.specs.Entries.{flow, stands_for, route_of, position_of}
use Rattle.evp_stone.specs.JobShape.{JobShape}
use Rattle.evp_stone.specs.Port.{Counting, LeadsTo, IsPlacedIn}
use Rattle.evp_stone.specs.Route.{last_stone}

pub record ListsShape : Type 0 where
  pub job : JobShape
  -- by the stones' numbers the entries that wait there, the first one first
  pub lists : List (List Entry)
  -- by the routes' numbers how many entries were taken and given
  pub taken : List ℕ
  pub given : List ℕ

abbrev pub given_on : ListsShape → Counting
given_on lists number = slice_get lists.given number

-- the count of a route that ends in this stone
abbrev pub where_ends : ℕ → Option Route → Option ℕ → Option ℕ
where_ends stone None count = None
where_ends stone (Some route) count = if last_stone route == stone then count else None

-- what was taken from a stone's list; a source takes from none
abbrev pub taken_on : ListsShape → Option ℕ → Counting
taken_on lists None number = None
taken_on lists (Some stone) number =
    where_ends stone (slice_get lists.job.routes number) (slice_get lists.taken number)

-- the entries of a stone's list are on routes that end in the stone, and those of each such route
-- stand for its flow from the taker's count to the giver's
pub record KeepsRule (lists : ListsShape) (stone : ℕ) (entries : List Entry) : Type 0 where
  pub short : length entries ≤ lists.job.queue
  pub on : AllByRecursion (λ entry. LeadsTo lists.job (route_of entry) stone) entries
  pub carries : (number : ℕ) → LeadsTo lists.job number stone → (taken given : ℕ)
      → slice_get lists.taken number ≡ Some taken → slice_get lists.given number ≡ Some given
      → Carries route_of position_of flow stands_for lists.job number taken given entries

-- there is a list for each stone and a count for each route, and each list keeps the rule
pub record HasLists (lists : ListsShape) : Type 0 where
  pub stones : length lists.lists ≡ length lists.job.stones
  pub taken : length lists.taken ≡ length lists.job.routes
  pub given : length lists.given ≡ length lists.job.routes
  pub each : (stone : ℕ) (entries : List Entry) → slice_get lists.lists stone ≡ Some entries
      → KeepsRule lists stone entries

-- nothing is in the lists, and nothing was ever taken or given
pub record AreEmpty (lists : ListsShape) : Type 0 where
  pub none : lists.lists ≡ replicate (length lists.job.stones) []
  pub taken : lists.taken ≡ replicate (length lists.job.routes) 0
  pub given : lists.given ≡ replicate (length lists.job.routes) 0

-- when this entry, the first of a stone's list, has left it, and these others are there
abbrev pub left_by : ListsShape → ℕ → Entry → List Entry → ListsShape
left_by old stone entry others = record {
  job = old.job;
  lists = slice_set old.lists stone others;
  taken = slice_set old.taken (route_of entry) (position_of entry + 1);
  given = old.given;
}

-- when this entry has joined a stone's list behind these others
abbrev pub joined_by : ListsShape → ℕ → Entry → List Entry → ListsShape
joined_by old stone entry others = record {
  job = old.job;
  lists = slice_set old.lists stone (others ++ entry ∷ []);
  taken = old.taken;
  given = slice_set old.given (route_of entry) (position_of entry + 1);
}

-- the entry left the list of a stone, where it was the first
pub record OneLeft (old new : ListsShape) (stone : ℕ) (entry : Entry) : Type 0 where
  pub others : List Entry
  pub was : slice_get old.lists stone ≡ Some (entry ∷ others)
  pub count : slice_get old.taken (route_of entry) ≡ Some (position_of entry)
  pub is : new ≡ left_by old stone entry others

-- the entry joined the list of a stone, where there was room, as the last
pub record OneJoined (old new : ListsShape) (stone : ℕ) (entry : Entry) : Type 0 where
  pub others : List Entry
  pub was : slice_get old.lists stone ≡ Some others
  pub room : length others < old.job.queue
  pub leads : LeadsTo old.job (route_of entry) stone
  pub count : slice_get old.given (route_of entry) ≡ Some (position_of entry)
  pub placed : IsPlacedIn old.job entry
  pub is : new ≡ joined_by old stone entry others

-- nothing moved, or one entry left the list from which is taken, or one joined a list
abbrev pub ListsGo : Option ℕ → ListsShape → ListsShape → Type 0
ListsGo own old new =
    (new ≡ old)
    ⊎ ((stone : ℕ) × (own ≡ Some stone) × ((entry : Entry) × OneLeft old new stone entry))
    ⊎ ((stone : ℕ) × (entry : Entry) × OneJoined old new stone entry)

-- the stone's list has no entry
abbrev pub IsEmpty : ListsShape → ℕ → Type 0
IsEmpty lists stone = slice_get lists.lists stone ≡ Some []

-- the stone's list has no room
abbrev pub IsFull : ListsShape → ℕ → Type 0
IsFull lists stone =
    (entries : List Entry) × (slice_get lists.lists stone ≡ Some entries)
    × (length entries ≡ lists.job.queue)

-- what lists hold
abbrev pub entries_in : List (VecDeque Entry Global) → List (List Entry)
entries_in lists = map (λ (list : VecDeque Entry Global). list.items) lists

abbrev pub lists_of : JobShape → List (VecDeque Entry Global) → List ℕ → List ℕ → ListsShape
lists_of job lists taken given = record {
  job = job;
  lists = entries_in lists;
  taken = taken;
  given = given;
}

-- for how many entries each has room
abbrev pub rooms_of : List (VecDeque Entry Global) → List ℕ
rooms_of lists = map (λ (list : VecDeque Entry Global). deque_capacity list) lists

-- there is room for one more at this place
abbrev pub HasRoomAt : List (VecDeque Entry Global) → ℕ → Type 0
HasRoomAt lists place =
    (list : VecDeque Entry Global) → slice_get lists place ≡ Some list
    → deque_len list < deque_capacity list

-- this entry, the first of a list, has left it
pub record IsPopped (old new : List (List Entry)) (stone : ℕ) (entry : Entry) : Type 0 where
  pub others : List Entry
  pub was : slice_get old stone ≡ Some (entry ∷ others)
  pub is : new ≡ slice_set old stone others

-- this entry has joined a list behind the others
pub record IsPushed (old new : List (List Entry)) (stone : ℕ) (entry : Entry) : Type 0 where
  pub others : List Entry
  pub was : slice_get old stone ≡ Some others
  pub is : new ≡ slice_set old stone (others ++ entry ∷ [])

-- what is known of the first entry of a stone's list
pub record IsFirst (lists : ListsShape) (stone : ℕ) (entry : Entry) : Type 0 where
  pub leads : LeadsTo lists.job (route_of entry) stone
  pub count : slice_get lists.taken (route_of entry) ≡ Some (position_of entry)
  pub placed : IsPlacedIn lists.job entry

-- the entry is the next of its route, which leads to this stone
pub record MayJoin (lists : ListsShape) (stone : ℕ) (entry : Entry) : Type 0 where
  pub leads : LeadsTo lists.job (route_of entry) stone
  pub next : slice_get lists.given (route_of entry) ≡ Some (position_of entry)
  pub placed : IsPlacedIn lists.job entry

-- each list keeps its rule, and has room for as many entries as the job says
pub record HasRoom (lists : ListsShape) (rooms : List ℕ) : Type 0 where
  pub has : HasLists lists
  pub room : AllByRecursion (λ (room : ℕ). lists.job.queue ≤ room) rooms
