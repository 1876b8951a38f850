-- What entries stand for when one joins at the back, and when one leaves at the front.
use Rattle.std.proofs.Common.{◌≡◌, ℕ, zero, suc, ◌+◌, ◌-◌, ◌≤◌, ◌<◌, ◌≢◌, ◌==◌, List, [], ◌∷◌, ◌++◌, length, take, drop, Some, sym}
use Rattle.std.proofs.Common.{refl, ap, ◌∙◌, eq-eqb, ne_eqb, add-one, arith, length-take, length-drop}
use Rattle.std.proofs.lemmas.List.Elements.{filter-append}
use Rattle.std.proofs.lemmas.List.{drop-append-le, append-nil}
use Rattle.std.proofs.lemmas.Option.{slice_get_within}
use Rattle.std.specs.List.{slice_get}
use Rattle.evp_queue.specs.Flow.{entries_of, StandFor, between, Carries}

module _ {Fact : Type 0} where
  take_next : (to : ℕ) (facts : List Fact) (fact : Fact) → slice_get facts to ≡ Some fact → take (suc to) facts ≡ take to facts ++ fact
      ∷ []
  take_next to [] fact at = absurd (cc)
  take_next zero (f ∷ facts) fact at = cc
  take_next (suc to) (f ∷ facts) fact at = ap (λ l. f ∷ l) (take_next to facts fact at)

  slice_get_take : (to at : ℕ) (facts : List Fact) → at < to → slice_get (take to facts) at ≡ slice_get facts at
  slice_get_take zero at facts below = absurd (omega arith)
  slice_get_take (suc to) at [] below = refl
  slice_get_take (suc to) zero (f ∷ facts) below = refl
  slice_get_take (suc to) (suc at) (f ∷ facts) below = slice_get_take to at facts (omega arith)

  drop_first : (from : ℕ) (facts : List Fact) (fact : Fact) (rest : List Fact) → drop from facts ≡ fact ∷ rest
      → (slice_get facts from ≡ Some fact) × (rest ≡ drop (suc from) facts)
  drop_first zero [] fact rest is = absurd (cc)
  drop_first (suc from) [] fact rest is = absurd (cc)
  drop_first zero (f ∷ facts) fact rest is = (cc, cc)
  drop_first (suc from) (f ∷ facts) fact rest is = drop_first from facts fact rest is

  -- one fact further
  pub between-more : (from to : ℕ) (facts : List Fact) (fact : Fact) → from ≤ to → slice_get facts to ≡ Some fact
      → between from (to + 1) facts ≡ between from to facts ++ fact ∷ []
  between-more from to facts fact behind at =
      let within = slice_get_within facts to fact at in
      let long : from ≤ length (take to facts) = omega (arith, length-take to facts) in
      rw add-one (ap (drop from) (take_next to facts fact at) ∙ drop-append-le from (take to facts) (fact ∷ []) long)

  -- the first of them, and the others
  pub between-first : (from to : ℕ) (facts : List Fact) (fact : Fact) (rest : List Fact) → between from to facts ≡ fact ∷ rest
      → (slice_get facts from ≡ Some fact) × (rest ≡ between (from + 1) to facts) × (from + 1 ≤ to)
  between-first from to facts fact rest is =
      let first = drop_first from (take to facts) fact rest is in
      let within = slice_get_within (take to facts) from fact first.0 in
      let below : from < to = omega (arith, length-take to facts) in
      (sym (slice_get_take to from facts below) ∙ first.0, rw add-one first.1, omega arith)

  pub length-between : (from to : ℕ) (facts : List Fact) → to ≤ length facts → length (between from to facts) ≡ to - from
  length-between from to facts within = omega (arith, length-drop from (take to facts), length-take to facts)

module _ {E Fact : Type 0} (position_of : E → ℕ) (stands_for : E → Fact → Type 0) where
  pub StandFor-more : (position : ℕ) (entries : List E) (facts : List Fact) (entry : E) (fact : Fact)
      → StandFor position_of stands_for position entries facts → position_of entry ≡ position + length facts → stands_for entry fact
      → StandFor position_of stands_for position (entries ++ entry ∷ []) (facts ++ fact ∷ [])
  StandFor-more position [] [] entry fact stand is stands = (omega arith, stands, tt)
  StandFor-more position [] (f ∷ facts) entry fact stand is stands = absurd stand
  StandFor-more position (e ∷ entries) [] entry fact stand is stands = absurd stand
  StandFor-more position (e ∷ entries) (f ∷ facts) entry fact stand is stands =
      (stand.0, stand.1, StandFor-more (position + 1) entries facts entry fact stand.2 (omega arith) stands)

  pub length-StandFor : (position : ℕ) (entries : List E) (facts : List Fact) → StandFor position_of stands_for position entries facts
      → length entries ≡ length facts
  length-StandFor position [] [] stand = refl
  length-StandFor position [] (f ∷ facts) stand = absurd stand
  length-StandFor position (e ∷ entries) [] stand = absurd stand
  length-StandFor position (e ∷ entries) (f ∷ facts) stand = ap suc (length-StandFor (position + 1) entries facts stand.2)

module _ {E : Type 0} (route_of : E → ℕ) where
  pub entries_of-here : (route : ℕ) (entry : E) (entries : List E) → route_of entry ≡ route
      → entries_of route_of route (entry ∷ entries) ≡ entry ∷ entries_of route_of route entries
  entries_of-here route entry entries is = rw (eq-eqb (route_of entry) route is)

  pub entries_of-elsewhere : (route : ℕ) (entry : E) (entries : List E) → route ≢ route_of entry
      → entries_of route_of route (entry ∷ entries) ≡ entries_of route_of route entries
  entries_of-elsewhere route entry entries apart = rw (ne_eqb (route_of entry) route (λ e. apart (sym e)))

module _ {E W Fact : Type 0} (route_of position_of : E → ℕ) (flow : W → ℕ → List Fact) (stands_for : E → Fact → Type 0) where
  -- an entry that stands for the next fact joins at the back
  pub carries_more : (whole : W) (route taken given : ℕ) (entries : List E) (entry : E) (fact : Fact)
      → Carries route_of position_of flow stands_for whole route taken given entries
      → route_of entry ≡ route → position_of entry ≡ given → slice_get (flow whole route) given ≡ Some fact → stands_for entry fact
      → Carries route_of position_of flow stands_for whole route taken (given + 1) (entries ++ entry ∷ [])
  carries_more whole route taken given entries entry fact was on is at stands =
      let here : entries_of route_of route (entry ∷ []) ≡ entry ∷ [] = entries_of-here route_of route entry [] on in
      let all : entries_of route_of route (entries ++ entry ∷ []) ≡ entries_of route_of route entries ++ entry ∷ [] =
      filter-append (λ e. route_of e == route) entries (entry ∷ []) ∙ ap (λ l. entries_of route_of route entries ++ l) here in
      let facts = between taken given (flow whole route) in
      let long : length facts ≡ given - taken = length-between taken given (flow whole route) was.within in
      record {
        behind = let b = was.behind in omega arith;
        within = let w = slice_get_within (flow whole route) given fact at in omega arith;
        stand = rw (all, between-more taken given (flow whole route) fact was.behind at)
            (StandFor-more position_of stands_for taken (entries_of route_of route entries) facts entry fact was.stand
            (let b = was.behind in omega arith) stands);
      }

  -- an entry of another route joins at the back
  pub carries_still : (whole : W) (route taken given : ℕ) (entries : List E) (entry : E)
      → Carries route_of position_of flow stands_for whole route taken given entries → route ≢ route_of entry
      → Carries route_of position_of flow stands_for whole route taken given (entries ++ entry ∷ [])
  carries_still whole route taken given entries entry was apart =
      let all : entries_of route_of route (entries ++ entry ∷ []) ≡ entries_of route_of route entries =
      filter-append (λ e. route_of e == route) entries (entry ∷ []) ∙ ap (λ l. entries_of route_of route entries ++ l)
      (entries_of-elsewhere route_of route entry [] apart) ∙ append-nil (entries_of route_of route entries) in
      record { behind = was.behind; within = was.within; stand = rw all was.stand }

  -- an entry of another route leaves at the front
  pub carries_behind : (whole : W) (route taken given : ℕ) (entries : List E) (entry : E)
      → Carries route_of position_of flow stands_for whole route taken given (entry ∷ entries) → route ≢ route_of entry
      → Carries route_of position_of flow stands_for whole route taken given entries
  carries_behind whole route taken given entries entry was apart =
      record {
        behind = was.behind;
        within = was.within;
        stand = rw (entries_of-elsewhere route_of route entry entries apart) at
            was.stand;
      }

  -- the first of the entries, and the others
  pub record LeavesFirst (whole : W) (route taken given : ℕ) (entries : List E) (entry : E) : Type 0 where
    pub fact : Fact
    pub at : slice_get (flow whole route) taken ≡ Some fact
    pub stands : stands_for entry fact
    pub is : position_of entry ≡ taken
    pub others : Carries route_of position_of flow stands_for whole route (taken + 1) given entries

  first_of : (whole : W) (route taken given : ℕ) (entries : List E) (entry : E) (facts : List Fact)
      → between taken given (flow whole route) ≡ facts → given ≤ length (flow whole route)
      → StandFor position_of stands_for taken (entry ∷ entries_of route_of route entries) facts
      → LeavesFirst whole route taken given entries entry
  first_of whole route taken given entries entry [] is within stand = absurd stand
  first_of whole route taken given entries entry (f ∷ facts) is within stand =
      let first = between-first taken given (flow whole route) f facts is in
      record {
        fact = f;
        at = first.0;
        stands = stand.1;
        is = stand.0;
        others = record { behind = first.2; within = within; stand = rw first.1 at stand.2 };
      }

  pub carries_fewer : (whole : W) (route taken given : ℕ) (entries : List E) (entry : E)
      → Carries route_of position_of flow stands_for whole route taken given (entry ∷ entries) → route_of entry ≡ route
      → LeavesFirst whole route taken given entries entry
  carries_fewer whole route taken given entries entry was on =
      first_of whole route taken given entries entry (between taken given (flow whole route)) refl was.within
      (rw (entries_of-here route_of route entry entries on) at was.stand)
