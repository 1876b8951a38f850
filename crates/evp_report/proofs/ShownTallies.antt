-- What an account shows where it is that of a tally, and what it tells of a route in a round.
use Rattle.std.proofs.Common.{◌≡◌, ℕ, zero, suc, List, [], ◌∷◌, ◌++◌, map, length, Option, Some, None, Result, IsOk}
use Rattle.std.proofs.Common.{refl, sym, ap, ◌∙◌, subst, arith}
use Rattle.std.proofs.Common.{Bor, ◌≤◌, take}
use Rattle.std.proofs.lemmas.Option.{slice_get_past, slice_get_read}
use Rattle.std.proofs.lemmas.Slice.Zip.{AllZip-left, AllZip-long}
use Rattle.std.specs.Prelude.{All, slice_get, option_map, IsSomeAnd, IfSome, IfNone, MatchOption}
use Rattle.std.specs.Slice.{IsItemAt}
use Rattle.std.specs.Option.{unwrap_or}
use Rattle.std.specs.Arc.{arc_value}
use Rattle.std.specs.List.{AllZip}
use Rattle.evp_action.specs.declared.acted.Reason.{Reason}
use Rattle.evp_format.specs.declared.broken.Broken.{Broken}
use Rattle.evp_format.specs.Datum.{Datum, null}
use Rattle.evp_format.proofs.Trees.{slice_get-take}
use Rattle.evp_format.specs.Layout.{Layout}
use Rattle.evp_graph.specs.declared.route.Route.{Route}
use Rattle.evp_record.specs.Owned.{HasValueIn}
use Rattle.evp_record.specs.OwnedBytes.{OwnedBytes}
use Rattle.evp_record.specs.Record.{record_of, value_of, value_or_null}
use Rattle.evp_stone.specs.declared.account.RoundAccount.{RoundAccount}
use Rattle.evp_stone.specs.declared.account.RouteAccount.{RouteAccount}
use Rattle.evp_stone.specs.Accounts.{accounts_of}
use Rattle.evp_stone.specs.Carried.{Carried}
use Rattle.evp_stone.specs.Ended.{AreEnded}
use Rattle.evp_stone.specs.Entries.{IsThat}
use Rattle.evp_stone.specs.JobShape.{JobShape}
use Rattle.evp_stone.specs.Tallied.{IsReceived, IsRouteAccount, IsTallied}
use Rattle.evp_stone.specs.Tally.{Tally}
use Rattle.evp_report.specs.Report.{account_text, lines_at, lines_in, lines_of, route_name, told_in, told_of}
use Rattle.evp_report.specs.Shown.{Indexed, received, IsReadable, shown, IsRoundAccount, HasNoRound}

carried : ℕ → ℕ → Datum → Carried
carried index format value = record { index = index; format = format; value = value }

value_from : List ℕ → Option Layout → Datum
value_from bytes layout = unwrap_or (option_map (λ l. value_of (record_of l bytes)) layout) null

-- an index and a record show what they stand for
received_is : (formats : List Layout) (item : Indexed) (c : Carried) → IsReceived formats item c → received formats item ≡ c
unfolding value_from carried
received_is formats item c is =
    let owned = arc_value item.1 in
    let that = is.1 in
    let value : value_from owned.bytes (slice_get formats owned.format) ≡ c.value =
    ap (value_from owned.bytes) that.there ∙ ap value_or_null that.viewed in
    ap (λ i. carried i owned.format (value_from owned.bytes (slice_get formats owned.format))) is.0
    ∙ ap (λ f. carried c.index f (value_from owned.bytes (slice_get formats owned.format))) that.format
    ∙ ap (carried c.index c.format) value

received_all : (formats : List Layout) (items : List Indexed) (cs : List Carried) → AllZip (IsReceived formats) items cs
    → map (received formats) items ≡ cs
received_all formats [] [] zip = refl
received_all formats [] (c ∷ cs) zip = absurd zip
received_all formats (item ∷ items) [] zip = absurd zip
received_all formats (item ∷ items) (c ∷ cs) zip =
    ap (λ (x : Carried). x ∷ map (received formats) items) (received_is formats item c zip.0)
    ∙ ap (λ (l : List Carried). c ∷ l) (received_all formats items cs zip.1)

readable : (formats : List Layout) (owned : OwnedBytes) (c : Carried) → IsThat formats owned c → HasValueIn formats owned
readable formats owned c that = record {
  layout = that.layout;
  there = that.there;
  viewed = subst (λ (r : Result Datum Broken). IsOk r) (sym that.viewed) refl;
}

-- each record that was received has a value
pub readable_all : (formats : List Layout) (items : List Indexed) (cs : List Carried) → AllZip (IsReceived formats) items cs
    → All (IsReadable formats) items
readable_all formats [] cs zip k d below = absurd (omega (arith, below))
readable_all formats (item ∷ items) [] zip k d below = absurd zip
readable_all formats (item ∷ items) (c ∷ cs) zip zero d below = readable formats (arc_value item.1) c zip.0.1
readable_all formats (item ∷ items) (c ∷ cs) zip (suc k) d below = readable_all formats items cs zip.1 k d (omega (arith, below))

tally : ℕ → ℕ → List (ℕ × Reason) → List Carried → ℕ → Tally
tally passed dropped refused arrived held =
    record { passed = passed; dropped = dropped; refused = refused; arrived = arrived; held = held }

shown_is : (formats : List Layout) (account : RoundAccount) (t : Tally) → IsTallied formats account t → shown formats account ≡ t
unfolding tally
shown_is formats account t is =
    let arrived = map (received formats) account.arrived.items in
    ap (λ n. tally n account.dropped account.refused.items arrived account.held) is.passed
    ∙ ap (λ n. tally t.passed n account.refused.items arrived account.held) is.dropped
    ∙ ap (λ (l : List (ℕ × Reason)). tally t.passed t.dropped l arrived account.held) is.refused
    ∙ ap (λ (l : List Carried). tally t.passed t.dropped t.refused l account.held)
    (received_all formats account.arrived.items t.arrived is.arrived)
    ∙ ap (λ n. tally t.passed t.dropped t.refused t.arrived n) is.held

same_route : (job : JobShape) (number : ℕ) (route other : Route) → slice_get job.routes number ≡ Some route
    → slice_get job.routes number ≡ Some other → other ≡ route
same_route job number route other there is = cc

-- a route has no lines in a round that there isn't
pub told_none : (job : JobShape) (number round : ℕ) (route : Route) → slice_get job.routes number ≡ Some route
    → HasNoRound job number round → told_in round (told_of job route) ≡ []
told_none job number round route there lacks =
    ap (λ (t : Option Tally). lines_in t (route_name job route))
    (ap (λ (r : Route). slice_get (accounts_of job r) round) (sym (same_route job number route lacks.route there lacks.there))
    ∙ lacks.none)

-- in a round the lines of a route are those of its account
pub told_some : (job : JobShape) (number round : ℕ) (route : Route) (account : RoundAccount) → slice_get job.routes number ≡ Some route
    → IsRoundAccount job number round account
    → told_in round (told_of job route) ≡ route_name job route ++ account_text (shown job.formats account)
told_some job number round route account there is =
    ap (λ (t : Option Tally). lines_in t (route_name job route))
    (ap (λ (r : Route). slice_get (accounts_of job r) round) (sym (same_route job number route is.route there is.there)) ∙ is.told)
    ∙ ap (λ (t : Tally). route_name job route ++ account_text t) (sym (shown_is job.formats account is.tally is.same))

holds_there : {Y : Type 0} (o : Option Y) (P : Y → Type 0) → IsSomeAnd o P → (y : Y) × ((o ≡ Some y) × P y)
holds_there None P h = absurd h
holds_there (Some y) P h = (y, (refl, h))

module _ (job : JobShape) (number round : ℕ) (account : RouteAccount) (is : IsRouteAccount job number account)
    (rounds : List RoundAccount) (same : rounds ≡ account.rounds.items) where
  told : AllZip (IsTallied job.formats) rounds (accounts_of job is.route)
  told = subst (λ (l : List RoundAccount). AllZip (IsTallied job.formats) l (accounts_of job is.route)) (sym same) is.rounds

  -- a round's account that was read from a route's
  pub some_round : (r : Option (Bor RoundAccount)) → IsItemAt rounds round r → IfSome r (λ a. IsRoundAccount job number round a.now)
  some_round None item = tt
  some_round (Some a) item =
      let read = slice_get_read rounds (length rounds) round a.now refl item.3.0 item.1 in
      let there = subst (λ (o : Option RoundAccount). MatchOption o (Unit {0})
      (λ x. IsSomeAnd (slice_get (accounts_of job is.route) round) (IsTallied job.formats x))) read
      (AllZip-left (IsTallied job.formats) rounds (accounts_of job is.route) told round) in
      let held = holds_there (slice_get (accounts_of job is.route) round) (IsTallied job.formats a.now) there in
      record { route = is.route; there = is.there; tally = held.0; told = held.1.0; same = held.1.1 }

  pub none_round : (r : Option (Bor RoundAccount)) → IsItemAt rounds round r → IfNone r (HasNoRound job number round)
  none_round (Some a) item = tt
  none_round None item =
      let long = AllZip-long (IsTallied job.formats) rounds (accounts_of job is.route) told in
      let past : length rounds ≤ round = item.3 in
      record { route = is.route; there = is.there; none = slice_get_past (accounts_of job is.route) round (omega (arith, long, past)) }

-- the account of a round that has ended
pub ended_round : (job : JobShape) (number round : ℕ) (ended : List RoundAccount) (account : RoundAccount)
    → AreEnded job number ended → slice_get ended round ≡ Some account
    → IsRoundAccount job number round account
ended_round job number round ended account are at =
    let all = accounts_of job are.route in
    let there = subst (λ (o : Option RoundAccount). MatchOption o (Unit {0})
    (λ x. IsSomeAnd (slice_get (take (length ended) all) round) (IsTallied job.formats x))) at
    (AllZip-left (IsTallied job.formats) ended (take (length ended) all) are.ended round) in
    let held = holds_there (slice_get (take (length ended) all) round) (IsTallied job.formats account) there in
    record {
      route = are.route;
      there = are.there;
      tally = held.0;
      told = slice_get-take all (length ended) round held.0 held.1.0;
      same = held.1.1;
    }

-- the lines of a route in a round that has ended
pub ended_lines : (job : JobShape) (number round : ℕ) (ended : List RoundAccount) (account : RoundAccount) (route : Route)
    → AreEnded job number ended → slice_get job.routes number ≡ Some route → slice_get ended round ≡ Some account
    → lines_of job number round ≡ route_name job route ++ account_text (shown job.formats account)
ended_lines job number round ended account route are there at =
    ap (lines_at job round) there
    ∙ told_some job number round route account there (ended_round job number round ended account are at)
