-- A turn keeps the rules of the world.
use Rattle.std.proofs.Common.{◌≡◌, ◌≢◌, ℕ, ◌+◌, List, length, Option, Some, None}
use Rattle.std.proofs.Common.{refl, sym, ap, subst, ◌∙◌, ⊎_elim, ne_eqb}
use Rattle.std.proofs.Math.ListN.{length-set}
use Rattle.std.proofs.lemmas.Bool.Decides.{eqb_tells}
use Rattle.std.proofs.lemmas.Option.{same_Some}
use Rattle.std.specs.Prelude.{if◌then◌else◌}
use Rattle.std.specs.List.{slice_get}
use Rattle.evp_graph.specs.declared.route.Route.{Route}
use Rattle.evp_stone.specs.declared.entry.Entry.{Entry}
use Rattle.evp_stone.specs.declared.turn.Turn.{Turn}
use Rattle.evp_stone.specs.Actor.{Role, feeds, works, ActorShape, HasActed}
use Rattle.evp_stone.specs.Entries.{route_of, position_of}
use Rattle.evp_stone.specs.JobShape.{JobShape}
use Rattle.evp_stone.specs.Opening.{IsNumbered, GivesOn}
use Rattle.evp_stone.specs.Port.{LeadsTo}
use Rattle.evp_stone.specs.Route.{last_stone}
use Rattle.evp_stone.proofs.Change.{set_here, set_elsewhere}
use Rattle.evp_stone.proofs.Recounted.{AreSame, StayFor, acted_as}
use Rattle.evp_stone.proofs.SameActor.{IsSame, role_stays, numbered_still}
use Rattle.evp_core.specs.Lists.{ListsShape, HasLists, ListsGo, OneLeft, taken_on, given_on, where_ends, left_by}
use Rattle.evp_core.specs.WorldShape.{WorldShape, HasRules, own_of}
use Rattle.evp_core.specs.WorldTurned.{WorldTurned, counts_before, counts_behind, turned_by}
use Rattle.evp_core.proofs.Given.{role_gives, own_stays}
use Rattle.evp_core.proofs.GivesOnce.{gives_once}
use Rattle.evp_core.proofs.ListsKeep.{is_first}

-- the job stays
pub lists_job : (own : Option ℕ) (old new : ListsShape) → ListsGo own old new → new.job ≡ old.job
lists_job own old new go =
    ⊎_elim (λ same. ap (λ (l : ListsShape). l.job) same)
    (λ moved. ⊎_elim (λ left. ap (λ (l : ListsShape). l.job) left.2.1.is) (λ joined. ap (λ (l : ListsShape). l.job) joined.2.is) moved)
    go

-- what was taken from another list
other_taken : (old : ListsShape) (stone other : ℕ) (entry : Entry) (others : List Entry) → LeadsTo old.job (route_of entry) stone
    → other ≢ stone → AreSame (taken_on old (Some other)) (taken_on (left_by old stone entry others) (Some other))
other_taken old stone other entry others leads apart number =
    ⊎_elim (λ e.
    let at : slice_get old.job.routes number ≡ Some leads.route = ap (slice_get old.job.routes) e.1 ∙ leads.there in
    let none : (count : Option ℕ) → where_ends other (slice_get old.job.routes number) count ≡ None = λ count.
    ap (λ (r : Option Route). where_ends other r count) at
    ∙ ap (λ b. if b then count else None) (ne_eqb (last_stone leads.route) other (λ i. apart (sym i ∙ leads.last))) in
    none _ ∙ sym (none _))
    (λ e. ap (where_ends other (slice_get old.job.routes number))
    (set_elsewhere old.taken (route_of entry) number (position_of entry + 1) e.1))
    (eqb_tells number (route_of entry))

-- an actor takes from one stone's list, and another actor not from that
abbrev pub AreOthers : Option ℕ → Option ℕ → Type 0
AreOthers own other = (stone : ℕ) → own ≡ Some stone → other ≢ Some stone

others_taken : (own other : Option ℕ) (old new : ListsShape) → HasLists old → ListsGo own old new → AreOthers own other
    → AreSame (taken_on old other) (taken_on new other)
others_taken own None old new has go apart number = refl
others_taken own (Some other) old new has go apart number =
    ⊎_elim (λ same. ap (λ (l : ListsShape). taken_on l (Some other) number) same)
    (λ moved. ⊎_elim
    (λ left.
    let one : OneLeft old new left.0 left.2.0 = left.2.1 in
    let first = is_first old has left.0 left.2.0 one.others one.was in
    ap (λ (l : ListsShape). taken_on l (Some other) number) one.is
    ∙ other_taken old left.0 other left.2.0 one.others first.leads (λ e. apart left.0 left.1 (ap Some e)) number)
    (λ joined. ap (λ (l : ListsShape). taken_on l (Some other) number) joined.2.is) moved)
    go

own_apart : (job : JobShape) (number other : ℕ) (role also : Role) → IsNumbered job number role → IsNumbered job other also
    → number ≢ other → AreOthers (own_of role) (own_of also)
own_apart job number other (feeds work) also one two apart stone is there = absurd (cc)
own_apart job number other (works work unended) (feeds others) one two apart stone is there = absurd (cc)
own_apart job number other (works work unended) (works others still) one two apart stone is there =
    let same : work.stone ≡ others.stone = cc in
    apart (one.1 ∙ ap (λ (n : ℕ). length job.sources + n) same ∙ sym two.1)

module _ (old : WorldShape) (rules : HasRules old) (new : WorldShape) (number : ℕ) (turn : Turn)
    (turned : WorldTurned old new number turn) where
  abbrev job : JobShape
  job = old.lists.job

  was_acted : HasActed job old.cells (taken_on old.lists (own_of turned.was.role)) (given_on old.lists) turned.was
  was_acted = rules.acted number turned.was turned.there

  -- an actor of another number gives on none of the routes on which this one gave
  still_given : (other : ℕ) (actor : ActorShape) → slice_get old.actors other ≡ Some actor → other ≢ number
      → StayFor job actor.role (given_on old.lists) (given_on turned.after)
  still_given other actor at apart route_number route there gives =
      let tells = role_gives job (counts_before old.lists (own_of turned.was.role))
      (counts_behind old.lists turned.after (own_of turned.was.role)) route_number
      turned.was.role turned.now.role turn was_acted.role turned.turned.role in
      ⊎_elim (λ same. same)
      (λ one.
      let same : one.route ≡ route = same_Some one.route route (sym one.there ∙ there) in
      absurd (apart (gives_once job other number actor.role turned.was.role route (rules.numbered other actor at)
      (rules.numbered number turned.was turned.there) gives (subst (GivesOn job turned.was.role) same one.gives))))
      tells

  still_acted : (other : ℕ) (actor : ActorShape) → slice_get old.actors other ≡ Some actor → other ≢ number
      → HasActed job old.cells (taken_on turned.after (own_of actor.role)) (given_on turned.after) actor
  still_acted other actor at apart =
      let others = own_apart job number other turned.was.role actor.role (rules.numbered number turned.was turned.there)
      (rules.numbered other actor at) (λ e. apart (sym e)) in
      acted_as job (taken_on old.lists (own_of actor.role)) (taken_on turned.after (own_of actor.role)) (given_on old.lists)
      (given_on turned.after)
      (others_taken (own_of turned.was.role) (own_of actor.role) old.lists turned.after rules.lists turned.lists others)
      old.cells actor (still_given other actor at apart) (rules.acted other actor at)

  same : IsSame turned.was.role turned.now.role
  same = role_stays job _ _ turned.was.role turned.now.role turn turned.turned.role

  still_numbered : IsNumbered job number turned.now.role
  still_numbered = numbered_still job number turned.was.role turned.now.role same (rules.numbered number turned.was turned.there)

  abbrev after : WorldShape
  after = turned_by old number turned.now turned.after turn

  same_job : turned.after.job ≡ job
  same_job = lists_job (own_of turned.was.role) old.lists turned.after turned.lists

  -- each actor is the one that turned, or one of before
  which : (other : ℕ) (actor : ActorShape) → slice_get after.actors other ≡ Some actor → (P : ℕ → ActorShape → Type 0)
      → P number turned.now
      → (slice_get old.actors other ≡ Some actor → other ≢ number → P other actor) → P other actor
  which other actor at P here there =
      ⊎_elim (λ e.
      let is : turned.now ≡ actor = some_actor turned.now actor
      (sym (set_here old.actors number turned.was turned.now turned.there) ∙ ap (slice_get after.actors) (sym e.1) ∙ at) in
      subst (λ (n : ℕ). P n actor) (sym e.1) (subst (P number) is here))
      (λ e. there (sym (set_elsewhere old.actors number other turned.now e.1) ∙ at) e.1)
      (eqb_tells other number)
    where
      some_actor : (a b : ActorShape) → Some a ≡ Some b → a ≡ b
      some_actor a b same = cc

  pub turn_keeps : HasLists turned.after
      → HasActed job old.cells (taken_on turned.after (own_of turned.was.role)) (given_on turned.after) turned.now → HasRules new
  turn_keeps lists acted = subst HasRules (sym turned.is) (record {
    lists = lists;
    count = length-set old.actors number turned.now ∙ rules.count ∙ ap (λ (j : JobShape). length j.sources + length j.stones)
        (sym same_job);
    numbered = λ other actor at. subst (λ (j : JobShape). IsNumbered j other actor.role) (sym same_job)
        (which other actor at (λ n a. IsNumbered job n a.role) still_numbered (λ was apart. rules.numbered other actor was));
    acted = λ other actor at. subst
        (λ (j : JobShape). HasActed j old.cells (taken_on turned.after (own_of actor.role)) (given_on turned.after) actor) (sym same_job)
        (which other actor at
        (λ n a. HasActed job old.cells (taken_on turned.after (own_of a.role)) (given_on turned.after) a)
        (subst (λ (o : Option ℕ). HasActed job old.cells (taken_on turned.after o) (given_on turned.after) turned.now)
        (sym (own_stays turned.was.role turned.now.role same)) acted)
        (λ was apart. still_acted other actor was apart));
  })
