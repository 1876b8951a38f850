use Rattle.std.proofs.Common.{◌≡◌, ℕ, ◌+◌, ◌<◌, length, set, sym, ap, subst, ◌∙◌}
use Rattle.std.proofs.lemmas.Option.{slice_get_within}
use Rattle.std.specs.List.{slice_get}
use Rattle.evp_stone.specs.Entries.{route_of, position_of}
use Rattle.evp_core.specs.Lists.{ListsShape, IsFirst, OneLeft, lists_of}
use Rattle.evp_core.proofs.ListsKeep.{is_first}
use Rattle.evp_core.proofs.ListsTurn.{first_fits, left_room, one_left}
use Rattle.evp_core.proofs.lists.Lists.take.Goals as goal

abbrev shape : goal.After-from-2 → ListsShape
shape c = lists_of c.self.inside.job.now c.self.inside.lists.items c.self.inside.taken.items c.self.inside.given.items

first_at : (c : goal.After-from-2) → IsFirst (shape c) c.from.result c.in_ok-entry.entry
first_at c =
    let p = c.in_ok-entry.ensures.some in
    is_first (shape c) c.self.invariant.has c.from.result c.in_ok-entry.entry p.others p.was

route_at : (c : goal.After-from-2) → c.from-2.result ≡ route_of c.in_ok-entry.entry
route_at c = c.from-2.ensures ∙ c.route.ensures

pub raise-requires-clause-within : goal.raise-requires-clause-within
raise-requires-clause-within c =
    let first = first_at c in
    let within = slice_get_within (shape c).taken (route_of c.in_ok-entry.entry) (position_of c.in_ok-entry.entry) first.count in
    subst (λ (n : ℕ). n < length c.self.inside.taken.items) (sym (route_at c)) within

pub raise-requires-clause-fits : goal.raise-requires-clause-fits
raise-requires-clause-fits c count at =
    first_fits (shape c) c.from.result c.in_ok-entry.entry c.parts-kept.ensures.kept (first_at c) count
    (ap (slice_get c.self.inside.taken.items) (sym (route_at c)) ∙ at)

raised_at : (c : goal.After-raise) → c.raise.new.counts.items
    ≡ set c.self.inside.taken.items (route_of c.in_ok-entry.entry) (position_of c.in_ok-entry.entry + 1)
raised_at c =
    let p = c.in_ok-entry.ensures.some in
    let old = lists_of c.self.inside.job.now c.self.inside.lists.items c.self.inside.taken.items c.self.inside.given.items in
    let first = is_first old c.self.invariant.has c.from.result c.in_ok-entry.entry p.others p.was in
    let route : c.from-2.result ≡ route_of c.in_ok-entry.entry = c.from-2.ensures ∙ c.route.ensures in
    c.raise.ensures (position_of c.in_ok-entry.entry) (ap (slice_get c.self.inside.taken.items) route ∙ first.count)
    ∙ ap (λ (n : ℕ). set c.self.inside.taken.items n (position_of c.in_ok-entry.entry + 1)) route

pub invariant_of-self-2 : goal.invariant_of-self-2
invariant_of-self-2 c =
    let p = c.in_ok-entry.ensures.some in
    left_room (lists_of c.self.inside.job.now c.self.inside.lists.items c.self.inside.taken.items c.self.inside.given.items)
    c.from.result c.in_ok-entry.entry _ c.raise.new.counts.items p (raised_at c) _ _ c.self.invariant c.in_ok-entry.ensures.room

pub returns-clause-left : goal.returns-clause-left
returns-clause-left c =
    let p = c.in_ok-entry.ensures.some in
    let old = lists_of c.self.inside.job.now c.self.inside.lists.items c.self.inside.taken.items c.self.inside.given.items in
    let first = is_first old c.self.invariant.has c.from.result c.in_ok-entry.entry p.others p.was in
    let new = lists_of c.self.inside.job.now c.pop.new.lists.items c.raise.new.counts.items c.self.inside.given.items in
    subst (λ (s : ℕ). OneLeft c.args.self.now new s c.in_ok-entry.entry) c.from.ensures
    (subst (λ (l : ListsShape). OneLeft l new c.from.result c.in_ok-entry.entry) c.self.view_is
    (one_left old c.from.result c.in_ok-entry.entry _ c.raise.new.counts.items p (raised_at c) first))

pub returns-clause-first : goal.returns-clause-first
returns-clause-first c =
    let p = c.in_ok-entry.ensures.some in
    let old = lists_of c.self.inside.job.now c.self.inside.lists.items c.self.inside.taken.items c.self.inside.given.items in
    let first = is_first old c.self.invariant.has c.from.result c.in_ok-entry.entry p.others p.was in
    subst (λ (s : ℕ). IsFirst c.args.self.now s c.in_ok-entry.entry) c.from.ensures
    (subst (λ (l : ListsShape). IsFirst l c.from.result c.in_ok-entry.entry) c.self.view_is first)
