use Rattle.std.proofs.Common.{◌≡◌, ℕ, ◌+◌, ◌<◌, ◌≤◌, List, length, set, sym, ap, subst, ◌∙◌, arith}
use Rattle.std.proofs.lemmas.List.{length-map}
use Rattle.std.proofs.lemmas.Option.{slice_get_within}
use Rattle.std.specs.List.{slice_get}
use Rattle.std.specs.declared.collections.VecDeque.{VecDeque}
use Rattle.std.specs.declared.alloc.Global.{Global}
use Rattle.evp_stone.specs.declared.entry.Entry.{Entry}
use Rattle.evp_stone.specs.Entries.{route_of, position_of}
use Rattle.evp_stone.specs.JobShape.{JobShape}
use Rattle.evp_core.specs.Lists.{ListsShape, MayJoin, OneJoined, IsFull, lists_of, entries_in}
use Rattle.evp_core.proofs.Entering.{has_room_at}
use Rattle.evp_core.proofs.ListsTurn.{next_fits, joined_room, one_joined, stone_within, is_full}
use Rattle.evp_core.proofs.lists.Lists.give.Goals as goal

pub count-requires : goal.count-requires
count-requires c =
    let old = lists_of c.self.inside.job.now c.self.inside.lists.items c.self.inside.taken.items c.self.inside.given.items in
    let next = subst (λ (l : ListsShape). MayJoin l c.args.stone c.args.entry) (sym c.self.view_is) c.requires in
    let within = stone_within old c.self.invariant.has c.parts.ensures.kept c.args.stone c.args.entry next in
    let long = length-map c.self.inside.lists.items (λ (l : VecDeque Entry Global). l.items) in
    let place = c.from-place.ensures in
    let same = ap length c.deref.ensures.value in omega arith

pub returns-then-count-most-clause-full : goal.returns-then-count-most-clause-full
returns-then-count-most-clause-full c =
    let old = lists_of c.self.inside.job.now c.self.inside.lists.items c.self.inside.taken.items c.self.inside.given.items in
    let next = subst (λ (l : ListsShape). MayJoin l c.args.stone c.args.entry) (sym c.self.view_is) c.requires in
    let within = stone_within old c.self.invariant.has c.parts.ensures.kept c.args.stone c.args.entry next in
    let queue : c.parts.result.now.queue ≡ old.job.queue = ap (λ (j : JobShape). j.queue) c.parts.ensures.value in
    let test = c.if-count-most.true in
    let most : old.job.queue ≤ c.count.result = omega arith in
    subst (λ (l : ListsShape). IsFull l c.args.stone) c.self.view_is
    (is_full old c.self.invariant.has c.args.stone within c.count.result
    (λ entries at. c.count.ensures entries
    (ap (λ (l : List (VecDeque Entry Global)). slice_get (entries_in l) c.from-place.result) c.deref.ensures.value
    ∙ ap (slice_get (entries_in c.self.inside.lists.items)) c.from-place.ensures ∙ at)) most)

pub push-requires-clause-within : goal.push-requires-clause-within
push-requires-clause-within c =
    let old = lists_of c.self.inside.job.now c.self.inside.lists.items c.self.inside.taken.items c.self.inside.given.items in
    let next = subst (λ (l : ListsShape). MayJoin l c.args.stone c.args.entry) (sym c.self.view_is) c.requires in
    let within = stone_within old c.self.invariant.has c.parts.ensures.kept c.args.stone c.args.entry next in
    let long = length-map c.self.inside.lists.items (λ (l : VecDeque Entry Global). l.items) in
    let place = c.from-place.ensures in
    omega arith

pub push-requires-clause-room : goal.push-requires-clause-room
push-requires-clause-room c =
    let queue : c.parts.result.now.queue ≡ c.self.inside.job.now.queue = ap (λ (j : JobShape). j.queue) c.parts.ensures.value in
    let test = c.if-count-most.false in
    let fewer : c.count.result < c.self.inside.job.now.queue = omega arith in
    has_room_at c.self.inside.job.now.queue c.self.inside.lists.items c.self.invariant.room c.from-place.result c.count.result
    (λ entries at. c.count.ensures entries
    (ap (λ (l : List (VecDeque Entry Global)). slice_get (entries_in l) c.from-place.result) c.deref.ensures.value ∙ at)) fewer

pub raise-requires-clause-within : goal.raise-requires-clause-within
raise-requires-clause-within c =
    let old = lists_of c.self.inside.job.now c.self.inside.lists.items c.self.inside.taken.items c.self.inside.given.items in
    let next = subst (λ (l : ListsShape). MayJoin l c.args.stone c.args.entry) (sym c.self.view_is) c.requires in
    let route : c.from-route.result ≡ route_of c.args.entry = c.from-route.ensures ∙ c.route.ensures in
    let within = slice_get_within old.given (route_of c.args.entry) (position_of c.args.entry) next.next in
    omega arith

pub raise-requires-clause-fits : goal.raise-requires-clause-fits
raise-requires-clause-fits c count at =
    let old = lists_of c.self.inside.job.now c.self.inside.lists.items c.self.inside.taken.items c.self.inside.given.items in
    let next = subst (λ (l : ListsShape). MayJoin l c.args.stone c.args.entry) (sym c.self.view_is) c.requires in
    let route : c.from-route.result ≡ route_of c.args.entry = c.from-route.ensures ∙ c.route.ensures in
    next_fits old c.args.stone c.args.entry c.parts.ensures.kept next count (ap (slice_get old.given) (sym route) ∙ at)

pub invariant_of-self : goal.invariant_of-self
invariant_of-self c =
    let old = lists_of c.self.inside.job.now c.self.inside.lists.items c.self.inside.taken.items c.self.inside.given.items in
    let next = subst (λ (l : ListsShape). MayJoin l c.args.stone c.args.entry) (sym c.self.view_is) c.requires in
    let here = subst (λ (s : ℕ). MayJoin old s c.args.entry) (sym c.from-place.ensures) next in
    let route : c.from-route.result ≡ route_of c.args.entry = c.from-route.ensures ∙ c.route.ensures in
    let push = c.push.ensures.pushed in
    let queue : c.parts.result.now.queue ≡ old.job.queue = ap (λ (j : JobShape). j.queue) c.parts.ensures.value in
    let count = c.count.ensures push.others
    (ap (λ (l : List (VecDeque Entry Global)). slice_get (entries_in l) c.from-place.result) c.deref.ensures.value ∙ push.was) in
    let test = c.if-count-most.false in
    let room : length push.others < old.job.queue = omega arith in
    let raised : c.raise.new.counts.items ≡ set old.given (route_of c.args.entry) (position_of c.args.entry + 1) =
    c.raise.ensures (position_of c.args.entry) (ap (slice_get old.given) route ∙ next.next)
    ∙ ap (λ (n : ℕ). set old.given n (position_of c.args.entry + 1)) route in
    joined_room old c.from-place.result c.args.entry _ c.raise.new.counts.items push raised here room _ _ c.self.invariant
    c.push.ensures.room

pub returns-clause-joined : goal.returns-clause-joined
returns-clause-joined c =
    let old = lists_of c.self.inside.job.now c.self.inside.lists.items c.self.inside.taken.items c.self.inside.given.items in
    let next = subst (λ (l : ListsShape). MayJoin l c.args.stone c.args.entry) (sym c.self.view_is) c.requires in
    let here = subst (λ (s : ℕ). MayJoin old s c.args.entry) (sym c.from-place.ensures) next in
    let route : c.from-route.result ≡ route_of c.args.entry = c.from-route.ensures ∙ c.route.ensures in
    let push = c.push.ensures.pushed in
    let queue : c.parts.result.now.queue ≡ old.job.queue = ap (λ (j : JobShape). j.queue) c.parts.ensures.value in
    let count = c.count.ensures push.others
    (ap (λ (l : List (VecDeque Entry Global)). slice_get (entries_in l) c.from-place.result) c.deref.ensures.value ∙ push.was) in
    let test = c.if-count-most.false in
    let room : length push.others < old.job.queue = omega arith in
    let raised : c.raise.new.counts.items ≡ set old.given (route_of c.args.entry) (position_of c.args.entry + 1) =
    c.raise.ensures (position_of c.args.entry) (ap (slice_get old.given) route ∙ next.next)
    ∙ ap (λ (n : ℕ). set old.given n (position_of c.args.entry + 1)) route in
    let new = lists_of c.self.inside.job.now c.push.new.lists.items c.self.inside.taken.items c.raise.new.counts.items in
    subst (λ (s : ℕ). OneJoined c.args.self.now new s c.args.entry) c.from-place.ensures
    (subst (λ (l : ListsShape). OneJoined l new c.from-place.result c.args.entry) c.self.view_is
    (one_joined old c.from-place.result c.args.entry _ c.raise.new.counts.items push raised here room))
