use Rattle.std.proofs.Common.{◌≡◌, ℕ, ◌==◌, List, length, Some, refl, sym, ap, subst, ◌∙◌, rules}
use Rattle.evp_stone.specs.declared.route_work.RouteWork as declared
use Rattle.evp_stone.specs.declared.turn.Turn.TheVariants.{Moved, Memory}
use Rattle.evp_stone.specs.Entries.{route_of}
use Rattle.evp_stone.specs.JobShape.{JobShape}
use Rattle.evp_stone.specs.Places.{Rises, IsIn, StandsAt, numbers_in}
use Rattle.evp_stone.specs.Seen.{seen, holding}
use Rattle.evp_stone.specs.Settling.{work_of}
use Rattle.evp_stone.specs.State.{RouteWork, StoneWork, round_in}
use Rattle.evp_stone.specs.StoneTurn.{HandGone}
use Rattle.evp_stone.specs.Turning.{turned}
use Rattle.evp_stone.proofs.HandGone.{can_deal, some_left, hand_done, hand_back}
use Rattle.evp_stone.proofs.Unended.{left}
use Rattle.evp_stone.proofs.WorkPlaces.{numbers_rise, number_in, seen_at, read_at, read_on, place_within, seen_set, read_set}
use Rattle.evp_stone.proofs.worker.Worker.deal.Goals as goal

stands : (works listed : List declared.RouteWork) (route place : ℕ) → listed ≡ works → StandsAt listed route place
    → StandsAt works route place
stands works listed route place same standing = subst (λ (l : List declared.RouteWork). StandsAt l route place) same standing

pub place_of-place-requires-clause-rise : goal.place_of-place-requires-clause-rise
place_of-place-requires-clause-rise c =
    let self = c.args.self.now in
    subst (λ (l : List declared.RouteWork). Rises (numbers_in l)) (sym c.as_slice.ensures.value)
    (numbers_rise c.args.shared.now.job.now self.stone self.routes.items c.requires.holds.state.numbers)

pub place_of-place-requires-clause-there : goal.place_of-place-requires-clause-there
place_of-place-requires-clause-there c =
    let self = c.args.self.now in
    let last = c.requires.holds.state.hand c.args.entry refl in
    subst (λ (l : List declared.RouteWork). IsIn (numbers_in l) c.route.result) (sym c.as_slice.ensures.value)
    (subst (IsIn (numbers_in self.routes.items)) (sym c.route.ensures) (number_in self.routes.items (route_of c.args.entry) last.ours))

pub index_mut-work-requires : goal.index_mut-work-requires
index_mut-work-requires c =
    let works = c.args.self.now.routes.items in
    let there = stands works c.as_slice.result.now c.route.result c.place_of-place.result c.as_slice.ensures.value
    c.place_of-place.ensures in
    let within = place_within works c.route.result c.place_of-place.result there in
    search (rules, within)

pub index-requires : goal.index-requires
index-requires c =
    let works = c.args.self.now.routes.items in
    let there = stands works c.as_slice.result.now c.route.result c.place_of-place.result c.as_slice.ensures.value
    c.place_of-place.ensures in
    let within = place_within works c.route.result c.place_of-place.result there in
    search (rules, within)

pub deal-requires-clause-can : goal.deal-requires-clause-can
deal-requires-clause-can c =
    let self = c.args.self.now in
    let works = self.routes.items in
    let place = c.place_of-place.result in
    let read = c.index_mut-work.result.now in
    let there = stands works c.as_slice.result.now c.route.result place c.as_slice.ensures.value c.place_of-place.ensures in
    let at = seen_at works place read (read_at works c.route.result place read there c.index_mut-work.ensures.value) in
    let on : route_of c.args.entry ≡ read.route =
    sym c.route.ensures ∙ sym (read_on works c.route.result place read there c.index_mut-work.ensures.value) in
    can_deal c.args.shared.now.job.now c.parts.ensures.kept (seen self) c.args.entry c.requires.holds c.requires.none place
    (work_of read) at on
    c.args.shared.now.cache.now c.args.learnt.now.pass c.requires.cache c.requires.declared c.requires.pass

pub still_unended-self-requires : goal.still_unended-self-requires
still_unended-self-requires c =
    let self = c.args.self.now in
    let works = self.routes.items in
    let place = c.place_of-place.result in
    let read = c.index_mut-work.result.now in
    let there = stands works c.as_slice.result.now c.route.result place c.as_slice.ensures.value c.place_of-place.ensures in
    let at = seen_at works place read (read_at works c.route.result place read there c.index_mut-work.ensures.value) in
    let on : route_of c.args.entry ≡ read.route =
    sym c.route.ensures ∙ sym (read_on works c.route.result place read there c.index_mut-work.ensures.value) in
    some_left c.args.shared.now.job.now c.parts.ensures.kept (seen self) c.args.entry c.requires.holds c.requires.none place
    (work_of read) at on
    self.unended c.requires.unended

pub returns-in-Ok-clause-gone : goal.returns-in-Ok-clause-gone
returns-in-Ok-clause-gone c =
    let self = c.args.self.now in
    let works = self.routes.items in
    let place = c.place_of-place.result in
    let read = c.index_mut-work.result.now in
    let there = stands works c.as_slice.result.now c.route.result place c.as_slice.ensures.value c.place_of-place.ensures in
    let at = seen_at works place read (read_at works c.route.result place read there c.index_mut-work.ensures.value) in
    let on : route_of c.args.entry ≡ read.route =
    sym c.route.ensures ∙ sym (read_on works c.route.result place read there c.index_mut-work.ensures.value) in
    let job = c.args.shared.now.job.now in
    let cells = c.args.shared.now.cache.now in
    let known = c.args.learnt.now.pass in
    let later = c.deal.new.learnt.pass in
    let built = c.args.learnt.now.builds in
    let now = c.deal.new.learnt.builds in
    let new = c.deal.new.work in
    let waiting = c.deal.new.waiting.items in
    let hand = c.in-Ok.hand in
    let entry = c.args.entry in
    let done = hand_done job c.parts.ensures.kept (seen self) entry c.requires.holds c.requires.none place (work_of read) at on
    cells (work_of new) waiting hand known later built now self.unended c.requires.pass c.requires.met c.requires.unended
    c.in-Ok.ensures in
    let of_read : c.len-ended.result ≡ length c.index.result.now.ended.items = search rules in
    let ended : c.len-ended.result ≡ round_in (work_of new) =
    of_read ∙ ap (λ (w : declared.RouteWork). length w.ended.items)
    (read_set works c.route.result place new c.index.result.now there c.index.ensures) in
    let of_parts : c.len-rounds.result ≡ length c.parts.result.now.rounds.items = search rules in
    let rounds : c.len-rounds.result ≡ length job.rounds = of_parts ∙ ap (λ (j : JobShape). length j.rounds) c.parts.ensures.value in
    let count : c.still_unended-self.result ≡ left self.unended (round_in (work_of new) == length job.rounds) =
    c.still_unended-self.ensures ∙ ap (λ (n : ℕ). left self.unended (n == c.len-rounds.result)) ended
    ∙ ap (λ (n : ℕ). left self.unended (round_in (work_of new) == n)) rounds in
    let routes = ap (λ (l : List RouteWork). record { stone = self.stone; waiting = waiting; hand = hand; routes = l })
    (seen_set works place new) in
    subst (λ (s : StoneWork). HandGone job cells (seen self) s entry c.still_unended-self.result known later built now Moved) (sym routes)
    (subst (λ (n : ℕ). HandGone job cells (seen self) (turned (holding (seen self) entry) waiting hand place (work_of new)) entry n
    known later
    built now Moved) (sym count) done)

pub returns-in-Err-clause-gone : goal.returns-in-Err-clause-gone
returns-in-Err-clause-gone c =
    let self = c.args.self.now in
    let works = self.routes.items in
    let place = c.place_of-place.result in
    let read = c.index_mut-work.result.now in
    let there = stands works c.as_slice.result.now c.route.result place c.as_slice.ensures.value c.place_of-place.ensures in
    let at = seen_at works place read (read_at works c.route.result place read there c.index_mut-work.ensures.value) in
    let on : route_of c.args.entry ≡ read.route =
    sym c.route.ensures ∙ sym (read_on works c.route.result place read there c.index_mut-work.ensures.value) in
    let job = c.args.shared.now.job.now in
    let cells = c.args.shared.now.cache.now in
    let known = c.args.learnt.now.pass in
    let later = c.deal.new.learnt.pass in
    let built = c.args.learnt.now.builds in
    let now = c.deal.new.learnt.builds in
    let new = c.deal.new.work in
    let waiting = c.deal.new.waiting.items in
    let entry = c.args.entry in
    let back = hand_back job c.parts.ensures.kept (seen self) entry c.requires.holds c.requires.none place (work_of read) at on
    cells (work_of new) waiting c.in-Err.entry known later built now self.unended c.requires.pass c.requires.met c.requires.unended
    c.in-Err.ensures in
    let routes = ap (λ (l : List RouteWork). record { stone = self.stone; waiting = waiting; hand = Some c.in-Err.entry; routes = l })
    (seen_set works place new) in
    subst (λ (s : StoneWork). HandGone job cells (seen self) s entry self.unended known later built now Memory) (sym routes) back
