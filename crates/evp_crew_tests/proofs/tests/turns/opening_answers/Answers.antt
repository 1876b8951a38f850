use Rattle.std.proofs.Common.{◌≡◌, ◌∷◌, [], List, length, Some, refl, ap, ◌∙◌}
use Rattle.std.specs.List.{slice_get}
use Rattle.evp_crew.specs.Seat.{SeatShape}
use Rattle.evp_crew.proofs.Lists.{front_at, last_there}
use Rattle.evp_crew_tests.proofs.tests.turns.opening_answers.Goals as goal

pub answers-requires-clause-source : goal.answers-requires-clause-source
answers-requires-clause-source g c =
    let front = c.pop.new.self.items in
    let first = c.pop-2.new.self.items in
    let source = c.in-Some-pop.source in
    let behind : slice_get front (length first) ≡ Some source =
    ap (λ (l : List SeatShape). slice_get l (length first)) c.in-Some-pop.ensures.items ∙ last_there first source (length first) refl in
    let at : slice_get c.in_ok-crew.seats.items (length first) ≡ Some source =
    ap (λ (l : List SeatShape). slice_get l (length first)) c.in-Some.ensures.items
    ∙ front_at front (c.in-Some.stone ∷ []) (length first) source behind in
    (c.in_ok-crew.ensures.each (length first) source at).of

pub answers-requires-clause-stone : goal.answers-requires-clause-stone
answers-requires-clause-stone g c =
    let front = c.pop.new.self.items in
    let stone = c.in-Some.stone in
    let at : slice_get c.in_ok-crew.seats.items (length front) ≡ Some stone =
    ap (λ (l : List SeatShape). slice_get l (length front)) c.in-Some.ensures.items ∙ last_there front stone (length front) refl in
    (c.in_ok-crew.ensures.each (length front) stone at).of
