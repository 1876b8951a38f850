-- The state of a stone's actor, computed on the diamond: the split before its first turn.
use Rattle.std.proofs.Common.{◌≡◌, ℕ, zero, suc, List, [], ◌∷◌, Some, None, refl, subst, arith}
use Rattle.std.specs.List.{slice_get}
use Rattle.evp_graph.specs.declared.route.Route.{Route}
use Rattle.evp_stone.specs.Accounts.{flow_of}
use Rattle.evp_stone.specs.Port.{Counting}
use Rattle.evp_stone.specs.State.{Outlet, RouteWork, StoneWork, HasSent, HasWorked, IsAmong, HasState}
use Rattle.evp_stone.specs.Tallied.{routes_at}
use Rattle.evp_stone.specs.Turning.{nothing_done}
use Rattle.evp_stone.proofs.JobExamples.{diamond}

abbrev route : List ℕ → List ℕ → Route
route positions stones = record { source = 0; positions = positions; stones = stones }

abbrev outlet : ℕ → Outlet
outlet number = record { route = number; lined = 0 }

abbrev split_work : RouteWork
split_work = record { route = 0; outlets = outlet 1 ∷ outlet 3 ∷ []; kept = []; ended = []; running = nothing_done }

-- nothing waits and nothing is in hand
abbrev opening : StoneWork
opening = record { stone = 0; waiting = []; hand = None; routes = split_work ∷ [] }

-- its port takes on route 0 and gives on routes 1 and 3
abbrev taken : Counting
taken zero = Some 0
taken (suc number) = None

abbrev given : Counting
given number = Some 0

ends_there : routes_at diamond 0 ≡ 0 ∷ []
ends_there = refl

sent_none : (position number stone : ℕ) → slice_get diamond.routes number ≡ Some (route (position ∷ []) (0 ∷ stone ∷ []))
    → HasSent diamond given [] (route [] (0 ∷ [])) 0 [] position (outlet number)
sent_none position number stone there =
    let longer = route (position ∷ []) (0 ∷ stone ∷ []) in record {
      longer = longer;
      there = there;
      goes_on = record { stone = stone; source = refl; positions = refl; stones = refl };
      so_far = 0;
      count = refl;
      waits = record { behind = omega arith; within = omega arith; stand = tt };
      lined = record { others = flow_of diamond longer; whole = refl; long = refl };
    }

sent_at : (position : ℕ) (o : Outlet) → slice_get split_work.outlets position ≡ Some o
    → HasSent diamond given [] (route [] (0 ∷ [])) 0 [] position o
sent_at zero o at = let is : outlet 1 ≡ o = cc in
    subst (HasSent diamond given [] (route [] (0 ∷ [])) 0 [] 0) is (sent_none 0 1 1 refl)
sent_at (suc zero) o at = let is : outlet 3 ≡ o = cc in
    subst (HasSent diamond given [] (route [] (0 ∷ [])) 0 [] 1) is (sent_none 1 3 2 refl)
sent_at (suc (suc position)) o at = absurd (cc)

split_opens : HasWorked diamond taken given None [] split_work
split_opens = record {
  route = route [] (0 ∷ []);
  there = refl;
  handled = 0;
  new = [];
  count = refl;
  came = record { others = flow_of diamond (route [] (0 ∷ [])); whole = refl; long = refl };
  rounds = omega arith;
  done = [];
  kept = [];
  works = refl;
  stored = tt;
  ended = tt;
  running = record { passed = refl; dropped = refl; refused = refl; arrived = tt };
  outlets = refl;
  sent = sent_at;
}

port_at : (number count : ℕ) → taken number ≡ Some count → IsAmong (split_work ∷ []) number
port_at zero count at = record { place = 0; work = split_work; here = refl; is = refl }
port_at (suc number) count at = absurd (cc)

work_at : (place : ℕ) (here : RouteWork) → slice_get (split_work ∷ []) place ≡ Some here → HasWorked diamond taken given None [] here
work_at zero here at = let is : split_work ≡ here = cc in subst (HasWorked diamond taken given None []) is split_opens
work_at (suc place) here at = absurd (cc)

opens : HasState diamond taken given opening
opens = record {
  numbers = refl;
  port = port_at;
  hand = λ entry is. absurd (cc);
  waiting = tt;
  each = work_at;
}
