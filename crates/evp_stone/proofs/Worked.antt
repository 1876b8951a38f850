-- The parts of what a stone does on a route, one after another.
use Rattle.std.proofs.Common.{◌≡◌, ℕ, List, ap, ◌∙◌}
use Rattle.evp_stone.specs.declared.account.RoundAccount.{RoundAccount}
use Rattle.evp_stone.specs.State.{Outlet, Received, Running, RouteWork}

abbrev pub work : ℕ → List Outlet → List Received → List RoundAccount → Running → RouteWork
work route outlets kept ended running =
    record { route = route; outlets = outlets; kept = kept; ended = ended; running = running }

pub work_same : (route : ℕ) (a b : List Outlet) (kept : List Received) (x y : List RoundAccount) (r s : Running)
    → a ≡ b → x ≡ y → r ≡ s → work route a kept x r ≡ work route b kept y s
work_same route a b kept x y r s outlets ended running =
    ap (λ (l : List Outlet). work route l kept x r) outlets ∙ ap (λ (l : List RoundAccount). work route b kept l r) ended
    ∙ ap (λ (v : Running). work route b kept y v) running
