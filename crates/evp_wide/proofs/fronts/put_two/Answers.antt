use Rattle.std.proofs.Common.{ℕ, ◌+◌, ◌≤◌, ◌++◌, List, take, drop, ap, ◌∙◌, arith}
use Rattle.evp_wide.proofs.Windows.{both_put}
use Rattle.evp_wide.proofs.fronts.put_two.Goals as goal

pub returns : goal.returns
returns c =
    let to = c.args.to in
    let behind = c.args.behind in
    let count = c.args.count in
    let done = c.min.result in
    let more = c.saturating_sub.result in
    let from = c.args.from.now in
    let lesser = c.min.ensures in
    let some : done ≤ count = omega (arith, lesser) in
    c.put_window-2.ensures
    ∙ ap (λ (out : List ℕ). take (to + behind) out ++ (take more (drop behind from) ++ drop (to + behind + more) out)) c.put_window.ensures
    ∙ both_put to behind done more count c.args.out.now from some (λ below. omega (arith, lesser, below, c.requires.near))
    (λ less. omega (arith, lesser, less, c.requires.near)) c.saturating_sub.ensures (omega (arith, c.requires.few, c.requires.inside))
    (omega (arith, c.requires.few, c.requires.room))
