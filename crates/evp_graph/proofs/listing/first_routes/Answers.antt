use Rattle.std.proofs.Common.{◌≡◌, ◌-◌, [], ℕ, length, drop, get_or, reverse, refl, ap, ◌∙◌, sym, arith}
use Rattle.evp_graph.specs.Ahead.{first_route, starts}
use Rattle.evp_graph.specs.declared.listing.Ahead.{Ahead}
use Rattle.evp_graph.proofs.Lists.{enumerated_pushed, enumerated_all}
use Rattle.evp_graph.proofs.listing.first_routes.Goals as goal

abbrev entry : ℕ × ℕ → Ahead
entry e = record { route = first_route e.0 e.1; stone = e.1 }

pub loop-source-init : goal.loop-source-init
loop-source-init c =
    let none : drop (length c.args.sources.now) (starts c.args.sources.now) ≡ [] = enumerated_all entry 0 c.args.sources.now in
    (omega arith, c.in_ok-ahead.ensures.items ∙ sym (ap reverse none))

pub loop-source-preserved : goal.loop-source-preserved
loop-source-preserved c =
    let k : ℕ = c.loop-source.source - 1 in
    let route : c.in_ok-route.route ≡ first_route k (get_or c.args.sources.now k 0) = c.in_ok-route.ensures in (
      omega arith,
      c.in_ok-push.ensures.items
          ∙ enumerated_pushed entry c.args.sources.now [] c.loop-source.ahead.items c.loop-source.source k (get_or c.args.sources.now k 0) _
          (omega arith) (omega arith) c.loop-source.invariant.1 refl
          (ap (λ r. record { route = r; stone = get_or c.args.sources.now k 0 }) route),
    )
