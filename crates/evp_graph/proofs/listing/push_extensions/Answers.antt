use Rattle.std.proofs.Common.{◌≡◌, ◌-◌, ◌++◌, [], ℕ, length, drop, get_or, reverse, refl, ap, ◌∙◌, sym, arith}
use Rattle.std.proofs.lemmas.List.{append-nil}
use Rattle.evp_graph.specs.Ahead.{extension, extensions}
use Rattle.evp_graph.specs.declared.route.Route.{Route}
use Rattle.evp_graph.specs.declared.listing.Ahead.{Ahead}
use Rattle.evp_graph.proofs.Lists.{enumerated_pushed, enumerated_all}
use Rattle.evp_graph.proofs.listing.push_extensions.Goals as goal

abbrev entry : Route → ℕ × ℕ → Ahead
entry route e = record { route = extension route e.0 e.1; stone = e.1 }

pub loop-position-init : goal.loop-position-init
loop-position-init c =
    let none : drop (length c.args.row.now) (extensions c.args.route.now c.args.row.now)
    ≡ [] = enumerated_all (entry c.args.route.now) 0 c.args.row.now in
    (omega arith, sym (ap (λ l. c.args.ahead.now.items ++ reverse l) none ∙ append-nil c.args.ahead.now.items))

pub loop-position-preserved : goal.loop-position-preserved
loop-position-preserved c =
    let k : ℕ = c.loop-position.position - 1 in
    let longer : c.in_ok-longer.longer ≡ extension c.args.route.now k (get_or c.args.row.now k 0) = c.in_ok-longer.ensures in (
      omega arith,
      c.in_ok-push.ensures.items
          ∙ enumerated_pushed (entry c.args.route.now)
          c.args.row.now c.args.ahead.now.items c.loop-position.ahead.items c.loop-position.position k (get_or c.args.row.now k 0) _
          (omega arith) (omega arith) c.loop-position.invariant.1 refl
          (ap (λ r. record { route = r; stone = get_or c.args.row.now k 0 }) longer),
    )
