use Rattle.std.proofs.Common.{◌≡◌, ◌<◌, [], List, length, reverse, sym, ap, ◌∙◌, subst, arith, length-append}
use Rattle.std.proofs.lemmas.List.{get_or_read, reverse-reverse, length-reverse, nil_from_length}
use Rattle.evp_graph.specs.Shape.{targets_of}
use Rattle.evp_graph.specs.Routes.{routes_of, ListsRoutes}
use Rattle.evp_graph.specs.Ahead.{starts, extensions}
use Rattle.evp_graph.specs.declared.route.Route.{Route}
use Rattle.evp_graph.specs.declared.listing.Ahead.{Ahead}
use Rattle.evp_graph.proofs.Onward.{Listing, Listing-first, Listing-popped, Listing-pushed, Listing-end, length-Listing, length-starts}
use Rattle.evp_graph.proofs.Onward.{length-extensions, routes-known}
use Rattle.evp_graph.proofs.Listed.{ListsRoutes-routes_of}
use Rattle.evp_graph.proofs.listing.routes.Goals as goal

pub returns-then-sources-gt-MOST-clause-too_many : goal.returns-then-sources-gt-MOST-clause-too_many
returns-then-sources-gt-MOST-clause-too_many c e =
    let graph = c.args.graph.now in
    let many = length-Listing graph [] (starts graph.sources) (Listing-first graph c.targets-targets.ensures.sound) in
    omega (arith, many, length-starts graph.sources, ap length c.sources-sources.ensures, c.if-sources-gt-MOST.true)

pub loop-route-init : goal.loop-route-init
loop-route-init c =
    let graph = c.args.graph.now in
    let ahead : reverse c.in_ok-ahead.ahead.items ≡ starts graph.sources = ap reverse c.in_ok-ahead.ensures
    ∙ reverse-reverse (starts c.sources-sources.result.now) ∙ ap starts c.sources-sources.ensures in
    let L : List Route → Type 0 = λ l. Listing graph l (reverse c.in_ok-ahead.ahead.items) in
    let A : List Ahead → Type 0 = λ l. Listing graph [] l in
    record {
      listing = subst L (sym c.new-list.ensures.items) (subst A (sym ahead) (Listing-first graph c.targets-targets.ensures.sound));
      few = omega (
        arith,
        c.new-list.ensures.len,
        c.in_ok-ahead.ahead.ok.0,
        ap length c.in_ok-ahead.ensures,
        length-reverse (starts c.sources-sources.result.now),
        length-starts c.sources-sources.result.now,
        c.if-sources-gt-MOST.false,
      );
    }

pub returns-then-len-row-gt-MOST-clause-too_many : goal.returns-then-len-row-gt-MOST-clause-too_many
returns-then-len-row-gt-MOST-clause-too_many c e =
    let graph = c.args.graph.now in
    let next = c.in-Some.field-0 in
    let rest = c.pop.new.self.items in
    let popped = Listing-popped graph c.loop-route.list.items c.loop-route.ahead.items rest next c.loop-route.invariant.listing
    c.in-Some.ensures.items in
    let lt : next.stone < length c.targets-targets.result.now = omega (arith, popped.within.0, ap length c.targets-targets.ensures.same) in
    let row : c.as_slice-row.result.now ≡ targets_of graph.targets next.stone = c.as_slice-row.ensures
    ∙ get_or_read c.targets-targets.result.now next.stone _ lt c.index-targets-stone.is []
    ∙ ap (λ t. targets_of t next.stone) c.targets-targets.ensures.same in
    omega (
      arith,
      routes-known graph c.loop-route.list.items rest next.route next.stone c.as_slice-row.result.now popped row,
      c.loop-route.list.ok.0,
      c.pop.new.self.ok.0,
      c.if-len-row-gt-MOST.true,
      c.len.ensures,
      c.len-in-Some.ensures,
    )

pub loop-route-preserved : goal.loop-route-preserved
loop-route-preserved c =
    let graph = c.args.graph.now in
    let next = c.in-Some.field-0 in
    let rest = c.pop.new.self.items in
    let popped = Listing-popped graph c.loop-route.list.items c.loop-route.ahead.items rest next c.loop-route.invariant.listing
    c.in-Some.ensures.items in
    let lt : next.stone < length c.targets-targets.result.now = omega (arith, popped.within.0, ap length c.targets-targets.ensures.same) in
    let row : c.as_slice-row.result.now ≡ targets_of graph.targets next.stone = c.as_slice-row.ensures
    ∙ get_or_read c.targets-targets.result.now next.stone _ lt c.index-targets-stone.is []
    ∙ ap (λ t. targets_of t next.stone) c.targets-targets.ensures.same in
    let made = c.in_ok-push_extensions.ensures in
    let exts = extensions next.route c.as_slice-row.result.now in
    let L : List Route → Type 0 = λ l. Listing graph l (reverse c.push_extensions.new.ahead.items) in
    record {
      listing = subst L (sym c.in_ok-push.ensures.items)
          (Listing-pushed graph c.loop-route.list.items rest c.push_extensions.new.ahead.items next.route next.stone
          c.as_slice-row.result.now popped row made);
      few = omega (
        arith,
        c.in_ok-push.ensures.len,
        c.loop-route.list.ok.0,
        c.pop.new.self.ok.0,
        c.push_extensions.new.ahead.ok.0,
        ap length made,
        length-append rest (reverse exts),
        length-reverse exts,
        length-extensions next.route c.as_slice-row.result.now,
        c.if-len-row-gt-MOST.false,
        c.len.ensures,
        c.len-in-Some.ensures,
      );
    }

pub returns-clause-each_once : goal.returns-clause-each_once
returns-clause-each_once c =
    let graph = c.args.graph.now in
    let none : c.loop-route.ahead.items
    ≡ [] = nil_from_length c.loop-route.ahead.items (omega (arith, c.loop-route.ahead.ok.0, c.in_default.ensures.cases.0)) in
    let A : List Ahead → Type 0 = λ l. Listing graph c.loop-route.list.items (reverse l) in
    let R : List Route → Type 0 = λ l. ListsRoutes graph l in
    let all : c.new.result ≡ routes_of graph = c.new.ensures
    ∙ Listing-end graph c.loop-route.list.items (subst A none c.loop-route.invariant.listing) in
    subst R (sym all) (ListsRoutes-routes_of graph c.loop-route.invariant.listing.sound)
