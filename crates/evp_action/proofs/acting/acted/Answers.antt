use Rattle.std.proofs.Common.{List, subst}
use Rattle.std.specs.Arc.{arc_value}
use Rattle.evp_action.specs.declared.action.Setting.{Setting}
use Rattle.evp_action.specs.Acting.{transforms}
use Rattle.evp_action.specs.Agreement.{Agrees}
use Rattle.evp_action.specs.Asking.{transform_pairs}
use Rattle.evp_action.specs.Working.{Works}
use Rattle.evp_action.proofs.Works.{can_ask, of_action}
use Rattle.evp_action.proofs.acting.acted.Goals as goal

pub receive-requires : goal.receive-requires
receive-requires c =
    let conv = c.args.converter.now in
    let agrees = subst (Agrees conv.formats.now conv.cache.now.declared) c.in-Terminal.is c.requires.agrees in
    record {
      ask = can_ask conv.cache.now conv.formats.now c.args.pass.now (arc_value c.args.item.now) _ c.requires.cache c.requires.pass
          c.requires.item agrees.1.below;
      has = c.requires.item;
    }

pub filter-requires : goal.filter-requires
filter-requires c =
    let conv = c.args.converter.now in
    let agrees = subst (Agrees conv.formats.now conv.cache.now.declared) c.in-Filter.is c.requires.agrees in
    record {
      ask = can_ask conv.cache.now conv.formats.now c.args.pass.now (arc_value c.args.item.now) _ c.requires.cache c.requires.pass
          c.requires.item agrees.below;
      has = c.requires.item;
      bound = agrees.there;
    }

pub route-requires : goal.route-requires
route-requires c =
    let conv = c.args.converter.now in
    let agrees = subst (Agrees conv.formats.now conv.cache.now.declared) c.in-Router.is c.requires.agrees in
    record {
      ask = can_ask conv.cache.now conv.formats.now c.args.pass.now (arc_value c.args.item.now) _ c.requires.cache c.requires.pass
          c.requires.item agrees.below;
      has = c.requires.item;
      bound = agrees.there;
    }

pub returns-in-Terminal : goal.returns-in-Terminal
returns-in-Terminal c =
    let conv = c.args.converter.now in
    of_action conv.cache.now conv.formats.now (arc_value c.args.item.now) conv.limit c.args.targets c.args.action.now _ c.args.pass.now
    c.receive.new.pass
    c.args.builds.now c.receive.new.builds c.receive.result c.in-Terminal.is c.receive.ensures

pub returns-in-Filter : goal.returns-in-Filter
returns-in-Filter c =
    let conv = c.args.converter.now in
    of_action conv.cache.now conv.formats.now (arc_value c.args.item.now) conv.limit c.args.targets c.args.action.now _ c.args.pass.now
    c.filter.new.pass
    c.args.builds.now c.filter.new.builds c.filter.result c.in-Filter.is c.filter.ensures

pub returns-in-Router : goal.returns-in-Router
returns-in-Router c =
    let conv = c.args.converter.now in
    of_action conv.cache.now conv.formats.now (arc_value c.args.item.now) conv.limit c.args.targets c.args.action.now _ c.args.pass.now
    c.route.new.pass
    c.args.builds.now c.route.new.builds c.route.result c.in-Router.is c.route.ensures

pub returns-in-Transform : goal.returns-in-Transform
returns-in-Transform c =
    let conv = c.args.converter.now in
    of_action conv.cache.now conv.formats.now (arc_value c.args.item.now) conv.limit c.args.targets c.args.action.now _ c.args.pass.now
    c.transform.new.pass
    c.args.builds.now c.transform.new.builds c.transform.result c.in-Transform.is
    (subst (λ (settings : List Setting).
    Works conv.cache.now conv.formats.now (arc_value c.args.item.now)
    (transforms conv.formats.now conv.limit c.in-Transform.format c.in-Transform.into settings (arc_value c.args.item.now).format)
    (transform_pairs conv.formats.now conv.limit c.in-Transform.format c.in-Transform.into (arc_value c.args.item.now).format)
    c.args.pass.now c.transform.new.pass c.args.builds.now c.transform.new.builds c.transform.result) c.as_slice-set.ensures.value
    c.transform.ensures)
