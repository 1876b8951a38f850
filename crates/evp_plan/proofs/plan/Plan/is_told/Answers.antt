use Rattle.std.proofs.Common.{◌≡◌, ◌∙◌, List, Option, IfSome, true, ap, sym, subst}
use Rattle.std.specs.List.{All}
use Rattle.evp_base.specs.declared.order.Order.{Order}
use Rattle.evp_plan.specs.declared.quick.Quick.{Quick}
use Rattle.evp_plan.specs.declared.step.Step.{Step}
use Rattle.evp_plan.specs.declared.told.Told.{Told}
use Rattle.evp_plan.specs.Fills.{AreWordsThere}
use Rattle.evp_plan.specs.Lanes.{windows_of, AreLanesOf}
use Rattle.evp_plan.specs.Planned.{Planned}
use Rattle.evp_plan.specs.Program.{programs, last_steps}
use Rattle.evp_plan.specs.Quicks.{steps_in, have_words, IsFit}
use Rattle.evp_plan.specs.Quiet.{tests_in, tests_of}
use Rattle.evp_plan.specs.Telling.{AreTestsOf}
use Rattle.evp_plan.proofs.LaidSteps.{last_tests}
use Rattle.evp_plan.proofs.LaneLists.{windows_tell}
use Rattle.evp_plan.proofs.plan.Plan.is_told.Goals as goal

-- the plan's own tests, and what windows tell of them
own_tests : (plan : Planned) (quick : List Quick) (tests : List (List Step)) (table : List (List Step)) → plan.table ≡ table
    → steps_in quick ≡ last_steps tests → tests ≡ tests_in table → All IsFit quick → AreTestsOf plan quick
own_tests plan quick tests table table_is steps tests_are fit = record {
  steps = steps ∙ ap last_steps tests_are ∙ last_tests table
      ∙ sym (ap (λ (t : List (List Step)). tests_of (programs t) (last_steps t)) table_is);
  fit = fit;
}

pub have_fills-requires : goal.have_fills-requires
have_fills-requires c =
    let p = c.self.inside in
    let known = subst (λ (o : Option Told). IfSome o (λ told. (have_words p.quick ≡ true) × AreLanesOf p.sender p.quick (windows_of told)))
    c.in-Some.is c.self.invariant.1.1.1.1.1.1.1 in
    let are = own_tests c.args.self.now p.quick p.tests.items p.table.items (sym (ap (λ (v : Planned). v.table) c.self.view_is))
    c.self.invariant.1.1.1.1.1.0 c.self.invariant.1.1.1.1.0 c.as_slice-tests.ensures.fit in
    known.1.inside 0 c.args.bytes.now (c.requires p.quick are)

pub returns-in-Some : goal.returns-in-Some
returns-in-Some c = λ have.
    let p = c.self.inside in
    let known = subst (λ (o : Option Told). IfSome o (λ told. (have_words p.quick ≡ true) × AreLanesOf p.sender p.quick (windows_of told)))
    c.in-Some.is c.self.invariant.1.1.1.1.1.1.1 in
    let are = own_tests c.args.self.now p.quick p.tests.items p.table.items (sym (ap (λ (v : Planned). v.table) c.self.view_is))
    c.self.invariant.1.1.1.1.1.0 c.self.invariant.1.1.1.1.0 c.as_slice-tests.ensures.fit in
    let order = ap (λ (v : Planned). v.sender.order) c.self.view_is in
    record {
      tests = p.quick;
      are = are;
      numbers = known.0;
      there = subst (λ (o : Order). AreWordsThere 0 o c.args.bytes.now p.quick) order
          (windows_tell p.sender p.quick (windows_of c.in-Some.told) 0 c.args.bytes.now c.type_inv.bytes known.1 (c.requires p.quick are)
          (c.have_fills.ensures have));
    }
