use Rattle.std.proofs.Common.{subst}
use Rattle.std.proofs.lemmas.List.Elements.{All-more}
use Rattle.evp_plan.specs.Lanes.{HasFills}
use Rattle.evp_plan.proofs.LaneLists.{all_taken}
use Rattle.evp_plan.proofs.lane_tests.have_few.Goals as goal

pub loop-window-preserved : goal.loop-window-preserved
loop-window-preserved c = (
  λ none. c.loop-window.invariant.0 (c.with-all.ensures.0 none).0,
  λ none.
      let both = c.with-all.ensures.0 none in
      let Has = HasFills c.args.at c.args.bytes.now in
      All-more Has c.args.windows.now c.loop-window.window-index c.window-item.result c.loop-window-test.true
      (c.loop-window.invariant.1 both.0) (subst Has c.window-item.is (c.differences.ensures both.1)),
)

pub returns-clause-none : goal.returns-clause-none
returns-clause-none c = λ told. c.loop-window.invariant.0 (c.are_none.ensures.0 told)

pub returns-clause-fills : goal.returns-clause-fills
returns-clause-fills c = λ told.
    all_taken (HasFills c.args.at c.args.bytes.now) c.args.windows.now c.loop-window.window-index c.loop-window-test.false
    (c.loop-window.invariant.1 (c.are_none.ensures.0 told))
