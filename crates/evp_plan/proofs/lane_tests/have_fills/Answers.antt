use Rattle.std.proofs.Common.{◌+◌, ◌≤◌, length}
use Rattle.evp_plan.specs.declared.fill.Window.{Window}
use Rattle.evp_plan.specs.Lanes.{HasFills}
use Rattle.evp_plan.proofs.LaneLists.{four_more}
use Rattle.evp_plan.proofs.lane_tests.have_fills.Goals as goal

pub loop-left-preserved : goal.loop-left-preserved
loop-left-preserved c =
    let at = c.args.at in
    let bytes = c.args.bytes.now in
    let more = four_more (HasFills at bytes) (λ (window : Window). at + window.at + 16 ≤ length bytes) c.loop-left.left.now
    c.one-item.result c.two-item.result c.three-item.result c.four-item.result c.in-len4-up.len_at_least c.one-item.is c.two-item.is
    c.three-item.is c.four-item.is c.loop-left.invariant.0 in (
      more.0,
      λ none rest.
          let all = c.with-all.ensures.0 none in
          let both = c.with.ensures.0 all.1 in
          let front = c.both_differences-front.ensures both.0 in
          let back = c.both_differences-back.ensures both.1 in
          c.loop-left.invariant.1 all.0 (more.1 front.0 front.1 back.0 back.1 rest),
    )

pub returns : goal.returns
returns c = λ told. c.loop-left.invariant.1 (c.have_few.ensures.none told) (c.have_few.ensures.fills told)
