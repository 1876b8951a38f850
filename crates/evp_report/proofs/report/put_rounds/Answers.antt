use Rattle.std.proofs.Common.{◌≡◌, ◌-◌, ◌<◌, ◌≤◌, ap, map, length, refl, arith}
use Rattle.evp_report.proofs.Chains.{nothing_yet, all_passed}
use Rattle.evp_report.proofs.JobParts.{rounds_counted}
use Rattle.evp_report.proofs.Passed.{gone_on, broken}
use Rattle.evp_report.proofs.RoundsLeft.{round_first, rounds_none}
use Rattle.evp_report.specs.Report.{round_lines, told_of}
use Rattle.evp_report.proofs.report.put_rounds.Goals as goal

pub loop-round-init : goal.loop-round-init
loop-round-init g c =
    let n = length c.args.job.now.rounds in
    let all : n - 0 ≡ n = omega arith in
    rw all nothing_yet

pub loop-round-preserved : goal.loop-round-preserved
loop-round-preserved g c =
    let job = c.args.job.now in
    let told = map (told_of job) job.routes in
    let below : c.loop-round.round < length job.rounds =
    let count = rounds_counted c.parts.result.now c.parts.ensures.value (ap length c.as_slice-rounds.ensures.value) in
    omega (arith, count, c.loop-round-test.true) in
    gone_on _ _ _ _ _ _ _ _ (round_lines c.loop-round.round told) _ _ _ c.loop-round.invariant
    (round_first (length job.rounds) c.loop-round.round told below) c.in_ok-put_round.ensures.faults c.in_ok-put_round.ensures.passed

pub returns-in_err-put_round : goal.returns-in_err-put_round
returns-in_err-put_round g c =
    let job = c.args.job.now in
    let told = map (told_of job) job.routes in
    let below : c.loop-round.round < length job.rounds =
    let count = rounds_counted c.parts.result.now c.parts.ensures.value (ap length c.as_slice-rounds.ensures.value) in
    omega (arith, count, c.loop-round-test.true) in
    broken _ _ _ _ _ _ _ _ (round_lines c.loop-round.round told) _ _ _ _ c.from_residual.result c.loop-round.invariant
    (round_first (length job.rounds) c.loop-round.round told below) refl c.from_residual.ensures.0 c.in_err-put_round.ensures

pub returns : goal.returns
returns g c =
    let job = c.args.job.now in
    let end : length job.rounds ≤ c.loop-round.round =
    let count = rounds_counted c.parts.result.now c.parts.ensures.value (ap length c.as_slice-rounds.ensures.value) in
    omega (arith, count, c.loop-round-test.false) in
    all_passed (rw (rounds_none (length job.rounds) c.loop-round.round (map (told_of job) job.routes) end) at c.loop-round.invariant)
