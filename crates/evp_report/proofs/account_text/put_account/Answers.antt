use Rattle.std.proofs.lemmas.List.Folds.{flat_map-map}
use Rattle.evp_report.specs.Report.{arrived_line}
use Rattle.evp_report.specs.Shown.{received}
use Rattle.evp_report.proofs.Chains.{then, cut, longer}
use Rattle.evp_report.proofs.account_text.put_account.Goals as goal

pub returns-in_err-put_counts : goal.returns-in_err-put_counts
returns-in_err-put_counts g c =
    cut _ (longer _ c.in_err-put_counts.ensures)
    c.from_residual.ensures.0

pub returns-in_err-put_refused : goal.returns-in_err-put_refused
returns-in_err-put_refused g c =
    let second = rw c.as_slice.ensures.value at c.in_err-put_refused.ensures in
    cut _ (then c.in_ok-put_counts.ensures second) c.from_residual-in_err-put_refused.ensures.0

pub returns : goal.returns
returns g c =
    let second = rw c.as_slice.ensures.value at c.in_ok-put_refused.ensures in
    let third = rw c.as_slice-2.ensures.value at c.put_arrived.ensures in
    rw (flat_map-map arrived_line (received c.args.formats.now) c.args.account.now.arrived.items)
    (then (then c.in_ok-put_counts.ensures second) third)
