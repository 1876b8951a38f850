use Rattle.std.proofs.Common.{◌∙◌, List, sym, subst}
use Rattle.std.specs.Prelude.{All}
use Rattle.evp_format.specs.Layout.{Layout}
use Rattle.evp_report.proofs.Chains.{then, cut}
use Rattle.evp_report.proofs.JobParts.{formats_of_parts}
use Rattle.evp_report.specs.Shown.{IsReadable}
use Rattle.evp_report.proofs.report.put_told.Goals as goal

pub returns-in_err-put_name : goal.returns-in_err-put_name
returns-in_err-put_name g c = cut _ c.in_err-put_name.ensures c.from_residual.ensures.0

pub put_account-requires : goal.put_account-requires
put_account-requires g c =
    let items = c.args.account.now.arrived.items in
    let formats = c.as_slice.ensures.value ∙ formats_of_parts c.parts.result.now c.parts.ensures.value in
    subst (λ (fs : List Layout). All (IsReadable fs) items) (sym formats) c.requires

pub returns : goal.returns
returns g c =
    let formats = c.as_slice.ensures.value ∙ formats_of_parts c.parts.result.now c.parts.ensures.value in
    then c.in_ok-put_name.ensures (rw formats at c.put_account.ensures)
