use Rattle.evp_report.proofs.account_text.put_owned.Goals as goal

pub returns : goal.returns
returns g c = rw c.checked-item.ensures.value c.put_value.ensures
