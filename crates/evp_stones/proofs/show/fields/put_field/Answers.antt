use Rattle.std.proofs.Common.{codes}
use Rattle.evp_format.specs.Describing.{type_text}
use Rattle.evp_report.specs.Report.{counted, line_end}
use Rattle.evp_report.proofs.Chains.{then, cut, longer}
use Rattle.evp_stones.proofs.show.fields.put_field.Goals as goal

pub returns-in_err-put_field_name : goal.returns-in_err-put_field_name
returns-in_err-put_field_name g c =
    cut line_end (longer (counted (codes " offset ") c.args.field.now.offset)
    (longer (counted (codes " size ") c.args.field.now.size)
    (longer (type_text c.args.types.now c.args.fields.now c.args.field.now)
    (rw c.as_bytes.ensures.value at c.in_err-put_field_name.ensures)))) c.from_residual.ensures.0

pub returns-in_err-put_type_text : goal.returns-in_err-put_type_text
returns-in_err-put_type_text g c =
    cut line_end (longer (counted (codes " offset ") c.args.field.now.offset)
    (longer (counted (codes " size ") c.args.field.now.size)
    (then (rw c.as_bytes.ensures.value at c.in_ok-put_field_name.ensures) c.in_err-put_type_text.ensures)))
    c.from_residual-in_err-put_type_text.ensures.0

pub returns-in_err-put_counted : goal.returns-in_err-put_counted
returns-in_err-put_counted g c =
    cut line_end (longer (counted (codes " offset ") c.args.field.now.offset)
    (then (then (rw c.as_bytes.ensures.value at c.in_ok-put_field_name.ensures) c.in_ok-put_type_text.ensures)
    c.in_err-put_counted.ensures)) c.from_residual-in_err-put_counted.ensures.0

pub returns-in_err-put_counted-2 : goal.returns-in_err-put_counted-2
returns-in_err-put_counted-2 g c =
    cut line_end (then (then (then (rw c.as_bytes.ensures.value at c.in_ok-put_field_name.ensures) c.in_ok-put_type_text.ensures)
    c.in_ok-put_counted.ensures) c.in_err-put_counted-2.ensures) c.from_residual-in_err-put_counted-2.ensures.0

pub returns : goal.returns
returns g c =
    then (then (then (then (rw c.as_bytes.ensures.value at c.in_ok-put_field_name.ensures) c.in_ok-put_type_text.ensures)
    c.in_ok-put_counted.ensures) c.in_ok-put_counted-2.ensures) c.put.ensures
