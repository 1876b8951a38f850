use Rattle.evp_format.specs.Describing.{shape_text}
use Rattle.evp_report.proofs.Chains.{then, cut}
use Rattle.evp_stones.proofs.show.fields.put_type_text.Goals as goal

pub returns-in_err-put : goal.returns-in_err-put
returns-in_err-put g c =
    cut (shape_text c.args.fields.now c.args.field.now.shape) (rw c.base_word.ensures at c.in_err-put.ensures) c.from_residual.ensures.0

pub returns : goal.returns
returns g c = then (rw c.base_word.ensures at c.in_ok-put.ensures) c.put_shape.ensures
