use Rattle.std.specs.List.{flat_map}
use Rattle.evp_stones.specs.Show.{field_line}
use Rattle.evp_report.proofs.Chains.{then, cut}
use Rattle.evp_stones.proofs.show.formats.put_type.Goals as goal

pub returns-in_err-put_type_line : goal.returns-in_err-put_type_line
returns-in_err-put_type_line g c =
    cut (flat_map (field_line c.args.types.now c.args.record_type.now.fields) c.args.record_type.now.fields)
    c.in_err-put_type_line.ensures c.from_residual.ensures.0

pub returns : goal.returns
returns g c = then c.in_ok-put_type_line.ensures (rw c.as_slice.ensures at c.put_fields.ensures)
