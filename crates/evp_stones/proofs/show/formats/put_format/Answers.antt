use Rattle.std.specs.List.{flat_map}
use Rattle.evp_stones.specs.Show.{type_lines}
use Rattle.evp_report.proofs.Chains.{then, cut}
use Rattle.evp_stones.proofs.show.formats.put_format.Goals as goal

pub returns-in_err-put_format_line : goal.returns-in_err-put_format_line
returns-in_err-put_format_line g c =
    cut (flat_map (type_lines c.args.known.now.format.types) c.args.known.now.format.types)
    c.in_err-put_format_line.ensures c.from_residual.ensures.0

pub returns : goal.returns
returns g c = then c.in_ok-put_format_line.ensures (rw c.types.ensures.value at c.put_types.ensures)
