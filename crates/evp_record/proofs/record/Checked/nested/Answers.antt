use Rattle.evp_record.proofs.Reading.{nested_reached}
use Rattle.evp_record.proofs.record.Checked.nested.Goals as goal

pub returns-clause-reached : goal.returns-clause-reached
returns-clause-reached c =
    nested_reached c.args.self.now c.args.part.field.now c.args.part.at c.in-Nested.type_number c.requires.laid c.requires.stands
    c.in-Nested.is
