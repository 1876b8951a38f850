use Rattle.evp_record.proofs.Laid.{earlier_type}
use Rattle.evp_record.proofs.record.Checked.record_at.Goals as goal

pub returns-clause-earlier : goal.returns-clause-earlier
returns-clause-earlier c =
    earlier_type c.args.self.now.layout c.args.spot.type_number c.args.field c.single.result.field.now c.nested.result.type_number
    c.single.ensures.laid c.single.ensures.field c.nested.ensures.number
