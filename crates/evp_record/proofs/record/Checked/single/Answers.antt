use Rattle.evp_record.proofs.Reading.{part_read, shape_of_single, single_stands, single_value}
use Rattle.evp_record.proofs.record.Checked.single.Goals as goal

pub returns-clause-stands : goal.returns-clause-stands
returns-clause-stands c =
    let held = c.args.self.now in
    let field = c.field-field.result.now in
    let found = c.field-field.ensures in
    let r = part_read held c.args.spot c.args.index field found.laid c.requires.reached found.value in
    single_stands held c.args.spot c.args.index field r c.requires.reached
    (shape_of_single held.layout c.args.spot.type_number c.args.index field found.value c.requires.class)

pub returns-clause-value : goal.returns-clause-value
returns-clause-value c =
    let held = c.args.self.now in
    let field = c.field-field.result.now in
    let found = c.field-field.ensures in
    let r = part_read held c.args.spot c.args.index field found.laid c.requires.reached found.value in
    single_value held c.args.spot c.args.index field r (shape_of_single held.layout c.args.spot.type_number c.args.index field found.value
    c.requires.class)
