use Rattle.std.proofs.Common.{◌≡◌, ℕ, ◌+◌, Bool, false, List, Option, Some, drop, if◌then◌else◌, sym, ap, ◌∙◌}
use Rattle.evp_format.specs.declared.field.Field.{Field}
use Rattle.evp_format.specs.Bytes.{bytes_equal}
use Rattle.evp_format.specs.Clashing.{branch_named}
use Rattle.evp_format.specs.Tree.{Part, branches_of, part_of}
use Rattle.evp_format.proofs.Loops.{goes_on}
use Rattle.evp_format.proofs.clash.field_named.Goals as goal

pub loop-field-preserved : goal.loop-field-preserved
loop-field-preserved c = λ earlier.
    let field = c.field-item.result in
    let other : bytes_equal c.args.name field.name ≡ false = sym c.eq.ensures.value ∙ c.if-eq.false in
    let fields = c.args.fields.now in
    let named : ℕ → List Field → Option (Field × Part) = λ k some. branch_named c.args.name (branches_of earlier some) in
    let rest = named 0 (drop (c.loop-field.field-index + 1) fields) in
    goes_on named fields c.loop-field.field-index field _ c.loop-field-test.true c.field-item.is
    (ap (λ (t : Bool). if t then Some (field, part_of earlier field.base) else rest) other) (c.loop-field.invariant earlier)
