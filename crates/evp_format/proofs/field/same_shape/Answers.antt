use Rattle.std.proofs.Common.{◌≡◌, rules}
use Rattle.std.specs.Bool.{Decides}
use Rattle.std.proofs.lemmas.Bool.Decides.{same_from_decides}
use Rattle.evp_format.specs.Equality.{shape_eq}
use Rattle.evp_format.specs.Equalities.{shape_eq-Decides}
use Rattle.evp_format.proofs.field.same_shape.Goals as goal

pub returns : goal.returns
returns c =
    let told : Decides c.eq.result (c.args.shape ≡ c.args.other) = search rules in
    same_from_decides c.eq.result (shape_eq c.args.shape c.args.other) told (shape_eq-Decides c.args.shape c.args.other)
