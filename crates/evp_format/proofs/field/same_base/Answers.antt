use Rattle.std.proofs.Common.{◌≡◌, rules}
use Rattle.std.specs.Bool.{Decides}
use Rattle.std.proofs.lemmas.Bool.Decides.{same_from_decides}
use Rattle.evp_format.specs.Equality.{base_eq}
use Rattle.evp_format.specs.Equalities.{base_eq-Decides}
use Rattle.evp_format.proofs.field.same_base.Goals as goal

pub returns : goal.returns
returns c =
    let told : Decides c.eq.result (c.args.base ≡ c.args.other) = search rules in
    same_from_decides c.eq.result (base_eq c.args.base c.args.other) told (base_eq-Decides c.args.base c.args.other)
