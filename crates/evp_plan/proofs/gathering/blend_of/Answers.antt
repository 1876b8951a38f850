use Rattle.std.proofs.Common.{refl}
use Rattle.evp_plan.proofs.Compiled.{clean_within}
use Rattle.evp_plan.proofs.gathering.blend_of.Goals as goal

pub invariant_of-result : goal.invariant_of-result
invariant_of-result c = record {
  sixteen = c.told-places;
  in_window = clean_within c.args.places.now c.args.keep.now c.args.constant.now (c.if-not-is_clean.ensures refl);
}
