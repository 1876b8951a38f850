-- How many actors a world has.
use Rattle.std.proofs.Common.{◌≡◌, length, ap, ◌∙◌}
use Rattle.evp_core.specs.WorldShape.{WorldShape, HasRules}
use Rattle.evp_stone.specs.JobShape.{JobShape}
use Rattle.evp_stones.specs.Run.{actors_of}

-- those of its job
pub actors_are : (world : WorldShape) (job : JobShape) → HasRules world → world.lists.job ≡ job → length world.actors ≡ actors_of job
actors_are world job rules same = rules.count ∙ ap actors_of same
