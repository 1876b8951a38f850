-- What refuses nothing, wherever the record stands in the receiver's.
use Rattle.std.specs.Prelude.{◌≡◌, ℕ, List, true, Some}
use Rattle.evp_format.specs.declared.place.PlaceStep.{PlaceStep}
use Rattle.evp_format.specs.Converting.{made, make_text}
use Rattle.evp_format.specs.Viewing.{Image}
use Rattle.evp_plan.specs.declared.step.Elements.{Elements}
use Rattle.evp_plan.specs.declared.step.Origin.{Origin}
use Rattle.evp_plan.specs.declared.step.Step.{Step}
use Rattle.evp_plan.specs.Measuring.{op_fits, sized, measured, measured_op, measured_list, counted_block}
use Rattle.evp_plan.specs.Planned.{Planned}
use Rattle.evp_plan.specs.Standing.{text_by, origin_number}
use Rattle.evp_runner.specs.StepIn.{inside}

-- the text whose pointer stands at s has a block that ends there
abbrev pub TextPasses : ℕ → Image → ℕ → ℕ → ℕ → Type 0
TextPasses limit image s size end =
    (place : List PlaceStep) → sized (make_text limit place (Some (text_by image s)) size) ≡ made tt end

-- a counted array and its elements take the bytes up to this end
abbrev pub ListPasses : Planned → ℕ → Image → Step → Origin → Elements → ℕ → ℕ → ℕ → Type 0
ListPasses plan limit image step origin elements at size end =
    (place : List PlaceStep) → measured_list limit image step.task.size counted_block elements
    (λ place' s later. measured limit image (inside plan step) place' s later) place at
    (origin_number image at origin) size ≡ made tt end

-- a step's number fits, and what it makes ends there
pub record StepPasses (plan : Planned) (limit : ℕ) (image : Image) (step : Step) (at size end : ℕ) :
    Type 0 where
  pub fits : op_fits image at step.task.size step.task.op ≡ true
  pub sizes : (place : List PlaceStep) → measured_op limit image step.task.size step.task.op
      (λ place' s later. measured limit image (inside plan step) place' s later) place at size
      ≡ made tt end
