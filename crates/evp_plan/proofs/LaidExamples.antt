-- Records that are laid by example: which steps make numbers and which blocks, and which blocks these are.
use Rattle.std.specs.Prelude.{◌≡◌, true, false, [], ◌∷◌, Some, None, List}
use Rattle.std.proofs.Common.{refl}
use Rattle.evp_base.specs.declared.kind.Kind.TheVariants.{Int, Unsigned, Enumeration}
use Rattle.evp_plan.specs.declared.block.Block.TheVariants as block
use Rattle.evp_plan.specs.declared.block.Form.TheVariants.{TwoToEight, FourToEight, TwoToFour}
use Rattle.evp_plan.specs.declared.step.Op.TheVariants.{Number, Text, Many}
use Rattle.evp_plan.specs.declared.step.Origin.TheVariants.{Standing}
use Rattle.evp_plan.specs.declared.step.Part.TheVariants as part
use Rattle.evp_plan.specs.declared.step.Source.{Source}
use Rattle.evp_plan.specs.declared.step.Step.{Step}
use Rattle.evp_plan.specs.Laid.{number_steps, block_steps, width_of, size_of, is_signed, IsArrayOf, IsTextOf, AreBlocksOf}
use Rattle.evp_plan.specs.Quiet.{tests_of}

-- a count of 4 bytes in front, then a text's pointer, then that of an array of 2 bytes each
count : Source
count = record { offset = 0; size = 4; kind = Unsigned }

number_step : Step
number_step = record { task = record { field = 0; offset = 0; size = 8; op = Number Unsigned (Standing count) }; inner = None }

text_step : Step
text_step = record { task = record { field = 1; offset = 8; size = 8; op = Text (Some 8) }; inner = None }

array_step : Step
array_step = record {
  task = record {
    field = 2;
    offset = 16;
    size = 8;
    op = Many (Standing count) (record {
      part = part.Number Int Enumeration 2;
      run = Some (record { count = Standing count; pointed = true; offset = 24; stride = 2 });
    });
  };
  inner = None;
}

steps : List Step
steps = number_step ∷ text_step ∷ array_step ∷ []

one_number : number_steps steps ≡ number_step ∷ []
unfolding steps number_step text_step array_step
one_number = refl

two_blocks : block_steps steps ≡ text_step ∷ array_step ∷ []
unfolding steps number_step text_step array_step
two_blocks = refl

-- the number always fits, so it is no test
tests_are_blocks : tests_of [] steps ≡ block_steps steps
unfolding steps number_step text_step array_step count
tests_are_blocks = refl

text_made : IsTextOf (record { from = 8; to = 8 }) text_step
unfolding text_step
text_made = record { op_is = refl; to_is = refl }

array_made : IsArrayOf (record { count = 0; from = 24; to = 16; form = TwoToEight }) array_step
unfolding array_step count
array_made = record {
  kind = Int;
  from = Enumeration;
  count = count;
  op_is = refl;
  to_is = refl;
  size_is = refl;
  counted = refl;
  four = refl;
  plain = refl;
  signed = refl;
  fits = refl;
}

both_made : AreBlocksOf (block.Text (record { from = 8; to = 8 }) ∷ block.Array (record
    { count = 0; from = 24; to = 16; form = TwoToEight }) ∷ []) (block_steps steps)
unfolding steps number_step text_step array_step
both_made = (text_made, (array_made, tt))

widths : width_of FourToEight ≡ 4
widths = refl

sizes : size_of TwoToFour ≡ 4
sizes = refl

no_sign : is_signed Unsigned ≡ false
no_sign = refl
