-- Quiet steps by example: which kinds cover which, and which steps are left to be tested.
use Rattle.std.specs.Prelude.{◌≡◌, true, false, [], ◌∷◌, Some, None}
use Rattle.std.proofs.Common.{refl, pos}
use Rattle.evp_base.specs.declared.kind.Kind.TheVariants.{Int, Unsigned, Char, Boolean, Enumeration}
use Rattle.evp_plan.specs.declared.step.Op.TheVariants.{Number, Text, Nest}
use Rattle.evp_plan.specs.declared.step.Origin.TheVariants.{Standing, Stated}
use Rattle.evp_plan.specs.declared.step.Part.TheVariants as part
use Rattle.evp_plan.specs.declared.step.Step.{Step}
use Rattle.evp_plan.specs.Quiet.{covers, is_quiet_op, is_quiet_run, tests_of}

same_size : covers Int 4 Int 4 ≡ true
same_size = refl

narrower : covers Int 2 Int 4 ≡ false
narrower = refl

unsigned_into_wider : covers Int 8 Unsigned 4 ≡ true
unsigned_into_wider = refl

unsigned_into_signed : covers Int 4 Unsigned 4 ≡ false
unsigned_into_signed = refl

signed_into_unsigned : covers Unsigned 8 Int 1 ≡ false
signed_into_unsigned = refl

char_into_unsigned : covers Unsigned 1 Char 1 ≡ true
char_into_unsigned = refl

enumeration_into_char : covers Char 1 Enumeration 1 ≡ false
enumeration_into_char = refl

number_into_boolean : covers Boolean 1 Unsigned 1 ≡ false
number_into_boolean = refl

stated_in_range : is_quiet_op 1 (Number Int (Stated (pos 127))) true ≡ true
stated_in_range = refl

stated_too_large : is_quiet_op 1 (Number Int (Stated (pos 128))) true ≡ false
stated_too_large = refl

no_text : is_quiet_op 8 (Text None) true ≡ true
no_text = refl

some_text : is_quiet_op 8 (Text (Some 0)) true ≡ false
some_text = refl

record_by_its_steps : is_quiet_op 16 (Nest 0) false ≡ false
record_by_its_steps = refl

same_count : is_quiet_run 3 4 (part.Number Int Int 4) true
    (Some (record { count = Stated (pos 3); pointed = false; offset = 0; stride = 4 })) ≡ true
same_count = refl

other_count : is_quiet_run 3 4 (part.Number Int Int 4) true
    (Some (record { count = Stated (pos 2); pointed = false; offset = 0; stride = 4 })) ≡ false
other_count = refl

number_step : Step
number_step = record {
  task = record { field = 0; offset = 0; size = 4; op = Number Int (Standing (record { offset = 0; size = 4; kind = Int })) };
  inner = None;
}

text_step : Step
text_step = record { task = record { field = 1; offset = 8; size = 8; op = Text (Some 8) }; inner = None }

the_text_is_left : tests_of [] (number_step ∷ text_step ∷ []) ≡ text_step ∷ []
unfolding number_step text_step
the_text_is_left = refl
