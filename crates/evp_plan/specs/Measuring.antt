-- What the steps of a plan find by a sender's bytes: the packed size of the receiver's record, or
-- the first number, array or block that doesn't fit.
-- The sender's record stands at `at`.
use Rattle.std.specs.Prelude.{ℕ, zero, suc, ◌+◌, ◌*◌, ℤ, pos, negsuc, Bool, true, false, not}
use Rattle.std.specs.Prelude.{nat_eq, List, [], ◌∷◌, ◌++◌, Option, Some, None}
use Rattle.evp_base.specs.Numbers.{number, is_in_range}
use Rattle.evp_format.specs.declared.place.PlaceStep.{PlaceStep}
use Rattle.evp_format.specs.declared.place.PlaceStep.TheVariants.{At, Nth}
use Rattle.evp_format.specs.Bytes.{bytes_at}
use Rattle.evp_format.specs.Converting.{Made, made, unfit, large, then_make, unless_unfit}
use Rattle.evp_format.specs.Converting.{take_block, make_text}
use Rattle.evp_format.specs.Viewing.{Image}
use Rattle.evp_plan.specs.declared.step.Elements.{Elements}
use Rattle.evp_plan.specs.declared.step.Op.{Op}
use Rattle.evp_plan.specs.declared.step.Op.TheVariants.{Number, Text, Nest, Each, Many}
use Rattle.evp_plan.specs.declared.step.Part.{Part}
use Rattle.evp_plan.specs.declared.step.Part.TheVariants as part
use Rattle.evp_plan.specs.declared.step.Run.{Run}
use Rattle.evp_plan.specs.Program.{Program, no_steps, performs}
use Rattle.evp_plan.specs.Standing.{origin_number, text_by, text_there, run_count, element_place}

-- without the value
abbrev pub sized : {A : Type 0} → Made A → Made (Unit {0})
sized (made a size) = made tt size
sized (unfit place) = unfit place
sized (large place) = large place

-- a number is one of the receiver's kind and size
abbrev pub op_fits : Image → ℕ → ℕ → Op → Bool
op_fits image at size (Number kind origin) = is_in_range kind size (origin_number image at origin)
op_fits image at size (Text from) = true
op_fits image at size (Nest offset) = true
op_fits image at size (Each count elements) = true
op_fits image at size (Many origin elements) = true

-- the single numbers, in the order of their fields
abbrev pub tested : Image → ℕ → Program → List PlaceStep → Made (Unit {0})
tested image at no_steps place = made tt 0
tested image at (performs task inner rest) place =
    unless_unfit (not (op_fits image at task.size task.op)) (place ++ At task.field ∷ [])
    (λ _. tested image at rest place)

-- an element at `s`; `inside` measures a record there
abbrev pub measured_part : ℕ → Image → ℕ → Part → (List PlaceStep → ℕ → ℕ → Made (Unit {0}))
    → List PlaceStep → ℕ → ℕ → Made (Unit {0})
measured_part limit image size (part.Number kind from width) inside place s after =
    unless_unfit (not
    (is_in_range kind size (number image.order from (bytes_at s width image.bytes)))) place
    (λ _. made tt after)
measured_part limit image size part.Text inside place s after = sized
    (make_text limit place (Some (text_by image s)) after)
measured_part limit image size part.Record inside place s after = inside place s after

-- n elements from number k on
abbrev pub measured_elements : (ℕ → ℕ → Made (Unit {0})) → ℕ → ℕ → ℕ → Made (Unit {0})
measured_elements one zero k after = made tt after
measured_elements one (suc n) k after = then_make (one k after)
    (λ _ later. measured_elements one n (suc k) later)

-- n elements of the sender's array; zeros take no block
abbrev pub measured_run : ℕ → Image → ℕ → Part → (List PlaceStep → ℕ → ℕ → Made (Unit {0}))
    → List PlaceStep → ℕ → Option Run → ℕ → ℕ → Made (Unit {0})
measured_run limit image size part inside place at None n after = made tt after
measured_run limit image size part inside place at (Some run) n after =
    measured_elements (λ k later. measured_part limit image size part inside (place ++ Nth k ∷ [])
    (element_place image at run k) later) n 0 after

-- there is an array, of another length
abbrev pub has_other_count : Image → ℕ → ℕ → Option Run → Bool
has_other_count image at n None = false
has_other_count image at n (Some run) = not (nat_eq (run_count image at run) n)

-- an array inside the record takes no block
abbrev pub no_block : ℕ → List PlaceStep → ℕ → ℕ → ℕ → (ℕ → Made (Unit {0})) → Made (Unit {0})
no_block limit place n size after next = next after

-- an array of n elements elsewhere takes one, unless it is empty
abbrev pub counted_block : ℕ → List PlaceStep → ℕ → ℕ → ℕ → (ℕ → Made (Unit {0})) → Made (Unit {0})
counted_block limit place zero size after next = next after
counted_block limit place (suc n) size after next = take_block limit place (suc n * size) after next

-- an array by its wanted length
abbrev pub measured_list : ℕ → Image → ℕ → (ℕ → List PlaceStep → ℕ → ℕ → ℕ → (ℕ → Made (Unit {0}))
    → Made (Unit {0})) → Elements → (List PlaceStep → ℕ → ℕ → Made (Unit {0})) → List PlaceStep → ℕ
    → ℤ → ℕ → Made (Unit {0})
measured_list limit image size block elements inside place at (negsuc n) after = unfit place
measured_list limit image size block elements inside place at (pos n) after =
    unless_unfit (has_other_count image at n elements.run) place
    (λ _. block limit place n size after (λ later. measured_run limit image size elements.part
    inside place at elements.run n later))

-- a field that is no single number, of elements of this size
abbrev pub measured_op : ℕ → Image → ℕ → Op → (List PlaceStep → ℕ → ℕ → Made (Unit {0}))
    → List PlaceStep → ℕ → ℕ → Made (Unit {0})
measured_op limit image size (Number kind origin) inside place at after = made tt after
measured_op limit image size (Text from) inside place at after = sized
    (make_text limit place (text_there image at from) after)
measured_op limit image size (Nest offset) inside place at after = inside place (at + offset) after
measured_op limit image size (Each count elements) inside place at after = measured_list limit image
    size no_block elements inside place at (pos count) after
measured_op limit image size (Many origin elements) inside place at after =
    measured_list limit image size counted_block elements inside place at
    (origin_number image at origin) after

-- the other fields, from a size on
abbrev pub measured_steps : ℕ → Image → Program → List PlaceStep → ℕ → ℕ → Made (Unit {0})
measured_steps limit image no_steps place at after = made tt after
measured_steps limit image (performs task inner rest) place at after =
    then_make
    (measured_op limit image task.size task.op
    (λ place' s later. then_make (tested image s inner place')
    (λ _ _. measured_steps limit image inner place' s later)) (place ++ At task.field ∷ []) at
    after)
    (λ _ later. measured_steps limit image rest place at later)

-- a record: first its single numbers, then its other fields
abbrev pub measured : ℕ → Image → Program → List PlaceStep → ℕ → ℕ → Made (Unit {0})
measured limit image program place at after = then_make (tested image at program place)
    (λ _ _. measured_steps limit image program place at after)
