-- Parts of a conversion, each by the format's types: what a body answers for each is what the
-- definition of conversion makes of it.
use Rattle.std.specs.Prelude.{◌≡◌, ℕ, zero, suc, ◌+◌, ◌*◌, ℤ, pos, negsuc, Bool, false, not, nat_lt}
use Rattle.std.specs.Prelude.{if◌then◌else◌, List, [], ◌∷◌, ◌++◌, Option, Some, None, Result, Ok}
use Rattle.std.specs.Prelude.{Err, ⊤}
use Rattle.evp_format.specs.declared.field.Field.{Field}
use Rattle.evp_format.specs.declared.field.Shape.{Shape}
use Rattle.evp_format.specs.declared.field.Shape.TheVariants.{One, Fixed, Counted}
use Rattle.evp_format.specs.declared.place.PlaceStep.{PlaceStep}
use Rattle.evp_format.specs.declared.place.PlaceStep.TheVariants.{Nth}
use Rattle.evp_format.specs.Bytes.{next_block}
use Rattle.evp_format.specs.Converting.{has_other_length, Made, made, unfit, large, make_list}
use Rattle.evp_format.specs.Converting.{make_or_zero, make_shaped, make_part}
use Rattle.evp_format.specs.Datum.{Datum, num, null, text, list, rec, Elements, elements_of}
use Rattle.evp_format.specs.Layout.{Layout}
use Rattle.evp_format.specs.Tree.{part_in}
use Rattle.evp_format.specs.declared.value.Value.{Value}
use Rattle.evp_format.specs.ValueView.{datum_of}
use Rattle.evp_format.specs.Zero.{zero_part}
use Rattle.evp_value.specs.declared.refused.Refused.{Refused}
use Rattle.evp_value.specs.declared.refused.Refused.TheVariants.{Unfit, Large, Memory}

-- a refusal is the fault that was found, and may be want of memory whatever was found
abbrev pub IsRefusal : {A : Type 0} → Refused → Made A → Type 0
IsRefusal (Unfit place) said = said ≡ unfit place
IsRefusal (Large place) said = said ≡ large place
IsRefusal Memory said = ⊤

-- what was answered, with the size behind it, is what is made
abbrev pub Gives : {X Y : Type 0} → (X → Y) → Result X Refused → ℕ → Made Y → Type 0
Gives view (Ok x) size said = said ≡ made (view x) size
Gives view (Err refused) size said = IsRefusal refused said

-- the element of this index of an array at a place
abbrev pub make_at : ℕ → Layout → Field → List PlaceStep → ℕ → Datum → ℕ → Made Datum
make_at limit layout field place index datum size = make_part limit (part_in layout field)
    field.size (place ++ Nth index ∷ []) datum size

-- an array field by its wanted length
abbrev pub make_array : ℕ → Layout → Field → ℤ → List PlaceStep → Option Datum → ℕ → Made Datum
make_array limit layout field wanted place partner size =
    make_list limit field place wanted (elements_of partner) (zero_part (part_in layout field))
    (make_at limit layout field place) size

-- its n elements, where its length and its block are settled
abbrev pub make_inside : ℕ → Layout → Field → ℕ → List PlaceStep → Option Datum → ℕ → Made Datum
make_inside limit layout field n place partner size = make_or_zero
    (make_at limit layout field place) (zero_part (part_in layout field)) n (elements_of partner)
    size

-- a field, where the numbers of all fields of its type are known
abbrev pub make_field : ℕ → Layout → Field → List ℤ → ℕ → List PlaceStep → Option Datum → ℕ
    → Made Datum
make_field limit layout field numbers k place partner size =
    make_shaped limit field field.shape (part_in layout field) numbers k place partner
    (λ place' datum after. make_part limit (part_in layout field) field.size place' datum after)
    size

-- the size behind a block of k bytes; none where it passes the limit
abbrev pub block_end : ℕ → ℕ → ℕ → Option ℕ
block_end limit k size = if nat_lt limit (next_block size + k) then None
    else Some (next_block size + k)

-- the size behind the block of a list of n elements, which an empty list hasn't
abbrev pub list_end : ℕ → ℕ → ℕ → ℕ → Option ℕ
list_end limit zero element_size size = Some size
list_end limit (suc n) element_size size = block_end limit (suc n * element_size) size

-- the wanted length isn't below 0, and a partner has it
abbrev pub has_length : ℤ → Option Elements → Bool
has_length (negsuc n) partners = false
has_length (pos n) partners = not (has_other_length n partners)

abbrev pub IsCounted : Shape → Type 0
IsCounted One = ⊥
IsCounted (Fixed n) = ⊥
IsCounted (Counted c) = ⊤

-- the bytes of a text, where it is there
abbrev pub text_of : Option Datum → Option (List ℕ)
text_of None = None
text_of (Some (text bytes)) = Some bytes
text_of (Some null) = None
text_of (Some (num n)) = None
text_of (Some (list elements)) = None
text_of (Some (rec entries)) = None

-- what was answered is what is made, of some size
abbrev pub IsMadeSomehow : Result Value Refused → Made Datum → Type 0
IsMadeSomehow (Ok value) said = (size : ℕ) × (said ≡ made (datum_of value) size)
IsMadeSomehow (Err refused) said = IsRefusal refused said
