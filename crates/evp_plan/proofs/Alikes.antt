-- Two fields of one class: both are arrays or neither is, and their parts are alike.
use Rattle.std.proofs.Common.{◌≡◌, Bool, true, false, refl}
use Rattle.evp_format.specs.declared.field.Shape.{Shape}
use Rattle.evp_format.specs.declared.field.Shape.TheVariants.{One, Fixed, Counted}
use Rattle.evp_format.specs.Class.{Content, shaped, content_in, same_content, same_class}
use Rattle.evp_format.specs.Tree.{Part}

abbrev pub is_array : Shape → Bool
is_array One = false
is_array (Fixed n) = true
is_array (Counted c) = true

-- both are arrays, or neither is
abbrev pub same_shape : Bool → Bool → Bool
same_shape true true = true
same_shape true false = false
same_shape false true = false
same_shape false false = true

-- both are numbers, texts or records
abbrev pub same_part : Part → Part → Bool
same_part part part' = same_content (content_in part) (content_in part')

pub alike_shapes : (shape shape' : Shape) (content content' : Content)
    → same_class (shaped shape content) (shaped shape' content') ≡ true
    → (same_shape (is_array shape) (is_array shape') ≡ true) × (same_content content content' ≡ true)
alike_shapes One One content content' same = (refl, same)
alike_shapes One (Fixed n) content content' same = cc
alike_shapes One (Counted c) content content' same = cc
alike_shapes (Fixed n) One content content' same = cc
alike_shapes (Fixed n) (Fixed m) content content' same = (refl, same)
alike_shapes (Fixed n) (Counted c) content content' same = (refl, same)
alike_shapes (Counted c) One content content' same = cc
alike_shapes (Counted c) (Fixed n) content content' same = (refl, same)
alike_shapes (Counted c) (Counted d) content content' same = (refl, same)
