-- The text of a layout fault: what is wrong, and the numbers of the type and the field.
use Rattle.std.specs.Prelude.{ℕ, List, ◌++◌, Some, None, codes}
use Rattle.std.specs.Fmt.{decimal}
use Rattle.evp_format.specs.declared.layout_fault.LayoutFault.{LayoutFault}
use Rattle.evp_format.specs.declared.layout_fault.LayoutFault.TheVariants.{Short, Magic, ByteOrder}
use Rattle.evp_format.specs.declared.layout_fault.LayoutFault.TheVariants.{Pointer, Trailing}
use Rattle.evp_format.specs.declared.layout_fault.LayoutFault.TheVariants.{BadName, Twice, TypeText}
use Rattle.evp_format.specs.declared.layout_fault.LayoutFault.TheVariants.{Float}
use Rattle.evp_format.specs.declared.layout_fault.LayoutFault.TheVariants.{UnknownType, Size}
use Rattle.evp_format.specs.declared.layout_fault.LayoutFault.TheVariants.{Outside, CountField}
use Rattle.evp_format.specs.declared.layout_fault.LayoutFault.TheVariants.{Overlap, Limit}
use Rattle.evp_format.specs.declared.layout_fault.LayoutFault.TheVariants.{TypeTwice}
use Rattle.evp_format.specs.declared.layout_fault.LayoutFault.TheVariants.{Default, CountDefault}
use Rattle.evp_format.specs.declared.layout_fault.LayoutFault.TheVariants.{Plain, Memory}
use Rattle.evp_format.specs.declared.layout_fault.Which.{Which}
use Rattle.evp_format.specs.declared.layout_fault.Which.TheVariants.{Types, Fields, AllFields}
use Rattle.evp_format.specs.declared.layout_fault.Which.TheVariants.{Nesting, Length}

-- what is wrong with a field: its type's number, then its own
abbrev pub at_field : List ℕ → ℕ → ℕ → List ℕ
at_field what type field = what ++ codes ", type " ++ decimal type ++ codes " field "
    ++ decimal field

abbrev pub which_text : Which → List ℕ
which_text Types = codes "types"
which_text Fields = codes "fields"
which_text AllFields = codes "all fields"
which_text Nesting = codes "nesting"
which_text Length = codes "length"

abbrev pub layout_fault_text : LayoutFault → List ℕ
layout_fault_text (Short at) = codes "short at " ++ decimal at
layout_fault_text Magic = codes "magic"
layout_fault_text ByteOrder = codes "byte order"
layout_fault_text Pointer = codes "pointer size"
layout_fault_text (Trailing at) = codes "trailing at " ++ decimal at
layout_fault_text (BadName type None) = codes "bad name, type " ++ decimal type
layout_fault_text (BadName type (Some field)) = at_field (codes "bad name") type field
layout_fault_text (Twice type field) = at_field (codes "field twice") type field
layout_fault_text (TypeText type field) = at_field (codes "type text") type field
layout_fault_text (Float type field) = at_field (codes "float") type field
layout_fault_text (UnknownType type field) = at_field (codes "unknown type") type field
layout_fault_text (Size type field) = at_field (codes "size") type field
layout_fault_text (Outside type field) = at_field (codes "outside") type field
layout_fault_text (CountField type field) = at_field (codes "count field") type field
layout_fault_text (Overlap type field other) = codes "overlap, type " ++ decimal type
    ++ codes " fields " ++ decimal field ++ codes " and " ++ decimal other
layout_fault_text (Limit which n) = codes "limit " ++ which_text which ++ codes ": " ++ decimal n
layout_fault_text (TypeTwice type) = codes "type twice, type " ++ decimal type
layout_fault_text (Default type field) = at_field (codes "default") type field
layout_fault_text (CountDefault type field) = at_field (codes "count default") type field
layout_fault_text Plain = codes "plain"
layout_fault_text Memory = codes "memory"
