-- What `==` answers for values: they are the same.
use Rattle.std.specs.Prelude.{Bool, true, false, ◌&&◌, nat_eq}
use Rattle.std.specs.Cmp.Lexicographic.{pointwise}
use Rattle.std.specs.Ordering.{int_eq}
use Rattle.evp_format.specs.Datum.{Datum, num, null, text, list, rec}
use Rattle.evp_format.specs.Datum.{Elements, empty_list, element, Entries, empty_record, entry}
use Rattle.evp_format.specs.ValueView.{datum_of, items_of, members_of}
use Rattle.evp_format.specs.declared.value.Items.{Items}
use Rattle.evp_format.specs.declared.value.Members.{Members}
use Rattle.evp_format.specs.declared.value.Value.{Value}

abbrev mutual
  pub datum_eq : Datum → Datum → Bool
  datum_eq (num n) (num m) = int_eq n m
  datum_eq null null = true
  datum_eq (text bytes) (text others) = pointwise nat_eq bytes others
  datum_eq (list elements) (list others) = elements_eq elements others
  datum_eq (rec entries) (rec others) = entries_eq entries others
  datum_eq datum other = false

  -- element by element
  pub elements_eq : Elements → Elements → Bool
  elements_eq empty_list empty_list = true
  elements_eq (element datum rest) (element other others) =
      datum_eq datum other && elements_eq rest others
  elements_eq elements others = false

  -- field by field: its name and its value
  pub entries_eq : Entries → Entries → Bool
  entries_eq empty_record empty_record = true
  entries_eq (entry name datum rest) (entry name' other others) =
      pointwise nat_eq name name' && (datum_eq datum other && entries_eq rest others)
  entries_eq entries others = false

abbrev pub value_eq : Value → Value → Bool
value_eq value other = datum_eq (datum_of value) (datum_of other)

abbrev pub items_eq : Items → Items → Bool
items_eq items other = elements_eq (items_of items) (items_of other)

abbrev pub members_eq : Members → Members → Bool
members_eq members other = entries_eq (members_of members) (members_of other)
