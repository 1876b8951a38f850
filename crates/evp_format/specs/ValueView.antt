-- What a `Value` of the code is: the number, nothing, text, list or record that it stands for.
use Rattle.std.specs.Prelude.{ℕ, List, [], ◌∷◌, map}
use Rattle.evp_format.specs.Datum.{Datum, num, null, text, list, rec, Elements, empty_list, element}
use Rattle.evp_format.specs.Datum.{Entries, empty_record, entry}
use Rattle.evp_format.specs.declared.value.Items.{Items, fold-Items}
use Rattle.evp_format.specs.declared.value.Members.{Members, fold-Members}
use Rattle.evp_format.specs.declared.value.Value.{Value, fold-Value}
use Rattle.evp_format.specs.declared.value.Value.TheOpen.{Value-F, Items-F, Members-F}

-- these values as the elements of a list
abbrev pub elements_from : List Datum → Elements
elements_from [] = empty_list
elements_from (datum ∷ rest) = element datum (elements_from rest)

-- these names and values as the fields of a record
abbrev pub entries_from : List (List ℕ × Datum) → Entries
entries_from [] = empty_record
entries_from (pair ∷ rest) = entry pair.0 pair.1 (entries_from rest)

-- one level, with each value inside already seen
abbrev pub value_step : Value-F Datum Elements Entries → Datum
value_step (Value-F.Num n) = num n
value_step Value-F.Null = null
value_step (Value-F.Text bytes) = text bytes
value_step (Value-F.List items) = list items
value_step (Value-F.Rec members) = rec members

abbrev pub items_step : Items-F Datum Elements Entries → Elements
items_step items = elements_from items.values.items

abbrev pub members_step : Members-F Datum Elements Entries → Entries
members_step members = entries_from members.pairs.items

-- what a value is
abbrev pub datum_of : Value → Datum
datum_of = fold-Value Datum Elements Entries value_step items_step members_step

-- what the elements of a list are
abbrev pub elements_of_values : List Value → Elements
elements_of_values values = elements_from (map datum_of values)

-- what the fields of a record are
abbrev pub entries_of_pairs : List (List ℕ × Value) → Entries
entries_of_pairs pairs = entries_from (map (λ pair. (pair.0, datum_of pair.1)) pairs)

abbrev pub items_of : Items → Elements
items_of = fold-Items Datum Elements Entries value_step items_step members_step

abbrev pub members_of : Members → Entries
members_of = fold-Members Datum Elements Entries value_step items_step members_step
