-- A value as text: numbers in decimal, texts in double quotes, lists in brackets, records in
-- braces; no blanks.
use Rattle.std.specs.Prelude.{ℕ, List, [], ◌++◌, codes}
use Rattle.std.specs.Fmt.{signed_decimal}
use Rattle.evp_base.specs.Quoted.{quoted}
use Rattle.evp_format.specs.Datum.{Datum, num, null, text, list, rec, Elements, empty_list, element}
use Rattle.evp_format.specs.Datum.{Entries, empty_record, entry}

abbrev mutual
  pub value_text : Datum → List ℕ
  value_text (num n) = signed_decimal n
  value_text null = codes "null"
  value_text (text bytes) = quoted bytes
  value_text (list elements) = codes "[" ++ elements_text elements ++ codes "]"
  value_text (rec entries) = codes "{" ++ entries_text entries ++ codes "}"

  -- the elements, a comma between two
  pub elements_text : Elements → List ℕ
  elements_text empty_list = []
  elements_text (element datum rest) = value_text datum ++ more_elements_text rest

  pub more_elements_text : Elements → List ℕ
  more_elements_text empty_list = []
  more_elements_text (element datum rest) = codes "," ++ value_text datum ++ more_elements_text rest

  -- the fields as `name=value`, a comma between two
  pub entries_text : Entries → List ℕ
  entries_text empty_record = []
  entries_text (entry name datum rest) = name ++ codes "=" ++ value_text datum
      ++ more_entries_text rest

  pub more_entries_text : Entries → List ℕ
  more_entries_text empty_record = []
  more_entries_text (entry name datum rest) = codes "," ++ name ++ codes "=" ++ value_text datum
      ++ more_entries_text rest
