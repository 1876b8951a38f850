-- A record file of one format and one record, by bytes written by hand.
use Rattle.std.specs.Prelude.{ℕ, pos, List, [], ◌∷◌, ◌++◌, codes}
use Rattle.evp_base.specs.declared.kind.Kind.TheVariants.{Int}
use Rattle.evp_base.specs.declared.order.Order.TheVariants.{Little}
use Rattle.evp_format.specs.declared.field.Base.TheVariants.{Number}
use Rattle.evp_format.specs.declared.field.Shape.TheVariants.{One}
use Rattle.evp_format.specs.Layout.{Layout}
use Rattle.evp_file.specs.declared.file.FileFormat.TheVariants.{Own}
use Rattle.evp_file.specs.declared.file.RecordFile.{RecordFile}
use Rattle.evp_file.specs.File.{file_with, item_of}

-- one little endian number `x` of 4 bytes
abbrev pub number_description : List ℕ
number_description =
    codes "NDF1" ++ 0 ∷ 4 ∷ 0 ∷ 1 ∷ 1 ∷ 112 ∷ 0 ∷ 0 ∷ 0 ∷ 4 ∷ 0 ∷ 1 ∷ 1 ∷ 120 ∷ 7
    ∷ codes "integer" ++ 0 ∷ 0 ∷ 0 ∷ 4 ∷ 0 ∷ 0 ∷ 0 ∷ 0 ∷ []

abbrev pub number_layout : Layout
number_layout = record {
  order = Little;
  pointer = 4;
  types = record {
    name = 112 ∷ [];
    length = 4;
    fields = record {
      name = 120 ∷ [];
      base = Number Int;
      shape = One;
      size = 4;
      offset = 0;
      fallback = pos 0;
    } ∷ [];
  } ∷ [];
}

-- the record `{x=7}` alone
abbrev pub number_file : RecordFile
number_file = file_with (Own number_layout ∷ []) (item_of 0 (7 ∷ 0 ∷ 0 ∷ 0 ∷ []) ∷ [])

-- its record's frame and the end
abbrev pub record_and_end : List ℕ
record_and_end = 82 ∷ 0 ∷ 0 ∷ 0 ∷ 0 ∷ 0 ∷ 4 ∷ 7 ∷ 0 ∷ 0 ∷ 0 ∷ 69 ∷ []

abbrev pub number_file_bytes : List ℕ
number_file_bytes = codes "NDR1" ++ 70 ∷ 0 ∷ 0 ∷ 0 ∷ 34 ∷ number_description ++ record_and_end
