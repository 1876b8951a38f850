-- Records that are packed and read in tests, by descriptions and bytes written by hand. The first:
-- an array in front of its
-- count, `{a=[5,6],n=2}`.
use Rattle.std.specs.Prelude.{ℕ, pos, List, [], ◌∷◌, ◌++◌, codes}
use Rattle.evp_base.specs.declared.kind.Kind.TheVariants.{Int}
use Rattle.evp_base.specs.declared.order.Order.TheVariants.{Little}
use Rattle.evp_format.specs.declared.field.Base.{Base}
use Rattle.evp_format.specs.declared.field.Base.TheVariants.{Number, Text, Nested}
use Rattle.evp_format.specs.declared.field.Field.{Field}
use Rattle.evp_format.specs.declared.field.Shape.{Shape}
use Rattle.evp_format.specs.declared.field.Shape.TheVariants.{One, Fixed, Counted}
use Rattle.evp_format.specs.Datum.{Datum, num, list, rec, empty_list, element, empty_record, entry}
use Rattle.evp_format.specs.Layout.{Layout}

abbrev pub list_description : List ℕ
list_description =
    codes "NDF1" ++ 0 ∷ 4 ∷ 0 ∷ 1 ∷ 1 ∷ 112 ∷ 0 ∷ 0 ∷ 0 ∷ 8 ∷ 0 ∷ 2 ∷ 1 ∷ 97 ∷ 10
    ∷ codes "integer[n]" ++ 0 ∷ 0 ∷ 0 ∷ 4 ∷ 0 ∷ 0 ∷ 0 ∷ 0
    ∷ 1 ∷ 110 ∷ 7 ∷ codes "integer" ++ 0 ∷ 0 ∷ 0 ∷ 4 ∷ 0 ∷ 0 ∷ 0 ∷ 4 ∷ []

abbrev pub list_layout : Layout
list_layout = record {
  order = Little;
  pointer = 4;
  types = record {
    name = 112 ∷ [];
    length = 8;
    fields =
        record {
          name = 97 ∷ [];
          base = Number Int;
          shape = Counted 1;
          size = 4;
          offset = 0;
          fallback = pos 0;
        }
        ∷ record {
          name = 110 ∷ [];
          base = Number Int;
          shape = One;
          size = 4;
          offset = 4;
          fallback = pos 0;
        } ∷ [];
  } ∷ [];
}

abbrev pub list_bytes : List ℕ
list_bytes = 8 ∷ 0 ∷ 0 ∷ 0 ∷ 2 ∷ 0 ∷ 0 ∷ 0 ∷ 5 ∷ 0 ∷ 0 ∷ 0 ∷ 6 ∷ 0 ∷ 0 ∷ 0 ∷ []

abbrev pub list_value : Datum
list_value = rec (entry (97 ∷ []) (list (element (num (pos 5)) (element (num (pos 6)) empty_list)))
    (entry (110 ∷ []) (num (pos 2)) empty_record))

-- a field of these parts, without a default
abbrev field_of : List ℕ → Base → Shape → ℕ → ℕ → Field
field_of name base shape size offset = record
    { name = name; base = base; shape = shape; size = size; offset = offset; fallback = pos 0 }

-- two records of a number and a string, with pointers of 8 bytes:
-- `{p=[{k=5,s=null},{k=300,s="a"}]}`
abbrev pub pairs_description : List ℕ
pairs_description =
    codes "NDF1" ++ 0 ∷ 8 ∷ 0 ∷ 2
    ∷ 1 ∷ 101 ∷ 0 ∷ 0 ∷ 0 ∷ 16 ∷ 0 ∷ 2
    ∷ 1 ∷ 107 ∷ 7 ∷ codes "integer" ++ 0 ∷ 0 ∷ 0 ∷ 8 ∷ 0 ∷ 0 ∷ 0 ∷ 0
    ∷ 1 ∷ 115 ∷ 6 ∷ codes "string" ++ 0 ∷ 0 ∷ 0 ∷ 8 ∷ 0 ∷ 0 ∷ 0 ∷ 8
    ∷ 1 ∷ 114 ∷ 0 ∷ 0 ∷ 0 ∷ 32 ∷ 0 ∷ 1
    ∷ 1 ∷ 112 ∷ 4 ∷ codes "e[2]" ++ 0 ∷ 0 ∷ 0 ∷ 16 ∷ 0 ∷ 0 ∷ 0 ∷ 0 ∷ []

abbrev pub pairs_layout : Layout
pairs_layout = record {
  order = Little;
  pointer = 8;
  types =
      record {
        name = 101 ∷ [];
        length = 16;
        fields = field_of (107 ∷ []) (Number Int) One 8 0
            ∷ field_of (115 ∷ []) Text One 8 8 ∷ [];
      }
      ∷ record {
        name = 114 ∷ [];
        length = 32;
        fields = field_of (112 ∷ []) (Nested 0) (Fixed 2) 16 0 ∷ [];
      } ∷ [];
}

-- a record of a string, and two strings: `{o={s=null},v=["b","c"]}`
abbrev pub words_description : List ℕ
words_description =
    codes "NDF1" ++ 0 ∷ 4 ∷ 0 ∷ 2
    ∷ 1 ∷ 101 ∷ 0 ∷ 0 ∷ 0 ∷ 4 ∷ 0 ∷ 1
    ∷ 1 ∷ 115 ∷ 6 ∷ codes "string" ++ 0 ∷ 0 ∷ 0 ∷ 4 ∷ 0 ∷ 0 ∷ 0 ∷ 0
    ∷ 1 ∷ 114 ∷ 0 ∷ 0 ∷ 0 ∷ 12 ∷ 0 ∷ 2
    ∷ 1 ∷ 111 ∷ 1 ∷ codes "e" ++ 0 ∷ 0 ∷ 0 ∷ 4 ∷ 0 ∷ 0 ∷ 0 ∷ 0
    ∷ 1 ∷ 118 ∷ 9 ∷ codes "string[2]" ++ 0 ∷ 0 ∷ 0 ∷ 4 ∷ 0 ∷ 0 ∷ 0 ∷ 4 ∷ []

abbrev pub words_layout : Layout
words_layout = record {
  order = Little;
  pointer = 4;
  types =
      record { name = 101 ∷ []; length = 4; fields = field_of (115 ∷ []) Text One 4 0 ∷ [] }
      ∷ record {
        name = 114 ∷ [];
        length = 12;
        fields = field_of (111 ∷ []) (Nested 0) One 4 0
            ∷ field_of (118 ∷ []) Text (Fixed 2) 4 4 ∷ [];
      } ∷ [];
}
