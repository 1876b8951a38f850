-- The formats that the job declares, as JSON values with their members in the order of their names.
use Rattle.std.specs.Prelude.{ℕ, List, [], ◌∷◌, codes}
use Rattle.serde_json.specs.Data.{Data, unsigned, number, string, array, object, member, no_members}
use Rattle.serde_json.specs.View.{items_of}

abbrev pub list_of : List Data → Data
list_of values = array (items_of values)

abbrev pub whole : ℕ → Data
whole n = number (unsigned n)

-- a field by its name, type text and size
abbrev pub field_value : List ℕ → List ℕ → ℕ → Data
field_value name type_text size = list_of (string name ∷ string type_text ∷ whole size ∷ [])

-- the string `tag`
abbrev pub tag_value : Data
tag_value = list_of (string (codes "tag") ∷ string (codes "string") ∷ [])

-- a format of one type, which has the format's name and this list of fields
abbrev pub format_value : List ℕ → List ℕ → Data → Data
format_value name profile fields =
    object (member (codes "name") (string name)
    (member (codes "profile") (string profile)
    (member (codes "types") (list_of (object (member (codes "fields") fields
    (member (codes "name") (string name) no_members)) ∷ [])) no_members)))

abbrev pub wide_fields : Data
wide_fields = list_of
    (field_value (codes "x") (codes "integer") 8
    ∷ field_value (codes "id") (codes "unsigned integer") 8 ∷ tag_value
    ∷ field_value (codes "n") (codes "integer") 8
    ∷ field_value (codes "v") (codes "integer[n]") 8 ∷ [])

abbrev pub wide_value : Data
wide_value = format_value (codes "wide") (codes "be64") wide_fields

abbrev pub calc_fields : Data
calc_fields = list_of
    (field_value (codes "y") (codes "integer") 8
    ∷ field_value (codes "id") (codes "unsigned integer") 8
    ∷ field_value (codes "x") (codes "integer") 8 ∷ [])

abbrev pub calc_value : Data
calc_value = format_value (codes "calc") (codes "le64") calc_fields

abbrev pub short_fields : Data
short_fields = list_of
    (field_value (codes "x") (codes "integer") 2 ∷ tag_value
    ∷ field_value (codes "extra") (codes "unsigned integer") 4 ∷ [])

abbrev pub short_value : Data
short_value = format_value (codes "short") (codes "le32") short_fields

abbrev pub full_fields : Data
full_fields = list_of
    (field_value (codes "y") (codes "integer") 4
    ∷ field_value (codes "id") (codes "unsigned integer") 4 ∷ [])

abbrev pub full_value : Data
full_value = format_value (codes "full") (codes "be32") full_fields

abbrev pub tight_fields : Data
tight_fields = list_of
    (field_value (codes "y") (codes "integer") 2
    ∷ field_value (codes "id") (codes "unsigned integer") 2 ∷ [])

abbrev pub tight_value : Data
tight_value = format_value (codes "tight") (codes "le64") tight_fields

abbrev pub formats_value : Data
formats_value = list_of
    (wide_value ∷ calc_value ∷ short_value ∷ full_value ∷ tight_value ∷ [])
