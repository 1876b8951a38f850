-- The job document for n records of each sender, as a JSON value.
use Rattle.std.specs.Prelude.{ℕ, ◌-◌, ◌*◌, ◌/◌, List, [], ◌∷◌, map, codes}
use Rattle.serde_json.specs.Data.{Data, string, object, member, no_members}
use Rattle.evp_gen.specs.Formats.{list_of, whole, formats_value}
use Rattle.evp_gen.specs.Stones.{stones_value}

-- a round that submits so many records of each source, with these stones frozen
abbrev pub round_value : ℕ → List ℕ → Data
round_value each frozen =
    object (member (codes "frozen") (list_of (map whole frozen))
    (member (codes "submit")
    (list_of (whole each ∷ whole each ∷ whole each ∷ whole each ∷ [])) no_members))

-- a quarter of the records in each of the rounds 0 to 2, and the rest in the last
abbrev pub rounds_value : ℕ → Data
rounds_value n = list_of
    (round_value (n / 4) [] ∷ round_value (n / 4) (12 ∷ []) ∷ round_value (n / 4) (16 ∷ [])
    ∷ round_value (n - 3 * (n / 4)) (16 ∷ []) ∷ [])

abbrev pub source_value : List ℕ → List ℕ → ℕ → Data
source_value name file stone =
    object (member (codes "file") (string file)
    (member (codes "name") (string name)
    (member (codes "stone") (whole stone) no_members)))

abbrev pub sources_value : Data
sources_value = list_of
    (source_value (codes "a") (codes "a.ndr") 0 ∷ source_value (codes "b") (codes "b.ndr") 1
    ∷ source_value (codes "c") (codes "c.ndr") 2 ∷ source_value (codes "d") (codes "d.ndr") 3
    ∷ [])

-- the whole document
abbrev pub job_value : ℕ → Data
job_value n =
    object (member (codes "formats") formats_value
    (member (codes "limit") (whole 256)
    (member (codes "queue") (whole 16)
    (member (codes "rounds") (rounds_value n)
    (member (codes "sources") sources_value
    (member (codes "stones") stones_value no_members))))))
