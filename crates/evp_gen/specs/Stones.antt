-- The stones of the job, four in a row, one for each sender.
use Rattle.std.specs.Prelude.{ℕ, ◌+◌, nat_lt, if◌then◌else◌, List, [], ◌∷◌, ◌++◌, map, codes}
use Rattle.std.specs.Fmt.{decimal}
use Rattle.std.specs.List.{flat_map, range_with_len}
use Rattle.serde_json.specs.Data.{Data, string, object, member, no_members}
use Rattle.evp_gen.specs.declared.stones.Row.{Row}
use Rattle.evp_gen.specs.declared.stones.Row.TheVariants.{Parting, Thirds, Squares, Fifths}
use Rattle.evp_gen.specs.declared.stones.Row.TheVariants.{Evens, Shorts, Sharing, Ends}
use Rattle.evp_gen.specs.Formats.{list_of, whole}

-- ---- kinds of stones

abbrev pub split_value : List ℕ → Data
split_value targets =
    object (member (codes "kind") (string (codes "split"))
    (member (codes "targets") (list_of (map whole targets)) no_members))

abbrev pub filter_value : List ℕ → List ℕ → ℕ → Data
filter_value format expr target =
    object (member (codes "expr") (string expr)
    (member (codes "format") (string format)
    (member (codes "kind") (string (codes "filter"))
    (member (codes "target") (whole target) no_members))))

abbrev pub router_value : List ℕ → List ℕ → List ℕ → Data
router_value format expr targets =
    object (member (codes "expr") (string expr)
    (member (codes "format") (string format)
    (member (codes "kind") (string (codes "router"))
    (member (codes "targets") (list_of (map whole targets)) no_members))))

-- from `wide` into `calc`, with `y` set to this
abbrev pub transform_value : List ℕ → ℕ → Data
transform_value expr target =
    object (member (codes "format") (string (codes "wide"))
    (member (codes "into") (string (codes "calc"))
    (member (codes "kind") (string (codes "transform"))
    (member (codes "set") (list_of (list_of (string (codes "y") ∷ string expr ∷ []) ∷ []))
    (member (codes "target") (whole target) no_members)))))

abbrev pub terminal_value : List ℕ → Data
terminal_value format =
    object (member (codes "format") (string format)
    (member (codes "kind") (string (codes "terminal")) no_members))

-- ---- rows

-- stone k of a row
abbrev pub stone_value : Row → ℕ → Data
stone_value Parting k = split_value ((4 + k) ∷ (8 + k) ∷ [])
stone_value Thirds k = filter_value (codes "wide") (codes "x % 3 != 0") (12 + k)
stone_value Squares k = transform_value (codes "x*x - " ++ decimal k) (16 + k)
stone_value Fifths k = router_value (codes "wide") (codes "(x + 500) % 5")
    (20 ∷ 21 ∷ 22 ∷ 23 ∷ [])
stone_value Evens k = filter_value (codes "calc") (codes "y % 2 == 0") (24 + k)
stone_value Shorts k = terminal_value (codes "short")
stone_value Sharing k = split_value (28 ∷ 29 ∷ 30 ∷ 31 ∷ [])
stone_value Ends k = terminal_value (if nat_lt k 2 then codes "full" else codes "tight")

abbrev pub row_values : Row → List Data
row_values row = map (stone_value row) (range_with_len 0 4)

abbrev pub all_rows : List Row
all_rows = Parting ∷ Thirds ∷ Squares ∷ Fifths ∷ Evens ∷ Shorts ∷ Sharing ∷ Ends ∷ []

-- stones 0 to 31
abbrev pub stones_value : Data
stones_value = list_of (flat_map row_values all_rows)
