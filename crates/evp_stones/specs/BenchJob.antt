-- The job that the generator's document states for n records of each sender.
use Rattle.std.specs.Prelude.{ℕ, ◌+◌, ◌-◌, ◌*◌, ◌/◌, pos, nat_lt, if◌then◌else◌, List, [], ◌∷◌}
use Rattle.std.specs.Prelude.{map, codes}
use Rattle.std.specs.List.{flat_map, range_with_len}
use Rattle.evp_base.specs.declared.kind.Kind.TheVariants.{Int, Unsigned}
use Rattle.evp_base.specs.declared.order.Order.{Order}
use Rattle.evp_base.specs.declared.order.Order.TheVariants.{Little, Big}
use Rattle.evp_eval.specs.Bound.{bound_tree}
use Rattle.evp_expr.specs.declared.operator.Operator.TheVariants as operator
use Rattle.evp_expr.specs.Tree as expr
use Rattle.evp_expr.specs.Tree.{Tree}
use Rattle.evp_format.specs.declared.field.Base.TheVariants.{Number, Text}
use Rattle.evp_format.specs.declared.field.Field.{Field}
use Rattle.evp_format.specs.declared.field.Shape.TheVariants.{One, Counted}
use Rattle.evp_format.specs.Layout.{Layout, layout_with}
use Rattle.evp_gen.specs.Senders.{laid_field}
use Rattle.evp_graph.specs.Routes.{routes_of}
use Rattle.evp_graph.specs.Shape.{Shape}
use Rattle.evp_job.specs.Formats.{known_format}
use Rattle.evp_job.specs.Rounds.{round_with}
use Rattle.evp_job.specs.Settings.{set_with}
use Rattle.evp_job.specs.Sources.{SourceShape, source_with}
use Rattle.evp_job.specs.TextShape.{StoneShape, stone_with, TextShape, graph_with, filter, router}
use Rattle.evp_job.specs.TextShape.{transform, split, terminal}
use Rattle.evp_stone.specs.declared.round.Round.{Round}

-- ---- formats

-- one type of this name and length
abbrev pub one_type : Order → ℕ → List ℕ → ℕ → List Field → Layout
one_type order pointer name length fields = layout_with order pointer
    (record { name = name; length = length; fields = fields } ∷ [])

abbrev pub wide : Layout
wide = one_type Big 8 (codes "wide") 40
    (laid_field (codes "x") (Number Int) One 8 0
    ∷ laid_field (codes "id") (Number Unsigned) One 8 8
    ∷ laid_field (codes "tag") Text One 8 16
    ∷ laid_field (codes "n") (Number Int) One 8 24
    ∷ laid_field (codes "v") (Number Int) (Counted 3) 8 32 ∷ [])

abbrev pub calc : Layout
calc = one_type Little 8 (codes "calc") 24
    (laid_field (codes "y") (Number Int) One 8 0
    ∷ laid_field (codes "id") (Number Unsigned) One 8 8
    ∷ laid_field (codes "x") (Number Int) One 8 16 ∷ [])

abbrev pub short : Layout
short = one_type Little 4 (codes "short") 12
    (laid_field (codes "x") (Number Int) One 2 0
    ∷ laid_field (codes "tag") Text One 4 4
    ∷ laid_field (codes "extra") (Number Unsigned) One 4 8 ∷ [])

abbrev pub full : Layout
full = one_type Big 4 (codes "full") 8
    (laid_field (codes "y") (Number Int) One 4 0
    ∷ laid_field (codes "id") (Number Unsigned) One 4 4 ∷ [])

abbrev pub tight : Layout
tight = one_type Little 8 (codes "tight") 4
    (laid_field (codes "y") (Number Int) One 2 0
    ∷ laid_field (codes "id") (Number Unsigned) One 2 2 ∷ [])

abbrev pub bench_names : List (List ℕ)
bench_names = codes "wide" ∷ codes "calc" ∷ codes "short" ∷ codes "full" ∷ codes "tight" ∷ []

abbrev pub bench_layouts : List Layout
bench_layouts = wide ∷ calc ∷ short ∷ full ∷ tight ∷ []

-- ---- sources, each at the stone of its number

abbrev pub bench_sources : List SourceShape
bench_sources = source_with (codes "a") (codes "a.ndr") 0
    ∷ source_with (codes "b") (codes "b.ndr") 1 ∷ source_with (codes "c") (codes "c.ndr") 2
    ∷ source_with (codes "d") (codes "d.ndr") 3 ∷ []

-- ---- expressions, with the places of their names and operators

-- `x % 3 != 0`
abbrev pub thirds : Tree
thirds = expr.joined 6 operator.NotEqual
    (expr.joined 2 operator.Remainder (expr.name 0 (codes "x")) (expr.number (pos 3)))
    (expr.number (pos 0))

-- `x*x - k`
abbrev pub squares : ℕ → Tree
squares k = expr.joined 4 operator.Subtract
    (expr.joined 1 operator.Multiply (expr.name 0 (codes "x")) (expr.name 2 (codes "x")))
    (expr.number (pos k))

-- `(x + 500) % 5`
abbrev pub fifths : Tree
fifths = expr.joined 10 operator.Remainder
    (expr.joined 3 operator.Add (expr.name 1 (codes "x")) (expr.number (pos 500)))
    (expr.number (pos 5))

-- `y % 2 == 0`
abbrev pub evens : Tree
evens = expr.joined 6 operator.Equal
    (expr.joined 2 operator.Remainder (expr.name 0 (codes "y")) (expr.number (pos 2)))
    (expr.number (pos 0))

-- ---- stones

-- stones k = 0, 1, 2, 3 of each row
abbrev pub parting : ℕ → StoneShape
parting k = stone_with split ((4 + k) ∷ (8 + k) ∷ [])

abbrev pub by_thirds : ℕ → StoneShape
by_thirds k = stone_with (filter 0 (bound_tree thirds wide)) ((12 + k) ∷ [])

abbrev pub squaring : ℕ → StoneShape
squaring k =
    stone_with (transform 0 1 (set_with 0 (bound_tree (squares k) wide) ∷ [])) ((16 + k) ∷ [])

abbrev pub by_fifths : ℕ → StoneShape
by_fifths k = stone_with (router 0 (bound_tree fifths wide)) (20 ∷ 21 ∷ 22 ∷ 23 ∷ [])

abbrev pub by_evens : ℕ → StoneShape
by_evens k = stone_with (filter 1 (bound_tree evens calc)) ((24 + k) ∷ [])

abbrev pub shortening : ℕ → StoneShape
shortening k = stone_with (terminal 2) []

abbrev pub sharing : ℕ → StoneShape
sharing k = stone_with split (28 ∷ 29 ∷ 30 ∷ 31 ∷ [])

abbrev pub ending : ℕ → StoneShape
ending k = stone_with (terminal (if nat_lt k 2 then 3 else 4)) []

abbrev pub row_of : (ℕ → StoneShape) → List StoneShape
row_of stone = map stone (range_with_len 0 4)

abbrev pub bench_stones : List StoneShape
bench_stones = flat_map row_of
    (parting ∷ by_thirds ∷ squaring ∷ by_fifths ∷ by_evens ∷ shortening ∷ sharing ∷ ending ∷ [])

-- ---- rounds

-- each source submits so many
abbrev pub even_round : ℕ → List ℕ → Round
even_round each frozen = round_with (each ∷ each ∷ each ∷ each ∷ []) frozen

-- a quarter in each of the first three, and the rest in the last
abbrev pub bench_rounds : ℕ → List Round
bench_rounds n = even_round (n / 4) [] ∷ even_round (n / 4) (12 ∷ [])
    ∷ even_round (n / 4) (16 ∷ []) ∷ even_round (n - 3 * (n / 4)) (16 ∷ []) ∷ []

-- ---- the whole

abbrev pub bench_graph : Shape
bench_graph = graph_with bench_sources bench_stones

abbrev pub bench_job : ℕ → TextShape
bench_job n = record {
  limit = 256;
  queue = 16;
  names = bench_names;
  formats = map known_format bench_layouts;
  sources = bench_sources;
  stones = bench_stones;
  rounds = bench_rounds n;
  routes = routes_of bench_graph;
}
