-- The report, computed on whole jobs: a diamond, a stone that is frozen, and records that are refused.
use Rattle.std.proofs.Common.{◌≡◌, ℕ, List, [], ◌∷◌, ◌++◌, map, refl, Some, None}
use Rattle.std.specs.Prelude.{pos, codes}
use Rattle.std.specs.Fmt.{digits}
use Rattle.evp_action.specs.declared.acted.Reason.TheVariants.{Clash, Unfit, Large, Overflow, ZeroDivide, Index}
use Rattle.evp_action.specs.declared.action.Action.{Action}
use Rattle.evp_action.specs.declared.action.Action.TheVariants.{Filter, Split, Terminal}
use Rattle.evp_base.specs.declared.kind.Kind.TheVariants.{Int}
use Rattle.evp_base.specs.declared.order.Order.{Order}
use Rattle.evp_base.specs.declared.order.Order.TheVariants.{Little, Big}
use Rattle.evp_base.specs.declared.step.Step.TheVariants as step
use Rattle.evp_expr.specs.Tree as expr
use Rattle.evp_format.specs.Layout.{Layout}
use Rattle.evp_format.specs.declared.field.Base.TheVariants.{Number}
use Rattle.evp_format.specs.declared.field.Shape.TheVariants.{One}
use Rattle.evp_graph.specs.Routes.{routes_of}
use Rattle.evp_record.specs.OwnedBytes.{OwnedBytes}
use Rattle.evp_stone.specs.declared.round.Round.{Round}
use Rattle.evp_stone.specs.declared.stone.Stone.{Stone}
use Rattle.evp_stone.specs.JobShape.{JobShape, graph_of}
use Rattle.evp_report.specs.Report.{report, reason_text, lines_of}

-- one number x of so many bytes
abbrev layout : Order → ℕ → Layout
layout order size = record {
  order = order;
  pointer = 4;
  types = record {
    name = codes "p";
    length = size;
    fields = record { name = codes "x"; base = Number Int; shape = One; size = size; offset = 0; fallback = pos 0 } ∷ [];
  } ∷ [];
}

-- a record of the file's format
abbrev owned : ℕ → OwnedBytes
owned n = record { format = 1; bytes = n ∷ 1 ∷ 0 ∷ 0 ∷ [] }

abbrev stone : Action → List ℕ → Stone
stone action targets = record { action = action; targets = targets }

abbrev round : ℕ → List ℕ → Round
round submit frozen = record { submit = submit ∷ []; frozen = frozen }

-- a job of one source, whose receivers want a big endian number of so many bytes
abbrev job_of : ℕ → List OwnedBytes → List Stone → List Round → JobShape
job_of size items stones rounds =
    let parts : JobShape = record {
      formats = layout Big size ∷ layout Little 4 ∷ [];
      declared = 1;
      limit = 4096;
      queue = 64;
      sources = record { name = codes "a"; stone = 0; items = items } ∷ [];
      stones = stones;
      rounds = rounds;
      routes = [];
    } in
    record parts { routes = routes_of (graph_of parts) }

-- a split to two filters that lead to one terminal
abbrev one : Action
one = Filter 0 (record { tree = expr.number (pos 1); layout = layout Big 8 })

abbrev diamond : JobShape
diamond = job_of 8 (owned 7 ∷ [])
    (stone Split (1 ∷ 2 ∷ []) ∷ stone one (3 ∷ []) ∷ stone one (3 ∷ []) ∷ stone (Terminal 0) [] ∷ []) (round 1 [] ∷ [])

diamond_report : report diamond ≡
    codes "round 0\na>0 passed 1 dropped 0 refused 0 held 0\na>0>1 passed 1 dropped 0 refused 0 held 0\n"
    ++ codes "a>0>1>3 passed 1 dropped 0 refused 0 held 0\n#0 {x=263}\na>0>2 passed 1 dropped 0 refused 0 held 0\n"
    ++ codes "a>0>2>3 passed 1 dropped 0 refused 0 held 0\n#0 {x=263}\n"
unfolding digits
diamond_report = refl

-- a split to a terminal that is frozen for the first round, and receives what it kept in the next
abbrev frozen : JobShape
frozen = job_of 4 (owned 1 ∷ owned 2 ∷ owned 3 ∷ []) (stone Split (1 ∷ []) ∷ stone (Terminal 0) [] ∷ [])
    (round 2 (1 ∷ []) ∷ round 1 [] ∷ [])

frozen_report : report frozen ≡
    codes "round 0\na>0 passed 2 dropped 0 refused 0 held 0\na>0>1 passed 0 dropped 0 refused 0 held 2\n"
    ++ codes "round 1\na>0 passed 1 dropped 0 refused 0 held 0\na>0>1 passed 3 dropped 0 refused 0 held 0\n"
    ++ codes "#0 {x=257}\n#1 {x=258}\n#2 {x=259}\n"
unfolding digits
frozen_report = refl

-- the lines of a route in each round; none where there is no such route or round
frozen_lines : lines_of frozen 1 0 ∷ lines_of frozen 1 1 ∷ lines_of frozen 2 0 ∷ lines_of frozen 0 2 ∷ []
    ≡ codes "a>0>1 passed 0 dropped 0 refused 0 held 2\n"
    ∷ (codes "a>0>1 passed 3 dropped 0 refused 0 held 0\n" ++ codes "#0 {x=257}\n#1 {x=258}\n#2 {x=259}\n")
    ∷ [] ∷ [] ∷ []
unfolding digits
frozen_lines = refl

-- numbers of two bytes that don't fit in one
abbrev narrow : JobShape
narrow = job_of 1 (owned 1 ∷ []) (stone (Terminal 0) [] ∷ []) (round 1 [] ∷ [])

narrow_report : report narrow ≡ codes "round 0\na>0 passed 0 dropped 0 refused 1 held 0\n#0 unfit x\n"
unfolding digits
narrow_report = refl

reasons : map reason_text
    (Clash (step.Field (codes "a") ∷ []) ∷ Large [] ∷ Unfit (step.Field (codes "p") ∷ step.Index 1 ∷ step.Field (codes "k") ∷ [])
    ∷ Overflow None 12 ∷ ZeroDivide (Some 0) 1 ∷ Index (Some 63) 2 ∷ [])
    ≡ codes "clash a" ∷ codes "large ." ∷ codes "unfit p[1].k" ∷ codes "overflow at 12" ∷ codes "zero divide at 1 of set 0"
    ∷ codes "index at 2 of set 63" ∷ []
unfolding digits
reasons = refl
