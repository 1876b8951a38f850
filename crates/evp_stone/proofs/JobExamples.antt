-- The definitions over whole jobs, computed: records as bytes, formats and actions.
use Rattle.std.proofs.Common.{◌≡◌, ℕ, List, [], ◌∷◌, map, refl}
use Rattle.std.specs.Prelude.{pos, codes}
use Rattle.evp_action.specs.declared.acted.Reason.TheVariants.{Unfit}
use Rattle.evp_action.specs.declared.action.Action.{Action}
use Rattle.evp_action.specs.declared.action.Action.TheVariants.{Filter, Split, Terminal}
use Rattle.evp_base.specs.declared.kind.Kind.TheVariants.{Int}
use Rattle.evp_base.specs.declared.order.Order.{Order}
use Rattle.evp_base.specs.declared.order.Order.TheVariants.{Little, Big}
use Rattle.evp_base.specs.declared.step.Step.TheVariants.{Field}
use Rattle.evp_expr.specs.Tree as expr
use Rattle.evp_format.specs.Datum.{Datum, num, rec, empty_record, entry}
use Rattle.evp_format.specs.Layout.{Layout}
use Rattle.evp_format.specs.declared.field.Base.TheVariants.{Number}
use Rattle.evp_format.specs.declared.field.Shape.TheVariants.{One}
use Rattle.evp_graph.specs.Routes.{routes_of}
use Rattle.evp_record.specs.OwnedBytes.{OwnedBytes}
use Rattle.evp_stone.specs.declared.round.Round.{Round}
use Rattle.evp_stone.specs.declared.stone.Stone.{Stone}
use Rattle.evp_stone.specs.Accounts.{accounts_of, through_of}
use Rattle.evp_stone.specs.Carried.{Carried}
use Rattle.evp_stone.specs.Entries.{flow, facts}
use Rattle.evp_stone.specs.Flow.{item, mark}
use Rattle.evp_stone.specs.JobShape.{JobShape, graph_of}
use Rattle.evp_stone.specs.Laws.{done_of}
use Rattle.evp_stone.specs.Tally.{Tally}

-- one number x of so many bytes
abbrev layout : Order → ℕ → Layout
layout order size = record {
  order = order;
  pointer = 4;
  types = record {
    name = codes "p";
    length = size;
    fields = record { name = codes "x"; base = Number Int; shape = One; size = size; offset = 0; fallback = pos 0 } ∷ [];
  } ∷ [];
}

abbrev value : ℕ → Datum
value n = rec (entry (codes "x") (num (pos n)) empty_record)

-- a record of format 1 in the file
abbrev owned : ℕ → OwnedBytes
owned n = record { format = 1; bytes = n ∷ 0 ∷ 0 ∷ 0 ∷ [] }

-- what it is when it comes from the file, and when it was converted into format 0
abbrev pub as_sent : ℕ → ℕ → Carried
as_sent index n = record { index = index; format = 1; value = value n }

abbrev as_received : ℕ → ℕ → Carried
as_received index n = record { index = index; format = 0; value = value n }

abbrev stone : Action → List ℕ → Stone
stone action targets = record { action = action; targets = targets }

abbrev round : ℕ → List ℕ → Round
round submit frozen = record { submit = submit ∷ []; frozen = frozen }

abbrev tally : ℕ → List Carried → ℕ → Tally
tally passed came held = record { passed = passed; dropped = 0; refused = []; arrived = came; held = held }

-- a job of one source, whose receivers want a big endian number of so many bytes
abbrev job_of : ℕ → List OwnedBytes → List Stone → List Round → JobShape
job_of size items stones rounds =
    let parts : JobShape = record {
      formats = layout Big size ∷ layout Little 4 ∷ [];
      declared = 1;
      limit = 4096;
      queue = 64;
      sources = record { name = codes "a"; stone = 0; items = items } ∷ [];
      stones = stones;
      rounds = rounds;
      routes = [];
    } in
    record parts { routes = routes_of (graph_of parts) }

-- a split to two filters, both of which lead to one terminal
abbrev one : Action
one = Filter 0 (record { tree = expr.number (pos 1); layout = layout Big 8 })

abbrev pub diamond : JobShape
diamond = job_of 8 (owned 7 ∷ [])
    (stone Split (1 ∷ 2 ∷ []) ∷ stone one (3 ∷ []) ∷ stone one (3 ∷ []) ∷ stone (Terminal 0) [] ∷ []) (round 1 [] ∷ [])

diamond_accounts : map (accounts_of diamond) diamond.routes
    ≡ (tally 1 [] 0 ∷ []) ∷ (tally 1 [] 0 ∷ []) ∷ (tally 1 (as_received 0 7 ∷ []) 0 ∷ []) ∷ (tally 1 [] 0 ∷ [])
    ∷ (tally 1 (as_received 0 7 ∷ []) 0 ∷ []) ∷ []
diamond_accounts = refl

-- a split sends the record as it is, and a filter what it was converted into
split_flow : flow diamond 1 ≡ facts diamond.formats (item (as_sent 0 7) ∷ mark 0 ∷ [])
split_flow = refl

filter_flow : flow diamond 2 ≡ facts diamond.formats (item (as_received 0 7) ∷ mark 0 ∷ [])
filter_flow = refl

-- five records, of which the terminal keeps three for a round
abbrev pub line : List ℕ → JobShape
line frozen = job_of 4 (owned 1 ∷ owned 2 ∷ owned 3 ∷ owned 4 ∷ owned 5 ∷ [])
    (stone Split (1 ∷ []) ∷ stone (Terminal 0) [] ∷ []) (round 3 (1 ∷ []) ∷ round 2 frozen ∷ [])

abbrev all : List Carried
all = as_received 0 1 ∷ as_received 1 2 ∷ as_received 2 3 ∷ as_received 3 4 ∷ as_received 4 5 ∷ []

line_accounts : map (accounts_of (line [])) (line []).routes
    ≡ (tally 3 [] 0 ∷ tally 2 [] 0 ∷ []) ∷ (tally 0 [] 3 ∷ tally 5 all 0 ∷ []) ∷ []
line_accounts = refl

frozen_accounts : map (accounts_of (line (1 ∷ []))) (line []).routes
    ≡ (tally 3 [] 0 ∷ tally 2 [] 0 ∷ []) ∷ (tally 0 [] 3 ∷ tally 0 [] 5 ∷ []) ∷ []
frozen_accounts = refl

-- what the terminal acted on is all that came through, or a front of it
line_done : map (done_of (line [])) (line []).routes ≡ map (through_of (line [])) (line []).routes
line_done = refl

-- a record that doesn't fit is named, and the one behind it goes on
abbrev narrow : JobShape
narrow = job_of 1 (record { format = 1; bytes = 44 ∷ 1 ∷ 0 ∷ 0 ∷ [] } ∷ owned 5 ∷ []) (stone (Terminal 0) [] ∷ []) (round 2 [] ∷ [])

narrow_accounts : map (accounts_of narrow) narrow.routes
    ≡ (record {
      passed = 1;
      dropped = 0;
      refused = (0, Unfit (Field (codes "x") ∷ [])) ∷ [];
      arrived = as_received 1 5 ∷ [];
      held = 0;
    } ∷ []) ∷ []
narrow_accounts = refl
