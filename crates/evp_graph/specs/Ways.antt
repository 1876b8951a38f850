-- The ways on from a stone.
use Rattle.std.specs.Prelude.{ℕ, zero, suc, List, [], ◌∷◌, map, flat_map}
use Rattle.std.specs.List.{enumerate_from}
use Rattle.evp_graph.specs.Shape.{targets_of}

-- positions taken one after another, and the stones that they lead to
pub record Way : Type 0 where
  pub positions : List ℕ
  pub stones : List ℕ

-- no step
abbrev pub stay : Way
stay = record { positions = []; stones = [] }

-- first this position to this stone, then that way
abbrev pub step_to : ℕ → ℕ → Way → Way
step_to position stone way = record {
  positions = position ∷ way.positions;
  stones = stone ∷ way.stones;
}

-- the ways of fewer than so many steps: none, and then by position what follows from its target
abbrev pub ways : List (List ℕ) → ℕ → ℕ → List Way
ways targets zero stone = []
ways targets (suc steps) stone =
    stay ∷ flat_map (λ e. map (step_to e.0 e.1) (ways targets steps e.1))
    (enumerate_from 0 (targets_of targets stone))
