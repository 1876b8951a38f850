-- Moves for a sender whose record has at least so many bytes.
use Rattle.std.proofs.Common.{◌≡◌, ℕ, ◌≤◌, List, [], ◌∷◌, length, refl, sym, ap, ◌∙◌, arith}
use Rattle.std.specs.Prelude.{replicate, IfOk, IfSome, Result, Ok, Err, Option, Some, None}
use Rattle.std.proofs.lemmas.List.{length-replicate}
use Rattle.evp_base.specs.declared.order.Order.{Order}
use Rattle.evp_plan.specs.declared.cell.Cell.{Cell}
use Rattle.evp_plan.specs.declared.cell.Cell.TheVariants.{Constant}
use Rattle.evp_plan.specs.declared.step.Step.{Step}
use Rattle.evp_plan.specs.Cells.{Moving, AreMovesWithin, AreMovesOver, end_of, op_cells, overlaid, steps_over}
use Rattle.evp_plan.specs.Laid.{AreCellsOf}
use Rattle.evp_plan.proofs.Painting.{length-overlaid}

-- without such a number, the steps say how far
none_more : (from_order order : Order) (steps : List Step) (below : List Cell) (moves : Moving)
    → AreMovesWithin from_order order steps below 0 moves → AreMovesOver from_order order steps below moves
none_more from_order order steps below moves within =
    let reach = within.reach in
    record { plain = within.plain; cells = within.cells; reach = omega (arith, reach) }

pub over_all : {E : Type 0} (from_order order : Order) (steps : List Step) (below : List Cell) (made : Result (Option Moving) E)
    → IfOk made (λ some. IfSome some (AreMovesWithin from_order order steps below 0))
    → IfOk made (λ some. IfSome some (AreMovesOver from_order order steps below))
over_all from_order order steps below (Ok None) within = tt
over_all from_order order steps below (Ok (Some moves)) within = none_more from_order order steps below moves within
over_all from_order order steps below (Err fault) within = tt

length-steps_over : (order from_order : Order) (steps : List Step) (cells : List Cell)
    → length (steps_over order from_order steps cells) ≡ length cells
length-steps_over order from_order [] cells = refl
length-steps_over order from_order (step ∷ steps) cells =
    length-steps_over order from_order steps (overlaid step.task.offset (op_cells order step.task.size from_order step.task.op) cells)
    ∙ length-overlaid step.task.offset (op_cells order step.task.size from_order step.task.op) cells

-- the cells of moves over zeros
zeros_long : (from_order order : Order) (steps : List Step) (count room : ℕ) (moves : Moving)
    → AreMovesWithin from_order order steps (replicate count (Constant 0)) room moves → length moves.cells ≡ count
zeros_long from_order order steps count room moves within =
    ap length within.cells ∙ length-steps_over order from_order steps (replicate count (Constant 0))
    ∙ length-replicate {A = Cell} count (Constant 0)

pub long_all : {E : Type 0} (from_order order : Order) (steps : List Step) (count room : ℕ) (made : Result (Option Moving) E)
    → IfOk made (λ some. IfSome some (AreMovesWithin from_order order steps (replicate count (Constant 0)) room))
    → IfOk made (λ some. IfSome some (λ moves. length moves.cells ≡ count))
long_all from_order order steps count room (Ok None) within = tt
long_all from_order order steps count room (Ok (Some moves)) within = zeros_long from_order order steps count room moves within
long_all from_order order steps count room (Err fault) within = tt

cells_over : (from_order order : Order) (steps : List Step) (count room : ℕ) (moves : Moving)
    → AreMovesWithin from_order order steps (replicate count (Constant 0)) room moves → end_of steps ≤ count
    → AreCellsOf from_order order steps moves.cells
cells_over from_order order steps count room moves within fits =
    let long = zeros_long from_order order steps count room moves within in
    record {
      plain = within.plain;
      fits = omega (arith, long, fits);
      over = within.cells ∙ ap (λ (n : ℕ). steps_over order from_order steps (replicate n (Constant 0))) (sym long);
    }

pub cells_all : {E : Type 0} (from_order order : Order) (steps : List Step) (count room : ℕ) (made : Result (Option Moving) E)
    → IfOk made (λ some. IfSome some (AreMovesWithin from_order order steps (replicate count (Constant 0)) room)) → end_of steps ≤ count
    → IfOk made (λ some. IfSome some (λ moves. AreCellsOf from_order order steps moves.cells))
cells_all from_order order steps count room (Ok None) within fits = tt
cells_all from_order order steps count room (Ok (Some moves)) within fits = cells_over from_order order steps count room moves within fits
cells_all from_order order steps count room (Err fault) within fits = tt
