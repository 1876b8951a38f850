-- The answers of reading a list of tokens.
use Rattle.std.proofs.Common.{◌≡◌, ℕ, ◌≤◌, Option, Some, None, IfSome, refl, List, [], ◌∷◌, inl, inr, Result, Ok, Err, sym, ◌∙◌, ap, arith}
use Rattle.std.proofs.lemmas.Grind.{common_steps}
use Rattle.evp_expr.specs.declared.state.Mode.{Mode}
use Rattle.evp_expr.specs.declared.fault.ExprFault.{ExprFault}
use Rattle.evp_expr.specs.declared.fault.ExprFault.TheVariants as fault
use Rattle.evp_expr.specs.declared.token.Placed.{Placed}
use Rattle.evp_expr.specs.declared.state.Frame.{Frame}
use Rattle.evp_expr.specs.Levels.{levels}
use Rattle.evp_expr.specs.Grammar.{most_levels}
use Rattle.evp_expr.specs.Tree.{Tree}
use Rattle.evp_expr.specs.Parsing.{ReadAnswers}
use Rattle.evp_expr.specs.Steps.{State, start, step_at}
use Rattle.evp_expr.specs.Standing.{StandsAt}
use Rattle.evp_expr.specs.Opening.{Answers, FinalAnswers}
use Rattle.evp_expr.specs.Sound.{IsSound}
use Rattle.evp_expr.proofs.Sounds.{expression_sound}
use Rattle.evp_expr.proofs.StepSound.{step_leads}
use Rattle.evp_expr.proofs.Runs.{run_on, run_deep, run_refused, run_reaches, run_stops, reached_tree, reached_cut}
use Rattle.evp_expr.proofs.Running.{step, finish, run, Stopped, Stands}

-- the fault of a token is the fault of the tokens
pub fault_read : (all rest : List Placed) (s : State) (p : Placed) (end : ℕ) (fs : List Frame) (ts : List Tree) (f : ExprFault)
    → Answers p.at (step s p) (Err f) fs ts → run start all ≡ run s (p ∷ rest) → ReadAnswers all end (Err f)
fault_read all rest s p end fs ts fault.Memory h e = tt
fault_read all rest s p end fs ts (fault.Unexpected a) h e =
    inl (run_stops all (fault.Unexpected a) (e ∙ (run_refused s p rest h.0 ∙ ap (λ x. Stopped (fault.Unexpected x)) (sym h.1))))
fault_read all rest s p end fs ts (fault.Deep a) (n, next, deep, at) e =
    run_stops all (fault.Deep a) (e ∙ (run_deep s n p rest next (grind (arith, common_steps)) ∙ ap (λ x. Stopped (fault.Deep x)) (sym at)))
fault_read all rest s p end fs ts _ h e = absurd h

-- where all tokens are read, the state can be reached
pub read_stands : (all : List Placed) (s : State) → run start all ≡ run s [] → Stands s
read_stands all s e = (run_reaches all s e).follows.stands

-- what the end of the text answers is the answer for the tokens
pub end_read : (all : List Placed) (s : State) (end : ℕ) (r : Result Tree ExprFault) → run start all ≡ run s []
    → FinalAnswers end (finish s) r → ReadAnswers all end r
end_read all s end (Ok t) e h = reached_tree all s t (run_reaches all s e) h
end_read all s end (Err fault.Memory) e h = tt
end_read all s end (Err (fault.Unexpected at)) e h = inr (reached_cut all s (run_reaches all s e) h.0, h.1)
end_read all s end (Err _) e h = absurd h

-- a step leads from a state that can be reached to another
pub step_stands : (m : Mode) (fs : List Frame) (trees : List Tree) (p : Placed) (s : State) → StandsAt m fs trees
    → step_at m fs trees p.at p.token ≡ Some s → Stands s
step_stands m fs trees p s o e = (step_leads m fs trees p.at p.token s o e).stands

-- a token that is taken is read
pub token_read : (all rest : List Placed) (s n : State) (p : Placed) → run start all ≡ run s (p ∷ rest) → step s p ≡ Some n
    → levels n.frames ≤ most_levels → run start all ≡ run n rest
token_read all rest s n p e next within = e ∙ run_on s n p rest next (grind (arith, common_steps))

-- the tree where all tokens are read is sound
pub finish_sound : (all : List Placed) (s : State) → run start all ≡ run s [] → IfSome (finish s) IsSound
finish_sound all s e = go (finish s) refl
  where
    go : (o : Option Tree) → finish s ≡ o → IfSome o IsSound
    go None h = tt
    go (Some t) h = expression_sound all t (reached_tree all s t (run_reaches all s e) h)
