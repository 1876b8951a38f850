-- Actions, computed over records of two numbers x and y.
use Rattle.std.proofs.Common.{◌≡◌, ℕ, List, [], ◌∷◌, Some, None, refl}
use Rattle.std.specs.Prelude.{ℤ, pos, negsuc, codes}
use Rattle.evp_action.specs.declared.acted.Reason.TheVariants.{Unfit, ZeroDivide, Clash}
use Rattle.evp_action.specs.declared.acted.To.TheVariants.{All, One}
use Rattle.evp_action.specs.declared.action.Action.{Action}
use Rattle.evp_action.specs.declared.action.Action.TheVariants.{Filter, Router, Split, Terminal}
use Rattle.evp_action.specs.declared.action.Setting.{Setting}
use Rattle.evp_action.specs.Acting.{act, transformed}
use Rattle.evp_action.specs.Outcome.{Outcome, sent, dropped, arrived, refused}
use Rattle.evp_base.specs.declared.kind.Kind.TheVariants.{Int}
use Rattle.evp_base.specs.declared.order.Order.TheVariants.{Little}
use Rattle.evp_base.specs.declared.step.Step.TheVariants.{Field}
use Rattle.evp_eval.specs.Bound.{BoundTree}
use Rattle.evp_expr.specs.Tree.{Tree, number, name, joined}
use Rattle.evp_expr.specs.declared.operator.Operator.TheVariants.{Greater, Divide, Multiply}
use Rattle.evp_format.specs.Datum.{Datum, num, rec, empty_record, entry}
use Rattle.evp_format.specs.Layout.{Layout}
use Rattle.evp_format.specs.declared.field.Base.{Base}
use Rattle.evp_format.specs.declared.field.Base.TheVariants.{Number, Text}
use Rattle.evp_format.specs.declared.field.Field.{Field as FieldOf}
use Rattle.evp_format.specs.declared.field.Shape.TheVariants.{One as Single}

abbrev field : List ℕ → Base → ℕ → ℕ → FieldOf
field called base size offset = record { name = called; base = base; shape = Single; size = size; offset = offset; fallback = pos 0 }

abbrev layout : ℕ → List FieldOf → Layout
layout length fields = record { order = Little; pointer = 4; types = record { name = codes "p"; length = length; fields = fields } ∷ [] }

abbrev both : Layout
both = layout 8 (field (codes "x") (Number Int) 4 0 ∷ field (codes "y") (Number Int) 4 4 ∷ [])

-- one number x of one byte
abbrev small : Layout
small = layout 1 (field (codes "x") (Number Int) 1 0 ∷ [])

-- a text x
abbrev wordy : Layout
wordy = layout 4 (field (codes "x") Text 4 0 ∷ [])

abbrev formats : List Layout
formats = both ∷ small ∷ wordy ∷ []

abbrev value : ℤ → ℤ → Datum
value x y = rec (entry (codes "x") (num x) (entry (codes "y") (num y) empty_record))

abbrev bound : Tree → BoundTree
bound tree = record { tree = tree; layout = both }

abbrev x : Tree
x = name 0 (codes "x")

-- `x/y > 1`
abbrev quotient : Action
quotient = Filter 0 (bound (joined 4 Greater (joined 1 Divide x (name 2 (codes "y"))) (number (pos 1))))

abbrev by_x : Action
by_x = Router 0 (bound x)

-- what it does with a record of the format of this number
abbrev on : Action → ℕ → ℤ → ℤ → Outcome
on action targets a b = act formats 4096 action targets 0 (value a b)

passes : on quotient 1 (pos 4) (pos 1) ≡ sent All 0 (value (pos 4) (pos 1))
passes = refl

fails : on quotient 1 (pos 1) (pos 1) ≡ dropped
fails = refl

divides_by_zero : on quotient 1 (pos 3) (pos 0) ≡ refused (ZeroDivide None 1)
divides_by_zero = refl

to_second : on by_x 2 (pos 1) (pos 0) ≡ sent (One 1) 0 (value (pos 1) (pos 0))
to_second = refl

to_third_of_two : on by_x 2 (pos 2) (pos 0) ≡ dropped
to_third_of_two = refl

to_none : on by_x 2 (negsuc 0) (pos 0) ≡ dropped
to_none = refl

split_to_none : on Split 0 (pos 1) (pos 1) ≡ sent All 0 (value (pos 1) (pos 1))
split_to_none = refl

received : on (Terminal 1) 0 (pos 100) (pos 1) ≡ arrived 1 (rec (entry (codes "x") (num (pos 100)) empty_record))
received = refl

too_wide : on (Terminal 1) 0 (pos 300) (pos 1) ≡ refused (Unfit (Field (codes "x") ∷ []))
too_wide = refl

another_class : on (Terminal 2) 0 (pos 300) (pos 1) ≡ refused (Clash (Field (codes "x") ∷ []))
another_class = refl

-- settings, one after another: x of the second format as an expression over the record in the first
abbrev setting : Tree → Setting
setting tree = record { field = 0; value = bound tree }

abbrev times_hundred : Tree
times_hundred = joined 1 Multiply x (number (pos 100))

abbrev made : Datum
made = rec (entry (codes "x") (num (pos 1)) empty_record)

stored : transformed (Some small) 1 (setting times_hundred ∷ []) (value (pos 1) (pos 0)) made
    ≡ sent All 1 (rec (entry (codes "x") (num (pos 100)) empty_record))
stored = refl

not_stored : transformed (Some small) 1 (setting times_hundred ∷ []) (value (pos 2) (pos 0)) made
    ≡ refused (Unfit (Field (codes "x") ∷ []))
not_stored = refl

no_number : transformed (Some small) 1 (setting (joined 1 Divide (number (pos 1)) (name 2 (codes "y"))) ∷ []) (value (pos 1) (pos 0)) made
    ≡ refused (ZeroDivide (Some 0) 1)
no_number = refl

-- each expression sees the record as it was, and the later of two settings of a field wins
later_wins : transformed (Some small) 1 (setting times_hundred ∷ setting x ∷ []) (value (pos 1) (pos 0)) made
    ≡ sent All 1 (rec (entry (codes "x") (num (pos 1)) empty_record))
later_wins = refl
