-- Fields whose counts are named one after the other, as a loop does.
use Rattle.std.proofs.Common.{◌≡◌, ℕ, ◌+◌, ◌<◌, ◌≤◌, List, [], ◌∷◌, ◌++◌, length, get_or, drop, Some, None, Result, Ok, Err, refl, sym, ap}
use Rattle.std.proofs.Common.{◌∙◌, append_assoc}
use Rattle.std.proofs.lemmas.List.{append-nil, at_drop_all}
use Rattle.evp_format.specs.declared.draft.DraftField.{DraftField}
use Rattle.evp_format.specs.declared.field.Field.{Field}
use Rattle.evp_format.specs.declared.field.Shape.{Shape}
use Rattle.evp_format.specs.declared.layout_fault.LayoutFault.{LayoutFault}
use Rattle.evp_format.specs.declared.layout_fault.LayoutFault.TheVariants.{CountField}
use Rattle.evp_format.specs.Drafts.{shape_in, field_with, counted_fields}
use Rattle.evp_format.specs.Steps.{◌>>=◌}
use Rattle.evp_format.proofs.Loops.{next_left}

-- what was read before, and what is still read
abbrev pub behind : List Field → Result (List Field) LayoutFault → Result (List Field) LayoutFault
behind front read = read >>= λ rest. Ok (front ++ rest)

regroup : (front : List Field) (field : Field) (read : Result (List Field) LayoutFault) → behind front (read >>= λ rest. Ok (field ∷ rest))
    ≡ behind (front ++ field ∷ []) read
regroup front field (Ok rest) = ap (λ (fields : List Field). Ok fields) (sym (append_assoc front (field ∷ []) rest))
regroup front field (Err fault) = refl

pub field_goes_on : (type : ℕ) (all : List DraftField) (k : ℕ) (draft : DraftField) (shape : Shape) (front : List Field)
    (total : Result (List Field) LayoutFault)
    → k < length all → draft ≡ get_or all k draft → Some shape ≡ shape_in all draft.shape
    → behind front (counted_fields type k all (drop k all)) ≡ total → behind (front ++ field_with draft shape ∷ [])
    (counted_fields type (k + 1) all (drop (k + 1) all)) ≡ total
unfolding counted_fields
field_goes_on type all k draft shape front total below is shaped so_far =
    let step : counted_fields type k all (draft ∷ drop (k + 1) all)
    ≡ (counted_fields type (k + 1) all (drop (k + 1) all) >>= λ rest. Ok (field_with draft shape ∷ rest)) = rw (← shaped) refl in
    sym (regroup front (field_with draft shape) (counted_fields type (k + 1) all (drop (k + 1) all))) ∙ ap (behind front) (sym step)
    ∙ ap (behind front) (sym (next_left (counted_fields type k all) all k draft below is)) ∙ so_far

pub field_stops : (type : ℕ) (all : List DraftField) (k : ℕ) (draft : DraftField) (front : List Field)
    (total : Result (List Field) LayoutFault)
    → k < length all → draft ≡ get_or all k draft → None ≡ shape_in all draft.shape
    → behind front (counted_fields type k all (drop k all)) ≡ total → total ≡ Err (CountField type k)
unfolding counted_fields
field_stops type all k draft front total below is shaped so_far =
    let step : counted_fields type k all (draft ∷ drop (k + 1) all) ≡ Err (CountField type k) = rw (← shaped) refl in
    sym so_far ∙ ap (behind front) (next_left (counted_fields type k all) all k draft below is) ∙ ap (behind front) step

pub fields_end : (type : ℕ) (all : List DraftField) (k : ℕ) (front : List Field) (total : Result (List Field) LayoutFault)
    → length all ≤ k → behind front (counted_fields type k all (drop k all)) ≡ total → total ≡ Ok front
unfolding counted_fields
fields_end type all k front total past so_far =
    sym so_far ∙ ap (behind front) (at_drop_all (counted_fields type k all) all k past)
    ∙ ap (λ (fields : List Field). Ok fields) (append-nil front)
