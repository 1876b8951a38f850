-- Notes are the same where they are of one cell and know the same.
use Rattle.std.proofs.Common.{◌≡◌, ℕ, ap, ◌∙◌, Option, Some, None, IsSome}
use Rattle.std.proofs.lemmas.Bool.{false≢true}
use Rattle.once_cell.specs.Once.{Agrees}
use Rattle.once_cell.specs.declared.race.note.Note.{Note}

pub same_note : {X : Type 0} (a b : Note X) → a.cell ≡ b.cell → a.known ≡ b.known → a ≡ b
same_note {X} a b cell known = ap (λ (c : ℕ). let n : Note X = record { marker = a.marker; cell = c; known = a.known } in n) cell
    ∙ ap (λ (k : Option X). let n : Note X = record { marker = a.marker; cell = b.cell; known = k } in n) known

-- what a note knew is what was seen
pub seen : {X : Type 0} (k : Option X) (x : X) → IsSome k → Agrees k x → k ≡ Some x
seen None x known agrees = absurd (false≢true known)
seen (Some y) x known agrees = ap Some agrees
