-- What a look into a list by a number answers.
use Rattle.std.proofs.Common.{◌≡◌, Bor, ℕ, List, length, Option, Some, None, refl, sym}
use Rattle.std.specs.Option.{option_copied}
use Rattle.std.specs.Prelude.{slice_get}
use Rattle.std.specs.Slice.{IsItemAt}
use Rattle.std.proofs.lemmas.Option.{slice_get_read, slice_get_past}

pub looked_up : {X : Type 0} (xs : List X) (i : ℕ) (r : Option (Bor X)) → IsItemAt xs i r → option_copied r ≡ slice_get xs i
looked_up xs i None found = sym (slice_get_past xs i found.3)
looked_up xs i (Some x) found = sym (slice_get_read xs (length xs) i x.now refl found.3.0 found.1)
