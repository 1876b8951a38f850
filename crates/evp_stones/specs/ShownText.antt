-- The text of a record file that is ready to be shown.
use Rattle.std.specs.Prelude.{ℕ, List}
use Rattle.evp_stones.specs.declared.show.shown.Shown.{Shown}
use Rattle.evp_stones.specs.Show.{shown}

abbrev pub shown_text : Shown → List ℕ
shown_text file = shown file.formats.items file.items
