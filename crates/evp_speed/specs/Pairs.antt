-- Records of one format.
use Rattle.std.specs.Prelude.{◌≡◌, List, All}
use Rattle.evp_format.specs.Layout.{Layout}
use Rattle.evp_record.specs.Record.{Record}

-- each of them is of the format
abbrev pub AreOf : Layout → List Record → Type 0
AreOf layout items = All (λ (item : Record). item.layout ≡ layout) items
