-- The text of a record's fault: what is wrong, and the path of the part that is at fault.
use Rattle.std.specs.Prelude.{ℕ, List, ◌++◌, codes}
use Rattle.evp_base.specs.declared.step.Step.{Step}
use Rattle.evp_base.specs.Path.{path_text}
use Rattle.evp_format.specs.declared.broken.Broken.{Broken}
use Rattle.evp_format.specs.declared.broken.Broken.TheVariants.{ShortRecord, NegativeCount}
use Rattle.evp_format.specs.declared.broken.Broken.TheVariants.{NullList, BlockPlace, NoEnd}
use Rattle.evp_format.specs.Layout.{Layout}
use Rattle.evp_format.specs.Path.{path_of}
use Rattle.evp_format.specs.Sameness.{fault_place}

-- the path of the part that is at fault, in the record's own format
abbrev pub fault_path : Layout → Broken → List Step
fault_path layout fault = path_of layout (fault_place fault)

-- `short record`, `negative count PATH`, `null list PATH`, `block place PATH` or `no end PATH`
abbrev pub broken_text : Broken → List Step → List ℕ
broken_text ShortRecord path = codes "short record"
broken_text (NegativeCount place) path = codes "negative count " ++ path_text path
broken_text (NullList place) path = codes "null list " ++ path_text path
broken_text (BlockPlace place) path = codes "block place " ++ path_text path
broken_text (NoEnd place) path = codes "no end " ++ path_text path
