-- What was found for the formats of a file and a receiver's.
use Rattle.std.specs.Prelude.{List, [], ◌∷◌, Option, Some, None, ⊤}
use Rattle.evp_cache.specs.declared.found.Found.{Found}
use Rattle.evp_cache.specs.Finding.{IsFound}
use Rattle.evp_file.specs.declared.file.FileFormat.{FileFormat}
use Rattle.evp_file.specs.declared.file.KnownFormat.{KnownFormat}
use Rattle.evp_file.specs.File.{format_layout}
use Rattle.evp_format.specs.Layout.{Layout}

-- a plan or the clash, for a format that is there
abbrev pub IsFoundAs : Option Layout → Layout → Option Found → Type 0
IsFoundAs None to found = ⊤
IsFoundAs (Some from) to None = ⊥
IsFoundAs (Some from) to (Some found) = IsFound from to found

-- one for each format, in their order
abbrev pub AreFound : List KnownFormat → Layout → List FileFormat → List (Option Found) → Type 0
AreFound known to [] [] = ⊤
AreFound known to [] (found ∷ founds) = ⊥
AreFound known to (format ∷ formats) [] = ⊥
AreFound known to (format ∷ formats) (found ∷ founds) =
    IsFoundAs (format_layout known format) to found × AreFound known to formats founds
