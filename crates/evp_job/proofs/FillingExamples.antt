-- Filling computed: numbers of formats, records, and of two refusals the first.
use Rattle.std.proofs.Common.{◌≡◌, ℕ, List, [], ◌∷◌, refl, codes, Ok, Err}
use Rattle.evp_base.specs.declared.order.Order.TheVariants.{Little}
use Rattle.evp_action.specs.declared.action.Action.TheVariants.{Split}
use Rattle.evp_file.specs.declared.file.FileFormat.TheVariants.{Own, Known}
use Rattle.evp_file.specs.declared.file.RecordFile.{RecordFile}
use Rattle.evp_file.specs.File.{file_with, item_of}
use Rattle.evp_format.specs.Layout.{Layout}
use Rattle.evp_graph.specs.declared.route.Route.{Route}
use Rattle.evp_record.specs.Owned.{owned_of}
use Rattle.evp_record.specs.OwnedBytes.{OwnedBytes}
use Rattle.evp_stone.specs.declared.source.Source.{Source}
use Rattle.evp_stone.specs.declared.stone.Stone.{Stone}
use Rattle.evp_stone.specs.JobShape.{JobShape}
use Rattle.evp_job.specs.declared.fault.JobFault.TheVariants as fault
use Rattle.evp_job.specs.Filling.{numbers_from, filled}

-- layouts that differ by their pointer's size alone
abbrev layout : ℕ → Layout
layout pointer = record { order = Little; pointer = pointer; types = [] }

abbrev source_of : List ℕ → List OwnedBytes → Source
source_of name items = record { name = name; stone = 0; items = items }

abbrev route_of : ℕ → Route
route_of source = record { source = source; positions = []; stones = 0 ∷ [] }

abbrev splits : Stone
splits = record { action = Split; targets = [] }

-- two sources at one stone, two declared formats, and one round
abbrev job_of : ℕ → List Layout → ℕ → ℕ → List OwnedBytes → List OwnedBytes → JobShape
job_of limit formats of_a of_b items_a items_b = record {
  formats = formats;
  declared = 2;
  limit = limit;
  queue = 64;
  sources = source_of (codes "a") items_a ∷ source_of (codes "b") items_b ∷ [];
  stones = splits ∷ [];
  rounds = record { submit = of_a ∷ of_b ∷ []; frozen = [] } ∷ [];
  routes = route_of 0 ∷ route_of 1 ∷ [];
}

abbrev declared : List Layout
declared = layout 0 ∷ layout 1 ∷ []

-- a file of two formats of its own around a declared one, and one of one format of its own
abbrev file_a : RecordFile
file_a = file_with (Own (layout 10) ∷ Known 1 ∷ Own (layout 11) ∷ [])
    (item_of 2 (7 ∷ []) ∷ item_of 1 (8 ∷ []) ∷ item_of 0 (9 ∷ []) ∷ [])

abbrev file_b : RecordFile
file_b = file_with (Own (layout 10) ∷ []) (item_of 0 (6 ∷ []) ∷ [])

its_numbers : numbers_from 2 (Own (layout 10) ∷ Known 1 ∷ Own (layout 11) ∷ []) ≡ 2 ∷ 1 ∷ 3 ∷ []
its_numbers = refl

a_job : filled (job_of 100 declared 3 1 [] []) (file_a ∷ file_b ∷ [])
    ≡ Ok (job_of 100 (layout 0 ∷ layout 1 ∷ layout 10 ∷ layout 11 ∷ layout 10 ∷ []) 3 1
    (owned_of 3 (7 ∷ []) ∷ owned_of 1 (8 ∷ []) ∷ owned_of 2 (9 ∷ []) ∷ []) (owned_of 4 (6 ∷ []) ∷ []))
unfolding filled
a_job = refl

-- the second source's, before what is carried
submits_more : filled (job_of 2147483392 declared 3 2 [] []) (file_a ∷ file_b ∷ []) ≡ Err (fault.Submit 1 2 1)
unfolding filled
submits_more = refl

carries_more : filled (job_of 1073741569 declared 1 1 [] []) (file_a ∷ file_b ∷ []) ≡ Err (fault.Carriage 2 1073741569)
unfolding filled
carries_more = refl

carries_enough : filled (job_of 1073741568 declared 1 1 [] []) (file_a ∷ file_b ∷ [])
    ≡ Ok (job_of 1073741568 (layout 0 ∷ layout 1 ∷ layout 10 ∷ layout 11 ∷ layout 10 ∷ []) 1 1
    (owned_of 3 (7 ∷ []) ∷ owned_of 1 (8 ∷ []) ∷ owned_of 2 (9 ∷ []) ∷ []) (owned_of 4 (6 ∷ []) ∷ []))
unfolding filled
carries_enough = refl
