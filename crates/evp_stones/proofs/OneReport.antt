-- A document has one report, however the job that it states is kept.
use Rattle.std.proofs.Common.{◌≡◌, ℕ, List, [], length, map, Result, Ok, Err}
use Rattle.std.proofs.Common.{refl, sym, ap, ◌∙◌}
use Rattle.std.proofs.lemmas.Simd.{map-map}
use Rattle.evp_depot.specs.Files.{Files}
use Rattle.evp_file.specs.declared.file.RecordFile.{RecordFile}
use Rattle.evp_job.specs.declared.job_text.JobText.{JobText}
use Rattle.evp_job.specs.Filling.{bare_job, filled}
use Rattle.evp_job.specs.Sources.{SourceShape}
use Rattle.evp_job.specs.SourceView.{source_of}
use Rattle.evp_job.specs.Stated.{layouts_of}
use Rattle.evp_job.specs.TextShape.{TextShape}
use Rattle.evp_job.specs.TextView.{stones_of, text_of}
use Rattle.evp_report.specs.Report.{report}
use Rattle.evp_stone.specs.declared.source.Source.{Source}
use Rattle.evp_stone.specs.declared.stone.Stone.{Stone}
use Rattle.evp_stone.specs.JobShape.{JobShape}
use Rattle.evp_stones.specs.declared.refusal.Refusal.{Refusal}
use Rattle.evp_stones.specs.Laws.{HaveOneReport}
use Rattle.evp_stones.specs.RecordFiles.{files_named}
use Rattle.evp_stones.specs.Run.{turns_named, walked}
use Rattle.evp_stones.specs.Steps.{◌>>=◌, seen_by}
use Rattle.evp_stones.specs.WholeJob.{file_names, fits, with_files}
use Rattle.evp_stones.proofs.SameReport.{filled_told, told, with_stones}

-- ---- the job of a document, by what it is seen as

bare_shape : SourceShape → Source
bare_shape source = record { name = source.name; stone = source.stone; items = [] }

-- a document's job without files, its stones apart
bare_of : TextShape → JobShape
bare_of text = record {
  formats = layouts_of text.formats;
  declared = length text.formats;
  limit = text.limit;
  queue = text.queue;
  sources = map bare_shape text.sources;
  stones = [];
  rounds = text.rounds;
  routes = text.routes;
}

bare_is : (text : JobText) → bare_job text ≡ with_stones (bare_of (text_of text)) text.stones.items
unfolding bare_of bare_shape
bare_is text = ap (λ (sources : List Source). record (bare_job text) { sources = sources })
    (sym (map-map bare_shape source_of text.sources.items))

names_are : (text : JobText) → file_names text ≡ map (λ (source : SourceShape). source.file) (text_of text).sources
names_are text = sym (map-map (λ (source : SourceShape). source.file) source_of text.sources.items)

-- with its files, its stones apart
filled_as : TextShape → List Stone → Files → Result JobShape Refusal
filled_as text stones files =
    files_named text.formats text.limit files (map (λ (source : SourceShape). source.file) text.sources)
    >>= λ records. fits (filled (with_stones (bare_of text) stones) records)

with_files_is : (text : JobText) (files : Files) → with_files text files ≡ filled_as (text_of text) text.stones.items files
unfolding filled_as
with_files_is text files = rw (names_are text, bare_is text) refl

-- ---- what is answered by it

seen_after : (read : Result (List RecordFile) Refusal) (f g : List RecordFile → Result JobShape Refusal)
    → ((records : List RecordFile) → seen_by told (f records) ≡ seen_by told (g records))
    → seen_by told (read >>= f) ≡ seen_by told (read >>= g)
seen_after (Ok records) f g same = same records
seen_after (Err refusal) f g same = refl

filled_alike : (text : TextShape) (xs ys : List Stone) (files : Files) → stones_of xs ≡ stones_of ys
    → seen_by told (filled_as text xs files) ≡ seen_by told (filled_as text ys files)
unfolding filled_as
filled_alike text xs ys files same =
    seen_after (files_named text.formats text.limit files (map (λ (source : SourceShape). source.file) text.sources))
    (λ records. fits (filled (with_stones (bare_of text) xs) records)) (λ records. fits (filled (with_stones (bare_of text) ys) records))
    (λ records. filled_told (bare_of text) xs ys records same)

-- by what the document is seen as, and the stones that are kept of it
told_is : (text : JobText) (seen : TextShape) (files : Files) → text_of text ≡ seen
    → seen_by told (with_files text files) ≡ seen_by told (filled_as seen text.stones.items files)
told_is text seen files is =
    ap (seen_by told) (with_files_is text files)
    ∙ ap (λ (shape : TextShape). seen_by told (filled_as shape text.stones.items files)) is

same_told : (a b : JobText) (files : Files) → text_of a ≡ text_of b
    → seen_by told (with_files a files) ≡ seen_by told (with_files b files)
same_told a b files same =
    told_is a (text_of b) files same
    ∙ filled_alike (text_of b) a.stones.items b.stones.items files (ap (λ (shape : TextShape). shape.stones) same)
    ∙ sym (told_is b (text_of b) files refl)

-- ---- a run and a walk see no more

run_sees : (job : Result JobShape Refusal) → seen_by report job ≡ seen_by (λ (t : List ℕ × ℕ). t.0) (seen_by told job)
unfolding told
run_sees (Ok job) = refl
run_sees (Err refusal) = refl

walk_with : List ℕ → Files → List ℕ × ℕ → Result (List ℕ) Refusal
walk_with order files t = turns_named t.1 order files >>= λ turns. Ok t.0

walk_sees : (order : List ℕ) (files : Files) (job : Result JobShape Refusal)
    → (job >>= walked order files) ≡ (seen_by told job >>= walk_with order files)
unfolding told walk_with
walk_sees order files (Ok job) = refl
walk_sees order files (Err refusal) = refl

pub one_report : (a b : JobText) (files : Files) → text_of a ≡ text_of b → HaveOneReport a b files
one_report a b files same = record {
  run = run_sees (with_files a files) ∙ ap (seen_by (λ (t : List ℕ × ℕ). t.0)) (same_told a b files same)
      ∙ sym (run_sees (with_files b files));
  walk = λ order. walk_sees order files (with_files a files)
      ∙ ap (λ (t : Result (List ℕ × ℕ) Refusal). t >>= walk_with order files) (same_told a b files same)
      ∙ sym (walk_sees order files (with_files b files));
}
