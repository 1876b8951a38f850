-- The four sources of the large job, each filled with its file.
use Rattle.std.proofs.Common.{◌≡◌, ℕ, ◌+◌, List, [], ◌∷◌, length, map, Some, refl, sym, ap, ◌∙◌, arith}
use Rattle.std.proofs.lemmas.List.{length-map}
use Rattle.std.proofs.lemmas.List.Elements.{All-nil, All-cons}
use Rattle.std.specs.List.{flat_map}
use Rattle.std.specs.Prelude.{slice_get}
use Rattle.evp_file.specs.declared.file.FileFormat.TheVariants.{Own}
use Rattle.evp_file.specs.declared.file.KnownFormat.{KnownFormat}
use Rattle.evp_file.specs.declared.file.RecordFile.{RecordFile}
use Rattle.evp_file.specs.Whole.{IsWhole}
use Rattle.evp_format.specs.Layout.{Layout}
use Rattle.evp_gen.specs.Senders.{sent_bytes}
use Rattle.evp_job.specs.declared.job_text.JobText.{JobText}
use Rattle.evp_job.specs.Filling.{bare_source, own_layout, own_layouts, source_with_file, sources_with_files}
use Rattle.evp_job.specs.Stated.{layouts_of}
use Rattle.evp_profile.specs.declared.profile.Profile.TheVariants.{Le64, Le32, Be64, Be32}
use Rattle.evp_stone.specs.declared.source.Source.{Source}
use Rattle.evp_stones.specs.declared.bench.made_job.MadeSources.{MadeSources}
use Rattle.evp_stones.specs.declared.bench.made_source.MadeSource.{MadeSource}
use Rattle.evp_stones.specs.MadeFiles.{AreMade, IsFilledFrom}

-- ---- four things

some_same : {X : Type 0} (x y : X) → Some x ≡ Some y → x ≡ y
some_same x y same = cc

four_there : {X : Type 0} (xs : List X) (s t u v : X) → length xs ≡ 4 → slice_get xs 0 ≡ Some s → slice_get xs 1 ≡ Some t
    → slice_get xs 2 ≡ Some u → slice_get xs 3 ≡ Some v → xs ≡ s ∷ t ∷ u ∷ v ∷ []
four_there [] s t u v long first second third fourth = absurd (omega (arith, long))
four_there (a ∷ []) s t u v long first second third fourth = absurd (omega (arith, long))
four_there (a ∷ b ∷ []) s t u v long first second third fourth = absurd (omega (arith, long))
four_there (a ∷ b ∷ c ∷ []) s t u v long first second third fourth = absurd (omega (arith, long))
four_there (a ∷ b ∷ c ∷ d ∷ []) s t u v long first second third fourth =
    rw (some_same a s first, some_same b t second, some_same c u third, some_same d v fourth) refl
four_there (a ∷ b ∷ c ∷ d ∷ e ∷ xs) s t u v long first second third fourth = absurd (omega (arith, long))

-- each makes one
four_made : {A B : Type 0} (f : A → List B) (a b c d : A) (w x y z : B) → f a ≡ w ∷ [] → f b ≡ x ∷ [] → f c ≡ y ∷ [] → f d ≡ z ∷ []
    → flat_map f (a ∷ b ∷ c ∷ d ∷ []) ≡ w ∷ x ∷ y ∷ z ∷ []
four_made f a b c d w x y z first second third fourth = rw (first, second, third, fourth) refl

-- ---- the sources

own_is : (file : RecordFile) (layout : Layout) → file.formats ≡ Own layout ∷ [] → own_layouts file ≡ layout ∷ []
own_is file layout own = ap (flat_map own_layout) own

four_filled : (next : ℕ) (s t u v : Source) (a b c d : RecordFile) → length (own_layouts a) ≡ 1 → length (own_layouts b) ≡ 1
    → length (own_layouts c) ≡ 1
    → source_with_file (next + 0) s a ∷ source_with_file (next + 1) t b ∷ source_with_file (next + 2) u c ∷ source_with_file (next + 3) v d ∷ []
    ≡ sources_with_files next (s ∷ t ∷ u ∷ v ∷ []) (a ∷ b ∷ c ∷ d ∷ [])
four_filled next s t u v a b c d of_a of_b of_c =
    let zeroth : next + 0 ≡ next = omega arith in
    let first : next + 1 ≡ next + length (own_layouts a) = omega (arith, of_a) in
    let second : next + 2 ≡ next + length (own_layouts a) + length (own_layouts b) = omega (arith, of_a, of_b) in
    let third : next + 3 ≡ next + length (own_layouts a) + length (own_layouts b) + length (own_layouts c) = omega (arith, of_a, of_b, of_c) in
    let one = next + length (own_layouts a) in
    let two = next + length (own_layouts a) + length (own_layouts b) in
    ap (λ n. source_with_file n s a ∷ source_with_file (next + 1) t b ∷ source_with_file (next + 2) u c ∷ source_with_file (next + 3) v d ∷ []) zeroth
    ∙ ap (λ n. source_with_file next s a ∷ source_with_file n t b ∷ source_with_file (next + 2) u c ∷ source_with_file (next + 3) v d ∷ []) first
    ∙ ap (λ n. source_with_file next s a ∷ source_with_file one t b ∷ source_with_file n u c ∷ source_with_file (next + 3) v d ∷ []) second
    ∙ ap (λ n. source_with_file next s a ∷ source_with_file one t b ∷ source_with_file two u c ∷ source_with_file n v d ∷ []) third

four_sources : (w x y z s t u v : Source) → w ≡ s → x ≡ t → y ≡ u → z ≡ v → w ∷ x ∷ y ∷ z ∷ [] ≡ s ∷ t ∷ u ∷ v ∷ []
four_sources w x y z s t u v first second third fourth = rw (first, second, third, fourth) refl

pub all_made : (text : JobText) (n : ℕ) (a b c d : MadeSource) (all : MadeSources) → length text.sources.items ≡ 4
    → IsFilledFrom text 0 (sent_bytes Le64 0 n) a → IsFilledFrom text 1 (sent_bytes Le32 1 n) b
    → IsFilledFrom text 2 (sent_bytes Be64 2 n) c → IsFilledFrom text 3 (sent_bytes Be32 3 n) d
    → all.formats.items ≡ a.format ∷ b.format ∷ c.format ∷ d.format ∷ []
    → all.sources.items ≡ a.source ∷ b.source ∷ c.source ∷ d.source ∷ [] → AreMade text n all
all_made text n a b c d all long of_a of_b of_c of_d formats sources =
    let known = text.formats.items in
    let next : length (layouts_of known) ≡ length known = length-map known (λ (one : KnownFormat). one.format) in
    let named = four_there text.sources.items of_a.named of_b.named of_c.named of_d.named long of_a.there of_b.there of_c.there of_d.there in
    let own_a = own_is of_a.file a.format of_a.by_it.own in
    let own_b = own_is of_b.file b.format of_b.by_it.own in
    let own_c = own_is of_c.file c.format of_c.by_it.own in
    let own_d = own_is of_d.file d.format of_d.by_it.own in
    let files = of_a.file ∷ of_b.file ∷ of_c.file ∷ of_d.file ∷ [] in
    record {
      files = files;
      read = (of_a.read, (of_b.read, (of_c.read, (of_d.read, tt))));
      whole = All-cons (IsWhole known) _ (of_b.file ∷ of_c.file ∷ of_d.file ∷ []) of_a.whole
          (All-cons (IsWhole known) _ (of_c.file ∷ of_d.file ∷ []) of_b.whole
          (All-cons (IsWhole known) _ (of_d.file ∷ []) of_c.whole
          (All-cons (IsWhole known) _ [] of_d.whole (All-nil (IsWhole known)))));
      formats = formats ∙ sym (four_made own_layouts of_a.file of_b.file of_c.file of_d.file a.format b.format c.format d.format own_a own_b own_c own_d);
      sources = sources
          ∙ four_sources a.source b.source c.source d.source _ _ _ _ of_a.by_it.filled of_b.by_it.filled of_c.by_it.filled of_d.by_it.filled
          ∙ four_filled (length known) (bare_source of_a.named) (bare_source of_b.named) (bare_source of_c.named) (bare_source of_d.named)
          of_a.file of_b.file of_c.file of_d.file (ap length own_a) (ap length own_b) (ap length own_c)
          ∙ ap (λ named. sources_with_files (length known) (map bare_source named) files) (sym named)
          ∙ ap (λ next. sources_with_files next (map bare_source text.sources.items) files) (sym next);
    }
