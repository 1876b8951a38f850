-- A job that is filled keeps what holds of every job.
use Rattle.std.proofs.Common.{◌≡◌, ℕ, zero, suc, ◌+◌, ◌*◌, ◌^◌, ◌≤◌, Bool, true, false, nat_le, List, [], ◌∷◌, ◌++◌, length, map, All}
use Rattle.std.proofs.Common.{Some, Result, Ok, Err, refl, sym, ap, subst, ◌∙◌, arith, add-zero, zero-add, length-append}
use Rattle.std.specs.Prelude.{slice_get, codes}
use Rattle.std.specs.List.{flat_map, sum}
use Rattle.std.proofs.lemmas.Bool.{leb-true}
use Rattle.std.proofs.lemmas.List.{length-map}
use Rattle.std.proofs.lemmas.List.Elements.{All-nil, All-cons, All-head, All-tail, All-weaker}
use Rattle.evp_base.specs.declared.step.Step.TheVariants.{Field}
use Rattle.evp_action.specs.Agreement.{Agrees, IsDeclared, IsSetting}
use Rattle.evp_action.specs.declared.action.Action.{Action}
use Rattle.evp_action.specs.declared.action.Action.TheVariants.{Filter, Router, Transform, Split, Terminal}
use Rattle.evp_action.specs.declared.action.Setting.{Setting}
use Rattle.evp_file.specs.declared.file.RecordFile.{RecordFile}
use Rattle.evp_file.specs.Whole.{IsWhole}
use Rattle.evp_file.specs.declared.file.KnownFormat.{KnownFormat}
use Rattle.evp_format.specs.Layout.{Layout}
use Rattle.evp_format.proofs.Pushed.{slice_get-front}
use Rattle.evp_graph.specs.Shape.{Shape, shape, IsSound}
use Rattle.evp_graph.specs.Routes.{ListsRoutes, routes_of}
use Rattle.evp_stone.specs.declared.round.Round.{Round}
use Rattle.evp_stone.specs.declared.source.Source.{Source}
use Rattle.evp_stone.specs.declared.stone.Stone.{Stone}
use Rattle.evp_stone.specs.Job.{submits, carried, IsRound, IsJob}
use Rattle.evp_job.specs.declared.fault.JobFault.{JobFault}
use Rattle.evp_job.specs.declared.fault.JobFault.TheVariants as fault
use Rattle.evp_job.specs.declared.job_text.JobText.{JobText}
use Rattle.evp_job.specs.declared.sources.SourceText.{SourceText}
use Rattle.evp_job.specs.Filling.{bare_source, bare_job, AreFilesOf, own_layouts, sources_with_files, job_with_files}
use Rattle.evp_job.specs.Filling.{numbers_from, owned_with, source_with_file, few_formats, enough_from, light_enough, agree}
use Rattle.evp_job.specs.Stated.{layouts_of, graph_of, IsStated, IsRoundOf}
use Rattle.evp_job.specs.Steps.{◌>>=◌, only_if}
use Rattle.evp_job.proofs.FormatPlaces.{stands_behind, sources_there}

-- ---- tests that passed

pub tested : (test : Bool) (cause : JobFault) (rest : Result (Unit {0}) JobFault)
    → (only_if test cause >>= λ _. rest) ≡ Ok tt → (test ≡ true) × (rest ≡ Ok tt)
tested true cause rest passed = (refl, passed)
tested false cause rest passed = absurd (cc)

-- each of two steps
pub both : (first rest : Result (Unit {0}) JobFault) → (first >>= λ _. rest) ≡ Ok tt → (first ≡ Ok tt) × (rest ≡ Ok tt)
both (Ok x) rest passed = (refl, passed)
both (Err cause) rest passed = absurd (cc)

-- a last test
pub alone : (test : Bool) (cause : JobFault) → only_if test cause ≡ Ok tt → test ≡ true
alone true cause passed = refl
alone false cause passed = absurd (cc)

-- ---- the sources

pub stones_kept : (next : ℕ) (sources : List SourceText) (files : List RecordFile) → length files ≡ length sources
    → map (λ (source : Source). source.stone) (sources_with_files next (map bare_source sources) files)
    ≡ map (λ (source : SourceText). source.stone) sources
stones_kept next [] files each = refl
stones_kept next (source ∷ sources) [] each = absurd (omega arith)
stones_kept next (source ∷ sources) (file ∷ files) each =
    let others : length files ≡ length sources = omega (arith, each) in
    ap (λ (rest : List ℕ). source.stone ∷ rest) (stones_kept (next + length (own_layouts file)) sources files others)

pub length-filled : (next : ℕ) (sources : List Source) (files : List RecordFile) → length files ≡ length sources
    → length (sources_with_files next sources files) ≡ length sources
length-filled next [] files each = refl
length-filled next (source ∷ sources) [] each = absurd (omega arith)
length-filled next (source ∷ sources) (file ∷ files) each =
    let others : length files ≡ length sources = omega (arith, each) in
    ap suc (length-filled (next + length (own_layouts file)) sources files others)

pub few_records : (known : List KnownFormat) (next : ℕ) (sources : List Source) (files : List RecordFile) → All (IsWhole known) files
    → All (λ (source : Source). length source.items ≤ 131072) (sources_with_files next sources files)
few_records known next [] files is = All-nil (λ (source : Source). length source.items ≤ 131072)
few_records known next (source ∷ sources) [] is = All-nil (λ (source : Source). length source.items ≤ 131072)
few_records known next (source ∷ sources) (file ∷ files) is =
    let few = (All-head (IsWhole known) file files is).few_items in
    All-cons (λ (source : Source). length source.items ≤ 131072) _ _
    (subst (λ (n : ℕ). n ≤ 131072) (sym (length-map file.items _)) few)
    (few_records known (next + length (own_layouts file)) sources files (All-tail (IsWhole known) file files is))

pub enough_each : (rounds : List Round) (first next : ℕ) (sources : List Source) (files : List RecordFile)
    → enough_from rounds first files ≡ Ok tt
    → (k : ℕ) (source : Source) → slice_get (sources_with_files next sources files) k ≡ Some source
    → sum (submits (first + k) rounds) ≤ length source.items
enough_each rounds first next [] files enough k source found = absurd (cc)
enough_each rounds first next (one ∷ sources) [] enough k source found = absurd (cc)
enough_each rounds first next (one ∷ sources) (file ∷ files) enough zero source found =
    let asked = sum (submits first rounds) in
    let filled = source_with_file next one file in
    let passed = tested (nat_le asked (length file.items)) (fault.Submit first asked (length file.items))
    (enough_from rounds (first + 1) files) enough in
    let within = leb-true asked (length file.items) passed.0 in
    let is : filled ≡ source = cc in
    let kept : asked ≤ length filled.items = subst (λ (n : ℕ). asked ≤ n)
    (sym (length-map file.items (owned_with (numbers_from next file.formats)))) within in
    subst (λ (n : ℕ). sum (submits n rounds) ≤ length source.items) (sym (add-zero first))
    (subst (λ (s : Source). asked ≤ length s.items) is kept)
enough_each rounds first next (one ∷ sources) (file ∷ files) enough (suc k) source found =
    let asked = sum (submits first rounds) in
    let passed = tested (nat_le asked (length file.items)) (fault.Submit first asked (length file.items))
    (enough_from rounds (first + 1) files) enough in
    let same : first + 1 + k ≡ first + suc k = omega arith in
    subst (λ (n : ℕ). sum (submits n rounds) ≤ length source.items) same
    (enough_each rounds (first + 1) (next + length (own_layouts file)) sources files passed.1 k source found)

-- ---- the actions

pub declared_more : (formats more : List Layout) (declared format : ℕ) (layout : Layout) → IsDeclared formats declared format layout
    → IsDeclared (formats ++ more) declared format layout
declared_more formats more declared format layout is = record {
  below = is.below;
  there = slice_get-front formats more format layout is.there;
}

pub setting_more : (formats more : List Layout) (declared format into : ℕ) (setting : Setting)
    → IsSetting formats declared format into setting → IsSetting (formats ++ more) declared format into setting
setting_more formats more declared format into setting is = record {
  bound = declared_more formats more declared format setting.value.layout is.bound;
  layout = is.layout;
  into_it = declared_more formats more declared into is.layout is.into_it;
  settable = is.settable;
}

pub agrees_more : (formats more : List Layout) (declared : ℕ) (action : Action) → Agrees formats declared action
    → Agrees (formats ++ more) declared action
agrees_more formats more declared (Filter format test) is = declared_more formats more declared format test.layout is
agrees_more formats more declared (Router format choose) is = declared_more formats more declared format choose.layout is
agrees_more formats more declared (Transform format into set) is = record {
  layout = is.layout;
  second = is.second;
  first_there = declared_more formats more declared format is.layout is.first_there;
  second_there = declared_more formats more declared into is.second is.second_there;
  each = All-weaker (IsSetting formats declared format into) (IsSetting (formats ++ more) declared format into)
      (λ setting agrees. setting_more formats more declared format into setting agrees) set.items is.each;
  few = is.few;
}
agrees_more formats more declared Split is = tt
agrees_more formats more declared (Terminal format) is = (is.0, declared_more formats more declared format is.0 is.1)

-- ---- the job

pub filled_is_job : (text : JobText) (files : List RecordFile) → IsStated text → AreFilesOf text files
    → agree (bare_job text) files ≡ Ok tt → IsJob (job_with_files (bare_job text) files)
filled_is_job text files stated read right =
    let known = text.formats.items in
    let layouts = layouts_of known in
    let more = flat_map own_layouts files in
    let sources = map bare_source text.sources.items in
    let next = length layouts in
    let job = job_with_files (bare_job text) files in
    let formats = length (layouts ++ more) in
    let records = carried (bare_job text) in
    let parts = both (few_formats formats) (enough_from text.rounds.items 0 files >>= λ _. light_enough records text.limit) right in
    let others = both (enough_from text.rounds.items 0 files) (light_enough records text.limit) parts.1 in
    let few = alone (nat_le formats 1024) (fault.Limit (Field (codes "formats") ∷ []) formats) parts.0 in
    let light = alone (nat_le (records * (text.limit + 256)) (2 ^ 31)) (fault.Carriage records text.limit) others.1 in
    let named : length layouts ≡ length known = length-map known (λ (one : KnownFormat). one.format) in
    let bare : length sources ≡ length text.sources.items = length-map text.sources.items bare_source in
    let each : length files ≡ length sources = read.each_source ∙ sym bare in
    let count : length (sources_with_files next sources files) ≡ length text.sources.items =
    length-filled next sources files each ∙ bare in
    let graph : graph_of text.sources.items text.stones.items
    ≡ shape (map (λ (source : Source). source.stone) (sources_with_files next sources files))
    (map (λ (stone : Stone). stone.targets) text.stones.items) =
    ap (λ (list : List ℕ). shape list (map (λ (stone : Stone). stone.targets) text.stones.items))
    (sym (stones_kept next text.sources.items files read.each_source)) in
    let bounded = stated.bounded in
    record {
      limits = record {
        formats = leb-true formats 1024 few;
        declared = bounded.formats;
        longest = bounded.longest;
        queue = bounded.queue;
        sources = (subst (λ (n : ℕ). 1 ≤ n) (sym count) bounded.sources.0, subst (λ (n : ℕ). n ≤ 64) (sym count) bounded.sources.1);
        stones = bounded.stones;
        rounds = bounded.rounds;
        targets = bounded.targets;
        routes = bounded.routes;
        records = few_records known next sources files read.whole;
        carriage = leb-true (records * (text.limit + 256)) (2 ^ 31) light;
      };
      declared = omega (arith, named, length-append layouts more);
      sound = subst IsSound graph stated.sound;
      routes = subst (λ (g : Shape). text.routes ≡ routes_of g) graph stated.routes;
      listed = subst (λ (g : Shape). ListsRoutes g text.routes) graph stated.listed;
      items = sources_there known sources files next (layouts ++ more)
          (λ k x found. slice_get-front layouts more k x found) (stands_behind layouts more) read.whole;
      rounds = All-weaker (IsRoundOf (length text.sources.items) (length text.stones.items)) (IsRound job)
          (λ round is. record { submit = is.submit ∙ sym count; frozen = is.frozen }) text.rounds.items stated.rounds;
      submitted = λ k source found. subst (λ (n : ℕ). sum (submits n text.rounds.items) ≤ length source.items) (zero-add k)
          (enough_each text.rounds.items 0 next sources files others.0 k source found);
      actions = All-weaker (λ (stone : Stone). Agrees layouts (length known) stone.action)
          (λ (stone : Stone). Agrees (layouts ++ more) (length known) stone.action)
          (λ stone agrees. agrees_more layouts more (length known) stone.action agrees) text.stones.items stated.actions;
    }
