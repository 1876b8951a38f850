use Rattle.std.proofs.Common.{◌≡◌, ℕ, ◌+◌, List, length, Result, Ok, Err, sym, ap, ◌∙◌, length-append, arith}
use Rattle.std.specs.List.{flat_map, sum, sum_by}
use Rattle.std.proofs.lemmas.List.{length-map}
use Rattle.evp_file.specs.declared.file.KnownFormat.{KnownFormat}
use Rattle.evp_file.specs.declared.file.RecordFile.{RecordFile}
use Rattle.evp_graph.specs.declared.route.Route.{Route}
use Rattle.evp_stone.specs.declared.round.Round.{Round}
use Rattle.evp_stone.specs.Job.{submits, carried}
use Rattle.evp_stone.specs.JobShape.{JobShape}
use Rattle.evp_job.specs.declared.fault.JobFault.{JobFault}
use Rattle.evp_job.specs.Filling.{all_layouts, own_layouts, bare_job, few_formats, enough_from, light_enough, agree}
use Rattle.evp_job.specs.Stated.{layouts_of}
use Rattle.evp_job.specs.Steps.{◌>>=◌, Gives}
use Rattle.evp_job.proofs.fill.agree.Goals as goal

-- the last test behind those that passed
last_test : (job : JobShape) (files : List RecordFile) → few_formats (length (all_layouts job.formats files)) ≡ Ok tt
    → enough_from job.rounds 0 files ≡ Ok tt → agree job files ≡ light_enough (carried job) job.limit
last_test job files few enough =
    ap (λ (r : Result (Unit {0}) JobFault). r >>= λ _. enough_from job.rounds 0 files
    >>= λ _. light_enough (carried job) job.limit) few
    ∙ ap (λ (r : Result (Unit {0}) JobFault). r >>= λ _. light_enough (carried job) job.limit) enough

gives_same : (said answer : Result (Unit {0}) JobFault) → said ≡ answer → Gives {X = Unit {0}} {Y = Unit {0}} (λ _. tt) answer said
gives_same said (Ok x) is = is
gives_same said (Err cause) is = λ _. is

number_is : (known : List KnownFormat) (files : List RecordFile)
    → length known + length (flat_map own_layouts files) ≡ length (all_layouts (layouts_of known) files)
number_is known files =
    let named = length-map known (λ (one : KnownFormat). one.format) in
    let parts = length-append (layouts_of known) (flat_map own_layouts files) in
    omega (arith, named, parts)

pub returns : goal.returns
returns c =
    let text = c.args.text.now in
    let files = c.args.files.now in
    let rounds = text.rounds.items in
    let number : c.len.result + length (flat_map own_layouts files) ≡ length (all_layouts (layouts_of text.formats.items) files) =
    omega (arith, c.len.ensures, text.formats.ok.0, number_is text.formats.items files) in
    let few = ap few_formats (sym number) ∙ c.in_ok-few_formats.ensures in
    let enough = sym (ap (λ (all : List Round). enough_from all 0 files) c.deref.ensures.value) ∙ sym c.in_ok-enough_records.ensures in
    let records = c.carried.ensures
    ∙ ap (λ (all : List Round). sum_by (λ (route : Route). sum (submits route.source all)) c.as_slice.result.now) c.deref-2.ensures.value
    ∙ ap (sum_by (λ (route : Route). sum (submits route.source rounds))) c.as_slice.ensures in
    gives_same (agree (bare_job text) files) c.light_enough.result
    (last_test (bare_job text) files few enough ∙ ap (λ (n : ℕ). light_enough n text.limit) (sym records) ∙ sym c.light_enough.ensures)
