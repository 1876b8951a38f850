-- What holds of the head of each document that has one.
use Rattle.std.proofs.Common.{◌≡◌, ℕ, ◌+◌, ◌≤◌, List, [], ◌∷◌, ◌++◌, length, Ok, Option, Some, None, codes}
use Rattle.std.proofs.Common.{refl, sym, ap, ◌∙◌, subst, arith}
use Rattle.std.specs.Prelude.{not, ◌&&◌, nat_le}
use Rattle.std.proofs.lemmas.List.{length-append}
use Rattle.evp_base.specs.declared.step.Step.TheVariants.{Field, Index}
use Rattle.serde_json.specs.Data.{Data}
use Rattle.serde_json.specs.Find.{get}
use Rattle.evp_job.specs.Formats.{Named, named_with, none_named, is_among, format_in, new_format, next_format, formats_in}
use Rattle.evp_job.specs.Forms.{object_in, whole_number, number_within, list_within}
use Rattle.evp_job.specs.Head.{HeadShape, head_with, number_or, head_in}
use Rattle.evp_job.specs.Sources.{SourceShape, names_of, source_in, next_source, sources_in}
use Rattle.evp_job.specs.Steps.{only_if, under}
use Rattle.evp_job.specs.declared.fault.JobFault.TheVariants as fault
use Rattle.evp_job.proofs.WentOn.{went_on, from_under, the_same, inside, as_many, from_zero}

-- so many formats, each with a name
pub record HasFormats (k : ℕ) (named : Named) : Type 0 where
  pub names : length named.names ≡ k
  pub known : length named.known ≡ k

one_format_more : (limit k : ℕ) (done more : Named) (value : Data) → HasFormats k done
    → next_format limit k done value ≡ Ok more → HasFormats (k + 1) more
unfolding next_format
one_format_more limit k done more value so_far is =
    let text = went_on (under (Index k) (format_in value)) _ more is in
    let format = went_on (new_format limit k done.names text.value) _ more text.rest in
    subst (HasFormats (k + 1)) (the_same _ more format.rest)
    (record {
      names = length-append done.names (text.value.name ∷ []) ∙ ap (λ (n : ℕ). n + 1) so_far.names;
      known = length-append done.known (format.value ∷ []) ∙ ap (λ (n : ℕ). n + 1) so_far.known;
    })

one_source_more : (k : ℕ) (done more : List SourceShape) (value : Data) → length done ≡ k
    → next_source k done value ≡ Ok more → length more ≡ k + 1
unfolding next_source
one_source_more k done more value so_far is =
    let source = went_on (under (Index k) (source_in value)) _ more is in
    let fresh = went_on (only_if (not (is_among source.value.name (names_of done)))
    (fault.Twice (Index k ∷ Field (codes "name") ∷ []))) _ more source.rest in
    ap length (sym (the_same (done ++ source.value ∷ []) more fresh.rest))
    ∙ length-append done (source.value ∷ []) ∙ ap (λ (n : ℕ). n + 1) so_far

formats_kept : (limit : ℕ) (value : Option Data) (named : Named) → formats_in limit value ≡ Ok named
    → (length named.names ≡ length named.known) × (length named.known ≤ 256)
unfolding formats_in
formats_kept limit value named is =
    let values = went_on (list_within 0 256 value) _ named is in
    let all = from_zero HasFormats (next_format limit) (one_format_more limit) none_named named values.value
    (record { names = refl; known = refl }) values.rest in (
      all.names ∙ sym all.known,
      subst (λ (n : ℕ). n ≤ 256) (sym all.known) (as_many 0 256 value values.value values.first).1,
    )

sources_kept : (value : Option Data) (sources : List SourceShape) → sources_in value ≡ Ok sources
    → (1 ≤ length sources) × (length sources ≤ 64)
unfolding sources_in
sources_kept value sources is =
    let values = went_on (list_within 1 64 value) _ sources is in
    let all = from_zero (λ (k : ℕ) (done : List SourceShape). length done ≡ k) next_source one_source_more [] sources
    values.value refl values.rest in
    subst (λ (n : ℕ). (1 ≤ n) × (n ≤ 64)) (sym all) (as_many 1 64 value values.value values.first)

pub within_kept : (least greatest : ℕ) (value : Option Data) (n : ℕ) → number_within least greatest value ≡ Ok n
    → (least ≤ n) × (n ≤ greatest)
unfolding number_within
within_kept least greatest value n is =
    let whole = went_on (whole_number value) _ n is in
    let tested = went_on (only_if (nat_le least whole.value && nat_le whole.value greatest)
    (fault.Limit [] whole.value)) _ n whole.rest in
    subst (λ (m : ℕ). (least ≤ m) × (m ≤ greatest)) (the_same whole.value n tested.rest)
    (inside least greatest whole.value (fault.Limit [] whole.value) tested.value tested.first)

number_kept : (usual least greatest : ℕ) (value : Option Data) (n : ℕ) → (least ≤ usual) × (usual ≤ greatest)
    → number_or usual least greatest value ≡ Ok n → (least ≤ n) × (n ≤ greatest)
number_kept usual least greatest None n right is =
    subst (λ (m : ℕ). (least ≤ m) × (m ≤ greatest)) (the_same usual n is) right
number_kept usual least greatest (Some value) n right is = within_kept least greatest (Some value) n is

pub record IsHeadKept (head : HeadShape) : Type 0 where
  pub longest : (64 ≤ head.limit) × (head.limit ≤ 262144)
  pub queue : (1 ≤ head.queue) × (head.queue ≤ 4096)
  pub paired : length head.formats.names ≡ length head.formats.known
  pub few : length head.formats.known ≤ 256
  pub sources : (1 ≤ length head.sources) × (length head.sources ≤ 64)

pub head_kept : (value : Data) (head : HeadShape) → head_in value ≡ Ok head → IsHeadKept head
unfolding head_in
head_kept value head is =
    let object = went_on (object_in value) _ head is in
    let said = λ (key : List ℕ). get key object.value in
    let limit = went_on (under (Field (codes "limit")) (number_or 4096 64 262144 (said (codes "limit")))) _ head object.rest in
    let queue = went_on (under (Field (codes "queue")) (number_or 64 1 4096 (said (codes "queue")))) _ head limit.rest in
    let formats = went_on (under (Field (codes "formats")) (formats_in limit.value (said (codes "formats")))) _ head
    queue.rest in
    let sources = went_on (under (Field (codes "sources")) (sources_in (said (codes "sources")))) _ head formats.rest in
    let paired = formats_kept limit.value (said (codes "formats")) formats.value
    (from_under (Field (codes "formats")) (formats_in limit.value (said (codes "formats"))) formats.value formats.first) in
    subst IsHeadKept (the_same (head_with limit.value queue.value formats.value sources.value) head sources.rest)
    (record {
      longest = number_kept 4096 64 262144 (said (codes "limit")) limit.value (omega arith, omega arith)
          (from_under (Field (codes "limit")) (number_or 4096 64 262144 (said (codes "limit"))) limit.value limit.first);
      queue = number_kept 64 1 4096 (said (codes "queue")) queue.value (omega arith, omega arith)
          (from_under (Field (codes "queue")) (number_or 64 1 4096 (said (codes "queue"))) queue.value queue.first);
      paired = paired.0;
      few = paired.1;
      sources = sources_kept (said (codes "sources")) sources.value
          (from_under (Field (codes "sources")) (sources_in (said (codes "sources"))) sources.value sources.first);
    })
