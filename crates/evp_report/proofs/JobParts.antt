-- The parts of a job, by what the job is.
use Rattle.std.proofs.Common.{◌≡◌, ℕ, length, ap, ◌∙◌}
use Rattle.evp_stone.specs.declared.job.JobParts.{JobParts}
use Rattle.evp_stone.specs.JobShape.{JobShape}
use Rattle.evp_stone.specs.Parts.{job_of}

module _ (parts : JobParts) {job : JobShape} (is : job_of parts ≡ job) where
  pub formats_of_parts : parts.formats.items ≡ job.formats
  formats_of_parts = ap (λ (j : JobShape). j.formats) is

  pub sources_of_parts : parts.sources.items ≡ job.sources
  sources_of_parts = ap (λ (j : JobShape). j.sources) is

  pub rounds_of_parts : parts.rounds.items ≡ job.rounds
  rounds_of_parts = ap (λ (j : JobShape). j.rounds) is

  pub routes_of_parts : parts.routes ≡ job.routes
  routes_of_parts = ap (λ (j : JobShape). j.routes) is

  pub rounds_counted : {n : ℕ} → n ≡ length parts.rounds.items → n ≡ length job.rounds
  rounds_counted count = count ∙ ap length rounds_of_parts
