-- The name of a source by its number.
use Rattle.std.proofs.Common.{◌≡◌, ℕ, zero, suc, ◌<◌, ◌≤◌, List, [], ◌∷◌, length, get_or, refl, ap, arith}
use Rattle.std.specs.Prelude.{slice_get}
use Rattle.evp_job.specs.declared.sources.SourceText.{SourceText}
use Rattle.evp_job.specs.SourceView.{sources_of}
use Rattle.evp_stones.specs.Check.{source_text}

pub source_there : (sources : List SourceText) (k : ℕ) (source : SourceText) → k < length sources → source ≡ get_or sources k source
    → source.name ≡ source_text (slice_get (sources_of sources) k)
source_there [] k source below is = absurd (omega arith)
source_there (first ∷ sources) zero source below is = ap (λ (s : SourceText). s.name) is
source_there (first ∷ sources) (suc k) source below is = source_there sources k source (omega arith) is

pub source_past : (sources : List SourceText) (k : ℕ) → length sources ≤ k → [] ≡ source_text (slice_get (sources_of sources) k)
source_past [] k past = refl
source_past (first ∷ sources) zero past = absurd (omega arith)
source_past (first ∷ sources) (suc k) past = source_past sources k (omega arith)
