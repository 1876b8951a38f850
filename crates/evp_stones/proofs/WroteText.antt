-- What a text holds behind a call that wrote to it.
use Rattle.std.proofs.Common.{◌≡◌, ℕ, List, ◌++◌, Result, Ok, Err, OnOk}
use Rattle.std.specs.Fmt.{WritesInCalls}
use Rattle.std.proofs.lemmas.Fmt.{contents_after_writes}

pub wrote_text : {W E : Type 0} (s t : W) (contents : W → List ℕ) (result : Result (Unit {0}) E) (text : List ℕ)
    → OnOk result (WritesInCalls (λ (before : W) (bytes : List ℕ) (after : W). contents after ≡ contents before ++ bytes) s text t)
    → OnOk result (contents t ≡ contents s ++ text)
wrote_text s t contents (Ok x) text wrote = contents_after_writes _ contents (λ before bytes after is. is) s text t wrote
wrote_text s t contents (Err e) text wrote = tt
