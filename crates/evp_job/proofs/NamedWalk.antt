-- Formats and fields, found by name as a loop goes.
use Rattle.std.proofs.Common.{◌≡◌, ℕ, suc, ◌+◌, ◌<◌, ◌≤◌, true, false, List, ◌∷◌, length, drop, get_or}
use Rattle.std.proofs.Common.{Some, None, refl, sym, ap, ◌∙◌, arith}
use Rattle.std.specs.Prelude.{Option, unwrap_or}
use Rattle.std.proofs.lemmas.Option.{slice_get-get_or}
use Rattle.evp_format.proofs.Loops.{next_left}
use Rattle.evp_format.proofs.Pushed.{slice_get-some}
use Rattle.evp_format.specs.Bytes.{bytes_equal}
use Rattle.evp_file.specs.declared.file.KnownFormat.{KnownFormat}
use Rattle.evp_job.specs.Stones.{declared_with, named_from}

-- the names and formats that are left, one more taken apart
pub next_named : (name : List ℕ) (k : ℕ) (names : List (List ℕ)) (known : List KnownFormat) (other : List ℕ)
    (format : KnownFormat) → k < length names → k < length known → other ≡ get_or names k other
    → format ≡ get_or known k format
    → named_from name k (drop k names) (drop k known)
    ≡ named_from name k (other ∷ drop (k + 1) names) (format ∷ drop (k + 1) known)
next_named name k names known other format below within is there =
    next_left (λ xs. named_from name k xs (drop k known)) names k other below is
    ∙ next_left (λ ys. named_from name k (other ∷ drop (k + 1) names) ys) known k format within there

pub named_here : (name : List ℕ) (k : ℕ) (names : List (List ℕ)) (known : List KnownFormat) (other : List ℕ)
    (format : KnownFormat) → bytes_equal name other ≡ true
    → named_from name k (other ∷ names) (format ∷ known) ≡ Some (declared_with k format.format)
named_here name k names known other format same = rw same refl

pub named_later : (name : List ℕ) (k : ℕ) (names : List (List ℕ)) (known : List KnownFormat) (other : List ℕ)
    (format : KnownFormat) → bytes_equal name other ≡ false
    → named_from name k (other ∷ names) (format ∷ known) ≡ named_from name (k + 1) names known
named_later name k names known other format differ =
    let next : suc k ≡ k + 1 = omega arith in
    rw differ (ap (λ n. named_from name n names known) next)

-- another name stands here
pub named_on : (name : List ℕ) (k : ℕ) (names : List (List ℕ)) (known : List KnownFormat) (other : List ℕ)
    → k < length names → k < length known → other ≡ get_or names k other → bytes_equal name other ≡ false
    → named_from name k (drop k names) (drop k known)
    ≡ named_from name (k + 1) (drop (k + 1) names) (drop (k + 1) known)
named_on name k names known other below within is differ =
    let there = slice_get-some known k within in
    let format = there.0 in
    let same : format ≡ get_or known k format = ap (λ (o : Option KnownFormat). unwrap_or o format)
    (sym there.1 ∙ slice_get-get_or known k format within) in
    next_named name k names known other format below within is same
    ∙ named_later name k (drop (k + 1) names) (drop (k + 1) known) other format differ
