-- Formats that were found by their names are declared.
use Rattle.std.proofs.Common.{◌≡◌, ℕ, suc, ◌+◌, ◌<◌, Bool, true, false, List, [], ◌∷◌, length, map, Option, Some, None, Ok}
use Rattle.std.proofs.Common.{refl, sym, ap, ◌∙◌, subst, arith}
use Rattle.std.specs.Prelude.{slice_get, unwrap_or, if◌then◌else◌}
use Rattle.std.proofs.lemmas.List.{length-map}
use Rattle.std.proofs.lemmas.Option.{slice_get_within}
use Rattle.evp_action.specs.Agreement.{IsDeclared}
use Rattle.evp_file.specs.declared.file.KnownFormat.{KnownFormat}
use Rattle.evp_format.specs.Bytes.{bytes_equal}
use Rattle.evp_format.specs.Layout.{Layout}
use Rattle.serde_json.specs.Data.{Data}
use Rattle.evp_job.specs.declared.fault.JobFault.TheVariants as fault
use Rattle.evp_job.specs.Formats.{Named}
use Rattle.evp_job.specs.Forms.{text_in}
use Rattle.evp_job.specs.Stated.{layouts_of}
use Rattle.evp_job.specs.Stones.{Declared, declared_with, named_from, declared_in}
use Rattle.evp_job.proofs.WentOn.{went_on, from_some, none_before}

-- it stands among the formats from number k on
pub record IsFound (k : ℕ) (known : List KnownFormat) (declared : Declared) : Type 0 where
  pub at : ℕ
  pub number : declared.number ≡ k + at
  pub there : slice_get (layouts_of known) at ≡ Some declared.layout

found_test : (name : List ℕ) (k : ℕ) (names : List (List ℕ)) (known : List KnownFormat) (format : KnownFormat)
    (declared : Declared) (test : Bool)
    → (named_from name (suc k) names known ≡ Some declared → IsFound (suc k) known declared)
    → (if test then Some (declared_with k format.format) else named_from name (suc k) names known) ≡ Some declared
    → IsFound k (format ∷ known) declared
found_test name k names known format declared true later is =
    let same : declared_with k format.format ≡ declared = ap (λ (o : Option Declared). unwrap_or o declared) is in
    let none : k ≡ k + 0 = omega arith in
    subst (IsFound k (format ∷ known)) same (record { at = 0; number = none; there = refl })
found_test name k names known format declared false later is =
    let found = later is in
    let one_on : suc k + found.at ≡ k + suc found.at = omega arith in
    record { at = suc found.at; number = found.number ∙ one_on; there = found.there }

pub found_named : (name : List ℕ) (k : ℕ) (names : List (List ℕ)) (known : List KnownFormat) (declared : Declared)
    → named_from name k names known ≡ Some declared → IsFound k known declared
found_named name k [] known declared is = cc
found_named name k (other ∷ names) [] declared is = cc
found_named name k (other ∷ names) (format ∷ known) declared is =
    found_test name k names known format declared (bytes_equal name other)
    (found_named name (suc k) names known declared) is

pub declared_kept : (formats : Named) (value : Option Data) (declared : Declared) → declared_in formats value ≡ Ok declared
    → IsDeclared (layouts_of formats.known) (length formats.known) declared.number declared.layout
unfolding declared_in
declared_kept formats value declared is =
    let text = went_on (text_in value) _ declared is in
    let found = found_named text.value 0 formats.names formats.known declared
    (from_some (named_from text.value 0 formats.names formats.known) (fault.UnknownFormat []) declared text.rest) in
    let number : found.at ≡ declared.number = sym (found.number ∙ none_before found.at) in
    let there : slice_get (layouts_of formats.known) declared.number ≡ Some declared.layout =
    subst (λ (n : ℕ). slice_get (layouts_of formats.known) n ≡ Some declared.layout) number found.there in
    let below = slice_get_within (layouts_of formats.known) declared.number declared.layout there in
    record {
      below = subst (λ (n : ℕ). declared.number < n)
          (length-map formats.known (λ (known : KnownFormat). known.format)) below;
      there = there;
    }
