-- What was found for the formats of a file, one by one.
use Rattle.std.proofs.Common.{◌≡◌, ℕ, zero, suc, List, [], ◌∷◌, ◌++◌, Option, Some, None, refl, subst, ap, ◌∙◌, sym}
use Rattle.std.specs.Option.{option_and_then, unwrap_or}
use Rattle.std.specs.Prelude.{slice_get}
use Rattle.evp_cache.specs.declared.found.Found.{Found}
use Rattle.evp_cache.specs.Finding.{IsFound}
use Rattle.evp_file.specs.declared.file.FileFormat.{FileFormat}
use Rattle.evp_file.specs.declared.file.KnownFormat.{KnownFormat}
use Rattle.evp_file.specs.File.{format_layout, layout_in}
use Rattle.evp_format.specs.Layout.{Layout}
use Rattle.evp_stones.specs.Founds.{IsFoundAs, AreFound}

-- one more
pub found_more : (known : List KnownFormat) (to : Layout) (formats : List FileFormat) (founds : List (Option Found)) (format : FileFormat)
    (found : Option Found) → AreFound known to formats founds → IsFoundAs (format_layout known format) to found
    → AreFound known to (formats ++ format ∷ []) (founds ++ found ∷ [])
found_more known to [] [] format found before one = (one, tt)
found_more known to [] (other ∷ founds) format found before one = absurd before
found_more known to (first ∷ formats) [] format found before one = absurd before
found_more known to (first ∷ formats) (other ∷ founds) format found before one =
    (before.0, found_more known to formats founds format found before.1 one)

-- what stands there for a format
pub record FoundFor (from to : Layout) (found : Option (Option Found)) : Type 0 where
  pub this : Found
  pub there : found ≡ Some (Some this)
  pub right : IsFound from to this

found_first : (from to : Layout) (layout : Option Layout) (found : Option Found) → layout ≡ Some from → IsFoundAs layout to found
    → FoundFor from to (Some found)
found_first from to layout None is right = absurd (subst (λ (l : Option Layout). IsFoundAs l to None) is right)
found_first from to layout (Some found) is right = record {
  this = found;
  there = refl;
  right = subst (λ (l : Option Layout). IsFoundAs l to (Some found)) is right;
}

none_there : (from : Layout) → None ≡ Some from → ⊥
none_there from e = cc

pub found_for : (known : List KnownFormat) (from to : Layout) (formats : List FileFormat) (founds : List (Option Found)) (number : ℕ)
    → AreFound known to formats founds → layout_in known formats number ≡ Some from → FoundFor from to (slice_get founds number)
found_for known from to [] [] number found is = absurd (none_there from is)
found_for known from to [] (other ∷ founds) number found is = absurd found
found_for known from to (format ∷ formats) [] number found is = absurd found
found_for known from to (format ∷ formats) (other ∷ founds) zero found is =
    found_first from to (format_layout known format) other is found.0
found_for known from to (format ∷ formats) (other ∷ founds) (suc number) found is =
    found_for known from to formats founds number found.1 is

-- what was looked up is that
pub found_is : (from to : Layout) (o : Option (Option Found)) (found : Found) → FoundFor from to o → Some found ≡ option_and_then (λ f. f) o
    → IsFound from to found
found_is from to o found there is =
    let same = is ∙ ap (option_and_then (λ (f : Option Found). f)) there.there in
    subst (IsFound from to) (sym (ap (λ (f : Option Found). unwrap_or f found) same)) there.right

pub found_not : (from to : Layout) (o : Option (Option Found)) → FoundFor from to o → None ≡ option_and_then (λ f. f) o → ⊥
found_not from to o there is = none_found there.this (is ∙ ap (option_and_then (λ (f : Option Found). f)) there.there) where
  none_found : (found : Found) → None ≡ Some found → ⊥
  none_found found e = cc
