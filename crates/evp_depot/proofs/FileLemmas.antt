-- What a map of files holds under a name.
use Rattle.std.proofs.Common.{◌≡◌, ℕ, List, [], ◌∷◌, map, Some, cond, true, false, refl, ◌∙◌, String, string_bytes, Vec}
use Rattle.std.specs.Ordering.{nat_cmp, is_eq}
use Rattle.std.specs.Cmp.Lexicographic.{slice_cmp, nat_list_cmp_total}
use Rattle.std.specs.FinMap.{get, find, get-from_entries}
use Rattle.std.specs.Option.{option_map}
use Rattle.std.specs.Map.{lookup}
use Rattle.std.specs.BTreeMap.{BTreeMap, get_by_text, is_at}
use Rattle.evp_depot.specs.Files.{files_of}

find-shown : {Y Z : Type 0} (es : List (String Y × Vec ℕ Z)) (q : List ℕ)
    → find (slice_cmp nat_cmp) q (map (λ e. (string_bytes e.0, e.1.items)) es)
    ≡ option_map (λ v. v.items) (lookup (is_at (λ k. slice_cmp nat_cmp q (string_bytes k))) es)
find-shown [] q = refl
find-shown (e ∷ es) q =
    elim (is_eq (slice_cmp nat_cmp q (string_bytes e.0)))
    as (λ b. cond b (Some e.1.items) (find (slice_cmp nat_cmp) q (map (λ e. (string_bytes e.0, e.1.items)) es))
    ≡ option_map (λ v. v.items) (cond b (Some e.1) (lookup (is_at (λ k. slice_cmp nat_cmp q (string_bytes k))) es))) [
      | true ↦ refl
      | false ↦ find-shown es q
    ]

-- a name finds in the files what its text finds in the map
pub get-files_of : {Y Z : Type 0} (kept : BTreeMap (String Y) (Vec ℕ Z)) (q : List ℕ) → get (files_of kept) q
    ≡ option_map (λ v. v.items) (get_by_text kept q)
get-files_of kept q = get-from_entries nat_list_cmp_total _ q ∙ find-shown kept.entries q
