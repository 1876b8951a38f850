-- The numbers of a record that was made: each in its range, and where an array counts by it.
use Rattle.std.proofs.Common.{◌≡◌, ℕ, zero, suc, ◌+◌, ℤ, true, not, List, [], ◌∷◌, ◌++◌, Option, Some, sym, ap, ◌∙◌, subst, arith}
use Rattle.std.proofs.lemmas.Bool.{not-false}
use Rattle.evp_base.specs.declared.kind.Kind.{Kind}
use Rattle.evp_base.specs.Numbers.{is_in_range, InRange}
use Rattle.evp_format.specs.declared.field.Field.{Field}
use Rattle.evp_format.specs.declared.field.Shape.{Shape}
use Rattle.evp_format.specs.declared.field.Shape.TheVariants.{One}
use Rattle.evp_format.specs.declared.place.PlaceStep.{PlaceStep}
use Rattle.evp_format.specs.declared.place.PlaceStep.TheVariants.{At}
use Rattle.evp_format.specs.Converting.{Made, made, then_make, receiver_number, number_fits, numbers_from, number_at, make_shaped}
use Rattle.evp_format.specs.Converting.{make_branches, make_part}
use Rattle.evp_format.specs.Datum.{Datum, num, Entries, entry, entry_at, named}
use Rattle.evp_format.specs.Tree.{Branches, no_fields, branch, Part, number_part, branch_at}
use Rattle.evp_format.proofs.Made.{went_on, fitted}
use Rattle.evp_format.proofs.WellLaidTypes.{in_range_is}

pub same_branch : (first : Field) (part : Part) (field : Field) (part' : Part)
    → ◌≡◌ {A = Option (Field × Part)} (Some (first, part)) (Some (field, part')) → (first ≡ field) × (part ≡ part')
same_branch first part field part' found =
    let pair : ◌≡◌ {A = Field × Part} (first, part) (field, part') = cc in
    (ap (λ (b : Field × Part). b.0) pair, ap (λ (b : Field × Part). b.1) pair)

fits_here : (field : Field) (shape : Shape) (part : Part) (kind : Kind) (n : ℤ) → shape ≡ One → part ≡ number_part kind
    → number_fits field shape part n ≡ true → is_in_range kind field.size n ≡ true
fits_here field shape part kind n single number fits =
    ap (λ (s : Shape). number_fits field s (number_part kind) n) (sym single) ∙ ap (λ (p : Part). number_fits field shape p n) (sym number)
    ∙ fits

-- each number is in its range
pub numbers_ranged : (place : List PlaceStep) (k : ℕ) (branches : Branches) (partner : Entries) (numbers : List ℤ) (end : ℕ)
    → numbers_from place k branches partner ≡ made numbers end
    → (j : ℕ) (field : Field) (kind : Kind) → branch_at branches j ≡ Some (field, number_part kind) → field.shape ≡ One
    → InRange kind field.size (number_at numbers j)
numbers_ranged place k no_fields partner numbers end is j field kind found single = cc
numbers_ranged place k (branch first part rest) partner numbers end is zero field kind found single =
    let n = receiver_number first first.shape part partner in
    let through = fitted (not (number_fits first first.shape part n)) (place ++ At k ∷ [])
    (λ _. then_make (numbers_from place (suc k) rest partner) (λ others none. made (n ∷ others) none)) numbers end is in
    let others = went_on (numbers_from place (suc k) rest partner) (λ others none. made (n ∷ others) none) numbers end through.1 in
    let all : n ∷ others.value_first ≡ numbers = (let h = others.rest in cc) in
    let same = (same_branch first part field (number_part kind) found).0 in
    let number = (same_branch first part field (number_part kind) found).1 in
    let fits = fits_here first first.shape part kind n (ap (λ (f : Field). f.shape) same ∙ single) number
    (not-false (number_fits first first.shape part n) through.0) in
    let Ranges : List ℤ → Type 0 = λ ns. InRange kind field.size (number_at ns 0) in
    let Sized : Field → Type 0 = λ f. InRange kind f.size n in
    subst Ranges all (subst Sized same (in_range_is kind first.size n fits))
numbers_ranged place k (branch first part rest) partner numbers end is (suc j) field kind found single =
    let n = receiver_number first first.shape part partner in
    let through = fitted (not (number_fits first first.shape part n)) (place ++ At k ∷ [])
    (λ _. then_make (numbers_from place (suc k) rest partner) (λ others none. made (n ∷ others) none)) numbers end is in
    let others = went_on (numbers_from place (suc k) rest partner) (λ others none. made (n ∷ others) none) numbers end through.1 in
    let all : n ∷ others.value_first ≡ numbers = (let h = others.rest in cc) in
    let Ranges : List ℤ → Type 0 = λ ns. InRange kind field.size (number_at ns (suc j)) in
    subst Ranges all (numbers_ranged place (suc k) rest partner others.value_first others.size others.makes j field kind found single)

single_made : (limit : ℕ) (first : Field) (shape : Shape) (part : Part) (kind : Kind) (numbers : List ℤ) (k : ℕ) (place : List PlaceStep)
    (partner : Option Datum) (one : List PlaceStep → Datum → ℕ → Made Datum)
    (size after : ℕ) (value : Datum) → shape ≡ One → part ≡ number_part kind
    → make_shaped limit first shape part numbers k place partner one size ≡ made value after → value ≡ num (number_at numbers k)
single_made limit first shape part kind numbers k place partner one size after value single number is =
    let here : made (num (number_at numbers k)) size ≡ made value after =
    ap (λ (s : Shape). make_shaped limit first s (number_part kind) numbers k place partner one size) (sym single)
    ∙ ap (λ (p : Part). make_shaped limit first shape p numbers k place partner one size) (sym number) ∙ is in
    cc

-- a single number field has the number that stood ready
pub number_made : (limit : ℕ) (branches : Branches) (numbers : List ℤ) (k : ℕ) (place : List PlaceStep) (partner : Entries) (size after : ℕ)
    (entries : Entries)
    → make_branches limit branches numbers k place partner size ≡ made entries after → (j : ℕ) (field : Field) (kind : Kind)
    → branch_at branches j ≡ Some (field, number_part kind) → field.shape ≡ One
    → entry_at entries j ≡ Some (num (number_at numbers (k + j)))
number_made limit no_fields numbers k place partner size after entries is j field kind found single = cc
number_made limit (branch first part rest) numbers k place partner size after entries is zero field kind found single =
    let one = λ (place' : List PlaceStep) (datum : Datum) (after' : ℕ). make_part limit part first.size place' datum after' in
    let here =
    went_on (make_shaped limit first first.shape part numbers k (place ++ At k ∷ []) (named first.name partner) one size)
    (λ value after'. then_make (make_branches limit rest numbers (suc k) place partner after')
    (λ others end. made (entry first.name value others) end)) entries after is in
    let others = went_on (make_branches limit rest numbers (suc k) place partner here.size)
    (λ others end. made (entry first.name here.value_first others) end) entries after here.rest in
    let all : entry first.name here.value_first others.value_first ≡ entries = (let h = others.rest in cc) in
    let same = (same_branch first part field (number_part kind) found).0 in
    let number = (same_branch first part field (number_part kind) found).1 in
    let value_is =
    single_made limit first first.shape part kind numbers k (place ++ At k ∷ []) (named first.name partner) one size here.size
    here.value_first (ap (λ (f : Field). f.shape) same ∙ single) number here.makes in
    ap (λ (es : Entries). entry_at es 0) (sym all) ∙ ap Some value_is ∙ ap (λ (i : ℕ). Some (num (number_at numbers i))) (omega arith)
number_made limit (branch first part rest) numbers k place partner size after entries is (suc j) field kind found single =
    let one = λ (place' : List PlaceStep) (datum : Datum) (after' : ℕ). make_part limit part first.size place' datum after' in
    let here =
    went_on (make_shaped limit first first.shape part numbers k (place ++ At k ∷ []) (named first.name partner) one size)
    (λ value after'. then_make (make_branches limit rest numbers (suc k) place partner after')
    (λ others end. made (entry first.name value others) end)) entries after is in
    let others = went_on (make_branches limit rest numbers (suc k) place partner here.size)
    (λ others end. made (entry first.name here.value_first others) end) entries after here.rest in
    let all : entry first.name here.value_first others.value_first ≡ entries = (let h = others.rest in cc) in
    ap (λ (es : Entries). entry_at es (suc j)) (sym all) ∙ number_made limit rest numbers (suc k) place partner here.size others.size
    others.value_first others.makes j field kind found single
    ∙ ap (λ (i : ℕ). Some (num (number_at numbers i))) (omega arith)
