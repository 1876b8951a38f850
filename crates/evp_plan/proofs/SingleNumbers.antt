-- The single numbers of a record are read and tested as the conversion does.
use Rattle.std.proofs.Common.{◌≡◌, ℕ, zero, suc, ◌+◌, ℤ, pos, Bool, true, false, not, List, [], ◌∷◌, ◌++◌, Option, Some, None, refl, sym}
use Rattle.std.proofs.Common.{ap, ◌∙◌, subst}
use Rattle.std.specs.Prelude.{slice_get}
use Rattle.evp_base.specs.declared.kind.Kind.{Kind}
use Rattle.evp_base.specs.Numbers.{is_in_range}
use Rattle.evp_format.specs.declared.field.Field.{Field}
use Rattle.evp_format.specs.declared.field.Shape.{Shape}
use Rattle.evp_format.specs.declared.field.Shape.TheVariants.{One, Fixed, Counted}
use Rattle.evp_format.specs.declared.place.PlaceStep.{PlaceStep}
use Rattle.evp_format.specs.declared.place.PlaceStep.TheVariants.{At}
use Rattle.evp_format.specs.Clashing.{branch_named, clash_partners, clash_branches, clash_parts}
use Rattle.evp_format.specs.Converting.{Made, made, unfit, large, then_make, unless_unfit, numbers_from, receiver_number}
use Rattle.evp_format.specs.Converting.{number_or_default, number_fits, number_at}
use Rattle.evp_format.specs.Datum.{Datum, Entries, named}
use Rattle.evp_format.specs.Tree.{Branches, no_fields, branch, Part, number_part, text_part, tree_part, branch_at}
use Rattle.evp_format.specs.Viewing.{Image}
use Rattle.evp_plan.specs.Matching.{Content, content_of, known_branches, known_named, number_origin, single_origin, wanted_origin, op_for}
use Rattle.evp_plan.specs.Matching.{compiled}
use Rattle.evp_plan.specs.Measuring.{sized, op_fits, tested}
use Rattle.evp_plan.specs.Standing.{origin_number}
use Rattle.evp_plan.proofs.Sent.{FieldSent, RecordSent, IsPartner, partner, known_of, known_named-branches, slice_get-known, number_sent}
use Rattle.evp_plan.proofs.Sent.{single_sent}
use Rattle.evp_plan.proofs.NoClash.{AreAlike, alike_branches, IsAlike, alike_with, alike_at}

single_by : (image : Image) (from : Branches) (at : ℕ) (sender : Field) (shape : Shape) (part : Part) (value : Datum) (kind : Kind)
    (fallback : ℤ) → FieldSent image from at sender shape part value
    → IsAlike shape part One (number_part kind) → number_or_default (Some value) fallback
    ≡ origin_number image at (number_origin (Some (sender, content_of part)) fallback)
single_by image from at sender One (number_part kind') value kind fallback sent alike =
    ap (λ (d : Datum). number_or_default (Some d) fallback)
    (sym (number_sent image kind' sender.size (at + sender.offset) value
    (single_sent image from at sender (number_part kind') value sent)))
single_by image from at sender One text_part value kind fallback sent alike = let no = alike.parts in cc
single_by image from at sender One (tree_part nested) value kind fallback sent alike = let no = alike.parts in cc
single_by image from at sender (Fixed n) part value kind fallback sent alike = let no = alike.shapes in cc
single_by image from at sender (Counted c) part value kind fallback sent alike = let no = alike.shapes in cc

single_from : (image : Image) (from : Branches) (at : ℕ) (field : Field) (kind : Kind) (found : Option (Field × Part))
    (value : Option Datum) → field.shape ≡ One → IsPartner image from at found value
    → clash_partners found field (number_part kind) (λ sender_part. clash_parts sender_part (number_part kind)) ≡ None
    → number_or_default value field.fallback ≡ origin_number image at (number_origin (known_of found) field.fallback)
single_from image from at field kind None None is given alike = refl
single_from image from at field kind None (Some value) is given alike = absurd given
single_from image from at field kind (Some (sender, part)) None is given alike = absurd given
single_from image from at field kind (Some (sender, part)) (Some value) is given alike =
    let Alike : Shape → Type 0 = λ s. IsAlike sender.shape part s (number_part kind) in
    single_by image from at sender sender.shape part value kind field.fallback given
    (subst Alike is (alike_with sender part field (number_part kind) alike))

-- the number that a receiver field gets
number_of_field : (image : Image) (from : Branches) (at : ℕ) (entries : Entries) (field : Field) (shape : Shape) (part : Part)
    → RecordSent image from at entries → field.shape ≡ shape → AreAlike from field part
    → receiver_number field shape part entries ≡ origin_number image at (single_origin (known_branches from) field shape (content_of part))
number_of_field image from at entries field One (number_part kind) sent is alike =
    single_from image from at field kind (branch_named field.name from) (named field.name entries) is
    (partner image from at entries field.name sent) alike
    ∙ ap (λ (known : Option (Field × Content)). origin_number image at (number_origin known field.fallback))
    (sym (known_named-branches field.name from))
number_of_field image from at entries field One text_part sent is alike = refl
number_of_field image from at entries field One (tree_part nested) sent is alike = refl
number_of_field image from at entries field (Fixed n) part sent is alike = refl
number_of_field image from at entries field (Counted c) part sent is alike = refl

-- whether it fits
fits_alike : (image : Image) (from all : Branches) (at : ℕ) (field : Field) (shape : Shape) (part : Part) (n : ℤ)
    (known : Option (Field × Content)) → known_named field.name (known_branches from) ≡ known
    → n ≡ origin_number image at (single_origin (known_branches from) field shape (content_of part))
    → op_fits image at field.size (op_for (known_branches from) (known_branches all) field shape (content_of part) known)
    ≡ number_fits field shape part n
fits_alike image from all at field One (number_part kind) n known same is =
    ap (λ (k : Option (Field × Content)). is_in_range kind field.size (origin_number image at (number_origin k field.fallback))) (sym same)
    ∙ ap (is_in_range kind field.size) (sym is)
fits_alike image from all at field One text_part n known same is = refl
fits_alike image from all at field One (tree_part nested) n known same is = refl
fits_alike image from all at field (Fixed count) part n known same is = refl
fits_alike image from all at field (Counted c) part n known same is = refl

sized-pushed : (x : Made (List ℤ)) (n : ℤ) → sized (then_make x (λ others none. made (n ∷ others) none)) ≡ sized x
sized-pushed (made others none) n = refl
sized-pushed (unfit place) n = refl
sized-pushed (large place) n = refl

sized-unless : {A : Type 0} (test : Bool) (place : List PlaceStep) (next : Unit {0} → Made A)
    → sized (unless_unfit test place next) ≡ unless_unfit test place (λ _. sized (next tt))
sized-unless true place next = refl
sized-unless false place next = refl

-- the single numbers of a record
pub numbers_tested : (image : Image) (from all branches : Branches) (at : ℕ) (entries : Entries) (place : List PlaceStep) (k : ℕ)
    → RecordSent image from at entries → clash_branches from branches ≡ None
    → sized (numbers_from place k branches entries) ≡ tested image at (compiled from all branches k) place
numbers_tested image from all no_fields at entries place k sent alike = refl
numbers_tested image from all (branch field part rest) at entries place k sent alike =
    let parts = alike_branches from field part rest alike in
    let n = receiver_number field field.shape part entries in
    let number = number_of_field image from at entries field field.shape part sent refl parts.0 in
    let fits = fits_alike image from all at field field.shape part n (known_named field.name (known_branches from)) refl number in
    let next : Unit {0} → Made (List ℤ) = λ _. then_make (numbers_from place (suc k) rest entries) (λ others none. made (n ∷ others) none)
    in
    let later = tested image at (compiled from all rest (suc k)) place in
    sized-unless (not (number_fits field field.shape part n)) (place ++ At k ∷ []) next
    ∙ ap (λ (m : Made (Unit {0})). unless_unfit (not (number_fits field field.shape part n)) (place ++ At k ∷ []) (λ _. m))
    (sized-pushed (numbers_from place (suc k) rest entries) n ∙ numbers_tested image from all rest at entries place (suc k) sent parts.1)
    ∙ ap (λ (test : Bool). unless_unfit (not test) (place ++ At k ∷ []) (λ _. later)) (sym fits)

-- the number of each field
abbrev number_of : Entries → Option (Field × Part) → ℤ
number_of entries None = pos 0
number_of entries (Some (field, part)) = receiver_number field field.shape part entries

record Headed (x : Made (List ℤ)) (n : ℤ) (values : List ℤ) : Type 0 where
  others : List ℤ
  end : ℕ
  rest_is : x ≡ made others end
  whole : n ∷ others ≡ values

headed : (test : Bool) (place : List PlaceStep) (n : ℤ) (x : Made (List ℤ)) (values : List ℤ) (z : ℕ)
    → unless_unfit test place (λ _. then_make x (λ others none. made (n ∷ others) none)) ≡ made values z → Headed x n values
headed true place n x values z is = cc
headed false place n (made others end) values z is = let whole : n ∷ others
    ≡ values = cc in record { others = others; end = end; rest_is = refl; whole = whole }
headed false place n (unfit p) values z is = cc
headed false place n (large p) values z is = cc

numbers_at : (place : List PlaceStep) (k : ℕ) (branches : Branches) (entries : Entries) (values : List ℤ) (z i : ℕ)
    → numbers_from place k branches entries ≡ made values z
    → number_at values i ≡ number_of entries (branch_at branches i)
numbers_at place k no_fields entries values z i is = let none : [] ≡ values = cc in ap (λ (ns : List ℤ). number_at ns i) (sym none)
numbers_at place k (branch field part rest) entries values z zero is =
    let n = receiver_number field field.shape part entries in
    let h = headed (not (number_fits field field.shape part n)) (place ++ At k ∷ []) n (numbers_from place (suc k) rest entries) values z is
    in
    ap (λ (ns : List ℤ). number_at ns zero) (sym h.whole)
numbers_at place k (branch field part rest) entries values z (suc i) is =
    let n = receiver_number field field.shape part entries in
    let h = headed (not (number_fits field field.shape part n)) (place ++ At k ∷ []) n (numbers_from place (suc k) rest entries) values z is
    in
    ap (λ (ns : List ℤ). number_at ns (suc i)) (sym h.whole) ∙ numbers_at place (suc k) rest entries h.others h.end i h.rest_is

-- the numbers of a record are those that its steps read
abbrev pub AreNumbers : Image → Branches → ℕ → Branches → List ℤ → Type 0
AreNumbers image from at all values = (i : ℕ) → number_at values i
    ≡ origin_number image at (wanted_origin (known_branches from) (slice_get (known_branches all) i))

wanted_by : (image : Image) (from : Branches) (at : ℕ) (entries : Entries) (found : Option (Field × Part))
    → RecordSent image from at entries
    → ((field : Field) (part : Part) → found ≡ Some (field, part) → AreAlike from field part)
    → number_of entries found ≡ origin_number image at (wanted_origin (known_branches from) (known_of found))
wanted_by image from at entries None sent alike = refl
wanted_by image from at entries (Some (field, part)) sent alike = number_of_field image from at entries field field.shape part sent refl
    (alike field part refl)

pub are_numbers : (image : Image) (from all : Branches) (at : ℕ) (entries : Entries) (place : List PlaceStep) (values : List ℤ) (z : ℕ)
    → RecordSent image from at entries → clash_branches from all ≡ None
    → numbers_from place 0 all entries ≡ made values z → AreNumbers image from at all values
are_numbers image from all at entries place values z sent alike is i =
    numbers_at place 0 all entries values z i is
    ∙ wanted_by image from at entries (branch_at all i) sent (λ field part found. alike_at from all i field part alike found)
    ∙ ap (λ (known : Option (Field × Content)). origin_number image at (wanted_origin (known_branches from) known))
    (sym (slice_get-known all i))
