-- Fields by name and by number, as what they are.
use Rattle.std.proofs.Common.{◌≡◌, ℕ, zero, suc, ◌+◌, ◌<◌, ◌≤◌, pos, Bool, true, false, List, [], ◌∷◌, ◌++◌, length, get_or}
use Rattle.std.proofs.Common.{drop, Option, Some, None, refl, sym, ap, ◌∙◌, arith, add-one, drop-cons, append_assoc}
use Rattle.std.proofs.lemmas.List.{append-nil}
use Rattle.std.specs.Prelude.{slice_get, if◌then◌else◌}
use Rattle.evp_format.specs.declared.field.Field.{Field}
use Rattle.evp_format.specs.Bytes.{bytes_equal}
use Rattle.evp_format.specs.Tree.{Tree, branches_of, part_of}
use Rattle.evp_format.specs.declared.field.Base.{Base}
use Rattle.evp_format.specs.declared.field.Base.TheVariants.{Number, Text, Nested}
use Rattle.evp_format.proofs.Pushed.{bytes_equal-same, bytes_equal-true}
use Rattle.evp_plan.specs.declared.step.Step.{Step}
use Rattle.evp_format.specs.declared.field.Shape.{Shape}
use Rattle.evp_format.specs.declared.field.Shape.TheVariants.{One}
use Rattle.evp_base.specs.declared.kind.Kind.{Kind}
use Rattle.evp_plan.specs.declared.step.Op.{Op}
use Rattle.evp_plan.specs.declared.step.Origin.{Origin}
use Rattle.evp_plan.specs.Building.{known_field, field_named, step_for, steps_for, row_of, inner_of}
use Rattle.evp_plan.specs.Matching.{Content, content_of, content_of_base, known_fields, known_branches, known_named, number_origin}
use Rattle.evp_plan.specs.Matching.{single_origin, wanted_origin, op_for, task_for}

known_if : (same : Bool) (field : Field) (rest : Option Field) (rest' : Option (Field × Content)) → rest' ≡ known_field rest
    → (if same then Some (field, content_of_base field.base) else rest') ≡ known_field (if same then Some field else rest)
known_if true field rest rest' same = refl
known_if false field rest rest' same = same

pub known_named-fields : (name : List ℕ) (fields : List Field) → known_named name (known_fields fields)
    ≡ known_field (field_named name fields)
known_named-fields name [] = refl
known_named-fields name (field ∷ fields) = known_if (bytes_equal name field.name) field (field_named name fields)
    (known_named name (known_fields fields)) (known_named-fields name fields)

pub slice_get-known_fields : (fields : List Field) (k : ℕ) → slice_get (known_fields fields) k ≡ known_field (slice_get fields k)
slice_get-known_fields [] k = refl
slice_get-known_fields (field ∷ fields) zero = refl
slice_get-known_fields (field ∷ fields) (suc k) = slice_get-known_fields fields k

pub content_of-part_of : (earlier : List Tree) (base : Base) → content_of (part_of earlier base) ≡ content_of_base base
content_of-part_of earlier (Number kind) = refl
content_of-part_of earlier Text = refl
content_of-part_of earlier (Nested n) = refl

pub known_branches-of : (earlier : List Tree) (fields : List Field) → known_branches (branches_of earlier fields) ≡ known_fields fields
known_branches-of earlier [] = refl
known_branches-of earlier (field ∷ fields) =
    ap (λ (content : Content). (field, content) ∷ known_branches (branches_of earlier fields)) (content_of-part_of earlier field.base)
    ∙ ap (λ (rest : List (Field × Content)). (field, content_of_base field.base) ∷ rest) (known_branches-of earlier fields)

-- ---- the loop over names

rest_of : (fields : List Field) (k : ℕ) (field : Field) → k < length fields → field ≡ get_or fields k field
    → drop k fields ≡ field ∷ drop (k + 1) fields
rest_of fields k field below is = drop-cons fields k field below ∙ ap (λ (f : Field). f ∷ drop (suc k) fields) (sym is)
    ∙ ap (λ (n : ℕ). field ∷ drop n fields) (sym (add-one k))

pub other_name : (name : List ℕ) (fields : List Field) (k : ℕ) (field : Field) → k < length fields → field ≡ get_or fields k field
    → (field.name ≡ name → ⊥) → field_named name (drop (k + 1) fields) ≡ field_named name (drop k fields)
other_name name fields k field below is differs =
    sym (ap (field_named name) (rest_of fields k field below is) ∙ skipped (bytes_equal name field.name) refl)
  where
    skipped : (same : Bool) → bytes_equal name field.name ≡ same
        → (if same then Some field else field_named name (drop (k + 1) fields)) ≡ field_named name (drop (k + 1) fields)
    skipped true same = absurd (differs (sym (bytes_equal-true name field.name same)))
    skipped false same = refl

pub same_name : (name : List ℕ) (fields : List Field) (k : ℕ) (field : Field) → k < length fields → field ≡ get_or fields k field
    → field.name ≡ name → Some field ≡ field_named name (drop k fields)
same_name name fields k field below is same =
    let found : bytes_equal name field.name ≡ true = rw same (bytes_equal-same name) in
    sym (ap (field_named name) (rest_of fields k field below is)
    ∙ ap (λ (b : Bool). if b then Some field else field_named name (drop (k + 1) fields)) found)

pub no_name : (name : List ℕ) (fields : List Field) (k : ℕ) → length fields ≤ k → field_named name (drop k fields) ≡ None
no_name name [] zero past = refl
no_name name [] (suc k) past = refl
no_name name (field ∷ fields) zero past = absurd (omega arith)
no_name name (field ∷ fields) (suc k) past = no_name name fields k (omega arith)

-- ---- the loop over steps

-- steps made so far, and those for the other fields
pub steps_next : (rows : ℕ) (from all : List Field) (k : ℕ) (field : Field) (made : List Step) (step : Step) → k < length all
    → field ≡ get_or all k field → step ≡ step_for rows from all k field
    → made ++ steps_for rows from all k (drop k all) ≡ steps_for rows from all 0 all
    → (made ++ step ∷ []) ++ steps_for rows from all (k + 1) (drop (k + 1) all) ≡ steps_for rows from all 0 all
steps_next rows from all k field made step below is step_is so_far =
    let rest = steps_for rows from all (suc k) (drop (k + 1) all) in
    let here : steps_for rows from all k (drop k all) ≡ step_for rows from all k field
    ∷ rest = ap (steps_for rows from all k) (rest_of all k field below is) in
    let turned : (made ++ step ∷ []) ++ steps_for rows from all (k + 1) (drop (k + 1) all) ≡ made ++ step ∷ rest =
    append_assoc made (step ∷ []) (steps_for rows from all (k + 1) (drop (k + 1) all))
    ∙ ap (λ (n : ℕ). made ++ step ∷ steps_for rows from all n (drop (k + 1) all)) (add-one k) in
    turned ∙ ap (λ (s : Step). made ++ s ∷ rest) step_is ∙ ap (λ (steps : List Step). made ++ steps) (sym here) ∙ so_far

drop_past : (fields : List Field) (k : ℕ) → length fields ≤ k → drop k fields ≡ []
drop_past [] zero past = refl
drop_past [] (suc k) past = refl
drop_past (field ∷ fields) zero past = absurd (omega arith)
drop_past (field ∷ fields) (suc k) past = drop_past fields k (omega arith)

pub steps_end : (rows : ℕ) (from all : List Field) (k : ℕ) (made : List Step) → length all ≤ k
    → made ++ steps_for rows from all k (drop k all) ≡ steps_for rows from all 0 all → made ≡ steps_for rows from all 0 all
steps_end rows from all k made past so_far =
    sym (append-nil made) ∙ sym (ap (λ (rest : List Field). made ++ steps_for rows from all k rest) (drop_past all k past)) ∙ so_far

-- ---- what a number is made from

pub single_is : (from : List Field) (field : Field) (kind : Kind) (partner : Option Field) (origin : Origin) → field.shape ≡ One
    → field.base ≡ Number kind → partner ≡ field_named field.name from
    → origin ≡ number_origin (known_field partner) field.fallback
    → origin ≡ single_origin (known_fields from) field field.shape (content_of_base field.base)
single_is from field kind partner origin single number named is =
    is ∙ ap (λ (f : Option Field). number_origin (known_field f) field.fallback) named
    ∙ ap (λ (known : Option (Field × Content)). number_origin known field.fallback) (sym (known_named-fields field.name from))
    ∙ sym (ap (λ (shape : Shape). single_origin (known_fields from) field shape (content_of_base field.base)) single
    ∙ ap (λ (base : Base). single_origin (known_fields from) field One (content_of_base base)) number)

pub wanted_is : (from all : List Field) (count : ℕ) (found : Option Field) (origin : Origin) → found ≡ slice_get all count
    → origin ≡ wanted_origin (known_fields from) (known_field found)
    → origin ≡ wanted_origin (known_fields from) (slice_get (known_fields all) count)
wanted_is from all count found origin there is =
    is ∙ ap (λ (f : Option Field). wanted_origin (known_fields from) (known_field f)) there
    ∙ ap (wanted_origin (known_fields from)) (sym (slice_get-known_fields all count))

pub count_is : (from : List Field) (count : ℕ) (found : Option Field) (origin : Origin) → found ≡ slice_get from count
    → origin ≡ number_origin (known_field found) (pos 0)
    → origin ≡ number_origin (slice_get (known_fields from) count) (pos 0)
count_is from count found origin there is =
    is ∙ ap (λ (f : Option Field). number_origin (known_field f) (pos 0)) there
    ∙ ap (λ (known : Option (Field × Content)). number_origin known (pos 0)) (sym (slice_get-known_fields from count))

pub step_is : (rows : ℕ) (from all : List Field) (k : ℕ) (field : Field) (partner : Option Field) (op : Op) (row : ℕ) (inner : Option ℕ)
    → partner ≡ field_named field.name from
    → op ≡ op_for (known_fields from) (known_fields all) field field.shape (content_of_base field.base) (known_field partner)
    → row ≡ row_of partner → inner ≡ inner_of rows field.base row
    → record { task = record { field = k; offset = field.offset; size = field.size; op = op }; inner = inner }
    ≡ step_for rows from all k field
step_is rows from all k field partner op row inner named op_is row_is inner_is =
    let known : known_field partner ≡ known_named field.name (known_fields from) = ap known_field named
    ∙ sym (known_named-fields field.name from) in
    let op_same : op ≡ op_for (known_fields from) (known_fields all) field field.shape (content_of_base field.base)
    (known_named field.name (known_fields from)) =
    op_is ∙ ap (op_for (known_fields from) (known_fields all) field field.shape (content_of_base field.base)) known in
    let inner_same : inner ≡ inner_of rows field.base (row_of (field_named field.name from)) = inner_is
    ∙ ap (inner_of rows field.base) (row_is ∙ ap row_of named) in
    ap (λ (o : Op). record { task = record { field = k; offset = field.offset; size = field.size; op = o }; inner = inner }) op_same
    ∙ ap (λ (i : Option ℕ). record {
      task = task_for (known_fields from) (known_fields all) k field (content_of_base field.base);
      inner = i;
    }) inner_same
