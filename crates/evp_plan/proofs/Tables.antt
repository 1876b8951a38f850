-- The table of steps: each list compiles to what makes its type from its row.
use Rattle.std.proofs.Common.{◌≡◌, ℕ, zero, suc, ◌+◌, ◌*◌, ◌-◌, ◌<◌, ◌≤◌, ◌/◌, Bool, true, false, List, [], ◌∷◌, ◌++◌, length, take}
use Rattle.std.proofs.Common.{Option, Some, refl, sym, ap, ◌∙◌, arith, length-append, ◌⊎◌, inl, inr, rules}
use Rattle.std.specs.Prelude.{slice_get, if◌then◌else◌}
use Rattle.std.proofs.Math.Nat.{mul-le-mul_left}
use Rattle.std.proofs.lemmas.Nat.{div-mul-add}
use Rattle.evp_format.specs.declared.field.Base.{Base}
use Rattle.evp_format.specs.declared.field.Base.TheVariants.{Number, Text, Nested}
use Rattle.evp_format.specs.declared.field.Field.{Field}
use Rattle.evp_format.specs.declared.record_type.RecordType.{RecordType}
use Rattle.evp_format.specs.Bytes.{bytes_equal}
use Rattle.evp_format.specs.Clashing.{branch_named}
use Rattle.evp_format.specs.Layout.{Layout}
use Rattle.evp_format.specs.Tree.{Tree, tree, Branches, Part, tree_part, part_of, branches_of, trees, tree_of}
use Rattle.evp_format.specs.Tree.{length_of, root_of}
use Rattle.evp_format.specs.WellLaid.{IsWellLaid, HasBaseSize}
use Rattle.evp_format.proofs.Trees.{tree_of-resolved, slice_get-below}
use Rattle.evp_plan.specs.declared.step.Step.{Step}
use Rattle.evp_plan.specs.declared.step.Task.{Task}
use Rattle.evp_plan.specs.Building.{row_of_base, row_of, inner_of, field_named, step_for, steps_for, branches_in, row_branches, NestsBelow}
use Rattle.evp_plan.specs.Building.{EachNestsBelow, IsRow, IsTypeOf, IsTable}
use Rattle.evp_plan.specs.Matching.{Content, content_of, content_of_base, known_branches, known_fields, task_for, inside_partner}
use Rattle.evp_plan.specs.Matching.{compiled_tree, compiled, compiled_part}
use Rattle.evp_plan.specs.Program.{Program, performs, inner_program, program_of, programs, program_at}
use Rattle.evp_plan.proofs.Known.{known_branches-of, content_of-part_of}
use Rattle.evp_plan.proofs.Programs.{program_at-before, program_at-added}

-- ---- the partner's row

inside_tree : (field : Field) (t : Tree) → inside_partner (Some (field, tree_part t)) ≡ branches_in t
inside_tree field (tree length branches) = refl

inside_by : (from : Layout) (field : Field) (base : Base) → inside_partner (Some (field, part_of (trees from.types) base))
    ≡ row_branches from (row_of_base base)
inside_by from field (Number kind) = refl
inside_by from field Text = refl
inside_by from field (Nested n) = inside_tree field (tree_of from n)

row_if : (from : Layout) (same : Bool) (field : Field) (found : Option (Field × Part)) (named : Option Field)
    → inside_partner found ≡ row_branches from (row_of named)
    → inside_partner (if same then Some (field, part_of (trees from.types) field.base) else found)
    ≡ row_branches from (row_of (if same then Some field else named))
row_if from true field found named rest = inside_by from field field.base
row_if from false field found named rest = rest

partner_row : (from : Layout) (name : List ℕ) (fields : List Field)
    → inside_partner (branch_named name (branches_of (trees from.types) fields)) ≡ row_branches from (row_of (field_named name fields))
partner_row from name [] = refl
partner_row from name (field ∷ fields) =
    row_if from (bytes_equal name field.name) field (branch_named name (branches_of (trees from.types) fields)) (field_named name fields)
    (partner_row from name fields)

row_below_if : (rows : ℕ) (same : Bool) (field : Field) (named : Option Field) → row_of_base field.base < rows → row_of named < rows
    → row_of (if same then Some field else named) < rows
row_below_if rows true field named here rest = here
row_below_if rows false field named here rest = rest

row_below : (rows : ℕ) (name : List ℕ) (fields : List Field) → 1 ≤ rows
    → ((i : ℕ) (field : Field) → slice_get fields i ≡ Some field → row_of_base field.base < rows) → row_of (field_named name fields) < rows
row_below rows name [] some each = omega (arith, some)
row_below rows name (field ∷ fields) some each =
    row_below_if rows (bytes_equal name field.name) field (field_named name fields) (each 0 field refl)
    (row_below rows name fields some (λ i other found. each (suc i) other found))

-- ---- the steps of one list

-- the steps so far lead to what they should
record Leads (from to : Layout) (table : List (List Step)) (n : ℕ) : Type 0 where
  leads : (row m : ℕ) → row < suc (length from.types) → m < n → program_at table (m * suc (length from.types) + row)
      ≡ compiled_tree (row_branches from row) (tree_of to m)
  within : n * suc (length from.types) ≤ length table

row_end : (rows m n row : ℕ) → m < n → row < rows → m * rows + row < n * rows
row_end rows m n row below low =
    let more = mul-le-mul_left rows (let b : suc m ≤ n = omega (arith, below) in b) in
    omega (arith, more, low)

inner_compiled : (from to : Layout) (table : List (List Step)) (n : ℕ) (base : Base) (sender : Branches) (row : ℕ) → Leads from to table n
    → NestsBelow n base → sender ≡ row_branches from row → row < suc (length from.types)
    → inner_program (programs table) (inner_of (suc (length from.types)) base row) ≡ compiled_part sender (part_of (trees to.types) base)
inner_compiled from to table n (Number kind) sender row leads below same low = refl
inner_compiled from to table n Text sender row leads below same low = refl
inner_compiled from to table n (Nested m) sender row leads below same low =
    leads.leads row m low below ∙ ap (λ (b : Branches). compiled_tree b (tree_of to m)) (sym same)

steps_compiled : (from to : Layout) (table : List (List Step)) (n : ℕ) (sender all fields : List Field) (k : ℕ) → Leads from to table n
    → EachNestsBelow n fields
    → ((i : ℕ) (field : Field) → slice_get sender i ≡ Some field → row_of_base field.base < suc (length from.types))
    → program_of (programs table) (steps_for (suc (length from.types)) sender all k fields)
    ≡ compiled (branches_of (trees from.types) sender) (branches_of (trees to.types) all) (branches_of (trees to.types) fields) k
steps_compiled from to table n sender all [] k leads nests rows_low = refl
steps_compiled from to table n sender all (field ∷ fields) k leads nests rows_low =
    let rows = suc (length from.types) in
    let sent = branches_of (trees from.types) sender in
    let received = branches_of (trees to.types) all in
    let content = content_of_base field.base in
    let row = row_of (field_named field.name sender) in
    let inner = inner_program (programs table) (inner_of rows field.base row) in
    let inside = compiled_part (inside_partner (branch_named field.name sent)) (part_of (trees to.types) field.base) in
    let rest = program_of (programs table) (steps_for rows sender all (suc k) fields) in
    let rest' = compiled sent received (branches_of (trees to.types) fields) (suc k) in
    let one = known_branches-of (trees from.types) sender in
    let two = known_branches-of (trees to.types) all in
    let three = content_of-part_of (trees to.types) field.base in
    let task_is : task_for (known_fields sender) (known_fields all) k field content
    ≡ task_for (known_branches sent) (known_branches received) k field (content_of (part_of (trees to.types) field.base)) =
    ap (λ (known : List (Field × Content)). task_for known (known_fields all) k field content) (sym one)
    ∙ ap (λ (known : List (Field × Content)). task_for (known_branches sent) known k field content) (sym two)
    ∙ ap (task_for (known_branches sent) (known_branches received) k field) (sym three) in
    let inner_is : inner ≡ inside =
    inner_compiled from to table n field.base (inside_partner (branch_named field.name sent)) row leads (nests 0 field refl)
    (partner_row from field.name sender) (row_below rows field.name sender (omega arith) rows_low) in
    let rest_is : rest ≡ rest' = steps_compiled from to table n sender all fields (suc k) leads (λ i other found. nests (suc i) other found)
    rows_low in
    ap (λ (t : Task). performs t inner rest) task_is
    ∙ ap (λ (p : Program). performs (task_for (known_branches sent) (known_branches received) k field
    (content_of (part_of (trees to.types) field.base))) p rest) inner_is
    ∙ ap (performs (task_for (known_branches sent) (known_branches received) k field (content_of (part_of (trees to.types) field.base)))
    inside) rest_is

-- inner steps stand before these
inner_below : (rows n : ℕ) (base : Base) (row m : ℕ) → NestsBelow n base → row < rows → inner_of rows base row ≡ Some m → m < n * rows
inner_below rows n (Number kind) row m below low is = cc
inner_below rows n Text row m below low is = cc
inner_below rows n (Nested t) row m below low is =
    let number : t * rows + row ≡ m = cc in
    let end = row_end rows t n row below low in
    omega (arith, end, number)

steps_below : (rows n : ℕ) (sender all fields : List Field) (k i m : ℕ) (step : Step) → 1 ≤ rows → EachNestsBelow n fields
    → ((j : ℕ) (field : Field) → slice_get sender j ≡ Some field → row_of_base field.base < rows)
    → slice_get (steps_for rows sender all k fields) i ≡ Some step → step.inner ≡ Some m → m < n * rows
steps_below rows n sender all [] k i m step some nests rows_low found is = cc
steps_below rows n sender all (field ∷ fields) k zero m step some nests rows_low found is =
    let same : step_for rows sender all k field ≡ step = cc in
    inner_below rows n field.base (row_of (field_named field.name sender)) m (nests 0 field refl)
    (row_below rows field.name sender some rows_low) (ap (λ (s : Step). s.inner) same ∙ is)
steps_below rows n sender all (field ∷ fields) k (suc i) m step some nests rows_low found is =
    steps_below rows n sender all fields (suc k) i m step some (λ j other there. nests (suc j) other there) rows_low found is

-- ---- one list more

last_or_before : {A : Type 0} (xs : List A) (x y : A) (k : ℕ) → slice_get (xs ++ x ∷ []) k ≡ Some y → (slice_get xs k ≡ Some y)
    ⊎ ((k ≡ length xs) × (x ≡ y))
last_or_before [] x y zero found = let same : x ≡ y = cc in inr (refl, same)
last_or_before [] x y (suc k) found = cc
last_or_before (z ∷ xs) x y zero found = inl found
last_or_before (z ∷ xs) x y (suc k) found = elim (last_or_before xs x y k found)
    [ inl before ↦ inl before | inr last ↦ inr (ap suc last.0, last.1) ]

pub empty_table : (from to : Layout) → IsTable from to []
empty_table from to = record { ordered = λ n k m steps step found there is. absurd (cc); each = λ row n low below. absurd (omega arith) }

pub table_more : (from to : Layout) (table : List (List Step)) (steps : List Step) (row n : ℕ) (sender all : List Field)
    → IsTable from to table → length table ≡ n * suc (length from.types) + row
    → IsRow from row sender → IsTypeOf to n all → steps ≡ steps_for (suc (length from.types)) sender all 0 all
    → IsTable from to (table ++ steps ∷ [])
table_more from to table steps row n sender all is size row_is type_is steps_are =
    let rows = suc (length from.types) in
    let leads : Leads from to table n =
    record {
      leads = λ r m low below. is.each r m low (let end = row_end rows m n r below low in omega (arith, end, size));
      within = omega (arith, size);
    } in
    let made : program_of (programs table) steps ≡ compiled_tree (row_branches from row) (tree_of to n) =
    ap (program_of (programs table)) steps_are ∙ steps_compiled from to table n sender all all 0 leads type_is.nests row_is.each
    ∙ ap (λ (b : Branches). compiled b (branches_of (trees to.types) all) (branches_of (trees to.types) all) 0) (sym row_is.fields)
    ∙ ap (compiled_tree (row_branches from row)) (sym type_is.tree_is) in
    let grown = length-append table (steps ∷ []) in
    record {
      ordered = λ q k m some step found there inner_is.
          elim (last_or_before table steps some q found) [
            | inl before ↦ is.ordered q k m some step before there inner_is
            | inr last ↦ (
                let here : slice_get (steps_for rows sender all 0 all) k
                ≡ Some step = ap (λ (s : List Step). slice_get s k) (sym (sym last.1 ∙ steps_are)) ∙ there in
                let below = steps_below rows n sender all all 0 k m step (omega arith) type_is.nests row_is.each here inner_is in
                let at : q ≡ length table = last.0 in
                omega (arith, below, at, size))
          ];
      each = λ r m low below.
          elim (below_or_at (m * rows + r) (length table) (omega (arith, below, grown))) [
            | inl before ↦ program_at-before table (steps ∷ []) (m * rows + r) before ∙ is.each r m low before
            | inr at ↦ (
                let same_type : m ≡ n = sym (div-mul-add m rows r low) ∙ ap (λ (i : ℕ). i / rows) (at ∙ size)
                ∙ div-mul-add n rows row row_is.low in
                let scaled : m * rows ≡ n * rows = ap (λ (i : ℕ). i * rows) same_type in
                let same_row : r ≡ row = omega (arith, at, size, scaled) in
                ap (program_at (table ++ steps ∷ [])) at ∙ program_at-added table [] steps ∙ made
                ∙ ap (λ (i : ℕ). compiled_tree (row_branches from i) (tree_of to n)) (sym same_row)
                ∙ ap (λ (i : ℕ). compiled_tree (row_branches from r) (tree_of to i)) (sym same_type))
          ];
    }
  where
    below_or_at : (a b : ℕ) → a < b + 1 → (a < b) ⊎ (a ≡ b)
    below_or_at a b below = search (rules, arith)

-- ---- rows and types of well laid formats

row_of_nested : (pointer : ℕ) (types : List RecordType) (k : ℕ) (base : Base) (size : ℕ) → HasBaseSize pointer (take k types) base size
    → row_of_base base < suc (length types)
row_of_nested pointer types k (Number kind) size sized = omega arith
row_of_nested pointer types k Text size sized = omega arith
row_of_nested pointer types k (Nested n) size sized =
    let below = slice_get-below (take k types) n sized.0 sized.1 in
    let short = length-take_le k types in
    omega (arith, below, short)
  where
    length-take_le : {A : Type 0} (k : ℕ) (xs : List A) → length (take k xs) ≤ length xs
    length-take_le zero xs = omega arith
    length-take_le (suc k) [] = omega arith
    length-take_le (suc k) (x ∷ xs) = let rest = length-take_le k xs in omega (arith, rest)

nests_by : (pointer : ℕ) (types : List RecordType) (k : ℕ) (base : Base) (size : ℕ) → HasBaseSize pointer (take k types) base size
    → NestsBelow k base
nests_by pointer types k (Number kind) size sized = tt
nests_by pointer types k Text size sized = tt
nests_by pointer types k (Nested n) size sized =
    let below = slice_get-below (take k types) n sized.0 sized.1 in
    let short = length-take_le k types in
    omega (arith, below, short)
  where
    length-take_le : {A : Type 0} (k : ℕ) (xs : List A) → length (take k xs) ≤ k
    length-take_le zero xs = omega arith
    length-take_le (suc k) [] = omega arith
    length-take_le (suc k) (x ∷ xs) = let rest = length-take_le k xs in omega (arith, rest)

pub no_row : (from : Layout) → IsRow from 0 []
no_row from = record { low = omega arith; fields = refl; each = λ i field found. absurd (cc) }

pub row_laid : (from : Layout) (n : ℕ) (type : RecordType) → IsWellLaid from → slice_get from.types n ≡ Some type
    → IsRow from (suc n) type.fields
row_laid from n type laid found =
    let below = slice_get-below from.types n type found in
    record {
      low = omega (arith, below);
      fields = ap branches_in (tree_of-resolved from n type laid found);
      each = λ i field there. row_of_nested from.pointer from.types n field.base field.size
          ((laid.each_type n type found).each_field i field there).size_allowed;
    }

pub type_laid : (to : Layout) (n : ℕ) (type : RecordType) → IsWellLaid to → slice_get to.types n ≡ Some type → IsTypeOf to n type.fields
type_laid to n type laid found =
    record {
      long = type.length;
      tree_is = tree_of-resolved to n type laid found;
      nests = λ i field there. nests_by to.pointer to.types n field.base field.size
          ((laid.each_type n type found).each_field i field there).size_allowed;
    }

-- the last list makes the record
pub whole_compiled : (from to : Layout) (table : List (List Step)) → IsWellLaid from → IsWellLaid to → IsTable from to table
    → length table ≡ length to.types * suc (length from.types)
    → program_at table (length table - 1) ≡ compiled_tree (branches_in (root_of from)) (root_of to)
whole_compiled from to table laid laid' is size =
    let p = length from.types in
    let q = length to.types in
    let some = laid.types_allowed.0 in
    let some' = laid'.types_allowed.0 in
    let whole : (q - 1) * suc p + suc p ≡ q * suc p = rows_end q (suc p) some' in
    let last : length table - 1 ≡ (q - 1) * suc p + p = omega (arith, whole, size) in
    let row : suc (p - 1) ≡ p = omega (arith, some) in
    ap (program_at table) last ∙ is.each p (q - 1) (omega arith) (omega (arith, whole, size))
    ∙ ap (λ (i : ℕ). compiled_tree (row_branches from i) (tree_of to (q - 1))) (sym row)
  where
    rows_end : (q rows : ℕ) → 1 ≤ q → (q - 1) * rows + rows ≡ q * rows
    rows_end zero rows some = absurd (omega (arith, some))
    rows_end (suc q) rows some = let less : suc q - 1 ≡ q = omega arith in rw less (omega arith)

-- the length of the record is that of the last type
pub root_length : (to : Layout) (type : RecordType) → IsWellLaid to → slice_get to.types (length to.types - 1) ≡ Some type
    → type.length ≡ length_of (root_of to)
root_length to type laid found = sym (ap length_of (tree_of-resolved to (length to.types - 1) type laid found))

-- a table has lists
pub some_lists : (from to : Layout) (table : List (List Step)) → IsWellLaid to → length table ≡ length to.types * suc (length from.types)
    → 1 ≤ length table
some_lists from to table laid size =
    let some = laid.types_allowed.0 in
    let more = mul-le-mul_left (suc (length from.types)) some in
    omega (arith, more, size)
