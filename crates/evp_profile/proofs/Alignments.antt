-- Alignments are never 0, and a loop finds the greatest.
use Rattle.std.proofs.Common.{◌≡◌, ℕ, ◌+◌, ◌<◌, ◌≤◌, List, [], ◌∷◌, ◌++◌, length, get_or, take, max, sym, ap, ◌∙◌, arith}
use Rattle.std.proofs.lemmas.List.{take_more}
use Rattle.evp_format.specs.declared.field.Field.{Field}
use Rattle.evp_format.specs.Tree.{Tree, tree, Branches, no_fields, branch}
use Rattle.evp_profile.specs.declared.profile.Profile.{Profile}
use Rattle.evp_profile.specs.Alignment.{alignment, branches_alignment, field_alignment, fields_alignment}

pub branches_alignment_positive : (profile : Profile) (branches : Branches) → 1 ≤ branches_alignment profile branches
branches_alignment_positive profile no_fields = omega arith
branches_alignment_positive profile (branch field part rest) =
    let more = branches_alignment_positive profile rest in
    omega (arith, more)

pub alignment_positive : (profile : Profile) (type : Tree) → 1 ≤ alignment profile type
alignment_positive profile (tree length branches) = branches_alignment_positive profile branches

fields_alignment_push : (profile : Profile) (trees : List Tree) (fields : List Field) (field : Field)
    → fields_alignment profile trees (fields ++ field ∷ []) ≡ max (fields_alignment profile trees fields)
    (field_alignment profile trees field)
fields_alignment_push profile trees [] field = omega arith
fields_alignment_push profile trees (first ∷ fields) field =
    let rest = fields_alignment_push profile trees fields field in
    omega (arith, rest)

-- the greatest alignment, one field on
pub fields_alignment_more : (profile : Profile) (trees : List Tree) (fields : List Field) (k : ℕ) (field : Field) (greatest own : ℕ)
    → k < length fields → field ≡ get_or fields k field
    → greatest ≡ fields_alignment profile trees (take k fields) → own ≡ field_alignment profile trees field
    → max greatest own ≡ fields_alignment profile trees (take (k + 1) fields)
fields_alignment_more profile trees fields k field greatest own below is so_far one =
    let grown : take (k + 1) fields ≡ take k fields ++ field ∷ [] = take_more fields k field below
    ∙ ap (λ (x : Field). take k fields ++ x ∷ []) (sym is) in
    let pushed = fields_alignment_push profile trees (take k fields) field in
    let whole = ap (fields_alignment profile trees) grown in
    omega (arith, so_far, one, pushed, whole)
