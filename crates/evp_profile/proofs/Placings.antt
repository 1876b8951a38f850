-- Where fields stand, one field on.
use Rattle.std.proofs.Common.{◌≡◌, ℕ, suc, ◌+◌, ◌<◌, ◌≤◌, List, [], ◌∷◌, ◌++◌, length, get_or, drop, refl, sym, ap, ◌∙◌, arith}
use Rattle.std.proofs.Common.{append_assoc}
use Rattle.std.proofs.lemmas.List.{at_drop_all, append-nil}
use Rattle.evp_format.specs.declared.field.Field.{Field}
use Rattle.evp_format.specs.Tree.{Tree}
use Rattle.evp_format.proofs.Loops.{next_left}
use Rattle.evp_profile.specs.declared.profile.Profile.{Profile}
use Rattle.evp_profile.specs.Placing.{offset_behind, end_behind, end_of_fields, field_at, placed_fields}

pub end_behind_grows : (profile : Profile) (trees : List Tree) (end : ℕ) (field : Field) → end ≤ end_behind profile trees end field
end_behind_grows profile trees end field = omega arith

pub end_of_fields_grows : (profile : Profile) (trees : List Tree) (end : ℕ) (fields : List Field)
    → end ≤ end_of_fields profile trees end fields
end_of_fields_grows profile trees end [] = omega arith
end_of_fields_grows profile trees end (field ∷ fields) =
    let first = end_behind_grows profile trees end field in
    let rest = end_of_fields_grows profile trees (end_behind profile trees end field) fields in
    omega (arith, first, rest)

-- the end of the last field, one field on
pub end_more : (profile : Profile) (trees : List Tree) (fields : List Field) (k end behind total : ℕ) (field : Field) → k < length fields
    → field ≡ get_or fields k field
    → behind ≡ end_behind profile trees end field → end_of_fields profile trees end (drop k fields) ≡ total
    → end_of_fields profile trees behind (drop (k + 1) fields) ≡ total
end_more profile trees fields k end behind total field below is stands so_far =
    ap (λ (n : ℕ). end_of_fields profile trees n (drop (k + 1) fields)) stands
    ∙ sym (next_left (end_of_fields profile trees end) fields k field below is) ∙ so_far

-- no field is left
pub end_all : (profile : Profile) (trees : List Tree) (fields : List Field) (k end total : ℕ) → length fields ≤ k
    → end_of_fields profile trees end (drop k fields) ≡ total → end ≡ total
end_all profile trees fields k end total past so_far = sym (at_drop_all (end_of_fields profile trees end) fields k past) ∙ so_far

-- a field that ends behind `end` is followed by no less
pub end_from : (profile : Profile) (trees : List Tree) (fields : List Field) (k end behind total : ℕ) (field : Field) → k < length fields
    → field ≡ get_or fields k field
    → behind ≡ end_behind profile trees end field → end_of_fields profile trees end (drop k fields) ≡ total → behind ≤ total
end_from profile trees fields k end behind total field below is stands so_far =
    let more = end_more profile trees fields k end behind total field below is stands so_far in
    let grows = end_of_fields_grows profile trees behind (drop (k + 1) fields) in
    omega (arith, more, grows)

pub length-placed_fields : (profile : Profile) (trees : List Tree) (end : ℕ) (fields : List Field)
    → length (placed_fields profile trees end fields) ≡ length fields
length-placed_fields profile trees end [] = refl
length-placed_fields profile trees end (field ∷ fields) = ap suc
    (length-placed_fields profile trees (end_behind profile trees end field) fields)
