-- How deep the fields nest, one field on.
use Rattle.std.proofs.Common.{◌≡◌, ℕ, ◌+◌, ◌<◌, List, [], ◌∷◌, ◌++◌, length, get_or, take, max, refl, sym, ap, ◌∙◌}
use Rattle.std.proofs.lemmas.List.{take_more}
use Rattle.std.proofs.lemmas.List.Recursion.{max_push}
use Rattle.evp_format.specs.declared.field.Field.{Field}
use Rattle.evp_format.specs.Tree.{Tree, branches_of, part_of}
use Rattle.evp_format.specs.WellLaid.{branches_depth, part_depth}

pub depth_more : (trees : List Tree) (fields : List Field) (k : ℕ) (field : Field) (deepest nested : ℕ) → k < length fields → field
    ≡ get_or fields k field
    → deepest ≡ branches_depth (branches_of trees (take k fields)) → nested ≡ part_depth (part_of trees field.base)
    → max deepest nested ≡ branches_depth (branches_of trees (take (k + 1) fields))
depth_more trees fields k field deepest nested below is so_far one =
    let depth_of : List Field → ℕ = λ some. branches_depth (branches_of trees some) in
    let pushed = max_push depth_of (λ (some : Field). part_depth (part_of trees some.base)) refl (λ x xs. refl) (take k fields) field in
    let grown : take (k + 1) fields ≡ take k fields ++ field ∷ [] = take_more fields k field below
    ∙ ap (λ (x : Field). take k fields ++ x ∷ []) (sym is) in
    ap (λ (n : ℕ). max n nested) so_far ∙ ap (λ (n : ℕ). max (depth_of (take k fields)) n) one ∙ sym pushed ∙ ap depth_of (sym grown)
