-- What holds of each tree that the grammar makes.
use Rattle.std.specs.Prelude.{◌≡◌, ℕ, suc, ◌≤◌, max, Bool, true, false}
use Rattle.evp_expr.specs.Tree.{Tree, number, name, field, index, length_of, same, signed, joined}

abbrev pub is_path : Tree → Bool
is_path (number n) = false
is_path (name at word) = true
is_path (field p at word) = true
is_path (index p at i) = true
is_path (length_of p) = false
is_path (same p text) = false
is_path (signed at s x) = false
is_path (joined at op l r) = false

-- a path stands wherever one should
abbrev pub IsFormed : Tree → Type 0
IsFormed (number n) = Unit {0}
IsFormed (name at word) = Unit {0}
IsFormed (field p at word) = (is_path p ≡ true) × IsFormed p
IsFormed (index p at i) = (is_path p ≡ true) × (IsFormed p × IsFormed i)
IsFormed (length_of p) = (is_path p ≡ true) × IsFormed p
IsFormed (same p text) = (is_path p ≡ true) × IsFormed p
IsFormed (signed at s x) = IsFormed x
IsFormed (joined at op l r) = IsFormed l × IsFormed r

-- The values that stand ready at once at most, where the nodes of a tree are taken in order and
-- each puts one value in the place of those of its parts.
abbrev pub stack_need : Tree → ℕ
stack_need (number n) = 1
stack_need (name at word) = 1
stack_need (field p at word) = stack_need p
stack_need (index p at i) = max (stack_need p) (suc (stack_need i))
stack_need (length_of p) = stack_need p
stack_need (same p text) = stack_need p
stack_need (signed at s x) = stack_need x
stack_need (joined at op l r) = max (stack_need l) (suc (stack_need r))

-- six values for each of 64 levels, and six for the whole
abbrev pub most_ready : ℕ
most_ready = 390

-- a tree that the grammar makes within the levels that may be open
pub record IsSound (tree : Tree) : Type 0 where
  pub formed : IsFormed tree
  pub shallow : stack_need tree ≤ most_ready
