-- The nodes of a tree, each behind those of its parts, and the tree that nodes make.
use Rattle.std.specs.Prelude.{◌≡◌, ℕ, ◌≤◌, pos, List, [], ◌∷◌, ◌++◌, length, take, drop, Option}
use Rattle.std.specs.Prelude.{Some, None, option_to_list, refl}
use Rattle.std.specs.Coded.{Coded, code_by, coded_list}
use Rattle.std.proofs.Common.{append_assoc, ◌∙◌, ap}
use Rattle.evp_expr.specs.declared.node.Node.{Node}
use Rattle.evp_expr.specs.declared.node.Node.TheVariants as node
use Rattle.evp_expr.specs.declared.operator.Operator.TheVariants.{Or, And}
use Rattle.evp_expr.specs.contracts.node.Node as node_contract
use Rattle.evp_expr.specs.Tree.{Tree, number, name, field, index, length_of, same, signed, joined}

-- what stands before the right part of a node, which has n nodes: that an index follows, or what a
-- test of two sides may leave out
abbrev pub mark_of : Node → ℕ → Option Node
mark_of (node.Index at) n = Some (node.Open at)
mark_of (node.Joined at Or) n = Some (node.Shortcut Or n)
mark_of (node.Joined at And) n = Some (node.Shortcut And n)
mark_of _ n = None

-- a node behind its left and its right part
abbrev pub joined_nodes : Node → List Node → List Node → List Node
joined_nodes n left right = left ++ (option_to_list (mark_of n (length right)) ++ (right ++ n ∷ []))

-- the nodes of a tree
abbrev pub nodes_of : Tree → List Node
nodes_of (number n) = node.Number n ∷ []
nodes_of (name at word) = node.Name at word ∷ []
nodes_of (field p at word) = nodes_of p ++ node.Field at word ∷ []
nodes_of (index p at i) = joined_nodes (node.Index at) (nodes_of p) (nodes_of i)
nodes_of (length_of p) = nodes_of p ++ node.Length ∷ []
nodes_of (same p text) = nodes_of p ++ node.Same text ∷ []
nodes_of (signed at s x) = nodes_of x ++ node.Signed at s ∷ []
nodes_of (joined at op l r) = joined_nodes (node.Joined at op) (nodes_of l) (nodes_of r)

-- the trees ready, the last first, after a node
abbrev pub grow : Node → List Tree → List Tree
grow (node.Number n) ts = number n ∷ ts
grow (node.Name at word) ts = name at word ∷ ts
grow (node.Field at word) (t ∷ ts) = field t at word ∷ ts
grow (node.Field at word) [] = []
grow (node.Open at) ts = ts
grow (node.Index at) (i ∷ t ∷ ts) = index t at i ∷ ts
grow (node.Index at) (i ∷ []) = i ∷ []
grow (node.Index at) [] = []
grow node.Length (t ∷ ts) = length_of t ∷ ts
grow node.Length [] = []
grow (node.Same text) (t ∷ ts) = same t text ∷ ts
grow (node.Same text) [] = []
grow (node.Signed at s) (t ∷ ts) = signed at s t ∷ ts
grow (node.Signed at s) [] = []
grow (node.Shortcut op n) ts = ts
grow (node.Joined at op) (r ∷ l ∷ ts) = joined at op l r ∷ ts
grow (node.Joined at op) (r ∷ []) = r ∷ []
grow (node.Joined at op) [] = []

-- the trees ready after some nodes
abbrev pub grown : List Node → List Tree → List Tree
grown [] ts = ts
grown (n ∷ ns) ts = grown ns (grow n ts)

-- a mark changes no tree
grown-mark : (n : Node) (k : ℕ) (ns : List Node) (ts : List Tree)
    → grown (option_to_list (mark_of n k) ++ ns) ts ≡ grown ns ts
grown-mark (node.Index at) k ns ts = refl
grown-mark (node.Joined at Or) k ns ts = refl
grown-mark (node.Joined at And) k ns ts = refl
grown-mark _ k ns ts = refl

-- nodes behind those of a joined node
behind : (l m r ns : List Node) (n : Node)
    → (l ++ (m ++ (r ++ n ∷ []))) ++ ns ≡ l ++ (m ++ (r ++ n ∷ ns))
behind l m r ns n =
    append_assoc l (m ++ (r ++ n ∷ [])) ns
    ∙ ap (λ x. l ++ x)
    (append_assoc m (r ++ n ∷ []) ns ∙ ap (λ x. m ++ x) (append_assoc r (n ∷ []) ns))

-- the nodes of a tree make it
pub grown-nodes_of : (t : Tree) (ns : List Node) (ts : List Tree)
    → grown (nodes_of t ++ ns) ts ≡ grown ns (t ∷ ts)
grown-nodes_of (number n) ns ts = refl
grown-nodes_of (name at word) ns ts = refl
grown-nodes_of (field p at word) ns ts =
    ap (λ x. grown x ts) (append_assoc (nodes_of p) (node.Field at word ∷ []) ns)
    ∙ grown-nodes_of p (node.Field at word ∷ ns) ts
grown-nodes_of (index p at i) ns ts =
    ap (λ x. grown x ts) (behind (nodes_of p) (node.Open at ∷ []) (nodes_of i) ns (node.Index at))
    ∙ (grown-nodes_of p (node.Open at ∷ (nodes_of i ++ node.Index at ∷ ns)) ts
    ∙ grown-nodes_of i (node.Index at ∷ ns) (p ∷ ts))
grown-nodes_of (length_of p) ns ts =
    ap (λ x. grown x ts) (append_assoc (nodes_of p) (node.Length ∷ []) ns)
    ∙ grown-nodes_of p (node.Length ∷ ns) ts
grown-nodes_of (same p text) ns ts =
    ap (λ x. grown x ts) (append_assoc (nodes_of p) (node.Same text ∷ []) ns)
    ∙ grown-nodes_of p (node.Same text ∷ ns) ts
grown-nodes_of (signed at s x) ns ts =
    ap (λ y. grown y ts) (append_assoc (nodes_of x) (node.Signed at s ∷ []) ns)
    ∙ grown-nodes_of x (node.Signed at s ∷ ns) ts
grown-nodes_of (joined at op l r) ns ts =
    let n = node.Joined at op in
    let m = option_to_list (mark_of n (length (nodes_of r))) in
    ap (λ x. grown x ts) (behind (nodes_of l) m (nodes_of r) ns n)
    ∙ (grown-nodes_of l (m ++ (nodes_of r ++ n ∷ ns)) ts
    ∙ (grown-mark n (length (nodes_of r)) (nodes_of r ++ n ∷ ns) (l ∷ ts)
    ∙ grown-nodes_of r (n ∷ ns) (l ∷ ts)))

-- the last of the trees, or 0 where there is none
abbrev pub last_tree : List Tree → Tree
last_tree [] = number (pos 0)
last_tree (t ∷ ts) = t

-- the tree that nodes make
abbrev pub tree_of : List Node → Tree
tree_of ns = last_tree (grown ns [])

pub tree_of-nodes_of : (t : Tree) → tree_of (nodes_of t ++ []) ≡ t
tree_of-nodes_of t = ap last_tree (grown-nodes_of t [] [])

abbrev pub tree_code : Coded Tree
tree_code =
    code_by (List Node) (coded_list node_contract.the_row.coded)
    (λ t. nodes_of t ++ []) tree_of tree_of-nodes_of

-- the nodes of the trees ready, the last tree first
abbrev pub nodes_of_all : List Tree → List Node
nodes_of_all [] = []
nodes_of_all (t ∷ ts) = nodes_of_all ts ++ nodes_of t

-- where the nodes of each tree begin, the last tree first
abbrev pub starts_of : List Tree → List ℕ
starts_of [] = []
starts_of (t ∷ ts) = length (nodes_of_all ts) ∷ starts_of ts

abbrev pub HasOne : List Tree → Type 0
HasOne [] = ⊥
HasOne (t ∷ ts) = Unit {0}

abbrev pub HasTwo : List Tree → Type 0
HasTwo [] = ⊥
HasTwo (t ∷ []) = ⊥
HasTwo (t ∷ u ∷ ts) = Unit {0}

-- the parts of a node stand ready; marks are no nodes of their own
abbrev pub CanGrow : Node → List Tree → Type 0
CanGrow (node.Number n) ts = Unit {0}
CanGrow (node.Name at word) ts = Unit {0}
CanGrow (node.Field at word) ts = HasOne ts
CanGrow (node.Open at) ts = ⊥
CanGrow (node.Index at) ts = HasTwo ts
CanGrow node.Length ts = HasOne ts
CanGrow (node.Same text) ts = HasOne ts
CanGrow (node.Signed at s) ts = HasOne ts
CanGrow (node.Shortcut op n) ts = ⊥
CanGrow (node.Joined at op) ts = HasTwo ts

-- the last tree begins within n nodes
abbrev pub HasStart : ℕ → List ℕ → Type 0
HasStart n [] = ⊥
HasStart n (start ∷ starts) = start ≤ n

-- The nodes before become those after by a node that joins the last tree with what stands before
-- it. The last tree's start goes.
abbrev pub PutsJoining : Node → List Node → List Node → List ℕ → List ℕ → Type 0
PutsJoining n before after [] others = ⊥
PutsJoining n before after (start ∷ starts) others =
    (after ≡ joined_nodes n (take start before) (drop start before)) × (others ≡ starts)
