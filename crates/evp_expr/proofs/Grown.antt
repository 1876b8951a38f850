-- The trees that stand ready are kept by their nodes and by where each begins.
use Rattle.std.proofs.Common.{◌≡◌, ℕ, ◌-◌, ◌≤◌, List, [], ◌∷◌, ◌++◌, length, take, drop, append_assoc, refl, sym, ◌∙◌, ap}
use Rattle.std.specs.Prelude.{option_to_list, insert, Some, None}
use Rattle.std.proofs.lemmas.List.{append-nil, take-append-drop, length-drop}
use Rattle.evp_expr.specs.declared.node.Node.{Node}
use Rattle.evp_expr.specs.Tree.{Tree}
use Rattle.evp_expr.specs.Nodes.{mark_of, joined_nodes, nodes_of, grow, grown, grown-nodes_of, nodes_of_all}

-- the nodes of the trees ready make them
pub grown-append : (ns ms : List Node) (ts : List Tree) → grown (ns ++ ms) ts ≡ grown ms (grown ns ts)
grown-append [] ms ts = refl
grown-append (n ∷ ns) ms ts = grown-append ns ms (grow n ts)

pub grown-nodes_of_all : (ts : List Tree) → grown (nodes_of_all ts) [] ≡ ts
grown-nodes_of_all [] = refl
grown-nodes_of_all (t ∷ ts) =
    let one = grown-nodes_of t [] (grown (nodes_of_all ts) []) in
    let same = append-nil (nodes_of t) in
    grown-append (nodes_of_all ts) (nodes_of t) []
    ∙ (ap (λ x. grown x (grown (nodes_of_all ts) [])) (sym same) ∙ (one ∙ ap (λ x. t ∷ x) (grown-nodes_of_all ts)))

-- a mark and the node, put
pub marked_put : (n m : Node) (ns ms : List Node) (start : ℕ) → start ≤ length ns → mark_of n (length ns - start) ≡ Some m
    → ms ≡ insert ns start m ++ n ∷ []
    → ms ≡ joined_nodes n (take start ns) (drop start ns)
marked_put n m ns ms start within is e =
    let long : length (drop start ns) ≡ length ns - start = length-drop start ns in
    let marked : mark_of n (length (drop start ns)) ≡ Some m = ap (λ k. mark_of n k) long ∙ is in
    e ∙ (append_assoc (take start ns) (m ∷ drop start ns) (n ∷ [])
    ∙ ap (λ o. take start ns ++ (option_to_list o ++ (drop start ns ++ n ∷ []))) (sym marked))

pub unmarked_put : (n : Node) (ns ms : List Node) (start : ℕ) → start ≤ length ns → mark_of n (length ns - start) ≡ None → ms ≡ ns ++ n ∷ []
    → ms ≡ joined_nodes n (take start ns) (drop start ns)
unmarked_put n ns ms start within is e =
    let long : length (drop start ns) ≡ length ns - start = length-drop start ns in
    let marked : mark_of n (length (drop start ns)) ≡ None = ap (λ k. mark_of n k) long ∙ is in
    e ∙ (ap (λ x. x ++ n ∷ []) (sym (take-append-drop start ns))
    ∙ (append_assoc (take start ns) (drop start ns) (n ∷ [])
    ∙ ap (λ o. take start ns ++ (option_to_list o ++ (drop start ns ++ n ∷ []))) (sym marked)))
