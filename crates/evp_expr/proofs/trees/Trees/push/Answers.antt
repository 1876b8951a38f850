use Rattle.std.proofs.Common.{◌≡◌, [], reverse, sym, ◌∙◌, ap}
use Rattle.evp_expr.specs.Nodes.{grow, grown, nodes_of_all, starts_of}
use Rattle.evp_expr.proofs.Grown.{grown-nodes_of_all}
use Rattle.evp_expr.proofs.trees.Trees.push.Goals as goal

pub invariant_of-self : goal.invariant_of-self
invariant_of-self c =
    let trees = grow c.args.node (grown c.self.inside.nodes.items []) in
    let nodes : c.put.new.nodes.items ≡ nodes_of_all trees = c.in-Ok.ensures.nodes in
    let starts : reverse c.put.new.starts.items ≡ starts_of trees = c.in-Ok.ensures.starts in
    let back : trees ≡ grown c.put.new.nodes.items [] = sym (ap (λ x. grown x []) nodes ∙ grown-nodes_of_all trees) in
    (nodes ∙ ap nodes_of_all back, starts ∙ ap starts_of back)

pub returns-in-Ok-clause-pushed : goal.returns-in-Ok-clause-pushed
returns-in-Ok-clause-pushed c =
    let trees = grow c.args.node (grown c.self.inside.nodes.items []) in
    let nodes : c.put.new.nodes.items ≡ nodes_of_all trees = c.in-Ok.ensures.nodes in
    rw (← c.self.view_is) (ap (λ x. grown x []) nodes ∙ grown-nodes_of_all trees)
