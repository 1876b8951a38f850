use Rattle.std.proofs.Common.{◌≡◌, ◌≤◌, length, reverse, ◌∷◌, [], ◌++◌, take, drop, refl, sym, ◌∙◌, ap, subst}
use Rattle.std.proofs.lemmas.List.{reverse-append}
use Rattle.evp_expr.specs.Nodes.{PutsJoining, HasStart, joined_nodes}
use Rattle.evp_expr.proofs.Grown.{marked_put, unmarked_put}
use Rattle.evp_expr.proofs.trees.put_joining.Goals as goal
use Rattle.evp_expr.proofs.trees.put_joining.Goals.{in-Some-mark+in_ok-insert, in_default-mark}

pub returns : goal.returns
returns c =
    let n = c.args.node in
    let ns = c.args.nodes.now.items in
    let ms = c.push.new.self.items in
    let start = c.in-Some.start in
    let popped : c.args.starts.now.items ≡ c.pop.new.self.items ++ start ∷ [] = c.in-Some.ensures.items in
    let before : reverse c.args.starts.now.items ≡ start ∷ reverse c.pop.new.self.items =
    ap reverse popped ∙ reverse-append c.pop.new.self.items (start ∷ []) in
    let within : start ≤ length ns = subst (λ x. HasStart (length ns) x) before c.requires in
    let made : ms ≡ joined_nodes n (take start ns) (drop start ns) =
    elim c.match-mark.branch [
      | in-Some-mark+in_ok-insert w ↦ marked_put n w.in-Some-mark.mark ns ms start within (cc)
          (rw (c.in_ok-push.ensures.items, w.nodes-is, w.in_ok-insert.ensures.items) refl)
      | in_default-mark w ↦ unmarked_put n ns ms start within (cc) (rw (c.in_ok-push.ensures.items, w.nodes-is) refl)
    ] in
    subst (λ x. PutsJoining n ns ms x (reverse c.pop.new.self.items)) (sym before) (made, refl)
