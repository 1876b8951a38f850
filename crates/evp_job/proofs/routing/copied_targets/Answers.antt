use Rattle.std.proofs.Common.{◌≡◌, ℕ, List, [], ◌∷◌, ◌++◌, map, take, sym, ap, ◌∙◌}
use Rattle.std.proofs.lemmas.List.{map_more}
use Rattle.evp_stone.specs.declared.stone.Stone.{Stone}
use Rattle.evp_job.proofs.routing.copied_targets.Goals as goal

pub loop-stone-preserved : goal.loop-stone-preserved
loop-stone-preserved c =
    let row = λ (stone : Stone). stone.targets in
    let stones = c.args.stones.now in
    let k = c.loop-stone.stone-index in
    c.in_ok-push.ensures.items
    ∙ ap (λ (done : List (List ℕ)). done ++ c.in_ok-row.row ∷ []) c.loop-stone.invariant
    ∙ ap (λ (copied : List ℕ). map row (take k stones) ++ copied ∷ []) c.in_ok-row.ensures
    ∙ ap (λ (stone : Stone). map row (take k stones) ++ row stone ∷ []) c.stone-item.is
    ∙ sym (map_more row stones k c.stone-item.result c.loop-stone-test.true)
