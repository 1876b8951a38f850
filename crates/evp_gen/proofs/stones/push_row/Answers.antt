use Rattle.std.proofs.Common.{◌≡◌, ◌+◌, List, [], ◌∷◌, ◌++◌, map, sym, ap, ◌∙◌, append_assoc}
use Rattle.std.proofs.Common.{arith}
use Rattle.std.specs.List.{range_with_len}
use Rattle.std.proofs.lemmas.List.FromFn.{map-range_with_len_more}
use Rattle.serde_json.specs.Data.{Data}
use Rattle.serde_json.specs.View.{view}
use Rattle.evp_gen.specs.Stones.{stone_value}
use Rattle.evp_gen.proofs.stones.push_row.Goals as goal

pub loop-k-preserved : goal.loop-k-preserved
loop-k-preserved c =
    let k = c.loop-k.k in
    let before = map view c.args.stones.now.items in
    let stones = stone_value c.args.row in
    let so_far = map stones (range_with_len 0 k) in
    c.in_ok-push_value.ensures
    ∙ ap (λ (all : List Data). all ++ view c.in_ok-value.value ∷ []) c.loop-k.invariant
    ∙ append_assoc before so_far (view c.in_ok-value.value ∷ [])
    ∙ ap (λ (value : Data). before ++ (so_far ++ value ∷ [])) c.in_ok-value.ensures
    ∙ ap (λ (all : List Data). before ++ all)
    (sym (map-range_with_len_more stones 0 k k (let same : 0 + k ≡ k = omega arith in same)))
