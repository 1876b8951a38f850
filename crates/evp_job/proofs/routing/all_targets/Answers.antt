use Rattle.std.proofs.Common.{◌≡◌, ℕ, ◌<◌, ◌^◌, List, length, All, sym, subst}
use Rattle.std.proofs.lemmas.List.Elements.{All-map}
use Rattle.evp_stone.specs.declared.stone.Stone.{Stone}
use Rattle.evp_job.proofs.routing.all_targets.Goals as goal

pub returns-clause-few : goal.returns-clause-few
returns-clause-few c =
    subst (λ (rows : List (List ℕ)). All (λ (row : List ℕ). length row < 2 ^ 16) rows) (sym c.in_ok-targets.ensures)
    (All-map (λ (row : List ℕ). length row < 2 ^ 16) (λ (stone : Stone). stone.targets) c.args.stones.now c.requires)
