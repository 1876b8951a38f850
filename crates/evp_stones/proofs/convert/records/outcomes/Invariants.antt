use Rattle.std.proofs.Common.{◌≡◌, map, take}
use Rattle.evp_stones.specs.Convert.{item_answer}
use Rattle.evp_stones.specs.Outcomes.{outcome_text}
use Rattle.evp_stones.proofs.convert.records.outcomes.Given as goal

-- the records before this one
abbrev pub invariant-loop-item : goal.invariant-loop-item
invariant-loop-item l =
    map (outcome_text l.conversion.to.now) l.made.items
    ≡ map (item_answer l.conversion.known.now l.conversion.formats.now l.conversion.to.now l.conversion.limit) (take l.item-index l.items)
