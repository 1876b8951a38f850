use Rattle.std.proofs.Common.{◌≡◌, List, true, sym, subst}
use Rattle.std.specs.Prelude.{Option, IfSome}
use Rattle.std.specs.List.{All}
use Rattle.std.proofs.lemmas.List.Elements.{All-pop, All-push}
use Rattle.evp_plan.specs.Cells.{IsGatherWithin, IsPairWithin}
use Rattle.evp_plan.specs.declared.gather.Gather.{Gather}
use Rattle.evp_plan.specs.declared.gather.Pair.{Pair}
use Rattle.evp_plan.proofs.gathering.add_gather.Goals as goal

pub returns : goal.returns
returns c = λ n reach within fits.
    let gathers = c.args.gathers.now in
    let Plain : Gather → Type 0 = λ gather. gather.plain ≡ true in
    let Within : Gather → Type 0 = IsGatherWithin n reach in
    let Pairs : Pair → Type 0 = IsPairWithin n reach in
    let left = c.pop.new.self.items in
    let here = subst (λ (g : Option Gather). IfSome g Within) c.in-Some.is fits in
    let there = subst (λ (gs : List Gather). All Within gs) (sym c.as_slice.ensures.value) within.first in
    let pair = c.in-Some-pair_with_last.ensures n reach there here in
    record {
      plain = (All-pop Plain gathers.plain.items left c.pop.result c.pop.ensures.items within.plain).0;
      first = (All-pop Within gathers.plain.items left c.pop.result c.pop.ensures.items within.first).0;
      second = subst (λ (ps : List Pair). All Pairs ps) (sym c.in_ok-push-3.ensures.items)
          (All-push Pairs gathers.pairs.items c.in-Some-pair_with_last.pair within.second pair);
      third = within.third;
    }
