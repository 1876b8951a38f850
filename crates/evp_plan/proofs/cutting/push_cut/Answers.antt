use Rattle.std.proofs.lemmas.Result.{on_ok_weaker}
use Rattle.std.proofs.Common.{Some, None}
use Rattle.evp_plan.specs.Cuts.{AddsAbove, AddsPositive, AddsFillsOf}
use Rattle.evp_plan.proofs.CutFills.{zeros_added, positive_added, signed_added}
use Rattle.evp_plan.proofs.cutting.push_cut.Goals as goal

pub returns-in-Zeros : goal.returns-in-Zeros
returns-in-Zeros c =
    let words = c.args.words.now in
    let cut = c.args.cut.now in
    let old = c.args.fills.now.items in
    let new = c.push_above.new.fills.items in
    on_ok_weaker {P = AddsAbove c.args.order words cut.size None old new} {Q = AddsFillsOf c.args.order words old new} c.push_above.result
    (zeros_added c.args.order words cut old new c.requires c.in-Zeros.is) c.push_above.ensures

pub returns-in-Positive : goal.returns-in-Positive
returns-in-Positive c =
    let words = c.args.words.now in
    let cut = c.args.cut.now in
    let below = c.place_of-below.result in
    let old = c.args.fills.now.items in
    let new = c.push_positive.new.fills.items in
    on_ok_weaker {P = AddsPositive c.args.order words cut.size below old new} {Q = AddsFillsOf c.args.order words old new}
    c.push_positive.result
    (positive_added c.args.order words cut below old new c.requires c.in-Positive.is c.place_of-below.ensures) c.push_positive.ensures

pub returns-in-Signed : goal.returns-in-Signed
returns-in-Signed c =
    let words = c.args.words.now in
    let cut = c.args.cut.now in
    let below = c.place_of-below.result in
    let old = c.args.fills.now.items in
    let new = c.push_above-in-Signed.new.fills.items in
    on_ok_weaker {P = AddsAbove c.args.order words cut.size (Some below) old new} {Q = AddsFillsOf c.args.order words old new}
    c.push_above-in-Signed.result
    (signed_added c.args.order words cut below old new c.requires c.in-Signed.is c.place_of-below.ensures) c.push_above-in-Signed.ensures
