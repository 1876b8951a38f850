use Rattle.std.proofs.Common.{◌∙◌}
use Rattle.evp_plan.specs.declared.words.Words.{Words}
use Rattle.evp_plan.specs.Quicks.{IsInside, IsThere}
use Rattle.evp_plan.proofs.WordLists.{slice_sized, slice_known, tests_known}
use Rattle.evp_plan.proofs.quick_tests.QuickTests.each_there.Goals as goal

pub all_there-ones-requires-clause-sized : goal.all_there-ones-requires-clause-sized
all_there-ones-requires-clause-sized c =
    slice_sized 1 c.self.inside.list.items c.self.inside.ones.items c.as_slice.result.now c.as_slice.ensures.value c.self.invariant.1.0

pub all_there-ones-requires-clause-inside : goal.all_there-ones-requires-clause-inside
all_there-ones-requires-clause-inside c =
    slice_known 1 (IsInside c.args.at c.args.bytes.now) c.self.inside.list.items c.args.self.now c.self.inside.ones.items
    c.as_slice.result.now c.as_slice.ensures.value c.self.invariant.1.0 c.self.view_is c.requires

pub all_there-twos-requires-clause-sized : goal.all_there-twos-requires-clause-sized
all_there-twos-requires-clause-sized c =
    slice_sized 2 c.self.inside.list.items c.self.inside.twos.items c.as_slice-2.result.now c.as_slice-2.ensures.value
    c.self.invariant.1.1.0

pub all_there-twos-requires-clause-inside : goal.all_there-twos-requires-clause-inside
all_there-twos-requires-clause-inside c =
    slice_known 2 (IsInside c.args.at c.args.bytes.now) c.self.inside.list.items c.args.self.now c.self.inside.twos.items
    c.as_slice-2.result.now c.as_slice-2.ensures.value c.self.invariant.1.1.0 c.self.view_is c.requires

pub all_there-fours-requires-clause-sized : goal.all_there-fours-requires-clause-sized
all_there-fours-requires-clause-sized c =
    slice_sized 4 c.self.inside.list.items c.self.inside.fours.items c.as_slice-3.result.now c.as_slice-3.ensures.value
    c.self.invariant.1.1.1.0

pub all_there-fours-requires-clause-inside : goal.all_there-fours-requires-clause-inside
all_there-fours-requires-clause-inside c =
    slice_known 4 (IsInside c.args.at c.args.bytes.now) c.self.inside.list.items c.args.self.now c.self.inside.fours.items
    c.as_slice-3.result.now c.as_slice-3.ensures.value c.self.invariant.1.1.1.0 c.self.view_is c.requires

pub all_there-requires-clause-sized : goal.all_there-requires-clause-sized
all_there-requires-clause-sized c =
    slice_sized 8 c.self.inside.list.items c.self.inside.eights.items c.as_slice-4.result.now c.as_slice-4.ensures.value
    c.self.invariant.1.1.1.1.0

pub all_there-requires-clause-inside : goal.all_there-requires-clause-inside
all_there-requires-clause-inside c =
    slice_known 8 (IsInside c.args.at c.args.bytes.now) c.self.inside.list.items c.args.self.now c.self.inside.eights.items
    c.as_slice-4.result.now c.as_slice-4.ensures.value c.self.invariant.1.1.1.1.0 c.self.view_is c.requires

pub returns : goal.returns
returns c = λ there.
    let P : Words → Type 0 = IsThere c.args.at c.args.order c.args.bytes.now in
    tests_known P c.self.inside.list.items c.args.self.now c.as_slice.result.now c.as_slice-2.result.now c.as_slice-3.result.now
    c.as_slice-4.result.now (c.as_slice.ensures.value ∙ c.self.invariant.1.0)
    (c.as_slice-2.ensures.value ∙ c.self.invariant.1.1.0) (c.as_slice-3.ensures.value ∙ c.self.invariant.1.1.1.0)
    (c.as_slice-4.ensures.value ∙ c.self.invariant.1.1.1.1.0) c.self.view_is (c.all_there-ones.ensures c.if-not-ones.false)
    (c.all_there-twos.ensures c.if-not-twos.false) (c.all_there-fours.ensures c.if-not-fours.false) (c.all_there.ensures there)
