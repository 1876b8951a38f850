use Rattle.std.proofs.Common.{length, sym, subst}
use Rattle.std.specs.List.{All}
use Rattle.evp_format.specs.declared.record_type.RecordType.{RecordType}
use Rattle.evp_format.proofs.Parts.{ended_facts}
use Rattle.evp_profile.specs.Declarations.{fields_declared}
use Rattle.evp_profile.specs.Sizes.{HasNumberSize, HasDraftSize}
use Rattle.evp_profile.proofs.Ends.{counted_sized}
use Rattle.evp_profile.proofs.StatedFacts.{stated_sized}
use Rattle.evp_profile.proofs.laying_out.laid_type.Goals as goal

pub placed_type-requires : goal.placed_type-requires
placed_type-requires c =
    let so_far = c.so_far-types.result.now in
    let drafts = c.deref-2.result.now in
    let stated = stated_sized so_far.pointer so_far.types (fields_declared c.deref.result.now) c.in_ok-drafts.drafts.items
    c.in_ok-drafts.ensures.value in
    let ended = ended_facts so_far.types c.in_ok-name.name 0 drafts c.in_ok-unplaced.unplaced c.in_ok-unplaced.ensures.value in
    subst (λ (type : RecordType). All HasNumberSize type.fields) ended.is
    (counted_sized (length so_far.types) drafts ended.fields ended.counted
    (subst (All HasDraftSize) (sym c.deref-2.ensures.value) stated.0))
