use Rattle.std.proofs.Common.{◌≡◌, List, ℕ, ◌+◌, ◌-◌, ℤ, sym, ap, ◌∙◌, subst, to_z, of_z}
use Rattle.std.specs.Int.{w128}
use Rattle.std.proofs.Math.Facts.{to_z-of_z}
use borrow.Rule.Slice.PartMut.{put_mid}
use Rattle.evp_action.proofs.StoredRecord.{may_put}
use Rattle.evp_action.proofs.WrittenPart.{put_part}
use Rattle.evp_action.specs.Acting.{with_number}
use Rattle.evp_action.specs.Storing.{IsPacked}
use Rattle.evp_base.specs.Numbers.{digits, FitsBytes}
use Rattle.evp_base.proofs.Numbers.{length-digits}
use Rattle.evp_action.proofs.storing.store.Goals as goal

pub put_number-requires-clause-allowed : goal.put_number-requires-clause-allowed
put_number-requires-clause-allowed c =
    let put = may_put c.args.format.now c.types.result.now c.args.field c.args.number c.args.bytes.now c.field-target.result.now
    c.types.ensures.laid c.requires.settable c.requires.fits c.requires.packed c.types.ensures.value c.field-target.ensures.value in
    put.allowed

pub put_number-requires-clause-fits : goal.put_number-requires-clause-fits
put_number-requires-clause-fits c =
    let put = may_put c.args.format.now c.types.result.now c.args.field c.args.number c.args.bytes.now c.field-target.result.now
    c.types.ensures.laid c.requires.settable c.requires.fits c.requires.packed c.types.ensures.value c.field-target.ensures.value in
    let fits = c.ranges.number in
    let Fits : ℤ → Type 0 = λ n. FitsBytes c.field-target.result.now.size n in
    subst Fits (sym (to_z-of_z fits)) put.fits

pub slice_bounds-put_number-end : goal.slice_bounds-put_number-end
slice_bounds-put_number-end c =
    let put = may_put c.args.format.now c.types.result.now c.args.field c.args.number c.args.bytes.now c.field-target.result.now
    c.types.ensures.laid c.requires.settable c.requires.fits c.requires.packed c.types.ensures.value c.field-target.ensures.value in
    put.within

pub returns-clause-stored : goal.returns-clause-stored
returns-clause-stored c entries held =
    let layout = c.args.format.now in
    let target = c.field-target.result.now in
    let put = may_put layout c.types.result.now c.args.field c.args.number c.args.bytes.now target c.types.ensures.laid c.requires.settable
    c.requires.fits c.requires.packed c.types.ensures.value c.field-target.ensures.value in
    let word = digits layout.order target.size c.args.number in
    let written : c.put_number.new.out ≡ word = c.put_number.ensures
    ∙ ap (λ order. digits order target.size (to_z w128 (of_z w128 c.args.number))) c.order-order.ensures
    ∙ ap (digits layout.order target.size) (to_z-of_z c.ranges.number) in
    let part = put_part target.offset target.size word c.args.bytes.now (length-digits layout.order target.size c.args.number) in
    let end = target.offset + target.size - target.offset in
    let Packed : List ℕ → Type 0 = λ bytes. IsPacked layout (with_number c.args.field c.args.number entries) bytes in
    subst Packed (sym (ap (λ (new : List ℕ). put_mid target.offset end c.args.bytes.now new) written ∙ part)) (put.stored entries held)
