use Rattle.std.proofs.Common.{◌≡◌, ℕ, ◌+◌, ◌*◌, ◌%◌, ℤ, map, sym, ap, ◌∙◌, rules, arith}
use Rattle.std.proofs.lemmas.Int.{to_z-of_z}
use mir.Val.{SFits}
use mir.Syntax.{w128}
use Rattle.std.specs.List.{range_with_len}
use Rattle.evp_base.specs.Numbers.{digits}
use Rattle.evp_format.specs.Bytes.{put_at}
use Rattle.evp_format.specs.Packing.{put_pieces}
use Rattle.evp_profile.specs.Profile.{byte_order}
use Rattle.evp_gen.specs.Packed.{element_piece}
use Rattle.evp_gen.proofs.Packed.{one_more}
use Rattle.evp_gen.proofs.lists.put_elements.Goals as goal

pub loop-k-preserved : goal.loop-k-preserved
loop-k-preserved c =
    let k = c.loop-k.k in
    let profile = c.args.profile in
    let at = c.args.block + k * 2 in
    let fits : SFits w128 c.element.result = search rules in
    c.put_digits.ensures
    ∙ ap (λ (n : ℤ). put_at at (digits (byte_order profile) 2 n) c.loop-k.packed)
    (to_z-of_z w128 c.element.result fits ∙ c.element.ensures)
    ∙ ap (put_at at (element_piece profile c.args.block c.args.index k).bytes) c.loop-k.invariant
    ∙ sym (one_more profile c.args.block c.args.index k c.args.packed.now)

pub returns : goal.returns
returns c =
    let ended : c.loop-k.k ≡ c.args.index % 4 = omega arith in
    let piece = element_piece c.args.profile c.args.block c.args.index in
    c.loop-k.invariant ∙ ap (λ (n : ℕ). put_pieces (map piece (range_with_len 0 n)) c.args.packed.now) ended
