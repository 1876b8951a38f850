use Rattle.std.proofs.Common.{ℕ, ◌+◌, ◌%◌, ℤ, pos, sym, ap, ◌∙◌, rules}
use Rattle.std.proofs.lemmas.Int.{to_z-of_z}
use mir.Val.{SFits}
use mir.Syntax.{w128}
use Rattle.evp_base.specs.Numbers.{digits}
use Rattle.evp_format.specs.Bytes.{put_at}
use Rattle.evp_format.specs.Converting.{as_number}
use Rattle.evp_format.specs.Packing.{put_pieces}
use Rattle.evp_profile.specs.Profile.{byte_order, pointer_size}
use Rattle.evp_gen.specs.Packed.{listed_pieces, tag_pieces}
use Rattle.evp_gen.specs.Senders.{number_x}
use Rattle.evp_gen.proofs.Packed.{put_all, put_joined}
use Rattle.evp_gen.proofs.records.fill.Goals as goal

pub returns : goal.returns
returns c =
    let profile = c.args.profile in
    let s = c.args.sender in
    let i = c.args.index in
    let order = byte_order profile in
    let start = c.args.packed.now in
    let x = as_number (number_x s i) in
    let behind = 8 + c.pointer_of-behind.result in
    let index : SFits w128 c.from.result = search rules in
    let number : SFits w128 c.number_x.result = search rules in
    let count : SFits w128 c.from-2.result = search rules in
    let first = c.put_digits.ensures
    ∙ ap (λ (z : ℤ). put_at 0 (digits order 4 z) start) (to_z-of_z w128 c.from.result index ∙ c.from.ensures) in
    let second = c.put_digits-2.ensures
    ∙ ap (λ (z : ℤ). put_at 4 (digits order 4 z) c.put_digits.new.packed) (to_z-of_z w128 c.number_x.result number ∙ c.number_x.ensures)
    ∙ ap (put_at 4 (digits order 4 x)) first in
    let third = c.put_tag.ensures ∙ ap (put_pieces (tag_pieces profile i).all) second in
    let fourth = c.put_digits-3.ensures
    ∙ ap (λ (z : ℤ). put_at behind (digits order 4 z) c.put_tag.new.packed) (to_z-of_z w128 c.from-2.result count ∙ c.from-2.ensures)
    ∙ ap (put_at behind (digits order 4 (pos (i % 4)))) third in
    c.put_list.ensures ∙ ap (put_pieces (listed_pieces profile i c.args.middle).all) fourth
    ∙ ap (λ (k : ℕ). put_all profile i c.args.middle (8 + k) x start) c.pointer_of-behind.ensures.value
    ∙ ap (λ (m : ℕ). put_all profile i m (8 + pointer_size profile) x start) c.requires.middle
    ∙ sym (put_joined profile s i start)
