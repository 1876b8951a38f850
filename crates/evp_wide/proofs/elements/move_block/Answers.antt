use Rattle.std.proofs.Common.{◌≡◌, ℕ, ◌+◌, ◌*◌, take, ap, sym, ◌∙◌, add-mul, mul_comm, mul_assoc, arith}
use Rattle.std.specs.List.{flat_map}
use Rattle.evp_wide.specs.Gathered.{gathered}
use Rattle.evp_wide.specs.Groups.{groups}
use Rattle.evp_wide.specs.Masks.{are_within}
use Rattle.evp_wide.proofs.Blocks.{block_made, within_repeated, places_of, room_for}
use Rattle.evp_wide.proofs.elements.move_block.Goals as goal

pub gather_lanes-requires-clause-mask : goal.gather_lanes-requires-clause-mask
gather_lanes-requires-clause-mask c =
    let m = c.args.mover.now in
    let room = room_for m.count m.out_size m.from_size m.whole m.shorter in (
      places_of (m.count * m.from_size) m.mask room
          (ap (are_within (m.count * m.from_size)) m.repeats ∙ within_repeated m.count m.from_size _ room m.within),
      m.sixteen,
    )

pub returns : goal.returns
returns c =
    let m = c.args.mover.now in
    let k = c.args.block in
    let from = c.args.from.now in
    let places = take m.out_size m.mask in
    let room = room_for m.count m.out_size m.from_size m.whole m.shorter in
    let place : k * (m.from_size * m.count) ≡ k * m.count * m.from_size =
    ap (λ (n : ℕ). k * n) (mul_comm m.from_size m.count) ∙ sym (mul_assoc k m.count m.from_size) in
    let made = block_made c.args.out.now c.gather_lanes.new.out from m.mask _ m.from_size m.count (k * m.count) (k * 16) _ m.repeats
    m.within room m.sixteen c.requires.out place c.requires.before c.gather_lanes.ensures in
    let next : (k + 1) * 16 ≡ k * 16 + 16 = omega arith in
    ap (λ (n : ℕ). take n c.gather_lanes.new.out) next ∙ made
    ∙ ap (λ (n : ℕ). flat_map (gathered places) (groups m.from_size n from)) (omega (arith, add-mul k 1 m.count))
