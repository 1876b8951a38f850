use Rattle.std.proofs.Common.{ℕ, ◌^◌, ◌<◌, ℤ, pos, sym, ap, subst, ◌∙◌, arith}
use Rattle.std.specs.Prelude.{IsTrue}
use Rattle.std.specs.Int.{w128}
use Rattle.std.proofs.lemmas.Int.{to_z_pos}
use Rattle.evp_base.specs.Numbers.{digits, is_width, FitsBytes}
use Rattle.evp_format.specs.Bytes.{put_at}
use Rattle.evp_profile.specs.Profile.{byte_order}
use Rattle.evp_gen.proofs.Pointers.{pointer_fits, pointer_width}
use Rattle.evp_gen.proofs.put.put_pointer.Goals as goal

pub put_digits-requires : goal.put_digits-requires
put_digits-requires c =
    let size = c.pointer_of-size.ensures.value in
    let near = c.requires.near in
    let inside = c.requires.inside in
    let small : c.args.block < 2 ^ 127 = omega (arith, near) in
    record {
      allowed = subst (λ (k : ℕ). IsTrue (is_width k)) (sym size) (pointer_width c.args.profile);
      inside = omega (arith, size, inside);
      fits = subst (λ (z : ℤ). FitsBytes c.pointer_of-size.result z) (sym (to_z_pos w128 c.args.block small))
          (subst (λ (k : ℕ). FitsBytes k (pos c.args.block)) (sym size) (pointer_fits c.args.profile c.args.block near));
    }

pub returns : goal.returns
returns c =
    let size = c.pointer_of-size.ensures.value in
    let near = c.requires.near in
    let small : c.args.block < 2 ^ 127 = omega (arith, near) in
    let order = byte_order c.args.profile in
    c.put_digits.ensures
    ∙ ap (λ (z : ℤ). put_at c.args.at (digits order c.pointer_of-size.result z) c.args.packed.now) (to_z_pos w128 c.args.block small)
    ∙ ap (λ (k : ℕ). put_at c.args.at (digits order k (pos c.args.block)) c.args.packed.now) size
