use Rattle.std.proofs.Common.{◌≡◌, ℕ, cond, eqb, not, w8, ap, ◌∙◌, arith}
use Rattle.std.proofs.lemmas.Simd.{bitmask_splat, first_set_mask_l, length-chunk, run_in_chunk_le, run_in_chunk_fails, run_in_chunk_stops}
use Rattle.std.specs.List.{prefix_len}
use lib.Count.{count_trailing_zeros}
use lib.Lanes.{chunk}
use Rattle.memchr.specs.Find.{is_byte}
use Rattle.evp_wide.proofs.zeros.run_at.Goals as goal

-- so many bytes of the window aren't zero
counted : (c : goal.After-first_set) → c.first_set.result ≡ prefix_len (λ x. not (is_byte 0 x)) (chunk c.args.at 16 c.args.bytes.now)
counted c =
    let window = chunk c.args.at 16 c.args.bytes.now in
    let long = length-chunk c.args.at 16 c.args.bytes.now c.requires in
    c.first_set.ensures
    ∙ ap (λ (m : ℕ). cond (eqb m 0) 16 (count_trailing_zeros 64 m)) (bitmask_splat w8 eqb window 16 0 long (omega arith))
    ∙ first_set_mask_l (is_byte 0) window 16 long (omega arith)

pub returns-clause-within : goal.returns-clause-within
returns-clause-within c = run_in_chunk_le (is_byte 0) c.args.bytes.now c.args.at 16 c.first_set.result 0 c.requires (counted c)

pub returns-clause-before : goal.returns-clause-before
returns-clause-before c k from to here =
    let other = run_in_chunk_fails (is_byte 0) c.args.bytes.now c.args.at 16 c.first_set.result 0 c.requires (counted c) k from to in
    cc (here, other)

pub returns-clause-here : goal.returns-clause-here
returns-clause-here c = run_in_chunk_stops (is_byte 0) c.args.bytes.now c.args.at 16 c.first_set.result 0 c.requires (counted c)
