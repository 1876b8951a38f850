use Rattle.std.proofs.Common.{◌≡◌, ℕ, ◌+◌, ◌++◌, length, take, drop, sym, ap, ◌∙◌, append_assoc, arith}
use Rattle.std.proofs.lemmas.List.{length-take}
use Rattle.evp_runner.proofs.digits.put_first.Goals as goal

pub returns : goal.returns
returns c =
    let out = c.args.out.now in
    let first = take c.args.count c.args.bytes.now in
    let long : c.args.count ≡ length first = omega (arith, length-take c.args.count c.args.bytes.now, c.requires.front) in
    c.put_front.ensures ∙ sym (append_assoc (take c.args.t out) first (drop (c.args.t + c.args.count) out))
    ∙ ap (λ (n : ℕ). (take c.args.t out ++ first) ++ drop (c.args.t + n) out) long
