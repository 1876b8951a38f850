use Rattle.std.proofs.Common.{◌≡◌, ◌+◌, ◌-◌, ℕ, pos, length, take, drop, ap, ◌∙◌, arith}
use Rattle.std.specs.Prelude.{replicate}
use Rattle.std.proofs.lemmas.List.{length-take, length-drop}
use Rattle.evp_base.specs.Numbers.{digits}
use Rattle.evp_base.specs.declared.order.Order.TheVariants.{Little}
use Rattle.evp_wide.proofs.Gaps.{text_put}
use Rattle.evp_wide.proofs.zeros.put_windows.Goals as goal

pub returns-clause-front : goal.returns-clause-front
returns-clause-front c =
    let size = c.args.size in
    let k = size + 8 - size in
    let out = c.args.out.now in
    let long : length (take k (drop size out)) ≡ 8 =
    omega (arith, length-take k (drop size out), length-drop size out, c.requires.room, c.requires.gap) in
    let zeros : c.put_word.new.out ≡ replicate 8 0 = c.put_word.ensures ∙ ap (λ (n : ℕ). digits Little n (pos 0)) long in
    text_put size c.args.to c.args.from c.args.behind k out c.args.bytes.now c.put_word.new.out c.requires.gap c.requires.short
    c.requires.near c.requires.inside c.requires.room (omega arith) zeros
