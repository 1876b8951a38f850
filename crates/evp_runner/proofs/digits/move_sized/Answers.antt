use Rattle.std.proofs.Common.{◌≡◌, ℕ, ◌+◌, ◌-◌, List, length, take, drop, ap, ◌∙◌, arith}
use Rattle.std.proofs.lemmas.List.{length-drop, length-take}
use Rattle.evp_base.specs.declared.order.Order.{Order}
use Rattle.evp_base.specs.Numbers.{number, digits}
use Rattle.evp_base.proofs.Numbers.{length-digits}
use Rattle.evp_format.specs.Bytes.{bytes_at, put_at}
use Rattle.evp_runner.proofs.MidPut.{mid_put}
use Rattle.evp_runner.proofs.digits.move_sized.Goals as goal

pub returns : goal.returns
returns c =
    let t = c.args.t in
    let size = c.args.size in
    let out = c.args.out.now in
    let order = c.args.work.now.plan.now.order in
    let source = c.args.source.now in
    let s = c.args.at + source.offset in
    let bytes = c.args.work.now.sender.bytes.now in
    let value = number c.args.work.now.sender.order source.kind (bytes_at s source.size bytes) in
    let part = t + size - t in
    let left = length-drop t out in
    let taken = length-take part (drop t out) in
    let room = c.requires.room in
    let long : length (take part (drop t out)) ≡ size = omega (arith, room, left, taken) in
    let width : s + c.args.width - s ≡ source.size = omega (arith, c.requires.sized) in
    let read = λ (k : ℕ). number c.args.work.now.sender.order source.kind (take k (drop s bytes)) in
    let made : c.rewrite_number.new.out ≡ digits order size value =
    c.rewrite_number.ensures ∙ ap (λ (o : Order). digits o (length (take part (drop t out))) (read (s + c.args.width - s))) c.order.ensures
    ∙ ap (λ (k : ℕ). digits order k (read (s + c.args.width - s))) long ∙ ap (λ (k : ℕ). digits order size (read k)) width in
    mid_put t size out c.rewrite_number.new.out (ap length made ∙ length-digits order size value) room
    ∙ ap (λ (l : List ℕ). put_at t l out) made
