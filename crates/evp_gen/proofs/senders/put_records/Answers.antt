use Rattle.std.proofs.Common.{◌≡◌, ℕ, List, ◌++◌, sym, ap, ◌∙◌, append_assoc, arith}
use Rattle.evp_file.specs.Frames.{item_bytes}
use Rattle.evp_gen.specs.Senders.{sent_item, sent_layout}
use Rattle.evp_gen.proofs.Framed.{framed, framed_more}
use Rattle.evp_gen.proofs.senders.put_records.Goals as goal

pub loop-index-preserved : goal.loop-index-preserved
loop-index-preserved c =
    let layout = sent_layout c.args.profile in
    let s = c.args.sender in
    let i = c.loop-index.index in
    let start = c.args.out.now.items in
    let frame = item_bytes (sent_item layout s i) in
    c.in_ok-put_sent.ensures
    ∙ ap (λ (front : List ℕ). front ++ frame) c.loop-index.invariant
    ∙ append_assoc start (framed layout s i) frame
    ∙ ap (λ (back : List ℕ). start ++ back) (sym (framed_more layout s i))

pub returns : goal.returns
returns c =
    let ended : c.loop-index.index ≡ c.args.n = omega arith in
    c.loop-index.invariant
    ∙ ap (λ (n : ℕ). c.args.out.now.items ++ framed (sent_layout c.args.profile) c.args.sender n) ended
