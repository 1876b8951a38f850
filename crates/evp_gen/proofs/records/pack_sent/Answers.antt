use Rattle.std.proofs.Common.{◌≡◌, ℕ, length, sym, ap, ◌∙◌, arith}
use Rattle.std.specs.Prelude.{replicate}
use Rattle.std.proofs.lemmas.List.{with_items_is}
use Rattle.evp_format.specs.Packing.{packed_size, pieces_of, put_pieces}
use Rattle.evp_gen.specs.Packed.{listed_pieces}
use Rattle.evp_gen.specs.Senders.{sent_layout, sent_record}
use Rattle.evp_gen.proofs.Packed.{cleared_zeros, size_joined}
use Rattle.evp_gen.proofs.records.pack_sent.Goals as goal

pub returns : goal.returns
returns c =
    let profile = c.args.profile in
    let s = c.args.sender in
    let i = c.args.index in
    let pieces = (pieces_of (sent_layout profile) (sent_record s i)).all in
    let size : c.list_end-size.result ≡ packed_size (sent_layout profile) (sent_record s i) = c.list_end-size.ensures.value
    ∙ ap (λ (m : ℕ). (listed_pieces profile i m).size) c.tag_end-middle.ensures.value ∙ sym (size_joined profile s i) in
    let zeros = c.as_mut_slice.ensures.value ∙ c.in_ok-resize.ensures.items
    ∙ cleared_zeros c.list_end-size.result c.clear.new.self.len c.clear.new.self.items c.clear.ensures.items c.clear.ensures.len
    ∙ ap (λ (n : ℕ). replicate n 0) size in
    let kept = c.fill.auto.packed in
    let room = c.as_mut_slice.ensures.len in
    let long : length c.fill.new.packed ≡ c.resize.new.self.len = omega (arith, kept, room) in
    with_items_is c.resize.new.self c.fill.new.packed long ∙ c.fill.ensures ∙ ap (put_pieces pieces) zeros
