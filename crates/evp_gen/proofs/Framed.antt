-- The frames of a sender's records, one more each time.
use Rattle.std.proofs.Common.{◌≡◌, ℕ, ◌+◌, List, [], ◌∷◌, ◌++◌, map, ap, ◌∙◌, arith}
use Rattle.std.specs.List.{flat_map, range_with_len}
use Rattle.std.proofs.lemmas.Grind.{flat_map-append}
use Rattle.std.proofs.lemmas.List.{append-nil}
use Rattle.std.proofs.lemmas.List.FromFn.{map-range_with_len_more}
use Rattle.evp_file.specs.Frames.{item_bytes}
use Rattle.evp_format.specs.Layout.{Layout}
use Rattle.evp_gen.specs.Senders.{sent_item}

-- the frames of n records
abbrev pub framed : Layout → ℕ → ℕ → List ℕ
framed layout s n = flat_map item_bytes (map (sent_item layout s) (range_with_len 0 n))

pub framed_more : (layout : Layout) (s n : ℕ) → framed layout s (n + 1) ≡ framed layout s n ++ item_bytes (sent_item layout s n)
framed_more layout s n =
    let items = map (sent_item layout s) (range_with_len 0 n) in
    ap (flat_map item_bytes) (map-range_with_len_more (sent_item layout s) 0 n n (let same : 0 + n ≡ n = omega arith in same))
    ∙ flat_map-append item_bytes items (sent_item layout s n ∷ [])
    ∙ ap (λ (back : List ℕ). flat_map item_bytes items ++ back) (append-nil (item_bytes (sent_item layout s n)))
