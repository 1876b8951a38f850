use Rattle.std.proofs.Common.{◌≡◌, ◌++◌, Bool, List, ℕ, ap, sym, ◌∙◌}
use Rattle.std.specs.Int.{w128, bytes_high_first, cast_unsigned}
use Rattle.std.proofs.lemmas.Int.{to_z-of_z}
use Rattle.evp_format.specs.Describing.{stated_number}
use Rattle.evp_format.proofs.WideDigits.{sixteen_bytes}
use Rattle.evp_format.proofs.description.writing.put_default.Goals as goal

pub returns-in_ok-extend_from_slice : goal.returns-in_ok-extend_from_slice
returns-in_ok-extend_from_slice c =
    let before = c.args.out.now.items in
    let word : c.cast_unsigned.result ≡ cast_unsigned w128 c.args.fallback = c.cast_unsigned.ensures ∙ ap (cast_unsigned w128)
    (to_z-of_z w128 c.args.fallback c.ranges.fallback) in
    c.in_ok-extend_from_slice.ensures.items
    ∙ ap (λ (bytes : List ℕ). before ++ bytes) (c.write_u128.ensures ∙ ap (bytes_high_first 16) word
    ∙ sixteen_bytes c.args.fallback c.ranges.fallback)
    ∙ ap (λ (stated : Bool). before ++ stated_number stated c.args.fallback) (sym c.if-stated.true)
