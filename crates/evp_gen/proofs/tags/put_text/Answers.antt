use Rattle.std.proofs.Common.{ℕ, List, [], ◌∷◌, ◌++◌, length, sym, ap, ◌∙◌, arith}
use Rattle.evp_format.specs.Bytes.{put_at}
use Rattle.evp_gen.proofs.Decimals.{one_figure, two_figures}
use Rattle.evp_gen.proofs.tags.put_text.Goals as goal

pub put_bytes-requires : goal.put_bytes-requires
put_bytes-requires c =
    let size = ap length (one_figure c.args.number c.if-number-lt10.true) in
    let inside = c.requires.inside in
    omega (arith, size, inside)

pub returns-then-number-lt10 : goal.returns-then-number-lt10
returns-then-number-lt10 c = c.put_bytes.ensures
    ∙ ap (λ (text : List ℕ). put_at c.args.at (text ++ 0 ∷ []) c.args.packed.now)
    (sym (one_figure c.args.number c.if-number-lt10.true))

pub put_bytes-requires-else-number-lt10 : goal.put_bytes-requires-else-number-lt10
put_bytes-requires-else-number-lt10 c =
    let large = c.if-number-lt10.false in
    let size = ap length (two_figures c.args.number c.requires.few (omega (arith, large))) in
    let inside = c.requires.inside in
    omega (arith, size, inside)

pub returns-else-number-lt10 : goal.returns-else-number-lt10
returns-else-number-lt10 c =
    let large = c.if-number-lt10.false in
    c.put_bytes-else-number-lt10.ensures
    ∙ ap (λ (text : List ℕ). put_at c.args.at (text ++ 0 ∷ []) c.args.packed.now)
    (sym (two_figures c.args.number c.requires.few (omega (arith, large))))
