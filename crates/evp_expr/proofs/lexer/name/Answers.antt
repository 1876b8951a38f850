use Rattle.std.proofs.Common.{IsTrue, take, refl, subst}
use Rattle.evp_base.specs.Name.{is_name}
use Rattle.evp_expr.proofs.Names.{word_missing}
use Rattle.evp_expr.proofs.lexer.name.Goals as goal

pub returns-in-None : goal.returns-in-None
returns-in-None c =
    let bytes = c.args.bytes.now in
    (word_missing bytes c.requires (subst (λ n. ¬ IsTrue (is_name (take n bytes))) c.name_length-length.ensures c.in-None.ensures), refl)
