use Rattle.std.proofs.Common.{◌≡◌, List, [], ◌∷◌, ◌++◌, sym, subst, ap, ◌∙◌}
use Rattle.std.proofs.lemmas.List.{map-append}
use Rattle.std.proofs.lemmas.Result.{on_ok_weaker}
use Rattle.evp_stone.specs.declared.entry.Entry.{Entry}
use Rattle.evp_stone.specs.Lining.{IsOf, AreLined}
use Rattle.evp_stone.specs.Turning.{everywhere}
use Rattle.evp_stone.specs.Working.{outlet_of, outlets_of, sending_of}
use Rattle.evp_stone.proofs.LineUp.{lined_behind}
use Rattle.evp_stone.proofs.outlet.push_all.Goals as goal

pub returns : goal.returns
returns c =
    let IsOne = IsOf (sending_of c.args.sending) in
    let lined = lined_behind IsOne (outlets_of c.in-Some.others.now) 0 (outlet_of c.in-Some.last.now) c.push_copies.new.waiting.items
    c.entry.result c.in_ok-push_copies.ensures c.entry.ensures in
    let apart : outlets_of c.args.outlets.now ≡ outlets_of c.in-Some.others.now ++ outlet_of c.in-Some.last.now ∷ [] =
    ap outlets_of c.in-Some.ensures.cases.0 ∙ map-append outlet_of c.in-Some.others.now (c.in-Some.last.now ∷ []) in
    on_ok_weaker c.push.result (λ pushed.
    subst (λ (entries : List Entry). AreLined IsOne everywhere 0 (outlets_of c.args.outlets.now) entries) (sym pushed) (rw apart lined)) c.push.ensures
