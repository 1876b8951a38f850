use Rattle.std.proofs.Common.{◌+◌, ◌≤◌, ◌∷◌, length, List, sym, subst, arith}
use Rattle.std.specs.List.{All}
use Rattle.std.proofs.lemmas.List.Elements.{All-tail}
use Rattle.evp_plan.specs.declared.fill.Window.{Window}
use Rattle.evp_plan.proofs.told.Told.have_fills.Goals as goal

pub both_differences-back-requires-clause-two : goal.both_differences-back-requires-clause-two
both_differences-back-requires-clause-two c = c.requires 3 c.args.self.now.four (omega arith)

pub have_few-requires : goal.have_few-requires
have_few-requires c =
    let told = c.args.self.now in
    let Inside : Window → Type 0 = λ window. c.args.at + window.at + 16 ≤ length c.args.bytes.now in
    let rest = told.rest.items in
    let behind_three = All-tail Inside told.three (told.four ∷ rest)
    (All-tail Inside told.two (told.three ∷ told.four ∷ rest)
    (All-tail Inside told.one (told.two ∷ told.three ∷ told.four ∷ rest) c.requires)) in
    subst (λ (ws : List Window). All Inside ws) (sym c.as_slice.ensures.value) (All-tail Inside told.four rest behind_three)
