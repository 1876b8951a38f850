use Rattle.std.proofs.Common.{◌≡◌, ℕ, List, [], ◌∷◌, ◌++◌, length, rules, ap, subst, ◌∙◌}
use Rattle.std.specs.Vec.{with_items}
use Rattle.std.proofs.lemmas.List.{with_items_is}
use Rattle.evp_stone.specs.declared.account.RoundAccount.{RoundAccount}
use Rattle.evp_stone.specs.declared.outlet.Outlet as declared
use Rattle.evp_stone.specs.Lining.{an_end, IsOf, AreLined, lengthened}
use Rattle.evp_stone.specs.Settling.{running_of}
use Rattle.evp_stone.specs.Turning.{Closes, everywhere, nothing_done}
use Rattle.evp_stone.specs.Working.{outlets_of}
use Rattle.evp_stone.proofs.Worked.{work_same}
use Rattle.evp_stone.proofs.route_work.RouteWork.end_round.Goals as goal

pub returns-clause-ended : goal.returns-clause-ended
returns-clause-ended c =
    let self = c.args.self.now in
    let account = c.closed.result in
    let held : c.len.result ≡ length self.kept.items = search rules in
    let closes : Closes (running_of self.running) c.len.result account =
    subst (λ (r : RoundAccount). Closes (running_of r) c.len.result account) c.replace-running.ensures.value c.closed.ensures in
    let long : length c.lengthen.new.outlets ≡ self.outlets.len = search rules in
    let items : (with_items self.outlets c.lengthen.new.outlets).items ≡ c.lengthen.new.outlets =
    with_items_is self.outlets c.lengthen.new.outlets long in
    let outlets : outlets_of (with_items self.outlets c.lengthen.new.outlets).items ≡ lengthened everywhere 0
    (outlets_of self.outlets.items) =
    ap outlets_of items ∙ c.lengthen.ensures ∙ ap (λ (l : List declared.Outlet). lengthened everywhere 0 (outlets_of l))
    c.deref_mut.ensures.value in
    let ended : c.push_reserved.new.self.items ≡ self.ended.items ++ account ∷ [] =
    c.push_reserved.ensures.items ∙ ap (λ (l : List RoundAccount). l ++ account ∷ []) c.reserve.ensures.items in
    let running : running_of c.replace-running.new.dest ≡ nothing_done =
    ap running_of c.replace-running.ensures.after ∙ c.new.ensures in
    record {
      account = account;
      closes = subst (λ (n : ℕ). Closes (running_of self.running) n account) held closes;
      is = work_same self.route (outlets_of (with_items self.outlets c.lengthen.new.outlets).items)
          (lengthened everywhere 0 (outlets_of self.outlets.items))
          self.kept.items c.push_reserved.new.self.items (self.ended.items ++ account ∷ [])
          (running_of c.replace-running.new.dest) nothing_done outlets ended running;
      waits = subst (λ (l : List declared.Outlet). AreLined (IsOf (an_end c.args.round)) everywhere 0 (outlets_of l)
          c.line_up.new.waiting.items)
          c.deref.ensures.value c.in_ok-line_up.ensures.lined;
    }
