use Rattle.std.proofs.Common.{◌≡◌, List, length, map, sym, subst}
use Rattle.std.specs.List.{AllZip}
use Rattle.evp_stone.specs.declared.account.RouteAccount.{RouteAccount}
use Rattle.evp_stone.specs.Seen.{seen}
use Rattle.evp_stone.specs.Settling.{work_of}
use Rattle.evp_stone.specs.State.{RouteWork, round_in}
use Rattle.evp_stone.proofs.EndStep.{account_for, closed_accounts}
use Rattle.evp_stone.proofs.Handed.{accounts_for}
use Rattle.evp_stone.proofs.Opened.{each_at}
use Rattle.evp_stone.proofs.worker.Worker.account.Goals as goal

pub returns-clause-account : goal.returns-clause-account
returns-clause-account c = λ job taken given is_job state ended.
    let self = c.args.self in
    let accounts = c.accounts.result.items in
    let works = map work_of self.routes.items in
    record {
      routes = closed_accounts job is_job taken given (seen self) state
          (λ place here at. each_at (λ (work : RouteWork). round_in work ≡ length job.rounds) works place here ended at) accounts
          (subst (λ (l : List RouteAccount). AllZip account_for works l) (sym c.accounts.ensures) (accounts_for self.routes.items));
    }
