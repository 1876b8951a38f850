use Rattle.std.proofs.Common.{◌≡◌, List, arith, Some, length, take, sym, subst, refl}
use Rattle.std.proofs.lemmas.Option.{slice_get-map, slice_get_read}
use Rattle.std.specs.List.{slice_get, AllZip}
use Rattle.evp_stone.specs.declared.account.RoundAccount.{RoundAccount}
use Rattle.evp_stone.specs.Accounts.{accounts_of}
use Rattle.evp_stone.specs.Settling.{work_of}
use Rattle.evp_stone.specs.Tallied.{IsTallied}
use Rattle.evp_stone.proofs.worker.Worker.ended.Goals as goal

pub returns-clause-there : goal.returns-clause-there
returns-clause-there c =
    let works = c.args.self.now.routes.items in
    let work = c.in_ok-work.work.now in
    let found = rw c.as_slice.ensures.value at c.in_ok-work.ensures.lookup in
    let at : slice_get works c.args.place ≡ Some work =
    slice_get_read works (length works) c.args.place work refl (omega arith) found.1 in
    record {
      work = work_of work;
      there = rw (slice_get-map work_of works c.args.place, at) refl;
      route = refl;
      ended = sym c.as_slice-2.ensures.value;
    }

pub returns-clause-accounts : goal.returns-clause-accounts
returns-clause-accounts c = λ job taken given state.
    let works = c.args.self.now.routes.items in
    let work = c.in_ok-work.work.now in
    let found = rw c.as_slice.ensures.value at c.in_ok-work.ensures.lookup in
    let at : slice_get works c.args.place ≡ Some work =
    slice_get_read works (length works) c.args.place work refl (omega arith) found.1 in
    let here = state.each c.args.place (work_of work) (rw (slice_get-map work_of works c.args.place, at) refl) in
    record {
      route = here.route;
      there = here.there;
      ended = subst (λ (l : List RoundAccount).
          AllZip (IsTallied job.formats) l (take (length l) (accounts_of job here.route)))
          (sym c.as_slice-2.ensures.value) here.ended;
    }
