use Rattle.std.proofs.Common.{◌∙◌, arith, length, refl}
use Rattle.std.proofs.lemmas.Option.{slice_get_read}
use Rattle.evp_report.proofs.JobParts.{routes_of_parts}
use Rattle.evp_stone.proofs.LastStones.{last_stone_below}
use Rattle.evp_report.proofs.RouteFound.{account_found, found_at, not_missed}
use Rattle.evp_report.proofs.accounts.route_account.Goals as goal

pub bounds-accounts-from : goal.bounds-accounts-from
bounds-accounts-from c =
    let job = c.args.job.now in
    let route = c.index-as_slice-number.result in
    let listed = c.as_slice.ensures ∙ routes_of_parts c.parts.result.now c.parts.ensures.value in
    let there = slice_get_read job.routes (length job.routes) c.args.number route refl c.requires.there
    (rw listed at c.index-as_slice-number.is) in
    let last = c.from.ensures ∙ c.last_stone-stone.ensures in
    let below = last_stone_below job c.parts.ensures.kept c.args.number route there in
    omega (arith, below, last, c.requires.accounts.count)

pub unreachable-requires : goal.unreachable-requires
unreachable-requires c =
    let job = c.args.job.now in
    let route = c.index-as_slice-number.result in
    let listed = c.as_slice.ensures ∙ routes_of_parts c.parts.result.now c.parts.ensures.value in
    let there = slice_get_read job.routes (length job.routes) c.args.number route refl c.requires.there
    (rw listed at c.index-as_slice-number.is) in
    let last = c.from.ensures ∙ c.last_stone-stone.ensures in
    let below = last_stone_below job c.parts.ensures.kept c.args.number route there in
    let account = c.index-accounts-from in
    let has = account_found job c.args.accounts.now c.requires.accounts c.args.number route there c.from.result last
    (omega (arith, below, last, c.requires.accounts.count)) account.result account.is c.as_slice-routes.result.now
    c.as_slice-routes.ensures.value c.search.result c.search.ensures.bound c.search.ensures.position in
    not_missed job c.args.number _ c.search.result c.in-Err.field-0 has c.in-Err.is

pub returns : goal.returns
returns c =
    let job = c.args.job.now in
    let route = c.index-as_slice-number.result in
    let listed = c.as_slice.ensures ∙ routes_of_parts c.parts.result.now c.parts.ensures.value in
    let there = slice_get_read job.routes (length job.routes) c.args.number route refl c.requires.there
    (rw listed at c.index-as_slice-number.is) in
    let last = c.from.ensures ∙ c.last_stone-stone.ensures in
    let below = last_stone_below job c.parts.ensures.kept c.args.number route there in
    let account = c.index-accounts-from in
    let has = account_found job c.args.accounts.now c.requires.accounts c.args.number route there c.from.result last
    (omega (arith, below, last, c.requires.accounts.count)) account.result account.is c.as_slice-routes.result.now
    c.as_slice-routes.ensures.value c.search.result c.search.ensures.bound c.search.ensures.position in
    found_at job c.args.number _ c.search.result c.in-Ok.at c.index-routes-at.result has c.in-Ok.is c.index-routes-at.is
