use Rattle.std.proofs.Common.{◌≡◌, List, Some, sym, subst, refl, slice_get, arith}
use Rattle.evp_cache.specs.declared.found.Found.{Found}
use Rattle.evp_cache.specs.Known.{Known}
use Rattle.evp_cache.proofs.Meetings.{taught, as_known, not_new, format_at, Taught}
use Rattle.evp_cache.proofs.cache_pass.CachePass.get.Goals as goal

pub returns : goal.returns
returns c =
    let met = c.in_ok-place.ensures.met in
    let t = taught c.args.cache.now c.args.formats.now c.args.self.now c.placed.new.self c.args.from c.args.to _ c.in_ok-place.place _ _
    (format_at _ _ _ _ c.requires.from c.from.ensures c.index-formats-from.is)
    (format_at _ _ _ _ (omega (arith, c.requires.to, c.requires.whole.receivers)) c.from-2.ensures c.index-formats-from-2.is)
    c.cell-cell.ensures c.requires.pass met in
    let same = sym c.shared-shared.ensures.same in
    let is = c.found.ensures met.at.entry
    (subst (λ (ks : List Known). slice_get ks c.in_ok-place.place ≡ Some met.at.entry) same met.at.there) in
    let TaughtBy : List Known → Found → Type 0 = λ ks f.
    Taught c.args.cache.now c.args.formats.now c.args.self.now ks c.args.from c.args.to f in
    let done = subst (TaughtBy c.shared-shared.new.self) (sym is) (subst (λ (ks : List Known). TaughtBy ks met.at.entry.found) same t) in (
      (refl, (λ _. tt), (done.pass, done.learned)),
      record {
        found = done.right;
        again = λ earlier was. (as_known _ _ _ _ _ earlier done.learned was, not_new _ earlier _ c.in_ok-place.ensures.again was);
        builds = c.in_ok-place.ensures.builds;
        after = tt;
      },
    )
