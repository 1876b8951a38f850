use Rattle.std.proofs.Common.{◌≡◌, ◌<◌, false, length, sym, ap, ◌∙◌, subst, ℕ, List}
use Rattle.evp_format.specs.Bytes.{bytes_equal}
use Rattle.evp_job.proofs.NamedWalk.{named_on}
use Rattle.evp_job.proofs.naming.find.Goals as goal

pub loop-k-preserved : goal.loop-k-preserved
loop-k-preserved c =
    let names = c.args.formats.now.names.now in
    let known = c.args.formats.now.known.now in
    let k = c.loop-k.k in
    let other = c.index-names-k.result in
    let differ : bytes_equal c.args.name.now other ≡ false =
    ap (bytes_equal c.args.name.now) (sym c.as_bytes.ensures.value) ∙ sym c.same_bytes.ensures ∙ c.if-same_bytes.false in
    c.loop-k.invariant
    ∙ named_on c.args.name.now k names known other
    (subst (λ (n : ℕ). k < n) (sym c.args.formats.now.paired) c.loop-k-test.true) c.loop-k-test.true
    c.index-names-k.is differ
