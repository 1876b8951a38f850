use Rattle.std.proofs.Common.{◌≡◌, ℕ, ◌+◌, ◌≤◌, nat_le, Bool, false, List, length, drop, Ok, Err, refl, subst, ap, arith}
use Rattle.std.specs.List.{sum}
use Rattle.std.proofs.lemmas.Bool.{le-leb}
use Rattle.std.proofs.lemmas.Bool.Decides.{nat_tests}
use Rattle.evp_file.specs.declared.file.FileItem.{FileItem}
use Rattle.evp_stone.specs.Job.{submits}
use Rattle.evp_job.specs.Filling.{enough_from}
use Rattle.evp_job.specs.Steps.{◌>>=◌, only_if}
use Rattle.evp_job.specs.declared.fault.JobFault.TheVariants as fault
use Rattle.evp_format.proofs.Loops.{goes_on, stops, ends}
use Rattle.evp_job.proofs.fill.enough_records.Goals as goal

pub loop-source-preserved : goal.loop-source-preserved
loop-source-preserved c =
    let rounds = c.args.rounds.now in
    let files = c.args.files.now in
    let source = c.loop-source.source in
    let file = c.index-files-source.result in
    let asked = sum (submits source rounds) in
    let within : asked ≤ length file.items = subst (λ (n : ℕ). n ≤ length file.items) c.submitted-asked.ensures.value
    (subst (λ (items : List FileItem). c.submitted-asked.result ≤ length items) c.as_slice.ensures c.if-asked-there.false) in
    goes_on (enough_from rounds) files source file (enough_from rounds 0 files) c.loop-source-test.true c.index-files-source.is
    (ap (λ (test : Bool). only_if test (fault.Submit source asked (length file.items))
    >>= λ _. enough_from rounds (source + 1) (drop (source + 1) files)) (le-leb asked (length file.items) within))
    c.loop-source.invariant

pub returns-then-asked-there : goal.returns-then-asked-there
returns-then-asked-there c =
    let rounds = c.args.rounds.now in
    let files = c.args.files.now in
    let source = c.loop-source.source in
    let file = c.index-files-source.result in
    let asked = sum (submits source rounds) in
    let there = ap length c.as_slice.ensures in
    let more : nat_le asked (length file.items) ≡ false =
    grind (arith, nat_tests, there, c.submitted-asked.ensures.value, c.if-asked-there.true) in
    let settled = stops (enough_from rounds) files source file (enough_from rounds 0 files)
    (Err (fault.Submit source asked (length file.items))) c.loop-source-test.true c.index-files-source.is
    (ap (λ (test : Bool). only_if test (fault.Submit source asked (length file.items))
    >>= λ _. enough_from rounds (source + 1) (drop (source + 1) files)) more)
    c.loop-source.invariant in
    cc c.submitted-asked.ensures.value

pub returns : goal.returns
returns c = ends (enough_from c.args.rounds.now) c.args.files.now c.loop-source.source
    (enough_from c.args.rounds.now 0 c.args.files.now) (Ok tt) c.loop-source-test.false refl c.loop-source.invariant
