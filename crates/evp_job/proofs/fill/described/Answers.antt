use Rattle.std.proofs.Common.{◌≡◌, ◌<◌, ◌≤◌, ℕ, All, get_or, List, length, length-append, refl, sym, subst, arith}
use Rattle.std.specs.List.{flat_map}
use Rattle.evp_file.specs.declared.file.RecordFile.{RecordFile}
use Rattle.evp_job.specs.Filling.{own_layouts}
use Rattle.evp_job.proofs.Added.{added_more, added_all}
use Rattle.evp_job.proofs.fill.described.Goals as goal

few_here : (files : List RecordFile) (k : ℕ) (file : RecordFile) → k < length files → file ≡ get_or files k file
    → All (λ (file : RecordFile). length file.formats ≤ 1024) files → length file.formats ≤ 1024
few_here files k file below is each =
    subst (λ (one : RecordFile). length one.formats ≤ 1024) (sym is) (each k file below)

pub loop-file-preserved : goal.loop-file-preserved
loop-file-preserved c =
    let files = c.args.files.now in
    let k = c.loop-file.file-index in
    let file = c.file-item.result in
    let counted = added_more (λ (all : List RecordFile). length (flat_map own_layouts all)) (λ (one : RecordFile). length (own_layouts one))
    (λ one others. length-append (own_layouts one) (flat_map own_layouts others)) files k file
    c.loop-file.formats (length (flat_map own_layouts files)) c.loop-file-test.true c.file-item.is c.loop-file.invariant.counted in
    let few = few_here files k file c.loop-file-test.true c.file-item.is c.requires.each in
    record {
      counted = omega (arith, counted, c.described_by-formats.ensures.value);
      few = omega (arith, few, c.described_by-formats.ensures.few, c.loop-file.invariant.few);
    }

pub overflow_add-formats : goal.overflow_add-formats
overflow_add-formats c =
    let few = few_here c.args.files.now c.loop-file.file-index c.file-item.result c.loop-file-test.true c.file-item.is c.requires.each in
    omega (arith, few, c.described_by-formats.ensures.few, c.loop-file.invariant.few)

pub returns-clause-value : goal.returns-clause-value
returns-clause-value c =
    added_all (λ (all : List RecordFile). length (flat_map own_layouts all)) c.args.files.now c.loop-file.file-index c.loop-file.formats
    (length (flat_map own_layouts c.args.files.now)) refl c.loop-file-test.false c.loop-file.invariant.counted
