use Rattle.std.proofs.Common.{◌∙◌, Ok, ap, sym, subst, arith}
use Rattle.std.proofs.lemmas.Result.{IfOk-weaker}
use Rattle.evp_job.specs.Job.{StatesJob}
use Rattle.evp_job.specs.TextView.{text_of}
use Rattle.evp_stone.specs.Job.{IsJob}
use Rattle.evp_stones.specs.Accepted.{IsAccepted}
use Rattle.evp_stones.proofs.MadeJobs.{accepted, all_one_file, file_for_each, files_are, filled_job, fills_there, joined_is}
use Rattle.evp_stones.proofs.MadeJobs.{source_for_each, text_is}
use Rattle.evp_stones.proofs.bench.made_job.made_job.Goals as goal

pub stated-requires : goal.stated-requires
stated-requires g c =
    let made = c.in_ok-document.ensures in
    let law = c.each_bench_is_a_job.ensures c.args.records c.requires.few in
    subst IsAccepted (sym c.deref.ensures.value) (accepted c.args.records c.in_ok-document.document.items law.0 made.text made.job)

pub made_sources-requires : goal.made_sources-requires
made_sources-requires g c =
    let n = c.args.records in
    let text = c.in_ok-text.text in
    let law = c.each_bench_is_a_job.ensures n c.requires.few in
    let bounded = c.in_ok-text.ensures.kept.bounded in
    let most = bounded.longest.1 in
    let same = text_is n c.in_ok-document.document.items (text_of text) law.0 c.in_ok-document.ensures.job
    (subst (λ bytes. StatesJob bytes (Ok (text_of text))) c.deref.ensures.value c.in_ok-text.ensures.states) in (
      c.type_bounds.sync-R,
      record {
        few = c.requires.few;
        formats = bounded.formats;
        sources = source_for_each n text same;
        files = all_one_file c.sent_is_read.ensures c.sent_is_short.ensures n c.requires.few text.formats.items text.limit
            bounded.longest.0 (omega (arith, most));
      },
    )

pub filled-requires : goal.filled-requires
filled-requires g c =
    let n = c.args.records in
    let text = c.in_ok-text.text in
    let all = c.in_ok-made.ensures in
    let law = c.each_bench_is_a_job.ensures n c.requires.few in
    let kept = c.in_ok-text.ensures.kept in
    let most = kept.bounded.longest.1 in
    let same = text_is n c.in_ok-document.document.items (text_of text) law.0 c.in_ok-document.ensures.job
    (subst (λ bytes. StatesJob bytes (Ok (text_of text))) c.deref.ensures.value c.in_ok-text.ensures.states) in
    let are = files_are c.sent_is_read.ensures c.sent_is_short.ensures n c.requires.few text.formats.items text.limit
    kept.bounded.longest.0 (omega (arith, most)) all.files all.read in
    subst IsJob (sym (joined_is text n c.in_ok-made.made all))
    (filled_job text all.files kept (record { each_source = file_for_each n text all.files same are; whole = all.whole })
    (fills_there n text all.files law.1 same are))

pub returns : goal.returns
returns g c =
    let n = c.args.records in
    let text = c.in_ok-text.text in
    let all = c.in_ok-made.ensures in
    let law = c.each_bench_is_a_job.ensures n c.requires.few in
    let bounds = c.in_ok-text.ensures.kept.bounded.longest in
    let most = bounds.1 in
    let document = c.deref.ensures.value ∙ c.in_ok-document.ensures.compact in
    let same = text_is n c.in_ok-document.document.items (text_of text) law.0 c.in_ok-document.ensures.job
    (subst (λ bytes. StatesJob bytes (Ok (text_of text))) c.deref.ensures.value c.in_ok-text.ensures.states) in
    let are = files_are c.sent_is_read.ensures c.sent_is_short.ensures n c.requires.few text.formats.items text.limit bounds.0
    (omega (arith, most)) all.files all.read in
    IfOk-weaker c.filled.result _ _ (λ job is. record {
      text = text;
      states = subst (λ bytes. StatesJob bytes (Ok (text_of text))) document c.in_ok-text.ensures.states;
      files = all.files;
      read = all.read;
      fills = fills_there n text all.files law.1 same are ∙ ap Ok (sym (is ∙ joined_is text n c.in_ok-made.made all));
    }) c.filled.ensures
