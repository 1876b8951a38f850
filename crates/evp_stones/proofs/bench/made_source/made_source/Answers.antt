use Rattle.std.proofs.Common.{◌≡◌, ◌∙◌, ◌+◌, ◌<◌, [], Ok, arith, length, refl, sym, subst}
use Rattle.std.proofs.lemmas.List.Elements.{All-get_or}
use Rattle.std.proofs.lemmas.Option.{slice_get_read}
use Rattle.std.proofs.lemmas.Result.{IfOk-weaker}
use Rattle.evp_file.specs.Reading.{file_of}
use Rattle.evp_gen.specs.Senders.{all_sent}
use Rattle.evp_job.specs.Filling.{bare_source}
use Rattle.evp_stones.specs.Accepted.{IsReadable}
use Rattle.evp_stones.specs.MadeFiles.{IsFilledBy, IsOneFile}
use Rattle.evp_stones.proofs.bench.made_source.made_source.Goals as goal

pub read-requires-clause-readable : goal.read-requires-clause-readable
read-requires-clause-readable c =
    let text = c.args.text.now in
    subst (IsReadable text.formats.items text.limit) (sym (c.as_slice.ensures.value ∙ c.in_ok-bytes.ensures))
    (All-get_or (IsOneFile text.formats.items text.limit) (all_sent c.args.records) c.args.source [] c.requires.source
    c.requires.makeable.files).0

pub with_file-requires-clause-one : goal.with_file-requires-clause-one
with_file-requires-clause-one c =
    let text = c.args.text.now in
    let file = c.in_ok-file.file in
    (All-get_or (IsOneFile text.formats.items text.limit) (all_sent c.args.records) c.args.source [] c.requires.source
    c.requires.makeable.files).1 file
    (subst (λ bytes. file_of text.formats.items text.limit bytes ≡ Ok file) (c.as_slice.ensures.value ∙ c.in_ok-bytes.ensures)
    c.in_ok-file.ensures.exact)

pub returns : goal.returns
returns c =
    let text = c.args.text.now in
    let bytes = c.as_slice.ensures.value ∙ c.in_ok-bytes.ensures in
    let file = c.in_ok-file.file in
    let sources = text.sources.items in
    let below : c.args.source < length sources = omega (arith, c.requires.source, c.requires.makeable.sources) in
    let counted = c.len.ensures in
    let whole = text.formats.ok.0 in
    let number : c.len.result + c.args.source ≡ length text.formats.items + c.args.source = omega (arith, counted, whole) in
    IfOk-weaker c.with_file.result _ _ (λ made by. record {
      file = file;
      read = subst (λ all. file_of text.formats.items text.limit all ≡ Ok file) bytes c.in_ok-file.ensures.exact;
      whole = c.in_ok-file.ensures.whole;
      named = c.index.result.now;
      there = slice_get_read sources (length sources) c.args.source c.index.result.now refl below c.index.ensures;
      by_it = subst (λ n. IsFilledBy n (bare_source c.index.result.now) file made) number by;
    }) c.with_file.ensures
