use Rattle.std.proofs.Common.{◌≡◌, ◌+◌, ◌++◌, ◌∷◌, [], Some, Ok, Err, sym, ap, ◌∙◌, subst}
use Rattle.std.specs.Prelude.{slice_get}
use Rattle.std.proofs.lemmas.Result.{err_from_is_err_and}
use Rattle.evp_file.specs.Whole.{IsWhole}
use Rattle.evp_stones.specs.WholeJob.{file_names}
use Rattle.evp_stones.proofs.Pushed.{all_more, length_more, pushed}
use Rattle.evp_stones.proofs.RecordFiles.{HaveRead, file_at, next_read, read_cut}
use Rattle.evp_stones.proofs.record_files.record_files.Goals as goal

pub returns-in_err-file-clause-works : goal.returns-in_err-file-clause-works
returns-in_err-file-clause-works g c =
    let exit = err_from_is_err_and c.from_residual-in_err-file.result c.from_residual-in_err-file.ensures.1 in
    let text = c.args.text.now in
    let i = c.loop-source.source-index in
    let there : slice_get (file_names text) i ≡ Some c.as_str.result.now =
    file_at text.sources.items i c.source-item.result (rw c.deref-source-items.ensures.value at c.loop-source-test.true)
    (rw c.deref-source-items.ensures.value at c.source-item.is) ∙ ap Some (sym c.as_str.ensures.value) in
    rw (exit.1, exit.2)
    (read_cut g.D.Depot.held g.D.Depot.misses g.D.Depot.faults _ _ text.formats.items text.limit (file_names text) (i + 1)
    c.in_err-file.field-0.0
    (next_read g.D.Depot.held g.D.Depot.misses g.D.Depot.faults _ _ _ text.formats.items text.limit (file_names text) i c.as_str.result.now
    c.loop-source.records.items (Err c.in_err-file.field-0.0) there c.loop-source.invariant.works c.in_err-file.ensures.works))

pub loop-source-preserved : goal.loop-source-preserved
loop-source-preserved g c =
    let text = c.args.text.now in
    let i = c.loop-source.source-index in
    let there : slice_get (file_names text) i ≡ Some c.as_str.result.now =
    file_at text.sources.items i c.source-item.result (rw c.deref-source-items.ensures.value at c.loop-source-test.true)
    (rw c.deref-source-items.ensures.value at c.source-item.is) ∙ ap Some (sym c.as_str.ensures.value) in
    let items : c.push.new.self.items ≡ c.loop-source.records.items ++ c.in_ok-file.file ∷ [] =
    pushed c.push.result c.push.new.self.items _ _ (sym c.is_err.ensures.value ∙ c.if-is_err.false) c.push.ensures.items in
    record {
      works =
          subst (λ made. HaveRead g.D.Depot.held g.D.Depot.misses g.D.Depot.faults c.args.depot.now c.record_file.new.depot
          text.formats.items
          text.limit (file_names text) (i + 1) (Ok made)) (sym items)
          (next_read g.D.Depot.held g.D.Depot.misses g.D.Depot.faults _ _ _ text.formats.items text.limit
          (file_names text) i c.as_str.result.now
          c.loop-source.records.items (Ok c.in_ok-file.file) there c.loop-source.invariant.works c.in_ok-file.ensures.works);
      count = length_more c.push.new.self.items c.loop-source.records.items c.in_ok-file.file i items c.loop-source.invariant.count;
      whole = all_more (IsWhole text.formats.items) c.push.new.self.items c.loop-source.records.items c.in_ok-file.file items
          c.loop-source.invariant.whole c.in_ok-file.ensures.whole;
    }
