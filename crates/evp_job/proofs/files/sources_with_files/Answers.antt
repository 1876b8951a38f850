use Rattle.std.proofs.Common.{◌≡◌, ◌+◌, ◌++◌, ℕ, List, All, [], ◌∷◌, inl, inr, length, map, refl, sym, ap, subst, ◌∙◌}
use Rattle.std.proofs.Common.{length-append, arith}
use Rattle.std.specs.List.{flat_map}
use Rattle.std.specs.Iterator.Adapters.{zip_first, zip_second}
use Rattle.std.specs.Slice.Iter.{iter_rest}
use Rattle.std.specs.Vec.Iter.{into_iter_items, into_iter_len}
use Rattle.std.proofs.lemmas.List.Elements.{All-head, All-tail}
use Rattle.evp_file.specs.declared.file.RecordFile.{RecordFile}
use Rattle.evp_format.specs.Layout.{Layout}
use Rattle.evp_stone.specs.declared.source.Source.{Source}
use Rattle.evp_job.specs.declared.sources.SourceText.{SourceText}
use Rattle.evp_job.specs.Filling.{HasRecords, bare_source, own_layouts, source_with_file, sources_with_files}
use Rattle.evp_job.proofs.Moved.{moved_more, joined_more, joined_fits, moved_all}
use Rattle.evp_job.proofs.files.sources_with_files.Goals as goal

-- the next source and its file, and what is left behind them
one_filled : (formats more : List Layout) (left rest : List SourceText) (source : SourceText) (file : RecordFile)
    (files : List RecordFile) (filled : Source) → left ≡ source ∷ rest → more ≡ formats ++ own_layouts file
    → filled ≡ source_with_file (length formats) (bare_source source) file
    → sources_with_files (length formats) (map bare_source left) (file ∷ files)
    ≡ filled ∷ sources_with_files (length more) (map bare_source rest) files
one_filled formats more left rest source file files filled begins joined is =
    let next = ap length joined ∙ length-append formats (own_layouts file) in
    ap (λ (list : List SourceText). sources_with_files (length formats) (map bare_source list) (file ∷ files)) begins
    ∙ ap (λ (first : Source). first ∷ sources_with_files (length formats + length (own_layouts file)) (map bare_source rest) files)
    (sym is)
    ∙ ap (λ (n : ℕ). filled ∷ sources_with_files n (map bare_source rest) files) (sym next)

no_files : (next : ℕ) (sources : List Source) → sources_with_files next sources [] ≡ []
no_files next [] = refl
no_files next (source ∷ sources) = refl

pub loop-source-init : goal.loop-source-init
loop-source-init c =
    let start = c.into_iter-source-iterator.result in
    let zipped = c.into_iter-source-iterator.ensures.into_iter_gives in
    let sources : iter_rest (zip_first start) ≡ c.args.sources.now =
    ap (λ (z : _). iter_rest (zip_first z)) zipped ∙ ap iter_rest c.zip-source-items.ensures.first ∙ c.iter.ensures.rest in
    let given : into_iter_items (zip_second start) ≡ c.args.files.items =
    ap (λ (z : _). into_iter_items (zip_second z)) zipped ∙ c.zip-source-items.ensures.second.0 in
    let made = ap (λ (list : List Source). list ++ sources_with_files (length c.args.formats.now.items)
    (map bare_source (iter_rest (zip_first start))) (into_iter_items (zip_second start))) c.in_ok-filled.ensures.items in
    let number = ap (λ (z : _). into_iter_len (zip_second z)) zipped ∙ c.zip-source-items.ensures.second.1 in
    record {
      made = made;
      joined = refl;
      each = ap length given ∙ c.requires.each ∙ sym (ap length sources);
      read = subst (All HasRecords) (sym given) c.requires.read;
      count = number ∙ c.args.files.ok.0 ∙ sym (ap length given);
    }

pub loop-source-preserved : goal.loop-source-preserved
loop-source-preserved c =
    let was = c.loop-source.source-iterator in
    let now = c.next.new.self in
    let left = iter_rest (zip_first was) in
    let rest = iter_rest (zip_first now) in
    let files = into_iter_items (zip_second was) in
    let others = into_iter_items (zip_second now) in
    let source = c.in-Some.source.now in
    let file = c.in-Some.file in
    let formats = c.loop-source.formats.items in
    let more = c.source_with_file.new.formats.items in
    let first : left ≡ source ∷ rest = c.in-Some.ensures.steps.0 in
    let begins : files ≡ file ∷ others = c.in-Some.ensures.steps.1.0 in
    let fewer = c.in-Some.ensures.steps.1.1 in
    let lefts = ap length first in
    let counts = ap length begins in
    let start = c.into_iter-source-iterator.result in
    record {
      made = moved_more (sources_with_files (length formats) (map bare_source left))
          (sources_with_files (length more) (map bare_source rest)) c.loop-source.filled.items c.push.new.self.items files others file
          c.in_ok-source_with_file.field-0
          (sources_with_files (length c.args.formats.now.items) (map bare_source (iter_rest (zip_first start)))
          (into_iter_items (zip_second start))) begins
          (one_filled formats more left rest source file others c.in_ok-source_with_file.field-0 first
          c.in_ok-source_with_file.ensures.formats c.in_ok-source_with_file.ensures.source)
          c.in_ok-push.ensures.items c.loop-source.invariant.made;
      joined = joined_more own_layouts formats more files others file
          (c.args.formats.now.items ++ flat_map own_layouts (into_iter_items (zip_second start))) begins
          c.in_ok-source_with_file.ensures.formats c.loop-source.invariant.joined;
      each = omega (arith, lefts, counts, c.loop-source.invariant.each);
      read = All-tail HasRecords file others (subst (All HasRecords) begins c.loop-source.invariant.read);
      count = omega (arith, counts, fewer, c.loop-source.invariant.count);
    }

pub source_with_file-requires : goal.source_with_file-requires
source_with_file-requires c =
    let files = into_iter_items (zip_second c.loop-source.source-iterator) in
    let others = into_iter_items (zip_second c.next.new.self) in
    let begins : files ≡ c.in-Some.file ∷ others = c.in-Some.ensures.steps.1.0 in
    let one = ap zip_second c.into_iter-source-iterator.ensures.into_iter_gives in
    let given = ap into_iter_items one ∙ c.zip-source-items.ensures.second.0 in
    record {
      room = joined_fits own_layouts c.loop-source.formats.items files others c.in-Some.file
          (c.args.formats.now.items ++ flat_map own_layouts c.args.files.items) 1024 begins
          (c.loop-source.invariant.joined ∙ ap (λ (list : List RecordFile). c.args.formats.now.items ++ flat_map own_layouts list) given)
          c.requires.room;
      read = All-head HasRecords c.in-Some.file others (subst (All HasRecords) begins c.loop-source.invariant.read);
    }

pub returns-clause-sources : goal.returns-clause-sources
returns-clause-sources c =
    let was = c.loop-source.source-iterator in
    let files = into_iter_items (zip_second was) in
    let left = map bare_source (iter_rest (zip_first was)) in
    let next = length c.loop-source.formats.items in
    let first = length c.args.formats.now.items in
    let start = c.into_iter-source-iterator.result in
    let none : length files ≡ 0 = elim c.in-None.ensures.steps [
      | inl source ↦ c.loop-source.invariant.each ∙ source.1.0
      | inr file ↦ sym c.loop-source.invariant.count ∙ file.1.0
    ] in
    let zipped = c.into_iter-source-iterator.ensures.into_iter_gives in
    let sources : iter_rest (zip_first start) ≡ c.args.sources.now =
    ap (λ (z : _). iter_rest (zip_first z)) zipped ∙ ap iter_rest c.zip-source-items.ensures.first ∙ c.iter.ensures.rest in
    let given : into_iter_items (zip_second start) ≡ c.args.files.items =
    ap (λ (z : _). into_iter_items (zip_second z)) zipped ∙ c.zip-source-items.ensures.second.0 in
    moved_all (sources_with_files next left) c.loop-source.filled.items files
    (sources_with_files first (map bare_source c.args.sources.now) c.args.files.items) none (no_files next left)
    (c.loop-source.invariant.made
    ∙ ap (λ (list : List SourceText). sources_with_files first (map bare_source list) (into_iter_items (zip_second start))) sources
    ∙ ap (sources_with_files first (map bare_source c.args.sources.now)) given)

pub returns-clause-formats : goal.returns-clause-formats
returns-clause-formats c =
    let files = into_iter_items (zip_second c.loop-source.source-iterator) in
    let start = c.into_iter-source-iterator.result in
    let none : length files ≡ 0 = elim c.in-None.ensures.steps [
      | inl source ↦ c.loop-source.invariant.each ∙ source.1.0
      | inr file ↦ sym c.loop-source.invariant.count ∙ file.1.0
    ] in
    let given : into_iter_items (zip_second start) ≡ c.args.files.items =
    ap (λ (z : _). into_iter_items (zip_second z)) c.into_iter-source-iterator.ensures.into_iter_gives
    ∙ c.zip-source-items.ensures.second.0 in
    moved_all (flat_map own_layouts) c.loop-source.formats.items files (c.args.formats.now.items ++ flat_map own_layouts c.args.files.items)
    none refl
    (c.loop-source.invariant.joined ∙ ap (λ (list : List RecordFile). c.args.formats.now.items ++ flat_map own_layouts list) given)
