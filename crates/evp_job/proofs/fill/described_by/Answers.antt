use Rattle.std.proofs.Common.{◌≡◌, List, [], ◌∷◌, length, count_by, refl, sym, ap, suc, ◌∙◌}
use Rattle.std.specs.List.{flat_map, filter}
use Rattle.std.proofs.lemmas.List.Sums.{length-filter}
use Rattle.evp_file.specs.declared.file.FileFormat.{FileFormat}
use Rattle.evp_file.specs.declared.file.FileFormat.TheVariants.{Own, Known}
use Rattle.evp_job.specs.Filling.{is_own, own_layout}
use Rattle.evp_job.proofs.fill.described_by.Goals as goal

kept_own : (formats : List FileFormat) → length (filter is_own formats) ≡ length (flat_map own_layout formats)
kept_own [] = refl
kept_own (Own layout ∷ formats) = ap suc (kept_own formats)
kept_own (Known k ∷ formats) = kept_own formats

pub returns-clause-value : goal.returns-clause-value
returns-clause-value c =
    let formats = c.args.file.now.formats in
    c.own_formats.ensures ∙ ap (count_by is_own) c.as_slice.ensures ∙ sym (length-filter is_own formats) ∙ kept_own formats
