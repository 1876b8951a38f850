use Rattle.std.proofs.Common.{◌≡◌, ℕ, ◌+◌, ◌<◌, List, All, [], ◌∷◌, length, refl, sym, ap, suc, subst, ◌∙◌}
use Rattle.evp_file.specs.declared.file.FileFormat.{FileFormat}
use Rattle.evp_file.specs.declared.file.FileItem.{FileItem}
use Rattle.evp_job.specs.Filling.{own_layout, numbers_from}
use Rattle.evp_job.proofs.files.source_with_file.Goals as goal

length-numbers : (next : ℕ) (formats : List FileFormat) → length (numbers_from next formats) ≡ length formats
length-numbers next [] = refl
length-numbers next (format ∷ formats) = ap suc (length-numbers (next + length (own_layout format)) formats)

pub records-requires-clause-there : goal.records-requires-clause-there
records-requires-clause-there c =
    let next = length c.args.formats.now.items in
    let count : length c.deref.result.now ≡ length c.args.file.formats =
    ap length (c.deref.ensures.value ∙ c.in_ok-numbers.ensures.numbers) ∙ length-numbers next c.into_vec.result.items
    ∙ ap length c.into_vec.ensures in
    subst (All (λ (item : FileItem). item.format < length c.deref.result.now)) (sym c.into_vec-2.ensures)
    (subst (λ (n : ℕ). All (λ (item : FileItem). item.format < n) c.args.file.items) (sym count) c.requires.read.there)
