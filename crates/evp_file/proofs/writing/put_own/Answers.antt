use Rattle.std.proofs.Common.{◌^◌, ◌<◌, ℕ, length, List, ap, subst, sym}
use Rattle.evp_file.proofs.DescriptionLengths.{short_description}
use Rattle.evp_file.proofs.writing.put_own.Goals as goal

pub put_sized-requires : goal.put_sized-requires
put_sized-requires c =
    subst (λ (bytes : List ℕ). length bytes < 2 ^ 32) (sym c.as_slice.ensures.value)
    (subst (λ (bytes : List ℕ). length bytes < 2 ^ 32) (sym c.in_ok-description.ensures)
    (short_description c.args.format.now c.types-laid.ensures.laid))
