use Rattle.std.proofs.Common.{ℕ, ◌+◌, ◌*◌, ◌%◌, sym, ap, ◌∙◌}
use Rattle.evp_format.specs.Packing.{Pieces}
use Rattle.evp_gen.proofs.Packed.{listed_some}
use Rattle.evp_gen.proofs.lists.list_end.Goals as goal

pub returns-clause-value : goal.returns-clause-value
returns-clause-value c =
    ap (λ (q : ℕ). q + c.args.index % 4 * 2) c.next_block.ensures
    ∙ sym (ap (λ (p : Pieces). p.size) (listed_some c.args.profile c.args.index c.args.before c.if-count-eq0.false))
