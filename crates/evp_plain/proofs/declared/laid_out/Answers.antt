use Rattle.std.proofs.Common.{length, get_or, sym, arith}
use Rattle.std.proofs.lemmas.Bool.{ltb-true}
use Rattle.std.proofs.lemmas.List.Sums.{AllPass-from_list_all}
use Rattle.evp_plain.specs.Few.{has_few_fields}
use Rattle.evp_plain.proofs.declared.laid_out.Goals as goal

-- types that pass the test have few fields
pub lay_out-requires-clause-fields : goal.lay_out-requires-clause-fields
lay_out-requires-clause-fields c = λ k d below.
    let types = c.args.types.now in
    let each = AllPass-from_list_all has_few_fields types (sym c.if-not-have_few_fields.ensures) in
    let few = ltb-true (length (get_or types k d).fields.items) 65536 (each k d below) in
    omega (arith, few)
