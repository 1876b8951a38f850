use Rattle.std.proofs.Common.{sym, ap, ◌∙◌, ◌∷◌, [], length, arith, length-append}
use Rattle.evp_format.specs.Drafts.{counted_fields}
use Rattle.evp_format.proofs.CountedFields.{field_goes_on, field_stops, fields_end}
use Rattle.evp_format.proofs.whole_type.counted_fields.Goals as goal

pub returns-in_default-clause-value : goal.returns-in_default-clause-value
returns-in_default-clause-value c =
    λ memory. let all = c.args.drafts.now in field_stops c.args.type_number all c.loop-k.k c.index-drafts-k.result c.loop-k.fields.items
    (counted_fields c.args.type_number 0 all all) c.loop-k-test.true c.index-drafts-k.is (sym c.in_default.is ∙ c.shape_in.ensures)
    c.loop-k.invariant.rest

pub loop-k-preserved : goal.loop-k-preserved
loop-k-preserved c =
    let all = c.args.drafts.now in
    let long = ap length c.in_ok-push.ensures.items in
    let grown = length-append c.loop-k.fields.items (c.field_with.result ∷ []) in
    let number = c.loop-k.invariant.number in
    record {
      rest = rw (c.in_ok-push.ensures.items, c.field_with.ensures)
          (field_goes_on c.args.type_number all c.loop-k.k c.index-drafts-k.result c.in-Some.shape c.loop-k.fields.items
          (counted_fields c.args.type_number 0 all all) c.loop-k-test.true c.index-drafts-k.is (sym c.in-Some.is ∙ c.shape_in.ensures)
          c.loop-k.invariant.rest);
      number = omega (arith, long, grown, number);
    }

pub returns-clause-value : goal.returns-clause-value
returns-clause-value c = let all = c.args.drafts.now in
    fields_end c.args.type_number all c.loop-k.k c.loop-k.fields.items (counted_fields c.args.type_number 0 all all) c.loop-k-test.false
    c.loop-k.invariant.rest
