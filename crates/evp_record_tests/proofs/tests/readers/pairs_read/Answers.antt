use Rattle.std.proofs.Common.{Some, refl}
use Rattle.evp_format.specs.Class.{numbers, texts, records, single, array}
use Rattle.evp_record.specs.Samples.{pairs_description, pairs_layout}
use Rattle.evp_record.proofs.SampleRecord.{pairs_are_read, root_class, nested_class, below_length, is_array}
use Rattle.evp_record_tests.proofs.tests.readers.pairs_read.Goals as goal

pub list_len-k-end-requires-clause-class : goal.list_len-k-end-requires-clause-class
list_len-k-end-requires-clause-class c =
    is_array _ records
    (root_class pairs_description pairs_layout pairs_are_read c.args.description.now c.in-Ok.format c.args.bytes.now c.in-Ok-check.item
    c.root-root.result 0
    (Some (array records)) c.requires.description c.in-Ok.ensures.exact c.in-Ok-check.ensures.held c.root-root.ensures.place refl)

pub record_in-inner-requires-clause-class : goal.record_in-inner-requires-clause-class
record_in-inner-requires-clause-class c =
    root_class pairs_description pairs_layout pairs_are_read c.args.description.now c.in-Ok.format c.args.bytes.now c.in-Ok-check.item
    c.root-root.result 0
    (Some (array records)) c.requires.description c.in-Ok.ensures.exact c.in-Ok-check.ensures.held c.root-root.ensures.place refl

pub record_in-inner-requires-clause-within : goal.record_in-inner-requires-clause-within
record_in-inner-requires-clause-within c =
    below_length _ c.list_len-k-end.result c.loop-k.k c.list_len-k-end.ensures c.loop-k-test.true

pub number_at-number-requires-clause-class : goal.number_at-number-requires-clause-class
number_at-number-requires-clause-class c =
    nested_class pairs_description pairs_layout pairs_are_read c.args.description.now c.in-Ok.format c.args.bytes.now c.in-Ok-check.item
    c.root-root.result c.record_in-inner.result 0 0 0
    (Some (single numbers)) c.requires.description c.in-Ok.ensures.exact c.in-Ok-check.ensures.held c.root-root.ensures.place
    c.record_in-inner.ensures.number refl refl

pub text_at-text-requires-clause-class : goal.text_at-text-requires-clause-class
text_at-text-requires-clause-class c =
    nested_class pairs_description pairs_layout pairs_are_read c.args.description.now c.in-Ok.format c.args.bytes.now c.in-Ok-check.item
    c.root-root.result c.record_in-inner.result 0 0 1
    (Some (single texts)) c.requires.description c.in-Ok.ensures.exact c.in-Ok-check.ensures.held c.root-root.ensures.place
    c.record_in-inner.ensures.number refl refl
