use Rattle.std.proofs.Common.{Some, refl}
use Rattle.evp_format.specs.Class.{texts, records, single, array}
use Rattle.evp_record.specs.Samples.{words_description, words_layout}
use Rattle.evp_record.proofs.SampleRecord.{words_are_read, root_class, nested_class, below_length, is_array}
use Rattle.evp_record_tests.proofs.tests.readers.words_read.Goals as goal

pub record_at-inner-requires-clause-class : goal.record_at-inner-requires-clause-class
record_at-inner-requires-clause-class c =
    root_class words_description words_layout words_are_read c.args.description.now c.in-Ok.format c.args.bytes.now c.in-Ok-check.item
    c.root-root.result 0
    (Some (single records)) c.requires.description c.in-Ok.ensures.exact c.in-Ok-check.ensures.held c.root-root.ensures.place refl

pub text_at-text-requires-clause-class : goal.text_at-text-requires-clause-class
text_at-text-requires-clause-class c =
    nested_class words_description words_layout words_are_read c.args.description.now c.in-Ok.format c.args.bytes.now c.in-Ok-check.item
    c.root-root.result c.record_at-inner.result 0 0 0
    (Some (single texts)) c.requires.description c.in-Ok.ensures.exact c.in-Ok-check.ensures.held c.root-root.ensures.place
    c.record_at-inner.ensures.number refl refl

pub list_len-k-end-requires-clause-class : goal.list_len-k-end-requires-clause-class
list_len-k-end-requires-clause-class c =
    is_array _ texts
    (root_class words_description words_layout words_are_read c.args.description.now c.in-Ok.format c.args.bytes.now c.in-Ok-check.item
    c.root-root.result 1
    (Some (array texts)) c.requires.description c.in-Ok.ensures.exact c.in-Ok-check.ensures.held c.root-root.ensures.place refl)

pub text_in-word-requires-clause-class : goal.text_in-word-requires-clause-class
text_in-word-requires-clause-class c =
    root_class words_description words_layout words_are_read c.args.description.now c.in-Ok.format c.args.bytes.now c.in-Ok-check.item
    c.root-root.result 1
    (Some (array texts)) c.requires.description c.in-Ok.ensures.exact c.in-Ok-check.ensures.held c.root-root.ensures.place refl

pub text_in-word-requires-clause-within : goal.text_in-word-requires-clause-within
text_in-word-requires-clause-within c =
    below_length _ c.list_len-k-end.result c.loop-k.k c.list_len-k-end.ensures c.loop-k-test.true
