use Rattle.std.proofs.Common.{Some, refl}
use Rattle.evp_format.specs.Class.{numbers, single, array}
use Rattle.evp_record.specs.Samples.{list_description, list_layout}
use Rattle.evp_record.proofs.SampleRecord.{list_is_read, root_class, below_length, is_array}
use Rattle.evp_record_tests.proofs.tests.readers.list_read.Goals as goal

pub list_len-k-end-requires-clause-class : goal.list_len-k-end-requires-clause-class
list_len-k-end-requires-clause-class c =
    is_array _ numbers
    (root_class list_description list_layout list_is_read c.args.description.now c.in-Ok.format c.args.bytes.now c.in-Ok-check.item
    c.root-root.result 0
    (Some (array numbers)) c.requires.description c.in-Ok.ensures.exact c.in-Ok-check.ensures.held c.root-root.ensures.place refl)

pub number_in-requires-clause-class : goal.number_in-requires-clause-class
number_in-requires-clause-class c =
    root_class list_description list_layout list_is_read c.args.description.now c.in-Ok.format c.args.bytes.now c.in-Ok-check.item
    c.root-root.result 0
    (Some (array numbers)) c.requires.description c.in-Ok.ensures.exact c.in-Ok-check.ensures.held c.root-root.ensures.place refl

pub number_in-requires-clause-within : goal.number_in-requires-clause-within
number_in-requires-clause-within c =
    below_length _ c.list_len-k-end.result c.loop-k.k c.list_len-k-end.ensures c.loop-k-test.true

pub number_at-count-requires-clause-class : goal.number_at-count-requires-clause-class
number_at-count-requires-clause-class c =
    root_class list_description list_layout list_is_read c.args.description.now c.in-Ok.format c.args.bytes.now c.in-Ok-check.item
    c.root-root.result 1
    (Some (single numbers)) c.requires.description c.in-Ok.ensures.exact c.in-Ok-check.ensures.held c.root-root.ensures.place refl

pub elements-elements-requires-clause-class : goal.elements-elements-requires-clause-class
elements-elements-requires-clause-class c =
    root_class list_description list_layout list_is_read c.args.description.now c.in-Ok.format c.args.bytes.now c.in-Ok-check.item
    c.root-root.result 0
    (Some (array numbers)) c.requires.description c.in-Ok.ensures.exact c.in-Ok-check.ensures.held c.root-root.ensures.place refl
