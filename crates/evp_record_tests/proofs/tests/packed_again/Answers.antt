-- The description is read as the sample's format, its bytes are viewed as the sample's value, and that is of the format and small.
use Rattle.std.proofs.Common.{◌≡◌, ℕ, List, ◌<◌, ◌^◌, sym, ap, ◌∙◌, subst}
use Rattle.evp_format.specs.Datum.{Datum}
use Rattle.evp_format.specs.Layout.{Layout}
use Rattle.evp_format.specs.Packing.{packed_size}
use Rattle.evp_format.specs.Typed.{IsOf}
use Rattle.evp_format.specs.Viewing.{view}
use Rattle.evp_format.specs.ValueView.{datum_of}
use Rattle.evp_record.specs.Record.{Record, record_of, value_of, value_or_null}
use Rattle.evp_record.specs.Samples.{list_description, list_layout, list_bytes, list_value}
use Rattle.evp_record.proofs.SampleRecord.{format_is, list_is_read, list_is_viewed, list_is_small, list_is_of_format}
use Rattle.evp_record_tests.proofs.tests.packed_again.Goals as goal

-- the value of the bytes, by what the calls say
value_is : (bytes : List ℕ) (layout : Layout) (held : Record) (value : Datum) → bytes ≡ list_bytes → layout ≡ list_layout
    → held ≡ record_of layout bytes → value ≡ value_of held
    → value ≡ list_value
value_is bytes layout held value bytes_are layout_is held_is value_of_held =
    value_of_held ∙ ap value_of held_is ∙ ap (λ (l : Layout). value_or_null (view l bytes)) layout_is
    ∙ ap (λ (b : List ℕ). value_or_null (view list_layout b)) bytes_are
    ∙ ap value_or_null list_is_viewed

pub pack-requires-clause-of_format : goal.pack-requires-clause-of_format
pack-requires-clause-of_format c =
    let layout_is = format_is c.args.description.now list_description c.in-Ok.format list_layout list_is_read c.requires.description
    c.in-Ok.ensures.exact in
    let datum_is = value_is c.args.bytes.now c.in-Ok.format c.in-Ok-check.item _ c.requires.bytes layout_is c.in-Ok-check.ensures.held
    c.in-Ok-view.ensures in
    subst (λ (layout : Layout). IsOf layout (datum_of c.in-Ok-view.value)) (sym layout_is)
    (subst (λ (value : Datum). IsOf list_layout value) (sym datum_is) list_is_of_format)

pub pack-requires-clause-small : goal.pack-requires-clause-small
pack-requires-clause-small c =
    let layout_is = format_is c.args.description.now list_description c.in-Ok.format list_layout list_is_read c.requires.description
    c.in-Ok.ensures.exact in
    let datum_is = value_is c.args.bytes.now c.in-Ok.format c.in-Ok-check.item _ c.requires.bytes layout_is c.in-Ok-check.ensures.held
    c.in-Ok-view.ensures in
    subst (λ (layout : Layout). packed_size layout (datum_of c.in-Ok-view.value) < 2 ^ 32) (sym layout_is)
    (subst (λ (value : Datum). packed_size list_layout value < 2 ^ 32) (sym datum_is) list_is_small)
