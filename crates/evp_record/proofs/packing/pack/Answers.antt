use Rattle.std.proofs.Common.{◌≡◌, ℕ, ◌∙◌, ap, sym, subst, arith, length, Some}
use Rattle.std.proofs.lemmas.List.{length-replicate}
use Rattle.evp_format.specs.Converting.{entries_of}
use Rattle.evp_format.specs.Datum.{Entries}
use Rattle.evp_format.specs.Packing.{machine_of, pack_tree}
use Rattle.evp_format.specs.Tree.{Tree, root_of, length_of}
use Rattle.evp_format.specs.ValueView.{datum_of, entries_of_pairs}
use Rattle.evp_record.proofs.PackedWhole.{packed_whole, whole_begins}
use Rattle.evp_record.specs.Onto.{onto, AreSmall}
use Rattle.evp_record.proofs.packing.pack.Goals as goal

pub pack_record-requires-clause-inside : goal.pack_record-requires-clause-inside
pack_record-requires-clause-inside c =
    let layout = c.args.format.now in
    let begins = whole_begins layout c.types-types.result.now c.index-types-last.result c.new-out.result.items c.grow.new.out.items
    c.types-types.ensures.laid c.types-types.ensures.value c.index-types-last.is
    c.new-out.ensures.items c.in_ok-grow.ensures in
    let long : length c.grow.new.out.items ≡ length_of (root_of layout) = ap length begins.0
    ∙ length-replicate {A = ℕ} (length_of (root_of layout)) 0 in
    let root = ap length_of begins.1 in
    omega (arith, long, root)

pub pack_record-requires-clause-small : goal.pack_record-requires-clause-small
pack_record-requires-clause-small c =
    let layout = c.args.format.now in
    let begins = whole_begins layout c.types-types.result.now c.index-types-last.result c.new-out.result.items c.grow.new.out.items
    c.types-types.ensures.laid c.types-types.ensures.value c.index-types-last.is
    c.new-out.ensures.items c.in_ok-grow.ensures in
    let long : length c.grow.new.out.items ≡ length_of (root_of layout) = ap length begins.0
    ∙ length-replicate {A = ℕ} (length_of (root_of layout)) 0 in
    let Small : Tree
    → Type 0 = λ t. AreSmall (pack_tree (machine_of layout) t 0 (entries_of_pairs c.entries.result.now) (length c.grow.new.out.items))
    in
    let Small' : Entries
    → Type 0 = λ entries. AreSmall (pack_tree (machine_of layout) (root_of layout) 0 entries (length c.grow.new.out.items)) in
    let Small'' : ℕ
    → Type 0 = λ n. AreSmall (pack_tree (machine_of layout) (root_of layout) 0 (entries_of (Some (datum_of c.args.value.now))) n) in
    subst Small (sym begins.1) (subst Small' (sym c.entries.ensures) (subst Small'' (sym long) c.requires.small))

pub returns : goal.returns
returns c =
    let layout = c.args.format.now in
    let begin = c.grow.new.out.items in
    let begins = whole_begins layout c.types-types.result.now c.index-types-last.result c.new-out.result.items begin
    c.types-types.ensures.laid c.types-types.ensures.value c.index-types-last.is
    c.new-out.ensures.items c.in_ok-grow.ensures in
    packed_whole layout (datum_of c.args.value.now) begin c.pack_record.new.out.items c.types-types.ensures.laid c.requires.of_format
    begins.0
    (c.in_ok-pack_record.ensures
    ∙ ap (λ (t : Tree). onto begin (pack_tree (machine_of layout) t 0 (entries_of_pairs c.entries.result.now) (length begin))) begins.1
    ∙ ap (λ (entries : Entries). onto begin (pack_tree (machine_of layout) (root_of layout) 0 entries (length begin))) c.entries.ensures)
