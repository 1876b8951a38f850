-- What a format knows of its record: the length and the leads of the last type.
use Rattle.std.proofs.Common.{◌≡◌, ℕ, ◌-◌, ◌<◌, List, length, get_or, Some, refl, sym, ap, ◌∙◌, arith}
use Rattle.std.specs.Prelude.{slice_get}
use Rattle.std.proofs.lemmas.List.{get_or-map, length-map}
use Rattle.evp_format.specs.declared.lead.Lead.{Lead}
use Rattle.evp_format.specs.declared.record_type.RecordType.{RecordType}
use Rattle.evp_format.specs.Class.{fields_in}
use Rattle.evp_format.specs.Layout.{Layout}
use Rattle.evp_format.specs.Leads.{type_leads, all_leads, leads_of_root}
use Rattle.evp_format.specs.Tree.{root_of, length_of}
use Rattle.evp_format.specs.WellLaid.{IsWellLaid}
use Rattle.evp_format.proofs.Lists.{found_at}
use Rattle.evp_format.proofs.LaidBases.{root_length}
use Rattle.evp_format.proofs.LeadFacts.{found_get}
use Rattle.evp_format.proofs.Trees.{found_below}

last_below : (layout : Layout) (n : ℕ) → IsWellLaid layout → n ≡ length layout.types → n - 1 < length layout.types
last_below layout n laid long = let some = laid.types_allowed.0 in omega (arith, some, long)

last_found : (layout : Layout) (n : ℕ) (type : RecordType) → IsWellLaid layout → n ≡ length layout.types
    → type ≡ get_or layout.types (n - 1) type → slice_get layout.types (length layout.types - 1) ≡ Some type
last_found layout n type laid long is =
    ap (λ (m : ℕ). slice_get layout.types (m - 1)) (sym long)
    ∙ found_at layout.types layout.types (n - 1) type refl (last_below layout n laid long) is

-- the length of the type that was read is the record's
pub length_read : (layout : Layout) (n : ℕ) (type : RecordType) → IsWellLaid layout → n ≡ length layout.types
    → type ≡ get_or layout.types (n - 1) type → type.length ≡ length_of (root_of layout)
length_read layout n type laid long is = sym (root_length layout type laid (last_found layout n type laid long is))

-- the leads that were read are the record's
pub leads_read : (layout : Layout) (leads : List (List Lead)) (n : ℕ) (own : List Lead) → IsWellLaid layout
    → leads ≡ all_leads layout.types → n ≡ length leads → own ≡ get_or leads (n - 1) own → own ≡ leads_of_root layout
leads_read layout leads n own laid are long is =
    let of_type = λ (type : RecordType). type_leads layout.types type.fields in
    let many : n ≡ length layout.types = long ∙ ap length are ∙ length-map layout.types of_type in
    let below = last_below layout n laid many in
    let found = found_below layout.types (n - 1) below in
    let type = found.0 in
    let last : slice_get layout.types (length layout.types - 1) ≡ Some type =
    ap (λ (m : ℕ). slice_get layout.types (m - 1)) (sym many) ∙ found.1 in
    is ∙ ap (λ (all : List (List Lead)). get_or all (n - 1) own) are
    ∙ get_or-map of_type layout.types (n - 1) type own below
    ∙ ap of_type (found_get layout.types (n - 1) type found.1)
    ∙ ap (type_leads layout.types) (sym (ap fields_in last))
