-- A value, level by level.
use Rattle.std.proofs.Common.{◌≡◌, ap, ◌∙◌, List, ℕ, Vec, Global, rules}
use Rattle.evp_format.specs.Datum.{list, rec}
use Rattle.evp_format.specs.ValueView.{datum_of, items_of, members_of, elements_of_values, entries_of_pairs}
use Rattle.evp_format.specs.declared.value.Items.{Items, out-Items, roll-Items}
use Rattle.evp_format.specs.declared.value.Members.{Members, out-Members, roll-Members}
use Rattle.evp_format.specs.declared.value.Value.TheOpen.{Members-F}
use Rattle.evp_format.specs.declared.value.Value.{Value, List as List_of, Rec, the_lemmas}

pub items_of-values : (items : Items) → items_of items ≡ elements_of_values (out-Items items).values.items
items_of-values items = search (rules, the_lemmas)

pub members_of-pairs : (members : Members) → members_of members ≡ entries_of_pairs (out-Members members).pairs.items
members_of-pairs members = search (rules, the_lemmas)

pub datum_of-List : (items : Items) → datum_of (List_of items) ≡ list (items_of items)
datum_of-List items = search (rules, the_lemmas)

pub datum_of-Rec : (members : Members) → datum_of (Rec members) ≡ rec (members_of members)
datum_of-Rec members = search (rules, the_lemmas)

-- a list and a record made from their parts
pub datum_of-values : (values : Vec Value Global) → datum_of (List_of (roll-Items (record { values = values })))
    ≡ list (elements_of_values values.items)
datum_of-values values = search (rules, the_lemmas)

pub datum_of-pairs : (pairs : Vec (List ℕ × Value) Global) → datum_of (Rec (roll-Members (record { pairs = pairs })))
    ≡ rec (entries_of_pairs pairs.items)
datum_of-pairs pairs =
    let made : Members-F Value Items Members = record { pairs = pairs } in
    let opened : out-Members (roll-Members made) ≡ made = search (rules, the_lemmas) in
    datum_of-Rec (roll-Members made) ∙ ap rec (members_of-pairs (roll-Members made))
    ∙ ap (λ (members : Members-F Value Items Members). rec (entries_of_pairs members.pairs.items)) opened
