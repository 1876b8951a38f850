-- The texts inside a value of a format are texts.
use Rattle.std.proofs.Common.{ℕ, ℤ, List, Bool, true, false, Option, Some, None, if◌then◌else◌}
use Rattle.evp_format.specs.declared.field.Shape.{Shape}
use Rattle.evp_format.specs.declared.field.Shape.TheVariants.{One, Fixed, Counted}
use Rattle.evp_format.specs.Bytes.{bytes_equal}
use Rattle.evp_format.specs.Datum.{Datum, num, null, text, list, rec, Elements, empty_list, element, Entries, empty_record, entry, named}
use Rattle.evp_format.specs.Tree.{Tree, tree, Branches, no_fields, branch, Part, number_part, text_part, tree_part}
use Rattle.evp_format.specs.Typed.{EachElement, IsListOf, IsShaped, IsText, IsOfTree, IsOfBranches, IsOfPart}

abbrev mutual
  pub HasTexts : Datum → Type 0
  HasTexts (num z) = Unit {0}
  HasTexts null = Unit {0}
  HasTexts (text bytes) = IsText (text bytes)
  HasTexts (list elements) = EachHasTexts elements
  HasTexts (rec entries) = EntriesHaveTexts entries

  pub EachHasTexts : Elements → Type 0
  EachHasTexts empty_list = Unit {0}
  EachHasTexts (element datum rest) = HasTexts datum × EachHasTexts rest

  pub EntriesHaveTexts : Entries → Type 0
  EntriesHaveTexts empty_record = Unit {0}
  EntriesHaveTexts (entry name datum rest) = HasTexts datum × EntriesHaveTexts rest

abbrev pub HasTextsWhereSome : Option Datum → Type 0
HasTextsWhereSome None = Unit {0}
HasTextsWhereSome (Some datum) = HasTexts datum

-- the value of a name
pub named_texts : (name : List ℕ) (entries : Entries) → EntriesHaveTexts entries → HasTextsWhereSome (named name entries)
named_texts name empty_record texts = tt
named_texts name (entry other datum rest) texts = by_test (bytes_equal name other) texts.0 (named_texts name rest texts.1)
  where
    by_test : (test : Bool) → HasTexts datum → HasTextsWhereSome (named name rest)
        → HasTextsWhereSome (if test then Some datum else named name rest)
    by_test true here there = here
    by_test false here there = there

each_texts : (P : Datum → Type 0) (elements : Elements) → ((datum : Datum) → P datum → HasTexts datum) → EachElement P elements
    → EachHasTexts elements
each_texts P empty_list texts each = tt
each_texts P (element datum rest) texts each = (texts datum each.0, each_texts P rest texts each.1)

list_texts : (P : Datum → Type 0) (count : Option ℤ) (datum : Datum) → ((inner : Datum) → P inner → HasTexts inner) → IsListOf P count datum
    → HasTexts datum
list_texts P count (num z) texts typed = absurd typed
list_texts P count null texts typed = absurd typed
list_texts P count (text bytes) texts typed = absurd typed
list_texts P count (list elements) texts typed = each_texts P elements texts typed.1
list_texts P count (rec entries) texts typed = absurd typed

shaped_texts : (P : Datum → Type 0) (all : Entries) (shape : Shape) (datum : Datum) → ((inner : Datum) → P inner → HasTexts inner)
    → IsShaped all shape P datum → HasTexts datum
shaped_texts P all One datum texts typed = texts datum typed
shaped_texts P all (Fixed n) datum texts typed = list_texts P _ datum texts typed
shaped_texts P all (Counted c) datum texts typed = list_texts P _ datum texts typed

mutual
  tree_texts : (t : Tree) (entries : Entries) → IsOfTree t entries → EntriesHaveTexts entries
  tree_texts (tree length branches) entries typed = branches_texts entries branches entries typed

  branches_texts : (all : Entries) (branches : Branches) (entries : Entries) → IsOfBranches all branches entries → EntriesHaveTexts entries
  branches_texts all no_fields empty_record typed = tt
  branches_texts all no_fields (entry name datum rest) typed = absurd typed
  branches_texts all (branch field part others) empty_record typed = absurd typed
  branches_texts all (branch field part others) (entry name datum rest) typed = (
    shaped_texts (IsOfPart part field.size) all field.shape datum (λ inner is. part_texts part field.size inner is) typed.1,
    branches_texts all others rest typed.2,
  )

  pub part_texts : (part : Part) (size : ℕ) (datum : Datum) → IsOfPart part size datum → HasTexts datum
  part_texts (number_part kind) size (num z) typed = tt
  part_texts (number_part kind) size null typed = tt
  part_texts (number_part kind) size (text bytes) typed = absurd typed
  part_texts (number_part kind) size (list elements) typed = absurd typed
  part_texts (number_part kind) size (rec entries) typed = absurd typed
  part_texts text_part size (num z) typed = tt
  part_texts text_part size null typed = tt
  part_texts text_part size (text bytes) typed = typed
  part_texts text_part size (list elements) typed = absurd typed
  part_texts text_part size (rec entries) typed = absurd typed
  part_texts (tree_part nested) size (num z) typed = tt
  part_texts (tree_part nested) size null typed = tt
  part_texts (tree_part nested) size (text bytes) typed = absurd typed
  part_texts (tree_part nested) size (list elements) typed = absurd typed
  part_texts (tree_part nested) size (rec entries) typed = tree_texts nested entries typed
