-- A number stored in a packed record: the record is packed from the fields with that number.
use Rattle.std.proofs.Common.{◌≡◌, ◌≢◌, ℕ, zero, suc, ◌+◌, ◌≤◌, ℤ, List, [], ◌∷◌, ◌++◌, length, Some, None, refl, sym, ap, ◌∙◌, subst}
use Rattle.std.proofs.Common.{arith}
use Rattle.std.specs.Prelude.{Option}
use Rattle.evp_action.proofs.Replaced.{put_first}
use Rattle.evp_action.specs.Acting.{with_number}
use Rattle.evp_base.proofs.Numbers.{length-digits}
use Rattle.evp_base.specs.declared.kind.Kind.{Kind}
use Rattle.evp_base.specs.Numbers.{digits, InRange}
use Rattle.evp_format.specs.declared.field.Field.{Field}
use Rattle.evp_format.specs.declared.field.Shape.{Shape}
use Rattle.evp_format.specs.declared.field.Shape.TheVariants.{One, Fixed, Counted}
use Rattle.evp_format.specs.Bytes.{put_at}
use Rattle.evp_format.specs.Datum.{Datum, num, Entries, empty_record, entry, entry_at, as_number}
use Rattle.evp_format.specs.Packing.{Machine, Piece, Pieces, one_piece, then_pack, put_pieces}
use Rattle.evp_format.specs.Packing.{pack_shaped, pack_tree, pack_branches, pack_part}
use Rattle.evp_format.specs.Tree.{Tree, tree, Branches, no_fields, branch, branch_at, Part, number_part}
use Rattle.evp_format.specs.Typed.{IsShaped, IsListOf, count_in, IsOfTree, IsOfBranches, IsOfPart}
use Rattle.evp_record.proofs.Onto.{AreInside, length-put_pieces}
use Rattle.evp_record.proofs.Pieces.{end_of, Each, AreApart, each_map}
use Rattle.evp_record.specs.Walks.{branches_in}

-- no field of these is an array with that count
abbrev pub CountNot : ℕ → Branches → Type 0
CountNot c no_fields = Unit {0}
CountNot c (branch field part rest) = (field.shape ≢ Counted c) × CountNot c rest

-- the two records differ in one field at most
abbrev pub AgreeBut : ℕ → Entries → Entries → Type 0
AgreeBut k old new = (c : ℕ) → c ≢ k → entry_at new c ≡ entry_at old c

pub with_number-agrees : (k : ℕ) (n : ℤ) (entries : Entries) → AgreeBut k entries (with_number k n entries)
with_number-agrees k n empty_record c other = refl
with_number-agrees zero n (entry name datum rest) zero other = absurd (other refl)
with_number-agrees zero n (entry name datum rest) (suc c) other = refl
with_number-agrees (suc k) n (entry name datum rest) zero other = refl
with_number-agrees (suc k) n (entry name datum rest) (suc c) other =
    with_number-agrees k n rest c (λ same. other (ap suc same))

-- a field that isn't counted by the one that differs has its shape in the other record
shaped_still : (k : ℕ) (old new : Entries) (shape : Shape) (P : Datum → Type 0) (datum : Datum) → AgreeBut k old new → shape ≢ Counted k
    → IsShaped old shape P datum → IsShaped new shape P datum
shaped_still k old new One P datum agree other typed = typed
shaped_still k old new (Fixed m) P datum agree other typed = typed
shaped_still k old new (Counted c) P datum agree other typed =
    subst (λ (found : Option Datum). IsListOf P (count_in found) datum) (sym (agree c (λ same. other (ap Counted same)))) typed

-- so have all fields
branches_still : (k : ℕ) (old new : Entries) (branches : Branches) (entries : Entries) → AgreeBut k old new → CountNot k branches
    → IsOfBranches old branches entries → IsOfBranches new branches entries
branches_still k old new no_fields empty_record agree others typed = tt
branches_still k old new no_fields (entry name datum rest) agree others typed = typed
branches_still k old new (branch field part more) empty_record agree others typed = typed
branches_still k old new (branch field part more) (entry name datum rest) agree others typed = (
  typed.0,
  shaped_still k old new field.shape (λ value. IsOfPart part field.size value) datum agree others.0 typed.1,
  branches_still k old new more rest agree others.1 typed.2,
)

-- a number in its range, as a single number field
number_shaped : (all : Entries) (field : Field) (part : Part) (kind : Kind) (n : ℤ) → part ≡ number_part kind → field.shape ≡ One
    → InRange kind field.size n → IsShaped all field.shape (λ value. IsOfPart part field.size value) (num n)
number_shaped all field part kind n is single fits =
    let Shaped : Shape → Type 0 = λ shape. IsShaped all shape (λ value. IsOfPart part field.size value) (num n) in
    let Typed : Part → Type 0 = λ p. IsOfPart p field.size (num n) in
    subst Shaped (sym single) (subst Typed (sym is) fits)

abbrev field_found : Field → Option (Field × Part) → Field
field_found other None = other
field_found other (Some found) = found.0

abbrev part_found : Part → Option (Field × Part) → Part
part_found other None = other
part_found other (Some found) = found.1

-- the fields with a number at place i of these, which is place k of the record
branches_set : (k i : ℕ) (n : ℤ) (old new : Entries) (branches : Branches) (entries : Entries) (field : Field) (kind : Kind)
    → AgreeBut k old new → CountNot k branches → branch_at branches i ≡ Some (field, number_part kind) → field.shape ≡ One
    → InRange kind field.size n → IsOfBranches old branches entries → IsOfBranches new branches (with_number i n entries)
branches_set k i n old new no_fields entries field kind agree others found single fits typed = cc
branches_set k i n old new (branch first part more) empty_record field kind agree others found single fits typed = absurd typed
branches_set k zero n old new (branch first part more) (entry name datum rest) field kind agree others found single fits typed =
    let is : part ≡ number_part kind = ap (part_found part) found in
    let same : field ≡ first = ap (field_found first) (sym found) in
    let Single : Field → Type 0 = λ f. f.shape ≡ One in
    let Fits : Field → Type 0 = λ f. InRange kind f.size n in (
      typed.0,
      number_shaped new first part kind n is (subst Single same single) (subst Fits same fits),
      branches_still k old new more rest agree others.1 typed.2,
    )
branches_set k (suc i) n old new (branch first part more) (entry name datum rest) field kind agree others found single fits typed = (
  typed.0,
  shaped_still k old new first.shape (λ value. IsOfPart part first.size value) datum agree others.0 typed.1,
  branches_set k i n old new more rest field kind agree others.1 found single fits typed.2,
)

-- the record with the number
pub tree_set : (root : Tree) (k : ℕ) (n : ℤ) (entries : Entries) (field : Field) (kind : Kind) → CountNot k (branches_in root)
    → branch_at (branches_in root) k ≡ Some (field, number_part kind) → field.shape ≡ One
    → InRange kind field.size n → IsOfTree root entries → IsOfTree root (with_number k n entries)
tree_set (tree fixed branches) k n entries field kind others found single fits typed =
    branches_set k k n entries (with_number k n entries) branches entries field kind (with_number-agrees k n entries) others found single
    fits typed

-- the digits of a number over what was packed of the field: all else stays
pub record IsPutOver (machine : Machine) (at : ℕ) (field : Field) (n : ℤ) (old new : Pieces) : Type 0 where
  pub same_size : new.size ≡ old.size
  pub over : (bytes : List ℕ) → AreApart old.all → AreInside (length bytes) old.all
      → put_pieces new.all bytes ≡ put_at (at + field.offset) (digits machine.order field.size n) (put_pieces old.all bytes)

-- where the field's piece comes first
put_here : (machine : Machine) (at : ℕ) (field : Field) (m n : ℤ) (size : ℕ) (next : ℕ → Pieces)
    → IsPutOver machine at field n (then_pack (one_piece (at + field.offset) (digits machine.order field.size m) size) next)
    (then_pack (one_piece (at + field.offset) (digits machine.order field.size n) size) next)
put_here machine at field m n size next =
    record {
      same_size = refl;
      over = λ bytes apart inside.
          put_first (at + field.offset) (digits machine.order field.size m) (digits machine.order field.size n) (next size).all bytes
          (length-digits machine.order field.size m ∙ sym (length-digits machine.order field.size n)) apart inside;
    }

-- the pieces of a field
abbrev pub field_pieces : Machine → ℕ → Field → Part → Datum → ℕ → Pieces
field_pieces machine at field part datum size =
    pack_shaped machine field field.shape at datum (λ offset value after. pack_part machine part field.size offset value after) size

-- of a single number that is one piece
number_pieces : (machine : Machine) (field : Field) (part : Part) (kind : Kind) (at : ℕ) (datum : Datum) (size : ℕ)
    → part ≡ number_part kind → field.shape ≡ One
    → field_pieces machine at field part datum size ≡ one_piece (at + field.offset)
    (digits machine.order field.size (as_number datum)) size
number_pieces machine field part kind at datum size is single =
    ap (λ (shape : Shape). pack_shaped machine field shape at datum
    (λ offset value after. pack_part machine part field.size offset value after) size) single
    ∙ ap (λ (p : Part). pack_part machine p field.size (at + field.offset) datum size) is

put_field : (machine : Machine) (at : ℕ) (field : Field) (part : Part) (kind : Kind) (datum : Datum) (n : ℤ) (size : ℕ) (next : ℕ → Pieces)
    → part ≡ number_part kind → field.shape ≡ One
    → IsPutOver machine at field n (then_pack (field_pieces machine at field part datum size) next)
    (then_pack (field_pieces machine at field part (num n) size) next)
put_field machine at field part kind datum n size next is single =
    let Old : Pieces → Type 0 = λ first. IsPutOver machine at field n (then_pack first next)
    (then_pack (field_pieces machine at field part (num n) size) next) in
    let New : Pieces → Type 0 = λ first. IsPutOver machine at field n
    (then_pack (one_piece (at + field.offset) (digits machine.order field.size (as_number datum)) size) next) (then_pack first next) in
    subst Old (sym (number_pieces machine field part kind at datum size is single))
    (subst New (sym (number_pieces machine field part kind at (num n) size is single))
    (put_here machine at field (as_number datum) n size next))

put_pieces-append : (first rest : List Piece) (bytes : List ℕ) → put_pieces (first ++ rest) bytes ≡ put_pieces rest
    (put_pieces first bytes)
put_pieces-append [] rest bytes = refl
put_pieces-append (piece ∷ first) rest bytes = put_pieces-append first rest (put_at piece.at piece.bytes bytes)

each_of_both : (P : Piece → Type 0) (first rest : List Piece) → Each P (first ++ rest) → Each P first × Each P rest
each_of_both P [] rest each = (tt, each)
each_of_both P (piece ∷ first) rest each = let others = each_of_both P first rest each.1 in ((each.0, others.0), others.1)

apart_of_rest : (first rest : List Piece) → AreApart (first ++ rest) → AreApart rest
apart_of_rest [] rest apart = apart
apart_of_rest (piece ∷ first) rest apart = apart_of_rest first rest apart.1

-- where other pieces come first
put_later : (machine : Machine) (at : ℕ) (field : Field) (n : ℤ) (first old new : Pieces) → IsPutOver machine at field n old new
    → IsPutOver machine at field n (then_pack first (λ _. old)) (then_pack first (λ _. new))
put_later machine at field n first old new later =
    record {
      same_size = later.same_size;
      over = λ bytes apart inside.
          let both = each_of_both (λ (piece : Piece). end_of piece ≤ length bytes) first.all old.all inside in
          let kept = length-put_pieces first.all bytes both.0 in
          put_pieces-append first.all new.all bytes
          ∙ later.over (put_pieces first.all bytes) (apart_of_rest first.all old.all apart)
          (each_map _ _ old.all (λ (piece : Piece) ends. omega (arith, ends, kept)) both.1)
          ∙ ap (put_at (at + field.offset) (digits machine.order field.size n)) (sym (put_pieces-append first.all old.all bytes));
    }

-- these fields with a number at place i
branches_put : (machine : Machine) (branches : Branches) (at i : ℕ) (n : ℤ) (all entries : Entries) (size : ℕ) (field : Field)
    (kind : Kind)
    → branch_at branches i ≡ Some (field, number_part kind) → field.shape ≡ One → IsOfBranches all branches entries
    → IsPutOver machine at field n (pack_branches machine branches at entries size)
    (pack_branches machine branches at (with_number i n entries) size)
branches_put machine no_fields at i n all entries size field kind found single typed = cc
branches_put machine (branch first part more) at i n all empty_record size field kind found single typed = absurd typed
branches_put machine (branch first part more) at zero n all (entry name datum rest) size field kind found single typed =
    let is : part ≡ number_part kind = ap (part_found part) found in
    let same : first ≡ field = ap (field_found first) found in
    let Single : Field → Type 0 = λ f. f.shape ≡ One in
    let Over : Field → Type 0 = λ f.
    IsPutOver machine at f n (pack_branches machine (branch first part more) at (entry name datum rest) size)
    (pack_branches machine (branch first part more) at (entry name (num n) rest) size) in
    subst Over same
    (put_field machine at first part kind datum n size (λ after. pack_branches machine more at rest after) is
    (subst Single (sym same) single))
branches_put machine (branch first part more) at (suc i) n all (entry name datum rest) size field kind found single typed =
    let packed = field_pieces machine at first part datum size in
    put_later machine at field n packed (pack_branches machine more at rest packed.size)
    (pack_branches machine more at (with_number i n rest) packed.size)
    (branches_put machine more at i n all rest packed.size field kind found single typed.2)

-- the record with the number
pub tree_put : (machine : Machine) (root : Tree) (at k : ℕ) (n : ℤ) (entries : Entries) (size : ℕ) (field : Field) (kind : Kind)
    → branch_at (branches_in root) k ≡ Some (field, number_part kind) → field.shape ≡ One → IsOfTree root entries
    → IsPutOver machine at field n (pack_tree machine root at entries size) (pack_tree machine root at (with_number k n entries) size)
tree_put machine (tree fixed branches) at k n entries size field kind found single typed =
    branches_put machine branches at k n entries entries size field kind found single typed
