-- A number stored in a packed record of a well laid format.
use Rattle.std.proofs.Common.{◌≡◌, ◌≢◌, ℕ, suc, ◌+◌, ◌-◌, ◌≤◌, ℤ, List, length, take, Some, refl, sym, ap, ◌∙◌, subst}
use Rattle.std.proofs.Common.{arith, IsTrue}
use Rattle.std.proofs.lemmas.Bool.Decides.{nat_tests}
use Rattle.std.proofs.lemmas.Int.{ints}
use Rattle.std.proofs.lemmas.List.{length-replicate}
use Rattle.std.specs.Prelude.{slice_get, Option, option_and_then, replicate, IfSome}
use Rattle.evp_action.proofs.Stored.{CountNot, tree_set, tree_put}
use Rattle.evp_action.specs.Acting.{with_number}
use Rattle.evp_action.specs.Agreement.{IsSettable}
use Rattle.evp_action.specs.Storing.{IsPacked, IsPackedRecord, FitsField}
use Rattle.evp_base.proofs.Complement.{width}
use Rattle.evp_base.specs.declared.kind.Kind.{Kind}
use Rattle.evp_base.specs.declared.kind.Kind.TheVariants.{Int, Unsigned, Char, Boolean, Enumeration}
use Rattle.evp_base.specs.Numbers.{digits, InRange, FitsBytes, is_width, is_size_of}
use Rattle.evp_format.proofs.Trees.{fields_of-branches_of}
use Rattle.evp_format.specs.declared.field.Base.{Base}
use Rattle.evp_format.specs.declared.field.Base.TheVariants.{Number}
use Rattle.evp_format.specs.declared.field.Field.{Field}
use Rattle.evp_format.specs.declared.field.Shape.{Shape}
use Rattle.evp_format.specs.declared.field.Shape.TheVariants.{One, Counted}
use Rattle.evp_format.specs.declared.record_type.RecordType.{RecordType}
use Rattle.evp_format.specs.Bytes.{put_at}
use Rattle.evp_format.specs.Class.{field_at}
use Rattle.evp_format.specs.Datum.{rec, Entries}
use Rattle.evp_format.specs.Layout.{Layout}
use Rattle.evp_format.specs.Packing.{Piece, machine_of, pack, pieces_of, put_pieces}
use Rattle.evp_format.specs.Tree.{Tree, Branches, no_fields, branch, branch_at, fields_of, number_part, part_of, trees, root_of, length_of}
use Rattle.evp_format.specs.WellLaid.{IsWellLaid, IsNumberIn, extent, shape_extent}
use Rattle.evp_record.proofs.Laid.{LaidAt, laid_at, branch_at-all, inside, size_of_number}
use Rattle.evp_record.proofs.Onto.{AreInside, inside-placed}
use Rattle.evp_record.proofs.PackedWhole.{placed_whole}
use Rattle.evp_record.proofs.Pieces.{Within, each_map}
use Rattle.evp_record.proofs.ViewPacked.{length-pack}
use Rattle.evp_record.specs.Walks.{branches_in}

count_not : (c : ℕ) (branches : Branches)
    → ((j : ℕ) (other : Field) → slice_get (fields_of branches) j ≡ Some other → other.shape ≢ Counted c)
    → CountNot c branches
count_not c no_fields none = tt
count_not c (branch field part rest) none = (none 0 field refl, count_not c rest (λ j other found. none (suc j) other found))

-- the number of the last type, which is the record
abbrev pub last_of : Layout → ℕ
last_of layout = length layout.types - 1

-- no array of the record is counted by a field that may be set
count_not_set : (layout : Layout) (k : ℕ) (field : Field) → LaidAt layout (last_of layout) k field
    → ((j : ℕ) (other : Field) → field_at layout (last_of layout) j ≡ Some other → other.shape ≢ Counted k)
    → CountNot k (branches_in (root_of layout))
count_not_set layout k field at none =
    let fields : fields_of (branches_in (root_of layout)) ≡ at.type.fields = ap (λ (t : Tree). fields_of (branches_in t)) at.tree
    ∙ fields_of-branches_of (trees layout.types) at.type.fields in
    count_not k (branches_in (root_of layout))
    (λ j other found. none j other
    (ap (option_and_then (λ (type : RecordType). slice_get type.fields j)) at.type_there
    ∙ ap (λ (fs : List Field). slice_get fs j) (sym fields) ∙ found))

-- the record of the fields with the number
pub packed_set : (layout : Layout) (k : ℕ) (n : ℤ) (entries : Entries) (bytes : List ℕ) (field : Field) (kind : Kind) → IsWellLaid layout
    → LaidAt layout (last_of layout) k field → field.shape ≡ One → field.base ≡ Number kind
    → ((j : ℕ) (other : Field) → field_at layout (last_of layout) j ≡ Some other → other.shape ≢ Counted k)
    → InRange kind field.size n → IsPacked layout entries bytes
    → IsPacked layout (with_number k n entries) (put_at field.offset (digits layout.order field.size n) bytes)
packed_set layout k n entries bytes field kind laid at single is none fits packed =
    let root = root_of layout in
    let fixed = length_of root in
    let pieces = pieces_of layout (rec entries) in
    let found : branch_at (branches_in root) k ≡ Some (field, number_part kind) = branch_at-all layout (last_of layout) k field at
    ∙ ap (λ (base : Base). Some (field, part_of (trees layout.types) base)) is in
    let put = tree_put (machine_of layout) root 0 k n entries fixed field kind found single packed.of_format in
    let placed = placed_whole layout (rec entries) laid packed.of_format in
    let zeros = length-replicate {A = ℕ} pieces.size 0 in
    let within : AreInside (length {A = ℕ} (replicate pieces.size 0)) pieces.all = each_map _ _ pieces.all
    (λ (piece : Piece) ends. omega (arith, ends, zeros))
    (inside-placed (Within 0 fixed) fixed pieces (λ piece here. omega (arith, here.to)) placed) in
    let place : 0 + field.offset ≡ field.offset = omega arith in
    record {
      of_format = tree_set root k n entries field kind (count_not_set layout k field at none) found single fits packed.of_format;
      packed = ap (put_at field.offset (digits layout.order field.size n)) packed.packed
          ∙ ap (λ (p : ℕ). put_at p (digits layout.order field.size n) (pack layout (rec entries))) (sym place)
          ∙ sym (put.over (replicate pieces.size 0) placed.apart within)
          ∙ ap (λ (size : ℕ). put_pieces (pieces_of layout (rec (with_number k n entries))).all (replicate size 0)) (sym put.same_size);
      small = omega (arith, put.same_size, packed.small);
    }

one_byte : (size : ℕ) → IsTrue (is_size_of Char size) → size ≡ 1
one_byte size allowed = grind (arith, nat_tests)

width_of_kind : (kind : Kind) (size : ℕ) → IsTrue (is_size_of kind size) → IsTrue (is_width size)
width_of_kind Int size allowed = allowed
width_of_kind Unsigned size allowed = allowed
width_of_kind Char size allowed = let one = one_byte size allowed in let Wide : ℕ → Type 0 = λ s. IsTrue (is_width s) in
    subst Wide (sym one) refl
width_of_kind Boolean size allowed = allowed
width_of_kind Enumeration size allowed = allowed

-- a number of a kind is a signed or an unsigned one of its size
fits_bytes : (kind : Kind) (size : ℕ) (n : ℤ) → IsTrue (is_width size) → InRange kind size n → FitsBytes size n
fits_bytes Int size n wide range = let w = width size wide in
    let half = w.half in let least = w.least in (omega (arith, ints), omega (arith, ints))
fits_bytes Unsigned size n wide range = let w = width size wide in
    let half = w.half in let least = w.least in (omega (arith, ints), omega (arith, ints))
fits_bytes Char size n wide range = let w = width size wide in
    let half = w.half in let least = w.least in (omega (arith, ints), omega (arith, ints))
fits_bytes Boolean size n wide range = let w = width size wide in
    let half = w.half in let least = w.least in (omega (arith, ints), omega (arith, ints))
fits_bytes Enumeration size n wide range = let w = width size wide in
    let half = w.half in let least = w.least in (omega (arith, ints), omega (arith, ints))

-- a packed record is as long as its fixed part at least
long_enough : (layout : Layout) (entries : Entries) (bytes : List ℕ) → IsWellLaid layout → IsPacked layout entries bytes
    → length_of (root_of layout) ≤ length bytes
long_enough layout entries bytes laid packed =
    let placed = placed_whole layout (rec entries) laid packed.of_format in
    let long = ap length packed.packed ∙ length-pack layout (rec entries) laid packed.of_format in
    omega (arith, placed.grows, long)

-- what putting the digits of a number at a field needs, and what it does
pub record MayPut (layout : Layout) (k : ℕ) (n : ℤ) (bytes : List ℕ) (field : Field) : Type 0 where
  pub allowed : IsTrue (is_width field.size)
  pub fits : FitsBytes field.size n
  pub within : field.offset + field.size ≤ length bytes
  pub stored : (entries : Entries) → IsPacked layout entries bytes
      → IsPacked layout (with_number k n entries) (put_at field.offset (digits layout.order field.size n) bytes)

pub may_put : (layout : Layout) (types : List RecordType) (k : ℕ) (n : ℤ) (bytes : List ℕ) (field : Field) → IsWellLaid layout
    → IsSettable layout k → FitsField layout k n → IsPackedRecord layout bytes → types ≡ layout.types
    → field_at layout (length types - 1) k ≡ Some field → MayPut layout k n bytes field
may_put layout types k n bytes field laid settable fits packed read found =
    let there : field_at layout (last_of layout) k ≡ Some field =
    subst (λ (all : List RecordType). field_at layout (length all - 1) k ≡ Some field) read found in
    let same : settable.field ≡ field = found_once (field_at layout (last_of layout) k) settable.field field settable.there there in
    let is : field.base ≡ Number settable.kind = subst (λ (f : Field). f.base ≡ Number settable.kind) same settable.a_number in
    let single : field.shape ≡ One = subst (λ (f : Field). f.shape ≡ One) same settable.single in
    let at = laid_at layout (last_of layout) k field laid there in
    let allowed = width_of_kind settable.kind field.size
    (size_of_number layout.pointer (take (last_of layout) layout.types) field.base field.size settable.kind at.laid.size_allowed is) in
    let range : InRange settable.kind field.size n =
    subst (λ (base : Base). IsNumberIn base field.size n) is
    (subst (λ (found : Option Field). IfSome found (λ f. IsNumberIn f.base f.size n)) there fits) in
    let taken : extent layout.pointer field ≡ field.size = ap (λ (shape : Shape). shape_extent layout.pointer shape field.size) single in
    let fixed = inside layout (last_of layout) k field at in
    let long = long_enough layout packed.0 bytes laid packed.1 in
    record {
      allowed = allowed;
      fits = fits_bytes settable.kind field.size n allowed range;
      within = omega (arith, fixed, taken, long);
      stored = λ entries held. packed_set layout k n entries bytes field settable.kind laid at single is settable.no_count range held;
    }
  where
    found_once : (found : Option Field) (one other : Field) → found ≡ Some one → found ≡ Some other → one ≡ other
    found_once found one other first second = let same : Some one ≡ Some other = sym first ∙ second in cc
