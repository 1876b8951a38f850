-- The marks of a walk that goes by the leads of a type: the mark behind each, or none where there
-- is a fault.
use Rattle.std.specs.Prelude.{◌≡◌, ◌≢◌, ℕ, zero, suc, ◌+◌, ◌*◌, ◌^◌, ◌<◌, ◌≤◌, ℤ, pos, negsuc}
use Rattle.std.specs.Prelude.{nat_eq, nat_lt, List, [], ◌∷◌, length, Option, Some, None}
use Rattle.std.specs.Prelude.{◌||◌, option_and_then, if◌then◌else◌, IsTrue, ⊤}
use Rattle.evp_base.specs.declared.kind.Kind.TheVariants.{Boolean}
use Rattle.evp_base.specs.Numbers.{number, is_size_of}
use Rattle.evp_format.specs.declared.lead.Count.{Count}
use Rattle.evp_format.specs.declared.lead.Inside.{Inside}
use Rattle.evp_format.specs.declared.lead.Inside.TheVariants as inside
use Rattle.evp_format.specs.declared.lead.Lead.{Lead}
use Rattle.evp_format.specs.declared.lead.Run.{Run}
use Rattle.evp_format.specs.declared.lead.Run.TheVariants as run
use Rattle.evp_format.specs.Bytes.{bytes_at}
use Rattle.evp_format.specs.Datum.{Datum}
use Rattle.evp_format.specs.Layout.{Layout}
use Rattle.evp_format.specs.Tree.{tree_of, length_of}
use Rattle.evp_format.specs.Viewing.{Image, Walked, read, broken, view_tree, view_string, image_of}
use Rattle.evp_format.specs.Viewing.{pointer_at}
use Rattle.evp_record.specs.Record.{Record}

-- the mark behind what was read
abbrev pub mark_of : {A : Type 0} → Walked A → Option ℕ
mark_of (read value mark) = Some mark
mark_of (broken fault) = None

abbrev pub image_in : Record → Image
image_in held = image_of held.layout held.bytes

-- the record of a type at `at`
abbrev pub record_walk : Record → ℕ → ℕ → ℕ → Walked Datum
record_walk held type_number at mark = view_tree (image_in held) (tree_of held.layout type_number)
    at [] mark

-- the string whose pointer stands at `at`
abbrev pub text_walk : Record → ℕ → ℕ → Walked Datum
text_walk held at mark = view_string (image_in held) [] mark (pointer_at (image_in held) at)

-- behind what is inside an element at `at`
abbrev pub inside_mark : Record → Inside → ℕ → ℕ → Option ℕ
inside_mark held inside.Plain at mark = Some mark
inside_mark held inside.Text at mark = mark_of (text_walk held at mark)
inside_mark held (inside.Record type_number) at mark = mark_of
    (record_walk held type_number at mark)

-- behind n elements from number k on, of which the first of all stands at `from`
abbrev pub elements_mark : Record → Inside → ℕ → ℕ → ℕ → ℕ → ℕ → Option ℕ
elements_mark held within size from zero k mark = Some mark
elements_mark held within size from (suc n) k mark = option_and_then
    (λ after. elements_mark held within size from n (suc k) after)
    (inside_mark held within (from + k * size) mark)

-- behind a counted array by its count and its pointer q
abbrev pub counted_mark : Record → Inside → ℕ → ℤ → ℕ → ℕ → Option ℕ
counted_mark held within size (negsuc n) q mark = None
counted_mark held within size (pos zero) q mark = Some mark
counted_mark held within size (pos (suc n)) q mark =
    if nat_eq q 0 || (nat_lt q mark || nat_lt (length held.bytes) (q + suc n * size)) then None
    else elements_mark held within size q (suc n) 0 (q + suc n * size)

-- the number of a count of the record at `at`
abbrev pub count_at : Record → Count → ℕ → ℤ
count_at held count at = number held.layout.order count.kind
    (bytes_at (at + count.offset) count.size held.bytes)

abbrev pub run_mark : Record → Run → Lead → ℕ → ℕ → Option ℕ
run_mark held run.One lead at mark = inside_mark held lead.inside (at + lead.offset) mark
run_mark held (run.Fixed n) lead at mark = elements_mark held lead.inside lead.size
    (at + lead.offset) n 0 mark
run_mark held (run.Counted count) lead at mark = counted_mark held lead.inside lead.size
    (count_at held count at) (pointer_at (image_in held) (at + lead.offset)) mark

-- behind a lead of the record at `at`
abbrev pub lead_mark : Record → Lead → ℕ → ℕ → Option ℕ
lead_mark held lead at mark = run_mark held lead.run lead at mark

abbrev pub leads_mark : Record → List Lead → ℕ → ℕ → Option ℕ
leads_mark held [] at mark = Some mark
leads_mark held (lead ∷ leads) at mark = option_and_then (λ after. leads_mark held leads at after)
    (lead_mark held lead at mark)

-- an element of this size has that inside
abbrev pub HasInside : Layout → Inside → ℕ → Type 0
HasInside layout inside.Plain size = ⊤
HasInside layout inside.Text size = size ≡ layout.pointer
HasInside layout (inside.Record type_number) size = (type_number < length layout.types)
    × (length_of (tree_of layout type_number) ≡ size)

-- the bytes that a lead takes inside its record
abbrev pub run_extent : ℕ → Run → ℕ → ℕ
run_extent pointer run.One size = size
run_extent pointer (run.Fixed n) size = n * size
run_extent pointer (run.Counted count) size = pointer

-- a count that is a number inside a record of this length, and no boolean
abbrev pub CountsInside : ℕ → Run → Type 0
CountsInside length run.One = ⊤
CountsInside length (run.Fixed n) = ⊤
CountsInside length (run.Counted count) = IsTrue (is_size_of count.kind count.size)
    × (count.offset + count.size ≤ length) × (count.kind ≢ Boolean)

-- a lead of a record of this length
pub record IsLead (layout : Layout) (length : ℕ) (lead : Lead) : Type 0 where
  pub some : 0 < lead.size
  pub has_inside : HasInside layout lead.inside lead.size
  pub fits : lead.offset + run_extent layout.pointer lead.run lead.size ≤ length
  pub counts : CountsInside length lead.run

-- a lead of a record that stands at `at`, whose fixed part is inside the bytes
pub record IsLeadAt (held : Record) (at : ℕ) (lead : Lead) : Type 0 where
  pub fixed : ℕ
  pub is_lead : IsLead held.layout fixed lead
  pub inside : at + fixed ≤ length held.bytes
  pub short : length held.bytes < 2 ^ 32

-- the end of a block that is inside the bytes
abbrev pub within : ℕ → ℕ → Option ℕ
within room end = if nat_lt room end then None else Some end
