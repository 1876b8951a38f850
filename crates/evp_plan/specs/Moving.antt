-- What the steps of a plan write by a sender's bytes: pieces of the receiver's record. The sender's
-- record stands at `at`, the receiver's at `t`.
use Rattle.std.specs.Prelude.{ℕ, zero, suc, ◌+◌, ◌*◌, pos, min, [], Option, Some, None}
use Rattle.evp_base.specs.Numbers.{number, digits}
use Rattle.evp_format.specs.Bytes.{bytes_at, next_block}
use Rattle.evp_format.specs.Datum.{Datum, null}
use Rattle.evp_format.specs.Packing.{Pieces, Machine, one_piece, then_pack, pointer_piece}
use Rattle.evp_format.specs.Packing.{pack_text}
use Rattle.evp_format.specs.Viewing.{Image}
use Rattle.evp_format.specs.Zero.{as_count}
use Rattle.evp_plan.specs.declared.step.Elements.{Elements}
use Rattle.evp_plan.specs.declared.step.Op.{Op}
use Rattle.evp_plan.specs.declared.step.Op.TheVariants.{Number, Text, Nest, Each, Many}
use Rattle.evp_plan.specs.declared.step.Part.{Part}
use Rattle.evp_plan.specs.declared.step.Part.TheVariants as part
use Rattle.evp_plan.specs.declared.step.Run.{Run}
use Rattle.evp_plan.specs.Program.{Program, no_steps, performs}
use Rattle.evp_plan.specs.Standing.{origin_number, text_by, text_there, run_count, element_place}

-- the text, or null
abbrev pub or_null : Option Datum → Datum
or_null None = null
or_null (Some datum) = datum

-- an element at t, from what stands at a place of the sender's bytes, or a zero; `inside` moves a
-- record
abbrev pub moved_part : Image → Machine → ℕ → Part → (ℕ → ℕ → ℕ → Pieces) → Option ℕ → ℕ → ℕ
    → Pieces
moved_part image machine size (part.Number kind from width) inside None t after = one_piece t
    (digits machine.order size (pos 0)) after
moved_part image machine size (part.Number kind from width) inside (Some s) t after =
    one_piece t (digits machine.order size (number image.order from (bytes_at s width image.bytes)))
    after
moved_part image machine size part.Text inside None t after = pack_text machine t null after
moved_part image machine size part.Text inside (Some s) t after = pack_text machine t
    (text_by image s) after
moved_part image machine size part.Record inside None t after = inside 0 t after
moved_part image machine size part.Record inside (Some s) t after = inside s t after

-- n elements from number k on
abbrev pub moved_elements : (ℕ → ℕ → Pieces) → ℕ → ℕ → ℕ → Pieces
moved_elements one zero k after = record { all = []; size = after }
moved_elements one (suc n) k after = then_pack (one k after)
    (λ later. moved_elements one n (suc k) later)

-- a counted array: none has pointer 0 and no block
abbrev pub moved_many : Machine → ℕ → ℕ → ℕ → (ℕ → ℕ → ℕ → Pieces) → ℕ → Pieces
moved_many machine t size zero one after = pointer_piece machine t 0 after
moved_many machine t size (suc n) one after =
    let q = next_block after in
    then_pack (pointer_piece machine t q (q + suc n * size))
    (λ later. moved_elements (λ k. one k (q + k * size)) (suc n) 0 later)

-- where element k of the sender's array stands
abbrev pub source_place : Image → ℕ → Option Run → ℕ → Option ℕ
source_place image at None k = None
source_place image at (Some run) k = Some (element_place image at run k)

-- the number of elements that there are: as many as are wanted, or those of a shorter array
abbrev pub moved_count : Image → ℕ → ℕ → Option Run → ℕ
moved_count image at n None = n
moved_count image at n (Some run) = min n (run_count image at run)

-- element k at t
abbrev pub moved_element : Image → Machine → ℕ → Elements → (ℕ → ℕ → ℕ → Pieces) → ℕ → ℕ → ℕ → ℕ
    → Pieces
moved_element image machine size elements inside at k t after = moved_part image machine size
    elements.part inside (source_place image at elements.run k) t after

-- a field at t, of elements of this size
abbrev pub moved_op : Image → Machine → ℕ → Op → (ℕ → ℕ → ℕ → Pieces) → ℕ → ℕ → ℕ → Pieces
moved_op image machine size (Number kind origin) inside at t after = one_piece t
    (digits machine.order size (origin_number image at origin)) after
moved_op image machine size (Text from) inside at t after = pack_text machine t
    (or_null (text_there image at from)) after
moved_op image machine size (Nest offset) inside at t after = inside (at + offset) t after
moved_op image machine size (Each count elements) inside at t after =
    moved_elements (λ k. moved_element image machine size elements inside at k (t + k * size))
    (moved_count image at count elements.run) 0 after
moved_op image machine size (Many origin elements) inside at t after =
    moved_many machine t size (moved_count image at (as_count (origin_number image at origin))
    elements.run) (λ k. moved_element image machine size elements inside at k) after

-- a record at t, its blocks from a size on
abbrev pub moved : Image → Machine → Program → ℕ → ℕ → ℕ → Pieces
moved image machine no_steps at t after = record { all = []; size = after }
moved image machine (performs task inner rest) at t after =
    then_pack (moved_op image machine task.size task.op
    (λ s t' later. moved image machine inner s t' later) at (t + task.offset) after)
    (λ later. moved image machine rest at t later)
