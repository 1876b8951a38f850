-- A frame that is read is admissible, and stands at the front.
use Rattle.std.proofs.Common.{◌≡◌, ℕ, zero, suc, ◌+◌, ◌<◌, ◌≤◌, Bool, true, false, cond, List, [], ◌∷◌, ◌++◌, length, drop, codes, Option}
use Rattle.std.proofs.Common.{Some, None, Result, Ok, Err, IsOk, refl, sym, ap, subst, ◌∙◌, arith}
use Rattle.std.specs.Prelude.{nat_eq, nat_lt, nat_le, slice_get}
use Rattle.std.specs.Option.{ok_or}
use Rattle.std.proofs.lemmas.Bool.{eqb-true, ltb-true, leb-true}
use Rattle.evp_base.proofs.Digits.{AreBytes}
use Rattle.evp_format.specs.declared.broken.Broken.{Broken}
use Rattle.evp_format.specs.declared.layout_fault.LayoutFault.{LayoutFault}
use Rattle.evp_format.specs.Bytes.{bytes_at, bytes_equal}
use Rattle.evp_format.specs.Datum.{Datum}
use Rattle.evp_format.specs.Describing.{describe, described_number}
use Rattle.evp_format.specs.Layout.{Layout}
use Rattle.evp_format.specs.Reading.{layout_of}
use Rattle.evp_format.specs.Viewing.{view}
use Rattle.evp_format.proofs.DescribedFormats.{read_described}
use Rattle.evp_format.proofs.Descriptions.{layout_laid}
use Rattle.evp_format.proofs.Places.{Stands, stands_join, AreBytes-cut}
use Rattle.evp_format.proofs.Pushed.{bytes_equal-true, bytes_equal-same}
use Rattle.evp_file.specs.declared.fault.FileFault.{FileFault}
use Rattle.evp_file.specs.declared.fault.FileFault.TheVariants.{Short, UnknownId, FormatNumber, Records, Formats, TooLarge}
use Rattle.evp_file.specs.declared.file.FileFormat.TheVariants.{Own, Known}
use Rattle.evp_file.specs.declared.file.KnownFormat.{KnownFormat}
use Rattle.evp_file.specs.declared.file.RecordFile.{RecordFile}
use Rattle.evp_file.specs.declared.frame.Frame.{Frame}
use Rattle.evp_file.specs.declared.frame.Frame.TheVariants.{Format, Record}
use Rattle.evp_file.specs.File.{item_of, layout_in}
use Rattle.evp_file.specs.Frames.{sized, id_in, frame_bytes, IsFirstKnown, IsAdmissible}
use Rattle.evp_file.specs.Reading.{part, number_part, described, own_frame, known_number, known_frame, unbroken, record_frame, end_frame}
use Rattle.evp_file.specs.Reading.{Letter, format_letter, id_letter, record_letter, end_letter, no_letter, letter_of, goes_on, frame_by}
use Rattle.evp_file.specs.Reading.{frame_at}
use Rattle.evp_file.specs.Steps.{◌>>=◌, only_if}
use Rattle.evp_file.proofs.FrameParts.{part_read, part_stands, part_length, number_part_stands, letter_stands}
use Rattle.evp_file.proofs.PassedSteps.{bind_ok, only_if_ok, ok_or_some, ok_is, IsFirst, found_first}

-- an admissible frame of this size begins the bytes
pub record Begins (known : List KnownFormat) (limit : ℕ) (file : RecordFile) (bytes : List ℕ) (frame : Frame) (size : ℕ) : Type 0 where
  pub admissible : IsAdmissible known limit file frame
  pub stands : Stands bytes 0 (frame_bytes known frame) size

abbrev BeginsWith : List KnownFormat → ℕ → RecordFile → List ℕ → Frame × ℕ → Type 0
BeginsWith known limit file bytes read = Begins known limit file bytes read.0 read.1

-- ---- a format by its description

layout_read : (at : ℕ) (r : Result Layout LayoutFault) (layout : Layout) → described at r ≡ Ok layout → r ≡ Ok layout
layout_read at (Ok one) layout e = ap (λ (l : Layout). Ok l) (ok_is one layout e)
layout_read at (Err fault) layout e = absurd (cc)

own_begins : (known : List KnownFormat) (limit : ℕ) (file : RecordFile) (at : ℕ) (bytes : List ℕ) (read : Frame × ℕ) → AreBytes bytes
    → slice_get bytes 0 ≡ Some 70
    → own_frame file at bytes ≡ Ok read → BeginsWith known limit file bytes read
unfolding own_frame
own_begins known limit file at bytes read are letter e =
    let with_layout : ℕ → Layout → Result (Frame × ℕ) FileFault = λ size layout. Ok (Format (Own layout), 5 + size) in
    let with_text : ℕ → List ℕ → Result (Frame × ℕ) FileFault = λ size text. described at (layout_of text) >>= with_layout size in
    let with_room : ℕ → Unit {0} → Result (Frame × ℕ) FileFault = λ size room. part at bytes 5 size >>= with_text size in
    let with_size : ℕ → Result (Frame × ℕ) FileFault = λ size. only_if (nat_lt (length file.formats) 1024) (Formats at)
    >>= with_room size in
    let size = bind_ok (number_part at bytes 1 4) with_size read e in
    let room = bind_ok (only_if (nat_lt (length file.formats) 1024) (Formats at)) (with_room size.0) read size.2 in
    let text = bind_ok (part at bytes 5 size.0) (with_text size.0) read room.2 in
    let layout = bind_ok (described at (layout_of text.0)) (with_layout size.0) read text.2 in
    let few = ltb-true (length file.formats) 1024 (only_if_ok (nat_lt (length file.formats) 1024) (Formats at) room.0 room.1) in
    let there = part_read at bytes 5 size.0 text.0 text.1 in
    let text_are : AreBytes text.0 = subst AreBytes there.1 (AreBytes-cut bytes 5 size.0 are) in
    let read_layout = layout_read at (layout_of text.0) layout.0 layout.1 in
    let laid = layout_laid text.0 layout.0 read_layout in
    let is : text.0 ≡ describe layout.0 = read_described text.0 layout.0 text_are read_layout in
    let long : size.0 ≡ length (describe layout.0) = sym (part_length at bytes 5 size.0 text.0 text.1) ∙ ap length is in
    let front = letter_stands bytes 70 letter in
    let number = number_part_stands at bytes 1 4 size.0 refl are size.1 in
    let body = part_stands at bytes 5 size.0 text.0 text.1 in
    let behind = stands_join bytes 1 (described_number 4 size.0) 5 text.0 (5 + size.0) number body in
    let whole = stands_join bytes 0 (codes "F") 1 (described_number 4 size.0 ++ text.0) (5 + size.0) front behind in
    let spelled : codes "F" ++ (described_number 4 size.0 ++ text.0) ≡ frame_bytes known (Format (Own layout.0)) =
    ap (λ (n : ℕ). codes "F" ++ (described_number 4 n ++ text.0)) long
    ∙ ap (λ (t : List ℕ). codes "F" ++ (described_number 4 (length (describe layout.0)) ++ t)) is in
    subst (BeginsWith known limit file bytes) (ok_is (Format (Own layout.0), 5 + size.0) read layout.2)
    (record { admissible = (few, laid); stands = subst (λ (t : List ℕ). Stands bytes 0 t (5 + size.0)) spelled whole })

-- ---- a format by its identifier

first_known : (known : List KnownFormat) (id : List ℕ) (k : ℕ) → length id ≡ 32 → known_number known id ≡ Some k → IsFirstKnown known k
    × (id_in (slice_get known k) ≡ id)
first_known known id k long e =
    let at = found_first (λ (one : KnownFormat). bytes_equal one.id.0 id) known 0 k e in
    let same : k ≡ at.0 = let is = at.1 in omega (arith, is) in
    let first = at.2 in
    let its : first.one.id.0 ≡ id = bytes_equal-true first.one.id.0 id first.passes in
    let differ : (j : ℕ) (other : KnownFormat) → j < at.0 → slice_get known j ≡ Some other → other.id.0 ≡ first.one.id.0
    → ⊥ = λ j other below there equal.
    let fails = first.before j other below there in
    let passes : bytes_equal other.id.0 id ≡ true = ap (λ (text : List ℕ). bytes_equal text id) (equal ∙ its) ∙ bytes_equal-same id in
    let wrong : true ≡ false = sym passes ∙ fails in cc in
    let is_first : IsFirstKnown known at.0 = record
    { one = first.one; there = first.there; whole = ap length its ∙ long; before = differ } in
    subst (λ (n : ℕ). IsFirstKnown known n × (id_in (slice_get known n) ≡ id)) (sym same) (is_first, ap id_in first.there ∙ its)

known_begins : (known : List KnownFormat) (limit : ℕ) (file : RecordFile) (at : ℕ) (bytes : List ℕ) (read : Frame × ℕ) → slice_get bytes 0
    ≡ Some 73
    → known_frame known file at bytes ≡ Ok read → BeginsWith known limit file bytes read
unfolding known_frame
known_begins known limit file at bytes read letter e =
    let with_number : ℕ → Result (Frame × ℕ) FileFault = λ number. Ok (Format (Known number), 33) in
    let with_room : List ℕ → Unit {0} → Result (Frame × ℕ) FileFault = λ id room. ok_or (known_number known id) (UnknownId at)
    >>= with_number in
    let with_id : List ℕ → Result (Frame × ℕ) FileFault = λ id. only_if (nat_lt (length file.formats) 1024) (Formats at)
    >>= with_room id in
    let id = bind_ok (part at bytes 1 32) with_id read e in
    let room = bind_ok (only_if (nat_lt (length file.formats) 1024) (Formats at)) (with_room id.0) read id.2 in
    let number = bind_ok (ok_or (known_number known id.0) (UnknownId at)) with_number read room.2 in
    let few = ltb-true (length file.formats) 1024 (only_if_ok (nat_lt (length file.formats) 1024) (Formats at) room.0 room.1) in
    let first = first_known known id.0 number.0 (part_length at bytes 1 32 id.0 id.1)
    (ok_or_some (known_number known id.0) (UnknownId at) number.0 number.1) in
    let whole = stands_join bytes 0 (codes "I") 1 id.0 33 (letter_stands bytes 73 letter) (part_stands at bytes 1 32 id.0 id.1) in
    subst (BeginsWith known limit file bytes) (ok_is (Format (Known number.0), 33) read number.2)
    (record { admissible = (few, first.0); stands = subst (λ (t : List ℕ). Stands bytes 0 (codes "I" ++ t) 33) (sym first.1) whole })

-- ---- a record

value_read : (at : ℕ) (layout : Layout) (r : Result Datum Broken) (x : Unit {0}) → unbroken at layout r ≡ Ok x → IsOk r
value_read at layout (Ok value) x e = refl
value_read at layout (Err fault) x e = absurd (cc)

record_begins : (known : List KnownFormat) (limit : ℕ) (file : RecordFile) (at : ℕ) (bytes : List ℕ) (read : Frame × ℕ) → AreBytes bytes
    → slice_get bytes 0 ≡ Some 82
    → record_frame known limit file at bytes ≡ Ok read → BeginsWith known limit file bytes read
unfolding record_frame
record_begins known limit file at bytes read are letter e =
    let with_value : ℕ → ℕ → List ℕ → Unit {0} → Result (Frame × ℕ) FileFault = λ format size text whole. Ok
    (Record (item_of format text), 7 + size) in
    let with_text : ℕ → ℕ → Layout → List ℕ → Result (Frame × ℕ) FileFault = λ format size layout text. unbroken at layout
    (view layout text) >>= with_value format size text in
    let with_short : ℕ → ℕ → Layout → Unit {0} → Result (Frame × ℕ) FileFault = λ format size layout short. part at bytes 7 size
    >>= with_text format size layout in
    let with_layout : ℕ → ℕ → Layout → Result (Frame × ℕ) FileFault = λ format size layout. only_if (nat_le size limit) (TooLarge at)
    >>= with_short format size layout in
    let with_room : ℕ → ℕ → Unit {0} → Result (Frame × ℕ) FileFault = λ format size room. ok_or (layout_in known file.formats format)
    (FormatNumber at) >>= with_layout format size in
    let with_size : ℕ → ℕ → Result (Frame × ℕ) FileFault = λ format size. only_if (nat_lt (length file.items) 131072) (Records at)
    >>= with_room format size in
    let with_format : ℕ → Result (Frame × ℕ) FileFault = λ format. number_part at bytes 3 4 >>= with_size format in
    let format = bind_ok (number_part at bytes 1 2) with_format read e in
    let size = bind_ok (number_part at bytes 3 4) (with_size format.0) read format.2 in
    let room = bind_ok (only_if (nat_lt (length file.items) 131072) (Records at)) (with_room format.0 size.0) read size.2 in
    let layout = bind_ok (ok_or (layout_in known file.formats format.0) (FormatNumber at)) (with_layout format.0 size.0) read room.2 in
    let small = bind_ok (only_if (nat_le size.0 limit) (TooLarge at)) (with_short format.0 size.0 layout.0) read layout.2 in
    let text = bind_ok (part at bytes 7 size.0) (with_text format.0 size.0 layout.0) read small.2 in
    let value = bind_ok (unbroken at layout.0 (view layout.0 text.0)) (with_value format.0 size.0 text.0) read text.2 in
    let few = ltb-true (length file.items) 131072 (only_if_ok (nat_lt (length file.items) 131072) (Records at) room.0 room.1) in
    let there = ok_or_some (layout_in known file.formats format.0) (FormatNumber at) layout.0 layout.1 in
    let within = leb-true size.0 limit (only_if_ok (nat_le size.0 limit) (TooLarge at) small.0 small.1) in
    let long = part_length at bytes 7 size.0 text.0 text.1 in
    let front = letter_stands bytes 82 letter in
    let number = number_part_stands at bytes 1 2 format.0 refl are format.1 in
    let length_number = number_part_stands at bytes 3 4 size.0 refl are size.1 in
    let body = part_stands at bytes 7 size.0 text.0 text.1 in
    let behind = stands_join bytes 3 (described_number 4 size.0) 7 text.0 (7 + size.0) length_number body in
    let spelled : described_number 4 size.0 ++ text.0 ≡ sized text.0 = ap (λ (n : ℕ). described_number 4 n ++ text.0) (sym long) in
    let sized_text = subst (λ (t : List ℕ). Stands bytes 3 t (7 + size.0)) spelled behind in
    let numbered = stands_join bytes 1 (described_number 2 format.0) 3 (sized text.0) (7 + size.0) number sized_text in
    let whole = stands_join bytes 0 (codes "R") 1 (described_number 2 format.0 ++ sized text.0) (7 + size.0) front numbered in
    subst (BeginsWith known limit file bytes) (ok_is (Record (item_of format.0 text.0), 7 + size.0) read value.2)
    (record {
      admissible = (
        few,
        record {
          layout = layout.0;
          there = there;
          short = omega (arith, within, long);
          viewed = value_read at layout.0
              (view layout.0 text.0) value.0 value.1;
        },
      );
      stands = whole;
    })

-- ---- by its letter

abbrev IsLetter : ℕ → Letter → Type 0
IsLetter byte format_letter = byte ≡ 70
IsLetter byte id_letter = byte ≡ 73
IsLetter byte record_letter = byte ≡ 82
IsLetter byte end_letter = byte ≡ 69
IsLetter byte no_letter = Unit {0}

letter_by : (byte : ℕ) (f i r e : Bool) → nat_eq byte 70 ≡ f → nat_eq byte 73 ≡ i → nat_eq byte 82 ≡ r → nat_eq byte 69 ≡ e
    → IsLetter byte (cond f format_letter (cond i id_letter (cond r record_letter (cond e end_letter no_letter))))
letter_by byte true i r e is_f is_i is_r is_e = eqb-true byte 70 is_f
letter_by byte false true r e is_f is_i is_r is_e = eqb-true byte 73 is_i
letter_by byte false false true e is_f is_i is_r is_e = eqb-true byte 82 is_r
letter_by byte false false false true is_f is_i is_r is_e = eqb-true byte 69 is_e
letter_by byte false false false false is_f is_i is_r is_e = tt

letter_is : (byte : ℕ) → IsLetter byte (letter_of byte)
letter_is byte = letter_by byte (nat_eq byte 70) (nat_eq byte 73) (nat_eq byte 82) (nat_eq byte 69) refl refl refl refl

-- what was read: a frame that begins the bytes, or the end alone
abbrev pub IsRead : List KnownFormat → ℕ → RecordFile → List ℕ → Option (Frame × ℕ) → Type 0
IsRead known limit file bytes None = bytes ≡ codes "E"
IsRead known limit file bytes (Some (frame, size)) = Begins known limit file bytes frame size

frame_read : (known : List KnownFormat) (limit : ℕ) (file : RecordFile) (bytes : List ℕ) (r : Result (Frame × ℕ) FileFault)
    (read : Option (Frame × ℕ)) → goes_on r ≡ Ok read
    → ((frame : Frame × ℕ) → r ≡ Ok frame → BeginsWith known limit file bytes frame) → IsRead known limit file bytes read
frame_read known limit file bytes (Ok (frame, size)) read e begins = subst (IsRead known limit file bytes)
    (ok_is (Some (frame, size)) read e) (begins (frame, size) refl)
frame_read known limit file bytes (Err fault) read e begins = absurd (cc)

end_read : (known : List KnownFormat) (limit : ℕ) (file : RecordFile) (at : ℕ) (bytes : List ℕ) (read : Option (Frame × ℕ))
    → slice_get bytes 0 ≡ Some 69 → end_frame at (drop 1 bytes) ≡ Ok read
    → IsRead known limit file bytes read
end_read known limit file at [] read letter e = absurd (cc)
end_read known limit file at (first ∷ []) read letter e =
    subst (IsRead known limit file (first ∷ [])) (ok_is None read e) (ap (λ (byte : ℕ). byte ∷ []) (let same : first ≡ 69 = cc in same))
end_read known limit file at (first ∷ second ∷ rest) read letter e = absurd (cc)

read_by : (letter : Letter) (byte : ℕ) (known : List KnownFormat) (limit : ℕ) (file : RecordFile) (at : ℕ) (bytes : List ℕ)
    (read : Option (Frame × ℕ)) → AreBytes bytes → IsLetter byte letter
    → slice_get bytes 0 ≡ Some byte → frame_by letter known limit file at bytes ≡ Ok read → IsRead known limit file bytes read
read_by format_letter byte known limit file at bytes read are is there e =
    frame_read known limit file bytes (own_frame file at bytes) read e
    (λ frame. own_begins known limit file at bytes frame are (there ∙ ap (λ (b : ℕ). Some b) is))
read_by id_letter byte known limit file at bytes read are is there e =
    frame_read known limit file bytes (known_frame known file at bytes) read e
    (λ frame. known_begins known limit file at bytes frame (there ∙ ap (λ (b : ℕ). Some b) is))
read_by record_letter byte known limit file at bytes read are is there e =
    frame_read known limit file bytes (record_frame known limit file at bytes) read e
    (λ frame. record_begins known limit file at bytes frame are (there ∙ ap (λ (b : ℕ). Some b) is))
read_by end_letter byte known limit file at bytes read are is there e = end_read known limit file at bytes read
    (there ∙ ap (λ (b : ℕ). Some b) is) e
read_by no_letter byte known limit file at bytes read are is there e = absurd (cc)

pub read_frame : (known : List KnownFormat) (limit : ℕ) (file : RecordFile) (at : ℕ) (bytes : List ℕ) (read : Option (Frame × ℕ))
    → AreBytes bytes → frame_at known limit file at bytes ≡ Ok read
    → IsRead known limit file bytes read
unfolding frame_at
read_frame known limit file at bytes read are e =
    let letter = bind_ok (ok_or (slice_get bytes 0) (Short at)) (λ letter. frame_by (letter_of letter) known limit file at bytes) read e
    in
    read_by (letter_of letter.0) letter.0 known limit file at bytes read are (letter_is letter.0)
    (ok_or_some (slice_get bytes 0) (Short at) letter.0 letter.1) letter.2
