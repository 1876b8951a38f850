-- An admissible frame at the front is read.
use Rattle.std.proofs.Common.{◌≡◌, ℕ, zero, suc, ◌+◌, ◌*◌, ◌^◌, ◌<◌, ◌≤◌, Bool, true, false, cond, List, [], ◌∷◌, ◌++◌, length, drop}
use Rattle.std.proofs.Common.{codes, Option, Some, None, Result, Ok, Err, IsOk, refl, sym, ap, subst, ◌∙◌, pos, length-append, arith}
use Rattle.std.specs.Prelude.{nat_eq, nat_lt, nat_le, slice_get, option_and_then}
use Rattle.std.specs.Option.{ok_or}
use Rattle.std.proofs.lemmas.Bool.{lt-ltb, le-leb}
use Rattle.std.proofs.lemmas.Option.{slice_get_within}
use Rattle.evp_base.proofs.Numbers.{length-digits}
use Rattle.evp_base.specs.declared.order.Order.TheVariants.{Big}
use Rattle.evp_format.specs.declared.broken.Broken.{Broken}
use Rattle.evp_format.specs.declared.layout_fault.LayoutFault.{LayoutFault}
use Rattle.evp_format.specs.Bytes.{bytes_equal}
use Rattle.evp_format.specs.Datum.{Datum}
use Rattle.evp_format.specs.Describing.{describe, described_number}
use Rattle.evp_format.specs.Layout.{Layout}
use Rattle.evp_format.specs.Reading.{layout_of}
use Rattle.evp_format.specs.Viewing.{view}
use Rattle.evp_format.specs.WellLaid.{IsWellLaid}
use Rattle.evp_format.proofs.FormatsAgain.{described_again}
use Rattle.evp_format.proofs.Places.{Stands, stands_front, stands_back}
use Rattle.evp_format.proofs.Pushed.{bytes_equal-same}
use Rattle.evp_format.proofs.StatedFields.{bytes_equal-false}
use Rattle.evp_format.proofs.Trees.{slice_get-below}
use Rattle.evp_file.specs.declared.fault.FileFault.{FileFault}
use Rattle.evp_file.specs.declared.fault.FileFault.TheVariants.{Short, UnknownId, FormatNumber, Records, Formats, TooLarge}
use Rattle.evp_file.specs.declared.file.FileFormat.{FileFormat}
use Rattle.evp_file.specs.declared.file.FileFormat.TheVariants.{Own, Known}
use Rattle.evp_file.specs.declared.file.FileItem.{FileItem}
use Rattle.evp_file.specs.declared.file.KnownFormat.{KnownFormat}
use Rattle.evp_file.specs.declared.file.RecordFile.{RecordFile}
use Rattle.evp_file.specs.declared.frame.Frame.{Frame}
use Rattle.evp_file.specs.declared.frame.Frame.TheVariants.{Format, Record}
use Rattle.evp_file.specs.File.{item_of, format_layout, layout_in}
use Rattle.evp_file.specs.Frames.{sized, id_in, format_bytes, item_bytes, frame_bytes, IsFirstKnown, IsItem, IsAdmissible}
use Rattle.evp_file.specs.Reading.{part, number_part, described, own_frame, known_number, known_frame, unbroken, record_frame, end_frame}
use Rattle.evp_file.specs.Reading.{Letter, format_letter, id_letter, record_letter, end_letter, letter_of, goes_on, frame_by, frame_at}
use Rattle.evp_file.specs.Steps.{◌>>=◌, only_if}
use Rattle.evp_file.proofs.DescriptionLengths.{short_description}
use Rattle.evp_file.proofs.FrameParts.{part_again, number_part_again, front_stands}
use Rattle.evp_file.proofs.PassedSteps.{IsFirst, first_found}

-- a step that is passed
then_ok : {A B : Type 0} (r : Result A FileFault) (x : A) (f : A → Result B FileFault) (y : Result B FileFault) → r ≡ Ok x → f x ≡ y
    → (r >>= f) ≡ y
then_ok r x f y is rest = ap (λ (s : Result _ FileFault). s >>= f) is ∙ rest

only_if_true : (b : Bool) (fault : FileFault) → b ≡ true → only_if b fault ≡ Ok tt
only_if_true b fault is = ap (λ (c : Bool). only_if c fault) is

ok_or_some : {A : Type 0} (o : Option A) (fault : FileFault) (x : A) → o ≡ Some x → ok_or o fault ≡ Ok x
ok_or_some o fault x is = ap (λ (p : Option _). ok_or p fault) is

length-number : (size n : ℕ) → length (described_number size n) ≡ size
length-number size n = length-digits Big size (pos n)

-- ---- a format by its description

own_again : (file : RecordFile) (at : ℕ) (bytes : List ℕ) (layout : Layout) (next : ℕ) → length file.formats < 1024 → IsWellLaid layout
    → Stands bytes 0 (codes "F" ++ sized (describe layout)) next → own_frame file at bytes
    ≡ Ok (Format (Own layout), 5 + length (describe layout))
unfolding own_frame
own_again file at bytes layout next few laid stands =
    let text = describe layout in
    let n = length text in
    let with_layout : ℕ → Layout → Result (Frame × ℕ) FileFault = λ size layout. Ok (Format (Own layout), 5 + size) in
    let with_text : ℕ → List ℕ → Result (Frame × ℕ) FileFault = λ size text. described at (layout_of text) >>= with_layout size in
    let with_room : ℕ → Unit {0} → Result (Frame × ℕ) FileFault = λ size room. part at bytes 5 size >>= with_text size in
    let with_size : ℕ → Result (Frame × ℕ) FileFault = λ size. only_if (nat_lt (length file.formats) 1024) (Formats at)
    >>= with_room size in
    let answer : Result (Frame × ℕ) FileFault = Ok (Format (Own layout), 5 + n) in
    let behind : Stands bytes 1 (sized text) next = stands_back bytes 0 (codes "F") (sized text) next stands in
    let four = length-number 4 n in
    let front = stands_front bytes 1 (described_number 4 n) text next behind in
    let body : Stands bytes 5 text next = subst (λ (k : ℕ). Stands bytes (1 + k) text next) four
    (stands_back bytes 1 (described_number 4 n) text next behind) in
    let number = number_part_again at bytes 1 4 n (1 + length (described_number 4 n)) (short_description layout laid) front in
    let there = part_again at bytes 5 text next n body refl in
    let read : described at (layout_of text) ≡ Ok layout = ap (described at) (described_again layout laid) in
    then_ok (number_part at bytes 1 4) n with_size answer number
    (then_ok (only_if (nat_lt (length file.formats) 1024) (Formats at)) tt (with_room n) answer
    (only_if_true (nat_lt (length file.formats) 1024) (Formats at) (lt-ltb (length file.formats) 1024 few))
    (then_ok (part at bytes 5 n) text (with_text n) answer there
    (then_ok (described at (layout_of text)) layout (with_layout n) answer read refl)))

-- ---- a format by its identifier

known_again : (known : List KnownFormat) (file : RecordFile) (at : ℕ) (bytes : List ℕ) (k next : ℕ) → length file.formats < 1024
    → IsFirstKnown known k
    → Stands bytes 0 (codes "I" ++ id_in (slice_get known k)) next → known_frame known file at bytes ≡ Ok (Format (Known k), 33)
unfolding known_frame
known_again known file at bytes k next few first stands =
    let id = first.one.id.0 in
    let with_number : ℕ → Result (Frame × ℕ) FileFault = λ number. Ok (Format (Known number), 33) in
    let with_room : List ℕ → Unit {0} → Result (Frame × ℕ) FileFault = λ id room. ok_or (known_number known id) (UnknownId at)
    >>= with_number in
    let with_id : List ℕ → Result (Frame × ℕ) FileFault = λ id. only_if (nat_lt (length file.formats) 1024) (Formats at)
    >>= with_room id in
    let answer : Result (Frame × ℕ) FileFault = Ok (Format (Known k), 33) in
    let its : Stands bytes 0 (codes "I" ++ id) next = subst (λ (text : List ℕ). Stands bytes 0 (codes "I" ++ text) next)
    (ap id_in first.there) stands in
    let there = part_again at bytes 1 id next 32 (stands_back bytes 0 (codes "I") id next its) first.whole in
    let passes : IsFirst (λ (one : KnownFormat). bytes_equal one.id.0 id) known k = record {
      one = first.one;
      there = first.there;
      passes = bytes_equal-same id;
      before = λ i other below is. bytes_equal-false other.id.0 id (first.before i other below is);
    } in
    let number : known_number known id ≡ Some k = first_found (λ (one : KnownFormat). bytes_equal one.id.0 id) known 0 k passes
    ∙ ap (λ (n : ℕ). Some n) (let e : 0 + k ≡ k = omega arith in e) in
    then_ok (part at bytes 1 32) id with_id answer there
    (then_ok (only_if (nat_lt (length file.formats) 1024) (Formats at)) tt (with_room id) answer
    (only_if_true (nat_lt (length file.formats) 1024) (Formats at) (lt-ltb (length file.formats) 1024 few))
    (then_ok (ok_or (known_number known id) (UnknownId at)) k with_number answer
    (ok_or_some (known_number known id) (UnknownId at) k number) refl))

-- ---- a record

value_again : (at : ℕ) (layout : Layout) (r : Result Datum Broken) → IsOk r → unbroken at layout r ≡ Ok tt
value_again at layout (Ok value) is = refl
value_again at layout (Err fault) is = absurd (cc)

numbered : (known : List KnownFormat) (formats : List FileFormat) (number : ℕ) (layout : Layout) (found : Option FileFormat)
    → slice_get formats number ≡ found
    → option_and_then (format_layout known) found ≡ Some layout → number < length formats
numbered known formats number layout None is e = absurd (cc)
numbered known formats number layout (Some format) is e = slice_get-below formats number format is

record_again : (known : List KnownFormat) (limit : ℕ) (file : RecordFile) (at : ℕ) (bytes : List ℕ) (item : FileItem) (next : ℕ)
    → limit < 2 ^ 32 → length file.formats ≤ 1024
    → length file.items < 131072 → IsItem known limit file.formats item → Stands bytes 0 (item_bytes item) next
    → record_frame known limit file at bytes ≡ Ok (Record item, 7 + length item.bytes)
unfolding record_frame
record_again known limit file at bytes item next small few_formats few is stands =
    let text = item.bytes in
    let n = length text in
    let format = item.format in
    let layout = is.layout in
    let with_value : ℕ → ℕ → List ℕ → Unit {0} → Result (Frame × ℕ) FileFault = λ format size text whole. Ok
    (Record (item_of format text), 7 + size) in
    let with_text : ℕ → ℕ → Layout → List ℕ → Result (Frame × ℕ) FileFault = λ format size layout text. unbroken at layout
    (view layout text) >>= with_value format size text in
    let with_short : ℕ → ℕ → Layout → Unit {0} → Result (Frame × ℕ) FileFault = λ format size layout short. part at bytes 7 size
    >>= with_text format size layout in
    let with_layout : ℕ → ℕ → Layout → Result (Frame × ℕ) FileFault = λ format size layout. only_if (nat_le size limit) (TooLarge at)
    >>= with_short format size layout in
    let with_room : ℕ → ℕ → Unit {0} → Result (Frame × ℕ) FileFault = λ format size room. ok_or (layout_in known file.formats format)
    (FormatNumber at) >>= with_layout format size in
    let with_size : ℕ → ℕ → Result (Frame × ℕ) FileFault = λ format size. only_if (nat_lt (length file.items) 131072) (Records at)
    >>= with_room format size in
    let with_format : ℕ → Result (Frame × ℕ) FileFault = λ format. number_part at bytes 3 4 >>= with_size format in
    let answer : Result (Frame × ℕ) FileFault = Ok (Record item, 7 + n) in
    let short = is.short in
    let below = numbered known file.formats format layout (slice_get file.formats format) refl is.there in
    let two = length-number 2 format in
    let four = length-number 4 n in
    let behind : Stands bytes 1 (described_number 2 format ++ sized text) next = stands_back bytes 0 (codes "R")
    (described_number 2 format ++ sized text) next stands in
    let front = stands_front bytes 1 (described_number 2 format) (sized text) next behind in
    let rest : Stands bytes 3 (sized text) next = subst (λ (k : ℕ). Stands bytes (1 + k) (sized text) next) two
    (stands_back bytes 1 (described_number 2 format) (sized text) next behind) in
    let long = stands_front bytes 3 (described_number 4 n) text next rest in
    let body : Stands bytes 7 text next = subst (λ (k : ℕ). Stands bytes (3 + k) text next) four
    (stands_back bytes 3 (described_number 4 n) text next rest) in
    let number = number_part_again at bytes 1 2 format (1 + length (described_number 2 format)) (omega (arith, below, few_formats)) front
    in
    let size = number_part_again at bytes 3 4 n (3 + length (described_number 4 n)) (omega (arith, short, small)) long in
    let there = part_again at bytes 7 text next n body refl in
    then_ok (number_part at bytes 1 2) format with_format answer number
    (then_ok (number_part at bytes 3 4) n (with_size format) answer size
    (then_ok (only_if (nat_lt (length file.items) 131072) (Records at)) tt (with_room format n) answer
    (only_if_true (nat_lt (length file.items) 131072) (Records at) (lt-ltb (length file.items) 131072 few))
    (then_ok (ok_or (layout_in known file.formats format) (FormatNumber at)) layout (with_layout format n) answer
    (ok_or_some (layout_in known file.formats format) (FormatNumber at) layout is.there)
    (then_ok (only_if (nat_le n limit) (TooLarge at)) tt (with_short format n layout) answer
    (only_if_true (nat_le n limit) (TooLarge at) (le-leb n limit short))
    (then_ok (part at bytes 7 n) text (with_text format n layout) answer there
    (then_ok (unbroken at layout (view layout text)) tt (with_value format n text) answer
    (value_again at layout (view layout text) is.viewed) refl))))))

-- ---- by its letter

with_letter : (letter : ℕ) (known : List KnownFormat) (limit : ℕ) (file : RecordFile) (at : ℕ) (bytes rest : List ℕ) → bytes ≡ letter
    ∷ rest
    → frame_at known limit file at bytes ≡ frame_by (letter_of letter) known limit file at bytes
unfolding frame_at
with_letter letter known limit file at bytes rest is =
    ap (λ (some : List ℕ). ok_or (slice_get some 0) (Short at) >>= λ letter. frame_by (letter_of letter) known limit file at bytes) is

-- the size of a frame
abbrev pub frame_size : List KnownFormat → Frame → ℕ
frame_size known frame = length (frame_bytes known frame)

own_size : (layout : Layout) → length (codes "F" ++ sized (describe layout)) ≡ 5 + length (describe layout)
own_size layout =
    let text = describe layout in
    let long = length-append (described_number 4 (length text)) text in
    let four = length-number 4 (length text) in
    omega (arith, long, four)

item_size : (item : FileItem) → length (item_bytes item) ≡ 7 + length item.bytes
item_size item =
    let text = item.bytes in
    let long = length-append (described_number 2 item.format) (sized text) in
    let long' = length-append (described_number 4 (length text)) text in
    let two = length-number 2 item.format in
    let four = length-number 4 (length text) in
    omega (arith, long, long', two, four)

known_size : (known : List KnownFormat) (k : ℕ) → IsFirstKnown known k → length (codes "I" ++ id_in (slice_get known k)) ≡ 33
known_size known k first =
    let whole = first.whole in
    let same : length (id_in (slice_get known k)) ≡ length first.one.id.0 = ap (λ (o : Option KnownFormat). length (id_in o)) first.there
    in
    omega (arith, whole, same)

pub frame_again : (known : List KnownFormat) (limit : ℕ) (file : RecordFile) (at : ℕ) (bytes : List ℕ) (frame : Frame) (rest : List ℕ)
    → limit < 2 ^ 32 → length file.formats ≤ 1024
    → IsAdmissible known limit file frame → bytes ≡ frame_bytes known frame ++ rest → frame_at known limit file at bytes
    ≡ Ok (Some (frame, frame_size known frame))
frame_again known limit file at bytes (Format (Own layout)) rest small few admissible split =
    let read = own_again file at bytes layout (length (codes "F" ++ sized (describe layout))) admissible.0 admissible.1
    (front_stands bytes (codes "F" ++ sized (describe layout)) rest split) in
    with_letter 70 known limit file at bytes (sized (describe layout) ++ rest) split ∙ ap goes_on read
    ∙ ap (λ (n : ℕ). Ok (Some (Format (Own layout), n))) (sym (own_size layout))
frame_again known limit file at bytes (Format (Known k)) rest small few admissible split =
    let read = known_again known file at bytes k (length (codes "I" ++ id_in (slice_get known k))) admissible.0 admissible.1
    (front_stands bytes (codes "I" ++ id_in (slice_get known k)) rest split) in
    with_letter 73 known limit file at bytes (id_in (slice_get known k) ++ rest) split ∙ ap goes_on read
    ∙ ap (λ (n : ℕ). Ok (Some (Format (Known k), n))) (sym (known_size known k admissible.1))
frame_again known limit file at bytes (Record item) rest small few admissible split =
    let read = record_again known limit file at bytes item (length (item_bytes item)) small few admissible.0 admissible.1
    (front_stands bytes (item_bytes item) rest split) in
    with_letter 82 known limit file at bytes ((described_number 2 item.format ++ sized item.bytes) ++ rest) split ∙ ap goes_on read
    ∙ ap (λ (n : ℕ). Ok (Some (Record item, n))) (sym (item_size item))

pub end_again : (known : List KnownFormat) (limit : ℕ) (file : RecordFile) (at : ℕ) (bytes : List ℕ) → bytes ≡ codes "E"
    → frame_at known limit file at bytes ≡ Ok None
end_again known limit file at bytes is = with_letter 69 known limit file at bytes [] is
    ∙ ap (λ (some : List ℕ). end_frame at (drop 1 some)) is
