-- How long the senders' files are.
use Rattle.std.proofs.Common.{ℕ, ◌<◌, ◌≤◌, [], length, map, codes, pos, arith, length-append}
use Rattle.std.proofs.lemmas.List.{length-map}
use Rattle.std.proofs.lemmas.List.Concat.{length-flat_map}
use Rattle.std.proofs.lemmas.List.Elements.{All-cons, All-map}
use Rattle.std.proofs.lemmas.List.FromFn.{length-map-range_with_len}
use Rattle.std.proofs.lemmas.List.Sums.{sum_by-le}
use Rattle.std.specs.Fmt.{digits}
use Rattle.std.specs.List.{All, range_with_len}
use Rattle.evp_base.specs.declared.order.Order.TheVariants.{Big}
use Rattle.evp_file.specs.declared.file.FileFormat.TheVariants.{Own}
use Rattle.evp_file.specs.declared.file.FileItem.{FileItem}
use Rattle.evp_file.specs.declared.frame.Frame.{Frame}
use Rattle.evp_file.specs.declared.frame.Frame.TheVariants.{Format, Record}
use Rattle.evp_file.specs.Frames.{frame_bytes, frames_bytes, sized}
use Rattle.evp_file.specs.Writing.{frames_of}
use Rattle.evp_base.proofs.Numbers.{length-digits}
use Rattle.evp_format.specs.Describing.{described_number}
use Rattle.evp_profile.specs.declared.profile.Profile.{Profile}
use Rattle.evp_profile.specs.declared.profile.Profile.TheVariants.{Le64, Le32, Be64, Be32}
use Rattle.evp_gen.specs.Laws.{SentIsShort}
use Rattle.evp_gen.specs.Senders.{sent_layout, sent_item, sent_file}
use Rattle.evp_gen.proofs.SentFiles.{record_length, each_record}

-- a frame of at most 200 bytes
abbrev IsShortFrame : Frame → Type 0
IsShortFrame frame = length (frame_bytes [] frame) ≤ 200

format_frame : (profile : Profile) → IsShortFrame (Format (Own (sent_layout profile)))
unfolding digits
format_frame Le64 = omega arith
format_frame Le32 = omega arith
format_frame Be64 = omega arith
format_frame Be32 = omega arith

record_frame : (item : FileItem) → length item.bytes ≤ 64 → IsShortFrame (Record item)
record_frame item short =
    let number = length-digits Big 2 (pos item.format) in
    let long = length-digits Big 4 (pos (length item.bytes)) in
    let behind = length-append (described_number 2 item.format) (sized item.bytes) in
    let inside = length-append (described_number 4 (length item.bytes)) item.bytes in
    omega (arith, number, long, behind, inside, short)

each_frame : (profile : Profile) (s n : ℕ) → s < 4 → n ≤ 20000 → All IsShortFrame (frames_of (sent_file profile s n))
each_frame profile s n few below =
    let layout = sent_layout profile in
    let items = map (sent_item layout s) (range_with_len 0 n) in
    All-cons IsShortFrame (Format (Own layout)) (map Record items) (format_frame profile)
    (All-map IsShortFrame Record items (each_record (λ item. IsShortFrame (Record item)) layout s n
    (λ i inside. record_frame (sent_item layout s i) (record_length profile s i few (omega (arith, inside, below))))))

pub short_law : SentIsShort
short_law profile s n few below =
    let layout = sent_layout profile in
    let items = map (sent_item layout s) (range_with_len 0 n) in
    let frames = frames_of (sent_file profile s n) in
    let count = length-map items Record in
    let many = length-map-range_with_len (sent_item layout s) 0 n in
    let sum = length-flat_map (frame_bytes []) frames in
    let most = sum_by-le (λ frame. length (frame_bytes [] frame)) 200 frames (each_frame profile s n few below) in
    let end = length-append (frames_bytes [] frames) (codes "E") in
    omega (arith, count, many, sum, most, end, below)
