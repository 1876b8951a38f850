-- What is read is the file of the bytes, a file's bytes are read, and a fault is the first.
use Rattle.std.proofs.Common.{◌≡◌, ◌≢◌, ℕ, zero, suc, ◌+◌, ◌-◌, ◌^◌, ◌<◌, ◌≤◌, Bool, true, false, List, [], ◌∷◌, ◌++◌, length, take, drop}
use Rattle.std.proofs.Common.{codes, Option, Some, None, Result, Ok, Err, refl, sym, ap, subst, ◌∙◌, append_assoc, length-append, arith}
use Rattle.std.specs.List.{All}
use Rattle.std.proofs.lemmas.List.{take-append-drop, take_at, drop_at, length-drop}
use Rattle.std.proofs.lemmas.List.Elements.{All-drop}
use Rattle.evp_base.proofs.Digits.{AreBytes}
use Rattle.evp_format.specs.Bytes.{bytes_equal}
use Rattle.evp_format.proofs.Pushed.{bytes_equal-true, bytes_equal-same}
use Rattle.evp_file.specs.declared.fault.FileFault.{FileFault}
use Rattle.evp_file.specs.declared.fault.FileFault.TheVariants.{Magic, Short}
use Rattle.evp_file.specs.declared.file.FileFormat.TheVariants.{Own, Known}
use Rattle.evp_file.specs.declared.file.KnownFormat.{KnownFormat}
use Rattle.evp_file.specs.declared.file.RecordFile.{RecordFile}
use Rattle.evp_file.specs.declared.frame.Frame.{Frame}
use Rattle.evp_file.specs.declared.frame.Frame.TheVariants.{Format, Record}
use Rattle.evp_file.specs.File.{no_frames, with_frame}
use Rattle.evp_file.specs.Frames.{magic, frame_bytes, frames_bytes, IsAdmissible, LeadTo, IsFile}
use Rattle.evp_file.specs.Laws.{HasFault, begins_otherwise, stands, IsExact, FilesAreExact}
use Rattle.evp_file.specs.Reading.{frame_at, after_frame, frames_from, has_magic, file_of}
use Rattle.evp_file.specs.Steps.{◌>>=◌, only_if}
use Rattle.evp_file.proofs.FrameAgain.{frame_size, frame_again, end_again}
use Rattle.evp_file.proofs.FrameSound.{IsRead, read_frame}
use Rattle.evp_file.proofs.PassedSteps.{bind_ok, only_if_ok, ok_is}

-- ---- frames that are read

-- frames that lead from a file to the whole, and the end behind them
record Frames (known : List KnownFormat) (limit : ℕ) (file : RecordFile) (bytes : List ℕ) (whole : RecordFile) : Type 0 where
  frames : List Frame
  lead : LeadTo known limit file frames whole
  spelled : bytes ≡ frames_bytes known frames ++ codes "E"

abbrev next_frames : ℕ → List KnownFormat → ℕ → RecordFile → ℕ → List ℕ → Option (Frame × ℕ) → Result RecordFile FileFault
next_frames most known limit file at bytes frame = after_frame file frame
    (λ more size. frames_from most known limit more (at + size) (drop size bytes))

abbrev AreRead : ℕ → List KnownFormat → ℕ → Type 0
AreRead most known limit =
    (file : RecordFile) (at : ℕ) (bytes : List ℕ) (whole : RecordFile) → AreBytes bytes → frames_from most known limit file at bytes
    ≡ Ok whole → Frames known limit file bytes whole

after_read : (most : ℕ) (known : List KnownFormat) (limit : ℕ) (file : RecordFile) (at : ℕ) (bytes : List ℕ) (whole : RecordFile)
    (read : Option (Frame × ℕ)) → AreBytes bytes
    → IsRead known limit file bytes read → next_frames most known limit file at bytes read ≡ Ok whole → AreRead most known limit
    → Frames known limit file bytes whole
after_read most known limit file at bytes whole None are is e later = record { frames = []; lead = ok_is file whole e; spelled = is }
after_read most known limit file at bytes whole (Some (frame, size)) are is e later =
    let rest = later (with_frame file frame) (at + size) (drop size bytes) whole (All-drop (λ byte. byte < 256) size bytes are) e in
    record {
      frames = frame ∷ rest.frames;
      lead = (is.admissible, rest.lead);
      spelled = is.stands.parts ∙ ap (λ (behind : List ℕ). frame_bytes known frame ++ behind) rest.spelled
          ∙ sym (append_assoc (frame_bytes known frame) (frames_bytes known rest.frames) (codes "E"));
    }

frames_read : (most : ℕ) (known : List KnownFormat) (limit : ℕ) → AreRead most known limit
unfolding frames_from
frames_read zero known limit file at bytes whole are e = absurd (cc)
frames_read (suc most) known limit file at bytes whole are e =
    let read = bind_ok (frame_at known limit file at bytes) (next_frames most known limit file at bytes) whole e in
    after_read most known limit file at bytes whole read.0 are (read_frame known limit file at bytes read.0 are read.1) read.2
    (frames_read most known limit)

-- ---- frames that are there

formats_more : (known : List KnownFormat) (limit : ℕ) (file : RecordFile) (frame : Frame) → length file.formats ≤ 1024
    → IsAdmissible known limit file frame → length (with_frame file frame).formats ≤ 1024
formats_more known limit file (Format format) few admissible =
    let below = admissible.0 in
    let long = length-append file.formats (format ∷ []) in
    omega (arith, below, long)
formats_more known limit file (Record item) few admissible = few

frame_holds : (known : List KnownFormat) (frame : Frame) → 1 ≤ frame_size known frame
frame_holds known (Format (Own layout)) = omega arith
frame_holds known (Format (Known k)) = omega arith
frame_holds known (Record item) = omega arith

frames_again : (most : ℕ) (known : List KnownFormat) (limit : ℕ) (file : RecordFile) (at : ℕ) (bytes : List ℕ) (frames : List Frame)
    (whole : RecordFile) → limit < 2 ^ 32 → length file.formats ≤ 1024
    → length bytes ≤ most → LeadTo known limit file frames whole → bytes ≡ frames_bytes known frames ++ codes "E"
    → frames_from most known limit file at bytes ≡ Ok whole
unfolding frames_from
frames_again zero known limit file at bytes [] whole small few within lead spelled = absurd
    (let one = ap length spelled in omega (arith, one, within))
frames_again (suc most) known limit file at bytes [] whole small few within lead spelled =
    ap (λ (r : Result (Option (Frame × ℕ)) FileFault). r >>= next_frames most known limit file at bytes)
    (end_again known limit file at bytes spelled) ∙ ap (λ (f : RecordFile). Ok f) lead
frames_again zero known limit file at bytes (frame ∷ frames) whole small few within lead spelled =
    absurd (let long = ap length spelled in let parts = length-append (frame_bytes known frame ++ frames_bytes known frames) (codes "E")
    in omega (arith, long, parts, within))
frames_again (suc most) known limit file at bytes (frame ∷ frames) whole small few within lead spelled =
    let front = frame_bytes known frame in
    let behind = frames_bytes known frames ++ codes "E" in
    let split : bytes ≡ front ++ behind = spelled ∙ append_assoc front (frames_bytes known frames) (codes "E") in
    let read = frame_again known limit file at bytes frame behind small few lead.0 split in
    let left : drop (length front) bytes ≡ behind = ap (drop (length front)) split ∙ drop_at front behind (length front) refl in
    let shorter = length-drop (length front) bytes in
    let one = frame_holds known frame in
    ap (λ (r : Result (Option (Frame × ℕ)) FileFault). r >>= next_frames most known limit file at bytes) read
    ∙ frames_again most known limit (with_frame file frame) (at + length front) (drop (length front) bytes) frames whole small
    (formats_more known limit file frame few lead.0)
    (omega (arith, shorter, one, within)) lead.1 left

-- ---- faults

-- the fault stands behind frames that lead to a file
record Stops (known : List KnownFormat) (limit : ℕ) (file : RecordFile) (at : ℕ) (bytes : List ℕ) (fault : FileFault) : Type 0 where
  frames : List Frame
  more : RecordFile
  rest : List ℕ
  lead : LeadTo known limit file frames more
  spelled : bytes ≡ frames_bytes known frames ++ rest
  here : frame_at known limit more (at + length (frames_bytes known frames)) rest ≡ Err fault

stops_at_once : (known : List KnownFormat) (limit : ℕ) (file : RecordFile) (at : ℕ) (bytes : List ℕ) (fault : FileFault)
    → frame_at known limit file at bytes ≡ Err fault → Stops known limit file at bytes fault
stops_at_once known limit file at bytes fault e =
    record {
      frames = [];
      more = file;
      rest = bytes;
      lead = refl;
      spelled = refl;
      here = ap (λ (n : ℕ). frame_at known limit file n bytes)
          (let same : at + 0 ≡ at = omega arith in same) ∙ e;
    }

abbrev stopped : FileFault → Result (Option (Frame × ℕ)) FileFault
stopped fault = Err fault

abbrev refused : FileFault → Result RecordFile FileFault
refused fault = Err fault

same_fault : (other fault : FileFault) → refused other ≡ refused fault → stopped other ≡ stopped fault
same_fault other fault e = ap stopped (let same : other ≡ fault = cc in same)

abbrev AreStopped : ℕ → List KnownFormat → ℕ → Type 0
AreStopped most known limit =
    (file : RecordFile) (at : ℕ) (bytes : List ℕ) (fault : FileFault) → AreBytes bytes → length bytes ≤ most
    → frames_from most known limit file at bytes ≡ Err fault → Stops known limit file at bytes fault

after_stopped : (most : ℕ) (known : List KnownFormat) (limit : ℕ) (file : RecordFile) (at : ℕ) (bytes : List ℕ) (fault : FileFault)
    (read : Result (Option (Frame × ℕ)) FileFault) → AreBytes bytes → length bytes ≤ suc most
    → frame_at known limit file at bytes ≡ read → (read >>= next_frames most known limit file at bytes) ≡ Err fault
    → AreStopped most known limit → Stops known limit file at bytes fault
after_stopped most known limit file at bytes fault (Err other) are within is e later = stops_at_once known limit file at bytes fault
    (is ∙ same_fault other fault e)
after_stopped most known limit file at bytes fault (Ok None) are within is e later = absurd (cc)
after_stopped most known limit file at bytes fault (Ok (Some (frame, size))) are within is e later =
    let begins = read_frame known limit file at bytes (Some (frame, size)) are is in
    let front = frame_bytes known frame in
    let sized = begins.stands.next_is in
    let one = frame_holds known frame in
    let shorter = length-drop size bytes in
    let rest = later (with_frame file frame) (at + size) (drop size bytes) fault (All-drop (λ byte. byte < 256) size bytes are)
    (omega (arith, shorter, one, sized, within)) e in
    let long = length-append front (frames_bytes known rest.frames) in
    let place : at + length (front ++ frames_bytes known rest.frames) ≡ at + size + length (frames_bytes known rest.frames) = omega
    (arith, long, sized) in
    record {
      frames = frame ∷ rest.frames;
      more = rest.more;
      rest = rest.rest;
      lead = (begins.admissible, rest.lead);
      spelled = begins.stands.parts ∙ ap (λ (behind : List ℕ). front ++ behind) rest.spelled
          ∙ sym (append_assoc front (frames_bytes known rest.frames) rest.rest);
      here = ap (λ (n : ℕ). frame_at known limit rest.more n rest.rest) place ∙ rest.here;
    }

frames_stopped : (most : ℕ) (known : List KnownFormat) (limit : ℕ) → AreStopped most known limit
unfolding frames_from frame_at
frames_stopped zero known limit file at [] fault are within e = stops_at_once known limit file at [] fault (same_fault (Short at) fault e)
frames_stopped zero known limit file at (byte ∷ bytes) fault are within e = absurd (omega (arith, within))
frames_stopped (suc most) known limit file at bytes fault are within e =
    after_stopped most known limit file at bytes fault (frame_at known limit file at bytes) are within refl e
    (frames_stopped most known limit)

-- ---- files

with_magic : (bytes : List ℕ) → has_magic bytes ≡ true → bytes ≡ magic ++ drop 4 bytes
with_magic bytes begun = sym (take-append-drop 4 bytes) ∙ ap (λ (front : List ℕ). front ++ drop 4 bytes)
    (bytes_equal-true (take 4 bytes) magic begun)

begins_so : (bytes rest : List ℕ) → bytes ≡ magic ++ rest → has_magic bytes ≡ true
begins_so bytes rest is = ap (λ (some : List ℕ). has_magic some) is ∙ bytes_equal-same magic

pub file_found : (known : List KnownFormat) (limit : ℕ) (bytes : List ℕ) (file : RecordFile) → AreBytes bytes → file_of known limit bytes
    ≡ Ok file → IsFile known limit bytes file
unfolding file_of
file_found known limit bytes file are e =
    let begun = bind_ok (only_if (has_magic bytes) Magic)
    (λ begun. frames_from (length (drop 4 bytes)) known limit no_frames 4 (drop 4 bytes)) file e in
    let all = frames_read (length (drop 4 bytes)) known limit no_frames 4 (drop 4 bytes) file (All-drop (λ byte. byte < 256) 4 bytes are)
    begun.2 in
    record {
      frames = all.frames;
      admissible = all.lead;
      spelled = with_magic bytes (only_if_ok (has_magic bytes) Magic begun.0 begun.1) ∙ ap (λ (rest : List ℕ). magic ++ rest) all.spelled;
    }

pub file_again : (known : List KnownFormat) (limit : ℕ) (bytes : List ℕ) (file : RecordFile) → limit < 2 ^ 32
    → IsFile known limit bytes file → file_of known limit bytes ≡ Ok file
unfolding file_of
file_again known limit bytes file small is =
    let rest = frames_bytes known is.frames ++ codes "E" in
    let behind : drop 4 bytes ≡ rest = ap (drop 4) is.spelled in
    ap (λ (b : Bool). only_if b Magic >>= λ begun. frames_from (length (drop 4 bytes)) known limit no_frames 4 (drop 4 bytes))
    (begins_so bytes rest is.spelled)
    ∙ frames_again (length (drop 4 bytes)) known limit no_frames 4 (drop 4 bytes) is.frames file small (omega arith) (omega arith)
    is.admissible behind

fault_by : (known : List KnownFormat) (limit : ℕ) (bytes : List ℕ) (fault : FileFault) (begun : Bool) → AreBytes bytes → has_magic bytes
    ≡ begun
    → (only_if begun Magic >>= λ begun. frames_from (length (drop 4 bytes)) known limit no_frames 4 (drop 4 bytes)) ≡ Err fault
    → HasFault known limit bytes fault
fault_by known limit bytes fault false are is e =
    subst (HasFault known limit bytes) (let same : Magic ≡ fault = cc in same)
    (begins_otherwise (λ rest split. let begun = begins_so bytes rest split in let wrong : true ≡ false = sym begun ∙ is in cc))
fault_by known limit bytes fault true are is e =
    let stop = frames_stopped (length (drop 4 bytes)) known limit no_frames 4 (drop 4 bytes) fault
    (All-drop (λ byte. byte < 256) 4 bytes are) (omega arith) e in
    stands stop.frames stop.more stop.rest fault stop.lead (with_magic bytes is ∙ ap (λ (rest : List ℕ). magic ++ rest) stop.spelled)
    stop.here

pub fault_found : (known : List KnownFormat) (limit : ℕ) (bytes : List ℕ) (fault : FileFault) → AreBytes bytes → file_of known limit bytes
    ≡ Err fault → HasFault known limit bytes fault
unfolding file_of
fault_found known limit bytes fault are e = fault_by known limit bytes fault (has_magic bytes) are refl e

abbrev read_as : RecordFile → Result RecordFile FileFault
read_as file = Ok file

pub exact_law : FilesAreExact
exact_law known limit bytes small are = record {
  found = λ file e. file_found known limit bytes file are e;
  only = λ file is. file_again known limit bytes file small is;
  first = λ fault e. fault_found known limit bytes fault are e;
  excluded = λ fault file e is. let read = file_again known limit bytes file small is in
      let wrong : read_as file ≡ refused fault = sym read ∙ e in cc;
}
