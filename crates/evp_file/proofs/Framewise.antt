-- Frames that are read one after the other, as the loop does.
use Rattle.std.proofs.Common.{◌≡◌, ℕ, zero, suc, ◌+◌, ◌-◌, ◌<◌, ◌≤◌, List, length, drop, Option, Some, None, Result, Ok, Err, sym, ap}
use Rattle.std.proofs.Common.{◌∙◌, arith}
use Rattle.evp_file.specs.declared.fault.FileFault.{FileFault}
use Rattle.evp_file.specs.declared.fault.FileFault.TheVariants.{Short}
use Rattle.evp_file.specs.declared.file.KnownFormat.{KnownFormat}
use Rattle.evp_file.specs.declared.file.RecordFile.{RecordFile}
use Rattle.evp_file.specs.declared.frame.Frame.{Frame}
use Rattle.evp_file.specs.File.{with_frame}
use Rattle.evp_file.specs.Reading.{frame_at, after_frame, frames_from}
use Rattle.evp_file.specs.Steps.{◌>>=◌}

-- the answer, by what stands at the front
by_front : (count i : ℕ) (known : List KnownFormat) (limit : ℕ) (file : RecordFile) (at : ℕ) (bytes : List ℕ)
    (read : Result (Option (Frame × ℕ)) FileFault) (total : Result RecordFile FileFault)
    → i < count → frame_at known limit file at bytes ≡ read → frames_from (count - i) known limit file at bytes ≡ total
    → (read >>= λ frame. after_frame file frame (λ more size. frames_from (count - (i + 1)) known limit more (at + size)
    (drop size bytes))) ≡ total
unfolding frames_from
by_front count i known limit file at bytes read total below is so_far =
    let more : count - i ≡ suc (count - (i + 1)) = omega arith in
    let rest : Option (Frame × ℕ) → Result RecordFile FileFault = λ frame. after_frame file frame
    (λ more size. frames_from (count - (i + 1)) known limit more (at + size) (drop size bytes)) in
    ap (λ (r : Result (Option (Frame × ℕ)) FileFault). r >>= rest) (sym is)
    ∙ ap (λ (n : ℕ). frames_from n known limit file at bytes) (sym more) ∙ so_far

pub frames_go_on : (count i : ℕ) (known : List KnownFormat) (limit : ℕ) (file : RecordFile) (at : ℕ) (bytes : List ℕ) (frame : Frame)
    (size : ℕ) (total : Result RecordFile FileFault)
    → i < count → frame_at known limit file at bytes ≡ Ok (Some (frame, size)) → frames_from (count - i) known limit file at bytes ≡ total
    → frames_from (count - (i + 1)) known limit (with_frame file frame) (at + size) (drop size bytes) ≡ total
frames_go_on count i known limit file at bytes frame size total below is so_far = by_front count i known limit file at bytes
    (Ok (Some (frame, size))) total below is so_far

pub frames_end : (count i : ℕ) (known : List KnownFormat) (limit : ℕ) (file : RecordFile) (at : ℕ) (bytes : List ℕ)
    (total : Result RecordFile FileFault)
    → i < count → frame_at known limit file at bytes ≡ Ok None → frames_from (count - i) known limit file at bytes ≡ total → total
    ≡ Ok file
frames_end count i known limit file at bytes total below is so_far = sym
    (by_front count i known limit file at bytes (Ok None) total below is so_far)

pub frames_stop : (count i : ℕ) (known : List KnownFormat) (limit : ℕ) (file : RecordFile) (at : ℕ) (bytes : List ℕ) (fault : FileFault)
    (total : Result RecordFile FileFault)
    → i < count → frame_at known limit file at bytes ≡ Err fault → frames_from (count - i) known limit file at bytes ≡ total → total
    ≡ Err fault
frames_stop count i known limit file at bytes fault total below is so_far = sym
    (by_front count i known limit file at bytes (Err fault) total below is so_far)

pub frames_none : (count i : ℕ) (known : List KnownFormat) (limit : ℕ) (file : RecordFile) (at : ℕ) (bytes : List ℕ)
    (total : Result RecordFile FileFault)
    → count ≤ i → frames_from (count - i) known limit file at bytes ≡ total → total ≡ Err (Short at)
unfolding frames_from
frames_none count i known limit file at bytes total past so_far =
    let none : count - i ≡ 0 = omega arith in
    sym so_far ∙ ap (λ (n : ℕ). frames_from n known limit file at bytes) none
