-- What is written of a file is read as it.
use Rattle.std.proofs.Common.{◌≡◌, ◌≢◌, ℕ, zero, suc, ◌+◌, ◌^◌, ◌<◌, ◌≤◌, List, [], ◌∷◌, ◌++◌, length, get_or, map, Some, Ok, refl, sym}
use Rattle.std.proofs.Common.{ap, subst, ◌∙◌, append_assoc, length-append, arith}
use Rattle.std.specs.Prelude.{slice_get}
use Rattle.std.specs.List.{All, AllPairs}
use Rattle.std.proofs.lemmas.List.{append-nil}
use Rattle.std.proofs.lemmas.Option.{slice_get_within}
use Rattle.evp_format.proofs.Pushed.{slice_get-some}
use Rattle.evp_format.proofs.Trees.{slice_get-below}
use Rattle.evp_file.specs.declared.file.FileFormat.{FileFormat}
use Rattle.evp_file.specs.declared.file.FileFormat.TheVariants.{Own, Known}
use Rattle.evp_file.specs.declared.file.FileItem.{FileItem}
use Rattle.evp_file.specs.declared.file.KnownFormat.{KnownFormat}
use Rattle.evp_file.specs.declared.file.RecordFile.{RecordFile}
use Rattle.evp_file.specs.declared.frame.Frame.{Frame}
use Rattle.evp_file.specs.declared.frame.Frame.TheVariants.{Format, Record}
use Rattle.evp_file.specs.File.{file_with, no_frames}
use Rattle.evp_file.specs.Frames.{IsFirstKnown, IsFormat, IsItem, LeadTo}
use Rattle.evp_file.specs.Laws.{HasId, FilesReadBack}
use Rattle.evp_file.specs.Reading.{file_of}
use Rattle.evp_file.specs.Whole.{IsFormatOf, IsRecordOf, IsWhole, IsWithin}
use Rattle.evp_file.specs.Writing.{frames_of, written}
use Rattle.evp_file.proofs.FilesRead.{file_again}
use Rattle.evp_file.proofs.Lists.{Each, each_of_all}

-- ---- a known format is the first with its identifier, where identifiers differ

get_is : (xs : List KnownFormat) (k : ℕ) (x d : KnownFormat) → slice_get xs k ≡ Some x → get_or xs k d ≡ x
get_is [] k x d there = absurd (cc)
get_is (y ∷ xs) zero x d there = cc
get_is (y ∷ xs) (suc k) x d there = get_is xs k x d there

is_first : (known : List KnownFormat) (k : ℕ) → All HasId known → AllPairs (λ (one other : KnownFormat). one.id.0 ≢ other.id.0) known
    → k < length known → IsFirstKnown known k
is_first known k ids differ below =
    let some = slice_get-some known k below in
    let one = some.0 in
    record {
      one = one;
      there = some.1;
      whole = subst HasId (get_is known k one one some.1) (ids k one below);
      before = λ j other before there equal.
          let pair = differ j k other before below in
          pair (ap (λ (known : KnownFormat). known.id.0) (get_is known j other other there) ∙ equal
          ∙ sym (ap (λ (known : KnownFormat). known.id.0) (get_is known k one other some.1)));
    }

first_format : (known : List KnownFormat) (format : FileFormat) → All HasId known
    → AllPairs (λ (one other : KnownFormat). one.id.0 ≢ other.id.0) known → IsFormatOf known format → IsFormat known format
first_format known (Own layout) ids differ is = is
first_format known (Known k) ids differ is = is_first known k ids differ is

first_formats : (known : List KnownFormat) (formats : List FileFormat) → All HasId known
    → AllPairs (λ (one other : KnownFormat). one.id.0 ≢ other.id.0) known → Each (IsFormatOf known) formats
    → Each (IsFormat known) formats
first_formats known [] ids differ are = tt
first_formats known (format ∷ formats) ids differ are =
    (first_format known format ids differ are.0, first_formats known formats ids differ are.1)

-- ---- the frames of a file are admissible, one after the other

lead_items : (known : List KnownFormat) (limit : ℕ) (formats : List FileFormat) (done items : List FileItem)
    → length done + length items ≤ 131072 → Each (IsItem known limit formats) items
    → LeadTo known limit (file_with formats done) (map Record items) (file_with formats (done ++ items))
lead_items known limit formats done [] few are = ap (file_with formats) (sym (append-nil done))
lead_items known limit formats done (item ∷ items) few are =
    let long = length-append done (item ∷ []) in
    let rest = lead_items known limit formats (done ++ item ∷ []) items (omega (arith, few, long)) are.1 in (
      (omega (arith, few), are.0),
      subst (λ (all : List FileItem). LeadTo known limit (file_with formats (done ++ item ∷ []))
          (map Record items) (file_with formats all)) (append_assoc done (item ∷ []) items) rest,
    )

lead_formats : (known : List KnownFormat) (limit : ℕ) (done formats : List FileFormat) (frames : List Frame) (whole : RecordFile)
    → length done + length formats ≤ 1024 → Each (IsFormat known) formats
    → LeadTo known limit (file_with (done ++ formats) []) frames whole
    → LeadTo known limit (file_with done []) (map Format formats ++ frames) whole
lead_formats known limit done [] frames whole few are rest = subst
    (λ (all : List FileFormat). LeadTo known limit (file_with all []) frames whole) (append-nil done) rest
lead_formats known limit done (format ∷ formats) frames whole few are rest =
    let long = length-append done (format ∷ []) in
    let moved = subst (λ (all : List FileFormat). LeadTo known limit (file_with all []) frames whole)
    (sym (append_assoc done (format ∷ []) formats)) rest in (
      (omega (arith, few), are.0),
      lead_formats known limit (done ++ format ∷ []) formats frames whole (omega (arith, few, long)) are.1
          moved,
    )

items_within : (known : List KnownFormat) (limit : ℕ) (formats : List FileFormat) (items : List FileItem)
    → Each (IsRecordOf known formats) items → Each (IsWithin limit) items → Each (IsItem known limit formats) items
items_within known limit formats [] are within = tt
items_within known limit formats (item ∷ items) are within = (
  record { layout = are.0.layout; there = are.0.there; short = within.0; viewed = are.0.viewed },
  items_within known limit formats
      items are.1 within.1,
)

-- what is written of a file is read as it, where its known formats are the first with their identifiers
pub written_is_read : (known : List KnownFormat) (limit : ℕ) (file : RecordFile) → limit < 2 ^ 32 → Each (IsFormat known) file.formats
    → IsWhole known file → All (IsWithin limit) file.items → file_of known limit (written known file) ≡ Ok file
written_is_read known limit file small are whole within =
    let formats = file.formats in
    let items = file.items in
    let few_items = whole.few_items in
    let few_formats = whole.few_formats in
    let behind = lead_items known limit formats [] items (omega (arith, few_items))
    (items_within known limit formats items (each_of_all (IsRecordOf known formats) items whole.each_item)
    (each_of_all (IsWithin limit) items within)) in
    let lead = lead_formats known limit [] formats (map Record items) (file_with formats items) (omega (arith, few_formats)) are behind in
    file_again known limit (written known file) file small (record { frames = frames_of file; admissible = lead; spelled = refl })

pub read_back_law : FilesReadBack
read_back_law known limit file small ids differ whole within =
    written_is_read known limit file small
    (first_formats known file.formats ids differ (each_of_all (IsFormatOf known) file.formats whole.each_format)) whole within
