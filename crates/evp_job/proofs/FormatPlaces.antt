-- Where the formats of files stand among those of their job, and that records keep their values there.
use Rattle.std.proofs.Common.{◌≡◌, ℕ, zero, suc, ◌+◌, List, [], ◌∷◌, ◌++◌, length, All, Some, refl, ap, subst, ◌∙◌, arith}
use Rattle.std.proofs.Common.{add-zero, zero-add}
use Rattle.std.specs.Prelude.{slice_get, slice_index}
use Rattle.std.specs.List.{flat_map}
use Rattle.std.proofs.lemmas.Option.{slice_get-map}
use Rattle.std.proofs.lemmas.List.Elements.{All-nil, All-cons, All-head, All-tail, All-map, All-weaker}
use Rattle.evp_file.specs.declared.file.FileFormat.{FileFormat}
use Rattle.evp_file.specs.declared.file.FileFormat.TheVariants.{Own, Known}
use Rattle.evp_file.specs.declared.file.FileItem.{FileItem}
use Rattle.evp_file.specs.declared.file.KnownFormat.{KnownFormat}
use Rattle.evp_file.specs.declared.file.RecordFile.{RecordFile}
use Rattle.evp_file.specs.File.{layout_in}
use Rattle.evp_file.specs.Whole.{IsRecordOf, IsWhole}
use Rattle.evp_format.specs.Layout.{Layout}
use Rattle.evp_format.proofs.Pushed.{slice_get-front}
use Rattle.evp_record.specs.Owned.{HasValueIn}
use Rattle.evp_stone.specs.declared.source.Source.{Source}
use Rattle.evp_job.specs.Filling.{own_layout, own_layouts, numbers_from, owned_with, source_with_file, sources_with_files}
use Rattle.evp_job.specs.Stated.{layouts_of}

-- ---- lists inside others

-- each element of the part stands in the whole, from this place on
abbrev pub StandsAt : {A : Type 0} → ℕ → List A → List A → Type 0
StandsAt {A} place part whole = (k : ℕ) (x : A) → slice_get part k ≡ Some x → slice_get whole (place + k) ≡ Some x

-- the same from the start on
abbrev pub IsFront : {A : Type 0} → List A → List A → Type 0
IsFront {A} part whole = (k : ℕ) (x : A) → slice_get part k ≡ Some x → slice_get whole k ≡ Some x

pub slice_get-behind : {A : Type 0} (xs ys : List A) (k : ℕ) → slice_get (xs ++ ys) (length xs + k) ≡ slice_get ys k
slice_get-behind [] ys k = ap (slice_get ys) (zero-add k)
slice_get-behind (x ∷ xs) ys k =
    let more : suc (length xs) + k ≡ suc (length xs + k) = omega arith in
    ap (slice_get (x ∷ (xs ++ ys))) more ∙ slice_get-behind xs ys k

pub stands_behind : {A : Type 0} (xs ys : List A) → StandsAt (length xs) ys (xs ++ ys)
stands_behind xs ys k x found = slice_get-behind xs ys k ∙ found

pub stands_front : {A : Type 0} (place : ℕ) (xs ys whole : List A) → StandsAt place (xs ++ ys) whole → StandsAt place xs whole
stands_front place xs ys whole stands k x found = stands k x (slice_get-front xs ys k x found)

pub stands_rest : {A : Type 0} (place : ℕ) (xs ys whole : List A) → StandsAt place (xs ++ ys) whole
    → StandsAt (place + length xs) ys whole
stands_rest place xs ys whole stands k x found =
    let same : place + (length xs + k) ≡ place + length xs + k = omega arith in
    subst (λ (n : ℕ). slice_get whole n ≡ Some x) same (stands (length xs + k) x (slice_get-behind xs ys k ∙ found))

-- ---- formats of a file

pub format_there : (known : List KnownFormat) (formats : List FileFormat) (next n : ℕ) (layout : Layout) (whole : List Layout)
    → IsFront (layouts_of known) whole → StandsAt next (flat_map own_layout formats) whole → layout_in known formats n ≡ Some layout
    → slice_get whole (slice_index (numbers_from next formats) n) ≡ Some layout
format_there known [] next n layout whole front own found = absurd (cc)
format_there known (Own described ∷ formats) next zero layout whole front own found =
    subst (λ (place : ℕ). slice_get whole place ≡ Some layout) (add-zero next) (own zero described refl ∙ found)
format_there known (Known k ∷ formats) next zero layout whole front own found =
    front k layout (slice_get-map (λ (one : KnownFormat). one.format) known k ∙ found)
format_there known (format ∷ formats) next (suc n) layout whole front own found =
    format_there known formats (next + length (own_layout format)) n layout whole front
    (stands_rest next (own_layout format) (flat_map own_layout formats) whole own) found

-- ---- records of a file

pub record_there : (known : List KnownFormat) (formats : List FileFormat) (next : ℕ) (whole : List Layout) (item : FileItem)
    → IsFront (layouts_of known) whole → StandsAt next (flat_map own_layout formats) whole → IsRecordOf known formats item
    → HasValueIn whole (owned_with (numbers_from next formats) item)
record_there known formats next whole item front own is = record {
  layout = is.layout;
  there = format_there known formats next item.format is.layout whole front own is.there;
  viewed = is.viewed;
}

pub records_there : (known : List KnownFormat) (source : Source) (file : RecordFile) (next : ℕ) (whole : List Layout)
    → IsFront (layouts_of known) whole → StandsAt next (own_layouts file) whole → IsWhole known file
    → All (HasValueIn whole) (source_with_file next source file).items
records_there known source file next whole front own is =
    let numbers = numbers_from next file.formats in
    All-map (HasValueIn whole) (owned_with numbers) file.items
    (All-weaker (IsRecordOf known file.formats) (λ (item : FileItem). HasValueIn whole (owned_with numbers item))
    (λ item read. record_there known file.formats next whole item front own read) file.items is.each_item)

pub sources_there : (known : List KnownFormat) (sources : List Source) (files : List RecordFile) (next : ℕ) (whole : List Layout)
    → IsFront (layouts_of known) whole → StandsAt next (flat_map own_layouts files) whole → All (IsWhole known) files
    → All (λ (source : Source). All (HasValueIn whole) source.items) (sources_with_files next sources files)
sources_there known [] files next whole front own is = All-nil (λ (source : Source). All (HasValueIn whole) source.items)
sources_there known (source ∷ sources) [] next whole front own is = All-nil (λ (source : Source). All (HasValueIn whole) source.items)
sources_there known (source ∷ sources) (file ∷ files) next whole front own is =
    All-cons (λ (source : Source). All (HasValueIn whole) source.items) (source_with_file next source file)
    (sources_with_files (next + length (own_layouts file)) sources files)
    (records_there known source file next whole front
    (stands_front next (own_layouts file) (flat_map own_layouts files) whole own)
    (All-head (IsWhole known) file files is))
    (sources_there known sources files (next + length (own_layouts file)) whole front
    (stands_rest next (own_layouts file) (flat_map own_layouts files) whole own) (All-tail (IsWhole known) file files is))
