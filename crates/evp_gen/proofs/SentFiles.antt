-- The senders' files may be written, and are read as they are.
use Rattle.std.proofs.Common.{◌≡◌, ℕ, ◌<◌, ◌≤◌, List, [], ◌∷◌, length, map, IsOk}
use Rattle.std.proofs.Common.{refl, sym, ap, subst, ◌∙◌, MatchResult, arith}
use Rattle.std.specs.List.{All, range_with_len}
use Rattle.std.proofs.lemmas.List.Elements.{All-nil, All-cons}
use Rattle.std.proofs.lemmas.List.FromFn.{length-map-range_with_len, get_or-map-range_with_len}
use Rattle.evp_format.specs.Layout.{Layout}
use Rattle.evp_format.specs.Packing.{pack}
use Rattle.evp_format.specs.WellLaid.{IsWellLaid}
use Rattle.evp_record.proofs.ViewPacked.{length-pack, view-pack}
use Rattle.evp_file.specs.declared.file.FileFormat.{FileFormat}
use Rattle.evp_file.specs.declared.file.FileFormat.TheVariants.{Own}
use Rattle.evp_file.specs.declared.file.FileItem.{FileItem}
use Rattle.evp_file.specs.declared.file.KnownFormat.{KnownFormat}
use Rattle.evp_file.specs.File.{file_with}
use Rattle.evp_file.specs.Reading.{file_of}
use Rattle.evp_file.specs.Whole.{IsFormatOf, IsRecordOf, IsWhole, IsWithin}
use Rattle.evp_file.specs.Writing.{written}
use Rattle.evp_file.proofs.ReadBack.{written_is_read}
use Rattle.evp_file.proofs.WrittenOrder.{in_order}
use Rattle.evp_profile.specs.declared.profile.Profile.{Profile}
use Rattle.evp_profile.specs.DeclarationLaws.{IsOnlyLayoutOf, IsLayoutOf}
use Rattle.evp_profile.proofs.ExactLayouts.{exact_law}
use Rattle.evp_gen.specs.Laws.{SentIsRead}
use Rattle.evp_gen.specs.Senders.{sent_declared, sent_layout, sent_record, sent_item, sent_file}
use Rattle.evp_gen.specs.Senders.{sent_bytes}
use Rattle.evp_gen.proofs.SentLayouts.{laid_out}
use Rattle.evp_gen.proofs.SentRecords.{sent_typed, sent_small}

-- the senders' layouts are well laid
pub sent_laid : (profile : Profile) → IsWellLaid (sent_layout profile)
sent_laid profile =
    let types = sent_declared ∷ [] in
    let only = subst (λ (r : _). MatchResult r (IsOnlyLayoutOf profile types)
    (λ fault. (layout : Layout) → ¬ IsLayoutOf profile types layout))
    (laid_out profile) (exact_law profile types) in
    only.is.laid

-- ---- the records

pub record_length : (profile : Profile) (s i : ℕ) → s < 4 → i < 20000
    → length (pack (sent_layout profile) (sent_record s i)) ≤ 64
record_length profile s i few below =
    let long = length-pack (sent_layout profile) (sent_record s i) (sent_laid profile)
    (sent_typed profile s i few below) in
    let small = sent_small profile s i in
    omega (arith, long, small)

a_record : (known : List KnownFormat) (profile : Profile) (s i : ℕ) → s < 4 → i < 20000
    → IsRecordOf known (Own (sent_layout profile) ∷ []) (sent_item (sent_layout profile) s i)
a_record known profile s i few below =
    let layout = sent_layout profile in
    let value = sent_record s i in
    let small = sent_small profile s i in
    let long = record_length profile s i few below in
    record {
      layout = layout;
      there = refl;
      short = omega (arith, long);
      viewed = subst IsOk
          (sym (view-pack layout value (sent_laid profile) (sent_typed profile s i few below)
          (omega (arith, small)))) refl;
    }

-- a fact of each record of a file
pub each_record : (P : FileItem → Type 0) (layout : Layout) (s n : ℕ)
    → ((i : ℕ) → i < n → P (sent_item layout s i))
    → All P (map (sent_item layout s) (range_with_len 0 n))
each_record P layout s n is k d below =
    let long = length-map-range_with_len (sent_item layout s) 0 n in
    let inside : k < n = omega (arith, below, long) in
    subst P (sym (get_or-map-range_with_len (sent_item layout s) 0 n k k d inside (omega arith)))
    (is k inside)

-- ---- the files

pub sent_whole : (known : List KnownFormat) (profile : Profile) (s n : ℕ) → s < 4 → n ≤ 20000
    → IsWhole known (sent_file profile s n)
sent_whole known profile s n few below =
    let layout = sent_layout profile in
    let many = length-map-range_with_len (sent_item layout s) 0 n in
    record {
      few_formats = omega arith;
      few_items = omega (arith, many, below);
      each_format = All-cons (IsFormatOf known) (Own layout) [] (sent_laid profile)
          (All-nil (IsFormatOf known));
      each_item = each_record (IsRecordOf known (Own layout ∷ [])) layout s n
          (λ i inside. a_record known profile s i few (omega (arith, inside, below)));
    }

-- the file of these parts
pub file_is : (profile : Profile) (s n : ℕ) (layout : Layout) (formats : List FileFormat)
    (items : List FileItem)
    → layout ≡ sent_layout profile → formats ≡ Own layout ∷ []
    → items ≡ map (sent_item layout s) (range_with_len 0 n)
    → file_with formats items ≡ sent_file profile s n
file_is profile s n layout formats items is own all =
    ap (λ (some : List FileFormat). file_with some items) own
    ∙ ap (λ (some : List FileItem). file_with (Own layout ∷ []) some) all
    ∙ ap (λ (l : Layout). file_with (Own l ∷ []) (map (sent_item l s) (range_with_len 0 n))) is

-- what is written doesn't rest on the known formats
same_bytes : (known : List KnownFormat) (profile : Profile) (s n : ℕ)
    → sent_bytes profile s n ≡ written known (sent_file profile s n)
same_bytes known profile s n = sym (in_order [] (sent_file profile s n))
    ∙ in_order known (sent_file profile s n)

pub read_law : SentIsRead
read_law profile s n known limit few below least small =
    let layout = sent_layout profile in
    let file = sent_file profile s n in
    let within = each_record (IsWithin limit) layout s n
    (λ i inside. let long = record_length profile s i few (omega (arith, inside, below)) in omega
    (arith, long, least)) in
    ap (file_of known limit) (same_bytes known profile s n)
    ∙ written_is_read known limit file small (sent_laid profile, tt)
    (sent_whole known profile s n few below) within
