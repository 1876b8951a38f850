-- A file that is read is whole, and its records are within the limit.
use Rattle.std.proofs.Common.{◌≡◌, ℕ, zero, suc, ◌+◌, ◌-◌, ◌^◌, ◌<◌, ◌≤◌, List, [], ◌∷◌, ◌++◌, length, get_or, Option, Some, None, Result}
use Rattle.std.proofs.Common.{Ok, Err, IfOk, refl, sym, ap, subst, ◌∙◌, length-append, arith}
use Rattle.std.specs.Prelude.{slice_get, option_and_then}
use Rattle.std.specs.List.{All}
use Rattle.std.proofs.lemmas.List.Elements.{All-nil, All-push}
use Rattle.evp_base.proofs.Digits.{AreBytes}
use Rattle.evp_format.specs.Layout.{Layout}
use Rattle.evp_format.proofs.Trees.{slice_get-below}
use Rattle.evp_file.specs.declared.fault.FileFault.{FileFault}
use Rattle.evp_file.specs.declared.file.FileFormat.{FileFormat}
use Rattle.evp_file.specs.declared.file.FileFormat.TheVariants.{Own, Known}
use Rattle.evp_file.specs.declared.file.FileItem.{FileItem}
use Rattle.evp_file.specs.declared.file.KnownFormat.{KnownFormat}
use Rattle.evp_file.specs.declared.file.RecordFile.{RecordFile}
use Rattle.evp_file.specs.declared.frame.Frame.{Frame}
use Rattle.evp_file.specs.declared.frame.Frame.TheVariants.{Format, Record}
use Rattle.evp_file.specs.File.{no_frames, with_frame, format_layout, layout_in}
use Rattle.evp_file.specs.Frames.{IsFormat, IsItem, IsAdmissible, LeadTo}
use Rattle.evp_file.specs.Reading.{file_of}
use Rattle.evp_file.specs.Steps.{Gives}
use Rattle.evp_file.specs.Whole.{IsFormatOf, IsRecordOf, IsWhole, IsWithin}
use Rattle.evp_file.proofs.FilesRead.{file_found}

get_more : (formats : List FileFormat) (more : FileFormat) (number : ℕ) (format : FileFormat) → slice_get formats number ≡ Some format
    → slice_get (formats ++ more ∷ []) number ≡ Some format
get_more [] more number format there = absurd (cc)
get_more (first ∷ formats) more zero format there = there
get_more (first ∷ formats) more (suc number) format there = get_more formats more number format there

found_more : (known : List KnownFormat) (formats : List FileFormat) (more : FileFormat) (number : ℕ) (layout : Layout)
    (found : Option FileFormat) → slice_get formats number ≡ found
    → option_and_then (format_layout known) found ≡ Some layout → layout_in known (formats ++ more ∷ []) number ≡ Some layout
found_more known formats more number layout None is there = absurd (cc)
found_more known formats more number layout (Some format) is there = ap (option_and_then (format_layout known))
    (get_more formats more number format is) ∙ there

-- a record stays one behind a further format
record_more : (known : List KnownFormat) (formats : List FileFormat) (more : FileFormat) (item : FileItem) → IsRecordOf known formats item
    → IsRecordOf known (formats ++ more ∷ []) item
record_more known formats more item is = record {
  layout = is.layout;
  there = found_more known formats more item.format is.layout (slice_get formats item.format) refl is.there;
  short = is.short;
  viewed = is.viewed;
}

a_format : (known : List KnownFormat) (format : FileFormat) → IsFormat known format → IsFormatOf known format
a_format known (Own layout) is = is
a_format known (Known k) is = slice_get-below known k is.one is.there

-- whole, and within the limit
record IsKept (known : List KnownFormat) (limit : ℕ) (file : RecordFile) : Type 0 where
  whole : IsWhole known file
  within : All (IsWithin limit) file.items

kept_with : (known : List KnownFormat) (limit : ℕ) (file : RecordFile) (frame : Frame) → limit < 2 ^ 32
    → IsAdmissible known limit file frame → IsKept known limit file → IsKept known limit (with_frame file frame)
kept_with known limit file (Format format) small admissible kept =
    let few = admissible.0 in
    let long = length-append file.formats (format ∷ []) in
    record {
      whole = record {
        few_formats = omega (arith, few, long);
        few_items = kept.whole.few_items;
        each_format = All-push (IsFormatOf known) file.formats format kept.whole.each_format (a_format known format admissible.1);
        each_item = λ k d below. record_more known file.formats format (get_or file.items k d) (kept.whole.each_item k d below);
      };
      within = kept.within;
    }
kept_with known limit file (Record item) small admissible kept =
    let few = admissible.0 in
    let is = admissible.1 in
    let short = is.short in
    let long = length-append file.items (item ∷ []) in
    let here : IsRecordOf known file.formats item = record
    { layout = is.layout; there = is.there; short = omega (arith, short, small); viewed = is.viewed } in
    record {
      whole = record {
        few_formats = kept.whole.few_formats;
        few_items = omega (arith, few, long);
        each_format = kept.whole.each_format;
        each_item = All-push (IsRecordOf known file.formats) file.items item kept.whole.each_item here;
      };
      within = All-push (IsWithin limit) file.items item kept.within is.short;
    }

kept_behind : (known : List KnownFormat) (limit : ℕ) (file : RecordFile) (frames : List Frame) (whole : RecordFile) → limit < 2 ^ 32
    → LeadTo known limit file frames whole → IsKept known limit file → IsKept known limit whole
kept_behind known limit file [] whole small lead kept = subst (IsKept known limit) lead kept
kept_behind known limit file (frame ∷ frames) whole small lead kept = kept_behind known limit (with_frame file frame) frames whole small
    lead.1 (kept_with known limit file frame small lead.0 kept)

nothing_kept : (known : List KnownFormat) (limit : ℕ) → IsKept known limit no_frames
nothing_kept known limit = record {
  whole = record {
    few_formats = omega arith;
    few_items = omega arith;
    each_format = All-nil (IsFormatOf known);
    each_item = All-nil
        (IsRecordOf known []);
  };
  within = All-nil (IsWithin limit);
}

kept_file : (known : List KnownFormat) (limit : ℕ) (bytes : List ℕ) (file : RecordFile) → limit < 2 ^ 32 → AreBytes bytes
    → file_of known limit bytes ≡ Ok file → IsKept known limit file
kept_file known limit bytes file small are e =
    let is = file_found known limit bytes file are e in
    kept_behind known limit no_frames is.frames file small is.admissible (nothing_kept known limit)

pub whole_read : (known : List KnownFormat) (limit : ℕ) (bytes : List ℕ) (result : Result RecordFile FileFault) → limit < 2 ^ 32
    → AreBytes bytes
    → Gives (λ (file : RecordFile). file) result (file_of known limit bytes) → IfOk result (λ file. IsWhole known file)
    × IfOk result (λ file. All (IsWithin limit) file.items)
whole_read known limit bytes (Ok file) small are said =
    let kept = kept_file known limit bytes file small are said in (kept.whole, kept.within)
whole_read known limit bytes (Err fault) small are said = (tt, tt)
