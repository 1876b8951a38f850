-- The bytes of a file, in the order in which they are written.
use Rattle.std.proofs.Common.{◌≡◌, ℕ, List, [], ◌∷◌, ◌++◌, map, codes, sym, ap, ◌∙◌, append_assoc}
use Rattle.std.specs.List.{flat_map}
use Rattle.std.proofs.lemmas.Grind.{flat_map-append}
use Rattle.evp_file.specs.declared.file.KnownFormat.{KnownFormat}
use Rattle.evp_file.specs.declared.file.RecordFile.{RecordFile}
use Rattle.evp_file.specs.declared.frame.Frame.{Frame}
use Rattle.evp_file.specs.declared.frame.Frame.TheVariants.{Format, Record}
use Rattle.evp_file.specs.Frames.{magic, format_bytes, item_bytes, frame_bytes, frames_bytes}
use Rattle.evp_file.specs.Writing.{frames_of, written}
use Rattle.evp_file.proofs.Lists.{flat_map-map}

pub in_order : (known : List KnownFormat) (file : RecordFile)
    → ((magic ++ flat_map (format_bytes known) file.formats) ++ flat_map item_bytes file.items) ++ codes "E" ≡ written known file
in_order known file =
    let formats = flat_map (format_bytes known) file.formats in
    let items = flat_map item_bytes file.items in
    let parts : frames_bytes known (frames_of file) ≡ formats ++ items =
    flat_map-append (frame_bytes known) (map Format file.formats) (map Record file.items)
    ∙ ap (λ (front : List ℕ). front ++ flat_map (frame_bytes known) (map Record file.items))
    (flat_map-map (frame_bytes known) Format file.formats)
    ∙ ap (λ (back : List ℕ). formats ++ back) (flat_map-map (frame_bytes known) Record file.items) in
    ap (λ (front : List ℕ). front ++ codes "E") (append_assoc magic formats items) ∙ append_assoc magic (formats ++ items) (codes "E")
    ∙ ap (λ (frames : List ℕ). magic ++ (frames ++ codes "E")) (sym parts)
