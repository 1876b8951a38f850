use Rattle.std.proofs.Common.{◌≡◌, ◌++◌, drop}
use Rattle.std.specs.List.{flat_map}
use Rattle.evp_file.specs.Frames.{format_bytes}
use Rattle.evp_file.proofs.writing.put_formats.Given as goal

abbrev pub invariant-loop-format : goal.invariant-loop-format
invariant-loop-format l =
    l.out.items ++ flat_map (format_bytes l.known) (drop l.format-index l.formats) ≡ l.fn.out.items
    ++ flat_map (format_bytes l.known) l.formats
