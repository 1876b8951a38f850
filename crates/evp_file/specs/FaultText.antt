-- The texts of faults, and their offsets.
use Rattle.std.specs.Prelude.{ℕ, List, ◌++◌, codes}
use Rattle.evp_format.specs.BrokenText.{broken_text}
use Rattle.evp_format.specs.FaultText.{layout_fault_text}
use Rattle.evp_file.specs.declared.fault.FileFault.{FileFault}
use Rattle.evp_file.specs.declared.fault.FileFault.TheVariants.{Magic, Short, FrameKind, Layout}
use Rattle.evp_file.specs.declared.fault.FileFault.TheVariants.{UnknownId, FormatNumber, Broken}
use Rattle.evp_file.specs.declared.fault.FileFault.TheVariants.{TooLarge, Trailing, Records}
use Rattle.evp_file.specs.declared.fault.FileFault.TheVariants.{Formats, Memory}

abbrev pub file_fault_text : FileFault → List ℕ
file_fault_text Magic = codes "magic"
file_fault_text (Short at) = codes "short"
file_fault_text (FrameKind at) = codes "frame kind"
file_fault_text (Layout at fault) = codes "layout " ++ layout_fault_text fault
file_fault_text (UnknownId at) = codes "unknown id"
file_fault_text (FormatNumber at) = codes "format number"
file_fault_text (Broken at fault path) = codes "broken " ++ broken_text fault path
file_fault_text (TooLarge at) = codes "too large"
file_fault_text (Trailing at) = codes "trailing"
file_fault_text (Records at) = codes "records"
file_fault_text (Formats at) = codes "formats"
file_fault_text Memory = codes "memory"

-- the offset of a fault in the file; the magic's is 0
abbrev pub fault_offset : FileFault → ℕ
fault_offset Magic = 0
fault_offset (Short at) = at
fault_offset (FrameKind at) = at
fault_offset (Layout at fault) = at
fault_offset (UnknownId at) = at
fault_offset (FormatNumber at) = at
fault_offset (Broken at fault path) = at
fault_offset (TooLarge at) = at
fault_offset (Trailing at) = at
fault_offset (Records at) = at
fault_offset (Formats at) = at
fault_offset Memory = 0
