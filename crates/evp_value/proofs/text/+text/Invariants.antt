use Rattle.std.proofs.Common.{◌≡◌, ◌++◌, string_bytes, take}
use Rattle.evp_format.specs.ValueText.{elements_text, entries_text}
use Rattle.evp_format.specs.ValueView.{elements_of_values, entries_of_pairs}
use Rattle.evp_value.proofs.text.+text.Given as goal

abbrev pub invariant-write_elements-loop-k : goal.invariant-write_elements-loop-k
invariant-write_elements-loop-k l = string_bytes l.text ≡ string_bytes l.initial.text
    ++ elements_text (elements_of_values (take l.k l.values))

abbrev pub invariant-write_entries-loop-k : goal.invariant-write_entries-loop-k
invariant-write_entries-loop-k l = string_bytes l.text ≡ string_bytes l.initial.text ++ entries_text (entries_of_pairs (take l.k l.pairs))
