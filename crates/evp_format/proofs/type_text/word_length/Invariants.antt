use Rattle.std.proofs.Common.{◌≡◌, ◌+◌, length, drop}
use Rattle.evp_format.specs.TypeText.{word_part}
use Rattle.evp_format.proofs.type_text.word_length.Given as goal

abbrev pub invariant-loop-front : goal.invariant-loop-front
invariant-loop-front l = l.front + length (word_part (drop l.front l.text)) ≡ length (word_part l.text)
