use Rattle.std.proofs.lemmas.Fmt.{IsAscii-from_digits}
use Rattle.std.proofs.lemmas.Str.{IsUtf8-from_ascii}
use Rattle.evp_format.proofs.type_text.number_of.Goals as goal

pub returns-in-Err : goal.returns-in-Err
returns-in-Err c = λ numeral. c.in-Err.ensures.cases.0 (IsUtf8-from_ascii _ (IsAscii-from_digits _ numeral.0.1))
