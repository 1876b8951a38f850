use Rattle.evp_runner.proofs.Texts.{text_before}
use Rattle.evp_runner.proofs.reading.text_in.Goals as goal

pub returns-in-Some-clause-value : goal.returns-in-Some-clause-value
returns-in-Some-clause-value c = text_before c.args.bytes.now c.in-Some.length c.in-Some.ensures.value
