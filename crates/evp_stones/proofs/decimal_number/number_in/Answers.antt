use Rattle.std.proofs.Common.{◌≡◌, decimal, sym, ◌∙◌, arith}
use Rattle.std.proofs.lemmas.Bool.{false≢true}
use Rattle.std.proofs.lemmas.Slice.Eq.{bytes_eq-Decides}
use Rattle.evp_stones.proofs.DecimalNumbers.{no_text, not_read, number_read, number_there}
use Rattle.evp_stones.proofs.decimal_number.number_in.Goals as goal
use Rattle.evp_stones.proofs.decimal_number.number_in.Goals.{else-number-bound-via-then-number-bound+else-eq}
use Rattle.evp_stones.proofs.decimal_number.number_in.Goals.{else-number-bound-via-else-number-bound}

pub returns-in_default : goal.returns-in_default
returns-in_default c =
    let fits = c.ranges.bound in
    sym (no_text c.args.bound c.args.bytes.now (omega (arith, fits)) c.in_default.ensures.cases.0)

pub returns-in_default-parse : goal.returns-in_default-parse
returns-in_default-parse c =
    let fits = c.ranges.bound in
    sym (not_read c.args.bound c.args.bytes.now c.parse.result c.in_default-parse.field-0 (omega (arith, fits)) c.in_default-parse.is
    (rw c.in-Ok.ensures.cases.0 at c.parse.ensures.value.0))

pub returns-then-eq : goal.returns-then-eq
returns-then-eq c =
    let fits = c.ranges.bound in
    let small = c.if-number-bound.true in
    let is : c.args.bytes.now ≡ decimal c.in-Ok-parse.number =
    sym ((bytes_eq-Decides c.as_bytes.result.now c.args.bytes.now).0 (sym c.eq.ensures ∙ c.if-eq.true)) ∙ c.as_bytes.ensures.value
    ∙ c.format.ensures.text in
    sym (number_there c.args.bound c.in-Ok-parse.number c.args.bytes.now small (omega (arith, fits, small)) is)

pub returns : goal.returns
returns c =
    let fits = c.ranges.bound in
    let parses = rw c.in-Ok.ensures.cases.0 at c.parse.ensures.value.0 in
    elim c.else-number-bound.branch [
      | else-number-bound-via-then-number-bound+else-eq w ↦
          sym (number_read c.args.bound c.in-Ok-parse.number c.args.bytes.now c.parse.result (omega (arith, fits)) c.in-Ok-parse.is parses
          (λ small is. false≢true (sym w.if-eq.false ∙ w.eq.ensures
          ∙ (bytes_eq-Decides w.as_bytes.result.now c.args.bytes.now).1 (w.as_bytes.ensures.value ∙ w.format.ensures.text ∙ sym is))))
      | else-number-bound-via-else-number-bound w ↦
          sym (number_read c.args.bound c.in-Ok-parse.number c.args.bytes.now c.parse.result (omega (arith, fits)) c.in-Ok-parse.is parses
          (λ small is. absurd (omega (arith, small, w.if-number-bound.false))))
    ]
