use Rattle.std.proofs.Common.{sym, ◌∙◌, ap, true≢false, refl, nat_eq}
use Rattle.std.specs.List.{list_any}
use Rattle.evp_format.proofs.Texts.{no_zero-where_none, none-where_no_zero}
use Rattle.evp_format.proofs.value.TextBytes.read.Goals as goal

pub invariant_of-result : goal.invariant_of-result
invariant_of-result c = no_zero-where_none c.args.bytes.items (ap (list_any (λ byte. nat_eq byte 0)) (sym c.deref.ensures.value)
    ∙ sym c.if-contains.ensures.value)

pub returns-then-contains-clause-read : goal.returns-then-contains-clause-read
returns-then-contains-clause-read c = (
  λ no. absurd (true≢false (sym no)),
  λ none. sym (c.if-contains.ensures.value ∙ ap (list_any (λ byte. nat_eq byte 0)) c.deref.ensures.value
      ∙ none-where_no_zero c.args.bytes.items none),
)

pub returns-else-contains-clause-read : goal.returns-else-contains-clause-read
returns-else-contains-clause-read c = (
  λ yes. no_zero-where_none c.args.bytes.items (ap (list_any (λ byte. nat_eq byte 0)) (sym c.deref.ensures.value)
      ∙ sym c.if-contains.ensures.value),
  λ none. refl,
)
