use Rattle.std.proofs.Common.{◌∙◌}
use Rattle.evp_format.specs.declared.lead.Inside.TheVariants.{Text}
use Rattle.evp_record.proofs.LeadWalks.{next_element, no_element}
use Rattle.evp_record.proofs.marker.Marker.texts.Goals as goal

pub returns-in_err-mark-clause-value : goal.returns-in_err-mark-clause-value
returns-in_err-mark-clause-value c =
    c.from_residual.ensures
    ∙ no_element c.args.self.now Text c.args.size c.args.from c.args.count c.loop-index.index c.loop-index.mark c.loop-index-test.true
    c.in_err-mark.ensures.value
    ∙ c.loop-index.invariant.0

pub loop-index-preserved : goal.loop-index-preserved
loop-index-preserved c = (
  next_element c.args.self.now Text c.args.size c.args.from c.args.count c.loop-index.index c.loop-index.mark c.in_ok-mark.mark
      c.loop-index-test.true
      c.in_ok-mark.ensures.value
      ∙ c.loop-index.invariant.0,
  c.in_ok-mark.ensures.mark_in,
)
