use Rattle.std.proofs.Common.{◌∙◌, ap, subst, Result, arith}
use Rattle.evp_format.specs.declared.layout_fault.LayoutFault.{LayoutFault}
use Rattle.evp_format.specs.Layout.{Layout}
use Rattle.evp_format.specs.Reading.{layout_of}
use Rattle.evp_format.specs.Steps.{Gives}
use Rattle.evp_format.proofs.Descriptions.{bytes_are, found_described}
use Rattle.evp_format.proofs.FormatsAgain.{described_again}
use Rattle.evp_format.proofs.description.reading.read_description.Goals as goal

pub returns-clause-found : goal.returns-clause-found
returns-clause-found c = found_described c.args.bytes.now c.read_all.result
    (bytes_are c.args.bytes.now (λ k. omega (arith, c.type_inv.bytes k))) c.read_all.ensures.exact

pub returns-clause-only : goal.returns-clause-only
returns-clause-only c =
    λ layout laid same. subst (λ (said : Result Layout LayoutFault). Gives (λ (format : Layout). format) c.read_all.result said)
    (ap layout_of same ∙ described_again layout laid) c.read_all.ensures.exact
