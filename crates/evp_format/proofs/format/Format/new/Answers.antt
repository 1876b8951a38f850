use Rattle.std.proofs.Common.{◌≡◌, List, length, rules, ap, ◌∙◌, ◌&&◌, nat_eq}
use Rattle.std.specs.List.{list_all}
use Rattle.evp_format.specs.declared.lead.Lead.{Lead}
use Rattle.evp_format.specs.Layout.{Layout, layout_with}
use Rattle.evp_format.specs.Leads.{all_leads, is_glanced_lead}
use Rattle.evp_format.proofs.Roots.{length_read, leads_read}
use Rattle.evp_format.proofs.format.Format.new.Goals as goal

-- src/format.rt:68:9
pub invariant_of-result : goal.invariant_of-result
invariant_of-result c =
    let layout : Layout = layout_with c.args.order c.args.pointer c.args.types.items in
    let many : c.len.result ≡ length c.in_ok-leads.leads.items = search rules in
    let types : c.len-2.result ≡ length c.args.types.items = search rules in
    let all : c.in_ok-leads.leads.items ≡ all_leads c.args.types.items = search rules in
    let own = c.in_ok-root_leads.ensures.items ∙ c.as_slice-2.ensures
    ∙ leads_read layout c.in_ok-leads.leads.items c.len.result c.index.result.now c.requires all many c.index.ensures in (
      c.requires,
      all,
      length_read layout c.len-2.result c.index-2.result.now c.requires types c.index-2.ensures,
      own,
      c.are_glanced-glanced.ensures
          ∙ ap (λ (leads : List Lead). nat_eq c.args.pointer 8 && list_all is_glanced_lead leads) (c.as_slice-3.ensures.value ∙ own),
    )
