use Rattle.std.proofs.Common.{◌≡◌, length, arith}
use Rattle.std.proofs.lemmas.Bool.Decides.{nat_tests}
use Rattle.std.specs.Prelude.{IsOk}
use Rattle.evp_format.specs.Viewing.{view}
use Rattle.evp_record.proofs.Glances.{root_some, leads_there, led_viewed, unled_viewed}
use Rattle.evp_record.proofs.Viewed.{view-short}
use Rattle.evp_record.proofs.record.check.Goals as goal
use Rattle.evp_record.proofs.record.check.Goals.{Then-is_easy, Then-is_empty}

pub returns-then-bytes-length-clause-fault : goal.returns-then-bytes-length-clause-fault
returns-then-bytes-length-clause-fault c =
    let long = c.length-length.ensures.value in
    view-short c.args.format.now c.args.bytes.now (omega (arith, long))

-- ---- no leads

is_viewed : (c : Then-is_empty) → IsOk (view c.args.format.now c.args.bytes.now)
is_viewed c =
    let none : 0 ≡ length c.root_leads-leads.result.now = grind (arith, nat_tests, c.is_empty.ensures, c.if-is_empty.true) in
    unled_viewed c.args.format.now c.args.bytes.now c.length-length.result c.root_leads-leads.result.now c.length-length.ensures.laid
    c.length-length.ensures.value c.root_leads-leads.ensures (omega arith) none

pub invariant_of-result : goal.invariant_of-result
invariant_of-result c = record { short = c.requires; viewed = is_viewed c }

pub returns-then-is_empty-clause-viewed : goal.returns-then-is_empty-clause-viewed
returns-then-is_empty-clause-viewed c = is_viewed c

-- ---- leads that are looked at

pub is_easy-requires-clause-leads : goal.is_easy-requires-clause-leads
is_easy-requires-clause-leads c =
    leads_there c.args.format.now c.args.bytes.now c.length-length.result c.root_leads-leads.result.now c.length-length.ensures.laid c.requires
    c.length-length.ensures.value c.root_leads-leads.ensures (omega arith)

pub is_easy-requires-clause-some : goal.is_easy-requires-clause-some
is_easy-requires-clause-some c =
    root_some c.args.format.now c.length-length.result c.length-length.ensures.laid c.length-length.ensures.value

is_seen : (c : Then-is_easy) → IsOk (view c.args.format.now c.args.bytes.now)
is_seen c =
    led_viewed c.args.format.now c.args.bytes.now c.length-length.result c.root_leads-leads.result.now c.length-length.ensures.laid
    c.length-length.ensures.value c.root_leads-leads.ensures (omega arith) (c.is_easy.ensures c.if-is_easy.true)

pub invariant_of-result-then-is_easy : goal.invariant_of-result-then-is_easy
invariant_of-result-then-is_easy c = record { short = c.requires; viewed = is_seen c }

pub returns-then-is_easy-clause-viewed : goal.returns-then-is_easy-clause-viewed
returns-then-is_easy-clause-viewed c = is_seen c
