use Rattle.std.proofs.Common.{◌≡◌, ℕ, ◌≤◌, length, sym, subst, codes}
use Rattle.evp_base.specs.declared.step.Step.TheVariants.{Field}
use Rattle.serde_json.specs.Find.{get}
use Rattle.serde_json.specs.View.{view}
use Rattle.evp_job.specs.HeadView.{head_of}
use Rattle.evp_job.specs.Stones.{stones_in}
use Rattle.evp_job.specs.TextView.{stones_of}
use Rattle.evp_job.proofs.HeadKept.{head_kept}
use Rattle.evp_job.proofs.PartsKept.{reading_of}
use Rattle.evp_job.proofs.StonesKept.{stones_kept}
use Rattle.evp_job.proofs.WentOn.{from_under}
use Rattle.evp_job.proofs.parts.parts_in.Goals as goal

pub stones_at-requires-clause-paired : goal.stones_at-requires-clause-paired
stones_at-requires-clause-paired c =
    (head_kept (view c.args.value.now) (head_of c.in_ok-head.head) c.in_ok-head.ensures).paired

pub stones_at-requires-clause-few : goal.stones_at-requires-clause-few
stones_at-requires-clause-few c =
    (head_kept (view c.args.value.now) (head_of c.in_ok-head.head) c.in_ok-head.ensures).few

pub rounds_at-requires : goal.rounds_at-requires
rounds_at-requires c =
    let reading = reading_of c.each_text_is_answered.ensures in
    let formats = (head_of c.in_ok-head.head).formats in
    let said = get (codes "stones") (view c.args.value.now) in
    let stones = c.in_ok-stones.stones.items in
    let read = from_under (Field (codes "stones")) (stones_in reading formats said) (stones_of stones)
    (c.in_ok-stones.ensures reading) in
    let is : c.stone_count.result ≡ length (stones_of stones) = search in
    subst (λ (n : ℕ). n ≤ 256) (sym is) (stones_kept reading formats said (stones_of stones) read).count.1
