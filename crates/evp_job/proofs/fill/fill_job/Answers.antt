use Rattle.std.proofs.Common.{sym, ap, subst, ◌∙◌}
use Rattle.evp_stone.specs.Job.{IsJob}
use Rattle.evp_job.specs.Filling.{bare_job, agree}
use Rattle.evp_job.proofs.FilledJobs.{filled_is_job}
use Rattle.evp_job.proofs.fill.fill_job.Goals as goal

pub new-requires : goal.new-requires
new-requires c =
    let right = sym (ap (agree (bare_job c.args.text)) c.deref.ensures.value) ∙ c.in_ok-agree.ensures in
    subst IsJob (sym c.in_ok-with_files.ensures)
    (filled_is_job c.args.text c.args.files.items c.requires.stated c.requires.read right)
