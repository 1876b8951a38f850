use Rattle.std.proofs.Common.{ℕ, List, sym, ◌∙◌, Bor}
use Rattle.evp_job.proofs.Lowered.{all_known_keys}
use Rattle.evp_job.proofs.forms.all_known.Goals as goal

pub returns : goal.returns
returns c =
    c.keys_known.ensures
    ∙ sym (all_known_keys (λ (name : Bor (List ℕ)). name.now) c.args.known.now
    c.args.members.now.entries)
