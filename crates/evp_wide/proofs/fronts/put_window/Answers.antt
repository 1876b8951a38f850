use Rattle.evp_wide.proofs.Windows.{window_put}
use Rattle.evp_wide.proofs.fronts.put_window.Goals as goal

pub returns : goal.returns
returns c =
    window_put c.args.to c.args.at c.args.count c.args.out.now c.args.from.now c.requires.window c.requires.room c.requires.few
