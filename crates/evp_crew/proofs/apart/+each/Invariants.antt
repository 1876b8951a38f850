use Rattle.std.proofs.Common.{◌+◌, ◌*◌, length}
use Rattle.evp_crew.proofs.apart.+each.Given as goal

abbrev pub decreases-begin : goal.decreases-begin
decreases-begin g l = 4 * length l.all.now

abbrev pub decreases-beside : goal.decreases-beside
decreases-beside g l = 4 * length l.others.now + 2

abbrev pub decreases-beside-back : goal.decreases-beside-back
decreases-beside-back g l = 4 * length l.others.now + 1
