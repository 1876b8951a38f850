use Rattle.evp_stones.proofs.replying.put.Goals as goal

pub returns-in-Checked : goal.returns-in-Checked
returns-in-Checked g c = rw c.in-Checked.is c.put_checked.ensures

pub returns-in-Converted : goal.returns-in-Converted
returns-in-Converted g c = rw c.in-Converted.is c.put-in-Converted.ensures
