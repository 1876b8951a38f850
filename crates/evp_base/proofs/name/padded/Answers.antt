use Rattle.evp_base.proofs.NameLemmas.{put_mid-zeros}
use Rattle.evp_base.proofs.name.padded.Goals as goal

pub returns : goal.returns
returns c = put_mid-zeros c.args.text.now c.copy_from_slice.new.self c.copy_from_slice.ensures.after c.requires
