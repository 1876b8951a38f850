use Rattle.std.proofs.Common.{rules, ◌≡◌, ◌<◌, slice_get}
use Rattle.evp_action.specs.Agreement.{Agrees, IsDeclared}
use Rattle.evp_action_tests.proofs.tests.terminal.Goals as goal

pub returns : goal.returns
returns c = (c.format_of-declared.result.now, record { below = c.requires; there = c.format_of-declared.ensures })
