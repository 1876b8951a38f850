use Rattle.std.proofs.Common.{◌+◌, drop, sym, ap, ◌∙◌}
use Rattle.evp_wide.specs.Gathered.{sign_byte}
use Rattle.evp_plan.proofs.lane_tests.looks_at.Goals as goal

pub returns : goal.returns
returns c = λ told at bytes has.
    sym (c.in-Some.ensures at bytes) ∙ c.has_places.ensures told (drop (at + c.args.window.now.at) bytes) has
    ∙ ap sign_byte (c.in-Some-place_in.ensures at bytes)
