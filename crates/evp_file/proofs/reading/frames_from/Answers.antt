use Rattle.std.proofs.Common.{ℕ, ◌+◌, ◌≤◌, length, Option, IfSome, Ok, ap, subst, ◌∙◌, arith, length-drop}
use Rattle.std.proofs.lemmas.Result.{err_from_is_err_and}
use Rattle.evp_file.specs.declared.frame.Frame.{Frame}
use Rattle.evp_file.specs.File.{no_frames}
use Rattle.evp_file.specs.Reading.{frames_from}
use Rattle.evp_file.proofs.Framewise.{frames_go_on, frames_end, frames_stop, frames_none}
use Rattle.evp_file.proofs.reading.frames_from.Goals as goal

pub returns-in_err-frame_at : goal.returns-in_err-frame_at
returns-in_err-frame_at c =
    let reader = c.args.reader.now in
    let p = err_from_is_err_and c.from_residual.result c.from_residual.ensures.1 in
    rw (p.1, p.2) (λ memory. frames_stop (length c.args.bytes.now) c.loop.counter reader.known.now reader.limit c.loop.file c.loop.at
    c.loop.rest.now c.in_err-frame_at.field-0.0
    (frames_from (length c.args.bytes.now) reader.known.now reader.limit no_frames 4 c.args.bytes.now) c.loop-test.true
    (c.in_err-frame_at.ensures.value memory) c.loop.invariant.same)

pub returns-in-None : goal.returns-in-None
returns-in-None c =
    let reader = c.args.reader.now in
    frames_end (length c.args.bytes.now) c.loop.counter reader.known.now reader.limit c.loop.file c.loop.at c.loop.rest.now
    (frames_from (length c.args.bytes.now) reader.known.now reader.limit no_frames 4 c.args.bytes.now) c.loop-test.true
    (c.in_ok-frame_at.ensures.value ∙ ap (λ (read : Option (Frame × ℕ)). Ok read) c.in-None.is) c.loop.invariant.same

pub loop-preserved : goal.loop-preserved
loop-preserved c =
    let reader = c.args.reader.now in
    let size = c.in-Some.size in
    let left = c.loop.rest.now in
    let read = c.in_ok-frame_at.ensures.value ∙ ap (λ (read : Option (Frame × ℕ)). Ok read) c.in-Some.is in
    let within : size ≤ length left = subst (λ (read : Option (Frame × ℕ)). IfSome read (λ frame. frame.1 ≤ length left)) c.in-Some.is
    c.in_ok-frame_at.ensures.within in
    let behind = length-drop size left in
    let whole = c.loop.invariant.whole in
    rw (c.in_ok-push_frame-in-Some.ensures, c.behind-rest.ensures) (record {
      same = frames_go_on (length c.args.bytes.now) c.loop.counter reader.known.now reader.limit c.loop.file c.loop.at left
          c.in-Some.frame size
          (frames_from (length c.args.bytes.now) reader.known.now reader.limit no_frames 4 c.args.bytes.now) c.loop-test.true read
          c.loop.invariant.same;
      whole = omega (arith, within, behind, whole);
    })

pub returns : goal.returns
returns c =
    let reader = c.args.reader.now in
    λ _. frames_none (length c.args.bytes.now) c.loop.counter reader.known.now reader.limit c.loop.file c.loop.at c.loop.rest.now
    (frames_from (length c.args.bytes.now) reader.known.now reader.limit no_frames 4 c.args.bytes.now) c.loop-test.false
    c.loop.invariant.same
