-- An output that starts at the window shows what it is to show, in the buffer that it holds.
use Rattle.std.proofs.Common.{rules, ◌≡◌, ap, ◌∙◌, length}
use Rattle.writer.specs.Window.{written}
use Rattle.writer.proofs.Shown.{windowed}
use Rattle.text.proofs.Words.window.Goals as goal

pub returns : goal.returns
returns c =
    let same : c.piece.new.output.buf.now ≡ c.buf-1.given.0 = search rules in
    let long : length c.piece.new.output.buf.now ≡ length c.args.buf.now = search rules in
    let h = rw same at (windowed _ _ _ _ c.piece.new.output (c.piece.ensures.text ∙ ap (written _) c.new-output.ensures.started) long) in
    record { shown = h.0; within = h.1 }
