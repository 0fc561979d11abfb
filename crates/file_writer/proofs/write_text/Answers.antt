-- The text is put where it is no longer than the buffer.
use Rattle.std.proofs.Common.{arith}
use Rattle.file_writer.proofs.Written.{refused, written}
use Rattle.file_writer.proofs.write_text.Goals as goal

pub returns-then-buffer-long : goal.returns-then-buffer-long
returns-then-buffer-long g c =
    let w = refused g.text c.args.buffer.now (c.requires.1.1 _ _ _ c.put-long.ensures) c.if-buffer-long.true in
    record { value = w.0; buffer_after = w.1 }

pub returns : goal.returns
returns g c =
    let w = written g.text c.args.buffer.now (c.requires.1.1 _ _ _ c.put-long.ensures) (c.requires.1.1 _ _ _ c.put-length.ensures) c.if-buffer-long.false (omega arith) in
    record { value = w.0; buffer_after = w.1 }
