use Rattle.std.proofs.Common.{codes, length}
use Rattle.std.specs.Fmt.{decimal}
use Rattle.message_frames.proofs.Writes.{in-parts}
use Rattle.message_frames.proofs.write.push_message.Goals as goal

pub returns : goal.returns
returns c =
    rw (c.in_ok-extend_from_slice-2.ensures.items, c.in_ok-extend_from_slice.ensures.items, c.as_bytes.ensures.value, c.as_str.ensures.value)
    (in-parts _ _ (codes "Content-Length: ") (decimal (length c.args.body.now)) (codes "\r\n\r\n") c.args.body.now c.in_ok-header.ensures.ok)
