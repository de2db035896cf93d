use Rattle.std.proofs.Common.{arith}
use Rattle.message_frames.proofs.FrameLemmas.{message-read}
use Rattle.message_frames.proofs.HeaderLemmas.{begins-fits, begins-some}
use Rattle.message_frames.proofs.frame.body_at.Goals as goal

pub returns : goal.returns
returns c =
    let begun = begins-fits _ _ _ c.requires in
    let some = begins-some _ _ _ c.requires in
    record {
      header = some;
      body = omega arith;
      whole = omega arith;
      message = message-read c.args.buffer.now c.args.start c.args.body c.requires (omega arith) (omega arith);
    }
