use Rattle.std.proofs.Common.{◌≤◌, refl, arith}
use Rattle.lexed_text.proofs.RunSums.{part-fits, runs-push}
use Rattle.lexed_text.proofs.runs.cut_runs.Goals as goal
use Rattle.lexed_text.proofs.runs.cut_runs.Goals.{then-to-at, else-to-at}

pub bytes_of-bytes-requires : goal.bytes_of-bytes-requires
bytes_of-bytes-requires c =
    let order : c.runs.at ≤ c.if-to-at.end = elim c.if-to-at.branch [ then-to-at w ↦ omega arith | else-to-at w ↦ omega arith ] in
    let upto : c.if-to-at.end ≤ c.args.to = elim c.if-to-at.branch [ then-to-at w ↦ omega arith | else-to-at w ↦ omega arith ] in
    part-fits c.args.tokens.now c.runs.at c.if-to-at.end order (omega arith) c.requires.fits

pub runs-preserved : goal.runs-preserved
runs-preserved c =
    let order : c.runs.at ≤ c.if-to-at.end = elim c.if-to-at.branch [ then-to-at w ↦ omega arith | else-to-at w ↦ omega arith ] in
    let upto : c.if-to-at.end ≤ c.args.to = elim c.if-to-at.branch [ then-to-at w ↦ omega arith | else-to-at w ↦ omega arith ] in
    let more = runs-push c.args.from c.runs.at c.if-to-at.end c.runs.runs.items c.push.new.self.items _ c.args.tokens.now c.runs.invariant.runs c.runs.invariant.count order (omega arith) refl c.bytes_of-bytes.ensures c.in_ok-push.ensures.items in
    record {
      within = upto;
      count = more.1;
      runs = more.0;
    }
