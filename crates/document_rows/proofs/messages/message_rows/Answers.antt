use Rattle.std.proofs.Common.{◌∙◌, arith, ap}
use Rattle.document_rows.specs.Rows.{message_rows, message_words}
use Rattle.document_requests.specs.Messages.{worded}
use Rattle.document_rows.proofs.Said.{rows-end, rows-more, words-end, words-more}
use Rattle.document_rows.proofs.messages.message_rows.Goals as goal

pub loop-error-preserved : goal.loop-error-preserved
loop-error-preserved c =
    let l = c.loop-error in
    let said = c.in_ok-push_message.ensures in
    record {
      rows = rows-more _ _ _ _ _ _ _ _ c.loop-error-test.true said.row said.words l.invariant.rows;
      words = words-more _ _ _ _ _ _ c.loop-error-test.true said.words l.invariant.words;
    }
