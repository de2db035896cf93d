use Rattle.std.proofs.Common.{◌≡◌, ◌∙◌, ◌++◌, ◌∷◌, [], List, ℕ, length, ap, arith, string_bytes}
use Rattle.rust_document.specs.Seen.{message_of_error}
use Rattle.document_requests.specs.Messages.{worded}
use Rattle.document_requests.proofs.Named.{words-are}
use Rattle.document_rows.specs.declared.rows.MessageRow.{MessageRow}
use Rattle.document_rows.proofs.Said.{row-is}
use Rattle.document_rows.proofs.messages.push_message.Goals as goal

pub returns-clause-words : goal.returns-clause-words
returns-clause-words c =
    c.in_ok-push_str.ensures.bytes
    ∙ ap (λ (w : List ℕ). string_bytes c.args.to.now.words ++ w) (c.deref.ensures ∙ c.in_ok-words.ensures.ok ∙ words-are c.args.error.message)

pub returns-clause-row : goal.returns-clause-row
returns-clause-row c =
    let start : c.len.result ≡ length (string_bytes c.args.to.now.words) = grind arith in
    let end : c.len-2.result ≡ length (string_bytes c.push_str.new.self) = grind arith in
    c.in_ok-push.ensures.items
    ∙ ap (λ (rows : List MessageRow). c.args.to.now.rows.items ++ rows)
    (row-is _ _ _ c.args.error.offset _ _ (string_bytes c.args.to.now.words) (worded (message_of_error c.args.error)).1 (string_bytes c.push_str.new.self) c.shown.ensures c.shown-words_start.ensures start
    c.shown-2.ensures end (returns-clause-words c))
