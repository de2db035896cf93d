use Rattle.std.proofs.Common.{◌∙◌, ◌++◌, List, ℕ, ap, sym}
use Rattle.std.specs.Prelude.{codes}
use Rattle.parser_events.specs.Seen.{message_of}
use Rattle.parser_events.specs.declared.message.Message.{Message}
use Rattle.document_views.specs.Words.{message_words}
use Rattle.document_views.proofs.WordLemmas.{words-of-raw}
use Rattle.document_views.proofs.wording.parser_words.Goals as goal

pub returns-in_ok-said-in-Expected : goal.returns-in_ok-said-in-Expected
returns-in_ok-said-in-Expected c =
    c.in_ok-said-in-Expected.ensures.ok
    ∙ ap (λ (w : List ℕ). codes "expected " ++ w) (c.words_of-words.ensures ∙ sym (words-of-raw c.in-Expected.kind))
    ∙ ap (λ (m : Message). message_words (message_of m)) (sym c.in-Expected.is)

pub returns-in_ok-said-in-UnexpectedIn : goal.returns-in_ok-said-in-UnexpectedIn
returns-in_ok-said-in-UnexpectedIn c =
    c.in_ok-said-in-UnexpectedIn.ensures.ok
    ∙ ap (λ (w : List ℕ). codes "unexpected token in " ++ w) (c.words_of-words-in-UnexpectedIn.ensures ∙ sym (words-of-raw c.in-UnexpectedIn.list))
    ∙ ap (λ (m : Message). message_words (message_of m)) (sym c.in-UnexpectedIn.is)
