-- The words of messages in code.
use Rattle.std.proofs.Common.{◌≡◌, ap}
use Rattle.parser_input.specs.Kind.{raw_of}
use Rattle.parser_input.specs.declared.syntax_kind.SyntaxKind.{SyntaxKind}
use Rattle.kind_words.specs.Words.{words_of}
use Rattle.syntax_tree.specs.Language.{kind_of_raw-raw_of}
use Rattle.document_views.specs.Words.{kind_words}

pub words-of-raw : (kind : SyntaxKind) → kind_words (raw_of kind) ≡ words_of kind
words-of-raw kind = ap words_of (kind_of_raw-raw_of kind)
