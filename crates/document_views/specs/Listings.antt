-- The list of messages that an editor shows of a text.
use Rattle.std.specs.Prelude.{ℕ, List, take, chars, map, Option, Some, None, unwrap_or}
use Rattle.line_index.specs.Columns.{line_col}
use Rattle.line_index.specs.declared.encoding.Encoding.{Encoding}
use Rattle.parser_input.specs.declared.edition.Edition.{Edition}
use Rattle.ra_parser.specs.declared.grammar.Grammar.{Grammar}
use Rattle.ra_parser.specs.declared.grammar.Grammar.TheVariants.{Whole}
use Rattle.rust_document.specs.Reading.{Message, messages_in}
use Rattle.rust_document.specs.Tokens.{tokens_of}
use Rattle.rust_source.specs.RangedErrors.{with_end}
use Rattle.session_words.specs.Replies.{Shown}
use Rattle.session_words.specs.declared.facts.Facts.{Facts}
use Rattle.document_views.specs.Words.{words}

-- the most messages that are shown of one text
abbrev pub MAX_SHOWN : ℕ
MAX_SHOWN = 1000

-- a message with its end, at its places in a text
abbrev pub shown : Encoding → List ℕ → Message × ℕ → Shown
shown e text m = record { start = line_col e text m.0.0; end = line_col e text m.1; words = words m.0.1 }

-- The first messages of the reading of a text, in their order, at their places.
abbrev pub listing_by : Grammar → Encoding → Edition → List ℕ → List Shown
listing_by grammar e edition text =
    map (shown e text) (take MAX_SHOWN (map (with_end (tokens_of edition (chars text))) (messages_in grammar edition (chars text))))

-- what is shown of a text, whose edition is the one that the client asks for, else this one
abbrev pub listing : Edition → Facts → List ℕ → List Shown
listing edition facts text = listing_by Whole facts.encoding (unwrap_or facts.edition edition) text
