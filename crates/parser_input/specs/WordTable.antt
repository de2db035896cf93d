-- How a row of the code's table of words is read.
use Rattle.parser_input.specs.Keywords as keywords
use Rattle.parser_input.specs.Kind.{raw_of}
use Rattle.parser_input.specs.declared.word_table.Word.{Word}

abbrev pub row_of : Word → keywords.Word
row_of word = record { text = word.text.now; kind = raw_of word.kind; since = word.since; is_contextual = word.is_contextual }
