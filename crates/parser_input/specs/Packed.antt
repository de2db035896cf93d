-- How a token of the code is read.
use Rattle.parser_input.specs.Input as input
use Rattle.parser_input.specs.Kind.{raw_of}
use Rattle.parser_input.specs.declared.input.InputToken.{InputToken}

abbrev pub seen : InputToken → input.Token
seen t = record { kind = raw_of t.kind; contextual = raw_of t.contextual_kind; joint = t.joint; whole = t.whole }
