use Rattle.std.proofs.lemmas.Iterator.{items_from_collect}
use Rattle.std.proofs.lemmas.Iterator.Consumers.{YieldsList-from_first}
use Rattle.rustc_lexer.specs.Tokens.{token_list}
use Rattle.std.proofs.Common.{chars}
use Rattle.leaves_dump.proofs.tests.known.tokens_of.Goals as goal

pub returns : goal.returns
returns c =
    items_from_collect c.collect.result c.collect.ensures.ran (YieldsList-from_first (λ t. t) (λ t. t) (token_list (chars c.args.text.now)) c.tokenize.ensures)
