use Rattle.spaced_core.proofs.Examples.{punctuation-spelled}
use Rattle.spaced_core.proofs.SingleTokens.{single-spelled}
use Rattle.spaced_core.proofs.laws.tokens_are_spelled.Goals as goal

pub returns-clause-punctuation : goal.returns-clause-punctuation
returns-clause-punctuation c = punctuation-spelled

pub returns-clause-single : goal.returns-clause-single
returns-clause-single c = single-spelled
