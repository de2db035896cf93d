-- All three follow from edition, grammar and text.
use Rattle.std.proofs.Common.{chars}
use Rattle.rust_document.specs.Reading.{messages_in, tree_in}
use Rattle.rust_document.specs.Tokens.{tokens_of}
use Rattle.rust_document.proofs.laws.texts_decide.Goals as goal

pub returns : goal.returns
returns c d e same_edition same_grammar same_text =
    record {
      tokens = λ i. tokens_of (same_edition i) (chars (same_text i));
      told = λ i. messages_in (same_grammar i) (same_edition i) (chars (same_text i));
      trees = λ i. tree_in (same_grammar i) (same_edition i) (chars (same_text i));
    }
