-- The place is looked for in a tree that follows from edition, grammar and text.
use Rattle.std.proofs.Common.{[], chars}
use Rattle.rowan.specs.Pointer.{found_in}
use Rattle.rust_document.specs.Reading.{tree_in}
use Rattle.rust_document.proofs.laws.pointers_follow_texts.Goals as goal

pub returns : goal.returns
returns c d e test same_edition same_grammar same_text =
    λ i. found_in test (record { root = tree_in (same_grammar i) (same_edition i) (chars (same_text i)); up = [] })
