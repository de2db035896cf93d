-- What is written and what is left are the text.
use Rattle.std.proofs.Common.{◌≡◌, ◌+◌, ◌*◌, ◌++◌}
use Rattle.std.specs.Prelude.{string_bytes}
use Rattle.rowan_green.specs.Forest.{forest_count, tree_text}
use Rattle.rowan_green.specs.Term.{forest_of, texts_of}
use Rattle.rust_document.proofs.OpenTexts.{open_text, open_steps}
use Rattle.rust_document.proofs.tree_text.text_of.Given as goal

abbrev pub invariant-elements : goal.invariant-elements
invariant-elements l = string_bytes l.text ++ (texts_of l.children ++ open_text l.above.items) ≡ tree_text l.fn.tree

abbrev pub decreases-elements : goal.decreases-elements
decreases-elements l = 2 * forest_count (forest_of l.children) + open_steps l.above.items
