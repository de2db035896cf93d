-- What is written and what is left are the text.
use Rattle.std.proofs.Common.{◌≡◌, ◌+◌, ◌*◌, ◌++◌}
use Rattle.std.specs.Prelude.{string_bytes}
use Rattle.rowan_green.specs.Forest.{forest_count}
use Rattle.rowan_green.specs.Term.{forest_of}
use Rattle.rust_document.proofs.OpenTexts.{open_steps}
use Rattle.renamer.specs.Renamed.{renamed_text}
use Rattle.kept_document.proofs.RenamedTexts.{open_shown, shown}
use Rattle.kept_document.proofs.tree_text.renamed_text.Given as goal

abbrev pub invariant-elements : goal.invariant-elements
invariant-elements l =
    string_bytes l.text ++ (shown l.old l.new l.children ++ open_shown l.old l.new l.above.items) ≡ renamed_text l.old l.new l.fn.tree

abbrev pub decreases-elements : goal.decreases-elements
decreases-elements l = 2 * forest_count (forest_of l.children) + open_steps l.above.items
