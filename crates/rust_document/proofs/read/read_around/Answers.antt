-- A known tree is the reading's, and the messages are those of the new text.
use Rattle.std.proofs.Common.{subst}
use Rattle.parser_input.specs.Lexed.{leaves_of}
use Rattle.parser_input.specs.Stored.{Whole}
use Rattle.ra_parser.specs.declared.entry_points.TopEntryPoint.TheVariants.{SourceFile}
use Rattle.rust_document.specs.TreeBuilt.{AreMessages}
use Rattle.rust_document.proofs.Whole.{of-each}
use Rattle.rust_document.proofs.read.read_around.Goals as goal

pub returns : goal.returns
returns c = of-each c.read_built.result _ _ (λ r own grammar are root.
    own SourceFile grammar c.args.output.now.steps are root
    (subst (λ (w : Whole). AreMessages c.args.output.now.steps (leaves_of w.leaves) c.in_ok-errors.errors.items) c.requires.whole c.in_ok-errors.ensures)) c.read_built.ensures
