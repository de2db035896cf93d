-- The leaves of a text are read as the grammar says.
use Rattle.std.proofs.Common.{List, chars, length, sym, ap, subst, ◌∙◌, arith}
use Rattle.std.proofs.Math.Utf8.{encodes}
use Rattle.parser_input.specs.Lexed.{leaves_of}
use Rattle.parser_input.specs.Stored.{Whole}
use Rattle.parser_events.specs.Dress.{joined}
use Rattle.parser_events.specs.Steps.{Step, steps}
use Rattle.ra_parser.specs.Entries.{production_of}
use Rattle.rust_document.specs.Reading.{forest_by, leaves_in}
use Rattle.rust_document.specs.TreeBuilt.{IsBuilt}
use Rattle.rust_document.proofs.Sizes.{bytes-all, count-all}
use Rattle.rust_document.proofs.Whole.{are-tree, of-each, whole-tree}
use Rattle.rust_document.proofs.read.read_leaves.Goals as goal

pub build-requires : goal.build-requires
build-requires c =
    let edition = c.args.lexed.now.edition in
    let top = c.requires.parsed.0 in
    let grammar = c.requires.parsed.1.0 in
    are-tree top grammar edition c.args.lexed.now.leaves c.args.output.now.steps
    (c.requires.parsed.1.1 ∙ ap (λ (w : Whole). steps (forest_by (production_of top) grammar edition (leaves_of w.leaves))) (sym c.requires.whole))
    (omega (arith, ap (λ (w : Whole). length (encodes (joined (leaves_of w.leaves)))) c.requires.whole, bytes-all edition c.args.text.now c.utf8.text, c.requires.fits))
    (omega (arith, ap (λ (w : Whole). length w.leaves) c.requires.whole, count-all edition c.args.text.now c.utf8.text, c.requires.fits))

pub returns : goal.returns
returns c = of-each c.read_built.result _ _ (λ r own top grammar are.
    let edition = c.args.lexed.now.edition in
    let text = chars c.args.text.now in
    let b = c.in_ok-built.built in
    let made = subst (λ (w : Whole). IsBuilt c.args.output.now.steps (leaves_of w.leaves) b.root b.errors.items) c.requires.whole c.in_ok-built.ensures in
    let read = subst (λ (ss : List Step). IsBuilt ss (leaves_in edition text) b.root b.errors.items) are made in
    own top grammar c.args.output.now.steps are (whole-tree top grammar edition text b.root b.errors.items read) made.errors_are) c.read_built.ensures
