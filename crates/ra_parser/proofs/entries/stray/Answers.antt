use Rattle.std.proofs.Common.{[], ◌∷◌}
use Rattle.parser_events.specs.Marked.{End, marked}
use Rattle.parser_events.specs.Seen.{message_of}
use Rattle.rust_grammar.specs.Meaning.{read, say}
use Rattle.rust_productions.specs.declared.condition.Condition.TheVariants.{On}
use Rattle.ra_parser.specs.Entries.{with_leaves}
use Rattle.ra_parser.proofs.Taking.{holds-strayed}
use Rattle.ra_parser.proofs.entries.stray.Goals as goal

pub complete-requires : goal.complete-requires
complete-requires c = c.take_rest.ensures.takes.innermost _ ((c.error.ensures.reads On).does.innermost _ c.requires.marker)

pub returns-clause-tree : goal.returns-clause-tree
unfolding read
returns-clause-tree c s e h =
    let m = message_of c.args.message in
    let told = (c.error.ensures.reads On).does in
    holds-strayed c.complete.new.p.nodes m s
    (c.complete.ensures.closes.nodes (marked (with_leaves (say m s)).given) End []
    (c.take_rest.ensures.takes.nodes (say m s) (End ∷ []) (told.rest s e) (told.nodes s (End ∷ []) e h)))
