-- A leaf's bytes are those of its text.
use Rattle.std.proofs.Common.{◌∙◌, [], ap, arith, length}
use Rattle.parser_input.specs.Kinds.{EOF}
use Rattle.parser_input.specs.Lexed.{quiet}
use Rattle.parser_input.specs.Stored.{Whole}
use Rattle.parser_input.specs.declared.lexed_str.StoredLeaf.{StoredLeaf}
use Rattle.parser_input.proofs.LexedSteps.{seen-length}
use Rattle.parser_input.proofs.Readings.{end-at, offset-more}
use Rattle.parser_input.proofs.lexed_str.LexedStr.text_range.Goals as goal

pub index-requires : goal.index-requires
index-requires c =
    let s = c.self.inside in
    omega (arith, c.requires, ap (λ (w : Whole). length w.leaves) c.self.view_is, seen-length s.text.now 0 s.leaves.items)

pub returns-clause-end : goal.returns-clause-end
returns-clause-end c =
    let s = c.self.inside in
    ap (λ (x : StoredLeaf). x.end) c.index.ensures
    ∙ end-at s.text.now s.leaves.items c.args.self.now.leaves c.args.i c.index.result.now (ap (λ (w : Whole). w.leaves) c.self.view_is) c.self.invariant.2 c.self.invariant.0 c.requires
    ∙ offset-more c.args.self.now.leaves c.args.i (quiet EOF []) c.requires
