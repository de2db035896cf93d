use Rattle.std.proofs.Common.{◌∙◌, ◌<◌, [], sym, ap, arith, length}
use Rattle.parser_input.specs.Kind.{raw_of}
use Rattle.parser_input.specs.Kinds.{EOF}
use Rattle.parser_input.specs.Lexed.{Lexed, quiet}
use Rattle.parser_input.specs.Stored.{Whole, leaf_at}
use Rattle.parser_input.specs.declared.lexed_str.StoredLeaf.{StoredLeaf}
use Rattle.parser_input.proofs.LexedSteps.{seen-at, seen-length}
use Rattle.parser_input.proofs.lexed_str.LexedStr.kind.Goals as goal

pub index-requires : goal.index-requires
index-requires c =
    let s = c.self.inside in
    omega (arith, c.requires, ap (λ (w : Whole). length w.leaves) c.self.view_is, seen-length s.text.now 0 s.leaves.items)

pub returns : goal.returns
returns c =
    let s = c.self.inside in
    let items = s.leaves.items in
    let i = c.args.i in
    let p = c.index.result.now in
    let long : i < length items = omega (arith, c.requires, ap (λ (w : Whole). length w.leaves) c.self.view_is, seen-length s.text.now 0 items) in
    ap (λ (x : StoredLeaf). raw_of x.kind) c.index.ensures
    ∙ sym (ap (λ (x : Lexed). x.leaf.kind) (seen-at s.text.now 0 items i p (quiet EOF []) long))
    ∙ ap (λ (w : Whole). (leaf_at w.leaves i).leaf.kind) c.self.view_is
