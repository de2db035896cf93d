use Rattle.std.proofs.Common.{◌++◌, ap, sym, ◌∙◌, arith}
use Rattle.std.proofs.lemmas.List.{append-nil}
use Rattle.syntax_tree.proofs.Mappings.{zip-past}
use Rattle.syntax_tree.proofs.mapping.pairs_of.Goals as goal

pub returns : goal.returns
returns c =
    let past = zip-past c.args.inputs.now c.args.outputs.now c.loop-k.k (omega (arith, c.min-count.ensures, c.loop-k-test.false)) in
    sym (append-nil c.loop-k.pairs.items) ∙ ap (λ l. c.loop-k.pairs.items ++ l) (sym past) ∙ c.loop-k.invariant.paired
