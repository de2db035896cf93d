-- The iterator over the children gives the children.
use Rattle.std.proofs.Common.{◌≡◌, ℕ, List, sym, subst, ◌∙◌, ap}
use Rattle.std.proofs.lemmas.Iterator.{items_from_drains}
use Rattle.std.proofs.lemmas.Iterator.Adapters.{YieldsList-from_vec}
use Rattle.rowan_green.specs.Term.{Term, tree_of, FitsNode}
use Rattle.parser_input.specs.Kind.{raw_of}
use Rattle.syntax_tree.proofs.Memory.{map-same}
use Rattle.syntax_tree.proofs.elements.node.Goals as goal

pub returns-in-Ok : goal.returns-in-Ok
returns-in-Ok c =
    let made = c.in-Ok.ensures.ok in
    let run = made.1 in
    let same : made.0 ≡ c.args.children.items =
    sym (map-same made.0)
    ∙ items_from_drains made.0 (run.1.0, run.1.1, λ w. (run.0, run.1.2))
    (YieldsList-from_vec c.args.children.items c.into_iter.ensures.rest (c.into_iter.ensures.len ∙ c.args.children.ok.0)) in
    made.3 ∙ ap (λ (k : ℕ). tree_of k made.0) c.to_raw.ensures.number ∙ ap (λ (es : List Term). tree_of (raw_of c.args.kind) es) same

pub unreachable-requires : goal.unreachable-requires
unreachable-requires c =
    let refused = rw c.in-Err-TooLong.field-0-is at c.in-Err-TooLong.ensures.refused in
    refused
    (λ es run.
    let same : es ≡ c.args.children.items =
    sym (map-same es)
    ∙ items_from_drains es (run.1.0, run.1.1, λ w. (run.0, run.1.2))
    (YieldsList-from_vec c.args.children.items c.into_iter.ensures.rest (c.into_iter.ensures.len ∙ c.args.children.ok.0)) in
    let P : List Term → Type 0 = λ xs. FitsNode xs in
    subst P (sym same) c.requires)
