use Rattle.std.proofs.Common.{◌≡◌, refl, ◌∙◌, arith}
use Rattle.document_rows.specs.Rows.{element_row}
use Rattle.document_rows.proofs.Walks.{root-len, root-rows}
use Rattle.document_rows.proofs.tree.tree_rows.Goals as goal

pub push_levels-requires : goal.push_levels-requires
push_levels-requires c =
    let len = root-len c.args.root.now _ _ _ c.new-levels.ensures.items c.in_ok-push-2.ensures.items c.children.ensures.children in
    omega (arith, len, c.text_len.ensures, c.from-2.ensures, c.from-2.type_inv)

pub returns : goal.returns
returns c =
    let kind = c.from.ensures ∙ c.kind.ensures in
    let end = c.from-2.ensures ∙ c.text_len.ensures in
    let row : record { kind = c.from.result; depth = 0; start = 0; end = c.from-2.result } ≡ element_row c.args.root.now.kind 0 0 _ = rw (kind, end) refl in
    root-rows c.args.root.now _ _ _ _ _ _ _ c.new-levels.ensures.items c.in_ok-push-2.ensures.items c.children.ensures.children
    c.new-rows.ensures.items c.in_ok-push.ensures.items row c.in_ok-push_levels.ensures
