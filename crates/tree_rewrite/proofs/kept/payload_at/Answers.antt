use Rattle.std.proofs.Common.{Option, option_map, option_and_then, sym, ◌∙◌, ap}
use Rattle.std.specs.Option.{option_copied}
use Rattle.syntax_tree.specs.Element.{Element}
use Rattle.syntax_tree.specs.Handle.{element_of}
use Rattle.tree_rewrite.specs.Change.{Change}
use Rattle.tree_rewrite.specs.Rewrite.{payload_of}
use Rattle.tree_rewrite.proofs.HeldLemmas.{payload-held, head_of, head-map}
use Rattle.tree_rewrite.proofs.kept.payload_at.Goals as goal

abbrev payload : Change → Option Element
payload d = head_of (payload_of d)

pub returns-in_err-change : goal.returns-in_err-change
returns-in_err-change c =
    ap (λ o. option_map element_of (option_copied o)) c.from_residual.ensures
    ∙ ap (option_and_then payload) (ap option_copied (sym c.in_err-change.was) ∙ c.change_at.ensures)
    ∙ sym (payload-held c.args.way.now c.args.changes.now c.requires.apart)

pub returns : goal.returns
returns c =
    ap (option_map element_of) c.first.ensures.value
    ∙ head-map element_of c.payload.result.now
    ∙ ap head_of c.payload.ensures
    ∙ ap (option_and_then payload) (ap option_copied (sym c.in_ok-change.was) ∙ c.change_at.ensures)
    ∙ sym (payload-held c.args.way.now c.args.changes.now c.requires.apart)
