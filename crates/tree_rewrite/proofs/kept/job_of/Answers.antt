-- The payload in which a kept change is made is no token.
use Rattle.std.proofs.Common.{◌≡◌, Some, sym, ◌∙◌, ap, false, option_map}
use Rattle.std.specs.Option.{option_copied}
use Rattle.std.proofs.lemmas.Bool.{false≢true}
use Rattle.rowan.specs.Place.{term_at}
use Rattle.syntax_tree.specs.Element.{is_node, term_of}
use Rattle.syntax_tree.specs.Handle.{element_of}
use Rattle.tree_rewrite.proofs.KeptLemmas.{kept_payload}
use Rattle.tree_rewrite.proofs.kept.job_of.Goals as goal

pub unreachable-requires : goal.unreachable-requires
unreachable-requires c =
    let token = c.in-Some-Token.token in
    let held = ap option_copied (sym c.in-Some.is) ∙ c.owner_of.ensures in
    let payload = ap (λ o. option_map element_of (option_copied o)) (sym c.in-Some-Token.is) ∙ c.payload_at.ensures in
    let leaf : is_node (term_of token) ≡ false = ap (λ p. is_node (term_at p)) (sym c.cursor-in-Some-Token.ensures) ∙ ap is_node c.green-leaf.ensures in
    let node = kept_payload c.args.recording.root.now.place.root c.args.recording.changes.now c.args.change.now c.in-Some.holder.now token c.requires.kept (sym held) (sym payload ∙ ap (λ x. Some (element_of x)) c.in-Some-Token.field-0-is) in
    false≢true (sym leaf ∙ node)
