-- A leaf is handed out by no entry.
use Rattle.std.proofs.Common.{sym, subst, ap, ◌∙◌}
use Rattle.rowan.specs.Place.{term_at}
use Rattle.syntax_tree.specs.Handle.{element_of}
use Rattle.syntax_tree.specs.declared.element.SyntaxElement.{SyntaxElement}
use Rattle.rust_document.specs.Payload.{IsDetached, payload_in}
use Rattle.rust_document.specs.declared.payload_entry.PayloadEntry.TheVariants.{Top}
use Rattle.rust_source.proofs.Roots.{token-no-root}
use Rattle.rust_source.proofs.source.Source.payload_root.Goals as goal

pub unreachable-requires : goal.unreachable-requires
unreachable-requires c =
    let s = c.args.self.now in
    token-no-root s.next c.args.entry s.document.grammar s.document.edition c.args.text.now c.in-Token.token c.green-leaf.result.now
    (subst (λ (x : SyntaxElement). IsDetached s.next (payload_in (Top c.args.entry) s.document.grammar s.document.edition c.args.text.now) (element_of x)) c.in-Token.is c.in_ok-root.ensures.given)
    (ap term_at (sym c.cursor.ensures) ∙ c.green-leaf.ensures)
