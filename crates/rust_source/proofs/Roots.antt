-- What an entry reads is a tree, whose root is handed out.
use Rattle.std.proofs.Common.{◌≡◌, ℕ, nat_lt, Bool, true, false, List, [], ◌∷◌, length, chars, Some, sym, ap, ◌∙◌}
use Rattle.rustc_lexer.specs.Rows.{row, first_fit}
use Rattle.rowan_green.specs.Forest.{Tree}
use Rattle.rowan_green.specs.Leaf.{Leaf}
use Rattle.rowan_green.specs.declared.utility_types.NodeOrToken.TheVariants as terms
use Rattle.rowan.specs.Place.{term_at}
use Rattle.parser_input.specs.declared.edition.Edition.{Edition}
use Rattle.ra_parser.specs.Entries.{production_of}
use Rattle.ra_parser.specs.declared.entry_points.TopEntryPoint.{TopEntryPoint}
use Rattle.ra_parser.specs.declared.grammar.Grammar.{Grammar}
use Rattle.syntax_tree.specs.Element.{Element}
use Rattle.rust_document.specs.Payload.{IsDetached, Message, TooLong, Whole, payload_in}
use Rattle.rust_document.specs.Reading.{messages_by, tree_by}
use Rattle.rust_document.specs.Step.{MAX_TEXT}
use Rattle.rust_document.specs.declared.payload_entry.PayloadEntry.TheVariants.{Top}

no-leaf : (number : ℕ) (b c : Bool) (t : Tree) (e : Element) (l : Leaf) → IsDetached number (first_fit (row b TooLong ∷ row c Message ∷ []) (Whole t)) e → term_at e.place ≡ Some (terms.Token l) → ⊥
unfolding first_fit
no-leaf number true c t e l is stands = absurd is
no-leaf number false true t e l is stands = absurd is
no-leaf number false false t e l is stands = let z : Some (terms.Node t) ≡ Some (terms.Token l) = ap (λ (x : Element). term_at x.place) (sym is) ∙ stands in cc

-- a token is no root
pub token-no-root : (number : ℕ) (top : TopEntryPoint) (grammar : Grammar) (edition : Edition) (text : List ℕ) (e : Element) (l : Leaf) → IsDetached number (payload_in (Top top) grammar edition text) e → term_at e.place ≡ Some (terms.Token l) → ⊥
token-no-root number top grammar edition text e l is stands =
    no-leaf number (nat_lt MAX_TEXT (length text)) (nat_lt 0 (length (messages_by (production_of top) grammar edition (chars text)))) (tree_by (production_of top) grammar edition (chars text)) e l is stands
