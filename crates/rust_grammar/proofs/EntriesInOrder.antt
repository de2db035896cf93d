-- The tree of an entry stands over all tokens, in order, as it is spelled.
use Rattle.std.proofs.Common.{◌≡◌, Bool, true, false, List, [], ◌∷◌, Option, Some, None, refl, sym, ap, ◌∙◌, if◌then◌else◌, true≢false}
use Rattle.parser_input.specs.Kinds.{ERROR}
use Rattle.parser_input.specs.Input.{Token}
use Rattle.parser_events.specs.Forest as forest
use Rattle.parser_events.specs.Forest.{Forest, Message, UnexpectedTokens, ◌then◌}
use Rattle.rust_grammar.specs.Rule.{Production, source_file, macro_items, macro_statements}
use Rattle.rust_grammar.specs.Meaning.{Reading, meaning, sees, look_of}
use Rattle.rust_grammar.specs.Entry.{leaves, is_used_up, takes_all, with_message, entry}
use Rattle.rust_grammar.specs.Notation.{wanted}
use Rattle.rust_grammar.specs.Spelled.{then_after, tokens_after}
use Rattle.rust_grammar.specs.Whole.{whole}
use Rattle.rust_grammar.specs.Begun.{asks_nothing, IsBegun}
use Rattle.rust_grammar.proofs.Known.{if-second}
use Rattle.rust_grammar.proofs.Spelling.{IsInOrder, more-in-order}
use Rattle.rust_grammar.proofs.InOrder.{productions-in-order, leaves-in-order}
use Rattle.rust_grammar.proofs.Moved.{lists-take-all}

pub used-up : (ts : List Token) → is_used_up ts ≡ true → ts ≡ []
unfolding is_used_up
used-up [] e = refl
used-up (t ∷ ts) e = absurd (true≢false (sym e))

pub lists-begin : (x : Production) → takes_all x ≡ true → asks_nothing x ≡ true
unfolding takes_all asks_nothing
lists-begin source_file e = refl
lists-begin macro_items e = refl
lists-begin macro_statements e = refl
lists-begin x e = absurd (true≢false (sym e))

-- one of two forests
pub chosen-forest : (P : Forest → Type 0) (b : Bool) (f g : Forest) → (b ≡ true → P f) → (b ≡ false → P g) → P (if b then f else g)
chosen-forest P true f g p q = p refl
chosen-forest P false f g p q = q refl

-- trees after a message, if there is one
pub with-message : (P : Forest → Type 0) (m : Option Message) (f : Forest) → P f → ((n : Message) → P (forest.Said n f)) → P (with_message m f)
unfolding with_message
with-message P None f p q = p
with-message P (Some n) f p q = q n

-- these trees stand over all of these tokens, in order
abbrev IsAll : List Token → Forest → Type 0
IsAll ts f = tokens_after f ts ≡ Some []

from : List Token → Reading
from ts = record { given = forest.End; rest = ts }

begins-in-order : (ts : List Token) → IsInOrder ts (from ts)
unfolding from tokens_after
begins-in-order ts = refl

read-in-order : (x : Production) (ts : List Token) → IsBegun x false (from ts) → IsInOrder ts (meaning whole x false (from ts))
read-in-order x ts b = productions-in-order x false (from ts) ts b (begins-in-order ts)

all-read : (x : Production) (ts : List Token) → IsBegun x false (from ts) → (meaning whole x false (from ts)).rest ≡ [] → IsAll ts (meaning whole x false (from ts)).given
all-read x ts b e = read-in-order x ts b ∙ ap (λ (us : List Token). Some us) e

-- THE law of entries.
pub entries-in-order : (x : Production) (ts : List Token) → IsAll ts (entry whole x ts)
unfolding entry tokens_after then_after from
entries-in-order x ts =
    chosen-forest (IsAll ts) (takes_all x) _ _
    (λ e. all-read x ts (list-begun x ts (lists-begin x e)) (lists-take-all x e false (from ts)))
    (λ e. chosen-forest (IsAll ts) (sees false (from ts) (look_of whole x)) _ _
    (λ f.
    let b : IsBegun x false (from ts) = if-second (asks_nothing x) (sees false (from ts) (look_of whole x)) f in
    let s = meaning whole x false (from ts) in
    chosen-forest (IsAll ts) (is_used_up s.rest) _ _
    (λ u. all-read x ts b (used-up s.rest u))
    (λ u. rw (more-in-order s (forest.Said UnexpectedTokens (leaves s.rest)) ts [] (read-in-order x ts b) (leaves-in-order s.rest)) refl))
    (λ f. with-message (λ (g : Forest). IsAll ts (forest.Node ERROR g forest.End)) (wanted x) (leaves ts) (rw (leaves-in-order ts) refl) (λ m. rw (leaves-in-order ts) refl)))
  where
    list-begun : (x : Production) (ts : List Token) → asks_nothing x ≡ true → (if asks_nothing x then true else sees false (from ts) (look_of whole x)) ≡ true
    list-begun x ts e = rw e refl
