-- A token that is put is the one that the given text is.
use Rattle.std.proofs.Common.{◌≡◌, ℕ, Bool, true, false, List, [], ◌∷◌, chars, refl, ap, ◌∙◌, Option, Some, None}
use Rattle.std.specs.Str.{IsUtf8}
use Rattle.std.proofs.Math.Utf8.{encodes}
use Rattle.std.proofs.lemmas.Str.{encodes-chars}
use Rattle.rustc_lexer.specs.Rows.{row, first_fit}
use Rattle.rowan_green.specs.Leaf.{Leaf}
use Rattle.rowan_green.specs.declared.utility_types.NodeOrToken.TheVariants.{Token}
use Rattle.parser_input.specs.Lexed.{Lexed}
use Rattle.parser_input.specs.Single.{single}
use Rattle.parser_input.specs.declared.edition.Edition.{Edition}
use Rattle.parser_input.proofs.LexedTexts.{single-text}
use Rattle.syntax_tree.specs.Element.{Element, term_of}
use Rattle.rust_document.specs.Payload.{Payload, TooLong, Message, One, only, token_payload, IsDetached}
use Rattle.rust_document.specs.Seen.{in_bytes}

abbrev pub HasText : Edition → List ℕ → Element → Type 0
HasText edition text e = (l : Leaf) × (term_of e ≡ Some (Token l)) × (l.text ≡ text) × (token_payload edition text ≡ One l)

abbrev IsToken : Payload → List ℕ → Element → Type 0
IsToken p text e = (l : Leaf) × (term_of e ≡ Some (Token l)) × (l.text ≡ text) × (p ≡ One l)

by-tests :
    (edition : Edition) (text : List ℕ) (number : ℕ) (e : Element) (a b : Bool) (o : Option Lexed) → IsUtf8 text → single edition (chars text) ≡ o
    → IsDetached number (first_fit (row a TooLong ∷ row b Message ∷ []) (only o)) e → IsToken (first_fit (row a TooLong ∷ row b Message ∷ []) (only o)) text e
unfolding first_fit
by-tests edition text number e true b o u is h = absurd h
by-tests edition text number e false true o u is h = absurd h
by-tests edition text number e false false None u is h = absurd h
by-tests edition text number e false false (Some l) u is h =
    (in_bytes l.leaf, ap term_of h, ap (λ (cs : List ℕ). encodes cs) (single-text edition (chars text) l is) ∙ encodes-chars text u, refl)

pub has-text : (edition : Edition) (text : List ℕ) (number : ℕ) (e : Element) → IsUtf8 text → IsDetached number (token_payload edition text) e → HasText edition text e
has-text edition text number e u h = by-tests edition text number e _ _ (single edition (chars text)) u refl h
