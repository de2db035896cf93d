-- What the code that makes jobs one by one goes by.
use Rattle.std.proofs.Common.{◌≡◌, ℕ, List, [], ◌∷◌, ◌++◌, reverse, Option, Some, None, ap, sym, ◌∙◌, subst, slice_get, true, arith}
use Rattle.std.proofs.lemmas.List.{reverse-append}
use Rattle.std.proofs.lemmas.Bool.{false_from_ne_true}
use Rattle.rowan_green.specs.Term.{Term}
use Rattle.rowan_green.specs.declared.utility_types.NodeOrToken.TheVariants.{Node, Token}
use Rattle.syntax_tree.specs.Element.{Element, term_of}
use Rattle.tree_rewrite.specs.Marked.{Sheet, reading_of, read_from}
use Rattle.tree_rewrite.specs.Rewrite.{Job, puts, terms_of, rewritten}
use Rattle.tree_rewrite.specs.Orders.{owns, is_order, put_in_order}
use Rattle.tree_rewrite.specs.Plan.{AreDeeper, AreApart}
use Rattle.tree_rewrite.proofs.OrderLemmas.{every_order}
use Rattle.tree_rewrite.specs.Fill.{AreTerms, HavePut, standing}
use Rattle.tree_rewrite.specs.Pieces.{Say}
use Rattle.tree_rewrite.specs.declared.piece.Put.{Put}

-- an element at the top of its sheet
pub standing-top : (s : Sheet) (e : Element) (o : Option Term) → term_of e ≡ o → standing s e [] o ≡ reading_of s e
standing-top s e None h = sym (ap (read_from s e) h)
standing-top s e (Some (Node t)) h = sym (ap (read_from s e) h)
standing-top s e (Some (Token l)) h = sym (ap (read_from s e) h)

-- one job more is made
pub put_more : (all : List Job) (ps qs : List Put) (p : Put) (j : Job) (js : List Job) → qs ≡ ps ++ p ∷ [] → slice_get all p.number ≡ Some j → Say p.pieces.items (terms_of (puts js) j)
    → HavePut all ps js → HavePut all qs (j ∷ js)
put_more all ps qs p j js e n c h = subst (λ l. AreTerms all l (j ∷ js)) (sym (ap reverse e ∙ reverse-append ps (p ∷ []))) (n, c, h)

-- every admitted order of a plan's jobs ends in the rewritten element
pub any_order : (e : Element) (js : List Job) (os : List ℕ) → AreDeeper js → AreApart js → is_order js os ≡ true → put_in_order e js os ≡ rewritten e (reverse js)
any_order e js os d p h =
    every_order e js os (record { apart = p; own = λ a. false_from_ne_true (owns (slice_get js a) (slice_get js a)) (λ (o : owns (slice_get js a) (slice_get js a) ≡ true). absurd (omega (arith, d a a o))) }) h
