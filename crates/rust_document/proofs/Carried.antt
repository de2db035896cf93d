-- What holds of all that silent trees of the parser show holds of a document without messages.
use Rattle.std.proofs.Common.{◌≡◌, ℕ, Bool, true, false, ◌||◌, ◌==◌, List, [], ◌∷◌, length, take, drop, refl, sym, ap, subst, ◌∙◌, inl, inr}
use Rattle.std.proofs.lemmas.Bool.{cases_Bool}
use Rattle.rowan_green.specs.Forest.{Forest, empty, node}
use Rattle.parser_input.specs.Kinds.{ERROR, FIELD_EXPR, FLOAT_NUMBER, DOT, WHITESPACE, COMMENT}
use Rattle.parser_input.specs.Leaf.{Leaf}
use Rattle.parser_input.specs.Input.{input}
use Rattle.parser_input.specs.Lexed.{lexed}
use Rattle.parser_input.specs.declared.edition.Edition.{Edition}
use Rattle.parser_events.specs.Fits.{IsRooted}
use Rattle.parser_events.specs.Forest as forest
use Rattle.parser_events.specs.Forest.{IllegalFloat}
use Rattle.parser_events.specs.Dressed as dressed
use Rattle.parser_events.specs.Dressed.{Dressed, sayings_of}
use Rattle.parser_events.specs.Trivia.{pending}
use Rattle.parser_events.specs.Dress.{Dressing, as_dressed, put, put_each, put_pending, open_node, close_node, say, next_text, before_dot, from_dot, is_empty, number, access, dress, root, dress_root}
use Rattle.rust_grammar.specs.Rule.{source_file}
use Rattle.rust_grammar.specs.Entry.{entry}
use Rattle.rust_grammar.specs.Laws.{is_entry}
use Rattle.rust_grammar.specs.Whole.{whole}
use Rattle.rust_grammar.proofs.EntriesFit.{entry-rooted}
use Rattle.ra_parser.specs.Grammars.{is_whole}
use Rattle.ra_parser.specs.declared.grammar.Grammar.{Grammar}
use Rattle.rust_document.specs.Reading.{terms_of, root_of, forest_by, dressed_by, tree_by, tree_in, leaves_in, messages_by, messages_in, of_leaves}
use Rattle.rust_document.specs.Shape.{kinds_of, kinds_from}
use Rattle.rust_document.proofs.Shapes.{shown, beside, shown-followed}
use Rattle.rust_document.proofs.Shown.{Shows, dress-shown, say-shown, put-shown, close-shown, number_shown}
use Rattle.rust_document.proofs.Silent.{told, said, none-said, no-sayings, root-quiet, access-quiet}
use Rattle.rust_document.proofs.SourceFiles.{document-root}
use Rattle.rust_document.proofs.Kept.{Kept, leaf-kept}

-- Of trees of the parser of which `given` holds, and that tell nothing, `holds` is shown.
pub record Carried (given : forest.Forest → Bool) (holds : Forest → Bool) : Type 0 where
  pub kept : Kept holds
  pub node : (k : ℕ) (c : forest.Forest) → given (forest.Node k c forest.End) ≡ true → given c ≡ true
  pub receiver : (b : Bool) (c : forest.Forest) → given (forest.Float b c forest.End) ≡ true → given c ≡ true
  pub shown : (f : forest.Forest) (k : Forest) → Shows f k → told f ≡ 0 → given f ≡ true → holds k ≡ true

-- what is dressed from nothing given
nothing-beside : (g : Forest) → beside (shown dressed.End) g ≡ g
unfolding beside shown
nothing-beside g = refl

open-start : (s : Dressing) → (open_node s).given ≡ dressed.End
unfolding open_node
open-start s = refl

module _ (given : forest.Forest → Bool) (holds : Forest → Bool) (carried : Carried given holds) where
  kept : Kept holds
  kept = carried.kept

  -- Only leaves follow the last tree.
  leaves-hold : (ls : List Leaf) → holds (shown (as_dressed ls)) ≡ true
  unfolding shown as_dressed
  leaves-hold [] = kept.nothing
  leaves-hold (l ∷ ls) = elim (cases_Bool (l.kind == WHITESPACE || l.kind == COMMENT)) [
    | inl e ↦ rw e (leaves-hold ls)
    | inr e ↦ rw e (leaf-kept holds kept _ (shown (as_dressed ls)) (leaves-hold ls))
  ]

  each-holds : (c : ℕ) (s : Dressing) → holds (shown s.given) ≡ true → holds (shown (put_each c s).given) ≡ true
  unfolding put_each put
  each-holds c s p = subst (λ (g : Forest). holds g ≡ true) (sym (shown-followed s.given (as_dressed (take c s.left)))) (kept.both (shown s.given) (shown (as_dressed (take c s.left))) p (leaves-hold (take c s.left)))

  from-start : (c : forest.Forest) (s : Dressing) → s.given ≡ dressed.End → told c ≡ 0 → given c ≡ true → holds (shown (dress c s).given) ≡ true
  from-start c s start t e =
      let more = dress-shown c s in
      subst (λ (g : Forest). holds g ≡ true) (sym (more.same ∙ ap (λ (d : Dressed). beside (shown d) more.more) start ∙ nothing-beside more.more)) (carried.shown c more.more more.shows t e)

  start-holds : holds (shown dressed.End) ≡ true
  unfolding shown
  start-holds = kept.nothing

  pending-holds : (s : Dressing) → holds (shown s.given) ≡ true → holds (shown (put_pending s).given) ≡ true
  unfolding put_pending
  pending-holds s p = each-holds (length (pending s.left)) s p

  put-holds : (d : Dressed) (t : List ℕ) (n : ℕ) (s : Dressing) → holds (shown s.given) ≡ true → holds (shown d) ≡ true → holds (shown (put d t n s).given) ≡ true
  put-holds d t n s p q = subst (λ (g : Forest). holds g ≡ true) (sym (put-shown d t n s)) (kept.both (shown s.given) (shown d) p q)

  close-holds : (before s : Dressing) → holds (shown before.given) ≡ true → holds (shown s.given) ≡ true → holds (shown (close_node FIELD_EXPR before s).given) ≡ true
  close-holds before s p q = subst (λ (g : Forest). holds g ≡ true) (sym (close-shown FIELD_EXPR before s)) (kept.both (shown before.given) (node FIELD_EXPR (shown s.given) empty) p (kept.field (shown s.given) q))

  error-holds : (t : List ℕ) → holds (shown (dressed.Node ERROR (dressed.Leaf FLOAT_NUMBER t dressed.End) dressed.End)) ≡ true
  unfolding shown
  error-holds t = kept.wrong

  number-holds : (t : List ℕ) → holds (shown (number t)) ≡ true
  unfolding shown number number_shown
  number-holds t = kept.number

  dot-holds : (t u : List ℕ) → holds (shown (dressed.Leaf DOT t (number u))) ≡ true
  unfolding shown
  dot-holds t u = leaf-kept holds kept _ (shown (number u)) (number-holds u)

  -- a field access by a float
  access-holds : (before s : Dressing) → holds (shown before.given) ≡ true → holds (shown s.given) ≡ true → holds (shown (access before s).given) ≡ true
  unfolding access
  access-holds before s p q = elim (cases_Bool (is_empty (from_dot (next_text s.left)))) [
    | inl e ↦
        let text = next_text s.left in
        let error = dressed.Node ERROR (dressed.Leaf FLOAT_NUMBER text dressed.End) dressed.End in
        let same = subst (λ (g : Forest). holds g ≡ true) (sym (say-shown IllegalFloat s)) q in
        rw e (close-holds before (put error text 1 (say IllegalFloat s)) p (put-holds error text 1 (say IllegalFloat s) same (error-holds text)))
    | inr e ↦
        let text = next_text s.left in
        let rest = from_dot text in
        let inner = put (number (before_dot text)) text 1 s in
        rw e (put-holds (dressed.Leaf DOT (take 1 rest) (number (drop 1 rest))) [] 0 (close_node FIELD_EXPR before inner)
        (close-holds before inner p (put-holds (number (before_dot text)) text 1 s q (number-holds (before_dot text))))
        (dot-holds (take 1 rest) (drop 1 rest)))
  ]

  root-holds : (k : ℕ) (s : Dressing) → holds (shown s.given) ≡ true → holds (kinds_of (root_of (terms_of (root k s).given))).forest ≡ true
  unfolding root close_node open_node shown
  root-holds k s p = each-holds (length s.left) s p

  rooted-holds : (f : forest.Forest) (ls : List Leaf) → IsRooted f → said (dress_root f ls) ≡ 0 → given f ≡ true → holds (kinds_of (root_of (terms_of (dress_root f ls)))).forest ≡ true
  unfolding dress_root
  rooted-holds (forest.Node k c forest.End) ls rooted none e =
      let start : Dressing = record { given = dressed.End; place = 0; left = ls } in
      root-holds k (dress c start) (from-start c start refl (root-quiet k c start none) (carried.node k c e))
  rooted-holds (forest.Float false c forest.End) ls rooted none e =
      let start : Dressing = record { given = dressed.End; place = 0; left = ls } in
      let p = put_pending start in
      let receiver = dress c (open_node p) in
      let inner = from-start c (open_node p) (open-start p) (access-quiet c p none) (carried.receiver false c e) in
      root-holds FIELD_EXPR (access p (put_pending receiver)) (access-holds p (put_pending receiver) (pending-holds start start-holds) (pending-holds receiver inner))
  rooted-holds f ls rooted none e = absurd rooted

  -- THE law of documents without messages.
  pub document-holds : (grammar : Grammar) (edition : Edition) (text : List ℕ) → messages_in grammar edition text ≡ [] → given (forest_by source_file grammar edition (leaves_in edition text)) ≡ true → holds (kinds_from (tree_in grammar edition text)) ≡ true
  unfolding tree_by dressed_by messages_by is_entry
  document-holds grammar edition text none e =
      let ls = leaves_in edition text in
      let f = entry whole source_file (input (is_whole grammar) edition ls) in
      let silent = none-said (dress_root f ls) (no-sayings (sayings_of (dress_root f ls)) (of_leaves 0 (lexed edition text)) none) in
      let inner = rooted-holds f ls (entry-rooted source_file (input (is_whole grammar) edition ls) refl) silent e in
      subst (λ (k : ℕ). holds (node k (kinds_of (tree_in grammar edition text)).forest empty) ≡ true) (sym (document-root grammar edition text)) (kept.file (kinds_of (tree_in grammar edition text)).forest inner)
