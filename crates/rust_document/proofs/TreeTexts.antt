-- The leaves of a text's tree are the text.
use Rattle.std.proofs.Common.{◌≡◌, ℕ, ◌+◌, ◌-◌, Bool, true, false, not, ◌||◌, nat_lt, List, [], ◌∷◌, ◌++◌, length, take, drop, chars, refl, sym, ◌∙◌, ap, append-nil, eq-eqb, arith}
use Rattle.std.specs.Prelude.{Option, Some, slice_range}
use Rattle.std.specs.Str.{IsUtf8}
use Rattle.std.proofs.Math.Utf8.{encodes}
use Rattle.std.proofs.lemmas.Str.{encodes-chars, encodes-append}
use Rattle.std.proofs.lemmas.Bool.{le-ltb}
use Rattle.rustc_lexer.specs.Rows.{row, first_fit}
use Rattle.parser_input.specs.Lexed.{Lexed, lexed, leaves_of}
use Rattle.parser_input.proofs.LexedTexts.{leaves-joined}
use Rattle.std.specs.List.{flat_map}
use Rattle.rowan_green.specs.Leaf as green
use Rattle.rowan_green.specs.Forest.{Forest, empty, node, Tree, forest_text, tree_text, same_tree}
use Rattle.rowan_green.specs.Same.{same_tree-Decides}
use Rattle.rowan_green.specs.declared.utility_types.NodeOrToken.TheVariants.{Token}
use Rattle.rowan_green.specs.Term.{Term}
use Rattle.parser_input.specs.Leaf as leaves
use Rattle.parser_input.specs.declared.edition.Edition.{Edition}
use Rattle.parser_events.specs.Forest as forest
use Rattle.parser_events.specs.Dressed as dressed
use Rattle.parser_events.specs.Dressed.{Dressed, text_of}
use Rattle.parser_input.specs.Kinds.{FIELD_EXPR}
use Rattle.parser_events.specs.Dress.{Dressing, dress, dress_root, joined, as_dressed, put, put_each, put_pending, open_node, close_node, access, root}
use Rattle.parser_events.proofs.Texts.{text-is-text}
use Rattle.rowan.specs.Place.{term_by, start_by, text_in}
use Rattle.rowan.proofs.PlaceLaws.{texts-slices}
use Rattle.syntax_tree.specs.Element.{Way, Element}
use Rattle.ra_parser.specs.declared.grammar.Grammar.{Grammar}
use Rattle.rust_document.specs.Open.{IsOpened}
use Rattle.rust_document.specs.Reading.{terms_of, root_of, dressed_by, tree_by, tree_in, leaves_in}
use Rattle.rust_grammar.specs.Rule.{Production, source_file}
use Rattle.tree_rewrite.proofs.MarkedLemmas.{forest_in-blank}
use Rattle.syntax_tree.specs.declared.element.SyntaxElement.TheVariants as handles
use Rattle.tree_rewrite.proofs.GreenLemmas.{fits-whole}
use Rattle.tree_rewrite.proofs.FitLemmas.{new-to}
use Rattle.tree_rewrite.specs.Marked.{blank, reading_of}
use Rattle.tree_rewrite.specs.Pieces.{start}
use Rattle.tree_rewrite.specs.Growing.{NewFit}
use Rattle.syntax_editor.specs.Editing.{untouched}
use Rattle.rust_document.specs.Rewrite.{rewritten}
use Rattle.rust_document.specs.Step.{State, MAX_TEXT, present, root_element, bare_tree, is_faithful, Accepted, Foreign, Intersecting, MissingMapping, TooLong, Unfaithful}
use Rattle.rust_document.specs.Laws.{IsKept}

-- the text of terms is the text of what was dressed, in bytes
terms-text : (d : Dressed) → forest_text (terms_of d) ≡ encodes (text_of d)
terms-text dressed.End = refl
terms-text (dressed.Leaf k t d) = ap (λ (bs : List ℕ). encodes t ++ bs) (terms-text d) ∙ sym (encodes-append t (text_of d))
terms-text (dressed.Said m p d) = terms-text d
terms-text (dressed.Node k c d) =
    ap (λ (bs : List ℕ). bs ++ forest_text (terms_of d)) (terms-text c) ∙ ap (λ (bs : List ℕ). encodes (text_of c) ++ bs) (terms-text d) ∙ sym (encodes-append (text_of c) (text_of d))

-- leaves alone make an error of them all
leaves-root : (ls : List leaves.Leaf) → tree_text (root_of (terms_of (as_dressed ls))) ≡ forest_text (terms_of (as_dressed ls))
unfolding as_dressed
leaves-root [] = refl
leaves-root (l ∷ ls) = refl

single : (k : ℕ) (f : Forest) → tree_text (root_of (node k f empty)) ≡ forest_text (node k f empty)
single k f = sym (append-nil (forest_text f))

root-single : (k : ℕ) (s : Dressing) → tree_text (root_of (terms_of (root k s).given)) ≡ forest_text (terms_of (root k s).given)
unfolding root close_node open_node
root-single k s = single k (terms_of (put_each (length s.left) s).given)

abbrev at_start : List leaves.Leaf → Dressing
at_start ls = record { given = dressed.End; place = 0; left = ls }

-- what an entry gives is one node
root-text : (f : forest.Forest) (ls : List leaves.Leaf) → tree_text (root_of (terms_of (dress_root f ls))) ≡ forest_text (terms_of (dress_root f ls))
unfolding dress_root put_each put
root-text forest.End ls = leaves-root (take (length ls) ls)
root-text (forest.Leaf k n f) ls = leaves-root (take (length ls) ls)
root-text (forest.Said m f) ls = leaves-root (take (length ls) ls)
root-text (forest.ErrorLeaf m k f) ls = leaves-root (take (length ls) ls)
root-text (forest.Node k c f) ls = root-single k (dress c (at_start ls))
root-text (forest.Float e c f) ls = root-single FIELD_EXPR (access (put_pending (at_start ls)) (put_pending (dress c (open_node (put_pending (at_start ls))))))

joined-leaves : (ls : List Lexed) → joined (leaves_of ls) ≡ flat_map (λ l. l.leaf.text) ls
unfolding joined
joined-leaves [] = refl
joined-leaves (l ∷ ls) = ap (λ (cs : List ℕ). l.leaf.text ++ cs) (joined-leaves ls)

-- the leaves of the tree, joined, are the text
pub tree-text-by : (x : Production) (grammar : Grammar) (edition : Edition) (text : List ℕ) → tree_text (tree_by x grammar edition text) ≡ encodes text
unfolding tree_by dressed_by
tree-text-by x grammar edition text =
    root-text _ (leaves_in edition text)
    ∙ terms-text (dress_root _ (leaves_in edition text))
    ∙ ap encodes (text-is-text _ (leaves_in edition text) ∙ joined-leaves (lexed edition text) ∙ leaves-joined edition text)

pub tree-text : (grammar : Grammar) (edition : Edition) (text : List ℕ) → tree_text (tree_in grammar edition text) ≡ encodes text
tree-text = tree-text-by source_file

-- the present tree has the document's text
pub present-text : (d : State) → IsUtf8 d.text → tree_text (present d) ≡ d.text
present-text d u = tree-text d.grammar d.edition (chars d.text) ∙ encodes-chars d.text u

slice_there : (text : List ℕ) (start : ℕ) (o : Option Term) (l : green.Leaf) → o ≡ Some (Token l) → text_in o ≡ slice_range text start (start + length (text_in o)) → take (length l.text) (drop start text) ≡ l.text
slice_there text start o l is h =
    let len : start + length l.text - start ≡ length l.text = omega arith in
    let there = ap text_in is in
    sym (sym there ∙ h ∙ ap (λ (xs : List ℕ). slice_range text start (start + length xs)) there ∙ ap (λ (k : ℕ). take k (drop start text)) len)

pub leaf-slice : (d : State) (way : Way) (l : green.Leaf) → IsUtf8 d.text → term_by (present d) way ≡ Some (Token l) → take (length l.text) (drop (start_by (present d) way) d.text) ≡ l.text
leaf-slice d way l u h =
    ap (λ (t : List ℕ). take (length l.text) (drop (start_by (present d) way) t)) (sym (present-text d u))
    ∙ slice_there (tree_text (present d)) (start_by (present d) way) (term_by (present d) way) l h (texts-slices (record { root = present d; up = way }))

same-itself : (t : Tree) → same_tree t t ≡ true
same-itself t = (same_tree-Decides t t).1 refl

-- The tree of a document is faithful to its text.
faithful-itself : (d : State) → IsUtf8 d.text → is_faithful d.grammar d.edition (present d) ≡ true
faithful-itself d u =
    ap (λ (bs : List ℕ). same_tree (bare_tree (present d)) (bare_tree (tree_in d.grammar d.edition (chars bs)))) (present-text d u) ∙ same-itself (bare_tree (present d))

rows-false : (f i m l u : Bool) → f ≡ false → i ≡ false → m ≡ false → l ≡ false → u ≡ false → first_fit (row f Foreign ∷ row i Intersecting ∷ row m MissingMapping ∷ row l TooLong ∷ row u Unfaithful ∷ []) Accepted ≡ Accepted
unfolding first_fit
rows-false f i m l u p q r s t = rw (p, q, r, s, t) refl

-- where nothing is recorded the tree stays
kept-tree : (d : State) → rewritten (untouched (root_element d)) ≡ present d
kept-tree d = λ i. record { kind = (present d).kind; forest = forest_in-blank (root_element d) [] 0 (present d).forest i }

kept-text : (d : State) → IsUtf8 d.text → tree_text (rewritten (untouched (root_element d))) ≡ d.text
kept-text d u = ap tree_text (kept-tree d) ∙ present-text d u

-- nor is a node new there
none-new : (e : Element) → NewFit (reading_of blank e)
none-new e = (fits-whole (handles.Node e) start (tt, tt)).0

short : (a b : Bool) → a ≡ false → b ≡ true → (a || not b) ≡ false
short a b p q = rw (p, q) refl

pub untouched-kept : (d : State) → IsUtf8 d.text → IsOpened d.text → IsKept d
untouched-kept d u o = record {
  accepted =
      rows-false _ _ _ _ _
      (ap (λ (b : Bool). not b || not (same_tree (present d) (present d))) (eq-eqb d.number d.number refl) ∙ ap not (same-itself (present d)))
      refl
      refl
      (short _ _ (ap (λ (bs : List ℕ). nat_lt MAX_TEXT (length bs)) (kept-text d u) ∙ le-ltb MAX_TEXT (length d.text) o) (new-to (reading_of blank (root_element d)) (none-new (root_element d))))
      (ap (λ (t : Tree). not (is_faithful d.grammar d.edition t)) (kept-tree d) ∙ ap not (faithful-itself d u));
  same_text = kept-text d u;
}
