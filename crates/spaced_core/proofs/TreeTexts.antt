-- The leaves of a well-spaced tree's text.
use Rattle.std.proofs.Common.{◌≡◌, ℕ, zero, suc, pred, Bool, true, ◌&&◌, List, [], ◌∷◌, ◌++◌, chars, is_none, length, refl, sym, ◌∙◌, ap, subst}
use Rattle.std.specs.List.{flat_map, list_all}
use Rattle.std.proofs.lemmas.Bool.{and_from, and_parts}
use Rattle.std.proofs.lemmas.Grind.{flat_map-append}
use Rattle.std.proofs.lemmas.Str.{chars-append, chars-nil}
use Rattle.rustc_lexer.specs.Lexeme.{lexeme}
use Rattle.rustc_lexer.specs.Tokens as lexer
use Rattle.rustc_lexer.specs.Tokens.{Lexeme, tokens}
use Rattle.rustc_lexer.proofs.Cutting.{first-length}
use Rattle.rowan_green.specs.Forest.{Forest, empty, node, leaf, Tree, forest_text, tree_text}
use Rattle.rowan_green.specs.Leaf as green
use Rattle.parser_input.specs.Leaf.{leaf_of, leaves}
use Rattle.parser_input.specs.Lexed as input
use Rattle.parser_input.specs.Lexed.{Lexed, content, cut, lexed, next_leaf}
use Rattle.parser_input.specs.declared.edition.Edition.{Edition}
use Rattle.parser_input.proofs.LeavesLaw.{lexed-leaves}
use Rattle.parser_input.proofs.LexedSteps.{leaf-whole}
use Rattle.parser_events.specs.Forest as parser
use Rattle.spaced_core.specs.WellSpaced.{AreSpaced, IsWellSpaced, is_sound, leaves_of, shape}
use Rattle.spaced_core.specs.SpacedText.{AreRead, solid, text_of}
use Rattle.spaced_core.specs.Laws.{text_leaves}
use Rattle.spaced_core.proofs.CoreStarts.{begins_item, file-begins, kinds_in, kinds_of, shape-kinds}
use Rattle.spaced_core.proofs.SpacedLeaves.{spaced-go, spaced-read}
use Rattle.spaced_core.proofs.Sound.{all-whole, none-split, sound-parts}
use Rattle.spaced_core.proofs.Starts.{all-content, no-preface, starts_plain}
use Rattle.spaced_core.proofs.Words.{text-starts}

abbrev bytes_of : List green.Leaf → List ℕ
bytes_of ls = flat_map (λ l. l.text) ls

leaves-text : (f : Forest) → forest_text f ≡ bytes_of (leaves_of f)
leaves-text empty = refl
leaves-text (node k f r) =
    ap (λ (bs : List ℕ). bs ++ forest_text r) (leaves-text f)
    ∙ ap (λ (bs : List ℕ). bytes_of (leaves_of f) ++ bs) (leaves-text r)
    ∙ sym (flat_map-append (λ (l : green.Leaf). l.text) (leaves_of f) (leaves_of r))
leaves-text (leaf l r) = ap (λ (bs : List ℕ). l.text ++ bs) (leaves-text r)

chars-all : (edition : Edition) (ls : List green.Leaf) → AreSpaced edition ls → chars (bytes_of ls) ≡ text_of ls
chars-all edition [] s = chars-nil
chars-all edition (l ∷ ls) s = chars-append l.text (bytes_of ls) s.0.utf8 ∙ ap (λ (cs : List ℕ). chars l.text ++ cs) (chars-all edition ls s.2)

pub tree-chars : (edition : Edition) (t : Tree) → AreSpaced edition (leaves_of t.forest) → chars (tree_text t) ≡ text_of (leaves_of t.forest)
tree-chars edition t s = ap chars (leaves-text t.forest) ∙ chars-all edition (leaves_of t.forest) s

one-kinds : (k : ℕ) (f : parser.Forest) → kinds_in (parser.Node k f parser.End) ≡ kinds_in f ++ []
unfolding kinds_in
one-kinds k f = refl

begins-own : (ks : List ℕ) → begins_item (ks ++ []) ≡ begins_item ks
begins-own [] = refl
begins-own (k ∷ ks) = refl

-- the first solid leaf of a well-spaced tree is a keyword of an item
tree-begins : (edition : Edition) (t : Tree) → IsWellSpaced edition t → begins_item (kinds_of (solid (leaves_of t.forest))) ≡ true
tree-begins edition t w =
    ap begins_item (sym (shape-kinds t.forest))
    ∙ sym (begins-own (kinds_in (shape t.forest)))
    ∙ ap begins_item (sym (one-kinds t.kind (shape t.forest)))
    ∙ ap (λ (f : parser.Forest). begins_item (kinds_in f)) (sym w.core.has_tree)
    ∙ file-begins w.core.items

pub leaves-are : (edition : Edition) (t : Tree) → IsWellSpaced edition t → text_leaves edition t ≡ leaves edition (text_of (leaves_of t.forest))
leaves-are edition t w =
    let text = text_of (leaves_of t.forest) in
    let plain : starts_plain text ≡ true = text-starts edition (leaves_of t.forest) w.spaced (tree-begins edition t w) in
    ap (λ (cs : List ℕ). input.leaves_of (lexed edition cs)) (tree-chars edition t w.spaced)
    ∙ lexed-leaves edition text (no-preface text plain) (all-content text plain) (none-split edition _ (all-whole edition _ (spaced-go edition (leaves_of t.forest) w.spaced).sound))

pub tree-read : (edition : Edition) (t : Tree) → IsWellSpaced edition t → AreRead edition (solid (leaves_of t.forest)) (text_leaves edition t)
tree-read edition t w =
    subst (AreRead edition (solid (leaves_of t.forest))) (sym (leaves-are edition t w)) (spaced-read edition (leaves_of t.forest) w.spaced)

-- ---- messages

abbrev is_silent : Lexed → Bool
is_silent l = is_none l.message

next-silent : (edition : Edition) (l : Lexeme) → is_sound edition l ≡ true → (is_silent (next_leaf edition l) ≡ true) × ((next_leaf edition l).leaf.text ≡ l.text)
unfolding leaf_of
next-silent edition l h =
    let both = sound-parts edition l h in
    let own = leaf-whole edition l both.0 in
    (ap is_silent own ∙ both.1, ap (λ (m : Lexed). m.leaf.text) own)

cut-silent : (edition : Edition) (held : ℕ) (text : List ℕ) → list_all (is_sound edition) (lexer.cut held text) ≡ true → list_all is_silent (cut edition held text) ≡ true
unfolding cut lexer.cut
cut-silent edition zero [] h = refl
cut-silent edition (suc held) [] h = refl
cut-silent edition (suc held) (c ∷ cs) h = cut-silent edition held cs h
cut-silent edition zero (c ∷ cs) h =
    let l = lexer.first_lexeme (c ∷ cs) in
    let rest = pred (lexeme (c ∷ cs)).taken in
    let both = and_parts (is_sound edition l) (list_all (is_sound edition) (lexer.cut rest cs)) h in
    let next = next-silent edition l both.0 in
    let n : pred (length (next_leaf edition l).leaf.text) ≡ rest = ap (λ (t : List ℕ). pred (length t)) next.1 ∙ ap pred (first-length (c ∷ cs)) in
    ap (λ (k : ℕ). is_silent (next_leaf edition l) && list_all is_silent (cut edition k cs)) n ∙ and_from _ _ next.0 (cut-silent edition rest cs both.1)

pub tree-silent : (edition : Edition) (t : Tree) → IsWellSpaced edition t → list_all (λ l. is_none l.message) (lexed edition (chars (tree_text t))) ≡ true
unfolding lexed tokens
tree-silent edition t w =
    let text = text_of (leaves_of t.forest) in
    let plain : starts_plain text ≡ true = text-starts edition (leaves_of t.forest) w.spaced (tree-begins edition t w) in
    ap (λ (cs : List ℕ). list_all is_silent (lexed edition cs)) (tree-chars edition t w.spaced)
    ∙ ap (λ (p : List Lexed). list_all is_silent (p ++ cut edition 0 (content text))) (no-preface text plain)
    ∙ ap (λ (cs : List ℕ). list_all is_silent (cut edition 0 cs)) (all-content text plain)
    ∙ cut-silent edition 0 text (spaced-go edition (leaves_of t.forest) w.spaced).sound
