-- Well-spaced rewrites are accepted.
use Rattle.std.proofs.Common.{◌≡◌, ℕ, true, false, not, ◌||◌, ◌==◌, chars, encode_utf8, length, List, refl, sym, ◌∙◌, ap, subst, inl, inr, ◌+◌, ◌∷◌, ◌++◌, [], Option, None, Some, is_none}
use Rattle.std.specs.List.{list_all}
use Rattle.std.proofs.lemmas.Bool.{and_parts, cases_Bool}
use Rattle.rustc_lexer.specs.Characters.{size}
use Rattle.rustc_lexer.specs.Rows.{first_fit}
use Rattle.rowan_green.specs.Forest.{Forest, empty, node, leaf, Tree, same_tree, tree_text}
use Rattle.rowan_green.specs.Same.{same_tree-Decides}
use Rattle.parser_input.specs.Kinds.{COMMENT, WHITESPACE}
use Rattle.parser_input.specs.Leaf.{Leaf}
use Rattle.parser_input.specs.Lexed.{Lexed, lexed}
use Rattle.parser_input.specs.declared.message.Message as leaves
use Rattle.parser_input.specs.declared.edition.Edition.{Edition}
use Rattle.parser_events.specs.Forest as forest
use Rattle.parser_events.specs.Dressed.{Dressed}
use Rattle.parser_events.specs.Dress.{Dressing, close_node, dress, dress_root, open_node, put_each, root}
use Rattle.plain_names.specs.Trees.{dressed_forest, forest_by}
use Rattle.syntax_editor.specs.Editing.{Editing}
use Rattle.spaced_core.specs.WellSpaced.{IsWellSpaced, shape}
use Rattle.spaced_core.specs.Laws.{shape_of, text_leaves, without_trivia}
use Rattle.spaced_core.proofs.CoreInputs.{core-input}
use Rattle.spaced_core.proofs.Dressed.{tree-dressed}
use Rattle.spaced_core.proofs.TreeTexts.{tree-silent}
use Rattle.ra_parser.specs.declared.grammar.Grammar.{Grammar}
use Rattle.rust_document.specs.Commit.{RefusesCommit}
use Rattle.rust_document.specs.Reading.{of_leaves, of_leaf, root_of, tree_in}
use Rattle.rust_document.specs.Rewrite.{bare, rewritten}
use Rattle.rust_document.specs.Step.{Accepted, State, Verdict, bare_tree, is_faithful, verdict}
use Rattle.rust_document.specs.WellSpaced.{IsWellSpacedRewrite, WellSpacedRewritesAreAccepted, WellSpacedTextsHaveNoMessages}
use Rattle.rust_document.specs.declared.error.CommitError.{CommitError}
use Rattle.rust_document.proofs.CoreTexts.{core-read}
use Rattle.rust_document.proofs.RenamedReadings.{terms-mapped}
use Rattle.rust_document.proofs.Verdicts.{parts, verdict-is}

-- the two words for a forest without whitespace and comments
bare-same : (f : Forest) → bare f ≡ without_trivia f
bare-same empty = refl
bare-same (node k f r) = ap (λ (g : Forest). node k g (bare r)) (bare-same f) ∙ ap (λ (g : Forest). node k (without_trivia f) g) (bare-same r)
bare-same (leaf l r) = elim (cases_Bool (l.kind == WHITESPACE || l.kind == COMMENT)) [
  | inl h ↦ rw h (bare-same r)
  | inr h ↦ rw h (ap (λ (g : Forest). leaf l g) (bare-same r))
]

-- what is dressed of one tree is one node
node-bare : (k : ℕ) (f : Forest) → bare_tree (root_of (node k f empty)) ≡ root_of (without_trivia (node k f empty))
node-bare k f = ap (λ (g : Forest). let t : Tree = record { kind = k; forest = g } in t) (bare-same f)

abbrev dressed_of : Dressed → Forest
dressed_of d = dressed_forest encode_utf8 d

root-bare : (k : ℕ) (s : Dressing) → bare_tree (root_of (dressed_of (root k s).given)) ≡ root_of (without_trivia (dressed_of (root k s).given))
unfolding root close_node open_node
root-bare k s = node-bare k (dressed_of (put_each (length s.left) s).given)

dressed-bare : (k : ℕ) (c : forest.Forest) (ls : List Leaf) → bare_tree (root_of (forest_by encode_utf8 (forest.Node k c forest.End) ls)) ≡ root_of (without_trivia (forest_by encode_utf8 (forest.Node k c forest.End) ls))
unfolding dress_root
dressed-bare k c ls = root-bare k (dress c _)

tree-bare : (t : Tree) → root_of (without_trivia (node t.kind t.forest empty)) ≡ bare_tree t
tree-bare t = ap (λ (g : Forest). let u : Tree = record { kind = t.kind; forest = g } in u) (sym (bare-same t.forest))

-- the text of a well-spaced tree reads as that tree, whitespace and comments aside
spaced-reads : (grammar : Grammar) (edition : Edition) (t : Tree) → IsWellSpaced edition t → bare_tree (tree_in grammar edition (chars (tree_text t))) ≡ bare_tree t
spaced-reads grammar edition t w =
    let ls = text_leaves edition t in
    let core = core-read grammar edition (chars (tree_text t)) (shape_of t) (core-input edition t w) in
    ap bare_tree core.tree_is
    ∙ ap (λ (f : Forest). bare_tree (root_of f)) (terms-mapped (dress_root (shape_of t) ls))
    ∙ dressed-bare t.kind (shape t.forest) ls
    ∙ ap root_of (tree-dressed edition t w)
    ∙ tree-bare t

same-itself : (t : Tree) → same_tree t t ≡ true
same-itself t = (same_tree-Decides t t).1 refl

spaced-faithful : (grammar : Grammar) (edition : Edition) (t : Tree) → IsWellSpaced edition t → is_faithful grammar edition t ≡ true
spaced-faithful grammar edition t w = ap (λ (u : Tree). same_tree (bare_tree t) u) (spaced-reads grammar edition t w) ∙ same-itself (bare_tree t)

pub spaced-accepted : WellSpacedRewritesAreAccepted
unfolding first_fit
spaced-accepted d e w =
    let has = parts e w.placeable in
    verdict-is d e false false false false false w.own has.0 has.1 w.within (ap not (spaced-faithful d.grammar d.edition (rewritten e) w.spaced))

-- A refused well-spaced rewrite is refused as an accepted commit may be: out of tree numbers or of memory.
pub spaced-refused : (d : State) (e : Editing) (number : ℕ) (error : CommitError) → RefusesCommit (verdict d e) number error → IsWellSpacedRewrite d e → RefusesCommit Accepted number error
spaced-refused d e number error refused w = subst (λ (v : Verdict). RefusesCommit v number error) (spaced-accepted d e w) refused

-- leaves without messages
silent-none : (place : ℕ) (ls : List Lexed) → list_all (λ l. is_none l.message) ls ≡ true → of_leaves place ls ≡ []
silent-none place [] h = refl
silent-none place (l ∷ ls) h =
    let both = and_parts (is_none l.message) (list_all (λ l. is_none l.message) ls) h in
    none-first l.message both.0 ∙ silent-none (place + size l.leaf.text) ls both.1
  where
    none-first : (o : Option leaves.Message) → is_none o ≡ true → of_leaf place o ++ of_leaves (place + size l.leaf.text) ls ≡ of_leaves (place + size l.leaf.text) ls
    none-first None h = refl
    none-first (Some m) h = absurd (let z : false ≡ true = h in cc)

pub spaced-silent : WellSpacedTextsHaveNoMessages
spaced-silent grammar edition t w =
    let text = chars (tree_text t) in
    (core-read grammar edition text (shape_of t) (core-input edition t w)).messages_are ∙ silent-none 0 (lexed edition text) (tree-silent edition t w)
