-- The reading of a text in which plain identifiers are renamed.
use Rattle.std.proofs.Common.{◌≡◌, ℕ, List, [], map, chars, refl, sym, ◌∙◌, ap, subst}
use Rattle.std.specs.Prelude.{encode_utf8}
use Rattle.std.specs.List.{flat_map}
use Rattle.std.specs.Str.{IsUtf8}
use Rattle.std.proofs.lemmas.Str.{scalars-chars}
use Rattle.rowan_green.specs.Forest.{Forest, empty, node, leaf, Tree}
use Rattle.parser_input.specs.Input.{input}
use Rattle.parser_input.specs.Kinds.{SOURCE_FILE}
use Rattle.parser_input.specs.Lexed.{Lexed, lexed, leaves_of}
use Rattle.parser_input.specs.declared.edition.Edition.{Edition}
use Rattle.parser_events.specs.Forest as forest
use Rattle.parser_events.specs.Dress.{close_node, dress_root, open_node, root}
use Rattle.parser_events.specs.Dressed as dressed
use Rattle.parser_events.specs.Dressed.{Dressed}
use Rattle.rust_grammar.specs.Entry.{entry}
use Rattle.rust_grammar.specs.Rule.{source_file}
use Rattle.rust_grammar.specs.Whole.{whole}
use Rattle.plain_names.specs.LeafNames.{texts}
use Rattle.plain_names.specs.Renames as names
use Rattle.plain_names.specs.Renames.{Rename, ArePlainRenames, AreInTree, renamed_leaves}
use Rattle.plain_names.specs.Replacements.{AreApart, with_leaves}
use Rattle.plain_names.specs.Trees.{dressed_forest}
use Rattle.plain_names.proofs.Numbered.{keeps-leaves, keeps-inputs}
use Rattle.plain_names.proofs.PlainTrees.{encodes-flat, renames-trees}
use Rattle.ra_parser.specs.Grammars.{is_whole}
use Rattle.ra_parser.specs.declared.grammar.Grammar.{Grammar}
use Rattle.rust_document.specs.Reading.{dressed_by, forest_by, leaves_in, root_of, terms_of, tree_in, tree_by}
use Rattle.rust_document.proofs.SourceFiles.{source-entry}

-- ---- the tree of a text, as one node

pub terms-mapped : (d : Dressed) → terms_of d ≡ dressed_forest encode_utf8 d
terms-mapped dressed.End = refl
terms-mapped (dressed.Leaf k t d) =
    ap (λ (bs : List ℕ). leaf (record { kind = k; text = bs }) (terms_of d)) (encodes-flat t)
    ∙ ap (λ (f : Forest). leaf (record { kind = k; text = flat_map encode_utf8 t }) f) (terms-mapped d)
terms-mapped (dressed.Said m p d) = terms-mapped d
terms-mapped (dressed.Node k c d) =
    ap (λ (f : Forest). node k f (terms_of d)) (terms-mapped c) ∙ ap (λ (f : Forest). node k (dressed_forest encode_utf8 c) f) (terms-mapped d)

abbrev IsOneNode : forest.Forest → List Lexed → Type 0
IsOneNode f ls =
    let t = root_of (terms_of (dress_root f (leaves_of ls))) in
    terms_of (dress_root f (leaves_of ls)) ≡ node t.kind t.forest empty

node-one : (k : ℕ) (c : forest.Forest) (ls : List Lexed) → IsOneNode (forest.Node k c forest.End) ls
unfolding dress_root root close_node open_node
node-one k c ls = refl

pub file-one : (grammar : Grammar) (edition : Edition) (ls : List Lexed) → IsOneNode (forest_by source_file grammar edition (leaves_of ls)) ls
file-one grammar edition ls =
    let own = source-entry (input (is_whole grammar) edition (leaves_of ls)) in
    subst (λ (f : forest.Forest). IsOneNode f ls) (sym own.1) (node-one SOURCE_FILE own.0 ls)

-- ---- of a plain renaming: the new leaves, the new text, and the tree with the new names

abbrev pub new_leaves : (edition : Edition) (text : List ℕ) → List Rename → List Lexed
new_leaves edition text rs = renamed_leaves rs edition (chars text)

abbrev pub new_text : (edition : Edition) (text : List ℕ) → List Rename → List ℕ
new_text edition text rs = texts (new_leaves edition text rs)

abbrev pub new_tree : (grammar : Grammar) (edition : Edition) (text : List ℕ) → List Rename → Tree
new_tree grammar edition text rs = record { kind = (tree_in grammar edition (chars text)).kind; forest = with_leaves (map names.replacement_of rs) [] 0 (tree_in grammar edition (chars text)).forest }

abbrev pub old_forest : (grammar : Grammar) (edition : Edition) (text : List ℕ) → forest.Forest
old_forest grammar edition text = forest_by source_file grammar edition (leaves_in edition (chars text))

pub present-one : (grammar : Grammar) (edition : Edition) (text : List ℕ) → dressed_forest encode_utf8 (dress_root (old_forest grammar edition text) (leaves_in edition (chars text))) ≡ node (tree_in grammar edition (chars text)).kind (tree_in grammar edition (chars text)).forest empty
unfolding tree_by dressed_by
present-one grammar edition text = sym (terms-mapped (dress_root (old_forest grammar edition text) (leaves_in edition (chars text)))) ∙ file-one grammar edition (lexed edition (chars text))

new-dressed :
    (grammar : Grammar) (edition : Edition) (text : List ℕ) (rs : List Rename) → IsUtf8 text → ArePlainRenames edition (chars text) rs → AreInTree edition (chars text) (tree_in grammar edition (chars text)) rs
    → AreApart (map names.replacement_of rs) → terms_of (dress_root (old_forest grammar edition text) (leaves_of (new_leaves edition text rs))) ≡ node (tree_in grammar edition (chars text)).kind (new_tree grammar edition text rs).forest empty
new-dressed grammar edition text rs u plain here apart =
    terms-mapped (dress_root (old_forest grammar edition text) (leaves_of (new_leaves edition text rs)))
    ∙ renames-trees edition (chars text) rs (old_forest grammar edition text) (tree_in grammar edition (chars text)) (scalars-chars text u) plain here apart (present-one grammar edition text)

new-forest : (grammar : Grammar) (edition : Edition) (text : List ℕ) (rs : List Rename) → ArePlainRenames edition (chars text) rs → forest_by source_file grammar edition (leaves_of (new_leaves edition text rs)) ≡ old_forest grammar edition text
new-forest grammar edition text rs plain = ap (entry whole source_file) (keeps-inputs (is_whole grammar) edition (chars text) rs plain)

-- the new text reads as the tree with the new names
pub new-read :
    (grammar : Grammar) (edition : Edition) (text : List ℕ) (rs : List Rename) → IsUtf8 text → ArePlainRenames edition (chars text) rs → AreInTree edition (chars text) (tree_in grammar edition (chars text)) rs
    → AreApart (map names.replacement_of rs) → tree_in grammar edition (new_text edition text rs) ≡ new_tree grammar edition text rs
unfolding tree_by dressed_by
new-read grammar edition text rs u plain here apart =
    ap (λ (ls : List Lexed). root_of (terms_of (dress_root (forest_by source_file grammar edition (leaves_of ls)) (leaves_of ls)))) (keeps-leaves edition (chars text) rs plain)
    ∙ ap (λ (f : forest.Forest). root_of (terms_of (dress_root f (leaves_of (new_leaves edition text rs))))) (new-forest grammar edition text rs plain)
    ∙ ap root_of (new-dressed grammar edition text rs u plain here apart)
