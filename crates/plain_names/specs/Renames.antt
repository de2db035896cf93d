-- Plain renames of identifiers: what they make of the leaves, the parser's input and the tree.
use Rattle.std.specs.Prelude.{◌≡◌, ℕ, ◌+◌, ◌==◌, Bool, true, List, [], ◌∷◌, map, drop, Some, encode_utf8, encode_utf8_all, if◌then◌else◌}
use Rattle.std.specs.List.{list_all}
use Rattle.std.specs.Str.{all_scalars}
use Rattle.rustc_lexer.specs.Characters.{is_ident}
use Rattle.rustc_lexer.specs.Tokens.{first_lexeme}
use Rattle.rowan_green.specs.Forest.{node, empty, Tree, forest_text}
use Rattle.rowan_green.specs.declared.utility_types.NodeOrToken.TheVariants.{Token}
use Rattle.rowan.specs.Place.{term_by, start_by}
use Rattle.parser_input.specs.Input.{input}
use Rattle.parser_input.specs.Kinds.{IDENT}
use Rattle.parser_input.specs.Lexed.{Lexed, lexed, leaves_of}
use Rattle.parser_input.specs.Stored.{offset}
use Rattle.parser_input.specs.declared.edition.Edition.{Edition}
use Rattle.parser_events.specs.Forest as forest
use Rattle.plain_names.specs.TokenNames.{name_lexeme}
use Rattle.plain_names.specs.LeafNames.{texts, IsPlain}
use Rattle.plain_names.specs.Forests.{leaf_of}
use Rattle.plain_names.specs.Replacements.{Replacement, with_leaves, AreApart}
use Rattle.plain_names.specs.Trees.{forest_by}

-- A rename of an identifier: the leaf's index in the text, its up-path in the tree, the old name
-- and the new one.
pub record Rename : Type 0 where
  pub number : ℕ
  pub up : List ℕ
  pub old : List ℕ
  pub new : List ℕ

-- the text of the leaf with index `i`, after renames of which the first one counts
abbrev pub name_after : List Rename → ℕ → List ℕ → List ℕ
name_after [] i text = text
name_after (r ∷ rs) i text = if r.number == i then r.new else name_after rs i text

-- a leaf with another text
abbrev pub with_text : Lexed → List ℕ → Lexed
with_text l text = record { leaf = record { kind = l.leaf.kind; text = text }; message = l.message }

-- the leaves from index `i` on, renamed
abbrev pub renamed_from : List Rename → ℕ → List Lexed → List Lexed
renamed_from rs i [] = []
renamed_from rs i (l ∷ ls) = with_text l (name_after rs i l.leaf.text) ∷ renamed_from rs (i + 1) ls

-- the leaves of a text, renamed
abbrev pub renamed_leaves : List Rename → Edition → List ℕ → List Lexed
renamed_leaves rs edition text = renamed_from rs 0 (lexed edition text)

-- The leaf is an identifier token, and is renamed to an identifier; both names are plain.
pub record IsPlainRename (edition : Edition) (text : List ℕ) (r : Rename) : Type 0 where
  pub raw : first_lexeme (texts (drop r.number (lexed edition text))) ≡ name_lexeme r.old
  pub old_plain : IsPlain edition r.old
  pub new_ident : is_ident r.new ≡ true
  pub new_plain : IsPlain edition r.new

abbrev pub ArePlainRenames : Edition → List ℕ → List Rename → Type 0
ArePlainRenames edition text [] = Unit {0}
ArePlainRenames edition text (r ∷ rs) =
    IsPlainRename edition text r × ArePlainRenames edition text rs

-- The leaves of the renamed text are the renamed leaves.
abbrev pub PlainRenamesKeepLeaves : Type 0
PlainRenamesKeepLeaves =
    (edition : Edition) (text : List ℕ) (rs : List Rename) → ArePlainRenames edition text rs →
    lexed edition (texts (renamed_leaves rs edition text)) ≡ renamed_leaves rs edition text

-- The parser's input stays.
abbrev pub PlainRenamesKeepInputs : Type 0
PlainRenamesKeepInputs =
    (whole : Bool) (edition : Edition) (text : List ℕ) (rs : List Rename) →
    ArePlainRenames edition text rs →
    input whole edition (leaves_of (renamed_leaves rs edition text))
    ≡ input whole edition (leaves_of (lexed edition text))

-- The tree has the old name at the up-path, as far into the text as the leaf with that index.
pub record IsInTree (edition : Edition) (text : List ℕ) (t : Tree) (r : Rename) : Type 0 where
  pub stands : term_by t r.up ≡ Some (Token (leaf_of IDENT (encode_utf8_all r.old)))
  pub starts : start_by t r.up ≡ offset (lexed edition text) r.number

abbrev pub AreInTree : Edition → List ℕ → Tree → List Rename → Type 0
AreInTree edition text t [] = Unit {0}
AreInTree edition text t (r ∷ rs) = IsInTree edition text t r × AreInTree edition text t rs

-- the new name in the tree
abbrev pub replacement_of : Rename → Replacement
replacement_of r = record { up = r.up; leaf = leaf_of IDENT (encode_utf8_all r.new) }

-- A node that is dressed with the renamed leaves is the node dressed with the old ones, the names
-- replaced.
abbrev pub PlainRenamesRenameTrees : Type 0
PlainRenamesRenameTrees =
    (edition : Edition) (text : List ℕ) (rs : List Rename) (f : forest.Forest) (t : Tree) →
    all_scalars text ≡ true → ArePlainRenames edition text rs → AreInTree edition text t rs →
    AreApart (map replacement_of rs) →
    forest_by encode_utf8 f (leaves_of (lexed edition text)) ≡ node t.kind t.forest empty →
    forest_by encode_utf8 f (leaves_of (renamed_leaves rs edition text))
    ≡ node t.kind (with_leaves (map replacement_of rs) [] 0 t.forest) empty

-- The text of the tree with the new names is the renamed text.
abbrev pub PlainRenamesRenameTexts : Type 0
PlainRenamesRenameTexts =
    (edition : Edition) (text : List ℕ) (rs : List Rename) (f : forest.Forest) (t : Tree) →
    all_scalars text ≡ true → ArePlainRenames edition text rs → AreInTree edition text t rs →
    AreApart (map replacement_of rs) →
    forest_by encode_utf8 f (leaves_of (lexed edition text)) ≡ node t.kind t.forest empty →
    forest_text (with_leaves (map replacement_of rs) [] 0 t.forest)
    ≡ encode_utf8_all (texts (renamed_leaves rs edition text))

-- The characters of the renamed text are characters if those of the text and of the new names are.
abbrev pub RenamedTextsAreScalars : Type 0
RenamedTextsAreScalars =
    (edition : Edition) (text : List ℕ) (rs : List Rename) → all_scalars text ≡ true →
    list_all (λ r. all_scalars r.new) rs ≡ true →
    all_scalars (texts (renamed_leaves rs edition text)) ≡ true
