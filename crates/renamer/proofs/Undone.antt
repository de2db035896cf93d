-- A renamed tree has the old text once the new name is renamed back.
use Rattle.std.proofs.Common.{◌≡◌, ℕ, ◌+◌, ◌≤◌, List, [], ◌∷◌, ◌++◌, drop, length, map, chars, Bool, true, false, Some, refl, ap, sym, ◌∙◌, subst, if◌then◌else◌}
use Rattle.std.proofs.Math.Utf8.{encodes}
use Rattle.std.proofs.lemmas.Str.{encodes-chars}
use Rattle.rowan_green.specs.Leaf.{Leaf, same_leaf}
use Rattle.rowan_green.specs.Same.{same_leaf-Decides}
use Rattle.rowan_green.specs.Forest.{Forest, empty, node, leaf, Tree, forest_text, tree_text}
use Rattle.rowan_green.specs.Term.{Term, terms, tree_of}
use Rattle.rowan_green.specs.declared.utility_types.NodeOrToken.TheVariants.{Node, Token}
use Rattle.rowan.specs.Place.{term_by, children_in}
use Rattle.parser_input.specs.Kinds.{IDENT, TOMBSTONE}
use Rattle.plain_names.specs.Forests.{leaf_of}
use Rattle.plain_names.specs.Replacements.{leaf_after, with_leaves}
use Rattle.syntax_tree.specs.Element.{Way, Element, element_at, term_of}
use Rattle.syntax_tree.specs.Search.{elements}
use Rattle.tree_rewrite.specs.Change.{Change, has_collision}
use Rattle.tree_rewrite.specs.Marked.{forest_in}
use Rattle.tree_rewrite.specs.Rewrite.{rewrite}
use Rattle.plain_changes.specs.LeafChanges.{change_of, replacement_of}
use Rattle.plain_changes.proofs.Orders.{leaves-replaced}
use Rattle.syntax_editor.specs.Editing.{Editing, untouched, with_changes}
use Rattle.rust_document.specs.Reading.{root_of, tree_in}
use Rattle.rust_document.specs.Rewrite.{rewritten}
use Rattle.rust_document.specs.Step.{MAX_TEXT, State, present, root_element}
use Rattle.rust_document.proofs.PlainRenamings as documents
use Rattle.rust_document.proofs.TreeTexts.{tree-text}
use Rattle.renamer.specs.Renamed.{identifier, renamed_leaves, renamed_text}
use Rattle.renamer.specs.Taken.{of_all}
use Rattle.renamer.specs.Undone.{CanReturn, RenamingsAreUndone, has_name}
use Rattle.renamer.proofs.Changes.{AreNamed, all-replace, changes-are, changes-of, changes_after, has_way, leaf-after, leaf_change, named-at, no-collision, or-parts, ways_after}
use Rattle.renamer.proofs.EachToken.{each-text}
use Rattle.renamer.proofs.PlainRenames.{plain-renaming}
use Rattle.renamer.proofs.Walked.{named-tree, renamed-tree, there}

-- the leaf with the new name, as the only child of the root of a new tree
abbrev token : List ℕ → Element
token new = element_at 0 (tree_of TOMBSTONE (Token (identifier new) ∷ [])) (0 ∷ [])

module _ (old new : List ℕ) (ws : List Way) (t : Tree) (named : AreNamed (of_all old new) t ws) where
  -- the text of a leaf, renamed and renamed back
  old-text : (l : Leaf) (u : Way) → term_by t u ≡ Some (Token l) → same_leaf l (identifier new) ≡ false
      → (let m = if has_way ws u then identifier new else l in if same_leaf m (identifier new) then old else m.text) ≡ l.text
  old-text l u here other = by_test (has_way ws u) refl
    where
      by_test : (b : Bool) → has_way ws u ≡ b → (let m = if b then identifier new else l in if same_leaf m (identifier new) then old else m.text) ≡ l.text
      by_test true y =
          let one : Some (Token l) ≡ Some (Token (identifier old)) = sym here ∙ (named-at (of_all old new) t ws u named y).is in
          let same : l ≡ identifier old = cc in
          ap (λ (b : Bool). if b then old else new) ((same_leaf-Decides (identifier new) (identifier new)).1 refl) ∙ sym (ap (λ (m : Leaf). m.text) same)
      by_test false y = ap (λ (b : Bool). if b then old else l.text) other

  undone : (e : Element) (w : Way) (i : ℕ) (f : Forest) → drop i (children_in (term_by t w)) ≡ terms f → has_name new f ≡ false
      → renamed_leaves new old (with_leaves (map replacement_of (map (leaf_change (of_all old new) (identifier new) e) ws)) w i f) ≡ forest_text f
  undone e w i empty h free = refl
  undone e w i (node k f r) h free =
      let found = there (children_in (term_by t w)) i (Node (record { kind = k; forest = f })) (terms r) h in
      let parts = or-parts (has_name new f) (has_name new r) free in
      let low = undone e (i ∷ w) 0 f (ap children_in found.0) parts.0 in
      let rest = undone e w (i + 1) r found.1 parts.1 in
      λ j. low j ++ rest j
  undone e w i (leaf l r) h free =
      let found = there (children_in (term_by t w)) i (Token l) (terms r) h in
      let parts = or-parts (same_leaf l (identifier new)) (has_name new r) free in
      let own = ap (λ (m : Leaf). if same_leaf m (identifier new) then old else m.text) (leaf-after (of_all old new) (identifier new) e ws (i ∷ w) l) ∙ old-text l (i ∷ w) found.0 parts.0 in
      let rest = undone e w (i + 1) r found.1 parts.1 in
      λ j. own j ++ rest j

-- the tree with the new name, its text renamed back
undone-tree : (old new : List ℕ) (n : ℕ) (t : Tree) → has_name new t.forest ≡ false
    → let top = element_at n t [] in
    renamed_text new old (root_of (forest_in (rewrite top (changes_after (of_all old new) (token new) [] (elements top)) []))) ≡ tree_text t
undone-tree old new n t free =
    let top = element_at n t [] in
    let e = token new in
    let ws = ways_after (of_all old new) [] (elements top) in
    let gs = map (leaf_change (of_all old new) (identifier new) e) ws in
    let named : AreNamed (of_all old new) t ws = named-tree (of_all old new) n t in
    let are : changes_after (of_all old new) e [] (elements top) ≡ map change_of gs = changes-are (of_all old new) e [] (elements top) ∙ sym (changes-of (of_all old new) (identifier new) e ws) in
    let apart : has_collision (map change_of gs) ≡ false = ap has_collision (changes-of (of_all old new) (identifier new) e ws) ∙ no-collision (of_all old new) e (elements top) in
    let made = leaves-replaced top gs [] refl (all-replace (of_all old new) (identifier new) e t ws named refl) apart in
    ap (λ (cs : List Change). renamed_text new old (root_of (forest_in (rewrite top cs [])))) are
    ∙ ap (λ (g : Forest). renamed_text new old (root_of g)) made.1
    ∙ undone old new ws t named e [] 0 t.forest refl free

pub renamings-undone : RenamingsAreUndone
renamings-undone d e old new can is =
    let t = present d in
    let top = root_element d in
    let x = token new in
    let editor = with_changes (untouched top) (changes_after (of_all old new) x [] (elements top)) in
    let made : tree_text (rewritten editor) ≡ renamed_text old new t = renamed-tree (of_all old new) d.number t (identifier new) x [] refl refl ∙ each-text old new t in
    let put : term_of x ≡ Some (Token (leaf_of IDENT (encodes (chars new)))) = ap (λ (s : List ℕ). Some (Token (leaf_of IDENT s))) (sym (encodes-chars new can.new_text)) in
    let renaming = plain-renaming d (of_all old new) x editor (elements top) [] can.old_text can.new_text can.plain put (named-tree (of_all old new) d.number t) refl refl refl in
    let short = subst (λ (s : List ℕ). length s ≤ MAX_TEXT) (sym made) can.short in
    let read = (documents.plain-renaming d editor can.is_text can.within renaming short).1 in
    let now : present e ≡ rewritten editor = ap present is ∙ ap (λ (s : List ℕ). tree_in d.grammar d.edition (chars s)) (sym made) ∙ read in
    ap (renamed_text new old) now ∙ undone-tree old new d.number t can.free ∙ tree-text d.grammar d.edition (chars d.text) ∙ encodes-chars d.text can.is_text
