-- The renamed text that is left of open nodes.
use Rattle.std.proofs.Common.{◌≡◌, ℕ, List, [], ◌∷◌, ◌++◌, refl, ap, sym, ◌∙◌, append_assoc, append-nil, Bool, true, false}
use Rattle.std.specs.Prelude.{if◌then◌else◌}
use Rattle.std.proofs.lemmas.Bool.{and_parts, eqb-true}
use Rattle.std.specs.Cmp.Lexicographic.{bytes_decides}
use Rattle.rowan_green.specs.Forest.{Forest, empty, node, leaf, Tree, forest_text, tree_text}
use Rattle.rowan_green.specs.Leaf.{Leaf, same_leaf}
use Rattle.rowan_green.specs.Term.{Term, forest_of, forest_of-terms, children_of}
use Rattle.rowan_green.specs.declared.utility_types.NodeOrToken.TheVariants.{Node, Token}
use Rattle.renamer.specs.Renamed.{identifier, renamed_leaves, renamed_text}

module _ (old new : List ℕ) where
  abbrev pub shown : List Term → List ℕ
  shown es = renamed_leaves old new (forest_of es)

  abbrev pub leaf_shown : Leaf → List ℕ
  leaf_shown l = if same_leaf l (identifier old) then new else l.text

  -- that of the children that are left, from the innermost node, which is the last, to the outermost
  abbrev pub open_shown : List (List Term) → List ℕ
  open_shown [] = []
  open_shown (es ∷ above) = open_shown above ++ shown es

  open_shown-more : (above : List (List Term)) (es : List Term) → open_shown (above ++ es ∷ []) ≡ shown es ++ open_shown above
  open_shown-more [] es = sym (append-nil (shown es))
  open_shown-more (ds ∷ above) es = ap (λ (s : List ℕ). s ++ shown ds) (open_shown-more above es) ∙ append_assoc (shown es) (open_shown above) (shown ds)

  -- a node is entered: its children come first, and then those beside it
  pub entered-shown :
      (t : Tree) (e : Term) (before rest inner : List Term) (above more : List (List Term))
      → before ≡ e ∷ rest → e ≡ Node t → inner ≡ children_of t → more ≡ above ++ rest ∷ [] → shown inner ++ open_shown more ≡ shown before ++ open_shown above
  entered-shown t e before rest inner above more o n i m =
      ap (λ (es : List Term). shown es ++ open_shown more) i
      ∙ ap (λ f. renamed_leaves old new f ++ open_shown more) (forest_of-terms t.forest)
      ∙ ap (λ (es : List (List Term)). renamed_text old new t ++ open_shown es) m
      ∙ ap (λ (s : List ℕ). renamed_text old new t ++ s) (open_shown-more above rest)
      ∙ sym (append_assoc (renamed_text old new t) (shown rest) (open_shown above))
      ∙ ap (λ (d : Term). shown (d ∷ rest) ++ open_shown above) (sym n)
      ∙ ap (λ (es : List Term). shown es ++ open_shown above) (sym o)

  -- a token is passed
  pub passed-shown :
      (l : Leaf) (e : Term) (before rest : List Term) (above : List (List Term)) (written now own all : List ℕ)
      → before ≡ e ∷ rest → e ≡ Token l → now ≡ written ++ own → own ≡ leaf_shown l
      → written ++ (shown before ++ open_shown above) ≡ all → now ++ (shown rest ++ open_shown above) ≡ all
  passed-shown l e before rest above written now own all o k n is so-far =
      ap (λ (s : List ℕ). s ++ (shown rest ++ open_shown above)) (n ∙ ap (λ (s : List ℕ). written ++ s) is)
      ∙ append_assoc written (leaf_shown l) (shown rest ++ open_shown above)
      ∙ ap (λ (s : List ℕ). written ++ s)
      (sym (append_assoc (leaf_shown l) (shown rest) (open_shown above))
      ∙ ap (λ (d : Term). shown (d ∷ rest) ++ open_shown above) (sym k)
      ∙ ap (λ (es : List Term). shown es ++ open_shown above) (sym o))
      ∙ so-far

  -- a node without further children is left: those beside it come next
  pub left-shown :
      (before rest : List Term) (above fewer : List (List Term))
      → before ≡ [] → above ≡ fewer ++ rest ∷ [] → shown rest ++ open_shown fewer ≡ shown before ++ open_shown above
  left-shown before rest above fewer o a =
      sym (open_shown-more fewer rest) ∙ ap open_shown (sym a) ∙ ap (λ (es : List Term). shown es ++ open_shown above) (sym o)

  -- nothing is written, and the root's children are left
  pub begun-shown :
      (t : Tree) (written : List ℕ) (inner : List Term) (above : List (List Term))
      → written ≡ [] → inner ≡ children_of t → above ≡ [] → written ++ (shown inner ++ open_shown above) ≡ renamed_text old new t
  begun-shown t written inner above w i a =
      ap (λ (s : List ℕ). s ++ (shown inner ++ open_shown above)) w
      ∙ ap (λ (es : List (List Term)). shown inner ++ open_shown es) a
      ∙ append-nil (shown inner)
      ∙ ap shown i
      ∙ ap (renamed_leaves old new) (forest_of-terms t.forest)

  -- nothing is left
  pub ended-shown :
      (before : List Term) (above : List (List Term)) (written all : List ℕ)
      → before ≡ [] → above ≡ [] → written ++ (shown before ++ open_shown above) ≡ all → written ≡ all
  ended-shown before above written all o a so-far =
      sym (append-nil written)
      ∙ ap (λ (es : List Term). written ++ (shown es ++ [])) (sym o)
      ∙ ap (λ (es : List (List Term)). written ++ (shown before ++ open_shown es)) (sym a)
      ∙ so-far

-- ---- a name that stays

either-way : (b : Bool) (l : Leaf) (name : List ℕ) → same_leaf l (identifier name) ≡ b → (if b then name else l.text) ≡ l.text
either-way true l name is = sym ((bytes_decides l.text name).0 (and_parts _ _ is).1)
either-way false l name is = refl

same-leaves : (name : List ℕ) (f : Forest) → renamed_leaves name name f ≡ forest_text f
same-leaves name empty = refl
same-leaves name (node k f r) = ap (λ (s : List ℕ). s ++ renamed_leaves name name r) (same-leaves name f) ∙ ap (λ (s : List ℕ). forest_text f ++ s) (same-leaves name r)
same-leaves name (leaf l r) =
    ap (λ (s : List ℕ). s ++ renamed_leaves name name r) (either-way (same_leaf l (identifier name)) l name refl) ∙ ap (λ (s : List ℕ). l.text ++ s) (same-leaves name r)

pub same-text : (name : List ℕ) (t : Tree) → renamed_text name name t ≡ tree_text t
same-text name t = same-leaves name t.forest
