-- What the code of nested changes goes by.
use Rattle.std.proofs.Common.{◌≡◌, ℕ, ◌+◌, ◌≤◌, List, [], ◌∷◌, length, drop, slice_index, slice_get, Option, Some, None, is_some, Bool, true, false, ◌&&◌, ◌||◌, cond, refl, ap, sym, ◌∙◌, arith, subst}
use Rattle.std.specs.List.{list_any}
use Rattle.std.proofs.lemmas.Bool.{and_parts, false≢true}
use Rattle.rowan_green.specs.Forest.{Tree}
use Rattle.rowan_green.specs.Term.{Term}
use Rattle.rowan_green.specs.declared.utility_types.NodeOrToken.TheVariants.{Node, Token}
use Rattle.rowan.specs.Place.{children_in, term_by}
use Rattle.syntax_tree.specs.Element.{Way, same_way, Element, is_node}
use Rattle.tree_rewrite.specs.Change.{Change, insert, replace, replaces, holder_of, is_node_by_node}
use Rattle.tree_rewrite.specs.Held.{leads_through}
use Rattle.tree_rewrite.specs.Rewrite.{first_way}
use Rattle.tree_rewrite.specs.Walk.{node_in, children_below, names_node}
use Rattle.tree_rewrite.proofs.HeldLemmas.{lost-step, lost-root}
use Rattle.tree_rewrite.proofs.OrderLemmas.{same_way-sound}
use Rattle.tree_rewrite.proofs.TrieLemmas.{way_step, way_top}

-- ---- the innermost replaced element
pub holder_step : (cs : List Change) (w : Way) (d e : ℕ) (b : Bool) (r above : Option Way) → e ≡ d + 1 → e ≤ length w
    → b ≡ list_any (λ c. replaces c (drop d w)) cs → above ≡ holder_of cs (drop e w) → r ≡ cond b (Some (drop d w)) above → r ≡ holder_of cs (drop d w)
holder_step cs w d e b r above h k test up is =
    let here : Way → Type 0 = λ v. cond (list_any (λ c. replaces c v) cs) (Some v) (holder_of cs (drop e w)) ≡ holder_of cs v in
    is
    ∙ ap (λ x. cond x (Some (drop d w)) above) test
    ∙ ap (cond (list_any (λ c. replaces c (drop d w)) cs) (Some (drop d w))) up
    ∙ subst here (sym (way_step w d e h k)) refl

pub holder_top : (cs : List Change) (w : Way) (b : Bool) (r : Option Way) → w ≡ [] → b ≡ list_any (λ c. replaces c w) cs → r ≡ cond b (Some w) None → r ≡ holder_of cs w
holder_top cs w b r top test is =
    let here : Way → Type 0 = λ v. cond (list_any (λ c. replaces c v) cs) (Some v) None ≡ holder_of cs v in
    is ∙ ap (λ x. cond x (Some w) None) test ∙ subst here (sym top) refl

-- ---- nodes on the way down
children_same : (o : Option Term) → children_below (node_in o) ≡ children_in o
children_same None = refl
children_same (Some (Node t)) = refl
children_same (Some (Token l)) = refl

pub node_below : (t : Tree) (w : Way) (i : ℕ) (parent : Option Tree) → parent ≡ node_in (term_by t w) → node_in (slice_get (children_below parent) i) ≡ node_in (term_by t (i ∷ w))
node_below t w i parent h =
    ap (λ o. node_in (slice_get (children_below o) i)) h ∙ ap (λ l. node_in (slice_get l i)) (children_same (term_by t w))

pub node_step : (t : Tree) (w : Way) (d e : ℕ) (parent r : Option Tree) → e ≡ d + 1 → e ≤ length w → parent ≡ node_in (term_by t (drop e w))
    → r ≡ node_in (slice_get (children_below parent) (slice_index w d)) → r ≡ node_in (term_by t (drop d w))
node_step t w d e parent r h k at is = is ∙ node_below t (drop e w) (slice_index w d) parent at ∙ sym (ap (λ v. node_in (term_by t v)) (way_step w d e h k))

pub node_top : (t : Tree) (w : Way) (d : ℕ) → length w ≤ d → Some t ≡ node_in (term_by t (drop d w))
node_top t w d h = sym (ap (λ v. node_in (term_by t v)) (way_top w d h))

pub is_node-some : (o : Option Term) → is_some (node_in o) ≡ is_node o
is_node-some None = refl
is_node-some (Some (Node t)) = refl
is_node-some (Some (Token l)) = refl

-- the term of a child, by its parent
pub term_below : (t : Tree) (w : Way) (i : ℕ) (parent : Option Tree) → parent ≡ node_in (term_by t w) → slice_get (children_below parent) i ≡ term_by t (i ∷ w)
term_below t w i parent h = ap (λ o. slice_get (children_below o) i) h ∙ ap (λ l. slice_get l i) (children_same (term_by t w))

-- ---- a node by a node
pub by_node-parts : (t : Tree) (c : Change) → is_node_by_node t c ≡ (names_node c && is_node (term_by t (first_way c)))
by_node-parts t (insert p i new) = refl
by_node-parts t (replace f n [] s) = refl
by_node-parts t (replace f n (e ∷ []) true) = refl
by_node-parts t (replace f n (e ∷ []) false) = refl
by_node-parts t (replace f n (e ∷ (d ∷ new)) s) = refl

-- the first of the replaced children
pub first_child : (t : Tree) (v : Way) (i : ℕ) (c : Change) (f : Way) (n : ℕ) (es : List Element) (s : Bool) (a : ℕ) (q : Way) (parent r : Option Tree)
    → c ≡ replace f n es s → f ≡ a ∷ q → replaces c (i ∷ v) ≡ true → parent ≡ node_in (term_by t v) → r ≡ node_in (slice_get (children_below parent) a)
    → is_some r ≡ is_node (term_by t (first_way c))
first_child t v i c f n es s a q parent r is at there up found =
    let whole : c ≡ replace (a ∷ q) n es s = is ∙ ap (λ x. replace x n es s) at in
    let covered : replaces (replace (a ∷ q) n es s) (i ∷ v) ≡ true = subst (λ d. replaces d (i ∷ v) ≡ true) whole there in
    let above : q ≡ v = same_way-sound q v (and_parts (same_way q v) _ covered).0 in
    ap is_some (found ∙ node_below t v a parent up)
    ∙ is_node-some (term_by t (a ∷ v))
    ∙ ap (λ x. is_node (term_by t (a ∷ x))) (sym above)
    ∙ sym (ap (λ d. is_node (term_by t (first_way d))) whole)

pub no_row : (i : ℕ) (v : Way) (c : Change) (f : Way) (n : ℕ) (es : List Element) (s : Bool) → c ≡ replace f n es s → length f ≡ 0 → replaces c (i ∷ v) ≡ true → ⊥
no_row i v c [] n es s is at there = false≢true (subst (λ d. replaces d (i ∷ v) ≡ true) is there)
no_row i v c (a ∷ f) n es s is at there = omega (arith, at)

pub no_gap : (w : Way) (c : Change) (p : Way) (j : ℕ) (es : List Element) → c ≡ insert p j es → replaces c w ≡ true → ⊥
no_gap w c p j es is there = false≢true (subst (λ d. replaces d w ≡ true) is there)

-- ---- lost elements
or_flip : (a b : Bool) → (a || b) ≡ (b || a)
or_flip true true = refl
or_flip true false = refl
or_flip false true = refl
or_flip false false = refl

pub lost_more : (k : Change → Bool) (cs : List Change) (w : Way) (d e : ℕ) (a b : Bool) → e ≡ d + 1 → e ≤ length w
    → a ≡ list_any (λ r. leads_through (drop e w) r && k r) cs → b ≡ list_any (λ r. replaces r (slice_index w d ∷ drop e w) && k r) cs
    → (a || b) ≡ list_any (λ r. leads_through (drop d w) r && k r) cs
lost_more k cs w d e a b h l above here =
    let is = way_step w d e h l in
    or_flip a b
    ∙ ap (λ x. x || a) (here ∙ sym (ap (λ v. list_any (λ r. replaces r v && k r) cs) is))
    ∙ ap (λ x. list_any (λ r. replaces r (drop d w) && k r) cs || x) above
    ∙ sym (lost-step k cs (drop d w) (slice_index w d) (drop e w) is)

pub lost_top : (k : Change → Bool) (cs : List Change) (w : Way) (a : Bool) → w ≡ [] → a ≡ list_any (λ r. replaces r [] && k r) cs → a ≡ list_any (λ r. leads_through w r && k r) cs
lost_top k cs w a top here =
    here
    ∙ ap (λ v. list_any (λ r. replaces r v && k r) cs) (sym top)
    ∙ sym (lost-root k cs w (ap length top))
