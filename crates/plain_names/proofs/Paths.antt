-- The leaf at an up-path, in a forest some of whose leaves are replaced.
use Rattle.std.proofs.Common.{◌≡◌, ℕ, zero, suc, ◌+◌, ◌<◌, ◌≤◌, Bool, true, false, nat_eq, eqb, List, [], ◌∷◌, ◌++◌, length, take, drop, slice_get, Option, Some, None, append_assoc, length-append, refl, sym, ◌∙◌, ap, subst, arith, inl, inr, if◌then◌else◌}
use Rattle.std.specs.List.{flat_map, list_any}
use Rattle.std.specs.Cmp.Lexicographic.{pointwise}
use Rattle.std.proofs.lemmas.Bool.{cases_Bool, eqb-true, eq-eqb, and_parts, and_from, or_parts, false≢true}
use Rattle.std.proofs.lemmas.Grind.{flat_map-append}
use Rattle.std.proofs.Math.Seq.{drop-append_seam}
use Rattle.rowan_green.specs.Leaf.{Leaf}
use Rattle.rowan_green.specs.Forest.{Forest, empty, node, leaf, Tree, forest_text}
use Rattle.rowan_green.specs.Term.{Term, terms, texts_of, forest_of-terms}
use Rattle.rowan_green.specs.declared.utility_types.NodeOrToken.TheVariants.{Node, Token}
use Rattle.rowan.specs.Place.{term_by, start_by, children_in}
use Rattle.plain_names.specs.Forests.{mapped_texts, ReplacesText, here, past_leaf, inside, past_node}
use Rattle.plain_names.specs.Replacements.{Replacement, leaf_after, with_leaves}
use Rattle.plain_names.proofs.OneForest.{of_text}

-- ---- up-paths

abbrev pub same : List ℕ → List ℕ → Bool
same = pointwise nat_eq

pub same-sound : (v w : List ℕ) → same v w ≡ true → v ≡ w
same-sound [] [] h = refl
same-sound [] (b ∷ w) h = absurd (false≢true h)
same-sound (a ∷ v) [] h = absurd (false≢true h)
same-sound (a ∷ v) (b ∷ w) h =
    let p = and_parts (eqb a b) (same v w) h in
    λ i. eqb-true a b p.0 i ∷ same-sound v w p.1 i

pub same-own : (v : List ℕ) → same v v ≡ true
same-own [] = refl
same-own (a ∷ v) = and_from _ _ (eq-eqb a a refl) (same-own v)

-- paths through two children of one node
others : (y x w : List ℕ) (j k : ℕ) → (k ≡ j → ⊥) → same (y ++ j ∷ w) (x ++ k ∷ w) ≡ false
others y x w j k ne = elim (cases_Bool (same (y ++ j ∷ w) (x ++ k ∷ w))) [
  | inr e ↦ e
  | inl e ↦
      let one : y ++ j ∷ w ≡ x ++ k ∷ w = same-sound (y ++ j ∷ w) (x ++ k ∷ w) e in
      let sizes = ap length one in
      let a = length-append y (j ∷ w) in
      let b = length-append x (k ∷ w) in
      let long : length y ≡ length x = omega (arith, sizes, a, b) in
      let ends : j ∷ w ≡ k ∷ w = sym (drop-append_seam y (j ∷ w)) ∙ ap (λ z. drop (length y) z) one ∙ ap (λ n. drop n (x ++ k ∷ w)) long ∙ drop-append_seam x (k ∷ w) in
      absurd (ne (cc))
]

-- ---- forests side by side

beside : Forest → Forest → Forest
beside empty u = u
beside (node k f r) u = node k f (beside r u)
beside (leaf l r) u = leaf l (beside r u)

abbrev first_of : Term → Forest → Forest
first_of (Node t) r = node t.kind t.forest r
first_of (Token l) r = leaf l r

terms-beside : (p q : Forest) → terms (beside p q) ≡ terms p ++ terms q
unfolding beside
terms-beside empty q = refl
terms-beside (node k f r) q = ap (λ xs. Node (record { kind = k; forest = f }) ∷ xs) (terms-beside r q)
terms-beside (leaf l r) q = ap (λ xs. Token l ∷ xs) (terms-beside r q)

-- a forest before and after one of its terms
record Parted (g : Forest) (j : ℕ) (x : Term) : Type 0 where
  front : Forest
  rest : Forest
  parts : g ≡ beside front (first_of x rest)
  count : length (terms front) ≡ j
  taken : terms front ≡ take j (terms g)

part : (g : Forest) (j : ℕ) (x : Term) → slice_get (terms g) j ≡ Some x → Parted g j x
unfolding beside
part empty zero x e = absurd (let z : None ≡ Some x = e in cc)
part empty (suc j) x e = absurd (let z : None ≡ Some x = e in cc)
part (node k f r) zero x e =
    let y : Term = Node (record { kind = k; forest = f }) in
    let one : y ≡ x = let z : Some y ≡ Some x = e in cc in
    record { front = empty; rest = r; parts = ap (λ (z : Term). first_of z r) one; count = refl; taken = refl }
part (node k f r) (suc j) x e =
    let p = part r j x e in
    record { front = node k f p.front; rest = p.rest; parts = ap (λ (z : Forest). node k f z) p.parts; count = ap suc p.count; taken = ap (λ xs. Node (record { kind = k; forest = f }) ∷ xs) p.taken }
part (leaf l r) zero x e =
    let y : Term = Token l in
    let one : y ≡ x = let z : Some y ≡ Some x = e in cc in
    record { front = empty; rest = r; parts = ap (λ (z : Term). first_of z r) one; count = refl; taken = refl }
part (leaf l r) (suc j) x e =
    let p = part r j x e in
    record { front = leaf l p.front; rest = p.rest; parts = ap (λ (z : Forest). leaf l z) p.parts; count = ap suc p.count; taken = ap (λ xs. Token l ∷ xs) p.taken }

with-beside : (rs : List Replacement) (w : List ℕ) (i : ℕ) (p q : Forest) → with_leaves rs w i (beside p q) ≡ beside (with_leaves rs w i p) (with_leaves rs w (i + length (terms p)) q)
unfolding beside
with-beside rs w i empty q = ap (λ n. with_leaves rs w n q) (let z : i ≡ i + 0 = omega arith in z)
with-beside rs w i (node k f r) q =
    ap (λ (z : Forest). node k (with_leaves rs (i ∷ w) 0 f) z)
    (with-beside rs w (i + 1) r q
    ∙ ap (λ n. beside (with_leaves rs w (i + 1) r) (with_leaves rs w n q)) (let z : (i + 1) + length (terms r) ≡ i + suc (length (terms r)) = omega arith in z))
with-beside rs w i (leaf l r) q =
    ap (λ (z : Forest). leaf (leaf_after rs (i ∷ w) l) z)
    (with-beside rs w (i + 1) r q
    ∙ ap (λ n. beside (with_leaves rs w (i + 1) r) (with_leaves rs w n q)) (let z : (i + 1) + length (terms r) ≡ i + suc (length (terms r)) = omega arith in z))

replaced-beside : {old new : List ℕ} {q s : Forest} {a b : List ℕ} (p : Forest) → ReplacesText old new q s a b → ReplacesText old new (beside p q) (beside p s) (forest_text p ++ a) b
unfolding beside
replaced-beside empty h = h
replaced-beside {old} {new} {q} {s} {a} {b} (node k f r) h =
    subst (λ x. ReplacesText old new (node k f (beside r q)) (node k f (beside r s)) x b) (sym (append_assoc (forest_text f) (forest_text r) a))
    (past_node k f (beside r q) (beside r s) (forest_text r ++ a) b (replaced-beside r h))
replaced-beside {old} {new} {q} {s} {a} {b} (leaf l r) h =
    subst (λ x. ReplacesText old new (leaf l (beside r q)) (leaf l (beside r s)) x b) (sym (append_assoc l.text (forest_text r) a))
    (past_leaf l (beside r q) (beside r s) (forest_text r ++ a) b (replaced-beside r h))

-- ---- where a replacement does not reach

module _ (rs : List Replacement) (r : Replacement) where
  off-leaf : (w : List ℕ) (l : Leaf) → same r.up w ≡ false → leaf_after (r ∷ rs) w l ≡ leaf_after rs w l
  off-leaf w l h = ap (λ (b : Bool). if b then r.leaf else leaf_after rs w l) h

  -- no path below the node at `w`
  off-all : (w : List ℕ) (i : ℕ) (f : Forest) → ((x : List ℕ) (k : ℕ) → same r.up (x ++ k ∷ w) ≡ false) → with_leaves (r ∷ rs) w i f ≡ with_leaves rs w i f
  off-all w i empty h = refl
  off-all w i (node k f g) h =
      let low = off-all (i ∷ w) 0 f (λ x m. ap (λ v. same r.up v) (sym (append_assoc x (m ∷ []) (i ∷ w))) ∙ h (x ++ m ∷ []) i) in
      let rest = off-all w (i + 1) g h in
      λ j. node k (low j) (rest j)
  off-all w i (leaf l g) h =
      let rest = off-all w (i + 1) g h in
      let own = off-leaf (i ∷ w) l (h [] i) in
      λ j. leaf (own j) (rest j)

  -- no path through the children from index `i` on
  off-range : (w : List ℕ) (j i : ℕ) (f : Forest) → ((x : List ℕ) (k : ℕ) → (k ≡ j → ⊥) → same r.up (x ++ k ∷ w) ≡ false)
      → ((k : ℕ) → i ≤ k → k < i + length (terms f) → k ≡ j → ⊥) → with_leaves (r ∷ rs) w i f ≡ with_leaves rs w i f
  off-range w j i empty h out = refl
  off-range w j i (node k f g) h out =
      let here_out : i ≡ j → ⊥ = out i (omega arith) (omega arith) in
      let low = off-all (i ∷ w) 0 f (λ x m. ap (λ v. same r.up v) (sym (append_assoc x (m ∷ []) (i ∷ w))) ∙ h (x ++ m ∷ []) i here_out) in
      let rest = off-range w j (i + 1) g h (λ m p q. out m (omega (arith, p)) (omega (arith, q))) in
      λ x. node k (low x) (rest x)
  off-range w j i (leaf l g) h out =
      let here_out : i ≡ j → ⊥ = out i (omega arith) (omega arith) in
      let rest = off-range w j (i + 1) g h (λ m p q. out m (omega (arith, p)) (omega (arith, q))) in
      let own = off-leaf (i ∷ w) l (h [] i here_out) in
      λ x. leaf (own x) (rest x)

pub unmatched : (rs : List Replacement) (w : List ℕ) (l : Leaf) → list_any (λ s. same s.up w) rs ≡ false → leaf_after rs w l ≡ l
unmatched [] w l h = refl
unmatched (s ∷ rs) w l h =
    let z = or_parts (same s.up w) (list_any (λ s. same s.up w) rs) h in
    ap (λ (b : Bool). if b then s.leaf else leaf_after rs w l) z.0 ∙ unmatched rs w l z.1

-- ---- from a leaf up to the root

-- mapped by `q`, the forests are the old ones
abbrev pub MapsBack : (ℕ → List ℕ) → Tree → List Replacement → Type 0
MapsBack q t rs = (w : List ℕ) (i : ℕ) (f : Forest) (more : List Term) → drop i (children_in (term_by t w)) ≡ terms f ++ more → mapped_texts q (with_leaves rs w i f) ≡ f

module _ (q : ℕ → List ℕ) (some : (c : ℕ) → q c ≡ [] → ⊥) (t : Tree) (rs : List Replacement) (r : Replacement) (old : Leaf) (back : MapsBack q t rs) where
  -- the children of a node on the path
  pub record Climbed (w : List ℕ) (n : Tree) : Type 0 where
    pub before : List ℕ
    pub after : List ℕ
    pub replaces : ReplacesText old.text r.leaf.text (with_leaves rs w 0 n.forest) (with_leaves (r ∷ rs) w 0 n.forest) before after
    pub far : length (flat_map q before) + start_by t w ≡ start_by t r.up

  -- one term is replaced by another in the children of a node
  module _ (w : List ℕ) (j : ℕ) (n : Tree) (x : Term) (node_is : term_by t w ≡ Some (Node n)) (p : Parted n.forest j x) (out : (v : List ℕ) (k : ℕ) → (k ≡ j → ⊥) → same r.up (v ++ k ∷ w) ≡ false) where
    fronts : Forest
    fronts = with_leaves rs w 0 p.front

    as-old : with_leaves rs w 0 n.forest ≡ beside fronts (with_leaves rs w j (first_of x p.rest))
    unfolding fronts
    as-old =
        ap (λ z. with_leaves rs w 0 z) p.parts ∙ with-beside rs w 0 p.front (first_of x p.rest)
        ∙ ap (λ k. beside (with_leaves rs w 0 p.front) (with_leaves rs w k (first_of x p.rest))) (let c = p.count in let z : 0 + length (terms p.front) ≡ j = omega (arith, c) in z)

    as-new : with_leaves (r ∷ rs) w 0 n.forest ≡ beside fronts (with_leaves (r ∷ rs) w j (first_of x p.rest))
    unfolding fronts
    as-new =
        ap (λ z. with_leaves (r ∷ rs) w 0 z) p.parts ∙ with-beside (r ∷ rs) w 0 p.front (first_of x p.rest)
        ∙ ap (λ k. beside (with_leaves (r ∷ rs) w 0 p.front) (with_leaves (r ∷ rs) w k (first_of x p.rest))) (let c = p.count in let z : 0 + length (terms p.front) ≡ j = omega (arith, c) in z)
        ∙ ap (λ z. beside z (with_leaves (r ∷ rs) w j (first_of x p.rest))) (off-range rs r w j 0 p.front out (λ k a b e. let c = p.count in absurd (omega (arith, b, c, e))))

    rest-same : with_leaves (r ∷ rs) w (j + 1) p.rest ≡ with_leaves rs w (j + 1) p.rest
    rest-same = off-range rs r w j (j + 1) p.rest out (λ k a b e. absurd (omega (arith, a, e)))

    -- the text before it
    before-far : length (flat_map q (forest_text fronts)) ≡ length (texts_of (take j (children_in (term_by t w))))
    unfolding fronts
    before-far =
        let inner : children_in (term_by t w) ≡ terms n.forest = ap children_in node_is in
        let all : terms n.forest ≡ terms p.front ++ terms (first_of x p.rest) = ap terms p.parts ∙ terms-beside p.front (first_of x p.rest) in
        ap length (of_text q some (with_leaves rs w 0 p.front))
        ∙ ap (λ z. length (forest_text z)) (back w 0 p.front (terms (first_of x p.rest)) (inner ∙ all))
        ∙ ap (λ z. length (forest_text z)) (sym (forest_of-terms p.front))
        ∙ ap (λ z. length (texts_of z)) (p.taken ∙ ap (λ z. take j z) (sym inner))

    put-there : {u v : Forest} {a b : List ℕ} → ReplacesText old.text r.leaf.text u v a b
        → with_leaves rs w j (first_of x p.rest) ≡ u → with_leaves (r ∷ rs) w j (first_of x p.rest) ≡ v
        → length (flat_map q a) + start_by t (j ∷ w) ≡ start_by t r.up → Climbed w n
    put-there {u} {v} {a} {b} h is_u is_v far = record {
      before = forest_text fronts ++ a;
      after = b;
      replaces = subst (λ z. ReplacesText old.text r.leaf.text z (with_leaves (r ∷ rs) w 0 n.forest) (forest_text fronts ++ a) b) (sym (as-old ∙ ap (λ z. beside fronts z) is_u))
          (subst (λ z. ReplacesText old.text r.leaf.text (beside fronts u) z (forest_text fronts ++ a) b) (sym (as-new ∙ ap (λ z. beside fronts z) is_v)) (replaced-beside fronts h));
      far =
          let sizes = ap length (flat_map-append q (forest_text fronts) a) in
          let parts = length-append (flat_map q (forest_text fronts)) (flat_map q a) in
          let own = before-far in
          omega (arith, sizes, parts, own, far);
    }

  node-over : (j : ℕ) (w : List ℕ) (x : Term) → term_by t (j ∷ w) ≡ Some x → (m : Tree) × (term_by t w ≡ Some (Node m)) × (slice_get (terms m.forest) j ≡ Some x)
  node-over j w x h = by_term (term_by t w) refl h
    where
      by_term : (o : Option Term) → term_by t w ≡ o → slice_get (children_in o) j ≡ Some x → (m : Tree) × (term_by t w ≡ Some (Node m)) × (slice_get (terms m.forest) j ≡ Some x)
      by_term None e g = absurd (let z : None ≡ Some x = g in cc)
      by_term (Some (Node m)) e g = (m, e, g)
      by_term (Some (Token l)) e g = absurd (let z : None ≡ Some x = g in cc)

  climb : (w y : List ℕ) (n : Tree) → r.up ≡ y ++ w → term_by t w ≡ Some (Node n) → Climbed w n → Climbed [] t
  climb [] y n is node_is c =
      let one : t ≡ n = let z : Some (Node t) ≡ Some (Node n) = node_is in cc in
      subst (λ m. Climbed [] m) (sym one) c
  climb (j ∷ w) y n is node_is c =
      let over = node-over j w (Node n) node_is in
      let m = over.0 in
      let p = part m.forest j (Node n) over.2 in
      let out : (v : List ℕ) (k : ℕ) → (k ≡ j → ⊥) → same r.up (v ++ k ∷ w) ≡ false = λ v k ne. ap (λ u. same u (v ++ k ∷ w)) is ∙ others y v w j k ne in
      climb w (y ++ j ∷ []) m (is ∙ sym (append_assoc y (j ∷ []) w)) over.1
      (put-there w j m (Node n) over.1 p out
      (inside n.kind (with_leaves rs (j ∷ w) 0 n.forest) (with_leaves (r ∷ rs) (j ∷ w) 0 n.forest) (with_leaves rs w (j + 1) p.rest) c.before c.after c.replaces)
      refl
      (ap (λ z. node n.kind (with_leaves (r ∷ rs) (j ∷ w) 0 n.forest) z) (rest-same w j m (Node n) over.1 p out))
      c.far)

  -- The leaf at the path is replaced in the whole forest.
  pub replaced-at : (i : ℕ) (w : List ℕ) → r.up ≡ i ∷ w → term_by t (i ∷ w) ≡ Some (Token old) → old.kind ≡ r.leaf.kind → list_any (λ s. same s.up r.up) rs ≡ false → Climbed [] t
  replaced-at i w is stands kinds apart =
      let over = node-over i w (Token old) stands in
      let n = over.0 in
      let p = part n.forest i (Token old) over.2 in
      let out : (v : List ℕ) (k : ℕ) → (k ≡ i → ⊥) → same r.up (v ++ k ∷ w) ≡ false = λ v k ne. ap (λ u. same u (v ++ k ∷ w)) is ∙ others [] v w i k ne in
      let R = with_leaves rs w (i + 1) p.rest in
      let stays : leaf_after rs (i ∷ w) old ≡ old = unmatched rs (i ∷ w) old (ap (λ u. list_any (λ s. same s.up u) rs) (sym is) ∙ apart) in
      let goes : leaf_after (r ∷ rs) (i ∷ w) old ≡ r.leaf = ap (λ (b : Bool). if b then r.leaf else leaf_after rs (i ∷ w) old) (ap (λ u. same u (i ∷ w)) is ∙ same-own (i ∷ w)) in
      let one : Leaf = record { kind = r.leaf.kind; text = old.text } in
      let leaf_is : old ≡ one = ap (λ (k : ℕ). let l : Leaf = record { kind = k; text = old.text } in l) kinds in
      climb w (i ∷ []) n is over.1
      (put-there w i n (Token old) over.1 p out (here r.leaf.kind R)
      (ap (λ z. leaf z R) (stays ∙ leaf_is))
      ((λ x. leaf (goes x) (rest-same w i n (Token old) over.1 p out x)))
      (let e = ap (λ v. start_by t v) (sym is) in omega (arith, e)))
