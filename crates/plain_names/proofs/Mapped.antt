-- Trees dressed with mapped leaves.
use Rattle.std.proofs.Common.{◌≡◌, ℕ, zero, suc, ◌+◌, ◌-◌, Bool, true, false, not, ◌&&◌, ◌||◌, ◌==◌, List, [], ◌∷◌, ◌++◌, length, take, drop, refl, sym, ◌∙◌, ap, subst, arith, inl, inr, ◌⊎◌, if◌then◌else◌}
use Rattle.std.specs.List.{flat_map, list_any, prefix_len}
use Rattle.std.proofs.lemmas.Bool.{cases_Bool}
use Rattle.std.proofs.lemmas.Bool.Decides.{Decides-eqb}
use Rattle.std.proofs.lemmas.Grind.{flat_map-append}
use Rattle.parser_input.specs.Kinds.{ERROR, FIELD_EXPR, NAME_REF, INT_NUMBER, FLOAT_NUMBER, DOT}
use Rattle.parser_input.specs.Leaf.{Leaf, is_trivia}
use Rattle.parser_events.specs.Forest as forest
use Rattle.parser_events.specs.Forest.{Message, IllegalFloat}
use Rattle.parser_events.specs.Dressed as dressed
use Rattle.parser_events.specs.Dressed.{Dressed, ◌followed_by◌}
use Rattle.parser_events.specs.Trivia.{pending, attached}
use Rattle.parser_events.specs.Dress.{Dressing, joined, as_dressed, reach, put, put_each, put_pending, put_leaf, open_node, close_node, say, next_text, before_dot, from_dot, is_empty, number, access, access_dot, dress, root, dress_root}
use Rattle.rowan_green.specs.Forest.{Forest, empty, node, leaf}
use Rattle.plain_names.specs.Trees.{dressed_forest, mapped_leaves, KeepsDots, KeepsTrivia, composed}

abbrev a_leaf : ℕ → List ℕ → Forest → Forest
a_leaf k t r = leaf (record { kind = k; text = t }) r

-- ---- terms beside others

beside : Forest → Forest → Forest
beside empty u = u
beside (node k f r) u = node k f (beside r u)
beside (leaf l r) u = leaf l (beside r u)

terms-followed : (g : ℕ → List ℕ) (a b : Dressed) → dressed_forest g (a followed_by b) ≡ beside (dressed_forest g a) (dressed_forest g b)
unfolding beside
terms-followed g dressed.End b = refl
terms-followed g (dressed.Leaf k t d) b = ap (λ (r : Forest). a_leaf k (flat_map g t) r) (terms-followed g d b)
terms-followed g (dressed.Said m p d) b = terms-followed g d b
terms-followed g (dressed.Node k c d) b = ap (λ (r : Forest). node k (dressed_forest g c) r) (terms-followed g d b)

one-more : (n : ℕ) → 1 + n ≡ suc n
one-more n = omega arith

take-one : {X : Type 0} (n : ℕ) (x : X) (xs : List X) → take (1 + n) (x ∷ xs) ≡ x ∷ take n xs
take-one n x xs = ap (λ (k : ℕ). take k (x ∷ xs)) (one-more n)

drop-one : {X : Type 0} (n : ℕ) (x : X) (xs : List X) → drop (1 + n) (x ∷ xs) ≡ drop n xs
drop-one n x xs = ap (λ (k : ℕ). drop k (x ∷ xs)) (one-more n)

pending-more : (l : Leaf) (ls : List Leaf) → is_trivia l ≡ true → pending (l ∷ ls) ≡ l ∷ pending ls
unfolding pending
pending-more l ls i = rw i (take-one (prefix_len is_trivia ls) l ls)

pending-none : (l : Leaf) (ls : List Leaf) → is_trivia l ≡ false → pending (l ∷ ls) ≡ []
unfolding pending
pending-none l ls i = rw i refl

module _ (g h : ℕ → List ℕ) where
  pub fused : (t : List ℕ) → flat_map g (flat_map h t) ≡ flat_map (composed g h) t
  fused [] = refl
  fused (c ∷ cs) = flat_map-append g (h c) (flat_map h cs) ∙ ap (λ x. flat_map g (h c) ++ x) (fused cs)

  -- ---- leaves

  names-take : (n : ℕ) (ls : List Leaf) → take n (mapped_leaves h ls) ≡ mapped_leaves h (take n ls)
  names-take zero ls = refl
  names-take (suc n) [] = refl
  names-take (suc n) (l ∷ ls) = ap (λ (r : List Leaf). record { kind = l.kind; text = flat_map h l.text } ∷ r) (names-take n ls)

  names-drop : (n : ℕ) (ls : List Leaf) → drop n (mapped_leaves h ls) ≡ mapped_leaves h (drop n ls)
  names-drop zero ls = refl
  names-drop (suc n) [] = refl
  names-drop (suc n) (l ∷ ls) = names-drop n ls

  names-length : (ls : List Leaf) → length (mapped_leaves h ls) ≡ length ls
  names-length [] = refl
  names-length (l ∷ ls) = ap suc (names-length ls)

  names-joined : (ls : List Leaf) → joined (mapped_leaves h ls) ≡ flat_map h (joined ls)
  unfolding joined
  names-joined [] = refl
  names-joined (l ∷ ls) = ap (λ x. flat_map h l.text ++ x) (names-joined ls) ∙ sym (flat_map-append h l.text (joined ls))

  names-dressed : (ls : List Leaf) → dressed_forest g (as_dressed (mapped_leaves h ls)) ≡ dressed_forest (composed g h) (as_dressed ls)
  unfolding as_dressed
  names-dressed [] = refl
  names-dressed (l ∷ ls) = ap (λ x. a_leaf l.kind x (dressed_forest g (as_dressed (mapped_leaves h ls)))) (fused l.text) ∙ ap (λ (r : Forest). a_leaf l.kind (flat_map (composed g h) l.text) r) (names-dressed ls)

  names-next : (ls : List Leaf) → next_text (mapped_leaves h ls) ≡ flat_map h (next_text ls)
  unfolding next_text
  names-next [] = refl
  names-next (l ∷ ls) = refl

  names-reach : (n : ℕ) (ls : List Leaf) → reach n (mapped_leaves h ls) ≡ reach n ls
  unfolding reach is_trivia
  names-reach zero ls = refl
  names-reach (suc n) [] = refl
  names-reach (suc n) (l ∷ ls) = ap (λ (x : ℕ). if is_trivia l then 1 + x else 1 + reach n (mapped_leaves h ls)) (names-reach (suc n) ls) ∙ ap (λ (x : ℕ). if is_trivia l then 1 + reach (suc n) ls else 1 + x) (names-reach n ls)

  calm-drop : (n : ℕ) (ls : List Leaf) → KeepsTrivia h ls → KeepsTrivia h (drop n ls)
  calm-drop zero ls c = c
  calm-drop (suc n) [] c = tt
  calm-drop (suc n) (l ∷ ls) c = calm-drop n ls c.1

  abbrev renamed : Leaf → Leaf
  renamed l = record { kind = l.kind; text = flat_map h l.text }

  same-trivia : (l : Leaf) → is_trivia (renamed l) ≡ is_trivia l
  unfolding is_trivia
  same-trivia l = refl

  names-pending : (ls : List Leaf) → KeepsTrivia h ls → pending (mapped_leaves h ls) ≡ pending ls
  names-pending [] c = refl
  names-pending (l ∷ ls) c = elim (cases_Bool (is_trivia l)) [
    | inl i ↦ pending-more (renamed l) (mapped_leaves h ls) (same-trivia l ∙ i) ∙ ap (λ (t : List ℕ). let m : Leaf = record { kind = l.kind; text = t } in m ∷ pending (mapped_leaves h ls)) (c.0 i) ∙ ap (λ (r : List Leaf). l ∷ r) (names-pending ls c.1) ∙ sym (pending-more l ls i)
    | inr i ↦ pending-none (renamed l) (mapped_leaves h ls) (same-trivia l ∙ i) ∙ sym (pending-none l ls i)
  ]

  -- ---- dots

  at-before : (c : ℕ) (cs : List ℕ) → (c == 46) ≡ true → before_dot (c ∷ cs) ≡ []
  unfolding before_dot
  at-before c cs i = rw i refl

  past-before : (c : ℕ) (cs : List ℕ) → (c == 46) ≡ false → before_dot (c ∷ cs) ≡ c ∷ before_dot cs
  unfolding before_dot
  past-before c cs i = rw i (take-one (prefix_len (λ x. not (x == 46)) cs) c cs)

  at-from : (c : ℕ) (cs : List ℕ) → (c == 46) ≡ true → from_dot (c ∷ cs) ≡ c ∷ cs
  unfolding from_dot
  at-from c cs i = rw i refl

  past-from : (c : ℕ) (cs : List ℕ) → (c == 46) ≡ false → from_dot (c ∷ cs) ≡ from_dot cs
  unfolding from_dot
  past-from c cs i = rw i (drop-one (prefix_len (λ x. not (x == 46)) cs) c cs)

  no-dot : (d : ℕ) (ds : List ℕ) → list_any (λ d. d == 46) (d ∷ ds) ≡ false → ((d == 46) ≡ false) × (list_any (λ d. d == 46) ds ≡ false)
  no-dot d ds n = whichever (d == 46) n
    where
      whichever : (b : Bool) → (b || list_any (λ d. d == 46) ds) ≡ false → (b ≡ false) × (list_any (λ d. d == 46) ds ≡ false)
      whichever true z = absurd (let y : true ≡ false = z in cc)
      whichever false z = (refl, z)

  none-before : (ds es : List ℕ) → list_any (λ d. d == 46) ds ≡ false → before_dot (ds ++ es) ≡ ds ++ before_dot es
  none-before [] es n = refl
  none-before (d ∷ ds) es n = past-before d (ds ++ es) (no-dot d ds n).0 ∙ ap (λ x. d ∷ x) (none-before ds es (no-dot d ds n).1)

  none-from : (ds es : List ℕ) → list_any (λ d. d == 46) ds ≡ false → from_dot (ds ++ es) ≡ from_dot es
  none-from [] es n = refl
  none-from (d ∷ ds) es n = past-from d (ds ++ es) (no-dot d ds n).0 ∙ none-from ds es (no-dot d ds n).1

  module _ (keeps : KeepsDots h) where
    dot-is : (c : ℕ) → (c == 46) ≡ true → h c ≡ 46 ∷ []
    dot-is c i = ap h ((Decides-eqb c 46).0 i) ∙ keeps.dot

    before : (t : List ℕ) → before_dot (flat_map h t) ≡ flat_map h (before_dot t)
    unfolding before_dot
    before [] = refl
    before (c ∷ cs) = elim (cases_Bool (c == 46)) [
      | inl i ↦ ap (λ (x : List ℕ). before_dot (x ++ flat_map h cs)) (dot-is c i) ∙ at-before 46 (flat_map h cs) refl ∙ ap (λ x. flat_map h x) (sym (at-before c cs i))
      | inr i ↦ none-before (h c) (flat_map h cs) (keeps.others c i) ∙ ap (λ x. h c ++ x) (before cs) ∙ ap (λ x. flat_map h x) (sym (past-before c cs i))
    ]

    from : (t : List ℕ) → from_dot (flat_map h t) ≡ flat_map h (from_dot t)
    unfolding from_dot
    from [] = refl
    from (c ∷ cs) = elim (cases_Bool (c == 46)) [
      | inl i ↦ ap (λ (x : List ℕ). from_dot (x ++ flat_map h cs)) (dot-is c i) ∙ at-from 46 (flat_map h cs) refl ∙ ap (λ (x : List ℕ). x ++ flat_map h cs) (sym (dot-is c i)) ∙ ap (λ x. flat_map h x) (sym (at-from c cs i))
      | inr i ↦ none-from (h c) (flat_map h cs) (keeps.others c i) ∙ from cs ∙ ap (λ x. flat_map h x) (sym (past-from c cs i))
    ]

    -- from the first dot on: nothing, or the dot and what follows
    begins : (t : List ℕ) → (from_dot t ≡ []) ⊎ ((r : List ℕ) × (from_dot t ≡ 46 ∷ r))
    unfolding from_dot
    begins [] = inl refl
    begins (c ∷ cs) = elim (cases_Bool (c == 46)) [
      | inl i ↦ inr (cs, at-from c cs i ∙ ap (λ x. x ∷ cs) ((Decides-eqb c 46).0 i))
      | inr i ↦ subst (λ (x : List ℕ). (x ≡ []) ⊎ ((r : List ℕ) × (x ≡ 46 ∷ r))) (sym (past-from c cs i)) (begins cs)
    ]

    flag : (t : List ℕ) → is_empty (flat_map h (from_dot t)) ≡ is_empty (from_dot t)
    unfolding is_empty
    flag t = elim (begins t) [
      | inl e ↦ rw e refl
      | inr x ↦ rw (x.1) (rw (keeps.dot) refl)
    ]

    dot-one : (t : List ℕ) → take 1 (flat_map h (from_dot t)) ≡ flat_map h (take 1 (from_dot t))
    dot-one t = elim (begins t) [
      | inl e ↦ rw e refl
      | inr x ↦ rw (x.1) (rw (keeps.dot) refl)
    ]

    dot-rest : (t : List ℕ) → drop 1 (flat_map h (from_dot t)) ≡ flat_map h (drop 1 (from_dot t))
    dot-rest t = elim (begins t) [
      | inl e ↦ rw e refl
      | inr x ↦ rw (x.1) (rw (keeps.dot) refl)
    ]

  -- ---- what was put so far, and the leaves left

  record Alike (s t : Dressing) : Type 0 where
    given : dressed_forest g s.given ≡ dressed_forest (composed g h) t.given
    left : s.left ≡ mapped_leaves h t.left
    calm : KeepsTrivia h t.left

  pendings : (s t : Dressing) → Alike s t → pending s.left ≡ pending t.left
  pendings s t a = ap pending a.left ∙ names-pending t.left a.calm

  nexts : (s t : Dressing) → Alike s t → next_text s.left ≡ flat_map h (next_text t.left)
  nexts s t a = ap next_text a.left ∙ names-next t.left

  put-alike : (a b : Dressed) (u v : List ℕ) (n m : ℕ) (s t : Dressing) → dressed_forest g a ≡ dressed_forest (composed g h) b → n ≡ m → Alike s t → Alike (put a u n s) (put b v m t)
  unfolding put
  put-alike a b u v n m s t e i h2 = record {
    given = terms-followed g s.given a ∙ ap (λ (x : Forest). beside x (dressed_forest g a)) h2.given ∙ ap (λ (x : Forest). beside (dressed_forest (composed g h) t.given) x) e ∙ sym (terms-followed (composed g h) t.given b);
    left = ap (λ (k : ℕ). drop k s.left) i ∙ ap (λ (ls : List Leaf). drop m ls) h2.left ∙ names-drop m t.left;
    calm = calm-drop m t.left h2.calm;
  }

  each-alike : (n m : ℕ) (s t : Dressing) → n ≡ m → Alike s t → Alike (put_each n s) (put_each m t)
  unfolding put_each
  each-alike n m s t i a = put-alike (as_dressed (take n s.left)) (as_dressed (take m t.left)) _ _ n m s t
      (ap (λ (k : ℕ). dressed_forest g (as_dressed (take k s.left))) i ∙ ap (λ (ls : List Leaf). dressed_forest g (as_dressed (take m ls))) a.left ∙ ap (λ (ls : List Leaf). dressed_forest g (as_dressed ls)) (names-take m t.left) ∙ names-dressed (take m t.left))
      i a

  pending-alike : (s t : Dressing) → Alike s t → Alike (put_pending s) (put_pending t)
  unfolding put_pending
  pending-alike s t a = each-alike (length (pending s.left)) (length (pending t.left)) s t (ap length (pendings s t a)) a

  leaf-alike : (k n : ℕ) (s t : Dressing) → Alike s t → Alike (put_leaf k n s) (put_leaf k n t)
  unfolding put_leaf
  leaf-alike k n s t a =
      let reaches : reach n s.left ≡ reach n t.left = ap (λ (ls : List Leaf). reach n ls) a.left ∙ names-reach n t.left in
      let text : joined (take (reach n s.left) s.left) ≡ flat_map h (joined (take (reach n t.left) t.left)) =
      ap (λ (m : ℕ). joined (take m s.left)) reaches ∙ ap (λ (ls : List Leaf). joined (take (reach n t.left) ls)) a.left ∙ ap joined (names-take (reach n t.left) t.left) ∙ names-joined (take (reach n t.left) t.left) in
      put-alike (dressed.Leaf k (joined (take (reach n s.left) s.left)) dressed.End) (dressed.Leaf k (joined (take (reach n t.left) t.left)) dressed.End) _ _ _ _ s t
      (ap (λ (x : List ℕ). a_leaf k (flat_map g x) empty) text ∙ ap (λ (x : List ℕ). a_leaf k x empty) (fused (joined (take (reach n t.left) t.left))))
      reaches a

  say-alike : (m : Message) (s t : Dressing) → Alike s t → Alike (say m s) (say m t)
  unfolding say
  say-alike m s t a = record {
    given = terms-followed g s.given (dressed.Said m s.place dressed.End) ∙ ap (λ (x : Forest). beside x empty) a.given ∙ sym (terms-followed (composed g h) t.given (dressed.Said m t.place dressed.End));
    left = a.left;
    calm = a.calm;
  }

  open-alike : (s t : Dressing) → Alike s t → Alike (open_node s) (open_node t)
  unfolding open_node
  open-alike s t a = record { given = refl; left = a.left; calm = a.calm }

  close-alike : (k : ℕ) (b c s t : Dressing) → dressed_forest g b.given ≡ dressed_forest (composed g h) c.given → Alike s t → Alike (close_node k b s) (close_node k c t)
  unfolding close_node
  close-alike k b c s t e a = record {
    given = terms-followed g b.given (dressed.Node k s.given dressed.End) ∙ ap (λ (x : Forest). beside x (node k (dressed_forest g s.given) empty)) e ∙ ap (λ (x : Forest). beside (dressed_forest (composed g h) c.given) (node k x empty)) a.given ∙ sym (terms-followed (composed g h) c.given (dressed.Node k t.given dressed.End));
    left = a.left;
    calm = a.calm;
  }

  number-alike : (x t : List ℕ) → x ≡ flat_map h t → dressed_forest g (number x) ≡ dressed_forest (composed g h) (number t)
  unfolding number
  number-alike x t e = ap (λ (y : List ℕ). node NAME_REF (a_leaf INT_NUMBER (flat_map g y) empty) empty) e ∙ ap (λ (y : List ℕ). node NAME_REF (a_leaf INT_NUMBER y empty) empty) (fused t)

  leaf-text : (k : ℕ) (x t : List ℕ) (u v : Forest) → x ≡ flat_map h t → u ≡ v → a_leaf k (flat_map g x) u ≡ a_leaf k (flat_map (composed g h) t) v
  leaf-text k x t u v e i = ap (λ (y : List ℕ). a_leaf k (flat_map g y) u) e ∙ ap (λ (y : List ℕ). a_leaf k y u) (fused t) ∙ ap (λ (w : Forest). a_leaf k (flat_map (composed g h) t) w) i

  module _ (keeps : KeepsDots h) where
    befores : (s t : Dressing) → Alike s t → before_dot (next_text s.left) ≡ flat_map h (before_dot (next_text t.left))
    befores s t a = ap before_dot (nexts s t a) ∙ before keeps (next_text t.left)

    froms : (s t : Dressing) → Alike s t → from_dot (next_text s.left) ≡ flat_map h (from_dot (next_text t.left))
    froms s t a = ap from_dot (nexts s t a) ∙ from keeps (next_text t.left)

    flags : (s t : Dressing) → Alike s t → is_empty (from_dot (next_text s.left)) ≡ is_empty (from_dot (next_text t.left))
    flags s t a = ap is_empty (froms s t a) ∙ flag keeps (next_text t.left)

    inner-alike : (b c s t : Dressing) → dressed_forest g b.given ≡ dressed_forest (composed g h) c.given → Alike s t → Alike (close_node FIELD_EXPR b (put (number (before_dot (next_text s.left))) (next_text s.left) 1 s)) (close_node FIELD_EXPR c (put (number (before_dot (next_text t.left))) (next_text t.left) 1 t))
    inner-alike b c s t e a = close-alike FIELD_EXPR b c _ _ e (put-alike _ _ (next_text s.left) (next_text t.left) 1 1 s t (number-alike (before_dot (next_text s.left)) (before_dot (next_text t.left)) (befores s t a)) refl a)

    access-alike : (b c s t : Dressing) → dressed_forest g b.given ≡ dressed_forest (composed g h) c.given → Alike s t → Alike (access b s) (access c t)
    unfolding access
    access-alike b c s t e a = elim (cases_Bool (is_empty (from_dot (next_text t.left)))) [
      | inl f ↦ rw (flags s t a ∙ f, f) (close-alike FIELD_EXPR b c _ _ e (put-alike _ _ (next_text s.left) (next_text t.left) 1 1 (say IllegalFloat s) (say IllegalFloat t) (ap (λ (x : Forest). node ERROR x empty) (leaf-text FLOAT_NUMBER (next_text s.left) (next_text t.left) empty empty (nexts s t a) refl)) refl (say-alike IllegalFloat s t a)))
      | inr f ↦ rw (flags s t a ∙ f, f) (put-alike _ _ [] [] 0 0 _ _
          (leaf-text DOT (take 1 (from_dot (next_text s.left))) (take 1 (from_dot (next_text t.left))) _ _ (ap (λ (x : List ℕ). take 1 x) (froms s t a) ∙ dot-one keeps (next_text t.left))
          (number-alike (drop 1 (from_dot (next_text s.left))) (drop 1 (from_dot (next_text t.left))) (ap (λ (x : List ℕ). drop 1 x) (froms s t a) ∙ dot-rest keeps (next_text t.left))))
          refl (inner-alike b c s t e a))
    ]

    parted-alike : (b c s t : Dressing) → dressed_forest g b.given ≡ dressed_forest (composed g h) c.given → Alike s t → Alike (access_dot b s) (access_dot c t)
    unfolding access_dot
    parted-alike b c s t e a = put-alike _ _ [] [] 0 0 _ _ (leaf-text DOT (from_dot (next_text s.left)) (from_dot (next_text t.left)) empty empty (froms s t a) refl) refl (inner-alike b c s t e a)

    dress-alike : (f : forest.Forest) (s t : Dressing) → Alike s t → Alike (dress f s) (dress f t)
    unfolding dress
    dress-alike forest.End s t a = a
    dress-alike (forest.Leaf k n f) s t a = dress-alike f _ _ (leaf-alike k n _ _ (pending-alike s t a))
    dress-alike (forest.Said m f) s t a = dress-alike f _ _ (say-alike m s t a)
    dress-alike (forest.ErrorLeaf m k f) s t a =
        let b = pending-alike s t a in
        dress-alike f _ _ (close-alike ERROR _ _ _ _ b.given (leaf-alike k 1 _ _ (say-alike m _ _ (open-alike _ _ b))))
    dress-alike (forest.Node k c f) s t a =
        let same = pendings s t a in
        let b = each-alike (length (pending s.left) - attached k (pending s.left)) (length (pending t.left) - attached k (pending t.left)) s t (ap (λ (ls : List Leaf). length ls - attached k ls) same) a in
        dress-alike f _ _ (close-alike k _ _ _ _ b.given (dress-alike c _ _ (each-alike (attached k (pending s.left)) (attached k (pending t.left)) _ _ (ap (λ (ls : List Leaf). attached k ls) same) (open-alike _ _ b))))
    dress-alike (forest.Float d c f) s t a =
        let b = pending-alike s t a in
        let r = pending-alike _ _ (dress-alike c _ _ (open-alike _ _ b)) in
        let q = put_pending (dress c (open_node (put_pending s))) in
        let o = put_pending (dress c (open_node (put_pending t))) in
        elim (cases_Bool (d && not (is_empty (from_dot (next_text o.left))))) [
          | inl i ↦ rw (ap (λ (x : Bool). d && not x) (flags q o r) ∙ i, i) (dress-alike f _ _ (parted-alike _ _ q o b.given r))
          | inr i ↦ rw (ap (λ (x : Bool). d && not x) (flags q o r) ∙ i, i) (dress-alike f _ _ (close-alike FIELD_EXPR _ _ _ _ b.given (access-alike _ _ q o (open-alike _ _ b).given r)))
        ]

    start-alike : (ls : List Leaf) → KeepsTrivia h ls → Alike (record { given = dressed.End; place = 0; left = mapped_leaves h ls }) (record { given = dressed.End; place = 0; left = ls })
    start-alike ls c = record { given = refl; left = refl; calm = c }

    all-alike : (s t : Dressing) → Alike s t → Alike (put_each (length s.left) s) (put_each (length t.left) t)
    all-alike s t a = each-alike _ _ s t (ap (λ (ls : List Leaf). length ls) a.left ∙ names-length t.left) a

    root-alike : (k : ℕ) (s t : Dressing) → Alike s t → Alike (root k s) (root k t)
    unfolding root
    root-alike k s t a = close-alike k _ _ _ _ (open-alike s t a).given (all-alike s t a)

    whole-alike : (f : forest.Forest) (ls : List Leaf) → KeepsTrivia h ls → dressed_forest g (dress_root f (mapped_leaves h ls)) ≡ dressed_forest (composed g h) (dress_root f ls)
    unfolding dress_root
    whole-alike forest.End ls c = (all-alike _ _ (start-alike ls c)).given
    whole-alike (forest.Leaf k n f) ls c = (all-alike _ _ (start-alike ls c)).given
    whole-alike (forest.Said m f) ls c = (all-alike _ _ (start-alike ls c)).given
    whole-alike (forest.ErrorLeaf m k f) ls c = (all-alike _ _ (start-alike ls c)).given
    whole-alike (forest.Node k d f) ls c = (root-alike k _ _ (dress-alike d _ _ (start-alike ls c))).given
    whole-alike (forest.Float e d f) ls c =
        let b = pending-alike _ _ (start-alike ls c) in
        let r = pending-alike _ _ (dress-alike d _ _ (open-alike _ _ b)) in
        (root-alike FIELD_EXPR _ _ (access-alike _ _ _ _ b.given r)).given

pub ignores-names : (g h : ℕ → List ℕ) (f : forest.Forest) (ls : List Leaf) → KeepsDots h → KeepsTrivia h ls → dressed_forest g (dress_root f (mapped_leaves h ls)) ≡ dressed_forest (composed g h) (dress_root f ls)
ignores-names g h f ls keeps calm = whole-alike g h keeps f ls calm
