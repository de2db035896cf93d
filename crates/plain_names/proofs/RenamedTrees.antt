-- Several names renamed at once in the tree: tags replace them one after another, and then the new names replace the tags.
use Rattle.std.proofs.Common.{◌≡◌, ℕ, zero, suc, ◌+◌, ◌-◌, ◌<◌, ◌≤◌, Bool, true, false, not, ◌||◌, ◌==◌, ltb, List, [], ◌∷◌, ◌++◌, length, take, drop, map, slice_get, Option, Some, None, append-nil, refl, sym, ◌∙◌, ap, subst, arith, inl, inr, if◌then◌else◌}
use Rattle.std.specs.List.{flat_map, list_any, list_all}
use Rattle.std.proofs.lemmas.Bool.{cases_Bool, eq-eqb, eqb-true, ne_eqb, ltb-true, ltb-false, or_parts}
use Rattle.std.proofs.lemmas.Grind.{flat_map-append}
use Rattle.rowan_green.specs.Leaf as green
use Rattle.rowan_green.specs.Forest.{Forest, empty, node, leaf, Tree, forest_text}
use Rattle.rowan_green.specs.Term.{Term, terms, text_of}
use Rattle.rowan_green.specs.declared.utility_types.NodeOrToken.TheVariants.{Node, Token}
use Rattle.rowan.specs.Place.{term_by, start_by, children_in}
use Rattle.parser_input.specs.Kinds.{IDENT}
use Rattle.parser_input.specs.Leaf.{Leaf}
use Rattle.parser_events.specs.Forest as forest
use Rattle.parser_events.specs.Dress.{joined, dress_root}
use Rattle.parser_events.proofs.Texts.{text-is-text}
use Rattle.plain_names.specs.Forests.{mapped_texts, ReplacesText, inside}
use Rattle.plain_names.specs.Replacements.{Replacement, leaf_after, with_leaves, AreApart}
use Rattle.plain_names.specs.Trees.{dressed_forest, mapped_leaves, KeepsDots, KeepsTrivia, composed, has, IsName}
use Rattle.plain_names.specs.Renames.{Rename, name_after}
use Rattle.plain_names.proofs.Inputs.{name-solid}
use Rattle.plain_names.proofs.OneForest as one_forest
use Rattle.plain_names.proofs.Mapped.{ignores-names}
use Rattle.plain_names.proofs.Followed.{followed, dressed-text, joined-cons, joined-append, texts-put, terms-again}
use Rattle.plain_names.proofs.Paths.{same, same-sound, MapsBack, replaced-at}
use Rattle.plain_names.proofs.Tags.{all-both, below, parts-below, agree-where, dressed-agree, stays-below, below-has, has-both, has-none, leaf_text, leaf-text-at, drop-next, with_names, no-names, renames, name-stays, name-goes, one-more, names-at}
use Rattle.plain_names.proofs.Tags as tags

abbrev pub name_leaf : List ℕ → Leaf
name_leaf text = record { kind = IDENT; text = text }

-- what holds of each rename: of the leaves and of the tree
pub record Fits (enc : ℕ → List ℕ) (ls : List Leaf) (t : Tree) (r : Rename) : Type 0 where
  pub is_leaf : drop r.number ls ≡ name_leaf r.old ∷ drop (suc r.number) ls
  pub old_some : r.old ≡ [] → ⊥
  pub old_plain : has 46 r.old ≡ false
  pub new_plain : has 46 r.new ≡ false
  pub stands : term_by t r.up ≡ Some (Token (record { kind = IDENT; text = flat_map enc r.old }))
  pub starts : start_by t r.up ≡ length (flat_map enc (joined (take r.number ls)))

abbrev pub AllFit : (ℕ → List ℕ) → List Leaf → Tree → List Rename → Type 0
AllFit enc ls t [] = Unit {0}
AllFit enc ls t (r ∷ rs) = Fits enc ls t r × AllFit enc ls t rs

-- no two renames are of one leaf
abbrev NumbersApart : List Rename → Type 0
NumbersApart [] = Unit {0}
NumbersApart (r ∷ rs) = (renames rs r.number ≡ false) × NumbersApart rs

no-node : (t : Tree) (l : green.Leaf) → term_by t [] ≡ Some (Token l) → ⊥
no-node t l e = let y : Term = Node t in let z : Some y ≡ Some (Token l) = e in cc

there : {X : Type 0} (xs : List X) (i : ℕ) (x : X) (ys : List X) → drop i xs ≡ x ∷ ys → (slice_get xs i ≡ Some x) × (drop (i + 1) xs ≡ ys)
there [] zero x ys e = absurd (let z : [] ≡ x ∷ ys = e in cc)
there [] (suc i) x ys e = absurd (let z : [] ≡ x ∷ ys = e in cc)
there (z ∷ xs) zero x ys e = (let one : z ≡ x = cc in ap Some one, let rest : xs ≡ ys = cc in rest)
there (z ∷ xs) (suc i) x ys e =
    let more = there xs i x ys e in
    (more.0, ap (λ (n : ℕ). drop n (z ∷ xs)) (let n : suc i + 1 ≡ suc (i + 1) = omega arith in n) ∙ more.1)

module _ (enc : ℕ → List ℕ) (limit : ℕ) (some : (c : ℕ) → enc c ≡ [] → ⊥) (low : (c : ℕ) → c < limit → list_all (below limit) (enc c) ≡ true) (dots : 46 < limit) where
  abbrev tag : ℕ → ℕ
  tag = tags.tag enc limit some low dots

  abbrev E : ℕ → List ℕ
  E = tags.spelled enc limit some low dots

  abbrev tagging : List Rename → List Rename
  tagging = tags.tags enc limit some low dots

  -- the replacements in the tree
  abbrev to_tag : Rename → Replacement
  to_tag r = record { up = r.up; leaf = record { kind = IDENT; text = tag r.number ∷ [] } }

  abbrev to_name : Rename → Replacement
  to_name r = record { up = r.up; leaf = record { kind = IDENT; text = flat_map enc r.new } }

  module _ (ls : List Leaf) (t : Tree) (ls_low : list_all (below limit) (joined ls) ≡ true) (t_low : list_all (below limit) (forest_text t.forest) ≡ true) where
    abbrev Q : ℕ → List ℕ
    Q = tags.measured enc limit some low dots ls

    -- ---- what a renamed leaf is

    record NamedAt (l : Leaf) : Type 0 where
      old : List ℕ
      is : l ≡ name_leaf old
      some_text : old ≡ [] → ⊥

    named-at : (rs : List Rename) → AllFit enc ls t rs → (i : ℕ) (l : Leaf) (more : List Leaf) → drop i ls ≡ l ∷ more → renames rs i ≡ true → NamedAt l
    named-at [] a i l more h m = absurd (let y : false ≡ true = m in cc)
    named-at (r ∷ rs) a i l more h m = elim (cases_Bool (r.number == i)) [
      | inr e ↦ named-at rs a.1 i l more h (ap (λ (b : Bool). b || renames rs i) (sym e) ∙ m)
      | inl e ↦
          let n : r.number ≡ i = eqb-true r.number i e in
          let one : l ∷ more ≡ name_leaf r.old ∷ drop (suc r.number) ls = sym h ∙ ap (λ k. drop k ls) (sym n) ∙ a.0.is_leaf in
          record { old = r.old; is = cc; some_text = a.0.old_some }
    ]

    leaf-low : (i : ℕ) (l : Leaf) (more : List Leaf) → list_all (below limit) (joined (l ∷ more)) ≡ true → (list_all (below limit) l.text ≡ true) × (list_all (below limit) (joined more) ≡ true)
    leaf-low i l more a = parts-below limit l.text (joined more) (ap (list_all (below limit)) (sym (joined-cons l more)) ∙ a)

    text-low : (i : ℕ) (ks : List Leaf) → list_all (below limit) (joined ks) ≡ true → (more : List Leaf) (text : List ℕ) → drop i ks ≡ name_leaf text ∷ more → list_all (below limit) text ≡ true
    text-low zero [] b more text h = absurd (let z : [] ≡ name_leaf text ∷ more = h in cc)
    text-low (suc i) [] b more text h = absurd (let z : [] ≡ name_leaf text ∷ more = h in cc)
    text-low zero (k ∷ ks) b more text h = let one : k ≡ name_leaf text = cc in ap (λ (x : Leaf). list_all (below limit) x.text) (sym one) ∙ (leaf-low 0 k ks b).0
    text-low (suc i) (k ∷ ks) b more text h = text-low i ks (leaf-low 0 k ks b).1 more text h

    -- ---- tags mapped back, among the leaves

    one-back : (rs : List Rename) → AllFit enc ls t rs → (i : ℕ) (l : Leaf) (more : List Leaf) → drop i ls ≡ l ∷ more → list_all (below limit) l.text ≡ true
        → flat_map Q (flat_map E (name_after (tagging rs) i l.text)) ≡ flat_map enc l.text
    one-back rs a i l more h b = elim (cases_Bool (renames rs i)) [
      | inl m ↦
          let k = named-at rs a i l more h m in
          let own : leaf_text ls i ≡ l.text = leaf-text-at i ls l more h in
          let nonempty : leaf_text ls i ≡ [] → ⊥ = λ z. k.some_text (sym (own ∙ ap (λ x. x.text) k.is) ∙ z) in
          ap (λ z. flat_map Q (flat_map E z)) (tags.tagged enc limit some low dots rs i l.text m)
          ∙ ap (λ z. flat_map Q z) (tags.spelled-tag enc limit some low dots i)
          ∙ tags.measured-tag enc limit some low dots ls i nonempty
          ∙ ap (λ z. flat_map enc z) own
      | inr m ↦
          ap (λ z. flat_map Q (flat_map E z)) (tags.untagged enc limit some low dots rs i l.text m)
          ∙ ap (λ z. flat_map Q z) (tags.spelled-text enc limit some low dots l.text b)
          ∙ stays-below limit Q (tags.measured-low enc limit some low dots ls) (flat_map enc l.text) (tags.low-all enc limit some low dots l.text b)
    ]

    leaves-back : (rs : List Rename) → AllFit enc ls t rs → (n i : ℕ) (ks : List Leaf) → drop i ls ≡ ks → list_all (below limit) (joined ks) ≡ true
        → flat_map Q (flat_map E (joined (take n (with_names (tagging rs) i ks)))) ≡ flat_map enc (joined (take n ks))
    unfolding joined
    leaves-back rs a zero i ks h b = refl
    leaves-back rs a (suc n) i [] h b = refl
    leaves-back rs a (suc n) i (l ∷ ks) h b =
        let z = leaf-low i l ks b in
        let x = name_after (tagging rs) i l.text in
        let y = joined (take n (with_names (tagging rs) (i + 1) ks)) in
        ap (λ v. flat_map Q v) (flat_map-append E x y) ∙ flat_map-append Q (flat_map E x) (flat_map E y)
        ∙ ap (λ v. v ++ flat_map Q (flat_map E y)) (one-back rs a i l ks h z.0)
        ∙ ap (λ v. flat_map enc l.text ++ v) (leaves-back rs a n (i + 1) ks (drop-next i ls l ks h) z.1)
        ∙ sym (flat_map-append enc l.text (joined (take n ks)))

    -- ---- tags mapped back, in the tree

    term-low : (f : Forest) (j : ℕ) (x : Term) → slice_get (terms f) j ≡ Some x → list_all (below limit) (forest_text f) ≡ true → list_all (below limit) (text_of x) ≡ true
    term-low empty zero x e a = absurd (let z : None ≡ Some x = e in cc)
    term-low empty (suc j) x e a = absurd (let z : None ≡ Some x = e in cc)
    term-low (node k f r) zero x e a =
        let y : Term = Node (record { kind = k; forest = f }) in
        let one : y ≡ x = let z : Some y ≡ Some x = e in cc in
        ap (λ z. list_all (below limit) (text_of z)) (sym one) ∙ (parts-below limit (forest_text f) (forest_text r) a).0
    term-low (node k f r) (suc j) x e a = term-low r j x e (parts-below limit (forest_text f) (forest_text r) a).1
    term-low (leaf l r) zero x e a =
        let y : Term = Token l in
        let one : y ≡ x = let z : Some y ≡ Some x = e in cc in
        ap (λ z. list_all (below limit) (text_of z)) (sym one) ∙ (parts-below limit l.text (forest_text r) a).0
    term-low (leaf l r) (suc j) x e a = term-low r j x e (parts-below limit l.text (forest_text r) a).1

    path-low : (w : List ℕ) (x : Term) → term_by t w ≡ Some x → list_all (below limit) (text_of x) ≡ true
    path-low [] x h =
        let y : Term = Node t in
        let one : y ≡ x = let z : Some y ≡ Some x = h in cc in
        ap (λ z. list_all (below limit) (text_of z)) (sym one) ∙ t_low
    path-low (j ∷ w) x h = by_term (λ m e. path-low w (Node m) e) (term_by t w) refl h
      where
        by_term : ((m : Tree) → term_by t w ≡ Some (Node m) → list_all (below limit) (text_of (Node m)) ≡ true) → (o : Option Term) → term_by t w ≡ o → slice_get (children_in o) j ≡ Some x → list_all (below limit) (text_of x) ≡ true
        by_term over None e g = absurd (let z : None ≡ Some x = g in cc)
        by_term over (Some (Token l)) e g = absurd (let z : None ≡ Some x = g in cc)
        by_term over (Some (Node m)) e g = term-low m.forest j x g (over m e)

    abbrev mapped_leaf : (ℕ → List ℕ) → green.Leaf → green.Leaf
    mapped_leaf g l = record { kind = l.kind; text = flat_map g l.text }

    leaf-back : (rs : List Rename) → AllFit enc ls t rs → (w : List ℕ) (l : green.Leaf) → term_by t w ≡ Some (Token l) → mapped_leaf Q (leaf_after (map to_tag rs) w l) ≡ l
    leaf-back [] a w l h = ap (λ (x : List ℕ). let m : green.Leaf = record { kind = l.kind; text = x } in m) (stays-below limit Q (tags.measured-low enc limit some low dots ls) l.text (path-low w (Token l) h))
    leaf-back (r ∷ rs) a w l h = elim (cases_Bool (same r.up w)) [
      | inr e ↦ ap (λ (b : Bool). mapped_leaf Q (if b then (to_tag r).leaf else leaf_after (map to_tag rs) w l)) e ∙ leaf-back rs a.1 w l h
      | inl e ↦
          let own : green.Leaf = record { kind = IDENT; text = flat_map enc r.old } in
          let terms_one : Some (Token own) ≡ Some (Token l) = sym a.0.stands ∙ ap (λ v. term_by t v) (same-sound r.up w e) ∙ h in
          let one : own ≡ l = cc in
          let text : leaf_text ls r.number ≡ r.old = leaf-text-at r.number ls (name_leaf r.old) (drop (suc r.number) ls) a.0.is_leaf in
          ap (λ (b : Bool). mapped_leaf Q (if b then (to_tag r).leaf else leaf_after (map to_tag rs) w l)) e
          ∙ ap (λ (x : List ℕ). let m : green.Leaf = record { kind = IDENT; text = x } in m)
          (tags.measured-tag enc limit some low dots ls r.number (λ z. a.0.old_some (sym text ∙ z)) ∙ ap (λ x. flat_map enc x) text)
          ∙ one
    ]

    maps-back : (rs : List Rename) → AllFit enc ls t rs → MapsBack Q t (map to_tag rs)
    maps-back rs a w i empty more h = refl
    maps-back rs a w i (node k f r) more h =
        let found = there (children_in (term_by t w)) i (Node (record { kind = k; forest = f })) (terms r ++ more) h in
        let inner = maps-back rs a (i ∷ w) 0 f [] (ap children_in found.0 ∙ sym (append-nil (terms f))) in
        let rest = maps-back rs a w (i + 1) r more found.1 in
        λ j. node k (inner j) (rest j)
    maps-back rs a w i (leaf l r) more h =
        let found = there (children_in (term_by t w)) i (Token l) (terms r ++ more) h in
        let own = leaf-back rs a (i ∷ w) l found.0 in
        let rest = maps-back rs a w (i + 1) r more found.1 in
        λ j. leaf (own j) (rest j)

    -- ---- one tag more

    module _ (f : forest.Forest) where
      record Tagged (rs : List Rename) : Type 0 where
        tree : dressed_forest E (dress_root f (with_names (tagging rs) 0 ls)) ≡ node t.kind (with_leaves (map to_tag rs) [] 0 t.forest) empty
        apart : NumbersApart rs

      tags-fresh : (rs : List Rename) (i : ℕ) (ks : List Leaf) → list_all (below limit) (joined ks) ≡ true → has limit (joined (with_names (tagging rs) i ks)) ≡ false
      unfolding joined
      tags-fresh rs i [] b = refl
      tags-fresh rs i (l ∷ ks) b =
          let z = leaf-low i l ks b in
          has-both limit (name_after (tagging rs) i l.text) (joined (with_names (tagging rs) (i + 1) ks)) (elim (cases_Bool (renames rs i)) [
            | inl m ↦ ap (has limit) (tags.tagged enc limit some low dots rs i l.text m) ∙ ap (λ (c : Bool). c || false) (ne_eqb (tag i) limit (λ e. absurd (omega (arith, e))))
            | inr m ↦ ap (has limit) (tags.untagged enc limit some low dots rs i l.text m) ∙ below-has limit limit (omega arith) l.text z.0
          ]) (tags-fresh rs (i + 1) ks z.1)

      -- a text below the limit does not start as a tag does
      not-tag : (i : ℕ) (old xs ys : List ℕ) → (old ≡ [] → ⊥) → list_all (below limit) old ≡ true → flat_map enc old ++ xs ≡ tag i ∷ ys → ⊥
      not-tag i old xs ys n b e = starts (flat_map enc old) (tags.enc-some enc limit some low dots old n) (below-has limit (tag i) (omega arith) (flat_map enc old) (tags.low-all enc limit some low dots old b)) e
        where
          starts : (zs : List ℕ) → (zs ≡ [] → ⊥) → has (tag i) zs ≡ false → zs ++ xs ≡ tag i ∷ ys → ⊥
          starts [] m h g = m refl
          starts (z ∷ zs) m h g =
              let one : z ≡ tag i = cc in
              let y : true ≡ false = ap (λ (c : Bool). c || has (tag i) zs) (sym (eq-eqb z (tag i) one)) ∙ h in
              cc

      tag-name : (i : ℕ) → IsName (name_leaf (tag i ∷ []))
      tag-name i = record {
        solid = name-solid (name_leaf (tag i ∷ [])) refl;
        plain = ap (λ (c : Bool). c || false) (ne_eqb (tag i) 46 (λ e. absurd (omega (arith, dots, e))));
        some = λ e. let y : tag i ∷ [] ≡ [] = e in cc;
      }

      more-tags : (r : Rename) (rs : List Rename) → Fits enc ls t r → AllFit enc ls t rs → list_any (λ s. same s.up r.up) (map to_tag rs) ≡ false → Tagged rs
          → (i : ℕ) (w : List ℕ) → r.up ≡ i ∷ w → Tagged (r ∷ rs)
      more-tags r rs fit a apart s i w up =
          let n = r.number in
          let l = name_leaf r.old in
          let L = with_names (tagging rs) 0 ls in
          let before = take n L in
          let after = drop (suc n) L in
          let F = with_leaves (map to_tag rs) [] 0 t.forest in
          let G = with_leaves (to_tag r ∷ map to_tag rs) [] 0 t.forest in
          let old_leaf : green.Leaf = record { kind = IDENT; text = flat_map enc r.old } in
          let c = replaced-at Q (tags.measured-some enc limit some low dots ls) t (map to_tag rs) (to_tag r) old_leaf (maps-back rs a) i w up (ap (λ v. term_by t v) (sym up) ∙ fit.stands) refl apart in
          let at : L ≡ before ++ name_leaf (name_after (tagging rs) n r.old) ∷ after =
          names-at (tagging rs) n 0 ls l (drop (suc n) ls) fit.is_leaf ∙ ap (λ m. before ++ name_leaf (name_after (tagging rs) m r.old) ∷ after) (let z : 0 + n ≡ n = omega arith in z) in
          let far : length (flat_map Q c.before) ≡ length (flat_map Q (flat_map E (joined before))) =
          (let x = c.far in let z : length (flat_map Q c.before) ≡ start_by t r.up = omega (arith, x) in z)
          ∙ fit.starts ∙ ap length (sym (leaves-back rs a n 0 ls refl ls_low)) in
          let old_low = text-low n ls ls_low (drop (suc n) ls) r.old fit.is_leaf in
          let free : renames rs n ≡ false = elim (cases_Bool (renames rs n)) [
            | inr m ↦ m
            | inl m ↦
                let X = tag n ∷ [] in
                let is : L ≡ before ++ name_leaf X ∷ after = at ∙ ap (λ x. before ++ name_leaf x ∷ after) (tags.tagged enc limit some low dots rs n r.old m) in
                let text : c.before ++ (flat_map enc r.old ++ c.after) ≡ flat_map E (joined before) ++ (flat_map E X ++ flat_map E (joined after)) =
                sym (texts-put c.replaces).0 ∙ sym (append-nil (forest_text F)) ∙ ap forest_text (sym s.tree) ∙ dressed-text E f L ∙ ap (λ x. flat_map E (joined x)) is
                ∙ ap (λ z. flat_map E z) (joined-append before (name_leaf X ∷ after) ∙ ap (λ z. joined before ++ z) (joined-cons (name_leaf X) after))
                ∙ flat_map-append E (joined before) (X ++ joined after) ∙ ap (λ z. flat_map E (joined before) ++ z) (flat_map-append E X (joined after)) in
                let parts = one_forest.apart Q (tags.measured-some enc limit some low dots ls) c.before (flat_map E (joined before)) _ _ text far in
                absurd (not-tag n r.old c.after (flat_map E (joined after)) fit.old_some old_low (parts.1 ∙ ap (λ z. z ++ flat_map E (joined after)) (tags.spelled-tag enc limit some low dots n)))
          ] in
          let here : L ≡ before ++ l ∷ after = at ∙ ap (λ x. before ++ name_leaf x ∷ after) (tags.untagged enc limit some low dots rs n r.old free) in
          let there_is : with_names (tagging (r ∷ rs)) 0 ls ≡ before ++ name_leaf (tag n ∷ []) ∷ after = one-more (tags.tagging enc limit some low dots r) (tagging rs) n 0 ls l (drop (suc n) ls) (let z : n ≡ 0 + n = omega arith in z) fit.is_leaf in
          let was : dressed_forest E (dress_root f (before ++ l ∷ after)) ≡ node t.kind F empty = ap (λ x. dressed_forest E (dress_root f x)) (sym here) ∙ s.tree in
          let put : ReplacesText (flat_map enc r.old) (tag n ∷ []) (node t.kind F empty) (node t.kind G empty) c.before (c.after ++ []) = inside t.kind F G empty c.before c.after c.replaces in
          let put_there : ReplacesText (flat_map E r.old) (flat_map E (tag n ∷ [])) (dressed_forest E (dress_root f (before ++ l ∷ after))) (node t.kind G empty) c.before (c.after ++ []) =
          subst (λ x. ReplacesText (flat_map E r.old) (flat_map E (tag n ∷ [])) x (node t.kind G empty) c.before (c.after ++ [])) (sym was)
          (subst (λ x. ReplacesText x (flat_map E (tag n ∷ [])) (node t.kind F empty) (node t.kind G empty) c.before (c.after ++ [])) (sym (tags.spelled-text enc limit some low dots r.old old_low))
          (subst (λ x. ReplacesText (flat_map enc r.old) x (node t.kind F empty) (node t.kind G empty) c.before (c.after ++ [])) (sym (tags.spelled-tag enc limit some low dots n)) put)) in
          let fresh : has limit (joined (before ++ l ∷ after)) ≡ false = ap (λ x. has limit (joined x)) (sym here) ∙ tags-fresh rs 0 ls ls_low in
          record {
            tree = ap (λ x. dressed_forest E (dress_root f x)) there_is
                ∙ followed E Q limit (tags.spelled-fresh enc limit some low dots) (tags.spelled-some enc limit some low dots) (tags.measured-some enc limit some low dots ls)
                (ne_eqb limit 46 (λ e. absurd (omega (arith, dots, e)))) f before after l (name_leaf (tag n ∷ [])) refl
                (record { solid = name-solid l refl; plain = fit.old_plain; some = fit.old_some }) (tag-name n) fresh (node t.kind G empty) c.before (c.after ++ []) put_there far;
            apart = (free, s.apart);
          }

      -- ---- all tags

      apart-up : (r : Rename) (rs : List Rename) → list_any (λ s. same s.up r.up) (map to_name rs) ≡ list_any (λ s. same s.up r.up) (map to_tag rs)
      apart-up r [] = refl
      apart-up r (s ∷ rs) = ap (λ (b : Bool). same s.up r.up || b) (apart-up r rs)

      no-leaves : (w : List ℕ) (i : ℕ) (g : Forest) → with_leaves [] w i g ≡ g
      no-leaves w i empty = refl
      no-leaves w i (node k g r) = ap (λ (x : Forest). node k x (with_leaves [] w (i + 1) r)) (no-leaves (i ∷ w) 0 g) ∙ ap (λ (x : Forest). node k g x) (no-leaves w (i + 1) r)
      no-leaves w i (leaf l r) = ap (λ (x : Forest). leaf l x) (no-leaves w (i + 1) r)

      one-tag : (r : Rename) (rs : List Rename) → Fits enc ls t r → AllFit enc ls t rs → list_any (λ s. same s.up r.up) (map to_tag rs) ≡ false → Tagged rs → (v : List ℕ) → r.up ≡ v → Tagged (r ∷ rs)
      one-tag r rs fit a apart s [] e =
          absurd (no-node t _ (ap (λ v. term_by t v) (sym e) ∙ fit.stands))
      one-tag r rs fit a apart s (i ∷ w) e = more-tags r rs fit a apart s i w e

      all-tags : (rs : List Rename) → AllFit enc ls t rs → AreApart (map to_name rs) → dressed_forest enc (dress_root f ls) ≡ node t.kind t.forest empty → Tagged rs
      all-tags [] a apart is = record {
        tree = ap (λ x. dressed_forest E (dress_root f x)) (no-names 0 ls)
            ∙ dressed-agree (below limit) E enc (λ c p. tags.spelled-low enc limit some low dots c (ltb-true c limit p)) (dress_root f ls) (ap (list_all (below limit)) (text-is-text f ls) ∙ ls_low)
            ∙ is ∙ ap (λ (x : Forest). node t.kind x empty) (sym (no-leaves [] 0 t.forest));
        apart = tt;
      }
      all-tags (r ∷ rs) a apart is = one-tag r rs a.0 a.1 (sym (apart-up r rs) ∙ apart.0) (all-tags rs a.1 apart.1 is) r.up refl

      -- ---- the names replace the tags

      abbrev H : List Rename → ℕ → List ℕ
      H = tags.named enc limit some low dots

      abbrev R : List Rename → ℕ → List ℕ
      R = tags.renewed enc limit some low dots

      new-plain : (rs : List Rename) → AllFit enc ls t rs → (i : ℕ) → has 46 (name_after rs i []) ≡ false
      new-plain [] a i = refl
      new-plain (r ∷ rs) a i = elim (cases_Bool (r.number == i)) [
        | inl e ↦ ap (λ (b : Bool). has 46 (if b then r.new else name_after rs i [])) e ∙ a.0.new_plain
        | inr e ↦ ap (λ (b : Bool). has 46 (if b then r.new else name_after rs i [])) e ∙ new-plain rs a.1 i
      ]

      keeps-dots : (rs : List Rename) → AllFit enc ls t rs → KeepsDots (H rs)
      keeps-dots rs a = record { dot = tags.named-low enc limit some low dots rs 46 dots; others = others }
        where
          others : (c : ℕ) → (c == 46) ≡ false → list_any (λ d. d == 46) (tags.named enc limit some low dots rs c) ≡ false
          others c n = elim (cases_Bool (ltb c limit)) [
            | inl h ↦ ap (has 46) (tags.named-low enc limit some low dots rs c (ltb-true c limit h)) ∙ ap (λ (b : Bool). b || false) n
            | inr h ↦ ap (has 46) (tags.named-high enc limit some low dots rs c (ltb-false c limit h)) ∙ new-plain rs a (c - (limit + 1))
          ]

      keeps-trivia : (rs : List Rename) → AllFit enc ls t rs → (i : ℕ) (ks : List Leaf) → drop i ls ≡ ks → list_all (below limit) (joined ks) ≡ true → KeepsTrivia (H rs) (with_names (tagging rs) i ks)
      keeps-trivia rs a i [] h b = tt
      keeps-trivia rs a i (l ∷ ks) h b =
          let z = leaf-low i l ks b in (
            λ trivia. elim (cases_Bool (renames rs i)) [
              | inl m ↦
                  let k = named-at rs a i l ks h m in
                  let y : true ≡ false = sym trivia ∙ name-solid (record { kind = l.kind; text = name_after (tagging rs) i l.text }) (ap (λ (x : Leaf). x.kind) k.is) in
                  absurd (cc)
              | inr m ↦
                  let own = tags.untagged enc limit some low dots rs i l.text m in
                  ap (λ x. flat_map (tags.named enc limit some low dots rs) x) own ∙ stays-below limit (tags.named enc limit some low dots rs) (tags.named-low enc limit some low dots rs) l.text z.0 ∙ sym own
            ],
            keeps-trivia rs a (i + 1) ks (drop-next i ls l ks h) z.1,
          )

      names-mapped : (rs : List Rename) (i : ℕ) (ks : List Leaf) → list_all (below limit) (joined ks) ≡ true → mapped_leaves (H rs) (with_names (tagging rs) i ks) ≡ with_names rs i ks
      names-mapped rs i [] b = refl
      names-mapped rs i (l ∷ ks) b =
          let z = leaf-low i l ks b in
          ap (λ (x : List ℕ). let k : Leaf = record { kind = l.kind; text = x } in k ∷ mapped_leaves (tags.named enc limit some low dots rs) (with_names (tagging rs) (i + 1) ks)) (elim (cases_Bool (renames rs i)) [
            | inl m ↦
                ap (λ x. flat_map (tags.named enc limit some low dots rs) x) (tags.tagged enc limit some low dots rs i l.text m)
                ∙ tags.named-tag enc limit some low dots rs i ∙ name-goes rs i [] l.text m
            | inr m ↦
                ap (λ x. flat_map (tags.named enc limit some low dots rs) x) (tags.untagged enc limit some low dots rs i l.text m)
                ∙ stays-below limit (tags.named enc limit some low dots rs) (tags.named-low enc limit some low dots rs) l.text z.0 ∙ sym (name-stays rs i l.text m)
          ])
          ∙ ap (λ (x : List Leaf). let k : Leaf = record { kind = l.kind; text = name_after rs i l.text } in k ∷ x) (names-mapped rs (i + 1) ks z.1)

      -- but for the character `limit`, names come after tags
      maps-agree : (rs : List Rename) (c : ℕ) → not (c == limit) ≡ true → composed enc (H rs) c ≡ composed (R rs) E c
      maps-agree rs c n = elim (cases_Bool (ltb c limit)) [
        | inl h ↦
            let less = ltb-true c limit h in
            ap (λ x. flat_map enc x) (tags.named-low enc limit some low dots rs c less) ∙ append-nil (enc c)
            ∙ sym (ap (λ x. flat_map (tags.renewed enc limit some low dots rs) x) (tags.spelled-low enc limit some low dots c less)
            ∙ stays-below limit (tags.renewed enc limit some low dots rs) (tags.renewed-low enc limit some low dots rs) (enc c) (low c less))
        | inr h ↦
            let least = ltb-false c limit h in
            let other : c ≡ limit → ⊥ = λ e. let y : false ≡ true = ap not (sym (eq-eqb c limit e)) ∙ n in cc in
            let more : limit < c = above c least other in
            sym (ap (λ x. flat_map (tags.renewed enc limit some low dots rs) x) (tags.spelled-high enc limit some low dots c more)
            ∙ append-nil (tags.renewed enc limit some low dots rs c) ∙ tags.renewed-high enc limit some low dots rs c least)
      ]
        where
          above : (c : ℕ) → limit ≤ c → (c ≡ limit → ⊥) → limit < c
          above c p q = elim (cases_Bool (ltb limit c)) [
            | inl e ↦ ltb-true limit c e
            | inr e ↦ let r = ltb-false limit c e in absurd (q (omega (arith, p, r)))
          ]

      -- each name is found by its index
      abbrev Own : List Rename → List Rename → Type 0
      Own rs [] = Unit {0}
      Own rs (q ∷ qs) = (name_after rs q.number [] ≡ q.new) × Own rs qs

      own-more : (r : Rename) (rs qs : List Rename) → Own rs qs → renames qs r.number ≡ false → Own (r ∷ rs) qs
      own-more r rs [] o h = tt
      own-more r rs (q ∷ qs) o h =
          let z = or_parts (q.number == r.number) (renames qs r.number) h in (
            ap (λ (b : Bool). if b then r.new else name_after rs q.number []) (ne_eqb r.number q.number (λ i. let y : true ≡ false = sym (eq-eqb q.number r.number (sym i)) ∙ z.0 in cc)) ∙ o.0,
            own-more r rs qs o.1 z.1,
          )

      own-all : (rs : List Rename) → NumbersApart rs → Own rs rs
      own-all [] a = tt
      own-all (r ∷ rs) a = (ap (λ (b : Bool). if b then r.new else name_after rs r.number []) (eq-eqb r.number r.number refl), own-more r rs rs (own-all rs a.1) a.0)

      leaf-named : (rs qs : List Rename) → Own rs qs → (w : List ℕ) (l : green.Leaf) → list_all (below limit) l.text ≡ true
          → mapped_leaf (R rs) (leaf_after (map to_tag qs) w l) ≡ leaf_after (map to_name qs) w l
      leaf-named rs [] o w l b = ap (λ (x : List ℕ). let m : green.Leaf = record { kind = l.kind; text = x } in m) (stays-below limit (tags.renewed enc limit some low dots rs) (tags.renewed-low enc limit some low dots rs) l.text b)
      leaf-named rs (q ∷ qs) o w l b = whichever (leaf-named rs qs o.1 w l b) (same q.up w)
        where
          whichever : mapped_leaf (R rs) (leaf_after (map to_tag qs) w l) ≡ leaf_after (map to_name qs) w l
              → (c : Bool) → mapped_leaf (R rs) (if c then (to_tag q).leaf else leaf_after (map to_tag qs) w l) ≡ (if c then (to_name q).leaf else leaf_after (map to_name qs) w l)
          whichever more false = more
          whichever more true = ap (λ (x : List ℕ). let m : green.Leaf = record { kind = IDENT; text = x } in m)
              (append-nil (tags.renewed enc limit some low dots rs (tag q.number))
              ∙ tags.renewed-high enc limit some low dots rs (tag q.number) (omega arith)
              ∙ ap (λ x. flat_map enc x) (sym (append-nil (tags.named enc limit some low dots rs (tag q.number))) ∙ tags.named-tag enc limit some low dots rs q.number ∙ o.0))

      forest-named : (rs : List Rename) → Own rs rs → (w : List ℕ) (i : ℕ) (g : Forest) → list_all (below limit) (forest_text g) ≡ true
          → mapped_texts (R rs) (with_leaves (map to_tag rs) w i g) ≡ with_leaves (map to_name rs) w i g
      forest-named rs o w i empty b = refl
      forest-named rs o w i (node k g r) b =
          let z = parts-below limit (forest_text g) (forest_text r) b in
          let inner = forest-named rs o (i ∷ w) 0 g z.0 in
          let rest = forest-named rs o w (i + 1) r z.1 in
          λ j. node k (inner j) (rest j)
      forest-named rs o w i (leaf l r) b =
          let z = parts-below limit l.text (forest_text r) b in
          let own = leaf-named rs rs o (i ∷ w) l z.0 in
          let rest = forest-named rs o w (i + 1) r z.1 in
          λ j. leaf (own j) (rest j)

      pub all-named : (rs : List Rename) → AllFit enc ls t rs → AreApart (map to_name rs) → dressed_forest enc (dress_root f ls) ≡ node t.kind t.forest empty
          → dressed_forest enc (dress_root f (with_names rs 0 ls)) ≡ node t.kind (with_leaves (map to_name rs) [] 0 t.forest) empty
      all-named rs a apart is =
          let L = with_names (tagging rs) 0 ls in
          let s = all-tags rs a apart is in
          let fresh = has-none limit (joined L) (tags-fresh rs 0 ls ls_low) in
          ap (λ x. dressed_forest enc (dress_root f x)) (sym (names-mapped rs 0 ls ls_low))
          ∙ ignores-names enc (H rs) f L (keeps-dots rs a) (keeps-trivia rs a 0 ls refl ls_low)
          ∙ dressed-agree (λ c. not (c == limit)) (composed enc (H rs)) (composed (R rs) E) (maps-agree rs) (dress_root f L) (ap (list_all (λ c. not (c == limit))) (text-is-text f L) ∙ fresh)
          ∙ sym (terms-again (R rs) E (dress_root f L))
          ∙ ap (λ x. mapped_texts (R rs) x) s.tree
          ∙ ap (λ (x : Forest). node t.kind x empty) (forest-named rs (own-all rs s.apart) [] 0 t.forest t_low)
