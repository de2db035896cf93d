-- Lemmas about the marks of inserted elements.
use Rattle.std.proofs.Common.{◌≡◌, ℕ, ◌+◌, List, [], ◌∷◌, ◌++◌, map, reverse, Option, Some, None, Bool, false, refl, ap, sym, ◌∙◌, arith, subst, append_assoc, length, drop, take, ◌-◌}
use Rattle.std.proofs.lemmas.List.{append-nil, reverse-append, map-append, drop-map, length-drop, length-map, take_all}
use Rattle.std.proofs.Math.Seq.{drop-append_seam}
use Rattle.rowan_green.specs.Forest.{Forest, empty, node, leaf}
use Rattle.rowan_green.specs.Term.{Term}
use Rattle.rowan_green.specs.declared.utility_types.NodeOrToken.TheVariants.{Node, Token}
use Rattle.rowan.specs.Place.{kind_at}
use Rattle.syntax_tree.specs.Element.{Way, Element, term_of}
use Rattle.syntax_tree.specs.Handle.{element_of}
use Rattle.syntax_tree.specs.declared.element.SyntaxElement.{SyntaxElement}
use Rattle.tree_rewrite.specs.Marked.{Marked, nothing, inner, token, join, origins, put_marks, with_put, filled, blank, read_from, reading_of}
use Rattle.tree_rewrite.specs.Pieces.{Around, outside, in_node, in_group, is_outermost, Stand, start, closed, after_piece, after, Say}
use Rattle.tree_rewrite.specs.declared.piece.Nesting.{Nesting}
use Rattle.tree_rewrite.specs.Puts.{none_put, first_put, marks_of, marks_before, told_around, MarksPuts}
use Rattle.tree_rewrite.specs.Tracking.{is_put, or_told, told_in, as_told}
use Rattle.tree_rewrite.specs.declared.piece.Piece.{Piece}
use Rattle.tree_rewrite.specs.declared.piece.Piece.TheVariants.{Whole, Open, Group}
use Rattle.tree_rewrite.specs.declared.put.Puts.{Puts}
use Rattle.tree_rewrite.proofs.ChangedLemmas.{told-join, told-put}

-- ---- marks of lists
pub marks-join : (m n : Marked) → put_marks (join m n) ≡ put_marks m ++ put_marks n
marks-join nothing n = refl
marks-join (inner m k f r) n =
    ap (λ l. m.put ∷ (put_marks f ++ l)) (marks-join r n) ∙ ap (λ l. m.put ∷ l) (sym (append_assoc (put_marks f) (put_marks r) (put_marks n)))
marks-join (token m l r) n = ap (λ l. m.put ∷ l) (marks-join r n)

marks-told-join : (o : Option Bool) (m n : Marked) → put_marks (as_told o (join m n)) ≡ put_marks (as_told o m) ++ put_marks (as_told o n)
marks-told-join o m n = ap put_marks (told-join o m n) ∙ marks-join (as_told o m) (as_told o n)

-- unchanged elements have no marks
marks-filled : (e : Element) (w : Way) (i : ℕ) (f : Forest) → put_marks (filled blank e w i f) ≡ none_put (origins (filled blank e w i f))
marks-filled e w i empty = refl
marks-filled e w i (node k f r) =
    let low = filled blank e (i ∷ w) 0 f in
    let rest = filled blank e w (i + 1) r in
    ap (λ l. false ∷ l) ((λ j. marks-filled e (i ∷ w) 0 f j ++ marks-filled e w (i + 1) r j) ∙ sym (map-append (λ y. false) (origins low) (origins rest)))
marks-filled e w i (leaf l r) = ap (λ m. false ∷ m) (marks-filled e w (i + 1) r)

-- a node with the inserted flag is marked, followed by the elements inside it
marks-node : (o : Option Bool) (e : Element) (k : ℕ) (f : Marked) → put_marks (as_told o (inner (record { origin = e; put = false }) k f nothing)) ≡ is_put o ∷ put_marks f
marks-node None e k f = ap (λ l. false ∷ l) (append-nil (put_marks f))
marks-node (Some b) e k f = ap (λ l. b ∷ l) (append-nil (put_marks f))

marks-whole : (o : Option Bool) (x : Element) (g : Term) → term_of x ≡ Some g → put_marks (as_told o (reading_of blank x)) ≡ first_put (is_put o) (origins (reading_of blank x))
marks-whole o x (Node t) h =
    let low = filled blank x [] 0 t.forest in
    ap (λ p. put_marks (as_told o (read_from blank x p))) h
    ∙ marks-node o x t.kind low
    ∙ ap (λ l. is_put o ∷ l) (marks-filled x [] 0 t.forest ∙ ap none_put (sym (append-nil (origins low))))
    ∙ ap (λ p. first_put (is_put o) (origins (read_from blank x p))) (sym h)
marks-whole None x (Token l) h =
    ap (λ p. put_marks (read_from blank x p)) h ∙ ap (λ p. first_put false (origins (read_from blank x p))) (sym h)
marks-whole (Some b) x (Token l) h =
    ap (λ p. put_marks (with_put b (read_from blank x p))) h ∙ ap (λ p. first_put b (origins (read_from blank x p))) (sym h)

pub first-map : {A B : Type 0} (f : A → B) (b : Bool) (xs : List A) → first_put b (map f xs) ≡ first_put b xs
first-map {A} f b [] = refl
first-map {A} f b (x ∷ xs) = ap (λ l. b ∷ l) (rest xs)
  where
    rest : (ys : List A) → none_put (map f ys) ≡ none_put ys
    rest [] = refl
    rest (y ∷ ys) = ap (λ l. false ∷ l) (rest ys)

-- ---- piece by piece
nothing-told : (o : Option Bool) → put_marks (as_told o nothing) ≡ []
nothing-told None = refl
nothing-told (Some b) = refl

pub marks-more-whole : (p q : Puts) (x : SyntaxElement) (g : Term) (brought : List SyntaxElement) (s : Stand) → term_of (element_of x) ≡ Some g
    → map element_of brought ≡ origins (reading_of blank (element_of x))
    → q.marks.items ≡ p.marks.items ++ first_put (is_put p.told) brought → q.told ≡ p.told → q.around.items ≡ p.around.items
    → MarksPuts p s → MarksPuts q (after_piece (Whole x) s)
marks-more-whole p q x g brought s h is more told around old = record {
  marks =
      let e = element_of x in
      let here = marks_of s.done s.around in
      let now : first_put (is_put p.told) brought ≡ put_marks (as_told (told_in s.around) (reading_of blank e)) =
      sym (first-map element_of (is_put p.told) brought)
      ∙ (λ j. first_put (is_put (old.told j)) (is j))
      ∙ sym (marks-whole (told_in s.around) e g h) in
      more
      ∙ (λ j. old.marks j ++ now j)
      ∙ append_assoc (marks_before s.around) here (put_marks (as_told (told_in s.around) (reading_of blank e)))
      ∙ ap (λ l. marks_before s.around ++ l) (sym (marks-told-join (told_in s.around) s.done (reading_of blank e)));
  told = told ∙ old.told;
  around = ap reverse around ∙ old.around;
}

entered : (p q : Puts) (a : Around) → q.around.items ≡ p.around.items ++ p.told ∷ [] → p.told ≡ told_in a → reverse p.around.items ≡ told_around a
    → reverse q.around.items ≡ told_in a ∷ told_around a
entered p q a e t h = ap reverse e ∙ reverse-append p.around.items (p.told ∷ []) ∙ (λ j. t j ∷ h j)

pub marks-more-open : (p q : Puts) (x : Element) (brought : List SyntaxElement) (s : Stand)
    → map element_of brought ≡ x ∷ []
    → q.marks.items ≡ p.marks.items ++ first_put (is_put p.told) brought → q.told ≡ None → q.around.items ≡ p.around.items ++ p.told ∷ []
    → MarksPuts p s → MarksPuts q (after_piece (Open x) s)
marks-more-open p q x brought s is more told around old = record {
  marks =
      let one : first_put (is_put p.told) brought ≡ is_put (told_in s.around) ∷ [] =
      sym (first-map element_of (is_put p.told) brought) ∙ (λ j. first_put (is_put (old.told j)) (is j)) in
      more
      ∙ (λ j. old.marks j ++ one j)
      ∙ append_assoc (marks_before s.around) (marks_of s.done s.around) (is_put (told_in s.around) ∷ [])
      ∙ sym (append-nil (marks_before (in_node s.done x s.around)));
  told = told;
  around = entered p q s.around around old.told old.around;
}

pub marks-more-group : (p q : Puts) (n : Nesting) (s : Stand) → q.marks.items ≡ p.marks.items → q.told ≡ Some (or_told p.told (is_outermost n)) → q.around.items ≡ p.around.items ++ p.told ∷ []
    → MarksPuts p s → MarksPuts q (after_piece (Group n) s)
marks-more-group p q n s same told around old = record {
  marks = same ∙ old.marks ∙ sym (append-nil (marks_before (in_group s.done (is_outermost n) s.around)));
  told = told ∙ ap (λ y. Some (or_told y (is_outermost n))) old.told;
  around = entered p q s.around around old.told old.around;
}

left : (p q : Puts) (t : Option Bool) (a : Around) → p.around.items ≡ q.around.items ++ t ∷ [] → reverse p.around.items ≡ told_around a → t ∷ reverse q.around.items ≡ told_around a
left p q t a e h = sym (ap reverse e ∙ reverse-append q.around.items (t ∷ [])) ∙ h

head : {A : Type 0} {x y : A} {xs ys : List A} → x ∷ xs ≡ y ∷ ys → x ≡ y
head h = cc

tail : {A : Type 0} {x y : A} {xs ys : List A} → x ∷ xs ≡ y ∷ ys → xs ≡ ys
tail h = cc

pub marks-more-close : (p q : Puts) (t : Option Bool) (s : Stand) → p.around.items ≡ q.around.items ++ t ∷ [] → q.marks.items ≡ p.marks.items → q.told ≡ t
    → MarksPuts p s → MarksPuts q (closed s.done s.around)
marks-more-close p q t s a same told old = by_around s.around old.marks (left p q t s.around a old.around)
  where
    by_around : (b : Around) → p.marks.items ≡ marks_before b ++ marks_of s.done b → t ∷ reverse q.around.items ≡ told_around b → MarksPuts q (closed s.done b)
    by_around outside w i = absurd (cc)
    by_around (in_node d e b) w i =
        let whole : Marked = inner (record { origin = e; put = false }) (kind_at e.place) s.done nothing in
        record {
          marks =
              same ∙ w
              ∙ append_assoc (marks_before b) (marks_of d b ++ is_put (told_in b) ∷ []) (put_marks s.done)
              ∙ ap (λ l. marks_before b ++ l)
              (append_assoc (marks_of d b) (is_put (told_in b) ∷ []) (put_marks s.done)
              ∙ ap (λ l. marks_of d b ++ l) (sym (marks-node (told_in b) e (kind_at e.place) s.done))
              ∙ sym (marks-told-join (told_in b) d whole));
          told = told ∙ head i;
          around = tail i;
        }
    by_around (in_group d c b) w i = record {
      marks =
          same ∙ w
          ∙ append_assoc (marks_before b) (marks_of d b) (put_marks (as_told (Some (or_told (told_in b) c)) s.done))
          ∙ ap (λ l. marks_before b ++ l)
          (ap (λ m. marks_of d b ++ put_marks m) (sym (told-put (told_in b) c s.done))
          ∙ sym (marks-told-join (told_in b) d (with_put c s.done)));
      told = told ∙ head i;
      around = tail i;
    }

pub marks-outside : (p q : Puts) (s : Stand) → p.around.items ≡ [] → q.marks.items ≡ p.marks.items → q.told ≡ p.told → q.around.items ≡ p.around.items
    → MarksPuts p s → MarksPuts q (closed s.done s.around)
marks-outside p q s a same told around old = by_around s.around old.marks old.told old.around
  where
    none : [] ≡ reverse p.around.items
    none = sym (ap reverse a)

    by_around : (b : Around) → p.marks.items ≡ marks_before b ++ marks_of s.done b → p.told ≡ told_in b → reverse p.around.items ≡ told_around b → MarksPuts q (closed s.done b)
    by_around outside w t i = record { marks = same ∙ w; told = told ∙ t; around = ap reverse around ∙ i }
    by_around (in_node d x b) w t i = absurd (cc)
    by_around (in_group d c b) w t i = absurd (cc)

-- ---- the whole
pub marked : (p : Puts) (ps : List Piece) (m : Marked) → Say ps m → MarksPuts p (after ps start) → p.marks.items ≡ put_marks m
marked p ps m h old = (subst (λ s. MarksPuts p s) (h.says start) old).marks

-- the elements that were appended are those of a piece
pub brought-after : {A B : Type 0} (f : A → B) (old all : List A) (by : List B) (n : ℕ) → n ≡ length old → map f all ≡ map f old ++ by → map f (take (length all - n) (drop n all)) ≡ by
brought-after f old all by n len is =
    let rest = drop n all in
    ap (map f) (take_all (length all - n) rest (omega (arith, length-drop n all)))
    ∙ sym (drop-map f n all)
    ∙ (λ j. drop ((len ∙ sym (length-map old f)) j) (is j))
    ∙ drop-append_seam (map f old) by
