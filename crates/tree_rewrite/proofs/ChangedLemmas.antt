-- Lemmas about the changed ranges.
use Rattle.std.proofs.Common.{◌≡◌, ℕ, ◌+◌, ◌≤◌, List, [], ◌∷◌, ◌++◌, length, map, reverse, Option, Some, None, Bool, true, false, ◌&&◌, refl, ap, sym, ◌∙◌, arith, subst, append_assoc}
use Rattle.std.proofs.lemmas.List.{append-nil, reverse-append, length-append}
use Rattle.rowan_green.specs.Forest.{Forest, empty, node, leaf, Tree, forest_text, tree_text}
use Rattle.rowan_green.specs.Term.{Term}
use Rattle.rowan_green.specs.declared.utility_types.NodeOrToken.TheVariants.{Node, Token}
use Rattle.rowan.specs.Place.{text_at, text_in, kind_at}
use Rattle.syntax_tree.specs.Element.{Way, Element, term_of}
use Rattle.syntax_tree.specs.Handle.{element_of}
use Rattle.syntax_tree.specs.declared.element.SyntaxElement.{SyntaxElement}
use Rattle.tree_rewrite.specs.Marked.{Marked, nothing, inner, token, join, forest_in, with_put, filled, blank, read_from, reading_of}
use Rattle.tree_rewrite.specs.Pieces.{Around, outside, in_node, in_group, is_outermost, Stand, start, closed, after_piece, after, Say}
use Rattle.tree_rewrite.specs.declared.piece.Nesting.{Nesting}
use Rattle.tree_rewrite.specs.Fits.{IsNode}
use Rattle.tree_rewrite.specs.Changed.{text_len, if_changed, changed_at, bounds}
use Rattle.tree_rewrite.specs.Tracking.{is_put, or_told, told_in, as_told, before_in, changed_in, IsEntered, Tracks, bytes_by, all_bytes}
use Rattle.tree_rewrite.specs.declared.piece.Piece.{Piece}
use Rattle.tree_rewrite.specs.declared.piece.Piece.TheVariants.{Whole, Open, Group, Close}
use Rattle.tree_rewrite.specs.declared.changed.Entered.{Entered}
use Rattle.tree_rewrite.specs.declared.changed.Tracker.{Tracker}
use Rattle.tree_rewrite.proofs.MarkedLemmas.{forest_in-blank}
use Rattle.tree_rewrite.proofs.GreenLemmas.{forest_in-with_put}

-- ---- lengths
pub len-join : (m n : Marked) → text_len (join m n) ≡ text_len m + text_len n
len-join nothing n = omega arith
len-join (inner k h f r) n = omega (arith, length-append (forest_text (forest_in f)) (forest_text (forest_in (join r n))), length-append (forest_text (forest_in f)) (forest_text (forest_in r)), len-join r n)
len-join (token k l r) n = omega (arith, length-append l.text (forest_text (forest_in (join r n))), length-append l.text (forest_text (forest_in r)), len-join r n)

len-with_put : (b : Bool) (m : Marked) → text_len (with_put b m) ≡ text_len m
len-with_put b m = ap (λ f. length (forest_text f)) (forest_in-with_put b m)

len-told : (o : Option Bool) (m : Marked) → text_len (as_told o m) ≡ text_len m
len-told None m = refl
len-told (Some b) m = len-with_put b m

pub len-whole : (x : Element) (g : Term) → term_of x ≡ Some g → text_len (reading_of blank x) ≡ length (text_at x.place)
len-whole x (Node t) h =
    ap (λ o. text_len (read_from blank x o)) h ∙ ap length (append-nil (forest_text (forest_in (filled blank x [] 0 t.forest)))) ∙ ap (λ f. length (forest_text f)) (forest_in-blank x [] 0 t.forest)
    ∙ sym (ap (λ o. length (text_in o)) h)
len-whole x (Token l) h = ap (λ o. text_len (read_from blank x o)) h ∙ ap length (append-nil l.text) ∙ sym (ap (λ o. length (text_in o)) h)

-- ---- ranges of lists
if_changed-append : (b : Bool) (r : ℕ × ℕ) (rs ss : List (ℕ × ℕ)) → if_changed b r (rs ++ ss) ≡ if_changed b r rs ++ ss
if_changed-append true r rs ss = refl
if_changed-append false r rs ss = refl

pub changed-join : (m n : Marked) (o : ℕ) → changed_at (join m n) o ≡ changed_at m o ++ changed_at n (o + text_len m)
changed-join nothing n o = ap (changed_at n) (omega arith)
changed-join (inner k h f r) n o =
    let at : o + text_len f + text_len r ≡ o + text_len (inner k h f r) = omega (arith, length-append (forest_text (forest_in f)) (forest_text (forest_in r))) in
    let rest = changed-join r n (o + text_len f) ∙ ap (λ z. changed_at r (o + text_len f) ++ changed_at n z) at in
    ap (λ l. if_changed k.put (o, o + text_len f) (changed_at f o ++ l)) rest
    ∙ ap (if_changed k.put (o, o + text_len f)) (sym (append_assoc (changed_at f o) (changed_at r (o + text_len f)) (changed_at n (o + text_len (inner k h f r)))))
    ∙ if_changed-append k.put (o, o + text_len f) (changed_at f o ++ changed_at r (o + text_len f)) (changed_at n (o + text_len (inner k h f r)))
changed-join (token k l r) n o =
    let at : o + length l.text + text_len r ≡ o + text_len (token k l r) = omega (arith, length-append l.text (forest_text (forest_in r))) in
    let rest = changed-join r n (o + length l.text) ∙ ap (λ z. changed_at r (o + length l.text) ++ changed_at n z) at in
    ap (if_changed k.put (o, o + length l.text)) rest
    ∙ if_changed-append k.put (o, o + length l.text) (changed_at r (o + length l.text)) (changed_at n (o + text_len (token k l r)))

-- unchanged elements have no changed ranges
changed-filled : (e : Element) (w : Way) (i : ℕ) (f : Forest) (o : ℕ) → changed_at (filled blank e w i f) o ≡ []
changed-filled e w i empty o = refl
changed-filled e w i (node k f r) o = λ j. changed-filled e (i ∷ w) 0 f o j ++ changed-filled e w (i + 1) r (o + text_len (filled blank e (i ∷ w) 0 f)) j
changed-filled e w i (leaf l r) o = changed-filled e w (i + 1) r (o + length l.text)

-- ---- flags of lists
put-twice : (b c : Bool) (m : Marked) → with_put b (with_put c m) ≡ with_put b m
put-twice b c nothing = refl
put-twice b c (inner m k f r) = ap (inner (record { origin = m.origin; put = b }) k f) (put-twice b c r)
put-twice b c (token m l r) = ap (token (record { origin = m.origin; put = b }) l) (put-twice b c r)

put-join : (b : Bool) (m n : Marked) → with_put b (join m n) ≡ join (with_put b m) (with_put b n)
put-join b nothing n = refl
put-join b (inner m k f r) n = ap (inner (record { origin = m.origin; put = b }) k f) (put-join b r n)
put-join b (token m l r) n = ap (token (record { origin = m.origin; put = b }) l) (put-join b r n)

pub told-join : (o : Option Bool) (m n : Marked) → as_told o (join m n) ≡ join (as_told o m) (as_told o n)
told-join None m n = refl
told-join (Some b) m n = put-join b m n

pub told-put : (o : Option Bool) (b : Bool) (m : Marked) → as_told o (with_put b m) ≡ as_told (Some (or_told o b)) m
told-put None b m = refl
told-put (Some c) b m = put-twice c b m

-- one list more
pub changed-more : (d n : Marked) (a : Around) → changed_in (join d n) a ≡ changed_in d a ++ changed_at (as_told (told_in a) n) (before_in a + text_len d)
changed-more d n a =
    ap (λ m. changed_at m (before_in a)) (told-join (told_in a) d n)
    ∙ changed-join (as_told (told_in a) d) (as_told (told_in a) n) (before_in a)
    ∙ ap (λ z. changed_in d a ++ changed_at (as_told (told_in a) n) (before_in a + z)) (len-told (told_in a) d)

-- a node with the inserted flag is a changed range, followed by those inside it
changed-node : (o : Option Bool) (e : Element) (k : ℕ) (f : Marked) (at : ℕ) → changed_at (as_told o (inner (record { origin = e; put = false }) k f nothing)) at
    ≡ if_changed (is_put o) (at, at + text_len f) (changed_at f at)
changed-node None e k f at = append-nil (changed_at f at)
changed-node (Some b) e k f at = ap (if_changed b (at, at + text_len f)) (append-nil (changed_at f at))

changed-whole : (o : Option Bool) (x : Element) (g : Term) (at : ℕ) → term_of x ≡ Some g → changed_at (as_told o (reading_of blank x)) at
    ≡ if_changed (is_put o) (at, at + length (text_at x.place)) []
changed-whole o x (Node t) at h =
    let low = filled blank x [] 0 t.forest in
    let len : text_len low ≡ length (text_at x.place) = ap (λ f. length (forest_text f)) (forest_in-blank x [] 0 t.forest) ∙ sym (ap (λ p. length (text_in p)) h) in
    ap (λ p. changed_at (as_told o (read_from blank x p)) at) h
    ∙ changed-node o x t.kind low at
    ∙ λ j. if_changed (is_put o) (at, at + len j) (changed-filled x [] 0 t.forest at j)
changed-whole None x (Token l) at h = ap (λ p. changed_at (read_from blank x p) at) h
changed-whole (Some b) x (Token l) at h =
    ap (λ p. changed_at (with_put b (read_from blank x p)) at) h ∙ sym (ap (λ p. if_changed b (at, at + length (text_in p)) []) h)

-- ---- the tracker
pub tracks-whole : (t u : Tracker) (x : SyntaxElement) (g : Term) (s : Stand) → term_of (element_of x) ≡ Some g → u.offset ≡ t.offset + length (text_at (element_of x).place)
    → map bounds u.ranges.items ≡ map bounds t.ranges.items ++ if_changed (is_put t.told) (t.offset, u.offset) [] → u.told ≡ t.told → u.around.items ≡ t.around.items
    → Tracks t s → Tracks u (after_piece (Whole x) s)
tracks-whole t u x g s h o r k a old = record {
  ranges =
      let at : t.offset ≡ before_in s.around + text_len s.done = old.offset in
      r
      ∙ (λ j. old.ranges j ++ if_changed (is_put (old.told j)) (at j, o j) [])
      ∙ (λ j. changed_in s.done s.around ++ if_changed (is_put (told_in s.around)) (before_in s.around + text_len s.done, at j + length (text_at (element_of x).place)) [])
      ∙ ap (λ l. changed_in s.done s.around ++ l) (sym (changed-whole (told_in s.around) (element_of x) g (before_in s.around + text_len s.done) h))
      ∙ sym (changed-more s.done (reading_of blank (element_of x)) s.around);
  offset = omega (arith, o, old.offset, len-join s.done (reading_of blank (element_of x)), len-whole (element_of x) g h);
  told = k ∙ old.told;
  around = subst (λ l. IsEntered (reverse l) s.around) (sym a) old.around;
}

entered_more : (gs hs : List Entered) (g : Entered) (a : Around) → hs ≡ gs ++ g ∷ [] → IsEntered (g ∷ reverse gs) a → IsEntered (reverse hs) a
entered_more gs hs g a e h = subst (λ l. IsEntered l a) (sym (ap reverse e ∙ reverse-append gs (g ∷ []))) h

entered_less : (gs hs : List Entered) (g : Entered) (a : Around) → gs ≡ hs ++ g ∷ [] → IsEntered (reverse gs) a → IsEntered (g ∷ reverse hs) a
entered_less gs hs g a e h = subst (λ l. IsEntered l a) (ap reverse e ∙ reverse-append hs (g ∷ [])) h

nothing_told : (o : Option Bool) (at : ℕ) → changed_at (as_told o nothing) at ≡ []
nothing_told None at = refl
nothing_told (Some b) at = refl

pub tracks-open : (t u : Tracker) (g : Entered) (x : Element) (s : Stand) → u.ranges.items ≡ [] → u.offset ≡ t.offset → u.told ≡ None → u.around.items ≡ t.around.items ++ g ∷ []
    → g.is_node ≡ true → g.start ≡ t.offset → g.told ≡ t.told → g.before.items ≡ t.ranges.items → Tracks t s → Tracks u (after_piece (Open x) s)
tracks-open t u g x s r o k a n w f b old = record {
  ranges = ap (map bounds) r;
  offset = omega (arith, o, old.offset);
  told = k;
  around = entered_more t.around.items u.around.items g (in_node s.done x s.around) a (n, w ∙ old.offset, f ∙ old.told, ap (map bounds) b ∙ old.ranges, old.around);
}

pub tracks-group : (t u : Tracker) (g : Entered) (n : Nesting) (s : Stand) → u.ranges.items ≡ [] → u.offset ≡ t.offset → u.told ≡ Some (or_told t.told (is_outermost n)) → u.around.items ≡ t.around.items ++ g ∷ []
    → g.is_node ≡ false → g.told ≡ t.told → g.before.items ≡ t.ranges.items → Tracks t s → Tracks u (after_piece (Group n) s)
tracks-group t u g n s r o k a p f w old = record {
  ranges = ap (map bounds) r;
  offset = omega (arith, o, old.offset);
  told = k ∙ ap (λ y. Some (or_told y (is_outermost n))) old.told;
  around = entered_more t.around.items u.around.items g (in_group s.done (is_outermost n) s.around) a (p, f ∙ old.told, ap (map bounds) w ∙ old.ranges, old.around);
}

and-true : (b : Bool) → (true && b) ≡ b
and-true true = refl
and-true false = refl

-- the last open node or group ends
abbrev pub left_ranges : Entered → ℕ → List (ℕ × ℕ) → List (ℕ × ℕ)
left_ranges g end inside = map bounds g.before.items ++ (if_changed (g.is_node && is_put g.told) (g.start, end) [] ++ inside)

pub tracks-close : (t u : Tracker) (g : Entered) (s : Stand) → t.around.items ≡ u.around.items ++ g ∷ [] → map bounds u.ranges.items ≡ left_ranges g t.offset (map bounds t.ranges.items)
    → u.offset ≡ t.offset → u.told ≡ g.told → Tracks t s → Tracks u (closed s.done s.around)
tracks-close t u g s a r o k old = by_around s.around old.ranges old.offset (entered_less t.around.items u.around.items g s.around a old.around)
  where
    by_around : (b : Around) → map bounds t.ranges.items ≡ changed_in s.done b → t.offset ≡ before_in b + text_len s.done → IsEntered (g ∷ reverse u.around.items) b → Tracks u (closed s.done b)
    by_around outside q w i = absurd i
    by_around (in_node d e b) q w i =
        let whole : Marked = inner (record { origin = e; put = false }) (kind_at e.place) s.done nothing in
        let end : t.offset ≡ before_in b + text_len d + text_len s.done = w in
        record {
          ranges =
              r
              ∙ (λ j. i.3 j ++ (if_changed (i.0 j && is_put (i.2 j)) (i.1 j, end j) [] ++ q j))
              ∙ ap (λ y. changed_in d b ++ (if_changed y (before_in b + text_len d, before_in b + text_len d + text_len s.done) [] ++ changed_at s.done (before_in b + text_len d))) (and-true (is_put (told_in b)))
              ∙ ap (λ l. changed_in d b ++ l) (sym (if_changed-append (is_put (told_in b)) (before_in b + text_len d, before_in b + text_len d + text_len s.done) [] (changed_at s.done (before_in b + text_len d))))
              ∙ ap (λ l. changed_in d b ++ l) (sym (changed-node (told_in b) e (kind_at e.place) s.done (before_in b + text_len d)))
              ∙ sym (changed-more d whole b);
          offset = omega (arith, o, w, len-join d whole, ap length (append-nil (forest_text (forest_in s.done))));
          told = k ∙ i.2;
          around = i.4;
        }
    by_around (in_group d c b) q w i =
        let end : t.offset ≡ before_in b + text_len d + text_len s.done = w in
        record {
          ranges =
              r
              ∙ (λ j. i.2 j ++ (if_changed (i.0 j && is_put (i.1 j)) (g.start, t.offset) [] ++ q j))
              ∙ ap (λ m. changed_in d b ++ changed_at m (before_in b + text_len d)) (sym (told-put (told_in b) c s.done))
              ∙ sym (changed-more d (with_put c s.done) b);
          offset = omega (arith, o, w, len-join d (with_put c s.done), len-with_put c s.done);
          told = k ∙ i.1;
          around = i.3;
        }

pub tracks-outside : (t : Tracker) (s : Stand) → t.around.items ≡ [] → Tracks t s → Tracks t (closed s.done s.around)
tracks-outside t s a old = by_around s.around refl (subst (λ l. IsEntered (reverse l) s.around) a old.around)
  where
    by_around : (b : Around) → s.around ≡ b → IsEntered [] b → Tracks t (closed s.done s.around)
    by_around outside e i = subst (λ z. Tracks t z) (sym (ap (closed s.done) e ∙ λ j. record { done = s.done; around = sym e j })) old
    by_around (in_node d x b) e i = absurd i
    by_around (in_group d c b) e i = absurd i

-- a node begins no later than it ends
pub starts_before : (t : Tracker) (hs : List Entered) (g : Entered) (s : Stand) → t.around.items ≡ hs ++ g ∷ [] → g.is_node ≡ true → Tracks t s → g.start ≤ t.offset
starts_before t hs g s a n old = by_around s.around old.offset (entered_less t.around.items hs g s.around a old.around)
  where
    by_around : (b : Around) → t.offset ≡ before_in b + text_len s.done → IsEntered (g ∷ reverse hs) b → g.start ≤ t.offset
    by_around outside w i = absurd i
    by_around (in_node d e b) w i = omega (arith, w, i.1)
    by_around (in_group d c b) w i = absurd (cc)

-- ---- the whole
pub tracked : (t : Tracker) (ps : List Piece) (m : Marked) → Say ps m → Tracks t (after ps start) → map bounds t.ranges.items ≡ changed_at m 0
tracked t ps m h old = (subst (λ s. Tracks t s) (h.says start) old).ranges

bytes-whole : (x : Element) (o : Option Term) → term_of x ≡ o → text_len (reading_of blank x) ≡ length (text_at x.place)
bytes-whole x None h = ap (λ p. text_len (read_from blank x p)) h ∙ sym (ap (λ p. length (text_in p)) h)
bytes-whole x (Some g) h = len-whole x g h

abbrev bytes_in : Stand → ℕ
bytes_in s = before_in s.around + text_len s.done

bytes-closed : (d : Marked) (a : Around) → bytes_in (closed d a) ≡ before_in a + text_len d
bytes-closed d outside = refl
bytes-closed d (in_node before e a) =
    omega (arith, len-join before (inner (record { origin = e; put = false }) (kind_at e.place) d nothing), ap length (append-nil (forest_text (forest_in d))))
bytes-closed d (in_group before b a) = omega (arith, len-join before (with_put b d), len-with_put b d)

bytes-piece : (p : Piece) (s : Stand) → bytes_in (after_piece p s) ≡ bytes_in s + bytes_by p
bytes-piece (Whole x) s = omega (arith, len-join s.done (reading_of blank (element_of x)), bytes-whole (element_of x) (term_of (element_of x)) refl)
bytes-piece (Open x) s = refl
bytes-piece (Group n) s = refl
bytes-piece Close s = bytes-closed s.done s.around ∙ omega arith

bytes-after : (ps : List Piece) (s : Stand) → bytes_in (after ps s) ≡ bytes_in s + all_bytes ps
bytes-after [] s = omega arith
bytes-after (p ∷ ps) s = omega (arith, bytes-after ps (after_piece p s), bytes-piece p s)

-- what fits a node fits the ranges
pub bytes-fit : (ps : List Piece) (m : Marked) (t : Tree) → Say ps m → IsNode m t → all_bytes ps ≡ length (tree_text t)
bytes-fit ps m t h n =
    omega (arith, bytes-after ps start, ap bytes_in (h.says start), ap (λ f. length (forest_text f)) n, ap length (append-nil (tree_text t)))
