-- The tokens that stay, by the pieces of a rewritten tree and by the tree.
use Rattle.std.proofs.Common.{◌≡◌, ℕ, zero, suc, ◌+◌, List, [], ◌∷◌, ◌++◌, length, drop, Option, Some, None, Bool, true, false, ◌&&◌, ◌||◌, nat_eq, if◌then◌else◌, refl, ap, sym, ◌∙◌, arith, append_assoc, length-append}
use Rattle.std.proofs.lemmas.Bool.{eq-eqb, false≢true, false_from_ne_true}
use Rattle.std.proofs.lemmas.List.{append-nil}
use Rattle.rowan_green.specs.Forest.{Forest, empty, node, leaf, forest_text, tree_text}
use Rattle.rowan_green.specs.Term.{Term, terms}
use Rattle.rowan_green.specs.declared.utility_types.NodeOrToken.TheVariants.{Node, Token}
use Rattle.rowan.specs.Place.{Place, below, children_in, terms_below, start_of, text_at, text_in, kind_at}
use Rattle.rowan.proofs.Places.{next_start}
use Rattle.syntax_tree.specs.Element.{Way, Element, term_of}
use Rattle.syntax_tree.specs.Handle.{element_of}
use Rattle.tree_rewrite.specs.Marked.{Marked, nothing, inner, token, join, forest_in, with_put, filled, blank, read_from, reading_of}
use Rattle.tree_rewrite.specs.Pieces.{Around, outside, in_node, in_group, is_outermost, Stand, start, closed, after_piece, after, Say}
use Rattle.tree_rewrite.specs.Changed.{text_len}
use Rattle.tree_rewrite.specs.Tracking.{is_put, or_told, told_in, as_told, before_in}
use Rattle.tree_rewrite.specs.declared.piece.Piece.{Piece}
use Rattle.tree_rewrite.specs.declared.piece.Piece.TheVariants.{Whole, Open, Group, Close}
use Rattle.tree_rewrite.proofs.MarkedLemmas.{forest_in-blank}
use Rattle.tree_rewrite.proofs.GreenLemmas.{forest_in-with_put}
use Rattle.tree_rewrite.proofs.FillLemmas.{drop_first}
use Rattle.tree_rewrite.proofs.ChangedLemmas.{len-join, len-whole, told-join, told-put}
use Rattle.rust_source.specs.ChangedRanges.{bytes_of, follows, in_a_group, in_a_node, joined, standing, standing_at, top_level, unchanged_in, up_to, Standing}
use Rattle.rust_source.specs.declared.changed_ranges.Level.{Level}

-- ---- lists that join to the same
pub record SameJoined (xs ys : List Standing) : Type 0 where
  pub same : (s : Standing) (rest : List Standing) → joined s (xs ++ rest) ≡ joined s (ys ++ rest)

equal : (xs ys : List Standing) → xs ≡ ys → SameJoined xs ys
equal xs ys h = record { same = λ s rest. ap (λ l. joined s (l ++ rest)) h }

so : (xs ys zs : List Standing) → SameJoined xs ys → SameJoined ys zs → SameJoined xs zs
so xs ys zs h k = record { same = λ s rest. h.same s rest ∙ k.same s rest }

back : (xs ys : List Standing) → SameJoined xs ys → SameJoined ys xs
back xs ys h = record { same = λ s rest. sym (h.same s rest) }

front : (zs xs ys : List Standing) → ((s : Standing) → joined s xs ≡ joined s ys) → (s : Standing) → joined s (zs ++ xs) ≡ joined s (zs ++ ys)
front [] xs ys h s = h s
front (z ∷ zs) xs ys h s = λ j. if follows s z then front zs xs ys h (up_to s z) j else (s ∷ front zs xs ys h z j)

both : (xs ys zs vs : List Standing) → SameJoined xs ys → SameJoined zs vs → SameJoined (xs ++ zs) (ys ++ vs)
both xs ys zs vs h k = record {
  same = λ s rest.
      ap (joined s) (append_assoc xs zs rest)
      ∙ h.same s (zs ++ rest)
      ∙ front ys (zs ++ rest) (vs ++ rest) (λ t. k.same t rest) s
      ∙ sym (ap (joined s) (append_assoc ys vs rest));
}

same_number : (n : ℕ) → nat_eq n n ≡ true
same_number n = eq-eqb n n refl

-- bytes that follow
next_joins : (s t : Standing) (rest : List Standing) → t.start ≡ s.end → t.place ≡ s.stop → joined s (t ∷ rest) ≡ joined (up_to s t) rest
next_joins s t rest h k =
    let yes : follows s t ≡ true = (λ j. nat_eq (h j) s.end && nat_eq (k j) s.stop) ∙ (λ j. same_number s.end j && same_number s.stop j) in
    ap (λ (b : Bool). if b then joined (up_to s t) rest else (s ∷ joined t rest)) yes

-- `n` bytes, and `n` more
two : (start place n m : ℕ) → SameJoined (standing_at start place n ++ standing_at (start + n) (place + n) m) (standing_at start place (n + m))
two start place zero m =
    let a : start + 0 ≡ start = omega arith in
    let b : place + 0 ≡ place = omega arith in
    let c : m ≡ 0 + m = omega arith in
    equal _ _ ((λ j. standing_at (a j) (b j) m) ∙ ap (standing_at start place) c)
two start place (suc n) zero = equal _ _ (ap (standing_at start place) (let c : suc n ≡ suc n + 0 = omega arith in c))
two start place (suc n) (suc m) = record {
  same = λ s rest.
      let first : Standing = record { start = start; end = start + suc n; place = place; stop = place + suc n } in
      let second : Standing = record { start = start + suc n; end = start + suc n + suc m; place = place + suc n; stop = place + suc n + suc m } in
      let c : suc (n + suc m) ≡ suc n + suc m = omega arith in
      let a : start + suc n + suc m ≡ start + suc (n + suc m) = omega arith in
      let b : place + suc n + suc m ≡ place + suc (n + suc m) = omega arith in
      let whole : Standing = record { start = start; end = start + suc (n + suc m); place = place; stop = place + suc (n + suc m) } in
      let step : (x : Standing) → joined x (second ∷ rest) ≡ joined (up_to x second) rest → joined x (second ∷ rest) ≡ joined (up_to x whole) rest =
      λ x h. h ∙ (λ j. joined (record { start = x.start; end = a j; place = x.place; stop = b j }) rest) in
      (λ j. if follows s first
      then (step (up_to s first) (next_joins (up_to s first) second rest refl refl) j)
      else (s ∷ step first (next_joins first second rest refl refl) j))
      ∙ ap (λ l. joined s (l ++ rest)) (ap (standing_at start place) c);
}

-- ---- an element that nothing changed

-- the tokens below it are as long as it is
filled_same : (e : Element) (w : Way) (i place : ℕ) (f : Forest) → drop i (terms_below (record { root = e.place.root; up = w ++ e.place.up })) ≡ terms f
    → SameJoined (unchanged_in place (filled blank e w i f)) (standing_at (start_of (below (record { root = e.place.root; up = w ++ e.place.up }) i)) place (length (forest_text f)))
filled_same e w i place empty h = equal _ _ refl
filled_same e w i place (node k f r) h =
    let p : Place = record { root = e.place.root; up = w ++ e.place.up } in
    let start = start_of (below p i) in
    let n = length (forest_text f) in
    let here = drop_first (terms_below p) i (Node (record { kind = k; forest = f })) (terms r) (sym h) in
    let len : text_len (filled blank e (i ∷ w) 0 f) ≡ n = ap (λ g. length (forest_text g)) (forest_in-blank e (i ∷ w) 0 f) in
    let first : start_of (below (below p i) 0) ≡ start = omega arith in
    let next : start_of (below p (i + 1)) ≡ start + n = next_start p i ∙ ap (λ o. start + length (text_in o)) here.0 in
    let inside = filled_same e (i ∷ w) 0 place f (ap children_in here.0) in
    let rest = filled_same e w (i + 1) (place + text_len (filled blank e (i ∷ w) 0 f)) r (sym here.1) in
    so _ _ _
    (both _ _ _ _ inside rest)
    (so _ _ _
    (equal _ _ (λ j. standing_at (first j) place n ++ standing_at (next j) (place + len j) (length (forest_text r))))
    (so _ _ _ (two start place n (length (forest_text r)))
    (equal _ _ (ap (standing_at start place) (sym (length-append (forest_text f) (forest_text r)))))))
filled_same e w i place (leaf l r) h =
    let p : Place = record { root = e.place.root; up = w ++ e.place.up } in
    let start = start_of (below p i) in
    let n = length l.text in
    let here = drop_first (terms_below p) i (Token l) (terms r) (sym h) in
    let next : start_of (below p (i + 1)) ≡ start + n = next_start p i ∙ ap (λ o. start + length (text_in o)) here.0 in
    let rest = filled_same e w (i + 1) (place + n) r (sym here.1) in
    so _ _ _
    (both (standing_at start place n) _ _ _ (equal _ _ refl) rest)
    (so _ _ _
    (equal _ _ (λ j. standing_at start place n ++ standing_at (next j) (place + n) (length (forest_text r))))
    (so _ _ _ (two start place n (length (forest_text r)))
    (equal _ _ (ap (standing_at start place) (sym (length-append l.text (forest_text r)))))))

-- its tokens, where it is not inserted
whole_same : (x : Element) (place : ℕ) (o : Option Term) → term_of x ≡ o → (t : Option Bool) → is_put t ≡ false
    → SameJoined (unchanged_in place (as_told t (reading_of blank x))) (standing_at (start_of x.place) place (length (text_at x.place)))
whole_same x place o h (Some true) free = absurd (cc)
whole_same x place None h None free = equal _ _ ((λ j. unchanged_in place (read_from blank x (h j))) ∙ sym (ap (λ p. standing_at (start_of x.place) place (length (text_in p))) h))
whole_same x place None h (Some false) free = equal _ _ ((λ j. unchanged_in place (with_put false (read_from blank x (h j)))) ∙ sym (ap (λ p. standing_at (start_of x.place) place (length (text_in p))) h))
whole_same x place (Some (Token l)) h None free =
    equal _ _ ((λ j. unchanged_in place (read_from blank x (h j))) ∙ append-nil (standing_at (start_of x.place) place (length l.text)) ∙ sym (ap (λ p. standing_at (start_of x.place) place (length (text_in p))) h))
whole_same x place (Some (Token l)) h (Some false) free =
    equal _ _ ((λ j. unchanged_in place (with_put false (read_from blank x (h j)))) ∙ append-nil (standing_at (start_of x.place) place (length l.text)) ∙ sym (ap (λ p. standing_at (start_of x.place) place (length (text_in p))) h))
whole_same x place (Some (Node t)) h None free =
    let first : start_of (below x.place 0) ≡ start_of x.place = omega arith in
    so _ _ _ (equal _ _ ((λ j. unchanged_in place (read_from blank x (h j))) ∙ append-nil (unchanged_in place (filled blank x [] 0 t.forest))))
    (so _ _ _ (filled_same x [] 0 place t.forest (ap children_in h))
    (equal _ _ ((λ j. standing_at (first j) place (length (tree_text t))) ∙ sym (ap (λ p. standing_at (start_of x.place) place (length (text_in p))) h))))
whole_same x place (Some (Node t)) h (Some false) free =
    let first : start_of (below x.place 0) ≡ start_of x.place = omega arith in
    so _ _ _ (equal _ _ ((λ j. unchanged_in place (with_put false (read_from blank x (h j)))) ∙ append-nil (unchanged_in place (filled blank x [] 0 t.forest))))
    (so _ _ _ (filled_same x [] 0 place t.forest (ap children_in h))
    (equal _ _ ((λ j. standing_at (first j) place (length (tree_text t))) ∙ sym (ap (λ p. standing_at (start_of x.place) place (length (text_in p))) h))))

-- ---- lists one after another
unchanged-join : (place : ℕ) (m n : Marked) → unchanged_in place (join m n) ≡ unchanged_in place m ++ unchanged_in (place + text_len m) n
unchanged-join place nothing n = ap (λ at. unchanged_in at n) (omega arith)
unchanged-join place (inner k h f r) n =
    let here = if k.put then [] else unchanged_in place f in
    let at : place + text_len f + text_len r ≡ place + text_len (inner k h f r) = omega (arith, length-append (forest_text (forest_in f)) (forest_text (forest_in r))) in
    ap (λ l. here ++ l) (unchanged-join (place + text_len f) r n ∙ ap (λ z. unchanged_in (place + text_len f) r ++ unchanged_in z n) at)
    ∙ sym (append_assoc here (unchanged_in (place + text_len f) r) (unchanged_in (place + text_len (inner k h f r)) n))
unchanged-join place (token k l r) n =
    let here = if k.put then [] else standing_at (start_of k.origin.place) place (length l.text) in
    let at : place + length l.text + text_len r ≡ place + text_len (token k l r) = omega (arith, length-append l.text (forest_text (forest_in r))) in
    ap (λ l. here ++ l) (unchanged-join (place + length l.text) r n ∙ ap (λ z. unchanged_in (place + length l.text) r ++ unchanged_in z n) at)
    ∙ sym (append_assoc here (unchanged_in (place + length l.text) r) (unchanged_in (place + text_len (token k l r)) n))

len-with_put : (b : Bool) (m : Marked) → text_len (with_put b m) ≡ text_len m
len-with_put b m = ap (λ f. length (forest_text f)) (forest_in-with_put b m)

len-told : (o : Option Bool) (m : Marked) → text_len (as_told o m) ≡ text_len m
len-told None m = refl
len-told (Some b) m = len-with_put b m

bytes-whole : (x : Element) (o : Option Term) → term_of x ≡ o → text_len (reading_of blank x) ≡ length (text_at x.place)
bytes-whole x None h = ap (λ p. text_len (read_from blank x p)) h ∙ sym (ap (λ p. length (text_in p)) h)
bytes-whole x (Some g) h = len-whole x g h

-- ---- open nodes and groups
abbrev level_of : Around → Level
level_of outside = top_level
level_of (in_node d e a) = in_a_node (level_of a)
level_of (in_group d b a) = in_a_group b (level_of a)

abbrev levels_of : Around → List Level
levels_of outside = []
levels_of (in_node d e a) = level_of a ∷ levels_of a
levels_of (in_group d b a) = level_of a ∷ levels_of a

abbrev told : Option Bool → Bool
told None = false
told (Some b) = true

-- what a level says of the flag
record Fits (a : Around) : Type 0 where
  group : (level_of a).is_in_group ≡ told (told_in a)
  put : is_put (told_in a) ≡ true → (level_of a).is_inserted ≡ true

grouped : (l : Level) (o : Option Bool) (b : Bool) → l.is_in_group ≡ told o → (is_put o ≡ true → l.is_inserted ≡ true) → or_told o b ≡ true → (in_a_group b l).is_inserted ≡ true
grouped l None b h k e = (λ j. if h j then l.is_inserted else (l.is_inserted || e j)) ∙ or_true l.is_inserted
  where
    or_true : (c : Bool) → (c || true) ≡ true
    or_true true = refl
    or_true false = refl
grouped l (Some c) b h k e = (λ j. if h j then l.is_inserted else (l.is_inserted || b)) ∙ k e

fits : (a : Around) → Fits a
fits outside = record { group = refl; put = λ h. h }
fits (in_node d e a) = record { group = refl; put = λ h. absurd (cc) }
fits (in_group d b a) = record { group = refl; put = grouped (level_of a) (told_in a) b (fits a).group (fits a).put }

-- the tokens so far
abbrev here : Marked → Around → List Standing
here d a = if (level_of a).is_inserted then [] else unchanged_in (before_in a) (as_told (told_in a) d)

abbrev before : Around → List Standing
before outside = []
before (in_node d e a) = before a ++ here d a
before (in_group d b a) = before a ++ here d a

abbrev so_far : Marked → Around → List Standing
so_far d a = before a ++ here d a

abbrev place_of : Stand → ℕ
place_of s = before_in s.around + text_len s.done

abbrev with_rest : Stand → List Piece → List Standing
with_rest s ps = so_far s.done s.around ++ standing (level_of s.around) (levels_of s.around) (place_of s) ps

none-put : (place : ℕ) (m : Marked) → unchanged_in place (with_put true m) ≡ []
none-put place nothing = refl
none-put place (inner k h f r) = none-put (place + text_len f) r
none-put place (token k l r) = none-put (place + length l.text) r

unless : (b : Bool) (xs ys zs : List Standing) → xs ≡ ys ++ zs → (if b then [] else xs) ≡ (if b then [] else ys) ++ (if b then [] else zs)
unless true xs ys zs h = refl
unless false xs ys zs h = h

nothing-here : (b : Bool) (o : Option Bool) (place : ℕ) → (if b then [] else unchanged_in place (as_told o nothing)) ≡ []
nothing-here true o place = refl
nothing-here false None place = refl
nothing-here false (Some c) place = refl

abbrev more : Marked → Marked → Around → List Standing
more n d a = if (level_of a).is_inserted then [] else unchanged_in (before_in a + text_len d) (as_told (told_in a) n)

so-far-join : (n d : Marked) (a : Around) → so_far (join d n) a ≡ so_far d a ++ more n d a
so-far-join n d a =
    let o = told_in a in
    ap (λ l. before a ++ l) (unless (level_of a).is_inserted (unchanged_in (before_in a) (as_told o (join d n))) (unchanged_in (before_in a) (as_told o d)) (unchanged_in (before_in a + text_len d) (as_told o n))
    (ap (unchanged_in (before_in a)) (told-join o d n)
    ∙ unchanged-join (before_in a) (as_told o d) (as_told o n)
    ∙ ap (λ z. unchanged_in (before_in a) (as_told o d) ++ unchanged_in (before_in a + z) (as_told o n)) (len-told o d)))
    ∙ sym (append_assoc (before a) (here d a) (more n d a))

-- ---- the end of a node or group
node-here : (b : Bool) (o : Option Bool) (e : Element) (k place : ℕ) (d : Marked) → (is_put o ≡ true → b ≡ true)
    → (if b then [] else unchanged_in place (as_told o (inner (record { origin = e; put = false }) k d nothing))) ≡ (if b then [] else unchanged_in place d)
node-here true o e k place d h = refl
node-here false None e k place d h = append-nil (unchanged_in place d)
node-here false (Some false) e k place d h = append-nil (unchanged_in place d)
node-here false (Some true) e k place d h = absurd (false≢true (h refl))

group-here : (l : Level) (b : Bool) → l.is_inserted ≡ b → (o : Option Bool) (c : Bool) (place : ℕ) (d : Marked) → l.is_in_group ≡ told o
    → (if b then [] else unchanged_in place (as_told (Some (or_told o c)) d)) ≡ (if (if told o then b else (b || c)) then [] else unchanged_in place (as_told (Some (or_told o c)) d))
group-here l true h None c place d k = refl
group-here l true h (Some v) c place d k = refl
group-here l false h None true place d k = none-put place d
group-here l false h None false place d k = refl
group-here l false h (Some v) c place d k = refl

closes : (a : Around) (d : Marked) (ps : List Piece) → with_rest (record { done = d; around = a }) (Close ∷ ps) ≡ with_rest (closed d a) ps
closes outside d ps = refl
closes (in_node b e a) d ps =
    let whole : Marked = inner (record { origin = e; put = false }) (kind_at e.place) d nothing in
    let at : before_in a + text_len b + text_len d ≡ before_in a + text_len (join b whole) = omega (arith, len-join b whole, ap length (append-nil (forest_text (forest_in d)))) in
    let same : so_far d (in_node b e a) ≡ so_far (join b whole) a =
    ap (λ l. so_far b a ++ l) (sym (node-here (level_of a).is_inserted (told_in a) e (kind_at e.place) (before_in a + text_len b) d (fits a).put)) ∙ sym (so-far-join whole b a) in
    λ j. same j ++ standing (level_of a) (levels_of a) (at j) ps
closes (in_group b c a) d ps =
    let at : before_in a + text_len b + text_len d ≡ before_in a + text_len (join b (with_put c d)) = omega (arith, len-join b (with_put c d), len-with_put c d) in
    let l = level_of a in
    let o = told_in a in
    let same : so_far d (in_group b c a) ≡ so_far (join b (with_put c d)) a =
    ap (λ (g : Bool). so_far b a ++ (if (if g then l.is_inserted else (l.is_inserted || c)) then [] else unchanged_in (before_in a + text_len b) (as_told (Some (or_told o c)) d))) (fits a).group
    ∙ ap (λ v. so_far b a ++ v) (sym (group-here l l.is_inserted refl o c (before_in a + text_len b) d (fits a).group))
    ∙ ap (λ m. so_far b a ++ (if l.is_inserted then [] else unchanged_in (before_in a + text_len b) m)) (sym (told-put o c d))
    ∙ sym (so-far-join (with_put c d) b a) in
    λ j. same j ++ standing (level_of a) (levels_of a) (at j) ps

-- ---- piece by piece
passes : (b : Bool) (o : Option Bool) (x : Element) (place : ℕ) → (is_put o ≡ true → b ≡ true)
    → SameJoined (if b then [] else standing_at (start_of x.place) place (length (text_at x.place))) (if b then [] else unchanged_in place (as_told o (reading_of blank x)))
passes true o x place h = equal _ _ refl
passes false o x place h = back _ _ (whole_same x place (term_of x) refl o (false_from_ne_true (is_put o) (λ e. false≢true (h e))))

by-piece : (ps : List Piece) (s : Stand) → SameJoined (with_rest s ps) (so_far (after ps s).done (after ps s).around)
by-piece [] s = equal _ _ (append-nil (so_far s.done s.around))
by-piece (Whole e ∷ ps) s =
    let x = element_of e in
    let d = s.done in
    let a = s.around in
    let rd = reading_of blank x in
    let l = level_of a in
    let one : List Standing = if l.is_inserted then [] else standing_at (start_of x.place) (place_of s) (bytes_of e) in
    let rest = standing l (levels_of a) (place_of s + bytes_of e) ps in
    let at : place_of s + bytes_of e ≡ before_in a + text_len (join d rd) = omega (arith, len-join d rd, bytes-whole x (term_of x) refl) in
    so _ _ _ (equal _ _ (sym (append_assoc (so_far d a) one rest)))
    (so _ _ _ (both (so_far d a ++ one) (so_far d a ++ more rd d a) rest rest (both (so_far d a) (so_far d a) _ _ (equal _ _ refl) (passes l.is_inserted (told_in a) x (place_of s) (fits a).put)) (equal _ _ refl))
    (so _ _ _ (equal _ _ (ap (λ v. v ++ rest) (sym (so-far-join rd d a))))
    (so _ _ _ (equal _ _ (λ j. so_far (join d rd) a ++ standing l (levels_of a) (at j) ps))
    (by-piece ps (after_piece (Whole e) s)))))
by-piece (Open e ∷ ps) s =
    let a = s.around in
    let d = s.done in
    let at : place_of s ≡ place_of s + 0 = omega arith in
    let same : so_far d a ≡ so_far nothing (in_node d e a) = sym (ap (λ l. so_far d a ++ l) (nothing-here (level_of a).is_inserted None (before_in a + text_len d)) ∙ append-nil (so_far d a)) in
    so _ _ _ (equal _ _ (λ j. same j ++ standing (in_a_node (level_of a)) (level_of a ∷ levels_of a) (at j) ps)) (by-piece ps (after_piece (Open e) s))
by-piece (Group n ∷ ps) s =
    let a = s.around in
    let d = s.done in
    let b = is_outermost n in
    let at : place_of s ≡ place_of s + 0 = omega arith in
    let same : so_far d a ≡ so_far nothing (in_group d b a) =
    sym (ap (λ l. so_far d a ++ l) (nothing-here (in_a_group b (level_of a)).is_inserted (Some (or_told (told_in a) b)) (before_in a + text_len d)) ∙ append-nil (so_far d a)) in
    so _ _ _ (equal _ _ (λ j. same j ++ standing (in_a_group b (level_of a)) (level_of a ∷ levels_of a) (at j) ps)) (by-piece ps (after_piece (Group n) s))
by-piece (Close ∷ ps) s = so _ _ _ (equal _ _ (closes s.around s.done ps)) (by-piece ps (after_piece Close s))

-- the tokens of the pieces are those of the tree
pub unchanged : (ps : List Piece) (m : Marked) → Say ps m → (s : Standing) → joined s (standing (top_level) [] 0 ps) ≡ joined s (unchanged_in 0 m)
unchanged ps m h s =
    let all = by-piece ps start in
    ap (joined s) (sym (append-nil (standing (top_level) [] 0 ps)))
    ∙ all.same s []
    ∙ ap (λ (t : Stand). joined s (so_far t.done t.around ++ [])) (h.says start)
    ∙ ap (joined s) (append-nil (unchanged_in 0 m))
