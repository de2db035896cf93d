-- Stretches of texts, passed alone and together.
use Rattle.std.proofs.Common.{◌≡◌, ℕ, zero, suc, ◌+◌, ◌-◌, ◌<◌, ◌≤◌, min, List, [], ◌∷◌, ◌++◌, length, take, drop, length-take, length-drop, length-append, append_assoc, append-nil, add-one, ◌^◌, refl, sym, ◌∙◌, ap, subst, arith, Some, slice_get, take_all, inl, inr, ◌⊎◌, Bool, true, false, not}
use Rattle.std.proofs.lemmas.List.{take-append-drop, drop-take}
use Rattle.std.proofs.Math.Seq.{take-add}
use Rattle.std.specs.Bool.{OnTrue}
use Rattle.std.specs.Str.{bytes_eq}
use Rattle.rowan_green.specs.Leaf.{Leaf}
use Rattle.rowan_green.specs.Forest.{Tree, tree_text, tree_count, forest_count}
use Rattle.rowan_green.specs.Term.{Term, children_of, forest_of, texts_of, text_of, term_len}
use Rattle.rowan_green.specs.declared.utility_types.NodeOrToken.TheVariants.{Node, Token}
use Rattle.rowan.specs.declared.text_compare.Stretch.{Stretch}
use Rattle.rowan.specs.Comparing.{terms_left, bytes_left, count_left, IsStretch, IsHead, Passes, PassesBoth, Differ}
use Rattle.rowan.proofs.Parts.{texts_are, count_falls, whole_text, whole_count}
use Rattle.rowan.proofs.Bytes.{passed_bytes, bytes_same, same_bytes, bytes_differ}
use Rattle.rowan.proofs.Texts.{split_first}

drop_none : (m : ℕ) → drop {A = ℕ} m [] ≡ []
drop_none zero = refl
drop_none (suc m) = refl

drop_more : (w : List ℕ) (n m : ℕ) → drop m (drop n w) ≡ drop (n + m) w
drop_more w zero m = let e : m ≡ 0 + m = omega arith in ap (λ k. drop k w) e
drop_more [] (suc n) m = drop_none m ∙ sym (drop_none (suc n + m))
drop_more (x ∷ w) (suc n) m = let e : suc (n + m) ≡ suc n + m = omega arith in drop_more w n m ∙ ap (λ k. drop k (x ∷ w)) e

take_less : (w : List ℕ) (n m : ℕ) → n ≤ m → take n (take m w) ≡ take n w
take_less w zero m h = refl
take_less [] (suc n) zero h = refl
take_less [] (suc n) (suc m) h = refl
take_less (x ∷ w) (suc n) zero h = absurd (omega arith)
take_less (x ∷ w) (suc n) (suc m) h = ap (λ v. x ∷ v) (take_less w n m (omega arith))

next_term : (es : List Term) (i : ℕ) (e : Term) → slice_get es i ≡ Some e → drop i es ≡ e ∷ drop (suc i) es
next_term [] zero e h = absurd (cc)
next_term [] (suc i) e h = absurd (cc)
next_term (x ∷ es) zero e h = let q : x ≡ e = cc in ap (λ v. v ∷ es) q
next_term (x ∷ es) (suc i) e h = next_term es i e h

pub next_terms : (es : List Term) (i : ℕ) (e : Term) → slice_get es i ≡ Some e → drop i es ≡ e ∷ drop (i + 1) es
next_terms es i e h = rw add-one (next_term es i e h)

pub left_len : (s : Stretch) → IsStretch s → length (bytes_left s) ≡ s.left
left_len s h =
    omega (arith, length-take s.left (drop s.offset (texts_of (terms_left s))), length-drop s.offset (texts_of (terms_left s)), h.within)

pub passes_none : (s : Stretch) → IsStretch s → Passes 0 s s
passes_none s h = record { bytes = refl; left = omega arith; sound = h; falls = omega arith }

pub passes_more : (m n : ℕ) (s t u : Stretch) → Passes m s t → Passes n t u → Passes (m + n) s u
passes_more m n s t u p q = record {
  bytes = q.bytes ∙ ap (λ v. drop n v) p.bytes ∙ drop_more (bytes_left s) m n;
  left = omega (arith, p.left, q.left);
  sound = q.sound;
  falls = omega (arith, p.falls, q.falls);
}

-- bytes of the first term are passed
pub passes_bytes : (n : ℕ) (s t : Stretch) → IsStretch s → t.node ≡ s.node → t.index ≡ s.index → t.offset ≡ s.offset + n → s.left ≡ n + t.left → Passes n s t
passes_bytes n s t h node index offset left =
    let terms : terms_left t ≡ terms_left s = ap (λ v. drop v (children_of t.node)) index ∙ ap (λ v. drop s.index (children_of v)) node in
    let w = texts_of (terms_left s) in
    record {
      bytes =
          ap (λ v. take t.left (drop t.offset (texts_of v))) terms ∙ ap (λ k. take t.left (drop k w)) offset
          ∙ ap (λ v. take t.left v) (sym (drop_more w s.offset n)) ∙ sym (drop-take n t.left (drop s.offset w)) ∙ ap (λ k. drop n (take k (drop s.offset w))) (sym left);
      left = left;
      sound = record {
        within = omega (arith, h.within, offset, left, ap (λ v. length (texts_of v)) terms);
        fits = omega (arith, h.fits, offset, left);
      };
      falls = omega (arith, ap (λ v. forest_count (forest_of v)) terms);
    }

-- a term that lies before the first byte is passed
pub passes_term : (s t : Stretch) (e : Term) → IsStretch s → t.node ≡ s.node → t.index ≡ s.index + 1 → t.offset + term_len e ≡ s.offset → t.left ≡ s.left → slice_get (children_of s.node) s.index ≡ Some e → Passes 0 s t
passes_term s t e h node index offset left is =
    let after : terms_left t ≡ drop (s.index + 1) (children_of s.node) = ap (λ v. drop v (children_of t.node)) index ∙ ap (λ v. drop (s.index + 1) (children_of v)) node in
    let terms : terms_left s ≡ e ∷ terms_left t = next_terms (children_of s.node) s.index e is ∙ ap (λ v. e ∷ v) (sym after) in
    let a : t.offset ≡ s.offset - term_len e = omega (arith, offset) in
    record {
      bytes =
          ap (λ k. take t.left (drop k (texts_of (terms_left t)))) a ∙ ap (λ k. take k (drop (s.offset - term_len e) (texts_of (terms_left t)))) left
          ∙ sym (passed_bytes (terms_left s) (terms_left t) e terms (term_len e) s.offset refl s.left (omega (arith, offset)));
      left = omega (arith, left);
      sound = record {
        within = omega (arith, h.within, ap length (texts_are (terms_left s) (terms_left t) e terms), length-append (text_of e) (texts_of (terms_left t)), left, offset);
        fits = omega (arith, h.fits, left, offset);
      };
      falls = omega (arith, count_falls (terms_left s) (terms_left t) e terms);
    }

-- the bytes that are left in the first term
pub head_bytes : (s : Stretch) (e : Term) (n : ℕ) → IsHead s e → n ≤ s.left → s.offset + n ≤ term_len e → take n (bytes_left s) ≡ take n (drop s.offset (text_of e))
head_bytes s e n h l k =
    let z : n - n ≡ 0 = omega arith in
    take_less (drop s.offset (texts_of (terms_left s))) n s.left l
    ∙ ap (λ v. take n (drop s.offset v)) (texts_are (terms_left s) h.after e h.terms)
    ∙ split_first (text_of e) (texts_of h.after) s.offset n n h.inside (omega arith)
    ∙ ap (λ j. take n (drop s.offset (text_of e)) ++ take j (texts_of h.after)) z
    ∙ append-nil (take n (drop s.offset (text_of e)))

pub both_none : (a b : Stretch) → IsStretch a → IsStretch b → PassesBoth a b a b
both_none a b h k = record { count = 0; first = passes_none a h; second = passes_none b k; same = refl }

-- the first is passed alone, by nothing
pub both_first : (a b c d e : Stretch) → PassesBoth a b c d → Passes 0 c e → PassesBoth a b e d
both_first a b c d e p q =
    let r : p.count + 0 ≡ p.count = omega arith in
    record { count = p.count; first = subst (λ n. Passes n a e) r (passes_more p.count 0 a c e p.first q); second = p.second; same = p.same }

pub both_turned : (a b c d : Stretch) → PassesBoth a b c d → PassesBoth b a d c
both_turned a b c d p = record { count = p.count; first = p.second; second = p.first; same = sym p.same }

pub both_second : (a b c d e : Stretch) → PassesBoth a b c d → Passes 0 d e → PassesBoth a b c e
both_second a b c d e p q = both_turned b a e c (both_first b a d c e (both_turned a b c d p) q)

pub both_more : (a b c d e f : Stretch) → PassesBoth a b c d → PassesBoth c d e f → PassesBoth a b e f
both_more a b c d e f p q = record {
  count = p.count + q.count;
  first = passes_more p.count q.count a c e p.first q.first;
  second = passes_more p.count q.count b d f p.second q.second;
  same =
      take-add p.count q.count (bytes_left a) ∙ ap (λ v. take p.count (bytes_left a) ++ take q.count v) (sym p.first.bytes)
      ∙ ap (λ v. v ++ take q.count (bytes_left c)) p.same ∙ ap (λ v. take p.count (bytes_left b) ++ v) q.same
      ∙ ap (λ v. take p.count (bytes_left b) ++ take q.count v) p.second.bytes ∙ sym (take-add p.count q.count (bytes_left b));
}

pub differ_turned : (x y : List ℕ) → Differ x y → Differ y x
differ_turned x y h = λ v w e. h w v (sym e)

same_after : (f x y : List ℕ) → f ++ x ≡ f ++ y → x ≡ y
same_after [] x y e = e
same_after (z ∷ f) x y e = same_after f x y (ap (λ v. drop 1 v) e)

-- a text with more after it, cut after its first `n` bytes
cut_text : (x v : List ℕ) (n : ℕ) → x ++ v ≡ take n x ++ (drop n x ++ v)
cut_text x v n = ap (λ u. u ++ v) (sym (take-append-drop n x)) ∙ append_assoc (take n x) (drop n x) v

-- what differs after a common front differs
pub differ_after : (x y : List ℕ) (n : ℕ) → take n x ≡ take n y → Differ (drop n x) (drop n y) → Differ x y
differ_after x y n same h = λ v w e.
    h v w (same_after (take n x) _ _ (sym (cut_text x v n) ∙ e ∙ cut_text y w n ∙ ap (λ u. u ++ (drop n y ++ w)) (sym same)))

-- stretches that differ after both skipped equal bytes differed before
pub both_differ : (a b c d : Stretch) → PassesBoth a b c d → Differ (bytes_left c) (bytes_left d) → Differ (bytes_left a) (bytes_left b)
both_differ a b c d p h =
    differ_after (bytes_left a) (bytes_left b) p.count p.same (subst (λ v. Differ (drop p.count (bytes_left a)) v) p.second.bytes (subst (λ v. Differ v (bytes_left d)) p.first.bytes h))

-- what begins differently differs
pub differ_before : (x y u : List ℕ) (n : ℕ) → take n x ≡ u → Differ u y → Differ x y
differ_before x y u n t h = λ v w e. h (drop n x ++ v) w (ap (λ z. z ++ (drop n x ++ v)) (sym t) ∙ sym (cut_text x v n) ∙ e)

take_front : (x v : List ℕ) (n : ℕ) → n ≤ length x → take n (x ++ v) ≡ take n x
take_front x v zero h = refl
take_front [] v (suc n) h = absurd (omega arith)
take_front (z ∷ x) v (suc n) h = ap (λ u. z ∷ u) (take_front x v n (omega arith))

pub differ_fronts : (x y : List ℕ) (n : ℕ) → n ≤ length x → n ≤ length y → (take n x ≡ take n y → ⊥) → Differ x y
differ_fronts x y n h k d = λ v w e. d (sym (take_front x v n h) ∙ ap (λ u. take n u) e ∙ take_front y w n k)

-- ---- stretches that begin with their node's first child

module _ (s : Stretch) (first : s.index ≡ 0) where
  all_terms : terms_left s ≡ children_of s.node
  all_terms = ap (λ k. drop k (children_of s.node)) first

  all_text : texts_of (terms_left s) ≡ tree_text s.node
  all_text = ap texts_of all_terms ∙ whole_text s.node

  pub whole_stretch : s.offset + s.left ≤ length (tree_text s.node) → s.offset + s.left < 2 ^ 32 → IsStretch s
  whole_stretch h k = record { within = omega (arith, h, ap length all_text); fits = k }

  pub whole_bytes : bytes_left s ≡ take s.left (drop s.offset (tree_text s.node))
  whole_bytes = ap (λ v. take s.left (drop s.offset v)) all_text

  pub whole_left : count_left s + 1 ≤ tree_count s.node
  whole_left = omega (arith, whole_count s.node, ap (λ v. forest_count (forest_of v)) all_terms)

-- ---- the part of a stretch in the node that it begins in

module _ (a inner : Stretch) (t : Tree) (h : IsHead a (Node t)) (node : inner.node ≡ t) (first : inner.index ≡ 0) (offset : inner.offset ≡ a.offset) (left : inner.left ≡ min a.left (length (tree_text t) - a.offset)) where
  pub inner_stretch : IsStretch a → IsStretch inner
  inner_stretch k =
      whole_stretch inner first (omega (arith, h.inside, left, offset, ap (λ v. length (tree_text v)) node)) (omega (arith, k.fits, left, offset))

  pub inner_falls : count_left inner + 1 ≤ count_left a
  inner_falls = omega (arith, whole_left inner first, ap tree_count node, count_falls (terms_left a) h.after (Node t) h.terms)

  pub inner_bytes : bytes_left inner ≡ take inner.left (bytes_left a)
  inner_bytes =
      whole_bytes inner first ∙ ap (λ v. take inner.left (drop inner.offset (tree_text v))) node ∙ ap (λ k. take inner.left (drop k (tree_text t))) offset
      ∙ sym (head_bytes a (Node t) inner.left h (omega (arith, left)) (omega (arith, h.inside, left)))

  -- what passes there passes in the whole
  pub inner_both : (b c d e : Stretch) (n : ℕ) → PassesBoth inner b c d → n ≡ inner.left - c.left → Passes n a e → PassesBoth a b e d
  inner_both b c d e n p m q =
      let k : n ≡ p.count = omega (arith, m, p.first.left) in
      let l : p.count ≤ inner.left = omega (arith, p.first.left) in
      record {
        count = p.count;
        first = subst (λ j. Passes j a e) k q;
        second = p.second;
        same = sym (take_less (bytes_left a) p.count inner.left l) ∙ ap (λ v. take p.count v) (sym inner_bytes) ∙ p.same;
      }

  pub inner_differ : (y : List ℕ) → Differ (bytes_left inner) y → Differ (bytes_left a) y
  inner_differ y d = differ_before (bytes_left a) y (bytes_left inner) inner.left (sym inner_bytes) d

-- ---- stretches that begin in tokens

not_false : (b : Bool) → not b ≡ false → b ≡ true
not_false true h = refl
not_false false h = absurd (cc)

not_true : (b : Bool) → not b ≡ true → b ≡ true → ⊥
not_true true h k = absurd (cc)
not_true false h k = absurd (cc)

module _ (a b : Stretch) (l m : Leaf) (here : IsHead a (Token l)) (there : IsHead b (Token m)) (sa : IsStretch a) (sb : IsStretch b) (n : ℕ) (na : n ≤ a.left) (nb : n ≤ b.left) (fa : a.offset + n ≤ length l.text) (fb : b.offset + n ≤ length m.text) where
  module _ (x y : List ℕ) (ne : Bool) (xe : x ≡ take n (drop a.offset l.text)) (ye : y ≡ take n (drop b.offset m.text)) (is : ne ≡ not (bytes_eq x y)) where
    pub fronts_same : (c d : Stretch) → ne ≡ false → Passes n a c → Passes n b d → PassesBoth a b c d
    fronts_same c d h p q = record {
      count = n;
      first = p;
      second = q;
      same =
          head_bytes a (Token l) n here na fa ∙ sym xe ∙ same_bytes x y (not_false (bytes_eq x y) (sym is ∙ h)) ∙ ye
          ∙ sym (head_bytes b (Token m) n there nb fb);
    }

    pub fronts_differ : ne ≡ true → Differ (bytes_left a) (bytes_left b)
    fronts_differ h =
        differ_fronts (bytes_left a) (bytes_left b) n (omega (arith, left_len a sa)) (omega (arith, left_len b sb)) (λ e.
        not_true (bytes_eq x y) (sym is ∙ h) (bytes_same x y (xe ∙ sym (head_bytes a (Token l) n here na fa) ∙ e ∙ head_bytes b (Token m) n there nb fb ∙ sym ye)))

-- ---- stretches of which one is passed

all_passed : (a b c d : Stretch) → IsStretch a → IsStretch b → PassesBoth a b c d → c.left ≡ 0 → d.left ≡ 0 → bytes_left a ≡ bytes_left b
all_passed a b c d h k p l m =
    let x : length (bytes_left a) ≤ p.count = omega (arith, left_len a h, p.first.left) in
    let y : length (bytes_left b) ≤ p.count = omega (arith, left_len b k, p.second.left) in
    sym (take_all p.count (bytes_left a) x) ∙ p.same ∙ take_all p.count (bytes_left b) y

module _ (a b c d : Stretch) (x y : List ℕ) (s : bytes_left a ≡ x) (t : bytes_left b ≡ y) (e : a.left ≡ b.left) (h : IsStretch a) (k : IsStretch b) where
  pub equal_fronts : (r : Bool) → OnTrue r (PassesBoth a b c d) → OnTrue r ((c.left ≡ 0) ⊎ (d.left ≡ 0)) → (r ≡ false → Differ (bytes_left a) (bytes_left b)) → r ≡ bytes_eq x y
  equal_fronts true p q w =
      let f = p.first.left in
      let g = p.second.left in
      let l : c.left ≡ 0 = elim q [ inl i ↦ i | inr i ↦ omega arith ] in
      sym (bytes_same x y (sym s ∙ all_passed a b c d h k p l (omega arith) ∙ t))
  equal_fronts false p q w =
      sym (bytes_differ x y (λ i. w refl [] [] (ap (λ v. v ++ []) (s ∙ i ∙ sym t))))
