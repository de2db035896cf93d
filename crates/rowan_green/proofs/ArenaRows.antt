-- Lemmas on the texts of items: those in a row are one piece of the arena's text.
use Rattle.std.proofs.Common.{◌≡◌, ℕ, zero, suc, ◌+◌, ◌≤◌, ◌<◌, List, [], ◌∷◌, ◌++◌, length, take, drop, refl, ap, sym, ◌∙◌, arith, subst, length-append, length-take, length-drop, get_or, string_bytes}
use Rattle.std.proofs.lemmas.List.{drop-drop}
use Rattle.std.proofs.Math.Seq.{take-add}
use Rattle.std.specs.Prelude.{IsCharBoundary}
use Rattle.rowan_green.specs.Term.{Term, texts_of, text_of, term_len}
use Rattle.rowan_green.specs.declared.utility_types.NodeOrToken.TheVariants.{Node, Token}
use Rattle.rowan_green.specs.declared.arena.Entry.{Entry}
use Rattle.rowan_green.specs.declared.arena.Entry.TheVariants.{Short, Few, Long, Many}
use Rattle.rowan_green.specs.declared.arena.Record.{Record}
use Rattle.rowan_green.specs.declared.arena.Arena.{Arena}
use Rattle.rowan_green.specs.Arena.{Item, terms_at, item_end, piece, row_start, record_at, token_item, node_item, item_of, items_after, items_in, item_in, IsRow, IsTextRange, IsPlaced, AreOrdered, IsSound}

-- ---- rows

pub texts_cons : (d : Term) (es : List Term) → texts_of (d ∷ es) ≡ text_of d ++ texts_of es
texts_cons (Node t) es = refl
texts_cons (Token l) es = refl

-- how many bytes the texts of these items have
abbrev pub row_len : List Item → ℕ
row_len xs = length (texts_of (terms_at xs))

pub row_len-cons : (x : Item) (xs : List Item) → row_len (x ∷ xs) ≡ term_len x.term + row_len xs
row_len-cons x xs = ap length (texts_cons x.term (terms_at xs)) ∙ length-append (text_of x.term) (texts_of (terms_at xs))

pub row_some : (xs : List Item) (o : ℕ) → o < row_len xs → 1 ≤ length xs
row_some [] o h = absurd (omega (arith, h))
row_some (x ∷ xs) o h = omega arith

pub row_take : (s i : ℕ) (xs : List Item) → IsRow s xs → IsRow s (take i xs)
row_take s zero xs p = tt
row_take s (suc i) [] p = tt
row_take s (suc i) (x ∷ xs) p = (p.0, row_take (item_end x) i xs p.1)

pub row_drop : (s i : ℕ) (xs : List Item) → IsRow s xs → IsRow (s + row_len (take i xs)) (drop i xs)
row_drop s zero xs p = subst (λ (n : ℕ). IsRow n xs) (omega arith) p
row_drop s (suc i) [] p = tt
row_drop s (suc i) (x ∷ xs) p =
    let e : item_end x + row_len (take i xs) ≡ s + row_len (x ∷ take i xs) = omega (arith, p.0, row_len-cons x (take i xs)) in
    subst (λ (n : ℕ). IsRow n (drop i xs)) e (row_drop (item_end x) i xs p.1)

pub row_append : (s : ℕ) (xs ys : List Item) → IsRow s xs → IsRow (s + row_len xs) ys → IsRow s (xs ++ ys)
row_append s [] ys p q = subst (λ (n : ℕ). IsRow n ys) (omega arith) q
row_append s (x ∷ xs) ys p q =
    let e : s + row_len (x ∷ xs) ≡ item_end x + row_len xs = omega (arith, p.0, row_len-cons x xs) in
    (p.0, row_append (item_end x) xs ys p.1 (subst (λ (n : ℕ). IsRow n ys) e q))

pub row_at : (s i : ℕ) (d : Item) (xs : List Item) → IsRow s xs → i < length xs → (get_or xs i d).start ≡ s + row_len (take i xs)
row_at s i d [] p h = absurd (omega (arith, h))
row_at s zero d (x ∷ xs) p h = omega (arith, p.0)
row_at s (suc i) d (x ∷ xs) p h =
    omega (arith, row_at (item_end x) i d xs p.1 (omega (arith, h)), p.0, row_len-cons x (take i xs))

pub row_len-more : (i : ℕ) (d : Item) (xs : List Item) → i < length xs → row_len (take (suc i) xs) ≡ row_len (take i xs) + term_len (get_or xs i d).term
row_len-more i d [] h = absurd (omega (arith, h))
row_len-more zero d (x ∷ xs) h = omega (arith, row_len-cons x [])
row_len-more (suc i) d (x ∷ xs) h =
    omega (arith, row_len-more i d xs (omega (arith, h)), row_len-cons x (take i xs), row_len-cons x (take (suc i) xs))

-- ---- items whose text is where they say

pub record LiesIn (t : List ℕ) (x : Item) : Type 0 where
  pub range : IsTextRange t x.start (term_len x.term)
  pub text : piece t x.start (term_len x.term) ≡ text_of x.term

abbrev pub AllLie : List ℕ → List Item → Type 0
AllLie t [] = Unit {0}
AllLie t (x ∷ xs) = LiesIn t x × AllLie t xs

AllLie-push : (t : List ℕ) (xs : List Item) (x : Item) → AllLie t xs → LiesIn t x → AllLie t (xs ++ x ∷ [])
AllLie-push t [] x p q = (q, tt)
AllLie-push t (y ∷ xs) x p q = (p.0, AllLie-push t xs x p.1 q)

AllLie-take : (t : List ℕ) (i : ℕ) (xs : List Item) → AllLie t xs → AllLie t (take i xs)
AllLie-take t zero xs p = tt
AllLie-take t (suc i) [] p = tt
AllLie-take t (suc i) (x ∷ xs) p = (p.0, AllLie-take t i xs p.1)

AllLie-drop : (t : List ℕ) (i : ℕ) (xs : List Item) → AllLie t xs → AllLie t (drop i xs)
AllLie-drop t zero xs p = p
AllLie-drop t (suc i) [] p = tt
AllLie-drop t (suc i) (x ∷ xs) p = AllLie-drop t i xs p.1

AllLie-piece : (t : List ℕ) (xs : List Item) (f n : ℕ) → AllLie t xs → AllLie t (piece xs f n)
AllLie-piece t xs f n p = AllLie-take t n (drop f xs) (AllLie-drop t f xs p)

-- the text of a row
pub record RowLies (t : List ℕ) (s : ℕ) (xs : List Item) : Type 0 where
  pub to : IsCharBoundary t (s + row_len xs)
  pub text : piece t s (row_len xs) ≡ texts_of (terms_at xs)

pub row_lies : (t : List ℕ) (s : ℕ) (xs : List Item) → IsCharBoundary t s → IsRow s xs → AllLie t xs → RowLies t s xs
row_lies t s [] b p l = record { to = subst (λ (n : ℕ). IsCharBoundary t n) (omega arith) b; text = refl }
row_lies t s (x ∷ xs) b p l =
    let n = term_len x.term in
    let m = row_len xs in
    let q = row_lies t (item_end x) xs l.0.range.to p.1 l.1 in
    let e : row_len (x ∷ xs) ≡ n + m = row_len-cons x xs in
    let f : (x.start + n) + m ≡ s + row_len (x ∷ xs) = omega (arith, e, p.0) in
    let front : take n (drop s t) ≡ text_of x.term = ap (λ (y : ℕ). piece t y n) (sym p.0) ∙ l.0.text in
    let back : take m (drop n (drop s t)) ≡ texts_of (terms_at xs) =
    ap (take m) (drop-drop n s t) ∙ ap (λ (y : ℕ). piece t (y + n) m) (sym p.0) ∙ q.text in
    record {
      to = subst (λ (y : ℕ). IsCharBoundary t y) f q.to;
      text = ap (λ (y : ℕ). take y (drop s t)) e ∙ take-add n m (drop s t)
          ∙ ap (λ (y : List ℕ). y ++ take m (drop n (drop s t))) front
          ∙ ap (λ (y : List ℕ). text_of x.term ++ y) back ∙ sym (texts_cons x.term (terms_at xs));
    }

pub length_piece : {A : Type 0} (xs : List A) (s n : ℕ) → s + n ≤ length xs → length (piece xs s n) ≡ n
length_piece xs s n h = omega (arith, h, length-take n (drop s xs), length-drop s xs)

token_lies : (t : List ℕ) (k s n : ℕ) → IsTextRange t s n → LiesIn t (token_item t k s n)
token_lies t k s n p =
    let h : s + n ≤ length t = p.to.0 in
    let e : length (piece t s n) ≡ n = length_piece t s n h in
    record { range = subst (λ (y : ℕ). IsTextRange t s y) (sym e) p; text = ap (λ (y : ℕ). piece t s y) e }

node_lies : (t : List ℕ) (k s : ℕ) (xs : List Item) → IsCharBoundary t s → IsRow s xs → AllLie t xs → LiesIn t (node_item k s xs)
node_lies t k s xs b p l =
    let q = row_lies t s xs b p l in
    record { range = record { from = b; to = q.to }; text = q.text }

first_cut : (t : List ℕ) (xs : List Item) → 1 ≤ length xs → AllLie t xs → IsCharBoundary t (row_start xs)
first_cut t [] h l = absurd (omega (arith, h))
first_cut t (x ∷ xs) h l = l.0.range.from

pub item_lies : (t : List ℕ) (rs : List Record) (b : List Item) (e : Entry) → AllLie t b → IsPlaced t rs b e → LiesIn t (item_of t rs b e)
item_lies t rs b (Short n k s) l p = token_lies t k s n p
item_lies t rs b (Few n k f) l p =
    let xs = piece b f n in
    let all = AllLie-piece t b f n l in
    let some : 1 ≤ length xs = omega (arith, p.some, length_piece b f n p.children.within) in
    node_lies t k (row_start xs) xs (first_cut t xs some all) p.children.row all
item_lies t rs b (Long k i) l p = token_lies t k (record_at rs i).start (record_at rs i).len p.range
item_lies t rs b (Many k i) l p =
    let r = record_at rs i in
    node_lies t k r.start (piece b r.first r.count) p.node.from p.node.children.row (AllLie-piece t b r.first r.count l)

pub all_lie : (t : List ℕ) (rs : List Record) (b : List Item) (es : List Entry) → AllLie t b → AreOrdered t rs b es → AllLie t (items_after t rs b es)
all_lie t rs b [] l o = l
all_lie t rs b (e ∷ es) l o =
    all_lie t rs (b ++ item_of t rs b e ∷ []) es (AllLie-push t b (item_of t rs b e) l (item_lies t rs b e l o.0)) o.1

pub items_lie : (a : Arena) (es : List Entry) → IsSound a es → AllLie (string_bytes a.text) (items_in a)
items_lie a es s = all_lie (string_bytes a.text) a.records.items [] a.entries.items tt s.ordered

pub sound_lies : (a : Arena) (e : Entry) → IsSound a (e ∷ []) → LiesIn (string_bytes a.text) (item_in a e)
sound_lies a e s = item_lies (string_bytes a.text) a.records.items (items_in a) e (items_lie a (e ∷ []) s) s.placed.0
