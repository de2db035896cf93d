-- Lemmas on the items of an arena: what entries mean stays the same as the arena grows.
use Rattle.std.proofs.Common.{◌≡◌, ℕ, zero, suc, ◌+◌, ◌≤◌, ◌<◌, List, [], ◌∷◌, ◌++◌, length, take, drop, map, refl, ap, sym, ◌∙◌, arith, subst, length-append, append_assoc, append-nil, length-take, length-drop, get_or, string_bytes}
use Rattle.std.proofs.lemmas.List.{take-append-le, drop-append-le, take-append-drop, take-map, drop-map, get_or-map}
use Rattle.std.proofs.Math.Seq.{drop-append_seam, drop-length}
use Rattle.std.specs.Prelude.{IsCharBoundary}
use Rattle.rowan_green.specs.Term.{texts_of}
use Rattle.rowan_green.specs.declared.utility_types.NodeOrToken.TheVariants.{Token}
use Rattle.rowan_green.specs.declared.arena.Entry.{Entry}
use Rattle.rowan_green.specs.declared.arena.Entry.TheVariants.{Short, Few, Long, Many}
use Rattle.rowan_green.specs.declared.arena.Record.{Record}
use Rattle.rowan_green.specs.declared.arena.Arena.{Arena}
use Rattle.rowan_green.specs.Arena.{Item, terms_at, piece, row_start, record_at, record_children, token_item, token_by, node_item, node_by, item_of, items_after, items_in, item_in, IsRow, IsTextRange, AreChildren, IsFew, IsLong, IsMany, IsNodeRecord, IsPlaced, ArePlaced, AreOrdered, IsSound}

-- ---- what an entry names stays

-- a piece of a list is the same piece of a longer one
pub piece-append : {A : Type 0} (xs ys : List A) (s n : ℕ) → s + n ≤ length xs → piece (xs ++ ys) s n ≡ piece xs s n
piece-append xs ys s n p =
    let a : drop s (xs ++ ys) ≡ drop s xs ++ ys = drop-append-le s xs ys (omega (arith, p)) in
    ap (take n) a ∙ take-append-le n (drop s xs) ys (omega (arith, p, length-drop s xs))

-- a list of items goes on where another ends
pub record Longer (xs : List Item) (ys : List Item) : Type 0 where
  pub long : length xs ≤ length ys
  pub pieces : (f n : ℕ) → f + n ≤ length xs → piece ys f n ≡ piece xs f n

-- text and records go on where others end
pub record Grown (t : List ℕ) (rs : List Record) (u : List ℕ) (ss : List Record) : Type 0 where
  pub cut : (s : ℕ) → IsCharBoundary t s → IsCharBoundary u s
  pub pieces : (s n : ℕ) → s + n ≤ length t → piece u s n ≡ piece t s n
  pub present : (i : ℕ) → i < length rs → i < length ss
  pub records : (i : ℕ) → i < length rs → record_at ss i ≡ record_at rs i

pub longer_same : (xs : List Item) → Longer xs xs
longer_same xs = record { long = omega arith; pieces = λ f n h. refl }

pub longer_append : (xs ys : List Item) → Longer xs (xs ++ ys)
longer_append xs ys = record { long = omega (arith, length-append xs ys); pieces = λ f n h. piece-append xs ys f n h }

pub grown_same : (t : List ℕ) (rs : List Record) → Grown t rs t rs
grown_same t rs = record { cut = λ s h. h; pieces = λ s n h. refl; present = λ i h. h; records = λ i h. refl }

-- an entry and its item are as they were
pub record Stays (t : List ℕ) (rs : List Record) (b : List Item) (u : List ℕ) (ss : List Record) (c : List Item) (e : Entry) : Type 0 where
  pub placed : IsPlaced u ss c e
  pub item : item_of u ss c e ≡ item_of t rs b e

range_stays : (t u : List ℕ) (rs ss : List Record) (s n : ℕ) → Grown t rs u ss → IsTextRange t s n → IsTextRange u s n
range_stays t u rs ss s n g p = record { from = g.cut s p.from; to = g.cut (s + n) p.to }

token_stays : (t u : List ℕ) (rs ss : List Record) (k s n : ℕ) → Grown t rs u ss → IsTextRange t s n → token_item u k s n ≡ token_item t k s n
token_stays t u rs ss k s n g p =
    let h : s + n ≤ length t = p.to.0 in
    ap (λ (x : List ℕ). record { start = s; term = Token (record { kind = k; text = x }) }) (g.pieces s n h)

children_stay : (b c : List Item) (f n s : ℕ) → Longer b c → AreChildren b f n s → AreChildren c f n s
children_stay b c f n s l p = record {
  within = omega (arith, l.long, p.within);
  row = subst (λ (x : List Item). IsRow s x) (sym (l.pieces f n p.within)) p.row;
}

short_stays : (t u : List ℕ) (rs ss : List Record) (b c : List Item) (n k s : ℕ) → Grown t rs u ss → IsTextRange t s n → Stays t rs b u ss c (Short n k s)
short_stays t u rs ss b c n k s g p = record { placed = range_stays t u rs ss s n g p; item = token_stays t u rs ss k s n g p }

few_stays : (t u : List ℕ) (rs ss : List Record) (b c : List Item) (n k f : ℕ) → Longer b c → IsFew b f n → Stays t rs b u ss c (Few n k f)
few_stays t u rs ss b c n k f l p =
    let e : piece c f n ≡ piece b f n = l.pieces f n p.children.within in
    let q : AreChildren c f n (row_start (piece c f n)) =
    subst (λ (x : List Item). AreChildren c f n (row_start x)) (sym e) (children_stay b c f n (row_start (piece b f n)) l p.children) in
    record { placed = record { some = p.some; children = q }; item = ap (λ (x : List Item). node_item k (row_start x) x) e }

long_stays : (t u : List ℕ) (rs ss : List Record) (b c : List Item) (k i : ℕ) → Grown t rs u ss → IsLong t rs i → Stays t rs b u ss c (Long k i)
long_stays t u rs ss b c k i g p =
    let r = record_at rs i in
    let e : record_at ss i ≡ r = g.records i p.present in
    let q : IsTextRange u (record_at ss i).start (record_at ss i).len =
    subst (λ (x : Record). IsTextRange u x.start x.len) (sym e) (range_stays t u rs ss r.start r.len g p.range) in
    record {
      placed = record { present = g.present i p.present; range = q };
      item = ap (λ (x : Record). token_by u k x) e ∙ token_stays t u rs ss k r.start r.len g p.range;
    }

many_stays : (t u : List ℕ) (rs ss : List Record) (b c : List Item) (k i : ℕ) → Grown t rs u ss → Longer b c → IsMany t rs b i → Stays t rs b u ss c (Many k i)
many_stays t u rs ss b c k i g l p =
    let r = record_at rs i in
    let e : record_at ss i ≡ r = g.records i p.present in
    let same : record_children c r ≡ record_children b r = l.pieces r.first r.count p.node.children.within in
    let q : IsNodeRecord u c r = record {
      from = g.cut r.start p.node.from;
      children = children_stay b c r.first r.count r.start l p.node.children;
      len = p.node.len ∙ ap (λ (x : List Item). length (texts_of (terms_at x))) (sym same);
    } in
    record {
      placed = record { present = g.present i p.present; node = subst (λ (x : Record). IsNodeRecord u c x) (sym e) q };
      item = ap (λ (x : Record). node_by c k x) e ∙ ap (λ (x : List Item). node_item k r.start x) same;
    }

pub stays : (t u : List ℕ) (rs ss : List Record) (b c : List Item) (e : Entry) → Grown t rs u ss → Longer b c → IsPlaced t rs b e → Stays t rs b u ss c e
stays t u rs ss b c (Short n k s) g l p = short_stays t u rs ss b c n k s g p
stays t u rs ss b c (Few n k f) g l p = few_stays t u rs ss b c n k f l p
stays t u rs ss b c (Long k i) g l p = long_stays t u rs ss b c k i g p
stays t u rs ss b c (Many k i) g l p = many_stays t u rs ss b c k i g l p

-- all of these entries are as they were
pub record AllStay (t : List ℕ) (rs : List Record) (b : List Item) (u : List ℕ) (ss : List Record) (c : List Item) (es : List Entry) : Type 0 where
  pub placed : ArePlaced u ss c es
  pub items : map (item_of u ss c) es ≡ map (item_of t rs b) es

pub all_stay : (t u : List ℕ) (rs ss : List Record) (b c : List Item) (es : List Entry) → Grown t rs u ss → Longer b c → ArePlaced t rs b es → AllStay t rs b u ss c es
all_stay t u rs ss b c [] g l p = record { placed = tt; items = refl }
all_stay t u rs ss b c (e ∷ es) g l p =
    let x = stays t u rs ss b c e g l p.0 in
    let r = all_stay t u rs ss b c es g l p.1 in
    record { placed = (x.placed, r.placed); items = λ i. x.item i ∷ r.items i }

-- the entries of an arena are as they were
pub record OrderStays (t : List ℕ) (rs : List Record) (u : List ℕ) (ss : List Record) (b : List Item) (es : List Entry) : Type 0 where
  pub ordered : AreOrdered u ss b es
  pub items : items_after u ss b es ≡ items_after t rs b es

pub order_stays : (t u : List ℕ) (rs ss : List Record) (b : List Item) (es : List Entry) → Grown t rs u ss → AreOrdered t rs b es → OrderStays t rs u ss b es
order_stays t u rs ss b [] g p = record { ordered = tt; items = refl }
order_stays t u rs ss b (e ∷ es) g p =
    let x = stays t u rs ss b b e g (longer_same b) p.0 in
    let r = order_stays t u rs ss (b ++ item_of t rs b e ∷ []) es g p.1 in
    let o : AreOrdered u ss (b ++ item_of u ss b e ∷ []) es =
    subst (λ (y : Item). AreOrdered u ss (b ++ y ∷ []) es) (sym x.item) r.ordered in
    record {
      ordered = (x.placed, o);
      items = ap (λ (y : Item). items_after u ss (b ++ y ∷ []) es) x.item ∙ r.items;
    }

-- ---- lists of entries

pub ArePlaced-push : (t : List ℕ) (rs : List Record) (b : List Item) (es : List Entry) (e : Entry) → ArePlaced t rs b es → IsPlaced t rs b e → ArePlaced t rs b (es ++ e ∷ [])
ArePlaced-push t rs b [] e p q = (q, tt)
ArePlaced-push t rs b (x ∷ es) e p q = (p.0, ArePlaced-push t rs b es e p.1 q)

pub ArePlaced-take : (t : List ℕ) (rs : List Record) (b : List Item) (i : ℕ) (es : List Entry) → ArePlaced t rs b es → ArePlaced t rs b (take i es)
ArePlaced-take t rs b zero es p = tt
ArePlaced-take t rs b (suc i) [] p = tt
ArePlaced-take t rs b (suc i) (e ∷ es) p = (p.0, ArePlaced-take t rs b i es p.1)

pub ArePlaced-drop : (t : List ℕ) (rs : List Record) (b : List Item) (i : ℕ) (es : List Entry) → ArePlaced t rs b es → ArePlaced t rs b (drop i es)
ArePlaced-drop t rs b zero es p = p
ArePlaced-drop t rs b (suc i) [] p = tt
ArePlaced-drop t rs b (suc i) (e ∷ es) p = ArePlaced-drop t rs b i es p.1

pub items_after-append : (t : List ℕ) (rs : List Record) (b : List Item) (xs ys : List Entry) → items_after t rs b (xs ++ ys) ≡ items_after t rs (items_after t rs b xs) ys
items_after-append t rs b [] ys = refl
items_after-append t rs b (x ∷ xs) ys = items_after-append t rs (b ++ item_of t rs b x ∷ []) xs ys

pub AreOrdered-append : (t : List ℕ) (rs : List Record) (b : List Item) (xs ys : List Entry) → AreOrdered t rs b xs → AreOrdered t rs (items_after t rs b xs) ys → AreOrdered t rs b (xs ++ ys)
AreOrdered-append t rs b [] ys p q = q
AreOrdered-append t rs b (x ∷ xs) ys p q = (p.0, AreOrdered-append t rs (b ++ item_of t rs b x ∷ []) xs ys p.1 q)

pub length-items_after : (t : List ℕ) (rs : List Record) (b : List Item) (es : List Entry) → length (items_after t rs b es) ≡ length b + length es
length-items_after t rs b [] = omega arith
length-items_after t rs b (e ∷ es) =
    omega (arith, length-items_after t rs (b ++ item_of t rs b e ∷ []) es, length-append b (item_of t rs b e ∷ []))

-- entries of which none names another of them
pub record IsBlockAfter (t : List ℕ) (rs : List Record) (base : List Item) (more : List Item) (es : List Entry) : Type 0 where
  pub ordered : AreOrdered t rs (base ++ more) es
  pub items : items_after t rs (base ++ more) es ≡ base ++ (more ++ map (item_of t rs base) es)

block_more : (t : List ℕ) (rs : List Record) (base more : List Item) (es : List Entry) → ArePlaced t rs base es → IsBlockAfter t rs base more es
block_more t rs base more [] p = record { ordered = tt; items = ap (λ (xs : List Item). base ++ xs) (sym (append-nil more)) }
block_more t rs base more (e ∷ es) p =
    let x = item_of t rs base e in
    let a = stays t t rs rs base (base ++ more) e (grown_same t rs) (longer_append base more) p.0 in
    let r = block_more t rs base (more ++ x ∷ []) es p.1 in
    let w : (base ++ more) ++ item_of t rs (base ++ more) e ∷ [] ≡ base ++ (more ++ x ∷ []) =
    ap (λ (y : Item). (base ++ more) ++ y ∷ []) a.item ∙ append_assoc base more (x ∷ []) in
    let o : AreOrdered t rs ((base ++ more) ++ item_of t rs (base ++ more) e ∷ []) es =
    subst (λ (z : List Item). AreOrdered t rs z es) (sym w) r.ordered in
    record {
      ordered = (a.placed, o);
      items = ap (λ (z : List Item). items_after t rs z es) w ∙ r.items
          ∙ ap (λ (z : List Item). base ++ z) (append_assoc more (x ∷ []) (map (item_of t rs base) es));
    }

pub record IsBlock (t : List ℕ) (rs : List Record) (base : List Item) (es : List Entry) : Type 0 where
  pub ordered : AreOrdered t rs base es
  pub items : items_after t rs base es ≡ base ++ map (item_of t rs base) es

pub block : (t : List ℕ) (rs : List Record) (base : List Item) (es : List Entry) → ArePlaced t rs base es → IsBlock t rs base es
block t rs base es p =
    let r = block_more t rs base [] es p in
    record {
      ordered = subst (λ (z : List Item). AreOrdered t rs z es) (append-nil base) r.ordered;
      items = ap (λ (z : List Item). items_after t rs z es) (sym (append-nil base)) ∙ r.items;
    }

-- ---- each item by its entry

-- the list of items begins with those it began with
pub items_after-more : (t : List ℕ) (rs : List Record) (b : List Item) (es : List Entry) → items_after t rs b es ≡ b ++ drop (length b) (items_after t rs b es)
items_after-more t rs b [] = sym (append-nil b) ∙ ap (λ (xs : List Item). b ++ xs) (sym (drop-length b))
items_after-more t rs b (e ∷ es) =
    let x = item_of t rs b e in
    let more = drop (length (b ++ x ∷ [])) (items_after t rs (b ++ x ∷ []) es) in
    let a : items_after t rs (b ++ x ∷ []) es ≡ b ++ (x ∷ more) = items_after-more t rs (b ++ x ∷ []) es ∙ append_assoc b (x ∷ []) more in
    a ∙ ap (λ (xs : List Item). b ++ xs) (sym (drop-append_seam b (x ∷ more)) ∙ ap (drop (length b)) (sym a))

pub longer_after : (t : List ℕ) (rs : List Record) (b : List Item) (es : List Entry) → Longer b (items_after t rs b es)
longer_after t rs b es = subst (λ (xs : List Item). Longer b xs) (sym (items_after-more t rs b es)) (longer_append b _)

all_from : (t : List ℕ) (rs : List Record) (b : List Item) (es : List Entry) → AreOrdered t rs b es → items_after t rs b es ≡ b ++ map (item_of t rs (items_after t rs b es)) es
all_from t rs b [] o = sym (append-nil b)
all_from t rs b (e ∷ es) o =
    let x = item_of t rs b e in
    let all = items_after t rs (b ++ x ∷ []) es in
    let a : all ≡ (b ++ x ∷ []) ++ map (item_of t rs all) es = all_from t rs (b ++ x ∷ []) es o.1 in
    let l : Longer b all = longer_after t rs b (e ∷ es) in
    let same : x ≡ item_of t rs all e = sym (stays t t rs rs b all e (grown_same t rs) l o.0).item in
    a ∙ append_assoc b (x ∷ []) (map (item_of t rs all) es) ∙ ap (λ (y : Item). b ++ y ∷ map (item_of t rs all) es) same

pub items_are : (t : List ℕ) (rs : List Record) (es : List Entry) → AreOrdered t rs [] es → items_after t rs [] es ≡ map (item_of t rs (items_after t rs [] es)) es
items_are t rs es o = all_from t rs [] es o

pub pieces_are : (t : List ℕ) (rs : List Record) (es : List Entry) (f n : ℕ) → AreOrdered t rs [] es → map (item_of t rs (items_after t rs [] es)) (piece es f n) ≡ piece (items_after t rs [] es) f n
pieces_are t rs es f n o =
    let fn = item_of t rs (items_after t rs [] es) in
    sym (ap (λ (xs : List Item). piece xs f n) (items_are t rs es o) ∙ ap (take n) (drop-map fn f es) ∙ take-map fn n (drop f es))

-- the entries of an arena name items of the arena
all_placed_from : (t : List ℕ) (rs : List Record) (b all : List Item) (es : List Entry) → Longer (items_after t rs b es) all → AreOrdered t rs b es → ArePlaced t rs all es
all_placed_from t rs b all [] l o = tt
all_placed_from t rs b all (e ∷ es) l o =
    let m = longer_after t rs b (e ∷ es) in
    let x = stays t t rs rs b (items_after t rs b (e ∷ es)) e (grown_same t rs) m o.0 in
    let y = stays t t rs rs (items_after t rs b (e ∷ es)) all e (grown_same t rs) l x.placed in
    (y.placed, all_placed_from t rs (b ++ item_of t rs b e ∷ []) all es l o.1)

pub pieces_placed : (t : List ℕ) (rs : List Record) (es : List Entry) (f n : ℕ) → AreOrdered t rs [] es → ArePlaced t rs (items_after t rs [] es) (piece es f n)
pieces_placed t rs es f n o =
    let all = items_after t rs [] es in
    ArePlaced-take t rs all n (drop f es) (ArePlaced-drop t rs all f es (all_placed_from t rs [] all es (longer_same all) o))

-- ---- one entry of an arena

-- the number after that of the last child of `Few`: a child's is smaller
abbrev pub reach : Entry → ℕ
reach (Short n k s) = 0
reach (Few n k f) = f + n
reach (Long k i) = 0
reach (Many k i) = 0

reach_le : (t : List ℕ) (rs : List Record) (b : List Item) (e : Entry) → IsPlaced t rs b e → reach e ≤ length b
reach_le t rs b (Short n k s) p = omega arith
reach_le t rs b (Few n k f) p = p.children.within
reach_le t rs b (Long k i) p = omega arith
reach_le t rs b (Many k i) p = omega arith

placed_at : (t : List ℕ) (rs : List Record) (b : List Item) (es : List Entry) (i : ℕ) (d : Entry) → AreOrdered t rs b es → i < length es → IsPlaced t rs (items_after t rs b (take i es)) (get_or es i d)
placed_at t rs b [] i d o h = absurd (omega (arith, h))
placed_at t rs b (e ∷ es) zero d o h = o.0
placed_at t rs b (e ∷ es) (suc i) d o h = placed_at t rs (b ++ item_of t rs b e ∷ []) es i d o.1 (omega (arith, h))

longer_prefix : (t : List ℕ) (rs : List Record) (b : List Item) (i : ℕ) (es : List Entry) → Longer (items_after t rs b (take i es)) (items_after t rs b es)
longer_prefix t rs b i es =
    let e : items_after t rs b es ≡ items_after t rs (items_after t rs b (take i es)) (drop i es) =
    ap (items_after t rs b) (sym (take-append-drop i es)) ∙ items_after-append t rs b (take i es) (drop i es) in
    subst (λ (xs : List Item). Longer (items_after t rs b (take i es)) xs) (sym e) (longer_after t rs (items_after t rs b (take i es)) (drop i es))

-- what is known of an entry that is read
pub record EntryAt (a : Arena) (i : ℕ) (e : Entry) : Type 0 where
  pub sound : IsSound a (e ∷ [])
  pub item : (d : Item) → item_in a e ≡ get_or (items_in a) i d
  pub reach : reach e ≤ i

pub entry_at : (a : Arena) (es : List Entry) (i : ℕ) (e : Entry) → IsSound a es → i < length a.entries.items → e ≡ get_or a.entries.items i e → EntryAt a i e
entry_at a es i e s h q =
    let t = string_bytes a.text in
    let rs = a.records.items in
    let all = a.entries.items in
    let b = items_after t rs [] (take i all) in
    let p : IsPlaced t rs b e = subst (λ (x : Entry). IsPlaced t rs b x) (sym q) (placed_at t rs [] all i e s.ordered h) in
    let x = stays t t rs rs b (items_in a) e (grown_same t rs) (longer_prefix t rs [] i all) p in
    let n : length b ≤ i = omega (arith, length-items_after t rs [] (take i all), length-take i all) in
    let fn = item_of t rs (items_in a) in
    record {
      sound = record { text = s.text; count = s.count; ordered = s.ordered; placed = (x.placed, tt) };
      item = λ d. ap fn q ∙ sym (get_or-map fn all i e d h) ∙ ap (λ (xs : List Item). get_or xs i d) (sym (items_are t rs all s.ordered));
      reach = omega (arith, n, reach_le t rs b e p);
    }
