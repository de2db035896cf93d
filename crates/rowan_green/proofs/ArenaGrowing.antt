-- Lemmas on an arena that grows: by a token, by a node without children, by the children of a node.
use Rattle.std.proofs.Common.{◌≡◌, ℕ, zero, suc, ◌+◌, ◌-◌, ◌≤◌, ◌<◌, ◌^◌, List, [], ◌∷◌, ◌++◌, length, take, drop, map, refl, ap, sym, ◌∙◌, arith, subst, length-append, length-take, length-drop, get_or, set, string_bytes}
use Rattle.std.proofs.lemmas.List.{take-append-drop, take-map, drop-map, map-append, length-map, get_or-map, take-append-le, take_all}
use Rattle.std.proofs.Math.Seq.{take-length, drop-append_seam, get_or-append_seam}
use Rattle.std.proofs.Math.ListN.{get_or-append}
use Rattle.std.specs.Prelude.{IsCharBoundary, slice_get, Some}
use Rattle.std.specs.Str.{IsUtf8}
use Rattle.std.proofs.lemmas.Str.{IsUtf8-append, IsUtf8-take, IsUtf8-string_bytes, IsCharBoundary-from_take, IsCharBoundary-start, IsCharBoundary-at_seam, IsCharBoundary-end}
use Rattle.rowan_green.specs.Term.{Term, tree_of, texts_of, term_len}
use Rattle.rowan_green.specs.declared.utility_types.NodeOrToken.TheVariants.{Node, Token}
use Rattle.rowan_green.specs.declared.arena.Entry.{Entry}
use Rattle.rowan_green.specs.declared.arena.Entry.TheVariants.{Short, Few, Long, Many}
use Rattle.rowan_green.specs.declared.arena.Record.{Record}
use Rattle.rowan_green.specs.declared.arena.Arena.{Arena}
use Rattle.rowan_green.specs.Arena.{Item, terms_at, piece, row_start, record_at, token_item, token_by, node_item, node_by, item_of, item_in, items_after, items_in, items_over, terms_over, IsRow, IsTextRange, AreChildren, IsNodeRecord, IsPlaced, ArePlaced, AreOrdered, IsSound, IsGrowing}
use Rattle.rowan_green.proofs.ArenaItems.{piece-append, Grown, grown_same, longer_same, longer_append, all_stay, order_stays, block, ArePlaced-push, ArePlaced-take, ArePlaced-drop, AreOrdered-append, items_after-append, length-items_after}
use Rattle.rowan_green.proofs.ArenaRows.{row_len, row_len-cons, row_at, row_take, row_drop, row_append, row_lies, AllLie, item_lies, all_lie}
use Rattle.rowan_green.proofs.ArenaReading.{element_item, element_placed, slice_get_at}

-- ---- the parts of an arena that grows

abbrev pub all_items : List ℕ → List Record → List Entry → List Item
all_items t rs es = items_after t rs [] es

-- the items of the entries that are done
abbrev pub done_items : List ℕ → List Record → List Entry → List Entry → List Item
done_items t rs es done = map (item_of t rs (all_items t rs es)) done

-- `IsGrowing`, by the parts of the arena; `used` is the length of the text that tokens have
pub record Growing (t : List ℕ) (rs : List Record) (es : List Entry) (done : List Entry) (used : ℕ) : Type 0 where
  pub text : length t < 2 ^ 32
  pub count : length es < 2 ^ 32
  pub ordered : AreOrdered t rs [] es
  pub placed : ArePlaced t rs (all_items t rs es) done
  pub row : IsRow 0 (done_items t rs es done)
  pub all : row_len (done_items t rs es done) ≡ used

pub growing_parts : (a : Arena) (done : List Entry) → IsGrowing a done → Growing (string_bytes a.text) a.records.items a.entries.items done a.used
growing_parts a done g = record { text = g.sound.text; count = g.sound.count; ordered = g.sound.ordered; placed = g.sound.placed; row = g.row; all = g.all }

-- an arena of these parts, with these terms done
pub record Grew (a : Arena) (done : List Entry) (ts : List Term) : Type 0 where
  pub growing : IsGrowing a done
  pub terms : terms_over a done ≡ ts

pub record GrewParts (t : List ℕ) (rs : List Record) (es : List Entry) (done : List Entry) (used : ℕ) (ts : List Term) : Type 0 where
  pub growing : Growing t rs es done used
  pub terms : terms_at (done_items t rs es done) ≡ ts

pub grew : (a : Arena) (done : List Entry) (t : List ℕ) (rs : List Record) (es ds : List Entry) (used : ℕ) (ts : List Term) → string_bytes a.text ≡ t → a.records.items ≡ rs → a.entries.items ≡ es → done ≡ ds → a.used ≡ used → GrewParts t rs es ds used ts → Grew a done ts
grew a done t rs es ds used ts e f g h k p =
    let p1 : GrewParts (string_bytes a.text) rs es ds used ts = subst (λ (x : List ℕ). GrewParts x rs es ds used ts) (sym e) p in
    let p2 : GrewParts (string_bytes a.text) a.records.items es ds used ts = subst (λ (x : List Record). GrewParts (string_bytes a.text) x es ds used ts) (sym f) p1 in
    let p3 : GrewParts (string_bytes a.text) a.records.items a.entries.items ds used ts = subst (λ (x : List Entry). GrewParts (string_bytes a.text) a.records.items x ds used ts) (sym g) p2 in
    let p4 : GrewParts (string_bytes a.text) a.records.items a.entries.items done used ts = subst (λ (x : List Entry). GrewParts (string_bytes a.text) a.records.items a.entries.items x used ts) (sym h) p3 in
    let q = p4.growing in
    record {
      growing = record { sound = record { text = q.text; count = q.count; ordered = q.ordered; placed = q.placed }; row = q.row; all = q.all ∙ sym k };
      terms = p4.terms;
    }

-- ---- more text, more records

-- a place where a text may be cut stays one when text is added
boundary_stays : (t more : List ℕ) (i : ℕ) → IsUtf8 t → IsUtf8 more → IsCharBoundary t i → IsCharBoundary (t ++ more) i
boundary_stays t more i u v b =
    let h : i ≤ length t = b.0 in
    let e : take i (t ++ more) ≡ take i t = take-append-le i t more h in
    IsCharBoundary-from_take (t ++ more) i (IsUtf8-append t more u v) (omega (arith, h, length-append t more)) (rw e (IsUtf8-take t i u b))

pub grown_text : (t more : List ℕ) (rs : List Record) → IsUtf8 t → IsUtf8 more → Grown t rs (t ++ more) rs
grown_text t more rs u v = record {
  cut = λ s b. boundary_stays t more s u v b;
  pieces = λ s n h. piece-append t more s n h;
  present = λ i h. h;
  records = λ i h. refl;
}

pub grown_record : (t : List ℕ) (rs : List Record) (r : Record) → Grown t rs t (rs ++ r ∷ [])
grown_record t rs r = record {
  cut = λ s b. b;
  pieces = λ s n h. refl;
  present = λ i h. omega (arith, h, length-append rs (r ∷ []));
  records = λ i h. get_or-append rs (r ∷ []) _ i h;
}

pub grown_both : (t more : List ℕ) (rs : List Record) (r : Record) → IsUtf8 t → IsUtf8 more → Grown t rs (t ++ more) (rs ++ r ∷ [])
grown_both t more rs r u v =
    let g = grown_text t more rs u v in
    let k = grown_record t rs r in
    record { cut = g.cut; pieces = g.pieces; present = k.present; records = k.records }

-- ---- one entry more

pub row_len-append : (xs ys : List Item) → row_len (xs ++ ys) ≡ row_len xs + row_len ys
row_len-append [] ys = omega arith
row_len-append (x ∷ xs) ys = omega (arith, row_len-cons x xs, row_len-cons x (xs ++ ys), row_len-append xs ys)

pub row_len-split : (i : ℕ) (xs : List Item) → row_len xs ≡ row_len (take i xs) + row_len (drop i xs)
row_len-split i xs = ap row_len (sym (take-append-drop i xs)) ∙ row_len-append (take i xs) (drop i xs)

-- an entry whose text starts where those of the entries that are done end
pub record IsNext (used : ℕ) (u : List ℕ) (ss : List Record) (b : List Item) (e : Entry) (term : Term) : Type 0 where
  pub placed : IsPlaced u ss b e
  pub item : item_of u ss b e ≡ record { start = used; term = term }

pub push_entry : (t u : List ℕ) (rs ss : List Record) (es done : List Entry) (used : ℕ) (e : Entry) (term : Term) → Growing t rs es done used → Grown t rs u ss → length u < 2 ^ 32 → IsNext used u ss (all_items t rs es) e term → GrewParts u ss es (done ++ e ∷ []) (used + term_len term) (terms_at (done_items t rs es done) ++ term ∷ [])
push_entry t u rs ss es done used e term p g h n =
    let all = all_items t rs es in
    let old = done_items t rs es done in
    let x : Item = record { start = used; term = term } in
    let o = order_stays t u rs ss [] es g p.ordered in
    let s = all_stay t u rs ss all all done g (longer_same all) p.placed in
    let placed : ArePlaced u ss (all_items u ss es) (done ++ e ∷ []) =
    subst (λ (b : List Item). ArePlaced u ss b (done ++ e ∷ [])) (sym o.items) (ArePlaced-push u ss all done e s.placed n.placed) in
    let new : done_items u ss es (done ++ e ∷ []) ≡ old ++ x ∷ [] =
    ap (λ (b : List Item). map (item_of u ss b) (done ++ e ∷ [])) o.items ∙ map-append (item_of u ss all) done (e ∷ [])
    ∙ ap (λ (ys : List Item). ys ++ item_of u ss all e ∷ []) s.items ∙ ap (λ (y : Item). old ++ y ∷ []) n.item in
    let here : used ≡ 0 + row_len old = omega (arith, p.all) in
    let row : IsRow 0 (old ++ x ∷ []) = row_append 0 old (x ∷ []) p.row (here, tt) in
    let len : row_len (old ++ x ∷ []) ≡ used + term_len term = omega (arith, row_len-append old (x ∷ []), row_len-cons x [], p.all) in
    record {
      growing = record {
        text = h;
        count = p.count;
        ordered = o.ordered;
        placed = placed;
        row = subst (λ (ys : List Item). IsRow 0 ys) (sym new) row;
        all = ap row_len new ∙ len;
      };
      terms = ap terms_at new ∙ map-append (λ (y : Item). y.term) old (x ∷ []);
    }

-- ---- the children of a node

-- an entry of a node with these children, if they are put behind those of `b`
pub record IsNode (t : List ℕ) (ss : List Record) (b : List Item) (children : List Item) (k : ℕ) (start : ℕ) (e : Entry) : Type 0 where
  pub placed : IsPlaced t ss (b ++ children) e
  pub item : item_of t ss (b ++ children) e ≡ node_item k start children

pub close_entry : (t : List ℕ) (rs ss : List Record) (es done : List Entry) (used first k start : ℕ) (e : Entry) → Growing t rs es done used → Grown t rs t ss → length (es ++ drop first done) < 2 ^ 32 → start ≡ row_len (take first (done_items t rs es done)) → IsNode t ss (all_items t rs es) (drop first (done_items t rs es done)) k start e
    → GrewParts t ss (es ++ drop first done) (take first done ++ e ∷ []) used (take first (terms_at (done_items t rs es done)) ++ Node (tree_of k (drop first (terms_at (done_items t rs es done)))) ∷ [])
close_entry t rs ss es done used first k start e p g h w n =
    let all = all_items t rs es in
    let fn = item_of t rs all in
    let old = map fn done in
    let kids = drop first old in
    let front = take first old in
    let o = order_stays t t rs ss [] es g p.ordered in
    let z = all_stay t t rs ss all all (drop first done) g (longer_same all) (ArePlaced-drop t rs all first done p.placed) in
    let b = block t ss all (drop first done) z.placed in
    let ordered : AreOrdered t ss [] (es ++ drop first done) =
    AreOrdered-append t ss [] es (drop first done) o.ordered (subst (λ (c : List Item). AreOrdered t ss c (drop first done)) (sym o.items) b.ordered) in
    let now : all_items t ss (es ++ drop first done) ≡ all ++ kids =
    items_after-append t ss [] es (drop first done) ∙ ap (λ (c : List Item). items_after t ss c (drop first done)) o.items
    ∙ b.items ∙ ap (λ (ys : List Item). all ++ ys) (z.items ∙ sym (drop-map fn first done)) in
    let f = all_stay t t rs ss all (all ++ kids) (take first done) g (longer_append all kids) (ArePlaced-take t rs all first done p.placed) in
    let placed : ArePlaced t ss (all_items t ss (es ++ drop first done)) (take first done ++ e ∷ []) =
    subst (λ (c : List Item). ArePlaced t ss c (take first done ++ e ∷ [])) (sym now) (ArePlaced-push t ss (all ++ kids) (take first done) e f.placed n.placed) in
    let x = node_item k start kids in
    let new : done_items t ss (es ++ drop first done) (take first done ++ e ∷ []) ≡ front ++ x ∷ [] =
    ap (λ (c : List Item). map (item_of t ss c) (take first done ++ e ∷ [])) now ∙ map-append (item_of t ss (all ++ kids)) (take first done) (e ∷ [])
    ∙ ap (λ (ys : List Item). ys ++ item_of t ss (all ++ kids) e ∷ []) (f.items ∙ sym (take-map fn first done))
    ∙ ap (λ (y : Item). front ++ y ∷ []) n.item in
    let here : start ≡ 0 + row_len front = omega (arith, w) in
    let row : IsRow 0 (front ++ x ∷ []) = row_append 0 front (x ∷ []) (row_take 0 first old p.row) (here, tt) in
    let same : term_len x.term ≡ row_len kids = refl in
    let len : row_len (front ++ x ∷ []) ≡ used = omega (arith, row_len-append front (x ∷ []), row_len-cons x [], same, row_len-split first old, p.all) in
    record {
      growing = record {
        text = p.text;
        count = h;
        ordered = ordered;
        placed = placed;
        row = subst (λ (ys : List Item). IsRow 0 ys) (sym new) row;
        all = ap row_len new ∙ len;
      };
      terms = ap terms_at new ∙ map-append (λ (y : Item). y.term) front (x ∷ [])
          ∙ ap (λ (ts : List Term). ts ++ Node (tree_of k (terms_at kids)) ∷ []) (sym (take-map (λ (y : Item). y.term) first old))
          ∙ ap (λ (ts : List Term). take first (terms_at old) ++ Node (tree_of k ts) ∷ []) (sym (drop-map (λ (y : Item). y.term) first old));
    }

-- ---- the entries of a node

behind : (b xs : List Item) (f n : ℕ) → f ≡ length b → n ≡ length xs → piece (b ++ xs) f n ≡ xs
behind b xs f n e h =
    ap (λ (i : ℕ). piece (b ++ xs) i n) e ∙ ap (take n) (drop-append_seam b xs) ∙ ap (λ (i : ℕ). take i xs) h ∙ take-length xs

behind_children : (b xs : List Item) (f n s : ℕ) → f ≡ length b → n ≡ length xs → IsRow s xs → AreChildren (b ++ xs) f n s
behind_children b xs f n s e h r = record {
  within = omega (arith, e, h, length-append b xs);
  row = subst (λ (ys : List Item). IsRow s ys) (sym (behind b xs f n e h)) r;
}

row_starts : (s : ℕ) (xs : List Item) → 1 ≤ length xs → IsRow s xs → row_start xs ≡ s
row_starts s [] h r = absurd (omega (arith, h))
row_starts s (x ∷ xs) h r = r.0

pub few_node : (t : List ℕ) (ss : List Record) (b xs : List Item) (k s f n : ℕ) → f ≡ length b → n ≡ length xs → 1 ≤ n → IsRow s xs → IsNode t ss b xs k s (Few n k f)
few_node t ss b xs k s f n e h m r =
    let same : piece (b ++ xs) f n ≡ xs = behind b xs f n e h in
    let starts : row_start xs ≡ s = row_starts s xs (omega (arith, h, m)) r in
    let from : row_start (piece (b ++ xs) f n) ≡ s = ap row_start same ∙ starts in
    record {
      placed = record { some = m; children = subst (λ (i : ℕ). AreChildren (b ++ xs) f n i) (sym from) (behind_children b xs f n s e h r) };
      item = ap (λ (i : ℕ). node_item k i (piece (b ++ xs) f n)) from ∙ ap (λ (ys : List Item). node_item k s ys) same;
    }

-- the record of the entry that was added last
pub last_record : (rs : List Record) (r : Record) (i : ℕ) → i ≡ length rs → record_at (rs ++ r ∷ []) i ≡ r
last_record [] r i e = ap (λ (j : ℕ). record_at (r ∷ []) j) e
last_record (x ∷ rs) r zero e = absurd (omega (arith, e))
last_record (x ∷ rs) r (suc i) e = last_record rs r i (omega (arith, e))

pub many_node : (t : List ℕ) (rs : List Record) (b xs : List Item) (k s i : ℕ) (r : Record) → i ≡ length rs → r.start ≡ s → r.len ≡ row_len xs → r.first ≡ length b → r.count ≡ length xs → IsCharBoundary t s → IsRow s xs → IsNode t (rs ++ r ∷ []) b xs k s (Many k i)
many_node t rs b xs k s i r e starts len f n c row =
    let ss = rs ++ r ∷ [] in
    let z : record_at ss i ≡ r = last_record rs r i e in
    let same : piece (b ++ xs) r.first r.count ≡ xs = behind b xs r.first r.count f n in
    let kids : AreChildren (b ++ xs) r.first r.count r.start =
    behind_children b xs r.first r.count r.start f n (subst (λ (j : ℕ). IsRow j xs) (sym starts) row) in
    let q : IsNodeRecord t (b ++ xs) r = record { from = subst (λ (j : ℕ). IsCharBoundary t j) (sym starts) c; children = kids; len = len ∙ ap row_len (sym same) } in
    record {
      placed = record { present = omega (arith, e, length-append rs (r ∷ [])); node = subst (λ (y : Record). IsNodeRecord t (b ++ xs) y) (sym z) q };
      item = ap (λ (y : Record). node_by (b ++ xs) k y) z
          ∙ ap (λ (j : ℕ). node_item k j (piece (b ++ xs) r.first r.count)) starts ∙ ap (λ (ys : List Item). node_item k s ys) same;
    }

-- the text may be cut where a row of entries that are done ends
entries_lie : (t : List ℕ) (rs : List Record) (b : List Item) (es : List Entry) → AllLie t b → ArePlaced t rs b es → AllLie t (map (item_of t rs b) es)
entries_lie t rs b [] l p = tt
entries_lie t rs b (e ∷ es) l p = (item_lies t rs b e l p.0, entries_lie t rs b es l p.1)

pub cut_after : (t : List ℕ) (rs : List Record) (es done : List Entry) (used i s : ℕ) → IsUtf8 t → Growing t rs es done used → s ≡ row_len (take i (done_items t rs es done)) → IsCharBoundary t s
cut_after t rs es done used i s u p e =
    let all = all_items t rs es in
    let lie = all_lie t rs [] es tt p.ordered in
    let front = map (item_of t rs all) (take i done) in
    let same : take i (done_items t rs es done) ≡ front = take-map (item_of t rs all) i done in
    let row : IsRow 0 front = subst (λ (ys : List Item). IsRow 0 ys) same (row_take 0 i (done_items t rs es done) p.row) in
    let r = row_lies t 0 front (IsCharBoundary-start t u) row (entries_lie t rs all (take i done) lie (ArePlaced-take t rs all i done p.placed)) in
    let n : 0 + row_len front ≡ s = omega (arith, ap row_len same, e) in
    subst (λ (j : ℕ). IsCharBoundary t j) n r.to

-- ---- a token

-- the text that was added
added_item : (t more : List ℕ) (k s n : ℕ) → s ≡ length t → n ≡ length more → token_item (t ++ more) k s n ≡ record { start = length t; term = Token (record { kind = k; text = more }) }
added_item t more k s n e f =
    let q : piece (t ++ more) s n ≡ more =
    ap (λ (i : ℕ). piece (t ++ more) i n) e ∙ ap (λ (i : ℕ). take i (drop (length t) (t ++ more))) f
    ∙ ap (take (length more)) (drop-append_seam t more) ∙ take-length more in
    λ i. record { start = e i; term = Token (record { kind = k; text = q i }) }

added_range : (t more : List ℕ) (s n : ℕ) → IsUtf8 more → s ≡ length t → n ≡ length more → IsTextRange (t ++ more) s n
added_range t more s n v e f =
    let a : IsCharBoundary (t ++ more) (length t) = IsCharBoundary-at_seam (t ++ more) t more refl v in
    let b : IsCharBoundary (t ++ more) (length (t ++ more)) = IsCharBoundary-end (t ++ more) in
    let g : length (t ++ more) ≡ s + n = omega (arith, e, f, length-append t more) in
    record { from = subst (λ (i : ℕ). IsCharBoundary (t ++ more) i) (sym e) a; to = subst (λ (i : ℕ). IsCharBoundary (t ++ more) i) g b }

pub short_next : (t more : List ℕ) (rs : List Record) (b : List Item) (k s n : ℕ) → IsUtf8 more → s ≡ length t → n ≡ length more → IsNext (length t) (t ++ more) rs b (Short n k s) (Token (record { kind = k; text = more }))
short_next t more rs b k s n v e f = record {
  placed = added_range t more s n v e f;
  item = added_item t more k s n e f;
}

pub long_next : (t more : List ℕ) (rs : List Record) (b : List Item) (k i : ℕ) (r : Record) → IsUtf8 more → i ≡ length rs → r.start ≡ length t → r.len ≡ length more → IsNext (length t) (t ++ more) (rs ++ r ∷ []) b (Long k i) (Token (record { kind = k; text = more }))
long_next t more rs b k i r v e f g =
    let ss = rs ++ r ∷ [] in
    let z : record_at ss i ≡ r = last_record rs r i e in
    let q : IsTextRange (t ++ more) (record_at ss i).start (record_at ss i).len =
    subst (λ (y : Record). IsTextRange (t ++ more) y.start y.len) (sym z) (added_range t more r.start r.len v f g) in
    record {
      placed = record { present = omega (arith, e, length-append rs (r ∷ [])); range = q };
      item = ap (λ (y : Record). token_by (t ++ more) k y) z ∙ added_item t more k r.start r.len f g;
    }

pub short_pushed : (t more : List ℕ) (rs : List Record) (es done : List Entry) (used k s n : ℕ) → Growing t rs es done used → used ≡ length t → IsUtf8 t → IsUtf8 more → length t + length more < 2 ^ 32 → s ≡ length t → n ≡ length more
    → GrewParts (t ++ more) rs es (done ++ Short n k s ∷ []) (used + length more) (terms_at (done_items t rs es done) ++ Token (record { kind = k; text = more }) ∷ [])
short_pushed t more rs es done used k s n p w u v h e f =
    push_entry t (t ++ more) rs rs es done used (Short n k s) (Token (record { kind = k; text = more })) p (grown_text t more rs u v)
    (omega (arith, h, length-append t more))
    (subst (λ (i : ℕ). IsNext i (t ++ more) rs (all_items t rs es) (Short n k s) (Token (record { kind = k; text = more }))) (sym w) (short_next t more rs (all_items t rs es) k s n v e f))

pub long_pushed : (t more : List ℕ) (rs : List Record) (es done : List Entry) (used k i : ℕ) (r : Record) → Growing t rs es done used → used ≡ length t → IsUtf8 t → IsUtf8 more → length t + length more < 2 ^ 32 → i ≡ length rs → r.start ≡ length t → r.len ≡ length more
    → GrewParts (t ++ more) (rs ++ r ∷ []) es (done ++ Long k i ∷ []) (used + length more) (terms_at (done_items t rs es done) ++ Token (record { kind = k; text = more }) ∷ [])
long_pushed t more rs es done used k i r p w u v h e f g =
    push_entry t (t ++ more) rs (rs ++ r ∷ []) es done used (Long k i) (Token (record { kind = k; text = more })) p (grown_both t more rs r u v)
    (omega (arith, h, length-append t more))
    (subst (λ (j : ℕ). IsNext j (t ++ more) (rs ++ r ∷ []) (all_items t rs es) (Long k i) (Token (record { kind = k; text = more }))) (sym w) (long_next t more rs (all_items t rs es) k i r v e f g))

-- ---- a token that is the next piece of the text

piece_len : (t : List ℕ) (at n : ℕ) → at + n ≤ length t → length (piece t at n) ≡ n
piece_len t at n h = omega (arith, h, length-take n (drop at t), length-drop at t)

piece_used : (t : List ℕ) (rs : List Record) (es done : List Entry) (used n : ℕ) (ts : List Term) → used + n ≤ length t → GrewParts t rs es done (used + length (piece t used n)) ts → GrewParts t rs es done (used + n) ts
piece_used t rs es done used n ts h p = subst (λ (m : ℕ). GrewParts t rs es done (used + m) ts) (piece_len t used n h) p

pub short_piece : (t : List ℕ) (rs : List Record) (es done : List Entry) (used k n : ℕ) → Growing t rs es done used → IsTextRange t used n → used + n ≤ length t
    → GrewParts t rs es (done ++ Short n k used ∷ []) (used + n) (terms_at (done_items t rs es done) ++ Token (record { kind = k; text = piece t used n }) ∷ [])
short_piece t rs es done used k n p range h =
    piece_used t rs es (done ++ Short n k used ∷ []) used n _ h
    (push_entry t t rs rs es done used (Short n k used) (Token (record { kind = k; text = piece t used n })) p (grown_same t rs) p.text (record { placed = range; item = refl }))

pub long_piece : (t : List ℕ) (rs : List Record) (es done : List Entry) (used k n i : ℕ) (r : Record) → Growing t rs es done used → IsTextRange t used n → used + n ≤ length t → i ≡ length rs → r.start ≡ used → r.len ≡ n
    → GrewParts t (rs ++ r ∷ []) es (done ++ Long k i ∷ []) (used + n) (terms_at (done_items t rs es done) ++ Token (record { kind = k; text = piece t used n }) ∷ [])
long_piece t rs es done used k n i r p range h e f g =
    let ss = rs ++ r ∷ [] in
    let z : record_at ss i ≡ r = last_record rs r i e in
    let own : IsTextRange t r.start r.len = subst (λ (j : ℕ). IsTextRange t j r.len) (sym f) (subst (λ (m : ℕ). IsTextRange t used m) (sym g) range) in
    let next : IsNext used t ss (all_items t rs es) (Long k i) (Token (record { kind = k; text = piece t used n })) = record {
      placed = record {
        present = omega (arith, e, length-append rs (r ∷ []));
        range = subst (λ (y : Record). IsTextRange t y.start y.len) (sym z) own;
      };
      item = ap (λ (y : Record). token_by t k y) z ∙ ap (λ (j : ℕ). token_item t k j r.len) f ∙ ap (λ (m : ℕ). token_item t k used m) g;
    } in
    piece_used t ss es (done ++ Long k i ∷ []) used n _ h
    (push_entry t t rs ss es done used (Long k i) (Token (record { kind = k; text = piece t used n })) p (grown_record t rs r) p.text next)

-- ---- a node

length_kids : (t : List ℕ) (rs : List Record) (es done : List Entry) (first : ℕ) → length (drop first (done_items t rs es done)) ≡ length done - first
length_kids t rs es done first =
    let fn = item_of t rs (all_items t rs es) in
    length-drop first (map fn done) ∙ ap (λ (n : ℕ). n - first) (length-map done fn)

row_kids : (t : List ℕ) (rs : List Record) (es done : List Entry) (used first : ℕ) → Growing t rs es done used → IsRow (row_len (take first (done_items t rs es done))) (drop first (done_items t rs es done))
row_kids t rs es done used first p =
    let old = done_items t rs es done in
    let e : 0 + row_len (take first old) ≡ row_len (take first old) = omega arith in
    subst (λ (n : ℕ). IsRow n (drop first old)) e (row_drop 0 first old p.row)

longer_entries : (es done : List Entry) (first : ℕ) → first ≤ length done → length es + length done < first + 2 ^ 32 → length (es ++ drop first done) < 2 ^ 32
longer_entries es done first h k = omega (arith, h, k, length-append es (drop first done), length-drop first done)

pub few_closed : (t : List ℕ) (rs : List Record) (es done : List Entry) (used first k n f : ℕ) → Growing t rs es done used → first < length done → length es + length done < first + 2 ^ 32 → n ≡ length done - first → f ≡ length es
    → GrewParts t rs (es ++ drop first done) (take first done ++ Few n k f ∷ []) used (take first (terms_at (done_items t rs es done)) ++ Node (tree_of k (drop first (terms_at (done_items t rs es done)))) ∷ [])
few_closed t rs es done used first k n f p h w e g =
    let old = done_items t rs es done in
    let s = row_len (take first old) in
    let place : f ≡ length (all_items t rs es) = omega (arith, g, length-items_after t rs [] es) in
    let count : n ≡ length (drop first old) = e ∙ sym (length_kids t rs es done first) in
    let room : length (es ++ drop first done) < 2 ^ 32 = longer_entries es done first (omega (arith, h)) w in
    close_entry t rs rs es done used first k s (Few n k f) p (grown_same t rs) room refl
    (few_node t rs (all_items t rs es) (drop first old) k s f n place count (omega (arith, e, h)) (row_kids t rs es done used first p))

pub many_closed : (t : List ℕ) (rs : List Record) (es done : List Entry) (used first k i : ℕ) (r : Record) → Growing t rs es done used → IsUtf8 t → first ≤ length done → length es + length done < first + 2 ^ 32 → i ≡ length rs
    → r.start ≡ row_len (take first (done_items t rs es done)) → r.start + r.len ≡ used → r.first ≡ length es → r.count ≡ length done - first
    → GrewParts t (rs ++ r ∷ []) (es ++ drop first done) (take first done ++ Many k i ∷ []) used (take first (terms_at (done_items t rs es done)) ++ Node (tree_of k (drop first (terms_at (done_items t rs es done)))) ∷ [])
many_closed t rs es done used first k i r p u h w e starts ends f n =
    let old = done_items t rs es done in
    let s = row_len (take first old) in
    let place : r.first ≡ length (all_items t rs es) = omega (arith, f, length-items_after t rs [] es) in
    let count : r.count ≡ length (drop first old) = n ∙ sym (length_kids t rs es done first) in
    let len : r.len ≡ row_len (drop first old) = omega (arith, starts, ends, row_len-split first old, p.all) in
    let cut : IsCharBoundary t s = cut_after t rs es done used first s u p refl in
    close_entry t rs (rs ++ r ∷ []) es done used first k s (Many k i) p (grown_record t rs r) (longer_entries es done first h w) refl
    (many_node t rs (all_items t rs es) (drop first old) k s i r e starts len place count cut (row_kids t rs es done used first p))

-- the text may be cut where its used part ends
pub used_cut : (a : Arena) (done : List Entry) → IsGrowing a done → IsCharBoundary (string_bytes a.text) a.used
used_cut a done g =
    let xs = items_over a done in
    let whole : row_len xs ≡ row_len (take (length xs) xs) = sym (ap row_len (take_all (length xs) xs (omega arith))) in
    cut_after (string_bytes a.text) a.records.items a.entries.items done a.used (length xs) a.used (IsUtf8-string_bytes a.text) (growing_parts a done g) (sym g.all ∙ whole)

-- tokens have no more text than there is
pub used_within : (a : Arena) (done : List Entry) → IsGrowing a done → a.used ≤ length (string_bytes a.text)
used_within a done g = (used_cut a done g).0

-- ---- where the entries from a number on start

texts_before : (a : Arena) (done : List Entry) (first : ℕ) → length (texts_of (take first (terms_over a done))) ≡ row_len (take first (items_over a done))
texts_before a done first = ap (λ (ts : List Term). length (texts_of ts)) (take-map (λ (y : Item). y.term) first (items_over a done))

pub start_at : (a : Arena) (done : List Entry) (first n : ℕ) (x : Entry) → IsGrowing a done → first < length done → x ≡ get_or done first x → n ≡ (item_in a x).start → n ≡ length (texts_of (take first (terms_over a done)))
start_at a done first n x g h q e =
    let xs = items_over a done in
    let d = item_in a x in
    let z : (item_in a x).start ≡ (get_or xs first d).start = ap (λ (y : Item). y.start) (element_item a done first x d h q) in
    let w = row_at 0 first d xs g.row (omega (arith, h, length-map done (item_in a))) in
    omega (arith, e, z, w, texts_before a done first)

pub start_at_end : (a : Arena) (done : List Entry) (first n : ℕ) → IsGrowing a done → first ≤ length done → length done ≤ first → n ≡ a.used → n ≡ length (texts_of (take first (terms_over a done)))
start_at_end a done first n g h k e =
    let xs = items_over a done in
    let z : row_len (take first xs) ≡ row_len xs = ap row_len (take_all first xs (omega (arith, k, length-map done (item_in a)))) in
    omega (arith, e, z, g.all, texts_before a done first)

-- the record's start, by the items
pub start_items : (a : Arena) (done : List Entry) (first n : ℕ) → n ≡ length (texts_of (take first (terms_over a done))) → n ≡ row_len (take first (items_over a done))
start_items a done first n e = e ∙ texts_before a done first

pub start_le : (a : Arena) (done : List Entry) (first n : ℕ) → IsGrowing a done → n ≡ length (texts_of (take first (terms_over a done))) → n ≤ a.used
start_le a done first n g e = omega (arith, start_items a done first n e, row_len-split first (items_over a done), g.all)

-- ---- lists of entries

-- all elements from a number on
pub take_rest : (i : ℕ) (xs : List Entry) → take (length xs - i) (drop i xs) ≡ drop i xs
take_rest i xs = ap (λ (n : ℕ). take n (drop i xs)) (sym (length-drop i xs)) ∙ take-length (drop i xs)

-- the last element alone
pub drop_last : (xs : List Entry) (i : ℕ) (d : Entry) → length xs ≡ i + 1 → drop i xs ≡ get_or xs i d ∷ []
drop_last [] i d h = absurd (omega (arith, h))
drop_last (x ∷ []) zero d h = refl
drop_last (x ∷ y ∷ xs) zero d h = absurd (omega (arith, h))
drop_last (x ∷ xs) (suc i) d h = drop_last xs i d (omega (arith, h))

-- a slice of a list that is the entries that are done
pub rest_is : (ds done : List Entry) (i : ℕ) → ds ≡ done → take (length ds - i) (drop i ds) ≡ drop i done
rest_is ds done i e = take_rest i ds ∙ ap (drop i) e

pub rest_sound : (a : Arena) (ds done : List Entry) (i : ℕ) → IsSound a done → ds ≡ done → IsSound a (take (length ds - i) (drop i ds))
rest_sound a ds done i s e =
    let t = string_bytes a.text in
    let rs = a.records.items in
    let all = all_items t rs a.entries.items in
    let p : ArePlaced t rs all (take (length ds - i) (drop i ds)) =
    subst (λ (es : List Entry). ArePlaced t rs all es) (sym (rest_is ds done i e)) (ArePlaced-drop t rs all i done s.placed) in
    record { text = s.text; count = s.count; ordered = s.ordered; placed = p }

pub rest_some : (ds done : List Entry) (i : ℕ) → ds ≡ done → i < length done → 1 ≤ length (take (length ds - i) (drop i ds))
rest_some ds done i e h = omega (arith, h, ap length (rest_is ds done i e), length-drop i done)

-- the list up to and with an element, which is replaced
pub set_last : (xs : List Entry) (i : ℕ) (x : Entry) → i < length xs → set (take (i + 1) xs) i x ≡ take i xs ++ x ∷ []
set_last [] i x h = absurd (omega (arith, h))
set_last (y ∷ ys) zero x h = refl
set_last (y ∷ ys) (suc i) x h =
    let e : suc i + 1 ≡ suc (i + 1) = omega arith in
    rw e (ap (λ (zs : List Entry). y ∷ zs) (set_last ys i x (omega (arith, h))))

-- ---- a root

pub record RootPushed (t : List ℕ) (rs : List Record) (es : List Entry) (done : List Entry) (used : ℕ) (at : ℕ) (x : Entry) : Type 0 where
  pub grew : GrewParts t rs (es ++ x ∷ []) done used (terms_at (done_items t rs es done))
  pub root : slice_get (terms_at (all_items t rs (es ++ x ∷ []))) (length es) ≡ slice_get (terms_at (done_items t rs es done)) at

pub root_pushed : (t : List ℕ) (rs : List Record) (es done : List Entry) (used at : ℕ) (x : Entry) → Growing t rs es done used → at < length done → x ≡ get_or done at x → length es + 1 < 2 ^ 32 → RootPushed t rs es done used at x
root_pushed t rs es done used at x p h q w =
    let all = all_items t rs es in
    let fn = item_of t rs all in
    let placed : IsPlaced t rs all x = subst (λ (y : Entry). IsPlaced t rs all y) (sym q) (element_placed t rs all done at x p.placed h) in
    let b = block t rs all (x ∷ []) (placed, tt) in
    let now : all_items t rs (es ++ x ∷ []) ≡ all ++ fn x ∷ [] = items_after-append t rs [] es (x ∷ []) ∙ b.items in
    let s = all_stay t t rs rs all (all ++ fn x ∷ []) done (grown_same t rs) (longer_append all (fn x ∷ [])) p.placed in
    let new : done_items t rs (es ++ x ∷ []) done ≡ done_items t rs es done =
    ap (λ (c : List Item). map (item_of t rs c) done) now ∙ s.items in
    let d = (fn x).term in
    let seen : terms_at (all_items t rs (es ++ x ∷ [])) ≡ terms_at all ++ d ∷ [] = ap terms_at now ∙ map-append (λ (y : Item). y.term) all (fn x ∷ []) in
    let n : length (terms_at all) ≡ length es = length-map all (λ (y : Item). y.term) ∙ length-items_after t rs [] es ∙ omega arith in
    let m : length (terms_at (done_items t rs es done)) ≡ length done = length-map (done_items t rs es done) (λ (y : Item). y.term) ∙ length-map done fn in
    let there : get_or (terms_at (done_items t rs es done)) at d ≡ d =
    get_or-map (λ (y : Item). y.term) (done_items t rs es done) at (fn x) d (omega (arith, h, length-map done fn))
    ∙ ap (λ (y : Item). y.term) (get_or-map fn done at x (fn x) h) ∙ ap (λ (y : Entry). (fn y).term) (sym q) in
    record {
      grew = record {
        growing = record {
          text = p.text;
          count = omega (arith, w, length-append es (x ∷ []));
          ordered = AreOrdered-append t rs [] es (x ∷ []) p.ordered b.ordered;
          placed = subst (λ (c : List Item). ArePlaced t rs c done) (sym now) s.placed;
          row = subst (λ (ys : List Item). IsRow 0 ys) (sym new) p.row;
          all = ap row_len new ∙ p.all;
        };
        terms = ap terms_at new;
      };
      root = ap (λ (ts : List Term). slice_get ts (length es)) seen
          ∙ ap (λ (i : ℕ). slice_get (terms_at all ++ d ∷ []) i) (sym n)
          ∙ slice_get_at (terms_at all ++ d ∷ []) (length (terms_at all)) d (omega (arith, length-append (terms_at all) (d ∷ [])))
          ∙ ap (λ (y : Term). Some y) (get_or-append_seam (terms_at all) d [] d ∙ sym there)
          ∙ sym (slice_get_at (terms_at (done_items t rs es done)) at d (omega (arith, m, h)));
    }

-- ---- an arena with the same parts

pub record SameArena (a : Arena) (b : Arena) : Type 0 where
  pub sound : IsSound b []
  pub terms : terms_at (items_in b) ≡ terms_at (items_in a)

pub same_arena : (a b : Arena) → string_bytes b.text ≡ string_bytes a.text → b.records.items ≡ a.records.items → b.entries.items ≡ a.entries.items → IsSound a [] → SameArena a b
same_arena a b e f g s =
    let t = string_bytes a.text in
    let rs = a.records.items in
    let es = a.entries.items in
    let o1 : AreOrdered t rs [] b.entries.items = subst (λ (x : List Entry). AreOrdered t rs [] x) (sym g) s.ordered in
    let o2 : AreOrdered t b.records.items [] b.entries.items = subst (λ (x : List Record). AreOrdered t x [] b.entries.items) (sym f) o1 in
    let o3 : AreOrdered (string_bytes b.text) b.records.items [] b.entries.items =
    subst (λ (x : List ℕ). AreOrdered x b.records.items [] b.entries.items) (sym e) o2 in
    record {
      sound = record { text = omega (arith, s.text, ap length e); count = omega (arith, s.count, ap length g); ordered = o3; placed = tt };
      terms = ap (λ (x : List ℕ). terms_at (items_after x b.records.items [] b.entries.items)) e
          ∙ ap (λ (x : List Record). terms_at (items_after t x [] b.entries.items)) f
          ∙ ap (λ (x : List Entry). terms_at (items_after t rs [] x)) g;
    }
