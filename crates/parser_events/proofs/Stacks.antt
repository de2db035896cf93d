-- Reading a record back gives the open nodes whose record it is.
use Rattle.std.proofs.Common.{◌≡◌, ℕ, suc, ◌+◌, ◌-◌, List, [], ◌∷◌, ◌++◌, length, take, reverse, refl, ap, sym, ◌∙◌, append_assoc, append-nil, arith}
use Rattle.std.proofs.lemmas.List.{take_at, drop_at, reverse-append}
use Rattle.parser_events.specs.Marked.{Marked, End, Leaf, Said, Node, Split, ◌beside◌, size, front, after}
use Rattle.parser_events.specs.Nodes as nodes
use Rattle.parser_events.specs.Nodes.{Entry, Kept, entries, all_entries, starts, record_of, grown, read_from, read_back, nodes_of, IsRecord, with_entry, opened_at, opened_here, innermost, left_out, closed_as, split_as}
use Rattle.parser_events.proofs.Forests.{beside-end, beside_assoc}

pub size-beside : (f g : Marked) → size (f beside g) ≡ size f + size g
size-beside End g = omega arith
size-beside (Leaf k n f) g = omega (arith, size-beside f g)
size-beside (Said m f) g = omega (arith, size-beside f g)
size-beside (Node k c f) g = omega (arith, size-beside f g)
size-beside (Split e c f) g = omega (arith, size-beside f g)

-- trees side by side are parted where the first end
pub front-beside : (f g : Marked) → front (size f) (f beside g) ≡ f
front-beside End g = refl
front-beside (Leaf k n f) g = ap (Leaf k n) (front-beside f g)
front-beside (Said m f) g = ap (Said m) (front-beside f g)
front-beside (Node k c f) g =
    let n : (size c + size f) - size c ≡ size f = omega arith in
    ap (Node k c) (ap (λ (m : ℕ). front m (f beside g)) n ∙ front-beside f g)
front-beside (Split e c f) g =
    let n : (size c + size f) - size c ≡ size f = omega arith in
    ap (Split e c) (ap (λ (m : ℕ). front m (f beside g)) n ∙ front-beside f g)

pub after-beside : (f g : Marked) → after (size f) (f beside g) ≡ g
after-beside End g = refl
after-beside (Leaf k n f) g = after-beside f g
after-beside (Said m f) g = after-beside f g
after-beside (Node k c f) g =
    let n : (size c + size f) - size c ≡ size f = omega arith in
    ap (λ (m : ℕ). after m (f beside g)) n ∙ after-beside f g
after-beside (Split e c f) g =
    let n : (size c + size f) - size c ≡ size f = omega arith in
    ap (λ (m : ℕ). after m (f beside g)) n ∙ after-beside f g

-- the entries of a node's further trees
grown-at : (place at : ℕ) (f g : Marked) (rest : List Entry) → at ≡ size f + place → grown place f (entries at g ++ rest) ≡ grown place (f beside g) rest
grown-at place at f End rest e = ap (λ (x : Marked). grown place x rest) (sym (beside-end f))
grown-at place at f (Leaf k n g) rest e =
    grown-at place (suc at) (f beside Leaf k n End) g rest (omega (arith, e, size-beside f (Leaf k n End)))
    ∙ ap (λ (x : Marked). grown place x rest) (beside_assoc f (Leaf k n End) g)
grown-at place at f (Said m g) rest e =
    grown-at place (suc at) (f beside Said m End) g rest (omega (arith, e, size-beside f (Said m End)))
    ∙ ap (λ (x : Marked). grown place x rest) (beside_assoc f (Said m End) g)
grown-at place at f (Node k c g) rest e =
    let next = suc (size c + at) in
    let n : at - place ≡ size f = omega (arith, e) in
    ap (grown place f) (append_assoc (entries at c) (nodes.Closed k at ∷ entries next g) rest)
    ∙ grown-at place at f c (nodes.Closed k at ∷ (entries next g ++ rest)) e
    ∙ ap (λ (m : ℕ). grown place (front m (f beside c) beside Node k (after m (f beside c)) End) (entries next g ++ rest)) n
    ∙ ap (λ (x : Marked). grown place (x beside Node k (after (size f) (f beside c)) End) (entries next g ++ rest)) (front-beside f c)
    ∙ ap (λ (x : Marked). grown place (f beside Node k x End) (entries next g ++ rest)) (after-beside f c)
    ∙ grown-at place next (f beside Node k c End) g rest (omega (arith, e, size-beside f (Node k c End)))
    ∙ ap (λ (x : Marked). grown place x rest) (beside_assoc f (Node k c End) g)
grown-at place at f (Split s c g) rest e =
    let next = suc (size c + at) in
    let n : at - place ≡ size f = omega (arith, e) in
    ap (grown place f) (append_assoc (entries at c) (nodes.Ended s at ∷ entries next g) rest)
    ∙ grown-at place at f c (nodes.Ended s at ∷ (entries next g ++ rest)) e
    ∙ ap (λ (m : ℕ). grown place (front m (f beside c) beside Split s (after m (f beside c)) End) (entries next g ++ rest)) n
    ∙ ap (λ (x : Marked). grown place (x beside Split s (after (size f) (f beside c)) End) (entries next g ++ rest)) (front-beside f c)
    ∙ ap (λ (x : Marked). grown place (f beside Split s x End) (entries next g ++ rest)) (after-beside f c)
    ∙ grown-at place next (f beside Split s c End) g rest (omega (arith, e, size-beside f (Split s c End)))
    ∙ ap (λ (x : Marked). grown place x rest) (beside_assoc f (Split s c End) g)

pub grown-entries : (place : ℕ) (f : Marked) → grown place End (entries place f) ≡ f
grown-entries place f =
    ap (grown place End) (sym (append-nil (entries place f))) ∙ grown-at place place End f [] (omega arith)

read-starts : (f : Marked) (below : List Marked) → read_from (all_entries (f ∷ below)) (reverse (starts (f ∷ below))) ≡ f ∷ below
read-starts f [] = ap (λ (x : Marked). x ∷ []) (grown-entries 0 f)
read-starts f (g ∷ below) =
    let all = all_entries (g ∷ below) in
    let inner = entries (length all) f in
    ap (read_from (all ++ inner)) (reverse-append (starts (g ∷ below)) (length all ∷ []))
    ∙ ap (λ (es : List Entry). grown (length all) End es ∷ read_from (take (length all) (all ++ inner)) (reverse (starts (g ∷ below)))) (drop_at all inner (length all) refl)
    ∙ ap (λ (x : Marked). x ∷ read_from (take (length all) (all ++ inner)) (reverse (starts (g ∷ below)))) (grown-entries (length all) f)
    ∙ ap (λ (es : List Entry). f ∷ read_from es (reverse (starts (g ∷ below)))) (take_at all inner (length all) refl)
    ∙ ap (λ (l : List Marked). f ∷ l) (read-starts g below)

-- Reading back undoes recording.
pub reads : (f : Marked) (below : List Marked) → read_back (record_of (f ∷ below)) ≡ f ∷ below
unfolding read_back
reads f below = read-starts f below
