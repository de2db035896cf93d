-- Lemmas on the children of a node in an arena.
use Rattle.std.proofs.Common.{◌≡◌, ℕ, suc, ◌+◌, ◌-◌, ◌≤◌, ◌<◌, List, [], ◌∷◌, ◌++◌, length, take, drop, ap, sym, ◌∙◌, subst, arith, length-take, length-drop, string_bytes}
use Rattle.std.proofs.lemmas.List.{drop-take, take-map, drop-map, get_or-take, get_or-drop, drop-append-le}
use Rattle.std.proofs.lemmas.Option.{slice_get-get_or, slice_get_within, get_or_from_slice_get}
use Rattle.std.proofs.Math.Seq.{drop-cons, take-suc}
use Rattle.std.specs.Prelude.{slice_get, Some}
use Rattle.rowan_green.specs.Forest.{Forest, forest_text}
use Rattle.rowan_green.specs.Term.{Term, texts_of, term_len, children_of, forest_of-terms}
use Rattle.rowan_green.specs.declared.utility_types.NodeOrToken.TheVariants.{Node}
use Rattle.rowan_green.specs.declared.arena.Arena.{Arena}
use Rattle.rowan_green.specs.declared.arena.Entry.{Entry}
use Rattle.rowan_green.specs.Arena.{Item, terms_at, piece, items_in, term_in, child_terms, IsChildRange}
use Rattle.rowan_green.specs.FlatNode.{tree_at, IsNodeAt}
use Rattle.rowan_green.specs.FlatRef.{terms_between, IsEntryRange}
use Rattle.rowan_green.proofs.ArenaRoots.{length-terms}

-- what was read of an arena, of an equal one
pub term_as : (a b : Arena) (i : ℕ) (e : Entry) → b ≡ a → slice_get (terms_at (items_in b)) i ≡ Some (term_in b e) → slice_get (terms_at (items_in a)) i ≡ Some (term_in a e)
term_as a b i e h p = subst (λ (d : Arena). slice_get (terms_at (items_in d)) i ≡ Some (term_in d e)) h p

pub range_as : (a b : Arena) (e : Entry) (f n : ℕ) → b ≡ a → IsChildRange b e f n → IsChildRange a e f n
range_as a b e f n h p = subst (λ (d : Arena). IsChildRange d e f n) h p

-- the entry of a node is read as the node
pub node_read : (a : Arena) (i : ℕ) (x : Term) → IsNodeAt a i → slice_get (terms_at (items_in a)) i ≡ Some x → x ≡ Node (tree_at a i)
node_read a i x p q = cc (p.node, q)

-- the texts of a node's children are its text
pub children_len : (a : Arena) (i : ℕ) (x : Term) (ts : List Term) → IsNodeAt a i → slice_get (terms_at (items_in a)) i ≡ Some x → ts ≡ child_terms x → length (texts_of ts) ≡ term_len x
children_len a i x ts p q e =
    let n : x ≡ Node (tree_at a i) = node_read a i x p q in
    ap (λ (es : List Term). length (texts_of es)) (e ∙ ap child_terms n)
    ∙ ap (λ (f : Forest). length (forest_text f)) (forest_of-terms (tree_at a i).forest)
    ∙ sym (ap term_len n)

-- the terms of a range of entries
pub piece_terms : (a : Arena) (f n : ℕ) → terms_between a f (f + n) ≡ terms_at (piece (items_in a) f n)
piece_terms a f n =
    drop-take f n (terms_at (items_in a))
    ∙ ap (take n) (drop-map (λ (x : Item). x.term) f (items_in a))
    ∙ take-map (λ (x : Item). x.term) n (drop f (items_in a))

-- the terms of the range of a node's children are its children
pub children_between : (a : Arena) (i : ℕ) (e : Entry) (f n : ℕ) → IsNodeAt a i → slice_get (terms_at (items_in a)) i ≡ Some (term_in a e) → IsChildRange a e f n → terms_between a f (f + n) ≡ children_of (tree_at a i)
children_between a i e f n p q r =
    piece_terms a f n ∙ r.children ∙ ap child_terms (node_read a i (term_in a e) p q)

-- an element of a part of a list
pub slice_get-between : (xs : List Term) (f n j : ℕ) (x : Term) → j < n → slice_get xs (f + j) ≡ Some x → slice_get (drop f (take (f + n) xs)) j ≡ Some x
slice_get-between xs f n j x h q =
    let w : f + j < length xs = slice_get_within xs (f + j) x q in
    let ts = take (f + n) xs in
    let l : j < length (drop f ts) = omega (arith, length-drop f ts, length-take (f + n) xs, w, h) in
    slice_get-get_or (drop f ts) j x l
    ∙ ap (λ (y : Term). Some y) (get_or-drop f ts j x ∙ get_or-take (f + n) xs (f + j) x (omega (arith, h)) ∙ get_or_from_slice_get xs (f + j) x x q)

-- a part of a list begins with its first element
pub between_first : (xs : List Term) (s e : ℕ) (x : Term) → s < e → slice_get xs s ≡ Some x → drop s (take e xs) ≡ x ∷ drop (s + 1) (take e xs)
between_first xs s e x h q =
    let w : s < length xs = slice_get_within xs s x q in
    let ts = take e xs in
    let l : s < length ts = omega (arith, length-take e xs, w, h) in
    let n : suc s ≡ s + 1 = omega arith in
    drop-cons ts s x l
    ∙ ap (λ (y : Term). y ∷ drop (suc s) ts) (get_or-take e xs s x h ∙ get_or_from_slice_get xs s x x q)
    ∙ ap (λ (k : ℕ). x ∷ drop k ts) n

-- a part of a list ends with its last element
pub between_last : (xs : List Term) (s e : ℕ) (x : Term) → s < e → slice_get xs (e - 1) ≡ Some x → drop s (take e xs) ≡ drop s (take (e - 1) xs) ++ x ∷ []
between_last xs s e x h q =
    let k = e - 1 in
    let w : k < length xs = slice_get_within xs k x q in
    let n : e ≡ suc k = omega (arith, h) in
    let l : s ≤ length (take k xs) = omega (arith, length-take k xs, w, h) in
    ap (λ (m : ℕ). drop s (take m xs)) n
    ∙ ap (drop s) (take-suc xs k x w ∙ ap (λ (y : Term). take k xs ++ y ∷ []) (get_or_from_slice_get xs k x x q))
    ∙ drop-append-le s (take k xs) (x ∷ []) l

-- how many terms a range of entries has
pub length-between : (a : Arena) (s e : ℕ) → IsEntryRange a s e → length (terms_between a s e) ≡ e - s
length-between a s e r =
    let ts = terms_at (items_in a) in
    let n : length ts ≡ length a.entries.items = length-terms (string_bytes a.text) a.records.items a.entries.items in
    omega (arith, length-drop s (take e ts), length-take e ts, n, r.within)
