-- The one tree of the innermost node gets the trees of the node around it: what that makes of the entries.
use Rattle.std.proofs.Common.{◌≡◌, ℕ, suc, ◌+◌, ◌-◌, ◌<◌, ◌≤◌, ◌==◌, Bool, true, false, List, [], ◌∷◌, ◌++◌, Option, Some, None, length, map, take, get_or, set, if◌then◌else◌, refl, ap, sym, ◌∙◌, append_assoc, append-nil, length-append, arith}
use Rattle.std.proofs.lemmas.Bool.{eq-eqb, ne_eqb}
use Rattle.std.proofs.lemmas.List.{get_or_at, get_or-map, get_or_append_left, length-map, length-set, map-set, set_at, set-append_left, set-get_or}
use Rattle.parser_input.specs.Kind.{raw_of}
use Rattle.parser_input.specs.Kinds.{ERROR}
use Rattle.parser_input.specs.declared.syntax_kind.SyntaxKind.{SyntaxKind}
use Rattle.parser_events.specs.Marked.{Marked, End, Leaf, Said, Node, Split, ◌beside◌, size, into, into_children}
use Rattle.parser_events.specs.Nodes as nodes
use Rattle.parser_events.specs.Nodes.{Entry, Kept, entries, all_entries, starts, record_of, with_entry, innermost, left_out, last_entry, access_from, extended_by, extended_entries, extended}
use Rattle.parser_events.specs.Seen.{event_of}
use Rattle.parser_events.specs.Stack.{Becomes}
use Rattle.parser_events.specs.declared.event.Event.{Event}
use Rattle.parser_events.specs.declared.event.Event.TheVariants as events
use Rattle.parser_events.proofs.Trees.{all-beside, all-length, last-of, front-of, starts-same, same-kept}

-- this is the entry of a node or of a field access that begins at a place
abbrev begun_at : ℕ → Entry → Bool
begun_at place (nodes.Token kind count) = false
begun_at place (nodes.Said message) = false
begun_at place (nodes.Closed kind start) = start == place
begun_at place (nodes.Ended ends_in_dot start) = start == place

last-is : (es : List Entry) (e : Entry) → last_entry (es ++ e ∷ []) ≡ e
last-is es e = get_or_at es e [] (nodes.Token 0 0) (length (es ++ e ∷ []) - 1) (omega (arith, length-append es (e ∷ [])))

apart : (p q : ℕ) → 0 < (q - p) + (p - q) → (q == p) ≡ false
apart p q h = ne_eqb q p (λ e. absurd (omega (arith, h, e)))

-- No tree begins at `p` that ends with the last of these entries: its trees are all after that place or all before it.
passed :
    (p q : ℕ) (es : List Entry) (f : Marked) → 0 < (q - p) + (suc p - (size f + q)) → begun_at p (last_entry es) ≡ false
    → begun_at p (last_entry (es ++ entries q f)) ≡ false
passed p q es End h n = ap (λ (l : List Entry). begun_at p (last_entry l)) (append-nil es) ∙ n
passed p q es (Leaf k c f) h n =
    let e = nodes.Token k c in
    ap (λ (l : List Entry). begun_at p (last_entry l)) (sym (append_assoc es (e ∷ []) (entries (suc q) f)))
    ∙ passed p (suc q) (es ++ e ∷ []) f (omega (arith, h)) (ap (begun_at p) (last-is es e))
passed p q es (Said m f) h n =
    let e = nodes.Said m in
    ap (λ (l : List Entry). begun_at p (last_entry l)) (sym (append_assoc es (e ∷ []) (entries (suc q) f)))
    ∙ passed p (suc q) (es ++ e ∷ []) f (omega (arith, h)) (ap (begun_at p) (last-is es e))
passed p q es (Node k c f) h n =
    let e = nodes.Closed k q in
    let before = es ++ entries q c in
    let next = suc (size c + q) in
    ap (λ (l : List Entry). begun_at p (last_entry l))
    (sym (append_assoc es (entries q c) (e ∷ entries next f)) ∙ sym (append_assoc before (e ∷ []) (entries next f)))
    ∙ passed p next (before ++ e ∷ []) f (omega (arith, h)) (ap (begun_at p) (last-is before e) ∙ apart p q (omega (arith, h)))
passed p q es (Split d c f) h n =
    let e = nodes.Ended d q in
    let before = es ++ entries q c in
    let next = suc (size c + q) in
    ap (λ (l : List Entry). begun_at p (last_entry l))
    (sym (append_assoc es (entries q c) (e ∷ entries next f)) ∙ sym (append_assoc before (e ∷ []) (entries next f)))
    ∙ passed p next (before ++ e ∷ []) f (omega (arith, h)) (ap (begun_at p) (last-is before e) ∙ apart p q (omega (arith, h)))

-- an entry that begins elsewhere, and trees after that place
passed-one : (p q : ℕ) (es : List Entry) (e : Entry) (f : Marked) → p < q → begun_at p e ≡ false → begun_at p (last_entry (es ++ e ∷ entries q f)) ≡ false
passed-one p q es e f h n =
    ap (λ (l : List Entry). begun_at p (last_entry l)) (sym (append_assoc es (e ∷ []) (entries q f)))
    ∙ passed p q (es ++ e ∷ []) f (omega (arith, h)) (ap (begun_at p) (last-is es e) ∙ n)

-- some trees after that place
passed-some : (p q : ℕ) (es : List Entry) (f : Marked) → p < q → 0 < size f → begun_at p (last_entry (es ++ entries q f)) ≡ false
passed-some p q es End h some = absurd (omega (arith, some))
passed-some p q es (Leaf k c f) h some = passed-one p (suc q) es (nodes.Token k c) f (omega (arith, h)) refl
passed-some p q es (Said m f) h some = passed-one p (suc q) es (nodes.Said m) f (omega (arith, h)) refl
passed-some p q es (Node k c f) h some =
    let next = suc (size c + q) in
    ap (λ (l : List Entry). begun_at p (last_entry l)) (sym (append_assoc es (entries q c) (nodes.Closed k q ∷ entries next f)))
    ∙ passed-one p next (es ++ entries q c) (nodes.Closed k q) f (omega (arith, h)) (apart p q (omega (arith, h)))
passed-some p q es (Split d c f) h some =
    let next = suc (size c + q) in
    ap (λ (l : List Entry). begun_at p (last_entry l)) (sym (append_assoc es (entries q c) (nodes.Ended d q ∷ entries next f)))
    ∙ passed-one p next (es ++ entries q c) (nodes.Ended d q) f (omega (arith, h)) (apart p q (omega (arith, h)))

-- no tree begins where all entries are before
passed-all : (p : ℕ) (trees : List Marked) → length (all_entries trees) ≤ p → begun_at p (last_entry (all_entries trees)) ≡ false
passed-all p [] h = refl
passed-all p (f ∷ below) h =
    passed p (length (all_entries below)) (all_entries below) f (omega (arith, h, all-length f below)) (passed-all p below (omega (arith, h, all-length f below)))

-- what no tree ends that begins there is closed as an error
extends-other : (p outer : ℕ) (e : Entry) (es : List Entry) → begun_at p e ≡ false → extended_by p outer e es ≡ es ++ nodes.Closed ERROR outer ∷ []
extends-other p outer (nodes.Token k c) es n = refl
extends-other p outer (nodes.Said m) es n = refl
extends-other p outer (nodes.Closed k s) es n = rw n refl
extends-other p outer (nodes.Ended d s) es n = rw n refl

access-other : (p outer : ℕ) (e : Entry) → begun_at p e ≡ false → access_from p outer e ≡ e
access-other p outer (nodes.Token k c) n = refl
access-other p outer (nodes.Said m) n = refl
access-other p outer (nodes.Closed k s) n = refl
access-other p outer (nodes.Ended true s) n = refl
access-other p outer (nodes.Ended false s) n = rw n refl

-- the last of entries, as a field access
access_last : (p outer : ℕ) → List Entry → List Entry
access_last p outer es = set es (length es - 1) (access_from p outer (last_entry es))

access-last-other : (p outer : ℕ) (es : List Entry) → access_from p outer (last_entry es) ≡ last_entry es → access_last p outer es ≡ es
unfolding access_last
access-last-other p outer es e = ap (set es (length es - 1)) e ∙ set-get_or es (length es - 1) (nodes.Token 0 0)

access-last-float : (p outer : ℕ) (es : List Entry) → access_last p outer (es ++ nodes.Ended false p ∷ []) ≡ es ++ nodes.Ended false outer ∷ []
unfolding access_last
access-last-float p outer es =
    let e = nodes.Ended false p in
    let same : (p == p) ≡ true = eq-eqb p p refl in
    let moved : access_from p outer (nodes.Ended false p) ≡ nodes.Ended false outer = rw same refl in
    ap (λ (x : Entry). set (es ++ e ∷ []) (length (es ++ e ∷ []) - 1) (access_from p outer x)) (last-is es e)
    ∙ ap (set (es ++ e ∷ []) (length (es ++ e ∷ []) - 1)) moved
    ∙ set_at es e [] (nodes.Ended false outer) (length (es ++ e ∷ []) - 1) (omega (arith, length-append es (e ∷ [])))

-- the entry before that of a node
access-inside :
    (p outer k n : ℕ) (es : List Entry) → n ≡ length es - 1
    → set (es ++ nodes.Closed k outer ∷ []) n (access_from p outer (get_or (es ++ nodes.Closed k outer ∷ []) n (nodes.Token 0 0)))
    ≡ access_last p outer es ++ nodes.Closed k outer ∷ []
unfolding access_last
access-inside p outer k n [] at =
    let e = nodes.Closed k outer in
    ap (λ (m : ℕ). set (e ∷ []) m (access_from p outer (get_or (e ∷ []) m (nodes.Token 0 0)))) at
access-inside p outer k n (x ∷ es) at =
    let e = nodes.Closed k outer in
    let d = nodes.Token 0 0 in
    let within : n < length (x ∷ es) = omega (arith, at) in
    ap (λ (y : Entry). set ((x ∷ es) ++ e ∷ []) n (access_from p outer y)) (get_or_append_left (x ∷ es) (e ∷ []) d n within)
    ∙ set-append_left (x ∷ es) (e ∷ []) n (access_from p outer (get_or (x ∷ es) n d)) within
    ∙ ap (λ (m : ℕ). set (x ∷ es) m (access_from p outer (get_or (x ∷ es) m d)) ++ e ∷ []) at

-- the last entry is that of a node that begins there
extends-node : (p outer k : ℕ) (es : List Entry) → extended_entries p outer (es ++ nodes.Closed k p ∷ []) ≡ access_last p outer es ++ nodes.Closed k outer ∷ []
extends-node p outer k es =
    let e = nodes.Closed k p in
    let d = nodes.Token 0 0 in
    let all = es ++ nodes.Closed k p ∷ [] in
    let one = set all (length all - 1) (nodes.Closed k outer) in
    let same : (p == p) ≡ true = eq-eqb p p refl in
    let both : extended_by p outer (nodes.Closed k p) all ≡ set one (length all - 2) (access_from p outer (get_or one (length all - 2) d)) = rw same refl in
    ap (λ (x : Entry). extended_by p outer x all) (last-is es e)
    ∙ both
    ∙ ap (λ (l : List Entry). set l (length all - 2) (access_from p outer (get_or l (length all - 2) d)))
    (set_at es e [] (nodes.Closed k outer) (length all - 1) (omega (arith, length-append es (e ∷ []))))
    ∙ access-inside p outer k (length all - 2) es (omega (arith, length-append es (e ∷ [])))

extends-split : (p outer : ℕ) (d : Bool) (es : List Entry) → extended_entries p outer (es ++ nodes.Ended d p ∷ []) ≡ es ++ nodes.Ended d outer ∷ []
extends-split p outer d es =
    let e = nodes.Ended d p in
    let same : (p == p) ≡ true = eq-eqb p p refl in
    let one : extended_by p outer (nodes.Ended d p) (es ++ nodes.Ended d p ∷ []) ≡ set (es ++ nodes.Ended d p ∷ []) (length (es ++ nodes.Ended d p ∷ []) - 1) (nodes.Ended d outer) = rw same refl in
    ap (λ (x : Entry). extended_by p outer x (es ++ e ∷ [])) (last-is es e)
    ∙ one
    ∙ set_at es e [] (nodes.Ended d outer) (length (es ++ e ∷ []) - 1) (omega (arith, length-append es (e ∷ [])))

-- a node or a field access, and more trees
passed-more-node : (p k : ℕ) (es : List Entry) (c f : Marked) → 0 < size f → begun_at p (last_entry (es ++ entries p (Node k c f))) ≡ false
passed-more-node p k es c f some =
    let e = nodes.Closed k p in
    let next = suc (size c + p) in
    let before = es ++ entries p c in
    ap (λ (l : List Entry). begun_at p (last_entry l))
    (sym (append_assoc es (entries p c) (e ∷ entries next f)) ∙ sym (append_assoc before (e ∷ []) (entries next f)))
    ∙ passed-some p next (before ++ e ∷ []) f (omega arith) some

passed-more-split : (p : ℕ) (d : Bool) (es : List Entry) (c f : Marked) → 0 < size f → begun_at p (last_entry (es ++ entries p (Split d c f))) ≡ false
passed-more-split p d es c f some =
    let e = nodes.Ended d p in
    let next = suc (size c + p) in
    let before = es ++ entries p c in
    ap (λ (l : List Entry). begun_at p (last_entry l))
    (sym (append_assoc es (entries p c) (e ∷ entries next f)) ∙ sym (append_assoc before (e ∷ []) (entries next f)))
    ∙ passed-some p next (before ++ e ∷ []) f (omega arith) some

-- no tree, after those of the node around
passed-none : (g : Marked) (below : List Marked) → begun_at (length (all_entries (g ∷ below))) (last_entry (all_entries (End ∷ g ∷ below))) ≡ false
passed-none g below =
    let p = length (all_entries (g ∷ below)) in
    passed p p (all_entries (g ∷ below)) End (omega arith) (passed-all p (g ∷ below) (omega arith))

-- a node around the trees of both, and a field access
closes-around : (k : ℕ) (f g : Marked) (below : List Marked) →
    all_entries (f ∷ g ∷ below) ++ nodes.Closed k (length (all_entries below)) ∷ [] ≡ all_entries (Node k (g beside f) End ∷ below)
closes-around k f g below =
    let b = length (all_entries below) in
    ap (λ (l : List Entry). l ++ nodes.Closed k b ∷ []) (sym (all-beside g f below))
    ∙ append_assoc (all_entries below) (entries b (g beside f)) (nodes.Closed k b ∷ [])

ends-around : (d : Bool) (f g : Marked) (below : List Marked) →
    all_entries (f ∷ g ∷ below) ++ nodes.Ended d (length (all_entries below)) ∷ [] ≡ all_entries (Split d (g beside f) End ∷ below)
ends-around d f g below =
    let b = length (all_entries below) in
    ap (λ (l : List Entry). l ++ nodes.Ended d b ∷ []) (sym (all-beside g f below))
    ∙ append_assoc (all_entries below) (entries b (g beside f)) (nodes.Ended d b ∷ [])

other : (f g : Marked) (below : List Marked) → begun_at (length (all_entries (g ∷ below))) (last_entry (all_entries (f ∷ g ∷ below))) ≡ false
    → into g f ≡ Node ERROR (g beside f) End
    → extended_entries (length (all_entries (g ∷ below))) (length (all_entries below)) (all_entries (f ∷ g ∷ below)) ≡ all_entries (into g f ∷ below)
other f g below n e =
    let all = all_entries (f ∷ g ∷ below) in
    extends-other (length (all_entries (g ∷ below))) (length (all_entries below)) (last_entry all) all n
    ∙ closes-around ERROR f g below ∙ ap (λ (t : Marked). all_entries (t ∷ below)) (sym e)

-- children that are not one access by a float
same-children :
    (k : ℕ) (c g : Marked) (below : List Marked)
    → access_from (length (all_entries (g ∷ below))) (length (all_entries below)) (last_entry (all_entries (c ∷ g ∷ below))) ≡ last_entry (all_entries (c ∷ g ∷ below))
    → into_children g c ≡ g beside c
    → access_last (length (all_entries (g ∷ below))) (length (all_entries below)) (all_entries (c ∷ g ∷ below)) ++ nodes.Closed k (length (all_entries below)) ∷ []
    ≡ all_entries (Node k (into_children g c) End ∷ below)
same-children k c g below same e =
    let b = length (all_entries below) in
    ap (λ (l : List Entry). l ++ nodes.Closed k b ∷ []) (access-last-other (length (all_entries (g ∷ below))) b (all_entries (c ∷ g ∷ below)) same)
    ∙ closes-around k c g below ∙ ap (λ (t : Marked). all_entries (Node k t End ∷ below)) (sym e)

-- one tree that the entry leaves as it is
same-last : (p b : ℕ) (es inner : List Entry) (e : Entry) → access_from p b e ≡ e → access_from p b (last_entry (es ++ (inner ++ e ∷ []))) ≡ last_entry (es ++ (inner ++ e ∷ []))
same-last p b es inner e same =
    let is : last_entry (es ++ (inner ++ e ∷ [])) ≡ e = ap last_entry (sym (append_assoc es inner (e ∷ []))) ∙ last-is (es ++ inner) e in
    ap (access_from p b) is ∙ same ∙ sym is

children-extend :
    (k : ℕ) (c g : Marked) (below : List Marked)
    → access_last (length (all_entries (g ∷ below))) (length (all_entries below)) (all_entries (c ∷ g ∷ below)) ++ nodes.Closed k (length (all_entries below)) ∷ []
    ≡ all_entries (Node k (into_children g c) End ∷ below)
children-extend k End g below =
    let p = length (all_entries (g ∷ below)) in
    same-children k End g below (access-other p (length (all_entries below)) _ (passed-none g below)) refl
children-extend k (Leaf j n f) g below =
    let all = all_entries (g ∷ below) in
    same-children k (Leaf j n f) g below
    (access-other (length all) (length (all_entries below)) _ (passed-one (length all) (suc (length all)) all (nodes.Token j n) f (omega arith) refl)) refl
children-extend k (Said m f) g below =
    let all = all_entries (g ∷ below) in
    same-children k (Said m f) g below
    (access-other (length all) (length (all_entries below)) _ (passed-one (length all) (suc (length all)) all (nodes.Said m) f (omega arith) refl)) refl
children-extend k (Node j c End) g below =
    let all = all_entries (g ∷ below) in
    same-children k (Node j c End) g below
    (same-last (length all) (length (all_entries below)) all (entries (length all) c) (nodes.Closed j (length all)) refl) refl
children-extend k (Node j c f) g below =
    let all = all_entries (g ∷ below) in
    same-children k (Node j c f) g below
    (access-other (length all) (length (all_entries below)) _ (passed-more-node (length all) j all c f (omega arith))) refl
children-extend k (Split true c End) g below =
    let all = all_entries (g ∷ below) in
    same-children k (Split true c End) g below
    (same-last (length all) (length (all_entries below)) all (entries (length all) c) (nodes.Ended true (length all)) refl) refl
children-extend k (Split false c End) g below =
    let all = all_entries (g ∷ below) in
    let p = length (all_entries (g ∷ below)) in
    let b = length (all_entries below) in
    let last = nodes.Closed k b ∷ [] in
    ap (λ (l : List Entry). access_last p b l ++ last) (sym (append_assoc all (entries p c) (nodes.Ended false p ∷ [])))
    ∙ ap (λ (l : List Entry). l ++ last) (access-last-float p b (all ++ entries p c) ∙ ends-around false c g below)
    ∙ append_assoc (all_entries below) (entries b (Split false (g beside c) End)) last
children-extend k (Split d c f) g below =
    let all = all_entries (g ∷ below) in
    same-children k (Split d c f) g below
    (access-other (length all) (length (all_entries below)) _ (passed-more-split (length all) d all c f (omega arith))) refl

entries-extend : (f g : Marked) (below : List Marked) →
    extended_entries (length (all_entries (g ∷ below))) (length (all_entries below)) (all_entries (f ∷ g ∷ below)) ≡ all_entries (into g f ∷ below)
entries-extend End g below = other End g below (passed-none g below) refl
entries-extend (Leaf k n f) g below =
    let all = all_entries (g ∷ below) in
    other (Leaf k n f) g below (passed-one (length all) (suc (length all)) all (nodes.Token k n) f (omega arith) refl) refl
entries-extend (Said m f) g below =
    let all = all_entries (g ∷ below) in
    other (Said m f) g below (passed-one (length all) (suc (length all)) all (nodes.Said m) f (omega arith) refl) refl
entries-extend (Node k c End) g below =
    let all = all_entries (g ∷ below) in
    let p = length (all_entries (g ∷ below)) in
    let b = length (all_entries below) in
    ap (extended_entries p b) (sym (append_assoc all (entries p c) (nodes.Closed k p ∷ [])))
    ∙ extends-node p b k (all ++ entries p c) ∙ children-extend k c g below
entries-extend (Node k c f) g below =
    let all = all_entries (g ∷ below) in
    other (Node k c f) g below (passed-more-node (length all) k all c f (omega arith)) refl
entries-extend (Split d c End) g below =
    let all = all_entries (g ∷ below) in
    let p = length (all_entries (g ∷ below)) in
    let b = length (all_entries below) in
    ap (extended_entries p b) (sym (append_assoc all (entries p c) (nodes.Ended d p ∷ [])))
    ∙ extends-split p b d (all ++ entries p c) ∙ ends-around d c g below
entries-extend (Split d c f) g below =
    let all = all_entries (g ∷ below) in
    other (Split d c f) g below (passed-more-split (length all) d all c f (omega arith)) refl

-- where the innermost node begins, once the one inside it is left out
start-of : (g : Marked) (below : List Marked) → get_or (starts (g ∷ below)) (length (starts (g ∷ below)) - 1) 0 ≡ length (all_entries below)
start-of g [] = refl
start-of g (h ∷ below) = last-of (starts (h ∷ below)) (length (all_entries (h ∷ below)))

pub records-extend : (f g : Marked) (below : List Marked) → extended (record_of (f ∷ g ∷ below)) ≡ record_of (into g f ∷ below)
records-extend f g below =
    let b = length (all_entries (g ∷ below)) in
    let es = all_entries (f ∷ g ∷ below) in
    let from = starts (g ∷ below) in
    let left = take (length (starts (f ∷ g ∷ below)) - 1) (starts (f ∷ g ∷ below)) in
    same-kept _ _ _ _
    (ap (λ (n : ℕ). extended_entries n (get_or left (length left - 1) 0) es) (last-of from b)
    ∙ ap (λ (l : List ℕ). extended_entries b (get_or l (length l - 1) 0) es) (front-of from b)
    ∙ ap (λ (n : ℕ). extended_entries b n es) (start-of g below)
    ∙ entries-extend f g below)
    (front-of from b ∙ starts-same g (into g f) below)

-- by the code's entries
last-event : (es : List Event) (d : Event) → 0 < length es → last_entry (map event_of es) ≡ event_of (get_or es (length es - 1) d)
last-event es d some =
    ap (λ (n : ℕ). get_or (map event_of es) (n - 1) (nodes.Token 0 0)) (length-map es event_of)
    ∙ get_or-map event_of es (length es - 1) d (nodes.Token 0 0) (omega (arith, some))

pub moves-node :
    (es : List Event) (d b : Event) (kind : SyntaxKind) (start inner outer before : ℕ) (x : Event)
    → 0 < length es → get_or es (length es - 1) d ≡ events.Close kind start → start ≡ inner → before ≡ length es - 2
    → event_of x ≡ access_from inner outer (event_of (get_or (set es (length es - 1) (events.Close kind outer)) before b))
    → map event_of (set (set es (length es - 1) (events.Close kind outer)) before x) ≡ extended_entries inner outer (map event_of es)
moves-node es d b kind start inner outer before x some is same at to =
    let t = nodes.Token 0 0 in
    let e = nodes.Closed (raw_of kind) outer in
    let ms = map event_of es in
    let n = length es - 2 in
    let one = set es (length es - 1) (events.Close kind outer) in
    let two = set ms (length ms - 1) e in
    let yes : (start == inner) ≡ true = eq-eqb start inner same in
    let both : extended_by inner outer (nodes.Closed (raw_of kind) start) ms ≡ set two (length ms - 2) (access_from inner outer (get_or two (length ms - 2) t)) = rw yes refl in
    let within : length es - 2 < length one = omega (arith, some, length-set es (length es - 1) (events.Close kind outer)) in
    sym
    (ap (λ (y : Entry). extended_by inner outer y ms) (last-event es d some ∙ ap event_of is)
    ∙ both
    ∙ ap (λ (m : ℕ). set (set ms (m - 1) e) (m - 2) (access_from inner outer (get_or (set ms (m - 1) e) (m - 2) t))) (length-map es event_of)
    ∙ ap (λ (l : List Entry). set l n (access_from inner outer (get_or l n t))) (sym (map-set event_of es (length es - 1) (events.Close kind outer)))
    ∙ ap (λ (y : Entry). set (map event_of one) n (access_from inner outer y)) (get_or-map event_of one n b t within)
    ∙ ap (set (map event_of one) n) (sym (to ∙ ap (λ (m : ℕ). access_from inner outer (event_of (get_or one m b))) at))
    ∙ sym (map-set event_of one n x)
    ∙ ap (λ (m : ℕ). map event_of (set one m x)) (sym at))

pub moves-split :
    (es : List Event) (d : Event) (e : Bool) (start inner outer : ℕ) → 0 < length es → get_or es (length es - 1) d ≡ events.Split e start → start ≡ inner
    → map event_of (set es (length es - 1) (events.Split e outer)) ≡ extended_entries inner outer (map event_of es)
moves-split es d e start inner outer some is same =
    let ms = map event_of es in
    let yes : (start == inner) ≡ true = eq-eqb start inner same in
    let one : extended_by inner outer (nodes.Ended e start) ms ≡ set ms (length ms - 1) (nodes.Ended e outer) = rw yes refl in
    sym
    (ap (λ (y : Entry). extended_by inner outer y ms) (last-event es d some ∙ ap event_of is)
    ∙ one
    ∙ ap (λ (m : ℕ). set ms (m - 1) (nodes.Ended e outer)) (length-map es event_of)
    ∙ sym (map-set event_of es (length es - 1) (events.Split e outer)))

-- what the code keeps is what the call makes of the record
extended-is :
    (old : Kept) (es all : List Entry) (opened : List ℕ) (inner outer : ℕ) → ◌≡◌ {A = Kept} (record { entered = es; opened = opened }) (left_out old)
    → inner ≡ innermost old → outer ≡ innermost (left_out old) → all ≡ extended_entries inner outer es
    → ◌≡◌ {A = Kept} (record { entered = all; opened = opened }) (extended old)
extended-is old es all opened inner outer is i o e =
    same-kept _ _ _ _
    (e ∙ ap (λ (n : ℕ). extended_entries n outer es) i ∙ ap (λ (n : ℕ). extended_entries (innermost old) n es) o
    ∙ ap (extended_entries (innermost old) (innermost (left_out old))) (ap (λ (k : Kept). k.entered) is))
    (ap (λ (k : Kept). k.opened) is)

pub extends-last :
    (refused : Bool) (es all : List Entry) (opened : List ℕ) (old now : Option Kept) (inner outer : ℕ)
    → (if refused then None else Some (record { entered = es; opened = opened })) ≡ now → Becomes left_out old now
    → ((kept : Kept) → old ≡ Some kept → inner ≡ innermost kept) → ((kept : Kept) → now ≡ Some kept → outer ≡ innermost kept)
    → all ≡ extended_entries inner outer es
    → Becomes extended old (if refused then None else Some (record { entered = all; opened = opened }))
extends-last true es all opened None now inner outer is left i o e = tt
extends-last true es all opened (Some k) now inner outer is left i o e = tt
extends-last false es all opened None None inner outer is left i o e = absurd (cc)
extends-last false es all opened None (Some m) inner outer is left i o e = absurd left
extends-last false es all opened (Some k) None inner outer is left i o e = absurd (cc)
extends-last false es all opened (Some k) (Some m) inner outer is left i o e =
    let same : ◌≡◌ {A = Kept} (record { entered = es; opened = opened }) m = cc in
    extended-is k es all opened inner outer (same ∙ left) (i k refl) (o m refl ∙ ap innermost left) e

pub extends-record :
    (refused : Bool) (es all : List Entry) (opened : List ℕ) (old now new : Option Kept) (inner outer : ℕ)
    → (if refused then None else Some (record { entered = es; opened = opened })) ≡ now → Becomes left_out old now
    → ((kept : Kept) → old ≡ Some kept → inner ≡ innermost kept) → ((kept : Kept) → now ≡ Some kept → outer ≡ innermost kept)
    → all ++ nodes.Closed ERROR outer ∷ [] ≡ extended_entries inner outer es
    → Becomes (with_entry (nodes.Closed ERROR outer)) (if refused then None else Some (record { entered = all; opened = opened })) new
    → Becomes extended old new
extends-record true es all opened None now None inner outer is left i o e h = tt
extends-record true es all opened (Some k) now None inner outer is left i o e h = tt
extends-record true es all opened old now (Some n) inner outer is left i o e h = absurd h
extends-record false es all opened None None new inner outer is left i o e h = absurd (cc)
extends-record false es all opened None (Some m) new inner outer is left i o e h = absurd left
extends-record false es all opened (Some k) now None inner outer is left i o e h = tt
extends-record false es all opened (Some k) None (Some n) inner outer is left i o e h = absurd (cc)
extends-record false es all opened (Some k) (Some m) (Some n) inner outer is left i o e h =
    let same : ◌≡◌ {A = Kept} (record { entered = es; opened = opened }) m = cc in
    h ∙ extended-is k es (all ++ nodes.Closed ERROR outer ∷ []) opened inner outer (same ∙ left) (i k refl) (o m refl ∙ ap innermost left) e
