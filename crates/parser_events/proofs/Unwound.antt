-- From the last entry to the first, the entries of trees give the steps of those trees.
use Rattle.std.proofs.Common.{◌≡◌, ℕ, zero, suc, ◌+◌, ◌≤◌, ◌<◌, ◌==◌, List, [], ◌∷◌, ◌++◌, length, map, reverse, take, get_or, refl, ap, sym, ◌∙◌, append_assoc, append-nil, length-append, inl, inr, arith}
use Rattle.std.proofs.lemmas.Bool.{cases_Bool, eqb-true, eq-eqb}
use Rattle.std.proofs.lemmas.List.{reverse-append, length-reverse, length-map, length-take-le, map-append, take_more}
use Rattle.parser_input.specs.Kinds.{FIELD_EXPR}
use Rattle.parser_events.specs.Marked.{Marked, End, Leaf, Said, Node, Split, size, walk}
use Rattle.parser_events.specs.Nodes as nodes
use Rattle.parser_events.specs.Nodes.{Entry, entries}
use Rattle.parser_events.specs.Steps.{Step, FloatSplit, Enter, Exit}
use Rattle.parser_events.specs.Unwinding.{Pending, Unwound, begun, passed, unwind}
use Rattle.parser_events.specs.Seen.{event_of}
use Rattle.parser_events.specs.declared.event.Event.{Event}

abbrev pub state : List Pending → List Step → Unwound
state ps laid = record { pending = ps; laid = laid }

abbrev pub node : ℕ → ℕ → Pending
node k b = record { kind = k; start = b }

pub entries-length : (b : ℕ) (f : Marked) → length (entries b f) ≡ size f
entries-length b End = refl
entries-length b (Leaf k n f) = ap suc (entries-length (suc b) f)
entries-length b (Said m f) = ap suc (entries-length (suc b) f)
entries-length b (Node k c f) =
    let long = length-append (entries b c) (nodes.Closed k b ∷ entries (suc (size c + b)) f) in
    omega (arith, long, entries-length b c, entries-length (suc (size c + b)) f)
entries-length b (Split e c f) =
    let long = length-append (entries b c) (nodes.Ended e b ∷ entries (suc (size c + b)) f) in
    omega (arith, long, entries-length b c, entries-length (suc (size c + b)) f)

-- the innermost node that goes on before a place begins there or before it
abbrev pub Begins : ℕ → List Pending → Type 0
Begins b [] = Unit {0}
Begins b (p ∷ ps) = p.start ≤ b

begins-on : (b n : ℕ) (ps : List Pending) → Begins b ps → Begins (suc (n + b)) ps
begins-on b n [] h = tt
begins-on b n (p ∷ ps) h = omega (arith, h)

begins-next : (b : ℕ) (ps : List Pending) → Begins b ps → Begins (suc b) ps
begins-next b [] h = tt
begins-next b (p ∷ ps) h = omega (arith, h)

begins-by : (b n : ℕ) (ps : List Pending) → Begins b ps → Begins (n + b) ps
begins-by b n [] h = tt
begins-by b n (p ∷ ps) h = omega (arith, h)

none-begun : (b : ℕ) (ps : List Pending) (laid : List Step) → Begins b ps → begun (suc b) ps laid ≡ state ps laid
none-begun b [] laid h = refl
none-begun b (p ∷ ps) laid h = elim (cases_Bool (p.start == suc b)) [
  | inl y ↦ absurd (omega (arith, h, eqb-true p.start (suc b) y))
  | inr n ↦ rw n refl
]

-- an entry is passed where no node begins after it
pass-one : (e : Entry) (rest : List Entry) (b : ℕ) (ps : List Pending) (laid : List Step) → length rest ≡ b → Begins b ps → unwind (e ∷ rest) (state ps laid) ≡ unwind rest (passed e (state ps laid))
pass-one e rest b ps laid at h =
    ap (λ (n : ℕ). unwind rest (passed e (begun (suc n) ps laid))) at ∙ ap (λ (s : Unwound). unwind rest (passed e s)) (none-begun b ps laid h)

begun-here : (b c : ℕ) (p : Pending) (ps : List Pending) (laid : List Step) → p.start ≡ b → c ≡ b → begun c (p ∷ ps) laid ≡ begun c ps (Enter p.kind ∷ laid)
begun-here b c p ps laid e d = let same = eq-eqb p.start c (e ∙ sym d) in rw same refl

-- a node that begins where all is passed is entered
enter-one : (rest : List Entry) (b : ℕ) (p : Pending) (ps : List Pending) (laid : List Step) → p.start ≡ b → length rest ≡ b → unwind rest (state (p ∷ ps) laid) ≡ unwind rest (state ps (Enter p.kind ∷ laid))
enter-one [] b p ps laid e at = begun-here b 0 p ps laid e at
enter-one (x ∷ rest) b p ps laid e at = ap (λ (s : Unwound). unwind rest (passed x s)) (begun-here b (suc (length rest)) p ps laid e at)

reverse-parts : (xs : List Entry) (x : Entry) (ys rest : List Entry) → reverse (xs ++ x ∷ ys) ++ rest ≡ reverse ys ++ (x ∷ (reverse xs ++ rest))
reverse-parts xs x ys rest =
    ap (λ (l : List Entry). l ++ rest) (reverse-append xs (x ∷ ys) ∙ ap (λ (l : List Entry). l ++ reverse xs) (reverse-append (x ∷ []) ys))
    ∙ append_assoc (reverse ys ++ x ∷ []) (reverse xs) rest
    ∙ append_assoc (reverse ys) (x ∷ []) (reverse xs ++ rest)

reverse-first : (x : Entry) (ys rest : List Entry) → reverse (x ∷ ys) ++ rest ≡ reverse ys ++ (x ∷ rest)
reverse-first x ys rest = reverse-parts [] x ys rest

inner-length : (b : ℕ) (c : Marked) (rest : List Entry) → length rest ≡ b → length (reverse (entries b c) ++ rest) ≡ size c + b
inner-length b c rest at = omega (arith, length-append (reverse (entries b c)) rest, length-reverse (entries b c), entries-length b c, at)

walk-append : (c f : List Step) (x : Step) (laid : List Step) → c ++ (x ∷ (f ++ laid)) ≡ (c ++ x ∷ f) ++ laid
walk-append c f x laid = sym (append_assoc c (x ∷ f) laid)

pub unwind-trees : (f : Marked) (b : ℕ) (rest : List Entry) (ps : List Pending) (laid : List Step) → length rest ≡ b → Begins b ps →
    unwind (reverse (entries b f) ++ rest) (state ps laid) ≡ unwind rest (state ps (walk f ++ laid))
unfolding walk
unwind-trees End b rest ps laid at h = refl
unwind-trees (Leaf k n f) b rest ps laid at h =
    ap (λ (l : List Entry). unwind l (state ps laid)) (reverse-first (nodes.Token k n) (entries (suc b) f) rest)
    ∙ unwind-trees f (suc b) (nodes.Token k n ∷ rest) ps laid (ap suc at) (begins-next b ps h)
    ∙ pass-one (nodes.Token k n) rest b ps (walk f ++ laid) at h
unwind-trees (Said m f) b rest ps laid at h =
    ap (λ (l : List Entry). unwind l (state ps laid)) (reverse-first (nodes.Said m) (entries (suc b) f) rest)
    ∙ unwind-trees f (suc b) (nodes.Said m ∷ rest) ps laid (ap suc at) (begins-next b ps h)
    ∙ pass-one (nodes.Said m) rest b ps (walk f ++ laid) at h
unwind-trees (Node k c f) b rest ps laid at h =
    let inner = reverse (entries b c) ++ rest in
    let long = inner-length b c rest at in
    ap (λ (l : List Entry). unwind l (state ps laid)) (reverse-parts (entries b c) (nodes.Closed k b) (entries (suc (size c + b)) f) rest)
    ∙ unwind-trees f (suc (size c + b)) (nodes.Closed k b ∷ inner) ps laid (ap suc long) (begins-on b (size c) ps h)
    ∙ pass-one (nodes.Closed k b) inner (size c + b) ps (walk f ++ laid) long (begins-by b (size c) ps h)
    ∙ unwind-trees c b rest (node k b ∷ ps) (Exit ∷ (walk f ++ laid)) at (omega arith)
    ∙ enter-one rest b (node k b) ps (walk c ++ (Exit ∷ (walk f ++ laid))) refl at
    ∙ ap (λ (l : List Step). unwind rest (state ps (Enter k ∷ l))) (walk-append (walk c) (walk f) Exit laid)
unwind-trees (Split e c f) b rest ps laid at h =
    let inner = reverse (entries b c) ++ rest in
    let long = inner-length b c rest at in
    ap (λ (l : List Entry). unwind l (state ps laid)) (reverse-parts (entries b c) (nodes.Ended e b) (entries (suc (size c + b)) f) rest)
    ∙ unwind-trees f (suc (size c + b)) (nodes.Ended e b ∷ inner) ps laid (ap suc long) (begins-on b (size c) ps h)
    ∙ pass-one (nodes.Ended e b) inner (size c + b) ps (walk f ++ laid) long (begins-by b (size c) ps h)
    ∙ unwind-trees c b rest (node FIELD_EXPR b ∷ ps) (FloatSplit e ∷ (walk f ++ laid)) at (omega arith)
    ∙ enter-one rest b (node FIELD_EXPR b) ps (walk c ++ (FloatSplit e ∷ (walk f ++ laid))) refl at
    ∙ ap (λ (l : List Step). unwind rest (state ps (Enter FIELD_EXPR ∷ l))) (walk-append (walk c) (walk f) (FloatSplit e) laid)

-- The record of trees is unwound to their steps.
pub unwind-all : (f : Marked) → unwind (reverse (entries 0 f)) (state [] []) ≡ state [] (walk f)
unwind-all f =
    ap (λ (l : List Entry). unwind l (state [] [])) (sym (append-nil (reverse (entries 0 f))))
    ∙ unwind-trees f 0 [] [] [] refl tt
    ∙ ap (λ (l : List Step). state [] l) (append-nil (walk f))

-- one entry of the code's record
pub unwind-one : (es : List Event) (n : ℕ) (e : Event) (s : Unwound) → n < length es → e ≡ get_or es n e →
    unwind (reverse (map event_of (take (n + 1) es))) s ≡ unwind (reverse (map event_of (take n es))) (passed (event_of e) (begun (n + 1) s.pending s.laid))
unwind-one es n e s within is =
    let more : take (n + 1) es ≡ take n es ++ e ∷ [] = take_more es n e within ∙ ap (λ (x : Event). take n es ++ x ∷ []) (sym is) in
    let front = map event_of (take n es) in
    let long : length (reverse front) + 1 ≡ n + 1 = omega (arith, length-reverse front, length-map (take n es) event_of, length-take-le n es (omega (arith, within))) in
    let parts : reverse (map event_of (take (n + 1) es)) ≡ event_of e ∷ reverse front =
    ap (λ (l : List Event). reverse (map event_of l)) more ∙ ap (λ (l : List Entry). reverse l) (map-append event_of (take n es) (e ∷ [])) ∙ reverse-append front (event_of e ∷ []) in
    ap (λ (l : List Entry). unwind l s) parts
    ∙ ap (λ (k : ℕ). unwind (reverse front) (passed (event_of e) (begun k s.pending s.laid))) (let z : suc (length (reverse front)) ≡ n + 1 = omega (arith, long) in z)

-- where all entries are passed
pub unwind-end : (es : List Event) (n : ℕ) (s x : Unwound) → n ≤ 0 → unwind (reverse (map event_of (take n es))) s ≡ x → begun 0 s.pending s.laid ≡ x
unwind-end es zero s x end h = h
unwind-end es (suc n) s x end h = absurd (omega (arith, end))
