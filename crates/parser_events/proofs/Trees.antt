-- What a call makes of a record is the record of what it makes of the open nodes.
use Rattle.std.proofs.Common.{◌≡◌, ℕ, suc, ◌+◌, ◌-◌, Bool, List, [], ◌∷◌, ◌++◌, length, take, get_or, refl, ap, sym, ◌∙◌, append_assoc, append-nil, length-append, arith}
use Rattle.std.proofs.lemmas.List.{get_or_at, take_at}
use Rattle.parser_events.specs.Marked.{Marked, End, Leaf, Said, Node, Split, ◌beside◌, size}
use Rattle.parser_events.specs.Nodes as nodes
use Rattle.parser_events.specs.Nodes.{Entry, Kept, entries, all_entries, starts, record_of, with_entry, opened_at, opened_here, left_out, closed_as, split_as}
use Rattle.parser_events.specs.Stack.{total_size}
use Rattle.parser_events.proofs.Unwound.{entries-length}

-- entries of the same trees at an equal place
at-place : (a b : ℕ) (f : Marked) → a ≡ b → entries a f ≡ entries b f
at-place a b f e = ap (λ (n : ℕ). entries n f) e

pub entries-beside : (b : ℕ) (f g : Marked) → entries b (f beside g) ≡ entries b f ++ entries (size f + b) g
entries-beside b End g = at-place b (0 + b) g (omega arith)
entries-beside b (Leaf k n f) g =
    ap (λ (l : List Entry). nodes.Token k n ∷ l) (entries-beside (suc b) f g ∙ ap (λ (l : List Entry). entries (suc b) f ++ l) (at-place (size f + suc b) (suc (size f) + b) g (omega arith)))
entries-beside b (Said m f) g =
    ap (λ (l : List Entry). nodes.Said m ∷ l) (entries-beside (suc b) f g ∙ ap (λ (l : List Entry). entries (suc b) f ++ l) (at-place (size f + suc b) (suc (size f) + b) g (omega arith)))
entries-beside b (Node k c f) g =
    let next = suc (size c + b) in
    ap (λ (l : List Entry). entries b c ++ nodes.Closed k b ∷ l)
    (entries-beside next f g ∙ ap (λ (l : List Entry). entries next f ++ l) (at-place (size f + next) (suc (size c + size f) + b) g (omega arith)))
    ∙ sym (append_assoc (entries b c) (nodes.Closed k b ∷ entries next f) (entries (suc (size c + size f) + b) g))
entries-beside b (Split e c f) g =
    let next = suc (size c + b) in
    ap (λ (l : List Entry). entries b c ++ nodes.Ended e b ∷ l)
    (entries-beside next f g ∙ ap (λ (l : List Entry). entries next f ++ l) (at-place (size f + next) (suc (size c + size f) + b) g (omega arith)))
    ∙ sym (append_assoc (entries b c) (nodes.Ended e b ∷ entries next f) (entries (suc (size c + size f) + b) g))

-- where nodes begin does not depend on what the innermost one has
pub starts-same : (f g : Marked) (below : List Marked) → starts (f ∷ below) ≡ starts (g ∷ below)
starts-same f g [] = refl
starts-same f g (h ∷ below) = refl

pub all-length : (f : Marked) (below : List Marked) → length (all_entries (f ∷ below)) ≡ size f + length (all_entries below)
all-length f below =
    omega (arith, length-append (all_entries below) (entries (length (all_entries below)) f), entries-length (length (all_entries below)) f)

-- there is one entry for each leaf, message and node
pub total-length : (trees : List Marked) → length (all_entries trees) ≡ total_size trees
total-length [] = refl
total-length (f ∷ below) = all-length f below ∙ ap (λ (n : ℕ). size f + n) (total-length below)

-- each open node has one beginning
pub starts-length : (f : Marked) (below : List Marked) → length (starts (f ∷ below)) ≡ length below
starts-length f [] = refl
starts-length f (g ∷ below) = omega (arith, length-append (starts (g ∷ below)) (length (all_entries (g ∷ below)) ∷ []), starts-length g below)

-- trees after those of the innermost node stand at the end of the record
pub all-beside : (f g : Marked) (below : List Marked) → all_entries ((f beside g) ∷ below) ≡ all_entries (f ∷ below) ++ entries (length (all_entries (f ∷ below))) g
all-beside f g below =
    let b = length (all_entries below) in
    ap (λ (l : List Entry). all_entries below ++ l) (entries-beside b f g)
    ∙ sym (append_assoc (all_entries below) (entries b f) (entries (size f + b) g))
    ∙ ap (λ (l : List Entry). all_entries (f ∷ below) ++ l) (at-place (size f + b) (length (all_entries (f ∷ below))) g (sym (all-length f below)))

pub last-of : (xs : List ℕ) (x : ℕ) → get_or (xs ++ x ∷ []) (length (xs ++ x ∷ []) - 1) 0 ≡ x
last-of xs x = get_or_at xs x [] 0 (length (xs ++ x ∷ []) - 1) (omega (arith, length-append xs (x ∷ [])))

pub front-of : (xs : List ℕ) (x : ℕ) → take (length (xs ++ x ∷ []) - 1) (xs ++ x ∷ []) ≡ xs
front-of xs x = take_at xs (x ∷ []) (length (xs ++ x ∷ []) - 1) (omega (arith, length-append xs (x ∷ [])))

pub same-kept : (e d : List Entry) (o p : List ℕ) → e ≡ d → o ≡ p → ◌≡◌ {A = Kept} (record { entered = e; opened = o }) (record { entered = d; opened = p })
same-kept e d o p h k =
    rw (h, k) refl

pub records-tree : (e : Entry) (tree f : Marked) (below : List Marked) → ((b : ℕ) → entries b tree ≡ e ∷ []) → with_entry e (record_of (f ∷ below)) ≡ record_of ((f beside tree) ∷ below)
records-tree e tree f below one =
    same-kept _ _ _ _
    (ap (λ (l : List Entry). all_entries (f ∷ below) ++ l) (sym (one (length (all_entries (f ∷ below))))) ∙ sym (all-beside f tree below))
    (starts-same f (f beside tree) below)

pub records-start : (f : Marked) (below : List Marked) → opened_here (record_of (f ∷ below)) ≡ record_of (End ∷ f ∷ below)
records-start f below = same-kept _ _ _ _ (sym (append-nil (all_entries (f ∷ below)))) refl

pub records-close : (kind : ℕ) (f g : Marked) (below : List Marked) → closed_as kind (record_of (f ∷ g ∷ below)) ≡ record_of ((g beside Node kind f End) ∷ below)
records-close kind f g below =
    let all = all_entries (g ∷ below) in
    let inner = entries (length all) f in
    same-kept _ _ _ _
    (ap (λ (s : ℕ). (all ++ inner) ++ nodes.Closed kind s ∷ []) (last-of (starts (g ∷ below)) (length all))
    ∙ append_assoc all inner (nodes.Closed kind (length all) ∷ [])
    ∙ sym (all-beside g (Node kind f End) below))
    (front-of (starts (g ∷ below)) (length all) ∙ starts-same g (g beside Node kind f End) below)

pub records-leave : (f g : Marked) (below : List Marked) → left_out (record_of (f ∷ g ∷ below)) ≡ record_of ((g beside f) ∷ below)
records-leave f g below =
    same-kept _ _ _ _ (sym (all-beside g f below)) (front-of (starts (g ∷ below)) (length (all_entries (g ∷ below))) ∙ starts-same g (g beside f) below)

pub records-split : (e : Bool) (f g : Marked) (below : List Marked) → split_as e (record_of (f ∷ g ∷ below)) ≡ record_of (Split e f End ∷ g ∷ below)
records-split e f g below =
    let all = all_entries (g ∷ below) in
    let inner = entries (length all) f in
    same-kept _ _ _ _
    (ap (λ (s : ℕ). (all ++ inner) ++ nodes.Ended e s ∷ []) (last-of (starts (g ∷ below)) (length all)) ∙ append_assoc all inner (nodes.Ended e (length all) ∷ []))
    refl

pub records-wrap : (place : ℕ) (front tree : Marked) (below : List Marked) → place ≡ length (all_entries (front ∷ below)) → opened_at place (record_of ((front beside tree) ∷ below)) ≡ record_of (tree ∷ front ∷ below)
records-wrap place front tree below at =
    same-kept _ _ _ _ (all-beside front tree below)
    (ap (λ (l : List ℕ). l ++ place ∷ []) (starts-same (front beside tree) front below) ∙ ap (λ (s : ℕ). starts (front ∷ below) ++ s ∷ []) at)
