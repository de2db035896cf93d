-- Rows of a walk, an element after another.
use Rattle.std.proofs.Common.{◌≡◌, ℕ, ◌+◌, ◌-◌, ◌*◌, ◌^◌, ◌<◌, min, subst, List, [], ◌∷◌, ◌++◌, length, refl, sym, ap, ◌∙◌, arith, append_assoc, append-nil, length-append}
use Rattle.rowan_green.specs.Forest.{Tree, forest_count, forest_text}
use Rattle.rowan_green.specs.Term.{Term, children_of, forest_of, forest_of-terms, kind_of, term_count, term_len, text_of, texts_of}
use Rattle.rowan_green.specs.declared.utility_types.NodeOrToken.TheVariants.{Node, Token}
use Rattle.document_rows.specs.Rows.{element_row, element_rows, rows_from, shown}
use Rattle.document_rows.specs.Pending.{Enters, pending, total_len, weight}
use Rattle.document_rows.specs.declared.rows.ElementRow.{ElementRow}

-- ---- what is left, with one level more

pub total-more : (ls : List (List Term)) (es : List Term) → total_len (ls ++ es ∷ []) ≡ length (texts_of es) + total_len ls
total-more [] es = refl
total-more (l ∷ ls) es = omega (arith, total-more ls es)

pub weight-more : (ls : List (List Term)) (es : List Term) → weight (ls ++ es ∷ []) ≡ (1 + 2 * forest_count (forest_of es)) + weight ls
weight-more [] es = refl
weight-more (l ∷ ls) es = omega (arith, weight-more ls es)

pub pending-more :
    (depth start : ℕ) (ls : List (List Term)) (es : List Term)
    → pending depth start (ls ++ es ∷ []) ≡ rows_from (depth + length ls) start (forest_of es) ++ pending depth (start + length (texts_of es)) ls
pending-more depth start [] es =
    let d : depth ≡ depth + 0 = omega arith in
    let s : start + 0 ≡ start = omega arith in
    ap (λ n. rows_from depth n (forest_of es)) s
    ∙ ap (λ n. rows_from n start (forest_of es)) d
    ∙ sym (append-nil (rows_from (depth + 0) start (forest_of es)))
pending-more depth start (l ∷ ls) es =
    let d : depth + 1 + length ls ≡ depth + length (l ∷ ls) = omega arith in
    let s : start + total_len (ls ++ es ∷ []) ≡ start + length (texts_of es) + total_len ls = omega (arith, total-more ls es) in
    let inner = pending (depth + 1) (start + length (texts_of es)) ls in
    ap (λ (front : List ElementRow). front ++ rows_from depth (start + total_len (ls ++ es ∷ [])) (forest_of l)) (pending-more (depth + 1) start ls es)
    ∙ ap (λ n. (rows_from (depth + 1 + length ls) start (forest_of es) ++ inner) ++ rows_from depth n (forest_of l)) s
    ∙ append_assoc (rows_from (depth + 1 + length ls) start (forest_of es)) inner (rows_from depth (start + length (texts_of es) + total_len ls) (forest_of l))
    ∙ ap (λ n. rows_from n start (forest_of es) ++ (inner ++ rows_from depth (start + length (texts_of es) + total_len ls) (forest_of l))) d

-- ---- an element after another

text-cons : (e : Term) (es : List Term) → texts_of (e ∷ es) ≡ text_of e ++ texts_of es
text-cons (Node t) es = refl
text-cons (Token l) es = refl

pub len-cons : (e : Term) (es : List Term) → length (texts_of (e ∷ es)) ≡ term_len e + length (texts_of es)
len-cons e es = ap length (text-cons e es) ∙ length-append (text_of e) (texts_of es)

count-cons : (e : Term) (es : List Term) → forest_count (forest_of (e ∷ es)) ≡ term_count e + forest_count (forest_of es)
count-cons (Node t) es = refl
count-cons (Token l) es = refl

count-children : (t : Tree) → forest_count (forest_of (children_of t)) ≡ forest_count t.forest
count-children t = ap forest_count (forest_of-terms t.forest)

len-children : (t : Tree) → length (texts_of (children_of t)) ≡ length (forest_text t.forest)
len-children t = ap (λ f. length (forest_text f)) (forest_of-terms t.forest)

-- What was entered: its row, and what is left after it.
pub enters-rows :
    (depth start next : ℕ) (ls new : List (List Term)) (e : Term) (es : List Term)
    → Enters e start (ls ++ es ∷ []) new next
    → pending depth start (ls ++ (e ∷ es) ∷ []) ≡ element_row (kind_of e) (depth + length ls) start (start + term_len e) ∷ pending depth next new
enters-rows depth start next ls new (Node t) es is =
    let n = length (forest_text t.forest) in
    let rest = pending depth (start + n + length (texts_of es)) ls in
    let own = element_row t.kind (depth + length ls) start (start + n) in
    let inside = rows_from (depth + length ls + 1) start t.forest in
    let beside = rows_from (depth + length ls) (start + n) (forest_of es) in
    let moved : start + length (texts_of (Node t ∷ es)) ≡ start + n + length (texts_of es) = omega (arith, len-cons (Node t) es) in
    let deeper : depth + length (ls ++ es ∷ []) ≡ depth + length ls + 1 = omega (arith, length-append ls (es ∷ [])) in
    let after : pending depth start ((ls ++ es ∷ []) ++ children_of t ∷ []) ≡ inside ++ (beside ++ rest) =
    pending-more depth start (ls ++ es ∷ []) (children_of t)
    ∙ ap (λ f. rows_from (depth + length (ls ++ es ∷ [])) start f ++ pending depth (start + length (texts_of (children_of t))) (ls ++ es ∷ [])) (forest_of-terms t.forest)
    ∙ ap (λ d. rows_from d start t.forest ++ pending depth (start + length (texts_of (children_of t))) (ls ++ es ∷ [])) deeper
    ∙ ap (λ k. inside ++ pending depth (start + k) (ls ++ es ∷ [])) (len-children t)
    ∙ ap (λ (rows : List ElementRow). inside ++ rows) (pending-more depth (start + n) ls es) in
    pending-more depth start ls (Node t ∷ es)
    ∙ ap (λ k. (own ∷ (inside ++ beside)) ++ pending depth k ls) moved
    ∙ ap (λ (rows : List ElementRow). own ∷ rows) (append_assoc inside beside rest ∙ sym after ∙ ap (λ s. pending depth s ((ls ++ es ∷ []) ++ children_of t ∷ [])) (sym is.1) ∙ ap (pending depth next) (sym is.0))
enters-rows depth start next ls new (Token l) es is =
    let n = length l.text in
    let own = element_row l.kind (depth + length ls) start (start + n) in
    let beside = rows_from (depth + length ls) (start + n) (forest_of es) in
    let moved : start + length (texts_of (Token l ∷ es)) ≡ start + n + length (texts_of es) = omega (arith, len-cons (Token l) es) in
    pending-more depth start ls (Token l ∷ es)
    ∙ ap (λ k. (own ∷ beside) ++ pending depth k ls) moved
    ∙ ap (λ (rows : List ElementRow). own ∷ rows) (sym (pending-more depth (start + n) ls es) ∙ ap (λ s. pending depth s (ls ++ es ∷ [])) (sym is.1) ∙ ap (pending depth next) (sym is.0))

-- Its bytes are passed, or are left in what was entered.
pub enters-length :
    (start next : ℕ) (ls new : List (List Term)) (e : Term) (es : List Term)
    → Enters e start (ls ++ es ∷ []) new next → next + total_len new ≡ start + total_len (ls ++ (e ∷ es) ∷ [])
enters-length start next ls new (Node t) es is =
    omega (arith, is.1, ap total_len is.0, total-more (ls ++ es ∷ []) (children_of t), len-children t, total-more ls es, total-more ls (Node t ∷ es), len-cons (Node t) es)
enters-length start next ls new (Token l) es is =
    omega (arith, is.1, ap total_len is.0, total-more ls es, total-more ls (Token l ∷ es), len-cons (Token l) es)

-- Less is left.
pub enters-weight :
    (start next : ℕ) (ls new : List (List Term)) (e : Term) (es : List Term)
    → Enters e start (ls ++ es ∷ []) new next → weight new < weight (ls ++ (e ∷ es) ∷ [])
enters-weight start next ls new (Node t) es is =
    omega (arith, ap weight is.0, weight-more (ls ++ es ∷ []) (children_of t), count-children t, weight-more ls es, weight-more ls (Node t ∷ es), count-cons (Node t) es)
enters-weight start next ls new (Token l) es is =
    omega (arith, ap weight is.0, weight-more ls es, weight-more ls (Token l ∷ es), count-cons (Token l) es)

-- ---- a whole tree

pub root-len :
    (t : Tree) (es : List Term) (old new : List (List Term)) → old ≡ [] → new ≡ old ++ es ∷ [] → es ≡ children_of t
    → total_len new ≡ length (forest_text t.forest)
root-len t es old new none pushed are =
    omega (arith, ap total_len (pushed ∙ ap (λ (ls : List (List Term)). ls ++ es ∷ []) none), ap (λ (xs : List Term). length (texts_of xs)) are, len-children t)

pub root-rows :
    (t : Tree) (es : List Term) (old new : List (List Term)) (rows before first : List ElementRow) (row : ElementRow)
    → old ≡ [] → new ≡ old ++ es ∷ [] → es ≡ children_of t → before ≡ [] → first ≡ before ++ row ∷ []
    → row ≡ element_row t.kind 0 0 (length (forest_text t.forest)) → rows ≡ first ++ pending 1 0 new → rows ≡ element_rows t
root-rows t es old new rows before first row none pushed are empty added is all =
    let begun = added ∙ ap (λ (front : List ElementRow). front ++ row ∷ []) empty ∙ ap (λ (r : ElementRow). r ∷ []) is in
    all
    ∙ ap (λ (front : List ElementRow). front ++ pending 1 0 new) begun
    ∙ ap (λ (levels : List (List Term)). element_row t.kind 0 0 (length (forest_text t.forest)) ∷ pending 1 0 levels)
    (pushed ∙ ap (λ (ls : List (List Term)). ls ++ es ∷ []) none ∙ ap (λ (xs : List Term). xs ∷ []) are)
    ∙ ap (λ f. element_row t.kind 0 0 (length (forest_text t.forest)) ∷ rows_from 1 0 f) (forest_of-terms t.forest)

-- ---- a walk, an element after another

row-of : ℕ → ℕ → ℕ → ℕ → ElementRow
row-of kind depth start end = record { kind = kind; depth = depth; start = start; end = end }

with-depth : (kind start end d d' : ℕ) → d ≡ d' → row-of kind d start end ≡ row-of kind d' start end
with-depth kind start end d d' same = ap (λ n. row-of kind n start end) same

-- an element was met
pub walks-on :
    (rows rows' : List ElementRow) (row : ElementRow) (depth start next : ℕ) (old inner put new : List (List Term)) (es rest : List Term) (e : Term) (all : List ElementRow)
    → old ≡ inner ++ es ∷ [] → es ≡ e ∷ rest → put ≡ inner ++ rest ∷ [] → Enters e start put new next
    → rows' ≡ rows ++ row ∷ [] → row ≡ element_row (kind_of e) depth start (start + term_len e) → shown depth ≡ shown (1 + length inner)
    → rows ++ pending 1 start old ≡ all → rows' ++ pending 1 next new ≡ all
unfolding row-of
walks-on rows rows' row depth start next old inner put new es rest e all popped first pushed entered added is deep so-far =
    let step = enters-rows 1 start next inner new e rest (subst (λ (ls : List (List Term)). Enters e start ls new next) pushed entered) in
    let own : row ≡ element_row (kind_of e) (1 + length inner) start (start + term_len e) =
    is ∙ with-depth (kind_of e) start (start + term_len e) (shown depth) (shown (1 + length inner)) deep in
    let whole : old ≡ inner ++ (e ∷ rest) ∷ [] = popped ∙ ap (λ (xs : List Term). inner ++ xs ∷ []) first in
    ap (λ (front : List ElementRow). front ++ pending 1 next new) added
    ∙ append_assoc rows (row ∷ []) (pending 1 next new)
    ∙ ap (λ (r : ElementRow). rows ++ (r ∷ pending 1 next new)) own
    ∙ ap (λ (more : List ElementRow). rows ++ more) (sym step ∙ ap (pending 1 start) (sym whole))
    ∙ so-far

-- a node has no more children
pub walks-out :
    (rows : List ElementRow) (start : ℕ) (old inner : List (List Term)) (es : List Term) (all : List ElementRow)
    → old ≡ inner ++ es ∷ [] → es ≡ [] → rows ++ pending 1 start old ≡ all → rows ++ pending 1 start inner ≡ all
walks-out rows start old inner es all popped none so-far =
    let whole : old ≡ inner ++ [] ∷ [] = popped ∙ ap (λ (xs : List Term). inner ++ xs ∷ []) none in
    let same : start + 0 ≡ start = omega arith in
    ap (λ n. rows ++ pending 1 n inner) (sym same)
    ∙ ap (λ (more : List ElementRow). rows ++ more) (sym (pending-more 1 start inner []) ∙ ap (pending 1 start) (sym whole))
    ∙ so-far

pub out-length : (old inner : List (List Term)) (es : List Term) → old ≡ inner ++ es ∷ [] → es ≡ [] → total_len old ≡ total_len inner
out-length old inner es popped none =
    omega (arith, ap total_len popped, total-more inner es, ap (λ (xs : List Term). length (texts_of xs)) none)

pub out-weight : (old inner : List (List Term)) (es : List Term) → old ≡ inner ++ es ∷ [] → weight inner < weight old
out-weight old inner es popped = omega (arith, ap weight popped, weight-more inner es)

pub on-length :
    (start next : ℕ) (old inner put new : List (List Term)) (es rest : List Term) (e : Term)
    → old ≡ inner ++ es ∷ [] → es ≡ e ∷ rest → put ≡ inner ++ rest ∷ [] → Enters e start put new next → next + total_len new ≡ start + total_len old
on-length start next old inner put new es rest e popped first pushed entered =
    enters-length start next inner new e rest (subst (λ (ls : List (List Term)). Enters e start ls new next) pushed entered)
    ∙ ap (λ (ls : List (List Term)). start + total_len ls) (sym (popped ∙ ap (λ (xs : List Term). inner ++ xs ∷ []) first))

pub on-weight :
    (start next : ℕ) (old inner put new : List (List Term)) (es rest : List Term) (e : Term)
    → old ≡ inner ++ es ∷ [] → es ≡ e ∷ rest → put ≡ inner ++ rest ∷ [] → Enters e start put new next → weight new < weight old
on-weight start next old inner put new es rest e popped first pushed entered =
    subst (λ n. weight new < n) (ap weight (sym (popped ∙ ap (λ (xs : List Term). inner ++ xs ∷ []) first)))
    (enters-weight start next inner new e rest (subst (λ (ls : List (List Term)). Enters e start ls new next) pushed entered))

-- the first element's length fits
pub first-fits :
    (start : ℕ) (old inner : List (List Term)) (es rest : List Term) (e : Term) (limit : ℕ)
    → old ≡ inner ++ es ∷ [] → es ≡ e ∷ rest → start + total_len old < limit → start + term_len e < limit
first-fits start old inner es rest e limit popped first fits =
    omega (arith, fits, ap total_len popped, total-more inner es, ap (λ (xs : List Term). length (texts_of xs)) first, len-cons e rest)

pub shown-depth : (n depth : ℕ) → depth ≡ min (n + 1) (2 ^ 64 - 1) → shown depth ≡ shown (1 + n)
shown-depth n depth is = omega (arith, is)
