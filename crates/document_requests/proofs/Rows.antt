-- Lines of elements, one by one.
use Rattle.std.proofs.Common.{rules, ◌≡◌, ℕ, ◌+◌, ◌<◌, List, [], ◌∷◌, ◌++◌, length, refl, sym, ap, ◌∙◌, arith, append_assoc, append-nil, length-append, map, String, Global, string_bytes}
use Rattle.std.proofs.lemmas.List.{map-append}
use Rattle.std.specs.Prelude.{codes}
use Rattle.rowan_green.specs.Forest.{Tree, forest_text, forest_count}
use Rattle.rowan_green.specs.Term.{Term, forest_of, kind_of, term_len, term_count, text_of, texts_of, children_of, forest_of-terms}
use Rattle.rowan_green.specs.declared.utility_types.NodeOrToken.TheVariants.{Node, Token}
use Rattle.std.specs.Fmt.{decimal}
use Rattle.serde_json.specs.Data.{Data, string, item, no_items}
use Rattle.serde_json.specs.View.{view, items_view}
use Rattle.serde_json.specs.declared.value.Value.{Value, String as ValueString, the_lemmas}
use Rattle.document_requests.specs.Lines.{kind_name, line_of, lines_from}

-- the lines of elements are those of the first, and then those of the others, which start where it ends
lines-cons :
    (margin : List ℕ) (start : ℕ) (e : Term) (es : List Term)
    → lines_from margin start (forest_of (e ∷ es)) ≡ lines_from margin start (forest_of (e ∷ [])) ++ lines_from margin (start + term_len e) (forest_of es)
lines-cons margin start (Node t) es =
    ap (λ ls. line_of margin t.kind start (start + length (forest_text t.forest)) ∷ ls)
    (ap (λ front. front ++ lines_from margin (start + length (forest_text t.forest)) (forest_of es)) (sym (append-nil (lines_from (margin ++ codes "  ") start t.forest))))
lines-cons margin start (Token l) es = refl

text-cons : (e : Term) (es : List Term) → texts_of (e ∷ es) ≡ text_of e ++ texts_of es
text-cons (Node t) es = refl
text-cons (Token l) es = refl

-- an element that has no children is one line
pub leaf-line : (margin : List ℕ) (start : ℕ) (e : Term) (l : _) → e ≡ Token l → line_of margin (kind_of e) start (start + term_len e) ∷ [] ≡ lines_from margin start (forest_of (e ∷ []))
leaf-line margin start e l is = rw is refl

-- a node is its line, and those of its children
pub node-lines :
    (margin inner : List ℕ) (start : ℕ) (e : Term) (t : Tree) → e ≡ Node t → inner ≡ margin ++ codes "  "
    → line_of margin (kind_of e) start (start + term_len e) ∷ lines_from inner start (forest_of (children_of t)) ≡ lines_from margin start (forest_of (e ∷ []))
node-lines margin inner start e t is further =
    rw (is, further)
    (ap (λ ls. line_of margin t.kind start (start + length (forest_text t.forest)) ∷ ls)
    (ap (lines_from (margin ++ codes "  ") start) (forest_of-terms t.forest) ∙ sym (append-nil (lines_from (margin ++ codes "  ") start t.forest))))

-- a line more, and lines after it
pub after-line :
    (old new : List (String Global)) (l : String Global) (line : List ℕ) (rest all : List (List ℕ))
    → new ≡ old ++ l ∷ [] → string_bytes l ≡ line → line ∷ rest ≡ all
    → map string_bytes new ++ rest ≡ map string_bytes old ++ all
after-line old new l line rest all pushed is whole =
    ap (λ ls. map string_bytes ls ++ rest) pushed
    ∙ ap (λ ls. ls ++ rest) (map-append string_bytes old (l ∷ []))
    ∙ append_assoc (map string_bytes old) (string_bytes l ∷ []) rest
    ∙ ap (λ front. map string_bytes old ++ front ∷ rest) is
    ∙ ap (λ ls. map string_bytes old ++ ls) whole

-- a child more was listed
pub next-lines :
    (inner : List ℕ) (place next : ℕ) (e : Term) (old new : List Term) (before after all : List (List ℕ))
    → old ≡ e ∷ new → next ≡ place + term_len e
    → after ≡ before ++ lines_from inner place (forest_of (e ∷ []))
    → before ++ lines_from inner place (forest_of old) ≡ all
    → after ++ lines_from inner next (forest_of new) ≡ all
next-lines inner place next e old new before after all first moved more so-far =
    rw (more, moved)
    (append_assoc before (lines_from inner place (forest_of (e ∷ []))) (lines_from inner (place + term_len e) (forest_of new))
    ∙ ap (λ ls. before ++ ls) (sym (lines-cons inner place e new))
    ∙ ap (λ es. before ++ lines_from inner place (forest_of es)) (sym first)
    ∙ so-far)

-- the parts of a line, joined
pub line-is :
    (margin name : List ℕ) (start kind raw end stop : ℕ) → name ≡ kind_name raw → raw ≡ kind → end ≡ stop
    → margin ++ (name ++ (64 ∷ (decimal start ++ (46 ∷ 46 ∷ decimal end)))) ≡ line_of margin kind start stop
line-is margin name start kind raw end stop named same ends = rw (named, same, ends) refl

view-String : (s : String Global) → view (ValueString s) ≡ string (string_bytes s)
view-String s = search (rules, the_lemmas)

-- a text
pub text-view : (s : String Global) (text : List ℕ) → string_bytes s ≡ text → view (ValueString s) ≡ string text
text-view s text is = view-String s ∙ ap string is

-- two values
pub pair-view : (vs : List Value) (a b : Value) (x y : Data) → vs ≡ a ∷ b ∷ [] → view a ≡ x → view b ≡ y → items_view vs ≡ item x (item y no_items)
pair-view vs a b x y are first second = rw (are, first, second) refl

-- there are more terms in a node than in its children
pub fewer : (t : Tree) (e : Term) (es : List Term) → e ≡ Node t → es ≡ children_of t → forest_count (forest_of es) < term_count e
fewer t e es is are = rw (is, are) (omega (arith, ap forest_count (forest_of-terms t.forest)))

pub same-length : (t : Tree) (e : Term) (es : List Term) → e ≡ Node t → es ≡ children_of t → length (texts_of es) ≡ term_len e
same-length t e es is are = rw (is, are) (ap (λ f. length (forest_text f)) (forest_of-terms t.forest))

count-cons : (e : Term) (es : List Term) → forest_count (forest_of (e ∷ es)) ≡ term_count e + forest_count (forest_of es)
count-cons (Node t) es = refl
count-cons (Token l) es = refl

pub next-count : (e : Term) (old new : List Term) → old ≡ e ∷ new → forest_count (forest_of old) ≡ term_count e + forest_count (forest_of new)
next-count e old new first = ap (λ es. forest_count (forest_of es)) first ∙ count-cons e new

-- what is left is shorter by it
pub next-length : (e : Term) (old new : List Term) → old ≡ e ∷ new → length (texts_of old) ≡ term_len e + length (texts_of new)
next-length e old new first = ap (λ es. length (texts_of es)) first ∙ ap length (text-cons e new) ∙ length-append (text_of e) (texts_of new)
