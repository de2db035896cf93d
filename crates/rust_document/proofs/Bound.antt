-- What the parser's trees show has its operators placed as they have.
use Rattle.std.proofs.Common.{◌≡◌, ℕ, ◌<◌, Bool, true, false, not, ◌&&◌, ◌||◌, ◌==◌, [], nat_lt, refl, sym, ap, subst, ◌∙◌, arith, inl, inr, if◌then◌else◌, true≢false}
use Rattle.std.proofs.lemmas.Bool.{cases_Bool, eqb-true, ltb-true}
use Rattle.rowan_green.specs.Forest.{Forest, empty, node, leaf}
use Rattle.rowan_green.specs.Leaf as green
use Rattle.parser_input.specs.Kinds.{BIN_EXPR, FIELD_EXPR, SOURCE_FILE, WHITESPACE, COMMENT}
use Rattle.parser_input.specs.Input.{input}
use Rattle.parser_events.specs.Forest as forest
use Rattle.rust_grammar.specs.Meaning.{is_end}
use Rattle.rust_grammar.specs.Powers as grammar
use Rattle.rust_grammar.specs.Powers.{is_among, power}
use Rattle.rust_grammar.specs.Rule.{source_file}
use Rattle.rust_grammar.proofs.Plain.{and_l, and_r}
use Rattle.rust_grammar.proofs.PowersTable.{entries-bind}
use Rattle.rust_grammar.proofs.Spelling.{both-true}
use Rattle.ra_parser.specs.Grammars.{is_whole}
use Rattle.rust_document.specs.Laws.{OperatorsBindByPower}
use Rattle.rust_document.specs.OperatorExamples.{PlacedOperatorsAreTold}
use Rattle.rust_document.specs.Reading.{forest_by, leaves_in}
use Rattle.rust_document.specs.Operators.{operator, level, left_level, right_level, is_operator_placed, are_operators_placed}
use Rattle.rust_document.proofs.Shapes.{beside}
use Rattle.rust_document.proofs.Shown.{Shows, kind_before, parted, accessed, wronged, dot_before, number_shown}
use Rattle.rust_document.proofs.Silent.{told}
use Rattle.rust_document.proofs.Solid.{is_solid, has_solid_leaves, entry-solid}
use Rattle.rust_document.proofs.Kept.{Kept, leaf-kept, parted-kept, accessed-kept, wronged-kept}
use Rattle.rust_document.proofs.Carried.{Carried, document-holds}

-- a leaf of a kind, without its text
abbrev of_kind : ℕ → green.Leaf
of_kind k = record { kind = k; text = [] }

solid-before : (k : ℕ) (r : Forest) → is_solid k ≡ true → kind_before k r ≡ leaf (of_kind k) r
unfolding is_solid kind_before
solid-before k r s = whichever (k == WHITESPACE || k == COMMENT) s
  where
    whichever : (b : Bool) → not b ≡ true → (if b then r else leaf (of_kind k) r) ≡ leaf (of_kind k) r
    whichever true e = absurd (true≢false (sym e))
    whichever false e = refl

-- no operator, no power
some-operator : (k : ℕ) → 0 < power k → (power k == 0) ≡ false
some-operator k p = elim (cases_Bool (power k == 0)) [
  | inr i ↦ i
  | inl i ↦ let none = eqb-true (power k) 0 i in absurd (omega (arith, p, none))
]

no-power : 0 < power (grammar.operator forest.End) → ⊥
unfolding grammar.operator power is_among
no-power p = omega (arith, p)

own-operator : (k : ℕ) (r : Forest) → 0 < power k → operator (leaf (of_kind k) r) ≡ k
unfolding operator
own-operator k r p = rw (some-operator k p) refl

dot-operator : (r : Forest) → operator (dot_before r) ≡ operator r
unfolding operator dot_before power is_among
dot-operator r = refl

field-operator : (i r : Forest) → operator (node FIELD_EXPR i r) ≡ operator r
unfolding operator
field-operator i r = refl

operator-shown : (f : forest.Forest) (k : Forest) → Shows f k → told f ≡ 0 → has_solid_leaves f ≡ true → 0 < power (grammar.operator f) → operator k ≡ grammar.operator f
unfolding told has_solid_leaves grammar.operator operator parted accessed wronged
operator-shown forest.End k h t s p = absurd (no-power p)
operator-shown (forest.Leaf j n f) k h t s p = ap operator (h.1.1 ∙ solid-before j h.0 (and_l (is_solid j) (has_solid_leaves f) s)) ∙ own-operator j h.0 p
operator-shown (forest.Said m f) k h t s p = absurd (omega (arith, t))
operator-shown (forest.ErrorLeaf m j f) k h t s p = absurd (omega (arith, t))
operator-shown (forest.Node j c f) k h t s p =
    ap operator h.1.1.1.1 ∙ operator-shown f h.1.0 h.1.1.1.0 (omega (arith, t)) (and_r (has_solid_leaves c) (has_solid_leaves f) s) p
operator-shown (forest.Float b c f) k h t s p =
    let r = h.1.0 in
    let rest = operator-shown f r h.1.1.1.0 (omega (arith, t)) (and_r (has_solid_leaves c) (has_solid_leaves f) s) p in
    elim h.1.1.1.1 [
      | inl e ↦ ap operator e ∙ field-operator (beside h.0 number_shown) (dot_before r) ∙ dot-operator r ∙ rest
      | inr e ↦ elim e [
        | inl i ↦ ap operator i ∙ rest
        | inr i ↦ ap operator i ∙ rest
      ]
    ]

has-operator : (c : forest.Forest) → grammar.is_operator_placed c ≡ true → 0 < power (grammar.operator c)
unfolding grammar.is_operator_placed
has-operator c e = ltb-true 0 (power (grammar.operator c)) (and_l (nat_lt 0 (power (grammar.operator c))) _ (and_l _ _ e))

-- the test of a node
abbrev node_placed : (kind : ℕ) → forest.Forest → Bool
node_placed j c = if j == BIN_EXPR then grammar.is_operator_placed c else true

level-shown : (j : ℕ) (c : forest.Forest) (i : Forest) → Shows c i → told c ≡ 0 → has_solid_leaves c ≡ true → node_placed j c ≡ true → level j i ≡ grammar.level j c
unfolding level grammar.level
level-shown j c i h t s e = whichever (j == BIN_EXPR) e
  where
    whichever : (b : Bool) → (if b then grammar.is_operator_placed c else true) ≡ true → (if b then power (operator i) else 13) ≡ (if b then power (grammar.operator c) else 13)
    whichever true e = ap power (operator-shown c i h t s (has-operator c e))
    whichever false e = refl

-- the facts about a forest whose first element is a node
pub record Parts (j : ℕ) (c f : forest.Forest) : Type 0 where
  pub own : node_placed j c ≡ true
  pub inner : grammar.are_operators_placed c ≡ true
  pub rest : grammar.are_operators_placed f ≡ true
  pub inner_solid : has_solid_leaves c ≡ true
  pub rest_solid : has_solid_leaves f ≡ true
  pub inner_told : told c ≡ 0
  pub rest_told : told f ≡ 0

parts : (j : ℕ) (c f : forest.Forest) → told (forest.Node j c f) ≡ 0 → has_solid_leaves (forest.Node j c f) ≡ true → grammar.are_operators_placed (forest.Node j c f) ≡ true → Parts j c f
unfolding told has_solid_leaves grammar.are_operators_placed
parts j c f t s e = record {
  own = and_l (node_placed j c) (grammar.are_operators_placed c) (and_l _ (grammar.are_operators_placed f) e);
  inner = and_r (node_placed j c) (grammar.are_operators_placed c) (and_l _ (grammar.are_operators_placed f) e);
  rest = and_r (node_placed j c && grammar.are_operators_placed c) (grammar.are_operators_placed f) e;
  inner_solid = and_l (has_solid_leaves c) (has_solid_leaves f) s;
  rest_solid = and_r (has_solid_leaves c) (has_solid_leaves f) s;
  inner_told = omega (arith, t);
  rest_told = omega (arith, t);
}

field-left : (i r : Forest) → left_level (node FIELD_EXPR i r) ≡ 13
unfolding left_level level
field-left i r = refl

left-shown : (f : forest.Forest) (k : Forest) → Shows f k → told f ≡ 0 → has_solid_leaves f ≡ true → grammar.are_operators_placed f ≡ true → left_level k ≡ grammar.left_level f
unfolding grammar.left_level left_level told has_solid_leaves parted accessed wronged
left-shown forest.End k h t s e = ap left_level h
left-shown (forest.Leaf j n f) k h t s e = ap left_level (h.1.1 ∙ solid-before j h.0 (and_l (is_solid j) (has_solid_leaves f) s))
left-shown (forest.Said m f) k h t s e = absurd (omega (arith, t))
left-shown (forest.ErrorLeaf m j f) k h t s e = absurd (omega (arith, t))
left-shown (forest.Node j c f) k h t s e =
    let all = parts j c f t s e in
    ap left_level h.1.1.1.1 ∙ level-shown j c h.0 h.1.1.0 all.inner_told all.inner_solid all.own
left-shown (forest.Float b c f) k h t s e =
    elim h.1.1.1.1 [
      | inl p ↦ ap left_level p ∙ field-left (beside h.0 number_shown) (dot_before h.1.0)
      | inr p ↦ elim p [
        | inl q ↦ ap left_level q ∙ field-left _ h.1.0
        | inr q ↦ ap left_level q ∙ field-left _ h.1.0
      ]
    ]

unfoldable is_none : Forest → Bool
is_none empty = true
is_none (node k f r) = false
is_none (leaf l r) = false

some-shown : (f : forest.Forest) (r : Forest) → Shows f r → told f ≡ 0 → has_solid_leaves f ≡ true → is_end f ≡ false → is_none r ≡ false
unfolding told has_solid_leaves is_end is_none parted accessed wronged
some-shown forest.End r h t s e = absurd (true≢false e)
some-shown (forest.Leaf j n f) r h t s e = ap is_none (h.1.1 ∙ solid-before j h.0 (and_l (is_solid j) (has_solid_leaves f) s))
some-shown (forest.Said m f) r h t s e = absurd (omega (arith, t))
some-shown (forest.ErrorLeaf m j f) r h t s e = absurd (omega (arith, t))
some-shown (forest.Node j c f) r h t s e = ap is_none h.1.1.1.1
some-shown (forest.Float b c f) r h t s e = elim h.1.1.1.1 [
  | inl p ↦ ap is_none p
  | inr p ↦ elim p [
    | inl q ↦ ap is_none q
    | inr q ↦ ap is_none q
  ]
]

-- after a node that something follows, the right level is that of the rest
after-node : (j : ℕ) (i r : Forest) → is_none r ≡ false → right_level (node j i r) ≡ right_level r
unfolding is_none right_level
after-node j i empty e = absurd (true≢false e)
after-node j i (leaf l r) e = refl
after-node j i (node k f r) e = refl

after-tree : (j : ℕ) (c f : forest.Forest) → is_end f ≡ false → grammar.right_level (forest.Node j c f) ≡ grammar.right_level f
unfolding is_end grammar.right_level
after-tree j c forest.End e = absurd (true≢false e)
after-tree j c (forest.Leaf k n f) e = refl
after-tree j c (forest.Said m f) e = refl
after-tree j c (forest.ErrorLeaf m k f) e = refl
after-tree j c (forest.Node k d f) e = refl
after-tree j c (forest.Float b d f) e = refl

-- the last of a node and what it shows after it
last-node : (j : ℕ) (i r : Forest) (c f : forest.Forest) → is_end f ≡ true → Shows f r → right_level (node j i r) ≡ level j i
unfolding is_end right_level
last-node j i r c forest.End e h = ap (λ (g : Forest). right_level (node j i g)) h
last-node j i r c (forest.Leaf k n f) e h = absurd (true≢false (sym e))
last-node j i r c (forest.Said m f) e h = absurd (true≢false (sym e))
last-node j i r c (forest.ErrorLeaf m k f) e h = absurd (true≢false (sym e))
last-node j i r c (forest.Node k d f) e h = absurd (true≢false (sym e))
last-node j i r c (forest.Float b d f) e h = absurd (true≢false (sym e))

last-tree : (j : ℕ) (c f : forest.Forest) → is_end f ≡ true → grammar.right_level (forest.Node j c f) ≡ grammar.level j c
unfolding is_end grammar.right_level
last-tree j c forest.End e = refl
last-tree j c (forest.Leaf k n f) e = absurd (true≢false (sym e))
last-tree j c (forest.Said m f) e = absurd (true≢false (sym e))
last-tree j c (forest.ErrorLeaf m k f) e = absurd (true≢false (sym e))
last-tree j c (forest.Node k d f) e = absurd (true≢false (sym e))
last-tree j c (forest.Float b d f) e = absurd (true≢false (sym e))

field-right : (i r : Forest) → right_level (node FIELD_EXPR i r) ≡ right_level r
unfolding right_level level
field-right i empty = refl
field-right i (leaf l r) = refl
field-right i (node k f r) = refl

leaf-right : (l : green.Leaf) (r : Forest) → right_level (leaf l r) ≡ right_level r
unfolding right_level
leaf-right l r = refl

dot-right : (r : Forest) → right_level (dot_before r) ≡ right_level r
unfolding right_level dot_before
dot-right r = refl

right-shown : (f : forest.Forest) (k : Forest) → Shows f k → told f ≡ 0 → has_solid_leaves f ≡ true → grammar.are_operators_placed f ≡ true → right_level k ≡ grammar.right_level f
unfolding grammar.right_level right_level told has_solid_leaves grammar.are_operators_placed parted accessed wronged
right-shown forest.End k h t s e = ap right_level h
right-shown (forest.Leaf j n f) k h t s e =
    ap right_level (h.1.1 ∙ solid-before j h.0 (and_l (is_solid j) (has_solid_leaves f) s)) ∙ leaf-right (of_kind j) h.0
    ∙ right-shown f h.0 h.1.0 t (and_r (is_solid j) (has_solid_leaves f) s) e
right-shown (forest.Said m f) k h t s e = absurd (omega (arith, t))
right-shown (forest.ErrorLeaf m j f) k h t s e = absurd (omega (arith, t))
right-shown (forest.Node j c f) k h t s e =
    let i = h.0 in
    let r = h.1.0 in
    let all = parts j c f t s e in
    elim (cases_Bool (is_end f)) [
      | inl end ↦
          ap right_level h.1.1.1.1 ∙ last-node j i r c f end h.1.1.1.0
          ∙ level-shown j c i h.1.1.0 all.inner_told all.inner_solid all.own ∙ sym (last-tree j c f end)
      | inr more ↦
          ap right_level h.1.1.1.1 ∙ after-node j i r (some-shown f r h.1.1.1.0 all.rest_told all.rest_solid more)
          ∙ right-shown f r h.1.1.1.0 all.rest_told all.rest_solid all.rest ∙ sym (after-tree j c f more)
    ]
right-shown (forest.Float b c f) k h t s e =
    let r = h.1.0 in
    let rest = right-shown f r h.1.1.1.0 (omega (arith, t)) (and_r (has_solid_leaves c) (has_solid_leaves f) s) (and_r (grammar.are_operators_placed c) (grammar.are_operators_placed f) e) in
    elim h.1.1.1.1 [
      | inl p ↦ ap right_level p ∙ field-right (beside h.0 number_shown) (dot_before r) ∙ dot-right r ∙ rest
      | inr p ↦ elim p [
        | inl q ↦ ap right_level q ∙ field-right _ r ∙ rest
        | inr q ↦ ap right_level q ∙ field-right _ r ∙ rest
      ]
    ]

-- the children of a binary expression
expression-shown : (c : forest.Forest) (i : Forest) → Shows c i → told c ≡ 0 → has_solid_leaves c ≡ true → grammar.are_operators_placed c ≡ true → grammar.is_operator_placed c ≡ true → is_operator_placed i ≡ true
unfolding is_operator_placed grammar.is_operator_placed
expression-shown c i h t s inner e = rw (operator-shown c i h t s (has-operator c e), left-shown c i h t s inner, right-shown c i h t s inner) e

own-shown : (b : Bool) (c : forest.Forest) (i : Forest) → Shows c i → told c ≡ 0 → has_solid_leaves c ≡ true → grammar.are_operators_placed c ≡ true → (if b then grammar.is_operator_placed c else true) ≡ true → (if b then is_operator_placed i else true) ≡ true
own-shown true c i h t s inner e = expression-shown c i h t s inner e
own-shown false c i h t s inner e = refl

node-bound : (j : ℕ) (i r : Forest) → (if j == BIN_EXPR then is_operator_placed i else true) ≡ true → are_operators_placed i ≡ true → are_operators_placed r ≡ true → are_operators_placed (node j i r) ≡ true
unfolding are_operators_placed
node-bound j i r p q o =
    let own = if j == BIN_EXPR then is_operator_placed i else true in
    both-true (own && are_operators_placed i) (are_operators_placed r) (both-true own (are_operators_placed i) p q) o

beside-bound : (a b : Forest) → are_operators_placed a ≡ true → are_operators_placed b ≡ true → are_operators_placed (beside a b) ≡ true
unfolding are_operators_placed beside
beside-bound empty b p q = q
beside-bound (leaf l r) b p q = beside-bound r b p q
beside-bound (node k f r) b p q =
    let own = if k == BIN_EXPR then is_operator_placed f else true in
    both-true (own && are_operators_placed f) (are_operators_placed (beside r b)) (and_l _ _ p) (beside-bound r b (and_r _ _ p) q)

operators-kept : Kept are_operators_placed
unfolding are_operators_placed number_shown
operators-kept = record {
  nothing = refl;
  both = beside-bound;
  one = λ l. refl;
  number = refl;
  wrong = refl;
  field = λ f p. node-bound FIELD_EXPR f empty refl p refl;
  file = λ f p. node-bound SOURCE_FILE f empty refl p refl;
}

shown-bound : (f : forest.Forest) (k : Forest) → Shows f k → told f ≡ 0 → has_solid_leaves f ≡ true → grammar.are_operators_placed f ≡ true → are_operators_placed k ≡ true
unfolding told has_solid_leaves grammar.are_operators_placed
shown-bound forest.End k h t s e = subst (λ (g : Forest). are_operators_placed g ≡ true) (sym h) operators-kept.nothing
shown-bound (forest.Leaf j n f) k h t s e =
    let form = h.1.1 ∙ solid-before j h.0 (and_l (is_solid j) (has_solid_leaves f) s) in
    let rest = shown-bound f h.0 h.1.0 t (and_r (is_solid j) (has_solid_leaves f) s) e in
    subst (λ (g : Forest). are_operators_placed g ≡ true) (sym form) (leaf-kept are_operators_placed operators-kept (of_kind j) h.0 rest)
shown-bound (forest.Said m f) k h t s e = absurd (omega (arith, t))
shown-bound (forest.ErrorLeaf m j f) k h t s e = absurd (omega (arith, t))
shown-bound (forest.Node j c f) k h t s e =
    let i = h.0 in
    let r = h.1.0 in
    let all = parts j c f t s e in
    let own = own-shown (j == BIN_EXPR) c i h.1.1.0 all.inner_told all.inner_solid all.inner all.own in
    let inner = shown-bound c i h.1.1.0 all.inner_told all.inner_solid all.inner in
    let rest = shown-bound f r h.1.1.1.0 all.rest_told all.rest_solid all.rest in
    subst (λ (g : Forest). are_operators_placed g ≡ true) (sym h.1.1.1.1) (node-bound j i r own inner rest)
shown-bound (forest.Float b c f) k h t s e =
    let i = h.0 in
    let r = h.1.0 in
    let inner = shown-bound c i h.1.1.0 (omega (arith, t)) (and_l (has_solid_leaves c) (has_solid_leaves f) s) (and_l (grammar.are_operators_placed c) (grammar.are_operators_placed f) e) in
    let rest = shown-bound f r h.1.1.1.0 (omega (arith, t)) (and_r (has_solid_leaves c) (has_solid_leaves f) s) (and_r (grammar.are_operators_placed c) (grammar.are_operators_placed f) e) in
    elim h.1.1.1.1 [
      | inl p ↦ subst (λ (g : Forest). are_operators_placed g ≡ true) (sym p) (parted-kept are_operators_placed operators-kept i r inner rest)
      | inr p ↦ elim p [
        | inl q ↦ subst (λ (g : Forest). are_operators_placed g ≡ true) (sym q) (accessed-kept are_operators_placed operators-kept i r inner rest)
        | inr q ↦ subst (λ (g : Forest). are_operators_placed g ≡ true) (sym q) (wronged-kept are_operators_placed operators-kept i r inner rest)
      ]
    ]

-- what is asked of the parser's trees
unfoldable asked : forest.Forest → Bool
asked f = has_solid_leaves f && grammar.are_operators_placed f

operators-carried : Carried asked are_operators_placed
unfolding asked has_solid_leaves grammar.are_operators_placed
operators-carried = record {
  kept = operators-kept;
  node = λ k c e.
      both-true (has_solid_leaves c) (grammar.are_operators_placed c) (and_l (has_solid_leaves c) true (and_l (has_solid_leaves c && true) _ e))
      (and_r (node_placed k c) (grammar.are_operators_placed c) (and_l _ true (and_r (has_solid_leaves c && true) _ e)));
  receiver = λ b c e.
      both-true (has_solid_leaves c) (grammar.are_operators_placed c) (and_l (has_solid_leaves c) true (and_l (has_solid_leaves c && true) _ e))
      (and_l (grammar.are_operators_placed c) true (and_r (has_solid_leaves c && true) _ e));
  shown = λ f k h t e. shown-bound f k h t (and_l (has_solid_leaves f) (grammar.are_operators_placed f) e) (and_r (has_solid_leaves f) (grammar.are_operators_placed f) e);
}

-- THE law of operators.
pub document-bound : OperatorsBindByPower
unfolding asked
document-bound g edition text none =
    let ls = leaves_in edition text in
    document-holds asked are_operators_placed operators-carried g edition text none
    (both-true (has_solid_leaves (forest_by source_file g edition ls)) (grammar.are_operators_placed (forest_by source_file g edition ls)) (entry-solid source_file g edition ls) (entries-bind source_file (input (is_whole g) edition ls)))

-- Rows are decided by computation.
pub placed-told : PlacedOperatorsAreTold
unfolding is_among power operator level left_level right_level is_operator_placed are_operators_placed
placed-told = (refl, (refl, (refl, (refl, (refl, (refl, (refl, (refl, (refl, (refl, (refl, (refl, (refl, (refl, (refl, (refl, (refl, (refl, (refl, tt)))))))))))))))))))
