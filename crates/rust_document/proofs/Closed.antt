-- In a document without messages token trees end as their first brackets ask.
use Rattle.std.proofs.Common.{◌≡◌, ℕ, ◌⊎◌, Bool, true, false, ◌&&◌, ◌||◌, ◌==◌, [], refl, sym, ap, subst, ◌∙◌, arith, inl, inr, if◌then◌else◌, true≢false}
use Rattle.std.proofs.lemmas.Bool.{cases_Bool, eqb-true, eq-eqb, or_cases}
use Rattle.rowan_green.specs.Forest.{Forest, empty, node, leaf}
use Rattle.rowan_green.specs.Leaf as green
use Rattle.parser_input.specs.Kinds.{EOF, FIELD_EXPR, SOURCE_FILE, TOKEN_TREE, WHITESPACE, COMMENT, L_PAREN, L_CURLY, L_BRACK}
use Rattle.parser_input.specs.Input.{input}
use Rattle.parser_events.specs.Forest as forest
use Rattle.parser_events.specs.Forest.{Message, IllegalFloat}
use Rattle.rust_grammar.specs.TokenTrees.{partner, is_opening, ends_with, is_bracketed, are_token_trees_bracketed}
use Rattle.rust_grammar.specs.Rule.{source_file}
use Rattle.rust_grammar.proofs.Plain.{and_l, and_r}
use Rattle.rust_grammar.proofs.Spelling.{both-true}
use Rattle.rust_grammar.proofs.TokenTreesTable.{token-trees-bracketed}
use Rattle.ra_parser.specs.Grammars.{is_whole}
use Rattle.rust_document.specs.Laws.{TokenTreesAreClosed}
use Rattle.rust_document.specs.Reading.{leaves_in}
use Rattle.rust_document.specs.Brackets.{last_kind, is_closed, are_token_trees_closed}
use Rattle.rust_document.proofs.Shapes.{beside}
use Rattle.rust_document.proofs.Shown.{Shows, kind_before, parted, accessed, wronged, dot_before, number_shown}
use Rattle.rust_document.proofs.Silent.{told}
use Rattle.rust_document.proofs.Kept.{Kept, parted-kept, accessed-kept, wronged-kept}
use Rattle.rust_document.proofs.Carried.{Carried, document-holds}

closed-beside : (a b : Forest) → are_token_trees_closed a ≡ true → are_token_trees_closed b ≡ true → are_token_trees_closed (beside a b) ≡ true
unfolding are_token_trees_closed beside
closed-beside empty b p q = q
closed-beside (leaf l r) b p q = closed-beside r b p q
closed-beside (node k f r) b p q =
    let own = if k == TOKEN_TREE then is_closed f else true in
    both-true (own && are_token_trees_closed f) (are_token_trees_closed (beside r b)) (and_l _ _ p) (closed-beside r b (and_r _ _ p) q)

closed-before : (k : ℕ) (r : Forest) → are_token_trees_closed r ≡ true → are_token_trees_closed (kind_before k r) ≡ true
unfolding are_token_trees_closed kind_before
closed-before k r p = whichever (k == WHITESPACE || k == COMMENT)
  where
    whichever : (b : Bool) → are_token_trees_closed (if b then r else leaf (record { kind = k; text = [] }) r) ≡ true
    whichever true = p
    whichever false = p

-- the kind that ends an opening bracket's tree is neither whitespace nor a comment, and not the end
record Solid (kind : ℕ) : Type 0 where
  pub stays : (kind == WHITESPACE || kind == COMMENT) ≡ false
  pub some : kind ≡ EOF → ⊥

last-leaf : (l : green.Leaf) (r : Forest) (kind : ℕ) → Solid kind → last_kind r ≡ kind → last_kind (leaf l r) ≡ kind
unfolding last_kind
last-leaf l empty kind s e = absurd (s.some (sym e))
last-leaf l (leaf m r) kind s e = e
last-leaf l (node k f r) kind s e = e

last-node : (j : ℕ) (f r : Forest) (kind : ℕ) → Solid kind → last_kind r ≡ kind → last_kind (node j f r) ≡ kind
unfolding last_kind
last-node j f empty kind s e = absurd (s.some (sym e))
last-node j f (leaf m r) kind s e = e
last-node j f (node k g r) kind s e = e

last-before : (j : ℕ) (r : Forest) (kind : ℕ) → Solid kind → last_kind r ≡ kind → last_kind (kind_before j r) ≡ kind
unfolding kind_before
last-before j r kind s e = whichever (j == WHITESPACE || j == COMMENT)
  where
    whichever : (b : Bool) → last_kind (if b then r else leaf (record { kind = j; text = [] }) r) ≡ kind
    whichever true = e
    whichever false = last-leaf (record { kind = j; text = [] }) r kind s e

last-alone : (kind : ℕ) → Solid kind → last_kind (kind_before kind empty) ≡ kind
unfolding kind_before last_kind
last-alone kind s = rw s.stays refl

-- a leaf ends the trees, or the trees after it end so
ends-leaf : (kind j n : ℕ) (f : forest.Forest) → ends_with kind (forest.Leaf j n f) ≡ true → ((f ≡ forest.End) × ((j == kind) ≡ true)) ⊎ (ends_with kind f ≡ true)
unfolding ends_with
ends-leaf kind j n forest.End e = inl (refl, and_l (j == kind) (n == 1) e)
ends-leaf kind j n (forest.Leaf k m f) e = inr e
ends-leaf kind j n (forest.Said m f) e = inr e
ends-leaf kind j n (forest.ErrorLeaf m k f) e = inr e
ends-leaf kind j n (forest.Node k c f) e = inr e
ends-leaf kind j n (forest.Float b c f) e = inr e

ends-shown : (kind : ℕ) (f : forest.Forest) (k : Forest) → Solid kind → Shows f k → told f ≡ 0 → ends_with kind f ≡ true → last_kind k ≡ kind
unfolding told ends_with parted accessed wronged dot_before
ends-shown kind forest.End k s h t e = absurd (true≢false (sym e))
ends-shown kind (forest.Leaf j n f) k s h t e = elim (ends-leaf kind j n f e) [
  | inr i ↦ subst (λ (g : Forest). last_kind g ≡ kind) (sym h.1.1) (last-before j h.0 kind s (ends-shown kind f h.0 s h.1.0 t i))
  | inl i ↦
      let none : h.0 ≡ empty = subst (λ (g : forest.Forest). Shows g h.0) i.0 h.1.0 in
      let same : j ≡ kind = eqb-true j kind i.1 in
      subst (λ (g : Forest). last_kind g ≡ kind) (sym (h.1.1 ∙ ap (λ (g : Forest). kind_before j g) none ∙ ap (λ (x : ℕ). kind_before x empty) same)) (last-alone kind s)
]
ends-shown kind (forest.Said m f) k s h t e = absurd (omega (arith, t))
ends-shown kind (forest.ErrorLeaf m j f) k s h t e = absurd (omega (arith, t))
ends-shown kind (forest.Node j c f) k s h t e =
    let r = h.1.0 in
    subst (λ (g : Forest). last_kind g ≡ kind) (sym h.1.1.1.1) (last-node j h.0 r kind s (ends-shown kind f r s h.1.1.1.0 (omega (arith, t)) (ends-more kind j c f e)))
  where
    ends-more : (kind j : ℕ) (c f : forest.Forest) → ends_with kind (forest.Node j c f) ≡ true → ends_with kind f ≡ true
    ends-more kind j c f e = e
ends-shown kind (forest.Float b c f) k s h t e =
    let i = h.0 in
    let r = h.1.0 in
    let rest = ends-shown kind f r s h.1.1.1.0 (omega (arith, t)) (ends-more kind b c f e) in
    elim h.1.1.1.1 [
      | inl p ↦ subst (λ (g : Forest). last_kind g ≡ kind) (sym p) (last-node FIELD_EXPR (beside i number_shown) (dot_before r) kind s (last-leaf _ r kind s rest))
      | inr p ↦ elim p [
        | inl q ↦ subst (λ (g : Forest). last_kind g ≡ kind) (sym q) (last-node FIELD_EXPR _ r kind s rest)
        | inr q ↦ subst (λ (g : Forest). last_kind g ≡ kind) (sym q) (last-node FIELD_EXPR _ r kind s rest)
      ]
    ]
  where
    ends-more : (kind : ℕ) (b : Bool) (c f : forest.Forest) → ends_with kind (forest.Float b c f) ≡ true → ends_with kind f ≡ true
    ends-more kind b c f e = e

partner-solid : (k : ℕ) → is_opening k ≡ true → Solid (partner k)
unfolding is_opening partner
partner-solid k e = elim (cases_Bool (k == L_PAREN)) [
  | inl i ↦ rw i (record { stays = refl; some = λ z. absurd (omega (arith, z)) })
  | inr i ↦ elim (cases_Bool (k == L_CURLY)) [
    | inl j ↦ rw (i, j) (record { stays = refl; some = λ z. absurd (omega (arith, z)) })
    | inr j ↦ rw (i, j, subst (λ (b : Bool). b ≡ true) refl (last-opening (k == L_PAREN) (k == L_CURLY) (k == L_BRACK) i j e)) (record { stays = refl; some = λ z. absurd (omega (arith, z)) })
  ]
]
  where
    last-opening : (a b c : Bool) → a ≡ false → b ≡ false → (if a then true else (if b then true else c)) ≡ true → c ≡ true
    last-opening true b c p q e = absurd (true≢false p)
    last-opening false true c p q e = absurd (true≢false q)
    last-opening false false c p q e = e

opening-stays : (k : ℕ) → is_opening k ≡ true → (k == WHITESPACE || k == COMMENT) ≡ false
unfolding is_opening
opening-stays k e = elim (cases_Bool (k == WHITESPACE || k == COMMENT)) [
  | inr i ↦ i
  | inl i ↦ elim (or_cases (k == WHITESPACE) (k == COMMENT) i) [
    | inl j ↦ absurd (true≢false (sym e ∙ ap (λ (n : ℕ). if n == L_PAREN then true else (if n == L_CURLY then true else n == L_BRACK)) (eqb-true k WHITESPACE j)))
    | inr j ↦ absurd (true≢false (sym e ∙ ap (λ (n : ℕ). if n == L_PAREN then true else (if n == L_CURLY then true else n == L_BRACK)) (eqb-true k COMMENT j)))
  ]
]

bracketed-shown : (c : forest.Forest) (i : Forest) → Shows c i → told c ≡ 0 → is_bracketed c ≡ true → is_closed i ≡ true
unfolding is_bracketed is_closed told kind_before
bracketed-shown (forest.Leaf k n f) i h t e =
    let opening : is_opening k ≡ true = and_l (is_opening k) (n == 1) (and_l _ _ e) in
    let last : last_kind h.0 ≡ partner k = ends-shown (partner k) f h.0 (partner-solid k opening) h.1.0 t (and_r _ _ e) in
    let form : i ≡ leaf (record { kind = k; text = [] }) h.0 = subst (λ (b : Bool). i ≡ (if b then h.0 else leaf (record { kind = k; text = [] }) h.0)) (opening-stays k opening) h.1.1 in
    subst (λ (g : Forest). is_closed g ≡ true) (sym form) (both-true (is_opening k) (last_kind h.0 == partner k) opening (eq-eqb (last_kind h.0) (partner k) last))
bracketed-shown forest.End i h t e = absurd (true≢false (sym e))
bracketed-shown (forest.Said m f) i h t e = absurd (true≢false (sym e))
bracketed-shown (forest.ErrorLeaf m k f) i h t e = absurd (true≢false (sym e))
bracketed-shown (forest.Node k c f) i h t e = absurd (true≢false (sym e))
bracketed-shown (forest.Float b c f) i h t e = absurd (true≢false (sym e))

node-closed : (j : ℕ) (i r : Forest) → (if j == TOKEN_TREE then is_closed i else true) ≡ true → are_token_trees_closed i ≡ true → are_token_trees_closed r ≡ true → are_token_trees_closed (node j i r) ≡ true
unfolding are_token_trees_closed
node-closed j i r p q o = both-true (own && are_token_trees_closed i) (are_token_trees_closed r) (both-true own (are_token_trees_closed i) p q) o
  where
    own : Bool
    own = if j == TOKEN_TREE then is_closed i else true

tree-closed : (b : Bool) (c : forest.Forest) (i : Forest) → Shows c i → told c ≡ 0 → (if b then is_bracketed c else true) ≡ true → (if b then is_closed i else true) ≡ true
tree-closed true c i h t e = bracketed-shown c i h t e
tree-closed false c i h t e = refl

token-trees-kept : Kept are_token_trees_closed
unfolding are_token_trees_closed number_shown
token-trees-kept = record {
  nothing = refl;
  both = closed-beside;
  one = λ l. refl;
  number = refl;
  wrong = refl;
  field = λ f p. node-closed FIELD_EXPR f empty refl p refl;
  file = λ f p. node-closed SOURCE_FILE f empty refl p refl;
}

shown-closed : (f : forest.Forest) (k : Forest) → Shows f k → told f ≡ 0 → are_token_trees_bracketed f ≡ true → are_token_trees_closed k ≡ true
unfolding told are_token_trees_bracketed
shown-closed forest.End k h t e = subst (λ (g : Forest). are_token_trees_closed g ≡ true) (sym h) token-trees-kept.nothing
shown-closed (forest.Leaf j n f) k h t e = subst (λ (g : Forest). are_token_trees_closed g ≡ true) (sym h.1.1) (closed-before j h.0 (shown-closed f h.0 h.1.0 t e))
shown-closed (forest.Said m f) k h t e = absurd (omega (arith, t))
shown-closed (forest.ErrorLeaf m j f) k h t e = absurd (omega (arith, t))
shown-closed (forest.Node j c f) k h t e =
    let i = h.0 in
    let r = h.1.0 in
    let one : told c ≡ 0 = omega (arith, t) in
    let own = and_l _ _ (and_l _ _ e) in
    subst (λ (g : Forest). are_token_trees_closed g ≡ true) (sym h.1.1.1.1)
    (node-closed j i r (tree-closed (j == TOKEN_TREE) c i h.1.1.0 one own) (shown-closed c i h.1.1.0 one (and_r _ _ (and_l _ _ e))) (shown-closed f r h.1.1.1.0 (omega (arith, t)) (and_r _ _ e)))
shown-closed (forest.Float b c f) k h t e =
    let i = h.0 in
    let r = h.1.0 in
    let inner = shown-closed c i h.1.1.0 (omega (arith, t)) (and_l _ _ e) in
    let rest = shown-closed f r h.1.1.1.0 (omega (arith, t)) (and_r _ _ e) in
    elim h.1.1.1.1 [
      | inl p ↦ subst (λ (g : Forest). are_token_trees_closed g ≡ true) (sym p) (parted-kept are_token_trees_closed token-trees-kept i r inner rest)
      | inr p ↦ elim p [
        | inl q ↦ subst (λ (g : Forest). are_token_trees_closed g ≡ true) (sym q) (accessed-kept are_token_trees_closed token-trees-kept i r inner rest)
        | inr q ↦ subst (λ (g : Forest). are_token_trees_closed g ≡ true) (sym q) (wronged-kept are_token_trees_closed token-trees-kept i r inner rest)
      ]
    ]

token-trees-carried : Carried are_token_trees_bracketed are_token_trees_closed
unfolding are_token_trees_bracketed
token-trees-carried = record {
  kept = token-trees-kept;
  node = λ k c e. and_r _ (are_token_trees_bracketed c) (and_l _ true e);
  receiver = λ b c e. and_l (are_token_trees_bracketed c) true e;
  shown = shown-closed;
}

-- THE law of token trees.
pub document-closed : TokenTreesAreClosed
document-closed grammar edition text none =
    document-holds are_token_trees_bracketed are_token_trees_closed token-trees-carried grammar edition text none
    (token-trees-bracketed source_file (input (is_whole grammar) edition (leaves_in edition text)))
