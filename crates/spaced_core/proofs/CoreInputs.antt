-- The parser's input of a well-spaced tree's text is a core file.
use Rattle.std.proofs.Common.{◌≡◌, ℕ, Bool, true, false, not, ◌&&◌, ◌==◌, List, [], ◌∷◌, ◌++◌, append-nil, append_assoc, chars, length, map, refl, sym, ◌∙◌, ap, subst, inl, inr, if◌then◌else◌}
use Rattle.std.proofs.lemmas.Bool.{cases_Bool, eqb-true}
use Rattle.rowan_green.specs.Forest.{Forest, empty, node, leaf, Tree}
use Rattle.rowan_green.specs.Leaf as green
use Rattle.parser_input.specs.Input.{Token, ends_in_dot, input, is_before_angle, touches}
use Rattle.parser_input.specs.Kind as kind
use Rattle.parser_input.specs.Kinds.{FLOAT_NUMBER, IDENT, PIPE, PIPE_GT, R_ANGLE}
use Rattle.parser_input.specs.Keywords.{contextual_kind}
use Rattle.parser_input.specs.Leaf.{Leaf, is_trivia}
use Rattle.parser_input.specs.declared.edition.Edition.{Edition}
use Rattle.parser_events.specs.Dress.{joined}
use Rattle.parser_events.specs.Forest as parser
use Rattle.core_language.specs.Language.{IsCoreFile}
use Rattle.core_language.specs.Spaced.{characters_in, composites, first_float, leaf_before, leaf_tokens, other_floats, spaced, spaced_before}
use Rattle.core_language.specs.Tokens.{joint_tokens, of_kind}
use Rattle.core_language.proofs.Respaced.{files-spaced}
use Rattle.spaced_core.specs.WellSpaced.{IsWellSpaced, characters_of, leaves_of, shape}
use Rattle.spaced_core.specs.SpacedText.{AreRead, IsLeaf, nothing, one, solid, space}
use Rattle.spaced_core.specs.Laws.{shape_of, text_leaves}
use Rattle.spaced_core.proofs.Characters.{are_steady, float-characters, name-characters, other-characters, pipe-characters, steady-kind}
use Rattle.spaced_core.proofs.CoreStarts.{solid-append}
use Rattle.spaced_core.proofs.Inputs.{before-is, float-by, float-token, float_of, leaf_by, name-by, name-token, other-by, pipe-by, pipe-token, plain-token, read-solid, read-trivia, steady-read, tokens_before, touches-solid}
use Rattle.spaced_core.proofs.SpacedLeaves.{solid-skips, solid-takes}
use Rattle.spaced_core.proofs.TreeTexts.{tree-read}

-- ---- a leaf of the tree

module _ (edition : Edition) where
  abbrev kinds : List Leaf → List ℕ
  kinds ps = map (λ p. p.kind) ps

  abbrev read : List Leaf → List Token
  read ls = input false edition ls

  solid-own : (l : Leaf) (k : ℕ) → l.kind ≡ k → kind.is_trivia k ≡ false → is_trivia l ≡ false
  unfolding is_trivia
  solid-own l k e h = ap kind.is_trivia e ∙ h

  -- leaves of one kind, or of two
  head_kind : ℕ → List ℕ → ℕ
  head_kind d [] = d
  head_kind d (k ∷ ks) = k

  first-kind : (k j : ℕ) (ks js : List ℕ) → k ∷ ks ≡ j ∷ js → k ≡ j
  unfolding head_kind
  first-kind k j ks js e = ap (head_kind k) e

  rest_kinds : List ℕ → List ℕ
  rest_kinds [] = []
  rest_kinds (k ∷ ks) = ks

  rest-kinds : (k j : ℕ) (ks js : List ℕ) → k ∷ ks ≡ j ∷ js → ks ≡ js
  unfolding rest_kinds
  rest-kinds k j ks js e = ap rest_kinds e

  no-kinds : (ps : List Leaf) → kinds ps ≡ [] → ps ≡ []
  no-kinds [] e = refl
  no-kinds (p ∷ ps) e = absurd (let z : p.kind ∷ kinds ps ≡ [] = e in cc)

  one-kind : (ps : List Leaf) (k : ℕ) → kinds ps ≡ k ∷ [] → (p : Leaf) × ((ps ≡ p ∷ []) × (p.kind ≡ k))
  one-kind [] k e = absurd (let z : [] ≡ k ∷ [] = e in cc)
  one-kind (p ∷ ps) k e = (p, (ap (λ (qs : List Leaf). p ∷ qs) (no-kinds ps (rest-kinds p.kind k (kinds ps) [] e)), first-kind p.kind k (kinds ps) [] e))

  two-kinds : (ps : List Leaf) (k j : ℕ) → kinds ps ≡ k ∷ j ∷ [] → (p : Leaf) × ((q : Leaf) × ((ps ≡ p ∷ q ∷ []) × ((p.kind ≡ k) × (q.kind ≡ j))))
  two-kinds [] k j e = absurd (let z : [] ≡ k ∷ j ∷ [] = e in cc)
  two-kinds (p ∷ ps) k j e =
      let last = one-kind ps j (rest-kinds p.kind k (kinds ps) (j ∷ []) e) in
      (p, (last.0, (ap (λ (qs : List Leaf). p ∷ qs) last.1.0, (first-kind p.kind k (kinds ps) (j ∷ []) e, last.1.1))))

  one-text : (p : Leaf) → joined (p ∷ []) ≡ p.text
  unfolding joined
  one-text p = append-nil p.text

  module _ (l : green.Leaf) (ps ms : List Leaf) (is : IsLeaf edition l ps) (t : touches ms ≡ false) where
    abbrev IsIn : Type 0
    IsIn = read (ps ++ ms) ≡ leaf_by l.kind (float_of l) (read ms)

    -- the one leaf of this kind, with the text
    alone : characters_of l.kind ≡ l.kind ∷ [] → (p : Leaf) × ((ps ≡ p ∷ []) × ((p.kind ≡ l.kind) × (p.text ≡ chars l.text)))
    alone own =
        let p = one-kind ps l.kind (is.kinds ∙ own) in
        (p.0, (p.1.0, (p.1.1, sym (one-text p.0) ∙ ap joined (sym p.1.0) ∙ is.text)))

    float-in : (l.kind == FLOAT_NUMBER) ≡ true → IsIn
    float-in f =
        let p = alone (float-characters l.kind f) in
        let own = solid-own p.0 l.kind p.1.1.0 is.solid in
        ap (λ (qs : List Leaf). read (qs ++ ms)) p.1.0
        ∙ read-solid edition p.0 ms own
        ∙ ap (λ (x : Token). x ∷ read ms) (float-token edition p.0 ms (ap (λ (n : ℕ). n == FLOAT_NUMBER) p.1.1.0 ∙ f))
        ∙ ap (λ (cs : List ℕ). of_kind FLOAT_NUMBER (not (ends_in_dot cs)) ∷ read ms) p.1.1.1
        ∙ sym (float-by l.kind (float_of l) (read ms) f)

    name-in : (l.kind == FLOAT_NUMBER) ≡ false → (l.kind == IDENT) ≡ true → l.kind ≡ IDENT → IsIn
    name-in f i e =
        let p = alone (name-characters l.kind i) in
        let own = solid-own p.0 l.kind p.1.1.0 is.solid in
        let plain = ap (contextual_kind edition) p.1.1.1 ∙ is.name e in
        ap (λ (qs : List Leaf). read (qs ++ ms)) p.1.0
        ∙ read-solid edition p.0 ms own
        ∙ ap (λ (x : Token). x ∷ read ms) (name-token edition p.0 ms (ap (λ (n : ℕ). n == IDENT) p.1.1.0 ∙ i) plain t)
        ∙ sym (name-by l.kind (float_of l) (read ms) f i)

    pipe-in : (l.kind == FLOAT_NUMBER) ≡ false → (l.kind == IDENT) ≡ false → (l.kind == PIPE_GT) ≡ true → l.kind ≡ PIPE_GT → IsIn
    pipe-in f i g e =
        let two = two-kinds ps PIPE R_ANGLE (is.kinds ∙ pipe-characters l.kind g) in
        let p = two.0 in
        let q = two.1.0 in
        let bar = solid-own p PIPE two.1.1.1.0 refl in
        let angle = solid-own q R_ANGLE two.1.1.1.1 refl in
        let before = before-is edition q ms ∙ ap (λ (n : ℕ). n == R_ANGLE) two.1.1.1.1 in
        let kind_is : (q.kind == IDENT) ≡ false = ap (λ (n : ℕ). n == IDENT) two.1.1.1.1 in
        let number_is : (q.kind == FLOAT_NUMBER) ≡ false = ap (λ (n : ℕ). n == FLOAT_NUMBER) two.1.1.1.1 in
        let bar_is : (q.kind == PIPE && is_before_angle ms) ≡ false = ap (λ (n : ℕ). n == PIPE && is_before_angle ms) two.1.1.1.1 in
        ap (λ (qs : List Leaf). read (qs ++ ms)) two.1.1.0
        ∙ read-solid edition p (q ∷ ms) bar
        ∙ ap (λ (x : Token). x ∷ read (q ∷ ms)) (pipe-token edition p (q ∷ ms) two.1.1.1.0 before (is.pipe e) (touches-solid edition q ms angle))
        ∙ ap (λ (ts : List Token). record { kind = PIPE; contextual = PIPE_GT; joint = true; whole = false } ∷ ts) (read-solid edition q ms angle ∙ ap (λ (x : Token). x ∷ read ms) (plain-token edition q ms false kind_is number_is bar_is t) ∙ ap (λ (n : ℕ). of_kind n false ∷ read ms) two.1.1.1.1)
        ∙ sym (pipe-by l.kind (float_of l) (read ms) f i g)

    other-in : (l.kind == FLOAT_NUMBER) ≡ false → (l.kind == IDENT) ≡ false → (l.kind == PIPE_GT) ≡ false → IsIn
    other-in f i g =
        let own : kinds ps ≡ characters_in composites l.kind = is.kinds ∙ other-characters l.kind g in
        let calm = steady-kind l.kind (ap not is.solid) i f in
        steady-read edition ps ms (ap are_steady own ∙ calm) t
        ∙ ap (λ (ks : List ℕ). joint_tokens ks false (read ms)) own
        ∙ sym (other-by l.kind (float_of l) (read ms) f i g)

    pub leaf-in : IsIn
    leaf-in = elim (cases_Bool (l.kind == FLOAT_NUMBER)) [
      | inl f ↦ float-in f
      | inr f ↦ elim (cases_Bool (l.kind == IDENT)) [
        | inl i ↦ name-in f i (eqb-true l.kind IDENT i)
        | inr i ↦ elim (cases_Bool (l.kind == PIPE_GT)) [
          | inl g ↦ pipe-in f i g (eqb-true l.kind PIPE_GT g)
          | inr g ↦ other-in f i g
        ]
      ]
    ]

  -- ---- all leaves

  pub all-in : (ls : List green.Leaf) (ms : List Leaf) → AreRead edition ls ms → read ms ≡ tokens_before ls []
  unfolding input
  all-in _ _ nothing = refl
  all-in ls _ (space w {ls = _} {ms} h r) = read-trivia edition w ms h ∙ all-in ls ms r
  all-in _ _ (one l ps ms {ls} {all} is t r e) =
      ap read e ∙ leaf-in l ps ms is t ∙ ap (λ (ts : List Token). leaf_by l.kind (float_of l) ts) (all-in ls ms r)

-- ---- the leaves of a shape

abbrev floats_of : List green.Leaf → List Bool
floats_of [] = []
floats_of (l ∷ ls) = if l.kind == FLOAT_NUMBER then float_of l ∷ floats_of ls else floats_of ls

floats-append : (xs ys : List green.Leaf) → floats_of (xs ++ ys) ≡ floats_of xs ++ floats_of ys
floats-append [] ys = refl
floats-append (x ∷ xs) ys = elim (cases_Bool (x.kind == FLOAT_NUMBER)) [
  | inl h ↦ rw h (ap (λ (bs : List Bool). float_of x ∷ bs) (floats-append xs ys))
  | inr h ↦ rw h (floats-append xs ys)
]

tokens-append : (xs ys : List green.Leaf) (more : List Token) → tokens_before (xs ++ ys) more ≡ tokens_before xs (tokens_before ys more)
tokens-append [] ys more = refl
tokens-append (x ∷ xs) ys more = ap (λ (ts : List Token). leaf_by x.kind (float_of x) ts) (tokens-append xs ys more)

float-before : (l : green.Leaf) (floats : List Bool) (more : List Bool → List Token) → (l.kind == FLOAT_NUMBER) ≡ true → leaf_before l.kind (float_of l ∷ floats) more ≡ leaf_by l.kind (float_of l) (more floats)
float-before l floats more h =
    ap (λ (b : Bool). if b then of_kind FLOAT_NUMBER (float_of l) ∷ more floats else leaf_tokens l.kind (more (float_of l ∷ floats))) h
    ∙ sym (float-by l.kind (float_of l) (more floats) h)

other-before : (l : green.Leaf) (floats : List Bool) (more : List Bool → List Token) → (l.kind == FLOAT_NUMBER) ≡ false → leaf_before l.kind floats more ≡ leaf_by l.kind (float_of l) (more floats)
other-before l floats more h =
    ap (λ (b : Bool). if b then of_kind FLOAT_NUMBER (first_float floats) ∷ more (other_floats floats) else leaf_tokens l.kind (more floats)) h
    ∙ ap (λ (b : Bool). if b then of_kind FLOAT_NUMBER (float_of l) ∷ more floats else leaf_tokens l.kind (more floats)) (sym h)

before-leaf : (l : green.Leaf) (ls : List green.Leaf) (floats : List Bool) (more : List Bool → List Token) → leaf_before l.kind (floats_of (l ∷ ls) ++ floats) more ≡ leaf_by l.kind (float_of l) (more (floats_of ls ++ floats))
before-leaf l ls floats more = elim (cases_Bool (l.kind == FLOAT_NUMBER)) [
  | inl h ↦
      ap (λ (b : Bool). leaf_before l.kind ((if b then float_of l ∷ floats_of ls else floats_of ls) ++ floats) more) h
      ∙ float-before l (floats_of ls ++ floats) more h
  | inr h ↦
      ap (λ (b : Bool). leaf_before l.kind ((if b then float_of l ∷ floats_of ls else floats_of ls) ++ floats) more) h
      ∙ other-before l (floats_of ls ++ floats) more h
]

abbrev solid_of : Forest → List green.Leaf
solid_of f = solid (leaves_of f)

pub leaf-shape : (l : green.Leaf) (r : Forest) → kind.is_trivia l.kind ≡ false → shape (leaf l r) ≡ parser.Leaf l.kind (length (characters_of l.kind)) (shape r)
unfolding shape
leaf-shape l r h = rw h refl

pub skip-shape : (l : green.Leaf) (r : Forest) → kind.is_trivia l.kind ≡ true → shape (leaf l r) ≡ shape r
unfolding shape
skip-shape l r h = rw h refl

-- the tokens of a shape are those of its solid leaves
abbrev IsBefore : List green.Leaf → parser.Forest → Type 0
IsBefore ls f = (floats : List Bool) (more : List Bool → List Token) → spaced_before f (floats_of ls ++ floats) more ≡ tokens_before ls (more floats)

leaf-before : (l : green.Leaf) (ls : List green.Leaf) (n : ℕ) (f : parser.Forest) → IsBefore ls f → IsBefore (l ∷ ls) (parser.Leaf l.kind n f)
unfolding spaced_before
leaf-before l ls n f next floats more =
    before-leaf l ls floats (λ left. spaced_before f left more) ∙ ap (λ (ts : List Token). leaf_by l.kind (float_of l) ts) (next floats more)

node-before : (k : ℕ) (ls ms : List green.Leaf) (f g : parser.Forest) → IsBefore ls f → IsBefore ms g → IsBefore (ls ++ ms) (parser.Node k f g)
unfolding spaced_before
node-before k ls ms f g children next floats more =
    ap (λ (bs : List Bool). spaced_before (parser.Node k f g) (bs ++ floats) more) (floats-append ls ms)
    ∙ ap (λ (bs : List Bool). spaced_before (parser.Node k f g) bs more) (append_assoc (floats_of ls) (floats_of ms) floats)
    ∙ children (floats_of ms ++ floats) (λ left. spaced_before g left more)
    ∙ ap (λ (ts : List Token). tokens_before ls ts) (next floats more)
    ∙ sym (tokens-append ls ms (more floats))

shape-before : (f : Forest) → IsBefore (solid_of f) (shape f)
unfolding spaced_before shape
shape-before empty = λ floats more. refl
shape-before (node k f r) =
    subst (λ (ls : List green.Leaf). IsBefore ls (parser.Node k (shape f) (shape r))) (sym (solid-append (leaves_of f) (leaves_of r)))
    (node-before k (solid_of f) (solid_of r) (shape f) (shape r) (shape-before f) (shape-before r))
shape-before (leaf l r) = elim (cases_Bool (kind.is_trivia l.kind)) [
  | inl h ↦
      subst (λ (f : parser.Forest). IsBefore (solid_of (leaf l r)) f) (sym (skip-shape l r h))
      (subst (λ (ls : List green.Leaf). IsBefore ls (shape r)) (sym (solid-skips l (leaves_of r) h)) (shape-before r))
  | inr h ↦
      subst (λ (f : parser.Forest). IsBefore (solid_of (leaf l r)) f) (sym (leaf-shape l r h))
      (subst (λ (ls : List green.Leaf). IsBefore ls (parser.Leaf l.kind (length (characters_of l.kind)) (shape r))) (sym (solid-takes l (leaves_of r) h))
      (leaf-before l (solid_of r) (length (characters_of l.kind)) (shape r) (shape-before r)))
]

-- ---- the input of a well-spaced tree's text

spaced-tokens : (t : Tree) → spaced (shape_of t) (floats_of (solid_of t.forest) ++ []) ≡ tokens_before (solid_of t.forest) []
unfolding spaced_before
spaced-tokens t = shape-before t.forest [] (λ left. [])

pub core-input : (edition : Edition) (t : Tree) → IsWellSpaced edition t → IsCoreFile (input false edition (text_leaves edition t)) (shape_of t)
core-input edition t w =
    let floats = floats_of (solid_of t.forest) ++ [] in
    let is : spaced (shape_of t) floats ≡ input false edition (text_leaves edition t) =
    spaced-tokens t ∙ sym (all-in edition (solid_of t.forest) (text_leaves edition t) (tree-read edition t w)) in
    subst (λ (ts : List Token). IsCoreFile ts (shape_of t)) is (files-spaced w.tokens (shape_of t) floats w.core)
