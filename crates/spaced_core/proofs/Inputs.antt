-- The parser's input of leaves that are read.
use Rattle.std.proofs.Common.{◌≡◌, ℕ, Bool, true, false, not, ◌&&◌, ◌==◌, List, [], ◌∷◌, ◌++◌, chars, map, None, refl, ◌∙◌, ap, inl, inr, unwrap_or, if◌then◌else◌}
use Rattle.std.proofs.lemmas.Bool.{and_parts, eqb-true, or_cases}
use Rattle.rowan_green.specs.Leaf as green
use Rattle.parser_input.specs.Edition.{is_from}
use Rattle.parser_input.specs.Input.{Token, ends_in_dot, input, is_before_angle, is_joint, token_of, touches}
use Rattle.parser_input.specs.Kind as kind
use Rattle.parser_input.specs.Kinds.{COMMENT, EOF, FLOAT_NUMBER, IDENT, PIPE, PIPE_GT, R_ANGLE, WHITESPACE}
use Rattle.parser_input.specs.Keywords.{contextual_kind}
use Rattle.parser_input.specs.Leaf.{Leaf, is_trivia}
use Rattle.parser_input.specs.declared.edition.Edition.{Edition}
use Rattle.parser_input.specs.declared.edition.Edition.TheVariants.{EditionNext}
use Rattle.core_language.specs.Spaced.{characters_in, composites, leaf_tokens}
use Rattle.core_language.specs.Tokens.{joint_tokens, name_token, of_kind, pipe_tokens}
use Rattle.spaced_core.proofs.Characters.{are_steady, is_steady_kind}
use Rattle.spaced_core.proofs.Sound.{is_solid}

-- whether the text of a float does not end in a dot
abbrev pub float_of : green.Leaf → Bool
float_of l = not (ends_in_dot (chars l.text))

-- a leaf's tokens before others
abbrev pub leaf_by : ℕ → Bool → List Token → List Token
leaf_by k float more =
    let number = of_kind FLOAT_NUMBER float ∷ more in
    let other = leaf_tokens k more in
    if k == FLOAT_NUMBER then number else other

abbrev pub tokens_before : List green.Leaf → List Token → List Token
tokens_before [] more = more
tokens_before (l ∷ ls) more = leaf_by l.kind (float_of l) (tokens_before ls more)

abbrev pick : Bool → Bool → Bool → List Token → List Token → List Token → List Token → List Token
pick f i p a b c d = if f then a else (if i then b else if p then c else d)

module _ (k : ℕ) (float : Bool) (more : List Token) where
  abbrev choice : Bool → Bool → Bool → List Token
  choice f i p = pick f i p (of_kind FLOAT_NUMBER float ∷ more) (name_token false ∷ more) (pipe_tokens false more) (joint_tokens (characters_in composites k) false more)

  pub float-by : (k == FLOAT_NUMBER) ≡ true → leaf_by k float more ≡ of_kind FLOAT_NUMBER float ∷ more
  float-by f = ap (λ (b : Bool). choice b (k == IDENT) (k == PIPE_GT)) f

  pub name-by : (k == FLOAT_NUMBER) ≡ false → (k == IDENT) ≡ true → leaf_by k float more ≡ name_token false ∷ more
  name-by f i = λ j. choice (f j) (i j) (k == PIPE_GT)

  pub pipe-by : (k == FLOAT_NUMBER) ≡ false → (k == IDENT) ≡ false → (k == PIPE_GT) ≡ true → leaf_by k float more ≡ pipe_tokens false more
  pipe-by f i p = λ j. choice (f j) (i j) (p j)

  pub other-by : (k == FLOAT_NUMBER) ≡ false → (k == IDENT) ≡ false → (k == PIPE_GT) ≡ false → leaf_by k float more ≡ joint_tokens (characters_in composites k) false more
  other-by f i p = λ j. choice (f j) (i j) (p j)

-- ---- what is next

trivia-angle : (m : Leaf) → is_trivia m ≡ true → (m.kind == R_ANGLE) ≡ false
unfolding is_trivia
trivia-angle m h = elim (or_cases (m.kind == WHITESPACE) (m.kind == COMMENT) h) [
  | inl a ↦ ap (λ (n : ℕ). n == R_ANGLE) (eqb-true m.kind WHITESPACE a)
  | inr a ↦ ap (λ (n : ℕ). n == R_ANGLE) (eqb-true m.kind COMMENT a)
]

not-true : (b : Bool) → not b ≡ false → b ≡ true
not-true true h = refl
not-true false h = absurd (cc)

not-false : (b : Bool) → not b ≡ true → b ≡ false
not-false true h = absurd (cc)
not-false false h = refl

pub no-angle : (ms : List Leaf) → touches ms ≡ false → is_before_angle ms ≡ false
unfolding touches is_before_angle
no-angle [] h = refl
no-angle (m ∷ ms) h = trivia-angle m (not-true (is_trivia m) h)

-- ---- tokens

module _ (edition : Edition) where
  abbrev read : List Leaf → List Token
  read ls = input false edition ls

  pub read-solid : (l : Leaf) (ls : List Leaf) → is_trivia l ≡ false → read (l ∷ ls) ≡ token_of false edition l ls ∷ read ls
  unfolding input
  read-solid l ls h = ap (λ (b : Bool). if b then input false edition ls else token_of false edition l ls ∷ input false edition ls) h

  pub read-trivia : (l : Leaf) (ls : List Leaf) → is_trivia l ≡ true → read (l ∷ ls) ≡ read ls
  unfolding input
  read-trivia l ls h = ap (λ (b : Bool). if b then input false edition ls else token_of false edition l ls ∷ input false edition ls) h

  abbrev pub token : ℕ → ℕ → Bool → Token
  token k c j = record { kind = k; contextual = c; joint = j; whole = false }

  context : Bool → Bool → ℕ → ℕ
  context i p w = if i then w else (if p then PIPE_GT else EOF)

  marks : (p a f : Bool) → (p && a) ≡ false → (p && (a && f)) ≡ false
  marks true true f h = absurd (let z : true ≡ false = h in cc)
  marks true false f h = refl
  marks false a f h = refl

  -- a token that is neither a name nor a float, and no `|` before `>`
  pub plain-token : (l : Leaf) (next : List Leaf) (j : Bool) → (l.kind == IDENT) ≡ false → (l.kind == FLOAT_NUMBER) ≡ false → (l.kind == PIPE && is_before_angle next) ≡ false → touches next ≡ j → token_of false edition l next ≡ of_kind l.kind j
  unfolding token_of is_joint context
  plain-token l next j i f p t =
      let word = unwrap_or (contextual_kind edition l.text) IDENT in
      let mark = marks (l.kind == PIPE) (is_before_angle next) (is_from EditionNext edition) p in
      λ d. token l.kind (context (i d) (mark d) word) (if f d then not (ends_in_dot l.text) else t d)

  pub name-token : (l : Leaf) (next : List Leaf) → (l.kind == IDENT) ≡ true → contextual_kind edition l.text ≡ None → touches next ≡ false → token_of false edition l next ≡ name_token false
  unfolding token_of is_joint context
  name-token l next i none t =
      let own : l.kind ≡ IDENT = eqb-true l.kind IDENT i in
      let float : (l.kind == FLOAT_NUMBER) ≡ false = ap (λ (n : ℕ). n == FLOAT_NUMBER) own in
      λ d. token (own d) (context (i d) (l.kind == PIPE && (is_before_angle next && is_from EditionNext edition)) (unwrap_or (none d) IDENT)) (if float d then not (ends_in_dot l.text) else t d)

  pub float-token : (l : Leaf) (next : List Leaf) → (l.kind == FLOAT_NUMBER) ≡ true → token_of false edition l next ≡ of_kind FLOAT_NUMBER (not (ends_in_dot l.text))
  unfolding token_of is_joint context
  float-token l next f =
      let own : l.kind ≡ FLOAT_NUMBER = eqb-true l.kind FLOAT_NUMBER f in
      let name : (l.kind == IDENT) ≡ false = ap (λ (n : ℕ). n == IDENT) own in
      let pipe : (l.kind == PIPE && (is_before_angle next && is_from EditionNext edition)) ≡ false = ap (λ (n : ℕ). n == PIPE && (is_before_angle next && is_from EditionNext edition)) own in
      λ d. token (own d) (context (name d) (pipe d) (unwrap_or (contextual_kind edition l.text) IDENT)) (if f d then not (ends_in_dot l.text) else touches next)

  pub pipe-token : (l : Leaf) (next : List Leaf) → l.kind ≡ PIPE → is_before_angle next ≡ true → is_from EditionNext edition ≡ true → touches next ≡ true → token_of false edition l next ≡ token PIPE PIPE_GT true
  unfolding token_of is_joint context
  pipe-token l next own a n t =
      let name : (l.kind == IDENT) ≡ false = ap (λ (n : ℕ). n == IDENT) own in
      let float : (l.kind == FLOAT_NUMBER) ≡ false = ap (λ (n : ℕ). n == FLOAT_NUMBER) own in
      let is : (l.kind == PIPE) ≡ true = ap (λ (n : ℕ). n == PIPE) own in
      λ d. token (own d) (context (name d) (is d && (a d && n d)) (unwrap_or (contextual_kind edition l.text) IDENT)) (if float d then not (ends_in_dot l.text) else t d)

  -- ---- steady characters

  abbrev kinds : List Leaf → List ℕ
  kinds ps = map (λ p. p.kind) ps

  record Steady (k : ℕ) : Type 0 where
    solid : is_solid k ≡ true
    name : (k == IDENT) ≡ false
    float : (k == FLOAT_NUMBER) ≡ false

  steady : (k : ℕ) → is_steady_kind k ≡ true → Steady k
  unfolding is_steady_kind
  steady k h =
      let a = and_parts (is_solid k) (not (k == IDENT) && not (k == FLOAT_NUMBER)) h in
      let b = and_parts (not (k == IDENT)) (not (k == FLOAT_NUMBER)) a.1 in
      record { solid = a.0; name = not-false (k == IDENT) b.0; float = not-false (k == FLOAT_NUMBER) b.1 }

  own-solid : (l : Leaf) → is_solid l.kind ≡ true → is_trivia l ≡ false
  unfolding is_trivia
  own-solid l h = not-false (kind.is_trivia l.kind) h

  first-steady : (k j : ℕ) (ks : List ℕ) → are_steady (k ∷ j ∷ ks) ≡ true → (is_steady_kind k ≡ true) × ((k == PIPE && j == R_ANGLE) ≡ false) × (are_steady (j ∷ ks) ≡ true)
  unfolding are_steady
  first-steady k j ks h =
      let a = and_parts (is_steady_kind k) (not (k == PIPE && j == R_ANGLE) && are_steady (j ∷ ks)) h in
      let b = and_parts (not (k == PIPE && j == R_ANGLE)) (are_steady (j ∷ ks)) a.1 in
      (a.0, not-false (k == PIPE && j == R_ANGLE) b.0, b.1)

  last-steady : (k : ℕ) → are_steady (k ∷ []) ≡ true → is_steady_kind k ≡ true
  unfolding are_steady
  last-steady k h = h

  head-steady : (k : ℕ) (ks : List ℕ) → are_steady (k ∷ ks) ≡ true → is_steady_kind k ≡ true
  head-steady k [] h = last-steady k h
  head-steady k (j ∷ ks) h = (first-steady k j ks h).0

  none-steady : are_steady [] ≡ true → ⊥
  unfolding are_steady
  none-steady h = cc

  and-none : (a b : Bool) → b ≡ false → (a && b) ≡ false
  and-none true b h = h
  and-none false b h = refl

  pub touches-solid : (q : Leaf) (qs : List Leaf) → is_trivia q ≡ false → touches (q ∷ qs) ≡ true
  unfolding touches
  touches-solid q qs h = ap not h

  pub before-is : (q : Leaf) (qs : List Leaf) → is_before_angle (q ∷ qs) ≡ (q.kind == R_ANGLE)
  unfolding is_before_angle
  before-is q qs = refl

  pub steady-read : (ps ms : List Leaf) → are_steady (kinds ps) ≡ true → touches ms ≡ false → read (ps ++ ms) ≡ joint_tokens (kinds ps) false (read ms)
  steady-read [] ms h t = absurd (none-steady h)
  steady-read (p ∷ []) ms h t =
      let s = steady p.kind (last-steady p.kind h) in
      let alone = and-none (p.kind == PIPE) (is_before_angle ms) (no-angle ms t) in
      read-solid p ms (own-solid p s.solid) ∙ ap (λ (x : Token). x ∷ read ms) (plain-token p ms false s.name s.float alone t)
  steady-read (p ∷ q ∷ ps) ms h t =
      let three = first-steady p.kind q.kind (kinds ps) h in
      let s = steady p.kind three.0 in
      let next = steady q.kind (head-steady q.kind (kinds ps) three.2) in
      let alone = ap (λ (b : Bool). p.kind == PIPE && b) (before-is q (ps ++ ms)) ∙ three.1 in
      read-solid p (q ∷ ps ++ ms) (own-solid p s.solid)
      ∙ ap (λ (x : Token). x ∷ read (q ∷ ps ++ ms)) (plain-token p (q ∷ ps ++ ms) true s.name s.float alone (touches-solid q (ps ++ ms) (own-solid q next.solid)))
      ∙ ap (λ (ts : List Token). of_kind p.kind true ∷ ts) (steady-read (q ∷ ps) ms three.2 t)
