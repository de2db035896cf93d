-- Trees that stand in order over all tokens of a text cover its leaves.
use Rattle.std.proofs.Common.{◌≡◌, ℕ, suc, ◌+◌, Bool, true, false, not, ◌&&◌, ◌||◌, ◌==◌, List, [], ◌∷◌, ◌++◌, length, take, drop, Option, Some, None, refl, ap, sym, subst, ◌∙◌, arith, inl, inr, if◌then◌else◌, true≢false}
use Rattle.std.specs.List.{prefix_len}
use Rattle.std.proofs.lemmas.Bool.{cases_Bool, eqb-true, or_cases}
use Rattle.parser_input.specs.Input.{Token, input, token_of, is_joint, touches, ends_in_dot}
use Rattle.parser_input.specs.Kinds.{FLOAT_NUMBER}
use Rattle.parser_input.specs.Leaf.{Leaf, is_trivia}
use Rattle.parser_input.specs.declared.edition.Edition.{Edition}
use Rattle.parser_events.specs.Fits.{from_token, is_unbroken, is_split_at, is_none_left, covers}
use Rattle.parser_events.specs.Forest.{Forest}
use Rattle.parser_events.specs.Steps.{Step, steps}
use Rattle.parser_events.specs.Trivia.{pending}
use Rattle.rust_grammar.specs.Rule.{Spelling}
use Rattle.rust_grammar.specs.Spelled.{marks, are_next, is_token, is_contextual, is_contextual_word, has_contextual, is_one_of, is_spelled, is_float, drop_if, then_after}
use Rattle.rust_grammar.proofs.Plain.{and_l, and_r}
use Rattle.rust_grammar.proofs.Spelling.{or-first}

one-more : (n : ℕ) → 1 + n ≡ suc n
one-more n = omega arith

past-taken : (n : ℕ) (l : Leaf) (ls : List Leaf) → drop (length (take (1 + n) (l ∷ ls))) (l ∷ ls) ≡ drop (length (take n ls)) ls
past-taken n l ls = ap (λ (k : ℕ). drop (length (take k (l ∷ ls))) (l ∷ ls)) (one-more n)

past-trivia : (l : Leaf) (ls : List Leaf) → is_trivia l ≡ true → from_token (l ∷ ls) ≡ from_token ls
unfolding pending
past-trivia l ls t = rw t (past-taken (prefix_len is_trivia ls) l ls)

at-token : (l : Leaf) (ls : List Leaf) → is_trivia l ≡ false → from_token (l ∷ ls) ≡ l ∷ ls
unfolding pending
at-token l ls t = rw t refl

-- the leaf that the next token is of, and the leaves after it
record Next (wide : Bool) (edition : Edition) (ls : List Leaf) (t : Token) (ts : List Token) : Type 0 where
  pub leaf : Leaf
  pub rest : List Leaf
  pub are : from_token ls ≡ leaf ∷ rest
  pub own : is_trivia leaf ≡ false
  pub token : token_of wide edition leaf rest ≡ t
  pub more : input wide edition rest ≡ ts

next : (wide : Bool) (edition : Edition) (ls : List Leaf) (t : Token) (ts : List Token) → input wide edition ls ≡ t ∷ ts → Next wide edition ls t ts
unfolding input
next wide edition [] t ts e = absurd (let z : [] ≡ t ∷ ts = e in cc)
next wide edition (l ∷ ls) t ts e = elim (cases_Bool (is_trivia l)) [
  | inl i ↦
      let more = next wide edition ls t ts (sym (rw i refl) ∙ e) in
      record { leaf = more.leaf; rest = more.rest; are = past-trivia l ls i ∙ more.are; own = more.own; token = more.token; more = more.more }
  | inr i ↦
      let f : token_of wide edition l ls ∷ input wide edition ls ≡ t ∷ ts = sym (rw i refl) ∙ e in
      record { leaf = l; rest = ls; are = at-token l ls i; own = i; token = cc; more = cc }
]

pub no-next : (wide : Bool) (edition : Edition) (ls : List Leaf) → input wide edition ls ≡ [] → is_none_left (from_token ls) ≡ true
unfolding input pending
no-next wide edition [] e = refl
no-next wide edition (l ∷ ls) e = elim (cases_Bool (is_trivia l)) [
  | inl i ↦ ap is_none_left (past-trivia l ls i) ∙ no-next wide edition ls (sym (rw i refl) ∙ e)
  | inr i ↦ absurd (let z : token_of wide edition l ls ∷ input wide edition ls ≡ [] = sym (rw i refl) ∙ e in cc)
]

-- spellings of a token at least, none of which is a float
unfoldable pub no_float : List ℕ → Bool
no_float [] = true
no_float (k ∷ ks) = not (k == FLOAT_NUMBER) && no_float ks

unfoldable pub are_plain : List Spelling → Bool
are_plain [] = true
are_plain (x ∷ rs) = not (length x.parts == 0) && no_float x.parts && are_plain rs

pub marks-plain : are_plain marks ≡ true
unfolding are_plain no_float marks
marks-plain = refl

-- the next `count` leaves are unbroken, and the tokens of the leaves after them are `ts`
pub record Stands (wide : Bool) (edition : Edition) (count : ℕ) (ls : List Leaf) (ts : List Token) : Type 0 where
  pub unbroken : is_unbroken count ls ≡ true
  pub more : input wide edition (drop count ls) ≡ ts

is-not : (b : Bool) → not b ≡ true → b ≡ false
is-not true e = sym e
is-not false e = refl

touching : (wide : Bool) (edition : Edition) (ls : List Leaf) → touches ls ≡ true → (l : Leaf) × ((rest : List Leaf) × ((ls ≡ l ∷ rest) × (is_trivia l ≡ false)))
unfolding touches
touching wide edition [] e = absurd (true≢false (sym e))
touching wide edition (l ∷ ls) e = (l, (ls, (refl, is-not (is_trivia l) e)))

own-input : (wide : Bool) (edition : Edition) (l : Leaf) (ls : List Leaf) → is_trivia l ≡ false → input wide edition (l ∷ ls) ≡ token_of wide edition l ls ∷ input wide edition ls
unfolding input
own-input wide edition l ls e = rw e refl

joint-touches : (wide : Bool) (edition : Edition) (l : Leaf) (ls : List Leaf) (k : ℕ) → not (k == FLOAT_NUMBER) ≡ true → (l.kind == k) ≡ true → (token_of wide edition l ls).joint ≡ true → touches ls ≡ true
unfolding token_of is_joint
joint-touches wide edition l ls k plain kind joint =
    let other : (l.kind == FLOAT_NUMBER) ≡ false = ap (λ (n : ℕ). n == FLOAT_NUMBER) (eqb-true l.kind k kind) ∙ is-not (k == FLOAT_NUMBER) plain in
    sym (rw other refl) ∙ joint

unbroken-row : (wide : Bool) (edition : Edition) (k : ℕ) (ks : List ℕ) (l : Leaf) (ls : List Leaf) → is_trivia l ≡ false → no_float (k ∷ ks) ≡ true → are_next (k ∷ ks) (token_of wide edition l ls ∷ input wide edition ls) ≡ true → Stands wide edition (length (k ∷ ks)) (l ∷ ls) (drop (length ks) (input wide edition ls))
unfolding no_float are_next token_of
unbroken-row wide edition k [] l ls own plain e = record { unbroken = rw own refl; more = refl }
unbroken-row wide edition k (j ∷ ks) l ls own plain e =
    let kind = and_l (l.kind == k) (is_joint l ls) (and_l ((l.kind == k) && is_joint l ls) _ e) in
    let joint = and_r (l.kind == k) (is_joint l ls) (and_l ((l.kind == k) && is_joint l ls) _ e) in
    let after = touching wide edition ls (joint-touches wide edition l ls k (and_l (not (k == FLOAT_NUMBER)) (no_float (j ∷ ks)) plain) kind joint) in
    let same = own-input wide edition after.0 after.1.0 after.1.1.1 in
    let tokens : input wide edition ls ≡ token_of wide edition after.0 after.1.0 ∷ input wide edition after.1.0 = ap (λ (us : List Leaf). input wide edition us) after.1.1.0 ∙ same in
    let more = unbroken-row wide edition j ks after.0 after.1.0 after.1.1.1 (and_r (not (k == FLOAT_NUMBER)) (no_float (j ∷ ks)) plain)
    (subst (λ (ts : List Token). are_next (j ∷ ks) ts ≡ true) tokens (and_r ((l.kind == k) && is_joint l ls) _ e)) in
    record {
      unbroken = rw own (ap (λ (us : List Leaf). is_unbroken (length (j ∷ ks)) us) after.1.1.0 ∙ more.unbroken);
      more = ap (λ (us : List Leaf). input wide edition (drop (length (j ∷ ks)) us)) after.1.1.0 ∙ more.more ∙ ap (λ (ts : List Token). drop (length (j ∷ ks)) ts) (sym tokens);
    }

row-stands : (wide : Bool) (edition : Edition) (ks : List ℕ) (ls : List Leaf) → not (length ks == 0) ≡ true → no_float ks ≡ true → are_next ks (input wide edition ls) ≡ true → Stands wide edition (length ks) (from_token ls) (drop (length ks) (input wide edition ls))
unfolding are_next
row-stands wide edition [] ls some plain e = absurd (true≢false (sym some))
row-stands wide edition (k ∷ ks) ls some plain e = of (input wide edition ls) refl e
  where
    of : (ts : List Token) → input wide edition ls ≡ ts → are_next (k ∷ ks) ts ≡ true → Stands wide edition (length (k ∷ ks)) (from_token ls) (drop (length (k ∷ ks)) ts)
    of [] i e = absurd (true≢false (sym e))
    of (t ∷ ts) i e =
        let n = next wide edition ls t ts i in
        let row = unbroken-row wide edition k ks n.leaf n.rest n.own plain (subst (λ (u : Token). are_next (k ∷ ks) (u ∷ input wide edition n.rest) ≡ true) (sym n.token) (subst (λ (us : List Token). are_next (k ∷ ks) (t ∷ us) ≡ true) (sym n.more) e)) in
        record {
          unbroken = ap (λ (us : List Leaf). is_unbroken (length (k ∷ ks)) us) n.are ∙ row.unbroken;
          more = ap (λ (us : List Leaf). input wide edition (drop (length (k ∷ ks)) us)) n.are ∙ row.more ∙ ap (λ (us : List Token). drop (length ks) us) n.more;
        }

one-stands : (wide : Bool) (edition : Edition) (ls : List Leaf) (t : Token) (ts : List Token) → input wide edition ls ≡ t ∷ ts → Stands wide edition 1 (from_token ls) ts
one-stands wide edition ls t ts e =
    let n = next wide edition ls t ts e in
    record { unbroken = rw (n.are, n.own) refl; more = ap (λ (us : List Leaf). input wide edition (drop 1 us)) n.are ∙ n.more }

marks-stand : (wide : Bool) (edition : Edition) (rs : List Spelling) (kind count : ℕ) (ls : List Leaf) → are_plain rs ≡ true → is_one_of rs kind count (input wide edition ls) ≡ true → Stands wide edition count (from_token ls) (drop count (input wide edition ls))
unfolding are_plain is_one_of
marks-stand wide edition [] kind count ls plain e = absurd (true≢false (sym e))
marks-stand wide edition (x ∷ rs) kind count ls plain e =
    let mine = and_l (not (length x.parts == 0) && no_float x.parts) (are_plain rs) plain in
    elim (or_cases ((x.kind == kind) && (length x.parts == count) && (has_contextual x.contextual (input wide edition ls) && are_next x.parts (input wide edition ls))) (is_one_of rs kind count (input wide edition ls)) e) [
      | inl i ↦
          let same : length x.parts ≡ count = eqb-true (length x.parts) count (and_r (x.kind == kind) (length x.parts == count) (and_l ((x.kind == kind) && (length x.parts == count)) _ i)) in
          let row = row-stands wide edition x.parts ls (and_l (not (length x.parts == 0)) (no_float x.parts) mine) (and_r (not (length x.parts == 0)) (no_float x.parts) mine) (and_r (has_contextual x.contextual (input wide edition ls)) _ (and_r ((x.kind == kind) && (length x.parts == count)) _ i)) in
          subst (λ (n : ℕ). Stands wide edition n (from_token ls) (drop n (input wide edition ls))) same row
      | inr i ↦ marks-stand wide edition rs kind count ls (and_r (not (length x.parts == 0) && no_float x.parts) (are_plain rs) plain) i
    ]

some-token : (wide : Bool) (edition : Edition) (kind : ℕ) (ls : List Leaf) (ts : List Token) → input wide edition ls ≡ ts → (is_token kind ts || is_contextual_word kind ts) ≡ true → Stands wide edition 1 (from_token ls) (drop 1 ts)
unfolding is_token is_contextual is_contextual_word
some-token wide edition kind ls [] i e = absurd (true≢false (sym e))
some-token wide edition kind ls (t ∷ ts) i e = one-stands wide edition ls t ts i

pub leaf-stands : (wide : Bool) (edition : Edition) (kind count : ℕ) (ls : List Leaf) → is_spelled kind count (input wide edition ls) ≡ true → Stands wide edition count (from_token ls) (drop count (input wide edition ls))
unfolding is_spelled
leaf-stands wide edition kind count ls e = elim (or_cases ((count == 1) && (is_token kind (input wide edition ls) || is_contextual_word kind (input wide edition ls))) (is_one_of marks kind count (input wide edition ls)) e) [
  | inl i ↦ subst (λ (n : ℕ). Stands wide edition n (from_token ls) (drop n (input wide edition ls))) (sym (eqb-true count 1 (and_l (count == 1) _ i))) (some-token wide edition kind ls (input wide edition ls) refl (and_r (count == 1) _ i))
  | inr i ↦ marks-stand wide edition marks kind count ls marks-plain i
]

-- if the next token is a float, it is split as its text says
pub float-stands : (wide : Bool) (edition : Edition) (e : Bool) (ls : List Leaf) (ts : List Token) → input wide edition ls ≡ ts → is_float e ts ≡ true → (is_split_at e (from_token ls) ≡ true) × (input wide edition (drop 1 (from_token ls)) ≡ drop 1 ts)
unfolding is_float token_of is_joint
float-stands wide edition e ls [] i f = absurd (true≢false (sym f))
float-stands wide edition e ls (t ∷ ts) i f =
    let n = next wide edition ls t ts i in
    let kind : (n.leaf.kind == FLOAT_NUMBER) ≡ true = ap (λ (u : Token). u.kind == FLOAT_NUMBER) n.token ∙ and_l (t.kind == FLOAT_NUMBER) _ f in
    let joint : not (ends_in_dot n.leaf.text) ≡ t.joint = sym (rw kind refl) ∙ ap (λ (u : Token). u.joint) n.token in
    let mark : (if e then not t.joint else t.joint) ≡ true = and_r (t.kind == FLOAT_NUMBER) _ f in
    let split : is_split_at e (n.leaf ∷ n.rest) ≡ true = rw kind (marked e (ends_in_dot n.leaf.text) t.joint joint mark) in
    (ap (λ (us : List Leaf). is_split_at e us) n.are ∙ split, ap (λ (us : List Leaf). input wide edition (drop 1 us)) n.are ∙ n.more)
  where
    marked : (e d j : Bool) → not d ≡ j → (if e then not j else j) ≡ true → (if e then d else not d) ≡ true
    marked true true j i m = refl
    marked true false j i m = ap not i ∙ m
    marked false d j i m = i ∙ m

-- where trees lead: the steps after them cover the leaves that are left
pub record Covers (wide : Bool) (edition : Edition) (f : Forest) (ss : List Step) (ls : List Leaf) (us : List Token) : Type 0 where
  pub rest : List Leaf
  pub tokens : input wide edition rest ≡ us
  pub same : covers (steps f ++ ss) ls ≡ covers ss rest

pub after-some : (o : Option (List Token)) (more : List Token → Option (List Token)) (us : List Token) → then_after o more ≡ Some us → (ts : List Token) × ((o ≡ Some ts) × (more ts ≡ Some us))
unfolding then_after
after-some None more us e = absurd (let z : None ≡ Some us = e in cc)
after-some (Some ts) more us e = (ts, (refl, e))

pub dropped : (b : Bool) (n : ℕ) (ts us : List Token) → drop_if b n ts ≡ Some us → (b ≡ true) × (drop n ts ≡ us)
unfolding drop_if
dropped true n ts us e = (refl, cc)
dropped false n ts us e = absurd (let z : None ≡ Some us = e in cc)

pub token-stands : (wide : Bool) (edition : Edition) (kind : ℕ) (ls : List Leaf) → is_token kind (input wide edition ls) ≡ true → Stands wide edition 1 (from_token ls) (drop 1 (input wide edition ls))
token-stands wide edition kind ls e = some-token wide edition kind ls (input wide edition ls) refl (or-first (is_token kind (input wide edition ls)) (is_contextual_word kind (input wide edition ls)) e)
