-- What is known of a place tells which operator is next.
use Rattle.std.proofs.Common.{◌≡◌, ◌≢◌, ℕ, zero, suc, ◌≤◌, ◌==◌, Bool, true, false, not, ◌&&◌, List, length, nat_eq, Option, Some, None, refl, sym, ap, subst, ◌∙◌, arith, if◌then◌else◌, true≢false}
use Rattle.std.proofs.lemmas.Bool.{eqb-true, eq-eqb}
use Rattle.parser_input.specs.Kind.{raw_of}
use Rattle.parser_input.specs.Kinds.{EOF}
use Rattle.parser_input.specs.declared.syntax_kind.SyntaxKind.{SyntaxKind}
use Rattle.parser_events.specs.View.{View}
use Rattle.rust_grammar.specs.Rule.{Rule, One}
use Rattle.rust_grammar.specs.Meaning.{Reading, leaf, meaning, read}
use Rattle.rust_grammar.specs.Whole.{whole}
use Rattle.rust_productions.specs.Layers.{operators_at}
use Rattle.rust_productions.specs.Looks.{tokens}
use Rattle.rust_productions.specs.Operators.{IsNext}
use Rattle.rust_productions.specs.Reads.{looks, Does, Condition, is_on}
use Rattle.rust_productions.specs.Stands.{left}
use Rattle.rust_productions.specs.declared.grammar.operators.Operator.{Operator}
use Rattle.rust_productions.proofs.Choices.{is_simple, simple}
use Rattle.rust_productions.proofs.Facts.{Fact, Known, and_l, and_r, starts}
use Rattle.rust_productions.proofs.Seen.{saw-after, saw-before, starts-here, still-left}

-- a look is known, and answers so
abbrev is_so : Option Bool → Bool → Bool
is_so None b = false
is_so (Some true) b = b
is_so (Some false) b = not b

so-told : (o : Option Bool) (b : Bool) → is_so o b ≡ true → o ≡ Some b
so-told None b e = absurd (let z : false ≡ true = e in cc)
so-told (Some true) b e = ap (λ (d : Bool). Some d) (sym e)
so-told (Some false) true e = absurd (let z : false ≡ true = e in cc)
so-told (Some false) false e = refl

-- of layers 1 to the last argument, only that of height `height` has an operator here
abbrev pub are_told : List Fact → (height : ℕ) → ℕ → Bool
are_told fs h zero = true
are_told fs h (suc k) = is_so (starts fs (operators_at (suc k))) (h == suc k) && are_told fs h k

not-same : (k n : ℕ) → nat_eq k n ≡ false → k ≡ n → ⊥
not-same k n e same = true≢false (sym (eq-eqb k n same) ∙ e)

or-below : (fs : List Fact) (h n k : ℕ) → (k ≤ n → starts fs (operators_at k) ≡ Some (h == k)) → starts fs (operators_at (suc n)) ≡ Some (h == suc n) → k ≤ suc n → (b : Bool) → nat_eq k (suc n) ≡ b → starts fs (operators_at k) ≡ Some (h == k)
or-below fs h n k below here q true e = subst (λ (m : ℕ). starts fs (operators_at m) ≡ Some (h == m)) (sym (eqb-true k (suc n) e)) here
or-below fs h n k below here q false e =
    below (omega (arith, q, not-same k (suc n) e))

one-told : (fs : List Fact) (h n : ℕ) → are_told fs h n ≡ true → (k : ℕ) → 1 ≤ k → k ≤ n → starts fs (operators_at k) ≡ Some (h == k)
one-told fs h zero t k p q = absurd (omega (arith, p, q))
one-told fs h (suc n) t k p q =
    or-below fs h n k (one-told fs h n (and_r (is_so (starts fs (operators_at (suc n))) (h == suc n)) (are_told fs h n) t) k p)
    (so-told (starts fs (operators_at (suc n))) (h == suc n) (and_l (is_so (starts fs (operators_at (suc n))) (h == suc n)) (are_told fs h n) t)) q (nat_eq k (suc n)) refl

-- a rule is one leaf of kind `k` over `w` tokens
abbrev pub is_leaf : Rule → ℕ → ℕ → Bool
is_leaf (One x) k w = nat_eq x.kind k && nat_eq (length x.parts) w
is_leaf r k w = false

reads-leaf : (c : Bool) (r : Rule) (k w : ℕ) (s : Reading) → is_leaf r k w ≡ true → read looks (meaning whole) c r s ≡ leaf k w s
unfolding read
reads-leaf c (One x) k w s e =
    ap (λ (n : ℕ). leaf n (length x.parts) s) (eqb-true x.kind k (and_l (nat_eq x.kind k) (nat_eq (length x.parts) w) e))
    ∙ ap (λ (n : ℕ). leaf k n s) (eqb-true (length x.parts) w (and_r (nat_eq x.kind k) (nat_eq (length x.parts) w) e))
reads-leaf c r k w s e = absurd (let z : false ≡ true = e in cc)

-- the known facts determine the next operator
pub operator-next :
    {o : Operator} {fs : List Fact} {v : View} (h : ℕ) (k : SyntaxKind) (w : ℕ) → o ≡ record { height = h; kind = k; width = w } → h ≤ 12 → 1 ≤ w → w ≤ tokens v
    → ((c : Condition) → Known c fs v) → are_told fs h 12 ≡ true → is_leaf (simple fs (operators_at h)) (raw_of k) w ≡ true → IsNext o v
operator-next {o} {fs} {v} h k w is low some left known told one = subst (λ (p : Operator). IsNext p v) (sym is) (record {
  low = low;
  some = λ z. (some, left);
  sees = λ c j p q. starts-here (operators_at j) (known c) (one-told fs h 12 told j p q);
  reads = λ c s p e. sym (is_simple (is_on c) v fs (known c).at (operators_at h) s e) ∙ reads-leaf (is_on c) (simple fs (operators_at h)) (raw_of k) w s one;
})

-- that none is
pub none-next : {o : Operator} {fs : List Fact} {v : View} → o.height ≡ 0 → ((c : Condition) → Known c fs v) → are_told fs 0 12 ≡ true → IsNext o v
none-next {o} {fs} {v} none known told = record {
  low = omega (arith, none);
  some = λ z. absurd (omega (arith, none, z));
  sees = λ c j p q. starts-here (operators_at j) (known c) (one-told fs o.height 12 (subst (λ (n : ℕ). are_told fs n 12 ≡ true) (sym none) told) j p q);
  reads = λ c s p e. absurd (omega (arith, none, p));
}

-- An operator of one token, or the assignment with an `=` joined to it.
pub assigned-next :
    {o q : Operator} {v : View} (fs : Bool → List Fact) (joined : Bool) (h : ℕ) (k m : SyntaxKind)
    → o ≡ (if joined then record { height = 12; kind = m; width = 2 } else q) → q ≡ record { height = h; kind = k; width = 1 } → h ≤ 12 → 1 ≤ tokens v → (joined ≡ true → 2 ≤ tokens v)
    → ((b : Bool) → joined ≡ b → (c : Condition) → Known c (fs b) v)
    → are_told (fs true) 12 12 ≡ true → is_leaf (simple (fs true) (operators_at 12)) (raw_of m) 2 ≡ true
    → are_told (fs false) h 12 ≡ true → is_leaf (simple (fs false) (operators_at h)) (raw_of k) 1 ≡ true → IsNext o v
assigned-next fs true h k m is plain low some more known told one told2 one2 = operator-next 12 m 2 is (omega arith) (omega arith) (more refl) (known true refl) told one
assigned-next fs false h k m is plain low some more known told one told2 one2 = operator-next h k 1 (is ∙ plain) low (omega arith) some (known false refl) told2 one2

-- what was next is so after a look
pub next-after : {o : Operator} {old mid : View} → Does (λ s. s) old mid → IsNext o old → IsNext o mid
unfolding tokens
next-after {o} {old} {mid} p next = record {
  low = next.low;
  some = λ is. let some = next.some is in (some.0, omega (arith, some.1, ap (λ ts. length ts) (still-left p)));
  sees = λ c h q r. saw-after p (next.sees c h q r);
  reads = λ c s is e. next.reads c s is (sym (still-left p) ∙ e);
}

-- and before it
pub next-before : {o : Operator} {old mid : View} → Does (λ s. s) old mid → IsNext o mid → IsNext o old
unfolding tokens
next-before {o} {old} {mid} p next = record {
  low = next.low;
  some = λ is. let some = next.some is in (some.0, omega (arith, some.1, ap (λ ts. length ts) (still-left p)));
  sees = λ c h q r. saw-before p (next.sees c h q r);
  reads = λ c s is e. next.reads c s is (still-left p ∙ e);
}

-- no token is of the kind that ends an input
pub no-end : (k : SyntaxKind) → nat_eq (raw_of k) EOF ≡ false → raw_of k ≢ EOF
no-end k e = not-same (raw_of k) EOF e

pub some-arm : {result kind : SyntaxKind} {n : ℕ} → result ≡ kind → nat_eq (raw_of kind) EOF ≡ false → (raw_of result ≢ EOF → 1 ≤ n) → 1 ≤ n
some-arm {kind = k} is differs some = some (subst (λ (k : SyntaxKind). raw_of k ≢ EOF) (sym is) (no-end k differs))
