-- What looks tell of the tokens left, and what they and tokens cost.
use Rattle.std.proofs.Common.{◌≡◌, ◌≢◌, ℕ, zero, suc, ◌+◌, ◌*◌, ◌^◌, ◌-◌, ◌≤◌, ◌<◌, ◌==◌, Bool, true, false, not, nat_lt, List, [], ◌∷◌, get_or, Option, length, min, nat_eq, sym, ap, subst, refl, ◌∙◌, arith}
use Rattle.std.proofs.lemmas.Bool.{eqb-true, eq-eqb, lt-ltb}
use Rattle.std.proofs.lemmas.List.{length-drop, get_or-drop}
use Rattle.parser_input.specs.Input.{Token}
use Rattle.parser_input.specs.Kind.{raw_of}
use Rattle.parser_input.specs.Kinds.{EOF}
use Rattle.parser_input.specs.Recorded.{token_at, plain}
use Rattle.parser_input.specs.declared.syntax_kind.SyntaxKind.{SyntaxKind}
use Rattle.parser_input.specs.declared.syntax_kind.SyntaxKind.TheVariants as kinds
use Rattle.parser_input.proofs.KindTable.{slice_get-kinds}
use Rattle.parser_events.specs.Marked.{Marked}
use Rattle.parser_events.specs.View.{View}
use Rattle.rust_productions.specs.Stands.{left}
use Rattle.rust_productions.specs.Looks.{tokens, spent}
use Rattle.rust_grammar.specs.Rule.{Kind, Contextual, Joint, Whole, Left}
use Rattle.rust_grammar.specs.Meaning.{Reading, sees, ahead}
use Rattle.rust_productions.specs.Reads.{Saw, Condition, On}

-- a look at a token ahead
seen-token : (v : View) (n : ℕ) → token_at v.input (v.position + n) ≡ ahead n (left v)
unfolding ahead
seen-token v n = sym (get_or-drop v.position v.input n (plain EOF)) ∙ look n (left v)
  where
    look : (n : ℕ) (ts : List Token) → get_or ts n (plain EOF) ≡ ahead n ts
    look zero [] = refl
    look (suc n) [] = refl
    look zero (t ∷ ts) = refl
    look (suc n) (t ∷ ts) = look n ts

pub kind-ahead : (v : View) (n : ℕ) → (token_at v.input (v.position + n)).kind ≡ (ahead n (left v)).kind
kind-ahead v n = ap (λ (t : Token). t.kind) (seen-token v n)

pub saw-next : (c : Condition) (n : ℕ) (v : View) (kind : ℕ) (answer : Bool) → answer ≡ nat_eq (token_at v.input (v.position + n)).kind kind → Saw c (Kind n kind) v answer
unfolding sees
saw-next c n v kind answer is = record {
  at = λ s e. ap (λ (ts : List Token). (ahead n ts).kind == kind) (sym e) ∙ ap (λ (k : ℕ). nat_eq k kind) (sym (kind-ahead v n)) ∙ sym is;
}

-- `saw-next` for raw kinds
pub saw-kind : (c : Condition) (n : ℕ) (v : View) (seen_kind raw kind : ℕ) → seen_kind ≡ (token_at v.input (v.position + n)).kind → raw ≡ kind → Saw c (Kind n kind) v (nat_eq seen_kind raw)
saw-kind c n v seen_kind raw kind is same = saw-next c n v kind _ (ap (λ (n : ℕ). nat_eq seen_kind n) same ∙ ap (λ (n : ℕ). nat_eq n kind) is)

pub saw-joint : (c : Condition) (n : ℕ) (v : View) (answer : Bool) → answer ≡ (token_at v.input (v.position + n)).joint → Saw c (Joint n) v answer
unfolding sees
saw-joint c n v answer is = record {
  at = λ s e. ap (λ (ts : List Token). (ahead n ts).joint) (sym e) ∙ ap (λ (t : Token). t.joint) (sym (seen-token v n)) ∙ sym is;
}

pub saw-whole : (c : Condition) (n : ℕ) (v : View) (answer : Bool) → answer ≡ (token_at v.input (v.position + n)).whole → Saw c (Whole n) v answer
unfolding sees
saw-whole c n v answer is = record {
  at = λ s e. ap (λ (ts : List Token). (ahead n ts).whole) (sym e) ∙ ap (λ (t : Token). t.whole) (sym (seen-token v n)) ∙ sym is;
}

-- a token that says so is left
pub some-whole : (v : View) (answer : Bool) → answer ≡ (token_at v.input (v.position + 0)).whole → answer ≡ true → 1 ≤ tokens v
unfolding tokens ahead
some-whole v answer is e = some-left (left v) (ap (λ (t : Token). t.whole) (sym (seen-token v 0)) ∙ sym is ∙ e)
  where
    some-left : (ts : List Token) → (ahead 0 ts).whole ≡ true → 1 ≤ length ts
    some-left [] h = absurd (let z : false ≡ true = h in cc)
    some-left (t ∷ ts) h = omega arith

pub saw-contextual : (c : Condition) (n : ℕ) (v : View) (seen_kind raw kind : ℕ) → seen_kind ≡ (token_at v.input (v.position + n)).contextual → raw ≡ kind → Saw c (Contextual n kind) v (nat_eq seen_kind raw)
unfolding sees
saw-contextual c n v seen_kind raw kind is same = record {
  at = λ s e.
      ap (λ (ts : List Token). (ahead n ts).contextual == kind) (sym e) ∙ ap (λ (t : Token). t.contextual == kind) (sym (seen-token v n))
      ∙ sym (ap (λ (n : ℕ). nat_eq seen_kind n) same ∙ ap (λ (n : ℕ). nat_eq n kind) is);
}

few-words : (n : ℕ) (ts : List Token) (k : ℕ) → (ahead n ts).contextual ≡ k → k ≢ EOF → n + 1 ≤ length ts
unfolding ahead
few-words n [] k e some = absurd (some (sym e))
few-words zero (t ∷ ts) k e some = omega arith
few-words (suc n) (t ∷ ts) k e some = omega (arith, few-words n ts k e some)

-- at least `n` + 1 tokens are left if a contextual keyword is `n` tokens ahead
pub some-contextual : (n : ℕ) (v : View) (seen_kind kind raw : ℕ) → seen_kind ≡ (token_at v.input (v.position + n)).contextual → nat_eq seen_kind raw ≡ true → raw ≡ kind → kind ≢ EOF → n + 1 ≤ tokens v
unfolding tokens
some-contextual n v seen_kind kind raw is same e some =
    few-words n (left v) seen_kind (sym (is ∙ ap (λ (t : Token). t.contextual) (seen-token v n))) (λ z. some (sym e ∙ sym (eqb-true seen_kind raw same) ∙ z))

-- a token of a kind is next
pub saw-arm : {c : Condition} {n : ℕ} {v : View} {result kind : SyntaxKind} → result ≡ kind → ((k : ℕ) → Saw c (Kind n k) v (raw_of result == k)) → Saw c (Kind n (raw_of kind)) v true
saw-arm {c} {n} {v} {result} {kind} is saw = subst (λ (b : Bool). Saw c (Kind n (raw_of kind)) v b) (eq-eqb (raw_of result) (raw_of kind) (ap raw_of is)) (saw (raw_of kind))

raw_of-injective : (a b : SyntaxKind) → raw_of a ≡ raw_of b → a ≡ b
raw_of-injective a b e = let f = slice_get-kinds a in let g = slice_get-kinds b in cc

-- none of that kind is
pub saw-not : {c : Condition} {n : ℕ} {v : View} {result kind : SyntaxKind} → (result ≡ kind → ⊥) → ((k : ℕ) → Saw c (Kind n k) v (raw_of result == k)) → Saw c (Kind n (raw_of kind)) v false
saw-not {c} {n} {v} {result} {kind} differs saw = subst (λ (b : Bool). Saw c (Kind n (raw_of kind)) v b) (unequal (raw_of result == raw_of kind) refl) (saw (raw_of kind))
  where
    unequal : (b : Bool) → (raw_of result == raw_of kind) ≡ b → b ≡ false
    unequal true e = absurd (differs (raw_of-injective result kind (eqb-true _ _ e)))
    unequal false e = refl

pub few-left : (n : ℕ) (ts : List Token) (k : ℕ) → (ahead n ts).kind ≡ k → k ≢ EOF → n + 1 ≤ length ts
unfolding ahead
few-left n [] k e some = absurd (some (sym e))
few-left zero (t ∷ ts) k e some = omega arith
few-left (suc n) (t ∷ ts) k e some = omega (arith, few-left n ts k e some)

-- at least one token is left if the next kind is not `EOF`
pub left-next : (v : View) (kind : ℕ) → kind ≡ (token_at v.input (v.position + 0)).kind → kind ≢ EOF → 1 ≤ tokens v
unfolding tokens
left-next v kind is some = few-left 0 (left v) kind (sym (is ∙ kind-ahead v 0)) some

pub some-ahead : (n : ℕ) (v : View) (seen_kind kind raw : ℕ) → seen_kind ≡ (token_at v.input (v.position + n)).kind → nat_eq seen_kind raw ≡ true → raw ≡ kind → kind ≢ EOF → n + 1 ≤ tokens v
unfolding tokens
some-ahead n v seen_kind kind raw is same e some =
    few-left n (left v) seen_kind (sym (is ∙ kind-ahead v n)) (λ z. some (sym e ∙ sym (eqb-true seen_kind raw same) ∙ z))

-- the kind of the next token
pub kind-of-next : {v : View} (kind : SyntaxKind) → ((c : Condition) (k : ℕ) → Saw c (Kind 0 k) v (raw_of kind == k)) → (s : Reading) → left v ≡ s.rest → (ahead 0 s.rest).kind ≡ raw_of kind
unfolding sees
kind-of-next kind saw s e = eqb-true _ _ ((saw On (raw_of kind)).at s e ∙ eq-eqb (raw_of kind) (raw_of kind) refl)

-- whether a token is left
pub saw-some : (c : Condition) (v : View) (kind : SyntaxKind) → raw_of kind ≡ (token_at v.input (v.position + 0)).kind → (v.position + 0 < length v.input → raw_of kind ≢ EOF) → Saw c Left v (not (raw_of kind == EOF))
unfolding sees ahead
saw-some c v kind is some = record { at = λ s e. ap (λ (ts : List Token). nat_lt 0 (length ts)) (sym e) ∙ end (left v) refl (raw_of kind == EOF) refl }
  where
    end : (ts : List Token) → left v ≡ ts → (b : Bool) → (raw_of kind == EOF) ≡ b → nat_lt 0 (length ts) ≡ not b
    end [] e true f = refl
    end [] e false f =
        let next : raw_of kind ≡ EOF = is ∙ kind-ahead v 0 ∙ ap (λ (us : List Token). (ahead 0 us).kind) e in
        absurd (let z : true ≡ false = sym (eq-eqb (raw_of kind) EOF next) ∙ f in cc)
    end (t ∷ ts) e true f =
        let long : 0 < length (t ∷ ts) = omega arith in
        absurd (some (omega (arith, long, ap (λ (us : List Token). length us) e, length-drop v.position v.input)) (eqb-true _ _ f))
    end (t ∷ ts) e false f = lt-ltb 0 (length (t ∷ ts)) (omega arith)

-- from what the next token is
pub left-arm : {c : Condition} {v : View} {result kind : SyntaxKind} → result ≡ kind → Saw c Left v (not (raw_of result == EOF)) → Saw c Left v (not (raw_of kind == EOF))
left-arm {c} {v} is saw = subst (λ (k : SyntaxKind). Saw c Left v (not (raw_of k == EOF))) is saw

pub left-not : {c : Condition} {v : View} {result : SyntaxKind} → (result ≡ kinds.EOF → ⊥) → Saw c Left v (not (raw_of result == EOF)) → Saw c Left v true
left-not {c} {v} {result} differs saw = subst (λ (b : Bool). Saw c Left v (not b)) (unequal (raw_of result == EOF) refl) saw
  where
    unequal : (b : Bool) → (raw_of result == EOF) ≡ b → b ≡ false
    unequal true e = absurd (differs (raw_of-injective result kinds.EOF (eqb-true _ _ e)))
    unequal false e = refl

-- a look takes no token
pub same-tokens : (old new : View) (looks : ℕ) → new ≡ record old { looks = looks } → tokens new ≡ tokens old
unfolding tokens
same-tokens old new looks same = ap (λ (v : View). length (left v)) same

-- neither do open nodes that change
pub same-left : (old new : View) (nodes : Option (List Marked)) → new ≡ record old { nodes = nodes } → tokens new ≡ tokens old
unfolding tokens
same-left old new nodes same = ap (λ (v : View). length (left v)) same

pub same-spent : (old new : View) (nodes : Option (List Marked)) → new ≡ record old { nodes = nodes } → spent new ≡ spent old
same-spent old new nodes same = omega (arith, same-left old new nodes same, ap (λ (v : View). v.looks) same)

pub one-look : (old new : View) → new ≡ record old { looks = min (old.looks + 1) (2 ^ 64 - 1) } → spent new ≤ spent old + 1
one-look old new same = omega (arith, same-tokens old new _ same, ap (λ (v : View). v.looks) same)

-- a token that is left can be taken
pub enough-left : (n : ℕ) (v : View) → n ≤ tokens v → 1 ≤ n → v.position + n ≤ length v.input
unfolding tokens
enough-left n v some one = omega (arith, some, one, length-drop v.position v.input)

pub fewer-tokens : (n : ℕ) (old new : View) {nodes : Option (List Marked)} → new ≡ record old { position = old.position + n; nodes = nodes } → n ≤ tokens old → tokens new + n ≡ tokens old
unfolding tokens
fewer-tokens n old new same some = omega (arith, some, ap (λ (v : View). length (left v)) same, length-drop old.position old.input, length-drop (old.position + n) old.input)

pub paid-looks : (n : ℕ) (old new : View) {nodes : Option (List Marked)} → new ≡ record old { position = old.position + n; nodes = nodes } → n ≤ tokens old → spent new + 4096 * n ≡ spent old
paid-looks n old new same some = omega (arith, fewer-tokens n old new same some, ap (λ (v : View). v.looks) same)
