-- The tests `same_token` and `same_input` decide equality.
use Rattle.std.specs.Prelude.{◌≡◌, List, Bool, ◌&&◌, not, refl, true, false, nat_eq}
use Rattle.std.proofs.Common.{sym, subst, Decides}
use Rattle.std.proofs.lemmas.Bool.{and_parts, and_from}
use Rattle.std.specs.Cmp.{unsigned_Decides, decided, IsEquivalence}
use Rattle.std.specs.Cmp.Lexicographic.{pointwise}
use lib.Pointwise.{pointwise_decides}
use Rattle.std.proofs.lemmas.Cmp.{on_equiv}
use Rattle.parser_input.specs.Input.{Token}
use Rattle.parser_input.specs.Packed.{seen}
use Rattle.parser_input.specs.declared.input.InputToken.{InputToken}

-- two flags are equal
abbrev pub same_flag : Bool → Bool → Bool
same_flag true b = b
same_flag false b = not b

-- two tokens agree in all four parts
abbrev pub same_token : Token → Token → Bool
same_token s t = (nat_eq s.kind t.kind && nat_eq s.contextual t.contextual) && (same_flag s.joint t.joint && same_flag s.whole t.whole)

-- two inputs have as many tokens, and these agree one by one
abbrev pub same_input : List Token → List Token → Bool
same_input = pointwise same_token

flag-equal : (a b : Bool) → same_flag a b ≡ true → a ≡ b
flag-equal true true e = refl
flag-equal true false e = sym e
flag-equal false true e = e
flag-equal false false e = refl

flag-itself : (a : Bool) → same_flag a a ≡ true
flag-itself true = refl
flag-itself false = refl

token-equal : (s t : Token) → same_token s t ≡ true → s ≡ t
token-equal s t e =
    let halves = and_parts (nat_eq s.kind t.kind && nat_eq s.contextual t.contextual) (same_flag s.joint t.joint && same_flag s.whole t.whole) e in
    let kinds = and_parts (nat_eq s.kind t.kind) (nat_eq s.contextual t.contextual) halves.0 in
    let flags = and_parts (same_flag s.joint t.joint) (same_flag s.whole t.whole) halves.1 in
    λ i. record {
      kind = (unsigned_Decides s.kind t.kind).0 kinds.0 i;
      contextual = (unsigned_Decides s.contextual t.contextual).0 kinds.1 i;
      joint = flag-equal s.joint t.joint flags.0 i;
      whole = flag-equal s.whole t.whole flags.1 i;
    }

token-itself : (t : Token) → same_token t t ≡ true
token-itself t =
    and_from _ _ (and_from _ _ ((unsigned_Decides t.kind t.kind).1 refl) ((unsigned_Decides t.contextual t.contextual).1 refl)) (and_from _ _ (flag-itself t.joint) (flag-itself t.whole))

pub same_token-Decides : (s t : Token) → Decides (same_token s t) (s ≡ t)
same_token-Decides s t = (token-equal s t, λ e. subst (λ v. same_token s v ≡ true) e (token-itself s))

pub same_input-Decides : (xs ys : List Token) → Decides (same_input xs ys) (xs ≡ ys)
same_input-Decides = pointwise_decides same_token-Decides

pub same_token-equiv : IsEquivalence same_token
same_token-equiv = decided same_token same_token-Decides

pub same_input-equiv : IsEquivalence same_input
same_input-equiv = decided same_input same_input-Decides

-- the tokens of the code, seen as tokens
abbrev pub same_seen : InputToken → InputToken → Bool
same_seen a b = same_token (seen a) (seen b)

pub same_seen-equiv : IsEquivalence same_seen
same_seen-equiv = on_equiv seen same_token-equiv
