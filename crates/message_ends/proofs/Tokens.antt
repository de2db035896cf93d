-- Tokens come in order.
use Rattle.std.proofs.Common.{◌≡◌, ℕ, ◌+◌, ◌<◌, ◌≤◌, ◌==◌, Bool, false, if◌then◌else◌, List, [], ◌∷◌, length, map, Option, Some, refl, ap, ◌∙◌, subst, arith, rules}
use Rattle.rowan_green.specs.Leaf as green
use Rattle.parser_input.specs.declared.edition.Edition.{Edition}
use Rattle.rust_document.specs.Reading.{leaves_in}
use Rattle.rust_document.specs.Seen.{in_bytes}
use Rattle.rust_document.specs.Tokens.{Span, span_of, spans_from, tokens_of}
use Rattle.rust_document.specs.declared.tokens.LexedToken.{LexedToken}
use Rattle.message_ends.specs.Ends.{token_end}
use Rattle.message_ends.specs.TokensLeft.{all_left, BeginFrom}

begin-earlier : (n m : ℕ) (ts : List Span) → n ≤ m → BeginFrom m ts → BeginFrom n ts
begin-earlier n m [] before from = tt
begin-earlier n m (t ∷ ts) before from = (omega (arith, before, from.0), from.1)

spans-in-order : (start : ℕ) (ls : List green.Leaf) → BeginFrom start (spans_from start ls)
spans-in-order start [] = tt
spans-in-order start (l ∷ ls) =
    (omega arith, begin-earlier start (start + length l.text) _ (omega arith) (spans-in-order (start + length l.text) ls))

pub tokens-in-order : (edition : Edition) (text : List ℕ) → BeginFrom 0 (tokens_of edition text)
tokens-in-order edition text = spans-in-order 0 (map in_bytes (leaves_in edition text))

-- where the first begins behind a place, none begins there
pub none-begins : (place n : ℕ) (ts : List Span) → place < n → BeginFrom n ts → token_end place ts ≡ place
none-begins place n [] behind from = refl
none-begins place n (t ∷ ts) behind from =
    let rest = none-begins place t.start ts (omega (arith, behind, from.0)) from.1 in
    let other : (t.start == place) ≡ false = search (rules, arith) in
    ap (λ (b : Bool). if b then t.end else token_end place ts) other ∙ rest

pub none-left : (first : Option LexedToken) (after : List LexedToken) (token : LexedToken) (place : ℕ) → first ≡ Some token → place < token.range.start.0
    → BeginFrom 0 (map span_of (all_left first after)) → token_end place (map span_of (all_left first after)) ≡ place
none-left first after token place is behind from =
    let rest = subst (λ (o : Option LexedToken). BeginFrom 0 (map span_of (all_left o after))) is from in
    rw is (none-begins place token.range.start.0 (span_of token ∷ map span_of after) behind (omega arith, rest.1))
