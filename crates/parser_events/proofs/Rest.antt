-- Lemmas about the tokens of an input that are not taken yet.
use Rattle.std.proofs.Common.{◌≡◌, ℕ, ◌+◌, ◌-◌, ◌≤◌, List, [], ◌∷◌, length, drop, ap, ◌∙◌, arith}
use Rattle.std.proofs.lemmas.List.{length-drop, drop-drop, get_or-drop}
use Rattle.parser_input.specs.Input.{Token}
use Rattle.parser_input.specs.Kinds.{EOF, FLOAT_NUMBER}
use Rattle.parser_input.specs.Recorded.{token_at, plain}
use Rattle.parser_events.specs.View.{IsRest}

pub rest-all : (xs : List Token) → IsRest xs xs
rest-all xs =
    let none : 0 ≡ length xs - length xs = omega arith in record { count = omega arith; tokens = ap (λ n. drop n xs) none }

pub rest-token : (rest xs : List Token) (n : ℕ) → IsRest rest xs → token_at rest n ≡ token_at xs (length xs - length rest + n)
rest-token rest xs n h = ap (λ l. token_at l n) h.tokens ∙ get_or-drop (length xs - length rest) xs n (plain EOF)

pub rest-take : (rest left xs : List Token) (n : ℕ) → IsRest rest xs → n ≤ length rest → left ≡ drop n rest → IsRest left xs
rest-take rest left xs n h k e =
    let size : length left ≡ length rest - n = ap length e ∙ length-drop n rest in record {
      count = omega (arith, size, h.count);
      tokens = e ∙ ap (drop n) h.tokens ∙ drop-drop n (length xs - length rest) xs ∙ ap (λ m. drop m xs) (omega (arith, size, h.count, k));
    }

pub rest-float : (rest : List Token) → (token_at rest 0).kind ≡ FLOAT_NUMBER → 1 ≤ length rest
rest-float [] h = absurd (omega (arith, h))
rest-float (t ∷ ts) h = omega arith
