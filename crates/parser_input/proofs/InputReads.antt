-- What a look-up in the stored tokens tells of the input.
use Rattle.std.proofs.Common.{◌≡◌, ◌∙◌, ◌≤◌, ◌<◌, ℕ, zero, suc, Bool, ◌&&◌, List, [], ◌∷◌, length, map, get_or, refl, ap, arith}
use lib.Pointwise.{pointwise}
use Rattle.parser_input.specs.Equal.{same_input, same_seen}
use Rattle.parser_input.specs.Input.{Token}
use Rattle.parser_input.specs.Kinds.{EOF}
use Rattle.parser_input.specs.Packed.{seen}
use Rattle.parser_input.specs.Recorded.{plain, token_at}
use Rattle.parser_input.specs.declared.input.InputToken.{InputToken}

get-seen : (items : List InputToken) (n : ℕ) (t : InputToken) (d : Token) → n < length items → t ≡ get_or items n t → seen t ≡ get_or (map seen items) n d
get-seen [] n t d long is = absurd (omega arith)
get-seen (i ∷ rest) zero t d long is = ap seen is
get-seen (i ∷ rest) (suc n) t d long is = get-seen rest n t d (omega arith) is

get-past : (items : List InputToken) (n : ℕ) (d : Token) → length items ≤ n → d ≡ get_or (map seen items) n d
get-past [] n d past = refl
get-past (i ∷ rest) zero d past = absurd (omega arith)
get-past (i ∷ rest) (suc n) d past = get-past rest n d (omega arith)

pub token-there : (items : List InputToken) (now : List Token) (n : ℕ) (t : InputToken) → map seen items ≡ now → n < length items → t ≡ get_or items n t → seen t ≡ token_at now n
token-there items now n t view long is = get-seen items n t (plain EOF) long is ∙ ap (λ (l : List Token). token_at l n) view

pub token-past : (items : List InputToken) (now : List Token) (n : ℕ) → map seen items ≡ now → length items ≤ n → plain EOF ≡ token_at now n
token-past items now n view past = get-past items n (plain EOF) past ∙ ap (λ (l : List Token). token_at l n) view

-- stored tokens are equal where the tokens are that they stand for
pub same-as-seen : (xs ys : List InputToken) → pointwise same_seen xs ys ≡ same_input (map seen xs) (map seen ys)
same-as-seen [] [] = refl
same-as-seen [] (y ∷ ys) = refl
same-as-seen (x ∷ xs) [] = refl
same-as-seen (x ∷ xs) (y ∷ ys) = ap (λ (b : Bool). same_seen x y && b) (same-as-seen xs ys)
