-- The last token of an input.
use Rattle.std.proofs.Common.{◌≡◌, ℕ, suc, zero, List, [], ◌∷◌, ◌++◌, length, map, get_or, ◌∙◌, ap, arith, length-append}
use Rattle.std.proofs.Math.ListN.{set}
use Rattle.parser_input.specs.Input.{Token}
use Rattle.parser_input.specs.Packed.{seen}
use Rattle.parser_input.specs.Recorded.{touching}
use Rattle.parser_input.specs.declared.input.InputToken.{InputToken}

-- a new item in place of the last token comes after the same front
pub last-set :
    (items : List InputToken) (n : ℕ) (x y : InputToken) (front : List Token) (last : Token) → suc n ≡ length items → map seen items ≡ front ++ last ∷ [] → x ≡ get_or items n x → seen y ≡ touching (seen x) → map seen (set items n y) ≡ front ++ touching last ∷ []
last-set [] n x y front last long e is same = absurd (omega arith)
last-set (i ∷ []) zero x y [] last long e is same =
    let alone : seen i ≡ last = cc in ap (λ (t : Token). t ∷ []) (same ∙ ap (λ (z : InputToken). touching (seen z)) is ∙ ap touching alone)
last-set (i ∷ []) zero x y (f ∷ fs) last long e is same =
    absurd (omega (arith, ap length e, length-append fs (last ∷ [])))
last-set (i ∷ []) (suc n) x y front last long e is same = absurd (omega arith)
last-set (i ∷ j ∷ js) zero x y front last long e is same = absurd (omega arith)
last-set (i ∷ j ∷ js) (suc n) x y [] last long e is same = absurd (omega (arith, ap length e))
last-set (i ∷ j ∷ js) (suc n) x y (f ∷ fs) last long e is same =
    let head : seen i ≡ f = cc in
    let tail : map seen (j ∷ js) ≡ fs ++ last ∷ [] = cc in
    let rest = last-set (j ∷ js) n x y fs last (omega arith) tail is same in
    ap (λ (t : Token). t ∷ map seen (set (j ∷ js) n y)) head ∙ ap (λ (l : List Token). f ∷ l) rest
