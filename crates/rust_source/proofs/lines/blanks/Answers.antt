-- A blank byte is written as it is.
use Rattle.std.proofs.Common.{◌≡◌, ℕ, ◌+◌, ◌<◌, true, List, [], ◌∷◌, ◌++◌, drop, take_while, string_bytes, length, get_or, cond, sym, ap, ◌∙◌, append_assoc}
use Rattle.std.proofs.lemmas.List.{at_drop_more}
use Rattle.std.proofs.lemmas.List.Sums.{take_while-cons}
use Rattle.rust_source.specs.Lines.{is_blank}
use Rattle.rust_source.proofs.lines.blanks.Goals.{in-32+in_ok-push-in-32, in-9+in_ok-push-in-9}
use Rattle.rust_source.proofs.lines.blanks.Goals as goal

step : (c : ℕ) (rest : List ℕ) → is_blank c ≡ true → take_while is_blank (c ∷ rest) ≡ c ∷ take_while is_blank rest
step c rest blank = take_while-cons is_blank c rest ∙ ap (λ b. cond b (c ∷ take_while is_blank rest) []) blank

one-more :
    (xs all done new : List ℕ) (i c : ℕ) → i < length xs → get_or xs i 0 ≡ c → is_blank c ≡ true → new ≡ done ++ c ∷ []
    → all ≡ done ++ take_while is_blank (drop i xs) → all ≡ new ++ take_while is_blank (drop (i + 1) xs)
one-more xs all done new i c lt is blank written so_far =
    let rest = take_while is_blank (drop (i + 1) xs) in
    so_far
    ∙ ap (λ ys. done ++ ys) (at_drop_more (take_while is_blank) xs i 0 lt ∙ ap (λ x. take_while is_blank (x ∷ drop (i + 1) xs)) is ∙ step c (drop (i + 1) xs) blank)
    ∙ sym (append_assoc done (c ∷ []) rest)
    ∙ ap (λ ys. ys ++ rest) (sym written)

pub loop-byte-preserved : goal.loop-byte-preserved
unfolding lib.Utf8.encode
loop-byte-preserved c =
    elim c.match-byte.branch [
      | in-32+in_ok-push-in-32 w ↦
          one-more c.args.line.now _ _ _ c.loop-byte.byte-index 32 c.loop-byte-test.true w.in-32.is (λ _. true) (ap string_bytes w.indent-is ∙ w.in_ok-push-in-32.ensures.bytes) c.loop-byte.invariant
      | in-9+in_ok-push-in-9 w ↦
          one-more c.args.line.now _ _ _ c.loop-byte.byte-index 9 c.loop-byte-test.true w.in-9.is (λ _. true) (ap string_bytes w.indent-is ∙ w.in_ok-push-in-9.ensures.bytes) c.loop-byte.invariant
    ]
