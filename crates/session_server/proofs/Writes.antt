-- Lemmas on bytes that are written.
use Rattle.std.proofs.Common.{◌≡◌, ℕ, ◌-◌, List, ◌++◌, length, take, drop, ap, ◌∙◌, sym, append_assoc, arith}
use Rattle.std.specs.Prelude.{Option, Some, None}
use Rattle.std.specs.Io.KnownBytes.{Appends}
use Rattle.std.proofs.lemmas.List.{take-append-drop, take_all, length-drop}

-- one after the other
pub both-appended : (old mid new : Option (List ℕ)) (first second : List ℕ) → Appends old mid first → Appends mid new second → Appends old new (first ++ second)
both-appended None mid new first second before last = tt
both-appended (Some xs) None new first second before last = absurd before
both-appended (Some xs) (Some ys) None first second before last = absurd last
both-appended (Some xs) (Some ys) (Some zs) first second before last = last ∙ ap (λ bytes. bytes ++ second) before ∙ append_assoc xs first second

-- What is written and what is left are the bytes.
pub record Left (old new : Option (List ℕ)) (bytes rest : List ℕ) : Type 0 where
  pub front : List ℕ
  pub all : bytes ≡ front ++ rest
  pub wrote : Appends old new front

-- after a write of n bytes the rest is a slice up to its end
pub left-more :
    (old mid new : Option (List ℕ)) (bytes rest : List ℕ) (n : ℕ)
    → Left old mid bytes rest → Appends mid new (take n rest) → Left old new bytes (take (length rest - n) (drop n rest))
left-more old mid new bytes rest n before last = record {
  front = before.front ++ take n rest;
  all =
      before.all ∙ ap (λ r. before.front ++ r) (sym (take-append-drop n rest)) ∙ sym (append_assoc before.front (take n rest) (drop n rest))
      ∙ ap (λ r. (before.front ++ take n rest) ++ r) (sym whole);
  wrote = both-appended old mid new before.front (take n rest) before.wrote last;
}
  where
    whole : take (length rest - n) (drop n rest) ≡ drop n rest
    whole = take_all (length rest - n) (drop n rest) (omega (arith, length-drop n rest))
