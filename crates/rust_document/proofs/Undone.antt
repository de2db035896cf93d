-- An edit and the one that puts the old bytes back.
use Rattle.std.proofs.Common.{◌≡◌, ℕ, ◌+◌, ◌-◌, ◌≤◌, true, List, ◌++◌, take, drop, length, refl, sym, ◌∙◌, ap, arith}
use Rattle.std.specs.Str.{IsCharBoundary}
use Rattle.std.proofs.lemmas.Str.{IsCharBoundary-at_seam, IsUtf8-drop, IsUtf8-append}
use Rattle.std.proofs.lemmas.List.{append_assoc, take-append-drop, length-take-le, length-append, drop-drop}
use Rattle.std.proofs.Math.Seq.{take-append_seam, drop-append_seam}
use Rattle.rust_document.specs.Edit.{is_boundary, edited}
use Rattle.rust_document.specs.EditLaws.{bytes_between, EditsAreUndone}
use Rattle.rust_document.proofs.Boundaries.{at-start, at-end, boundary-to, editable, in-order}

-- a text in three parts
first-part : (front put back : List ℕ) (n : ℕ) → length front ≡ n → take n (front ++ put ++ back) ≡ front
first-part front put back n is = rw (← is, append_assoc front put back) (take-append_seam front (put ++ back))

last-part : (front put back : List ℕ) (n : ℕ) → length front ≡ n → drop (n + length put) (front ++ put ++ back) ≡ back
last-part front put back n is = rw (← is, ← length-append front put) (drop-append_seam (front ++ put) back)

up : (m n : ℕ) → n ≤ m → n + (m - n) ≡ m
up m n le = omega (arith, le)

whole : (text : List ℕ) (start end : ℕ) → start ≤ end → take start text ++ bytes_between text start end ++ drop end text ≡ text
whole text start end ordered =
    let after = ap (λ n. drop n text) (up end start ordered) in
    let rest = (ap (λ l. bytes_between text start end ++ l) (sym (drop-drop (end - start) start text ∙ after)) ∙ take-append-drop (end - start) (drop start text)) in
    append_assoc (take start text) (bytes_between text start end) (drop end text) ∙ ap (λ l. take start text ++ l) rest ∙ take-append-drop start text

at-seam : (bs : List ℕ) (i j : ℕ) → IsCharBoundary bs i → i ≡ j → is_boundary j bs ≡ true
at-seam bs i j is same = rw (← same) (boundary-to i bs is)

pub undone : EditsAreUndone
undone text put start end utf8 put8 can =
    let first = at-start text start end start can refl in
    let last = at-end text start end end can refl in
    let front = length-take-le start text first.0 in
    let back8 = IsUtf8-drop text end utf8 last in
    let new = edited text start end put in
    let after = IsCharBoundary-at_seam new (take start text) (put ++ drop end text) (append_assoc (take start text) put (drop end text)) (IsUtf8-append put (drop end text) put8 back8) in
    let after-put = IsCharBoundary-at_seam new (take start text ++ put) (drop end text) refl back8 in
    record {
      can_be = editable new start (start + length put) (omega arith) (at-seam new (length (take start text)) start after front)
          (at-seam new (length (take start text ++ put)) (start + length put) after-put (length-append (take start text) put ∙ ap (λ n. n + length put) front));
      old_text = rw (first-part (take start text) put (drop end text) start front, last-part (take start text) put (drop end text) start front) (whole text start end (in-order text start end can));
    }
