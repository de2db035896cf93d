-- Lemmas on changes of a text.
use Rattle.std.proofs.Common.{◌≡◌, ℕ, ◌+◌, ◌-◌, ◌<◌, ◌≤◌, List, ◌++◌, length, take, drop, Some, None, refl, ap, ◌∙◌, ◌⊎◌, nat_le, arith, inl, inr}
use Rattle.std.specs.List.{replace_range}
use Rattle.std.proofs.lemmas.Bool.{and_right, lt-leb}
use Rattle.std.proofs.lemmas.List.{length-take-le, length-drop, length-append}
use Rattle.line_index.specs.declared.encoding.Encoding.{Encoding}
use Rattle.text_changes.specs.declared.change.Change.{Change}
use Rattle.text_changes.specs.Places.{offset_in}
use Rattle.text_changes.specs.Changes.{between, changed}

-- the length of a text after a change
pub length-replaced : (text new : List ℕ) (start end : ℕ) → start ≤ end → end ≤ length text →
    length (replace_range text start end new) ≡ length text - (end - start) + length new
length-replaced text new start end le within =
    let front = length-take-le start text (omega arith) in
    let back = length-drop end text in
    rw (length-append (take start text ++ new) (drop end text), length-append (take start text) new, front, back) (omega arith)

between-none : (limit : ℕ) (text new : List ℕ) (start end : ℕ) → (end < start) ⊎ (limit < length (replace_range text start end new)) →
    between limit text new (Some start) (Some end) ≡ None
between-none limit text new start end (inl crossed) = rw (lt-leb start end crossed) refl
between-none limit text new start end (inr long) =
    rw (and_right (nat_le start end) (nat_le (length (replace_range text start end new)) limit) (lt-leb (length (replace_range text start end new)) limit long)) refl

at-places : (e : Encoding) (limit : ℕ) (text : List ℕ) (c : Change) (start end : ℕ) → offset_in e text c.start ≡ Some start →
    offset_in e text c.end ≡ Some end → changed e limit text c ≡ between limit text c.text.now (Some start) (Some end)
at-places e limit text c start end is-start is-end =
    ap (λ m. between limit text c.text.now m (offset_in e text c.end)) is-start
    ∙ ap (λ m. between limit text c.text.now (Some start) m) is-end

-- a change that is not made
pub is-kept : (e : Encoding) (limit : ℕ) (text : List ℕ) (c : Change) (start end : ℕ) → offset_in e text c.start ≡ Some start →
    offset_in e text c.end ≡ Some end → (end < start) ⊎ (limit < length (replace_range text start end c.text.now)) → changed e limit text c ≡ None
is-kept e limit text c start end is-start is-end why =
    at-places e limit text c start end is-start is-end ∙ between-none limit text c.text.now start end why
