use Rattle.std.proofs.Common.{◌≡◌, ◌∙◌, List, ℕ, ap, sym}
use Rattle.std.specs.Str.{bytes_eq}
use Rattle.token_names.specs.Names.{composed, word_of}
use Rattle.token_names.proofs.Composed.{composed-ascii}
use Rattle.token_names.proofs.names.is_same_word.Goals as goal

pub returns-then-is_ascii-2 : goal.returns-then-is_ascii-2
returns-then-is_ascii-2 c =
    let a = c.word_of-a.result.now in
    let b = c.word_of-b.result.now in
    let one : composed a ≡ a = composed-ascii a c.word_of-a.utf8 c.if-is_ascii.ensures.cases in
    let two : composed b ≡ b = composed-ascii b c.word_of-b.utf8 c.if-is_ascii-2.ensures.cases in
    c.eq.ensures
    ∙ sym (λ i. bytes_eq (one i) (two i))
    ∙ ap (λ (x : List ℕ). bytes_eq (composed x) (composed b)) c.word_of-a.ensures
    ∙ ap (λ (x : List ℕ). bytes_eq (composed (word_of c.args.a.now)) (composed x)) c.word_of-b.ensures
