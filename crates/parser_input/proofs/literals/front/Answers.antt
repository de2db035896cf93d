use Rattle.std.proofs.Common.{◌≡◌, ◌∙◌, ◌+◌, ◌++◌, ◌-◌, ◌≤◌, ◌<◌, ℕ, suc, List, [], refl, sym, ap, arith, true, false, take, drop, get_or}
use Rattle.std.specs.Char.{len_utf8}
use Rattle.std.proofs.lemmas.List.{append-nil, drop-drop}
use Rattle.rustc_lexer.proofs.Alike.{none_left}
use Rattle.parser_input.specs.Messages.{front}
use Rattle.parser_input.proofs.LiteralSteps.{front-end, front-stop, front-more, uncons, take-next}
use Rattle.parser_input.proofs.literals.front.Goals as goal

pub returns-then-left-len : goal.returns-then-left-len
returns-then-left-len c =
    let rest = c.front.rest in
    let text = c.args.text.now in
    let inv = c.front.invariant in
    let some : rest ≡ [] → ⊥ = λ e. let z : true ≡ false = sym (c.is_empty.ensures.1 e) ∙ c.front-test.true in absurd (cc) in
    let stop : c.front.left < len_utf8 (get_or rest 0 0) = omega (arith, c.if-left-len.true, c.len_utf8-len.ensures.value, ap len_utf8 c.first.ensures) in
    c.until.ensures inv.0 inv.1 ∙ sym (append-nil (take inv.0 text)) ∙ ap (λ (l : List ℕ). take inv.0 text ++ l) (sym (front-stop c.front.left rest some stop)) ∙ sym inv.2

pub front-preserved : goal.front-preserved
front-preserved c =
    let rest = c.front.rest in
    let text = c.args.text.now in
    let inv = c.front.invariant in
    let k = inv.0 in
    let some : rest ≡ [] → ⊥ = λ e. let z : true ≡ false = sym (c.is_empty.ensures.1 e) ∙ c.front-test.true in absurd (cc) in
    let len : c.len_utf8-len.result ≡ len_utf8 (get_or rest 0 0) = c.len_utf8-len.ensures.value ∙ ap len_utf8 c.first.ensures in
    let goes : len_utf8 (get_or rest 0 0) ≤ c.front.left = omega (arith, c.if-left-len.false, len) in
    let more = front-more c.front.left rest some goes in
    let next = take-next k text (drop 1 rest) (front (c.front.left - len_utf8 (get_or rest 0 0)) (drop 1 rest)) (get_or rest 0 0) (sym inv.1 ∙ uncons rest some) in
    let at : c.bump.new.self ≡ drop (suc k) text = c.bump.ensures ∙ ap (λ (t : List ℕ). drop 1 t) inv.1 ∙ drop-drop 1 k text ∙ ap (λ (n : ℕ). drop n text) (let z : k + 1 ≡ suc k = omega arith in z) in
    let same : front (c.front.left - len_utf8 (get_or rest 0 0)) (drop 1 rest) ≡ front (c.front.left - c.len_utf8-len.result) c.bump.new.self =
    rw (c.bump.ensures, len) refl in
    (suc k, at, inv.2 ∙ ap (λ (l : List ℕ). take k text ++ l) more ∙ next ∙ ap (λ (l : List ℕ). take (suc k) text ++ l) same)

pub returns : goal.returns
returns c =
    let rest = c.front.rest in
    let text = c.args.text.now in
    let inv = c.front.invariant in
    let end = front-end c.front.left rest (none_left _ _ c.is_empty.ensures c.front-test.false) in
    c.until-2.ensures inv.0 inv.1 ∙ sym (append-nil (take inv.0 text)) ∙ ap (λ (l : List ℕ). take inv.0 text ++ l) (sym end) ∙ sym inv.2
