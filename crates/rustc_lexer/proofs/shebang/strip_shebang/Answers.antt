use Rattle.std.proofs.Common.{◌≡◌, ◌≤◌, ◌-◌, ◌∙◌, ℕ, sym, ap, chars, take, drop, true, false, Option, Some, arith}
use Rattle.rustc_lexer.specs.Characters.{size}
use Rattle.rustc_lexer.specs.Tokens.{token_list}
use Rattle.rustc_lexer.specs.Shebang.{opens_attribute, line_len, has_shebang}
use Rattle.rustc_lexer.proofs.Alike.{two_ones}
use Rattle.rustc_lexer.proofs.Sizes.{size-parts, size-drop}
use Rattle.rustc_lexer.proofs.Lines.{shebang-none, shebang-attribute, shebang-some}
use Rattle.rustc_lexer.proofs.shebang.strip_shebang.Goals as goal

pub returns-then-not-opens_shebang : goal.returns-then-not-opens_shebang
returns-then-not-opens_shebang c =
    let none : has_shebang (chars c.args.text.now) ≡ false = cc in
    sym (shebang-none (chars c.args.text.now) none)

pub returns-then-opens_attribute : goal.returns-then-opens_attribute
returns-then-opens_attribute c =
    let text = chars c.args.text.now in
    let there : has_shebang text ≡ true = cc in
    let after : c.after-2.result ≡ drop 2 text = two_ones text (c.after.ensures ∙ ap (λ z. drop 1 z) c.new-line.ensures) c.after-2.ensures in
    let opens : opens_attribute (token_list (drop 2 text)) ≡ true =
    ap (λ z. opens_attribute (token_list z)) (sym after) ∙ ap opens_attribute (sym c.from_cursor.ensures) ∙ sym c.opens_attribute.ensures ∙ c.if-opens_attribute.true in
    sym (shebang-attribute text there opens)

pub overflow_sub-result : goal.overflow_sub-result
overflow_sub-result c =
    let less : size c.eat_first_line.new.self ≤ size c.new-line.result = rw c.eat_first_line.ensures (size-drop _ c.new-line.result) in
    omega (arith, c.remaining.ensures, c.remaining-start.ensures)

pub returns : goal.returns
returns c =
    let text = chars c.args.text.now in
    let there : has_shebang text ≡ true = cc in
    let after : c.after-2.result ≡ drop 2 text = two_ones text (c.after.ensures ∙ ap (λ z. drop 1 z) c.new-line.ensures) c.after-2.ensures in
    let opens : opens_attribute (token_list (drop 2 text)) ≡ false =
    ap (λ z. opens_attribute (token_list z)) (sym after) ∙ ap opens_attribute (sym c.from_cursor.ensures) ∙ sym c.opens_attribute.ensures ∙ c.if-opens_attribute.false in
    let left : c.eat_first_line.new.self ≡ drop (line_len text) text = c.eat_first_line.ensures ∙ ap (λ z. drop (line_len z) z) c.new-line.ensures in
    let whole : c.remaining-start.result ≡ size text = c.remaining-start.ensures ∙ ap size c.new-line.ensures in
    let rest : c.remaining.result ≡ size (drop (line_len text) text) = c.remaining.ensures ∙ ap size left in
    let parts = size-parts (line_len text) text in
    let bytes : c.remaining-start.result - c.remaining.result ≡ size (take (line_len text) text) = omega arith in
    let K : ℕ → Option ℕ = λ n. Some n in
    ap K bytes ∙ sym (shebang-some text there opens)
