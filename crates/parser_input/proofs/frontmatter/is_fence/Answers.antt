use Rattle.std.proofs.Common.{◌≡◌, ◌&&◌, ◌==◌, ◌∙◌, ℕ, List, Bool, sym, ap, drop, true, false, rules, tests}
use Rattle.std.specs.List.{list_all}
use Rattle.std.proofs.lemmas.Bool.{ne_eqb, eq-eqb}
use Rattle.std.proofs.lemmas.Iterator.{YieldsList-from_chars}
use Rattle.std.proofs.lemmas.Iterator.Search.{all_from_yields_List}
use Rattle.rustc_lexer.specs.Characters.{is_horizontal_whitespace}
use Rattle.parser_input.specs.Lines.{is_fence, dashes, first_line}
use Rattle.parser_input.proofs.frontmatter.is_fence.Goals as goal

pub returns-then-eat_dashes-count : goal.returns-then-eat_dashes-count
unfolding is_fence
returns-then-eat_dashes-count c =
    let line = first_line c.args.rest.now in
    let count = c.eat_dashes.ensures.count ∙ ap (λ (t : List ℕ). dashes t) c.first_line-line.ensures in
    let other : (dashes line == c.args.count) ≡ false = ne_eqb (dashes line) c.args.count (λ e. c.if-eat_dashes-count.true (count ∙ e)) in
    sym (ap (λ (b : Bool). b && list_all is_horizontal_whitespace (drop c.args.count line)) other)

pub returns : goal.returns
unfolding is_fence
returns c =
    let line = first_line c.args.rest.now in
    let count = c.eat_dashes.ensures.count ∙ ap (λ (t : List ℕ). dashes t) c.first_line-line.ensures in
    let same : (dashes line == c.args.count) ≡ true = eq-eqb (dashes line) c.args.count (sym count ∙ c.if-eat_dashes-count.false) in
    let left = c.eat_dashes.ensures.rest ∙ ap (λ (t : List ℕ). drop (dashes t) t) c.first_line-line.ensures ∙ ap (λ (n : ℕ). drop n line) (sym count ∙ c.if-eat_dashes-count.false) in
    let all = all_from_yields_List is_horizontal_whitespace _ _ c.all.result c.all.ensures.ran (YieldsList-from_chars c.as_str.result.now c.as_str.utf8 c.chars.ensures.rest) (λ x b q k. search (rules, tests)) in
    all ∙ ap (λ (t : List ℕ). list_all is_horizontal_whitespace t) (c.as_str.ensures ∙ left)
    ∙ sym (ap (λ (b : Bool). b && list_all is_horizontal_whitespace (drop c.args.count line)) same)
