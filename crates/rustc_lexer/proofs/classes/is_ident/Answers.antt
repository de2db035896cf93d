use Rattle.std.proofs.Common.{◌≡◌, ℕ, ◌∙◌, ◌&&◌, sym, ap, true, false, chars, List, [], ◌∷◌, refl, rules, tests, length}
use Rattle.std.proofs.lemmas.Str.{chars_past_char, chars-nil}
use Rattle.std.proofs.lemmas.Iterator.{YieldsList-from_chars}
use Rattle.std.proofs.lemmas.Iterator.Search.{all_from_yields_List}
use Rattle.std.specs.List.{list_all}
use Rattle.rustc_lexer.specs.Characters.{is_ident, is_id_start, is_id_continue}
use Rattle.rustc_lexer.proofs.classes.is_ident.Goals as goal

pub returns-then-is_id_start : goal.returns-then-is_id_start
unfolding is_ident
returns-then-is_id_start c =
    let text = chars_past_char c.args.text.now c.next.new.self.rest.now c.in-Some.first c.utf8.text (sym c.chars-characters.ensures.rest ∙ c.in-Some.ensures.steps.0) in
    let rest = ap chars c.as_str.ensures in
    let all = all_from_yields_List is_id_continue _ _ c.all.result c.all.ensures.ran (YieldsList-from_chars c.as_str.result.now c.as_str.utf8 c.chars.ensures.rest) (λ x b q k. search (rules, tests)) in
    let begins : is_id_start c.in-Some.first ≡ true = sym c.is_id_start.ensures ∙ c.if-is_id_start.true in
    all ∙ ap (λ z. list_all is_id_continue z) rest
    ∙ ap (λ z. z && list_all is_id_continue (chars c.next.new.self.rest.now)) (sym begins)
    ∙ ap is_ident (sym text)

pub returns-else-is_id_start : goal.returns-else-is_id_start
unfolding is_ident
returns-else-is_id_start c =
    let text = chars_past_char c.args.text.now c.next.new.self.rest.now c.in-Some.first c.utf8.text (sym c.chars-characters.ensures.rest ∙ c.in-Some.ensures.steps.0) in
    let fails : is_id_start c.in-Some.first ≡ false = sym c.is_id_start.ensures ∙ c.if-is_id_start.false in
    c.is_id_start.ensures ∙ fails
    ∙ ap (λ z. z && list_all is_id_continue (chars c.next.new.self.rest.now)) (sym fails)
    ∙ ap is_ident (sym text)

nothing : (bs : List ℕ) → length bs ≡ 0 → bs ≡ []
nothing [] h = refl
nothing (x ∷ xs) h = cc

pub returns-in-None : goal.returns-in-None
unfolding is_ident
returns-in-None c =
    let none = nothing c.args.text.now (ap length (sym c.chars-characters.ensures.rest) ∙ c.in-None.ensures.steps.0.0) in
    sym (ap (λ z. is_ident (chars z)) none ∙ ap is_ident chars-nil)
