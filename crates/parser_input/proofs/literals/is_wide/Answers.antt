use Rattle.std.proofs.Common.{◌∙◌, Bool, ℕ, List, ap, rules, tests}
use Rattle.std.specs.Prelude.{leb}
use Rattle.std.specs.List.{list_any}
use Rattle.std.proofs.lemmas.Iterator.{YieldsList-from_chars}
use Rattle.std.proofs.lemmas.Iterator.Search.{any_from_yields_List}
use Rattle.parser_input.specs.Messages.{is_wide}
use Rattle.parser_input.proofs.literals.is_wide.Goals as goal

pub returns : goal.returns
unfolding is_wide
returns c =
    let p : ℕ → Bool = λ c. leb 128 c in
    any_from_yields_List p _ _ c.any.result c.any.ensures.ran (YieldsList-from_chars c.as_str.result.now c.as_str.utf8 c.chars.ensures.rest) (λ x b q k. search (rules, tests))
    ∙ ap (λ (t : List ℕ). list_any p t) c.as_str.ensures
