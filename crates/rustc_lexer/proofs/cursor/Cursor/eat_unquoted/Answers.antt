use Rattle.std.proofs.Common.{◌∙◌, ◌==◌, not, ap, drop, chars, lit<}
use Rattle.rustc_lexer.specs.Characters.{double_quote}
use Rattle.rustc_lexer.specs.Scan.{run_len}
use Rattle.rustc_lexer.proofs.Seams.{open-found}
use Rattle.rustc_lexer.proofs.Wide.{wide_not}
use Rattle.rustc_lexer.proofs.cursor.Cursor.eat_unquoted.Goals as goal

pub range_from-self-inside-requires : goal.range_from-self-inside-requires
range_from-self-inside-requires c =
    let found = open-found (λ b. not (b == double_quote)) (λ b h. wide_not double_quote b (lit< tt) h) c.self.inside.rest.now c.as_bytes.result.now c.unquoted_len-n.result c.self.invariant c.as_bytes.ensures.value c.unquoted_len-n.ensures in
    λ _. found.boundary

pub returns : goal.returns
returns c =
    let found = open-found (λ b. not (b == double_quote)) (λ b h. wide_not double_quote b (lit< tt) h) c.self.inside.rest.now c.as_bytes.result.now c.unquoted_len-n.result c.self.invariant c.as_bytes.ensures.value c.unquoted_len-n.ensures in
    ap chars c.range_from-self-inside.ensures.value ∙ found.left ∙ ap (λ z. drop (run_len (λ b. not (b == double_quote)) z) z) c.self.view_is
