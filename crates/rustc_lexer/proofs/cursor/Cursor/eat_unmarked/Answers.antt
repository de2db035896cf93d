use Rattle.std.proofs.Common.{◌∙◌, ◌==◌, ◌||◌, not, ap, drop, chars, lit<}
use Rattle.rustc_lexer.specs.Characters.{slash, star}
use Rattle.rustc_lexer.specs.Scan.{run_len}
use Rattle.rustc_lexer.proofs.Seams.{open-found}
use Rattle.rustc_lexer.proofs.Wide.{wide_not2}
use Rattle.rustc_lexer.proofs.cursor.Cursor.eat_unmarked.Goals as goal

pub range_from-self-inside-requires : goal.range_from-self-inside-requires
range_from-self-inside-requires c =
    let found = open-found (λ b. not (b == slash || b == star)) (λ b h. wide_not2 slash star b (lit< tt) (lit< tt) h) c.self.inside.rest.now c.as_bytes.result.now c.unmarked_len-n.result c.self.invariant c.as_bytes.ensures.value c.unmarked_len-n.ensures in
    λ _. found.boundary

pub returns : goal.returns
returns c =
    let found = open-found (λ b. not (b == slash || b == star)) (λ b h. wide_not2 slash star b (lit< tt) (lit< tt) h) c.self.inside.rest.now c.as_bytes.result.now c.unmarked_len-n.result c.self.invariant c.as_bytes.ensures.value c.unmarked_len-n.ensures in
    ap chars c.range_from-self-inside.ensures.value ∙ found.left ∙ ap (λ z. drop (run_len (λ b. not (b == slash || b == star)) z) z) c.self.view_is
