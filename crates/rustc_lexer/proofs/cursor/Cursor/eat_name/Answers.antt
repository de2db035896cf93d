use Rattle.std.proofs.Common.{◌≡◌, ◌∙◌, ap, sym, drop, get_or, true}
use Rattle.rustc_lexer.specs.Characters.{is_id_start, is_id_continue}
use Rattle.rustc_lexer.specs.Scan.{run_len}
use Rattle.rustc_lexer.proofs.Runs.{name_more, name_none}
use Rattle.rustc_lexer.proofs.Wide.{start_zero}
use Rattle.rustc_lexer.proofs.cursor.Cursor.eat_name.Goals as goal

pub returns-then-is_id_start : goal.returns-then-is_id_start
returns-then-is_id_start c =
    let there : is_id_start (get_or c.args.self.now 0 0) ≡ true = ap is_id_start (sym c.first.ensures) ∙ sym c.is_id_start.ensures ∙ c.if-is_id_start.true in
    c.eat_id_continue.ensures ∙ ap (λ z. drop (run_len is_id_continue z) z) c.bump.ensures ∙ name_more c.args.self.now start_zero there

pub returns-else-is_id_start : goal.returns-else-is_id_start
returns-else-is_id_start c =
    name_none c.args.self.now (ap is_id_start (sym c.first.ensures) ∙ sym c.is_id_start.ensures ∙ c.if-is_id_start.false)
