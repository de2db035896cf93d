use Rattle.std.proofs.Common.{◌∙◌, sym, ap, get_or, refl}
use Rattle.rustc_lexer.specs.Characters.{is_id_continue}
use Rattle.rustc_lexer.specs.Lexeme.{identifier, opens_literal}
use Rattle.rustc_lexer.proofs.Reading.{reads-next, reads-skip, reads-run, reads-look, reads-give, picks-then, picks-else}
use Rattle.rustc_lexer.proofs.Runs.{run_more}
use Rattle.rustc_lexer.proofs.Wide.{continue_zero, starts_continue}
use Rattle.rustc_lexer.proofs.cursor.Cursor.identifier.Goals as goal

pub returns-then-opens_literal : goal.returns-then-opens_literal
unfolding identifier
returns-then-opens_literal c =
    let old = c.args.self.now in
    let opens = ap opens_literal (sym c.first.ensures) ∙ sym c.opens_literal.ensures ∙ c.if-opens_literal.true in
    let rest = c.eat_id_continue.ensures ∙ sym (run_more is_id_continue old continue_zero (starts_continue (get_or old 0 0) c.requires)) in
    reads-next _ (reads-skip 1 refl) (reads-next _ (reads-run _ rest) (reads-next _ (reads-look _) (reads-give (picks-then _ _ _ opens))))

pub returns-else-opens_literal : goal.returns-else-opens_literal
unfolding identifier
returns-else-opens_literal c =
    let old = c.args.self.now in
    let other = ap opens_literal (sym c.first.ensures) ∙ sym c.opens_literal.ensures ∙ c.if-opens_literal.false in
    let rest = c.eat_id_continue.ensures ∙ sym (run_more is_id_continue old continue_zero (starts_continue (get_or old 0 0) c.requires)) in
    reads-next _ (reads-skip 1 refl) (reads-next _ (reads-run _ rest) (reads-next _ (reads-look _) (reads-give (picks-else _ _ _ other))))
