use Rattle.std.proofs.Common.{◌∙◌, sym, ap, get_or, subst}
use Rattle.rustc_lexer.specs.Characters.{is_id_start, is_whitespace}
use Rattle.rustc_lexer.specs.Lexeme.{lexeme_in, sign}
use Rattle.rustc_lexer.proofs.Plain.{PlainName, PlainSign, plain-name, plain-sign}
use Rattle.rustc_lexer.proofs.Reading.{reads-lexeme, reads-next, reads-look, reads-skip, reads-give}
use Rattle.rustc_lexer.proofs.Cases.{blank-case, name-case, single-case}
use Rattle.rustc_lexer.proofs.cursor.Cursor.lexeme.Goals as goal

pub identifier-requires : goal.identifier-requires
identifier-requires c = ap is_id_start (sym c.first-first.ensures) ∙ (plain-name c.first-first.result (sym c.begins_plain_name.ensures ∙ c.if-begins_plain_name.true)).starts

pub returns-then-begins_plain_name : goal.returns-then-begins_plain_name
unfolding lexeme_in
returns-then-begins_plain_name c =
    let name : PlainName (get_or c.args.self.now 0 0) = subst PlainName c.first-first.ensures (plain-name c.first-first.result (sym c.begins_plain_name.ensures ∙ c.if-begins_plain_name.true)) in
    reads-lexeme (name-case _ _ _ name.plain name.starts) c.identifier.ensures

pub bump_ascii-requires-clause-some : goal.bump_ascii-requires-clause-some
bump_ascii-requires-clause-some c =
    let here : PlainSign (get_or c.args.self.now 0 0) = subst PlainSign c.first-first.ensures (plain-sign c.first-first.result (sym c.is_plain_sign.ensures ∙ c.if-is_plain_sign.true)) in
    here.some

pub bump_ascii-requires-clause-ascii : goal.bump_ascii-requires-clause-ascii
bump_ascii-requires-clause-ascii c =
    let here : PlainSign (get_or c.args.self.now 0 0) = subst PlainSign c.first-first.ensures (plain-sign c.first-first.result (sym c.is_plain_sign.ensures ∙ c.if-is_plain_sign.true)) in
    here.ascii

pub returns-then-is_plain_sign : goal.returns-then-is_plain_sign
unfolding lexeme_in
returns-then-is_plain_sign c =
    let here : PlainSign (get_or c.args.self.now 0 0) = subst PlainSign c.first-first.ensures (plain-sign c.first-first.result (sym c.is_plain_sign.ensures ∙ c.if-is_plain_sign.true)) in
    reads-lexeme (single-case _ _ _ here.plain here.name here.digit here.ticks here.quotes here.hashes)
    (reads-next _ (reads-look _) (reads-next _ (reads-skip 1 c.bump_ascii.ensures) (reads-give (ap sign (sym c.first-first.ensures) ∙ sym c.sign.ensures))))

pub whitespace-requires : goal.whitespace-requires
whitespace-requires c = ap is_whitespace (sym c.first-first.ensures) ∙ sym c.is_whitespace.ensures ∙ c.if-is_whitespace.true

pub returns-then-is_whitespace : goal.returns-then-is_whitespace
returns-then-is_whitespace c =
    reads-lexeme (blank-case _ _ _ (ap is_whitespace (sym c.first-first.ensures) ∙ sym c.is_whitespace.ensures ∙ c.if-is_whitespace.true)) c.whitespace.ensures
