use Rattle.std.proofs.Common.{◌≡◌, ◌∙◌, ◌==◌, ◌&&◌, sym, ap, get_or, true, false}
use Rattle.std.proofs.lemmas.Bool.{ne_eqb}
use Rattle.rustc_lexer.specs.Characters.{is_id_start, letter_c, letter_r, double_quote}
use Rattle.rustc_lexer.specs.Lexeme.{lexeme_in, opens_raw}
use Rattle.rustc_lexer.proofs.Reading.{reads-first}
use Rattle.rustc_lexer.proofs.Cases.{raw_c_str-case, c_str-case, c-case, c_starts}
use Rattle.rustc_lexer.proofs.cursor.Cursor.letter_c.Goals as goal

pub returns-then-begins_raw_string : goal.returns-then-begins_raw_string
unfolding lexeme_in
returns-then-begins_raw_string c =
    let raw : (get_or c.args.self.now 1 0 == letter_r && opens_raw (get_or c.args.self.now 2 0)) ≡ true = cc in
    reads-first letter_c c.requires (raw_c_str-case _ _ raw) c.raw_string_literal.ensures

pub returns-then-second-eq34 : goal.returns-then-second-eq34
unfolding lexeme_in
returns-then-second-eq34 c =
    let raw : (get_or c.args.self.now 1 0 == letter_r && opens_raw (get_or c.args.self.now 2 0)) ≡ false = cc in
    reads-first letter_c c.requires (c_str-case _ _ raw (ap (λ z. z == double_quote) (sym c.second-second.ensures ∙ c.if-second-eq34.true))) c.string_literal.ensures

pub returns : goal.returns
unfolding lexeme_in
returns c =
    let raw : (get_or c.args.self.now 1 0 == letter_r && opens_raw (get_or c.args.self.now 2 0)) ≡ false = cc in
    reads-first letter_c c.requires (c-case _ _ raw (ap (λ z. z == double_quote) (sym c.second-second.ensures) ∙ ne_eqb _ _ c.if-second-eq34.false)) c.identifier.ensures

pub identifier-requires : goal.identifier-requires
identifier-requires c = ap is_id_start c.requires ∙ c_starts
