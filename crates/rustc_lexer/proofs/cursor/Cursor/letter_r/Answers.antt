use Rattle.std.proofs.Common.{◌≡◌, ◌∙◌, ◌==◌, ◌&&◌, ap, get_or, true, false}
use Rattle.rustc_lexer.specs.Characters.{letter_r, hash, is_id_start}
use Rattle.rustc_lexer.specs.Lexeme.{lexeme_in, opens_raw}
use Rattle.rustc_lexer.proofs.Reading.{reads-first}
use Rattle.rustc_lexer.proofs.Cases.{raw_name-case, raw_str-case, r-case, r_starts}
use Rattle.rustc_lexer.proofs.cursor.Cursor.letter_r.Goals as goal

pub returns-then-begins_raw_name : goal.returns-then-begins_raw_name
unfolding lexeme_in
returns-then-begins_raw_name c =
    let raw : (get_or c.args.self.now 1 0 == hash && is_id_start (get_or c.args.self.now 2 0)) ≡ true = cc in
    reads-first letter_r c.requires (raw_name-case _ _ raw) c.raw_identifier.ensures

pub returns-then-opens_raw : goal.returns-then-opens_raw
unfolding lexeme_in
returns-then-opens_raw c =
    let other : (get_or c.args.self.now 1 0 == hash && is_id_start (get_or c.args.self.now 2 0)) ≡ false = cc in
    let opens : opens_raw (get_or c.args.self.now 1 0) ≡ true = cc in
    reads-first letter_r c.requires (raw_str-case _ _ other opens) c.raw_string_literal.ensures

pub returns : goal.returns
unfolding lexeme_in
returns c =
    let other : (get_or c.args.self.now 1 0 == hash && is_id_start (get_or c.args.self.now 2 0)) ≡ false = cc in
    let name : opens_raw (get_or c.args.self.now 1 0) ≡ false = cc in
    reads-first letter_r c.requires (r-case _ _ other name) c.identifier.ensures

pub identifier-requires : goal.identifier-requires
identifier-requires c = ap is_id_start c.requires ∙ r_starts
