use Rattle.std.proofs.Common.{◌≡◌, ◌∙◌, ◌==◌, sym, ap, get_or}
use Rattle.std.proofs.lemmas.Bool.{ne_eqb}
use Rattle.rustc_lexer.specs.Characters.{slash, letter_r, letter_b, letter_c, tick, double_quote, hash, is_whitespace, is_id_start, is_digit}
use Rattle.rustc_lexer.specs.Lexeme.{lexeme_in}
use Rattle.rustc_lexer.proofs.Plain.{Plain}
use Rattle.rustc_lexer.proofs.Reading.{reads-lexeme, reads-first}
use Rattle.rustc_lexer.proofs.Cases.{name-case, number-case, str-case, single-case}
use Rattle.rustc_lexer.proofs.cursor.Cursor.rarer_lexeme.Goals as goal

pub identifier-requires : goal.identifier-requires
identifier-requires c = ap is_id_start (sym c.requires.first) ∙ sym c.is_id_start.ensures ∙ c.if-is_id_start.true

pub returns-then-is_id_start : goal.returns-then-is_id_start
unfolding lexeme_in
returns-then-is_id_start c =
    let a : get_or c.args.self.now 0 0 ≡ c.args.first = sym c.requires.first in
    let plain : Plain (get_or c.args.self.now 0 0) = record {
      white = ap is_whitespace a ∙ c.requires.white;
      slashes = ap (λ z. z == slash) a ∙ ne_eqb _ _ c.if-first-eq47.false;
      r = ap (λ z. z == letter_r) a ∙ ne_eqb _ _ c.if-first-eq114.false;
      b = ap (λ z. z == letter_b) a ∙ ne_eqb _ _ c.if-first-eq98.false;
      c = ap (λ z. z == letter_c) a ∙ ne_eqb _ _ c.if-first-eq99.false;
    } in
    let starts = ap is_id_start a ∙ sym c.is_id_start.ensures ∙ c.if-is_id_start.true in
    reads-lexeme (name-case _ _ _ plain starts) c.identifier.ensures

pub returns-then-is_digit : goal.returns-then-is_digit
unfolding lexeme_in
returns-then-is_digit c =
    let a : get_or c.args.self.now 0 0 ≡ c.args.first = sym c.requires.first in
    let plain : Plain (get_or c.args.self.now 0 0) = record {
      white = ap is_whitespace a ∙ c.requires.white;
      slashes = ap (λ z. z == slash) a ∙ ne_eqb _ _ c.if-first-eq47.false;
      r = ap (λ z. z == letter_r) a ∙ ne_eqb _ _ c.if-first-eq114.false;
      b = ap (λ z. z == letter_b) a ∙ ne_eqb _ _ c.if-first-eq98.false;
      c = ap (λ z. z == letter_c) a ∙ ne_eqb _ _ c.if-first-eq99.false;
    } in
    let other = ap is_id_start a ∙ sym c.is_id_start.ensures ∙ c.if-is_id_start.false in
    let digit = ap is_digit a ∙ sym c.is_digit.ensures ∙ c.if-is_digit.true in
    reads-lexeme (number-case _ _ _ plain other digit) c.number_literal.ensures

pub returns-then-first-eq34 : goal.returns-then-first-eq34
unfolding lexeme_in
returns-then-first-eq34 c = reads-first double_quote (sym c.requires.first ∙ c.if-first-eq34.true) (str-case _ _) c.string_literal.ensures

pub returns : goal.returns
returns c =
    let a : get_or c.args.self.now 0 0 ≡ c.args.first = sym c.requires.first in
    let plain : Plain (get_or c.args.self.now 0 0) = record {
      white = ap is_whitespace a ∙ c.requires.white;
      slashes = ap (λ z. z == slash) a ∙ ne_eqb _ _ c.if-first-eq47.false;
      r = ap (λ z. z == letter_r) a ∙ ne_eqb _ _ c.if-first-eq114.false;
      b = ap (λ z. z == letter_b) a ∙ ne_eqb _ _ c.if-first-eq98.false;
      c = ap (λ z. z == letter_c) a ∙ ne_eqb _ _ c.if-first-eq99.false;
    } in
    let other = ap is_id_start a ∙ sym c.is_id_start.ensures ∙ c.if-is_id_start.false in
    let none = ap is_digit a ∙ sym c.is_digit.ensures ∙ c.if-is_digit.false in
    let t = ap (λ z. z == tick) a ∙ ne_eqb _ _ c.if-first-eq39.false in
    let q = ap (λ z. z == double_quote) a ∙ ne_eqb _ _ c.if-first-eq34.false in
    let h = ap (λ z. z == hash) a ∙ ne_eqb _ _ c.if-first-eq35.false in
    reads-lexeme (single-case _ _ _ plain other none t q h) c.single.ensures
