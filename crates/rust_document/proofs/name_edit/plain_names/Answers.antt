-- A range's text begins the text from there on.
use Rattle.std.proofs.Common.{◌≡◌, ◌-◌, List, ℕ, chars, length, sym, ap, ◌∙◌, subst, arith, refl}
use Rattle.std.specs.Str.{IsUtf8}
use Rattle.rustc_lexer.specs.Tokens.{first_lexeme}
use Rattle.rust_document.proofs.NameEdits.{part-at, part-behind, part-first}
use Rattle.rust_document.proofs.name_edit.plain_names.Goals as goal

pub is_identifier-requires : goal.is_identifier-requires
is_identifier-requires c =
    part-first c.args.edit.now.before.now c.in_ok-old.old.now c.in_ok-rest.rest.now _ _ _ refl (c.in_ok-old.ensures) (c.in_ok-rest.ensures)

pub returns : goal.returns
returns c =
    let before = c.args.edit.now.before.now in
    let start = c.args.range.start.0 in
    let at : c.from-start.result ≡ start = cc in
    let to : c.from-end.result ≡ c.args.range.end.0 = cc in
    let rest = part-behind before c.in_ok-rest.rest.now start (part-at before c.in_ok-rest.rest.now _ _ start (length before) at refl (c.in_ok-rest.ensures)) in
    record {
      back = omega (arith, to, c.if-edit-end.false);
      old_is = part-at before c.in_ok-old.old.now _ _ start c.args.range.end.0 at to (c.in_ok-old.ensures);
      new_is = part-at c.args.edit.now.after.now c.in_ok-new.new.now _ _ start _ at (ap (λ (n : ℕ). length c.args.edit.now.after.now - (length before - n)) to) (c.in_ok-new.ensures);
      old_plain = sym c.is_plain_name.ensures ∙ c.if-not-is_plain_name.false;
      new_plain = sym c.is_plain_name-else-not-is_plain_name.ensures ∙ c.if-not-is_plain_name-2.false;
      rest_text = subst IsUtf8 rest (c.in_ok-rest.ensures).utf8;
      is_token = ap (λ (z : List ℕ). first_lexeme (chars z)) (sym rest) ∙ c.is_identifier.ensures.0 c.if-not-is_identifier.false;
    }
