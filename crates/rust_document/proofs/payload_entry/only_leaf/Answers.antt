-- What was tested, test by test.
use Rattle.std.proofs.Common.{List, ℕ, Option, Some, option_map, ap, sym, ◌∙◌}
use Rattle.std.specs.Borrow.{Bor}
use Rattle.parser_input.specs.Kind.{raw_of}
use Rattle.parser_input.specs.Stored.{bytes_of}
use Rattle.rust_document.proofs.Payloads.{too_long, one_token, faulty_token, with_message, not_one}
use Rattle.rust_document.proofs.payload_entry.only_leaf.Goals as goal

pub returns-then-text-gt-MAX_TEXT-clause-refused : goal.returns-then-text-gt-MAX_TEXT-clause-refused
returns-then-text-gt-MAX_TEXT-clause-refused c number = too_long c.args.edition c.args.text.now c.if-text-gt-MAX_TEXT.true

pub returns-then-branch-clause-refused : goal.returns-then-branch-clause-refused
returns-then-branch-clause-refused c number =
    with_message c.args.edition c.args.text.now c.if-text-gt-MAX_TEXT.false (sym c.if-branch.true ∙ c.in_ok-has_messages-in-None.ensures)

pub returns-in-Some-default-None-clause-given : goal.returns-in-Some-default-None-clause-given
returns-in-Some-default-None-clause-given c =
    let found = c.in-Some-default-None in
    one_token c.args.edition (record { kind = found.kind; text = c.args.text }) c.if-text-gt-MAX_TEXT.false c.utf8.text
    (ap (λ (m : Option (Bor (List ℕ))). Some (raw_of found.kind, option_map bytes_of m)) (sym found.field-0-1-is) ∙ found.ensures)

pub returns-in-Some-default-Some-clause-refused : goal.returns-in-Some-default-Some-clause-refused
returns-in-Some-default-Some-clause-refused c number =
    let found = c.in-Some-default-Some in
    faulty_token c.args.edition c.args.text.now (raw_of found.field-0-0) (bytes_of found.field-0-1-0) c.if-text-gt-MAX_TEXT.false
    (ap (λ (m : Option (Bor (List ℕ))). Some (raw_of found.field-0-0, option_map bytes_of m)) (sym found.field-0-1-is) ∙ found.ensures)

pub returns-else-branch-clause-refused : goal.returns-else-branch-clause-refused
returns-else-branch-clause-refused c number =
    not_one c.args.edition c.args.text.now c.if-text-gt-MAX_TEXT.false (sym c.in_ok-has_messages-in-None.ensures ∙ c.if-branch.false) c.in-None.ensures
