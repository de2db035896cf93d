-- The first leaf is the only one where it is as long as the text.
use Rattle.std.proofs.Common.{◌≡◌, ◌∙◌, ◌<◌, ℕ, List, Option, Some, ap, arith, chars, length, option_map}
use Rattle.std.proofs.lemmas.Bool.Decides.{nat_tests}
use Rattle.parser_input.specs.Lexed.{Lexed}
use Rattle.parser_input.specs.Messages.{wording}
use Rattle.parser_input.specs.Single.{kind_and_message}
use Rattle.parser_input.specs.Stored.{bytes_of, leaf_next}
use Rattle.parser_input.specs.declared.message.Message.{Message}
use Rattle.parser_input.proofs.Single.{empty-single, single-none, single-some}
use Rattle.parser_input.proofs.lexed_str.LexedStr.single_token.Goals as goal

pub returns-then-is_empty : goal.returns-then-is_empty
returns-then-is_empty c =
    let none : length c.args.text.now ≡ 0 = grind (arith, nat_tests, c.is_empty.ensures, c.if-is_empty.true) in
    ap (λ (o : Option Lexed). option_map kind_and_message o) (empty-single c.args.edition c.args.text.now none)

pub returns-then-next-text : goal.returns-then-next-text
returns-then-next-text c =
    let some : 0 < length c.args.text.now = grind (arith, nat_tests, c.is_empty.ensures, c.if-is_empty.false) in
    ap (λ (o : Option Lexed). option_map kind_and_message o) (single-none c.args.edition c.args.text.now c.utf8.text some (omega (arith, c.next_leaf-next.ensures.len, c.if-next-text.true)))

pub returns : goal.returns
returns c =
    let l = leaf_next c.args.edition (chars c.args.text.now) in
    let some : 0 < length c.args.text.now = grind (arith, nat_tests, c.is_empty.ensures, c.if-is_empty.false) in
    let K : ℕ → Option (List ℕ) → Option (ℕ × Option (List ℕ)) = λ k o. Some (k, o) in
    ap (λ (k : ℕ). K k (option_map bytes_of c.words.result)) c.next_leaf-next.ensures.kind
    ∙ ap (λ (o : Option (List ℕ)). K l.leaf.kind o) (c.words.ensures ∙ ap (λ (m : Option Message). option_map wording m) c.next_leaf-next.ensures.message)
    ∙ ap (λ (o : Option Lexed). option_map kind_and_message o) (single-some c.args.edition c.args.text.now c.utf8.text some (omega (arith, c.next_leaf-next.ensures.len, c.if-next-text.false)))
