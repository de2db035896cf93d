use Rattle.std.proofs.Common.{◌≡◌, ◌∙◌, ◌+◌, ◌++◌, ◌∷◌, [], List, ℕ, map, take, get_or, ap, sym, append_assoc}
use Rattle.std.proofs.lemmas.List.{take_more}
use Rattle.std.specs.List.{flat_map}
use Rattle.line_index.specs.declared.encoding.Encoding.TheVariants.{Utf32}
use Rattle.line_index.specs.Columns.{line_col}
use Rattle.parser_events.specs.declared.message.Message.TheVariants.{Expected}
use Rattle.parser_input.specs.declared.syntax_kind.SyntaxKind.TheVariants.{TOMBSTONE}
use Rattle.message_ends.specs.Ends.{all_tokens, message_end}
use Rattle.rust_document.specs.Reading.{Message}
use Rattle.rust_document.specs.Seen.{fault_of, message_of_error}
use Rattle.rust_document.specs.Step.{State}
use Rattle.rust_document.specs.declared.syntax_error.SyntaxError.{SyntaxError}
use Rattle.rust_document.specs.declared.syntax_error.SyntaxMessage.TheVariants.{Parser}
use Rattle.source_tools.specs.Json.{message_item}
use Rattle.source_tools.specs.Texts.{item_of_message}
use Rattle.source_tools.specs.Words.{words}
use Rattle.source_tools.proofs.ListLemmas.{flat-more, map-more}
use Rattle.source_tools.proofs.messages.push_error_items.Goals as goal

pub loop-error-preserved : goal.loop-error-preserved
loop-error-preserved c =
    let held = c.loop-error.invariant in
    let errors = c.args.errors.now in
    let before = c.args.items.now.items in
    let i = c.loop-error.error-index in
    let other : SyntaxError = record { offset = 0; message = Parser (Expected TOMBSTONE) } in
    let error : SyntaxError = get_or errors i other in
    let done : List SyntaxError = take i errors in
    let item : Message → List ℕ = item_of_message (all_tokens c.args.ends.now) c.args.index.now in
    record {
      items =
          c.in_ok-push_error_item.ensures
          ∙ ap (λ (end : ℕ). c.loop-error.items.items ++ message_item (line_col Utf32 c.args.index.now error.offset) error.offset end (words (fault_of error.message)))
          (c.end_of-end.ensures.end ∙ ap (λ (d : State). message_end (all_tokens d) (message_of_error error)) held.ends)
          ∙ ap (λ (xs : List ℕ). xs ++ item (message_of_error error)) held.items
          ∙ append_assoc before (flat_map item (map message_of_error done)) (item (message_of_error error))
          ∙ ap (λ (xs : List ℕ). before ++ xs) (sym (flat-more item (map message_of_error done) (message_of_error error)))
          ∙ ap (λ (ms : List Message). before ++ flat_map item ms) (sym (map-more message_of_error done error))
          ∙ ap (λ (es : List SyntaxError). before ++ flat_map item (map message_of_error es)) (sym (take_more errors i other c.loop-error-test.true));
      ends = c.end_of-end.ensures.document ∙ held.ends;
      place = c.line_col_from-place.ensures;
    }
