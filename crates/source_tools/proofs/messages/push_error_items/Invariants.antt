use Rattle.std.proofs.Common.{◌≡◌, ◌++◌, map, take}
use Rattle.std.specs.List.{flat_map}
use Rattle.line_index.specs.declared.encoding.Encoding.TheVariants.{Utf32}
use Rattle.line_index.specs.Columns.{line_col}
use Rattle.rust_document.specs.Seen.{message_of_error}
use Rattle.message_ends.specs.Ends.{all_tokens}
use Rattle.source_tools.specs.Texts.{item_of_message}
use Rattle.source_tools.proofs.messages.push_error_items.Given as goal

abbrev pub invariant-loop-error : goal.invariant-loop-error
invariant-loop-error l =
    record {
      items : l.items.items ≡ l.fn.items.items ++ flat_map (item_of_message (all_tokens l.fn.ends) l.index) (map message_of_error (take l.error-index l.errors));
      ends : l.ends ≡ l.fn.ends;
      place : l.place ≡ line_col Utf32 l.index l.from;
    }
