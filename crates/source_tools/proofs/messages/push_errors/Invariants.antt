use Rattle.std.proofs.Common.{◌≡◌, ◌++◌, map, take}
use Rattle.std.specs.List.{flat_map}
use Rattle.line_index.specs.declared.encoding.Encoding.TheVariants.{Utf32}
use Rattle.line_index.specs.Columns.{line_col}
use Rattle.rust_document.specs.Seen.{message_of_error}
use Rattle.source_tools.specs.Texts.{rows_of_message}
use Rattle.source_tools.proofs.messages.push_errors.Given as goal

abbrev pub invariant-loop-error : goal.invariant-loop-error
invariant-loop-error l =
    record {
      rows : l.rows.items ≡ l.fn.rows.items ++ flat_map (rows_of_message l.path l.index) (map message_of_error (take l.error-index l.errors));
      place : l.place ≡ line_col Utf32 l.index l.offset;
    }
