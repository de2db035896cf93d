use Rattle.std.proofs.Common.{◌≡◌, drop}
use Rattle.std.specs.Prelude.{option_map, string_bytes}
use Rattle.serde_json.specs.View.{items_view}
use Rattle.session_words.specs.Changes.{text_after_all}
use Rattle.session_words.proofs.change.changed_text.Given as goal

-- the text so far and the changes that are left make the text
abbrev pub invariant-loop-value : goal.invariant-loop-value
invariant-loop-value l =
    text_after_all l.encoding (option_map string_bytes l.text) (items_view (drop l.value-index l.changes))
    ≡ text_after_all l.encoding (option_map string_bytes l.fn.held) (items_view l.changes)
