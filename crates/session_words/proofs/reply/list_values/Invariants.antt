use Rattle.std.proofs.Common.{◌≡◌, take, map}
use Rattle.serde_json.specs.View.{view}
use Rattle.session_words.specs.Replies.{shown_data, shown_of}
use Rattle.session_words.proofs.reply.list_values.Given as goal

-- the values are those of the messages so far
abbrev pub invariant-loop-shown : goal.invariant-loop-shown
invariant-loop-shown l = map view l.values.items ≡ map shown_data (map shown_of (take l.shown-index l.list))
