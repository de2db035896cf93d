use Rattle.std.proofs.Common.{◌≡◌, drop}
use Rattle.serde_json.specs.View.{items_view}
use Rattle.session_words.specs.Facts.{first_known}
use Rattle.session_words.proofs.facts.first_known.Given as goal

-- none before is known
abbrev pub invariant-loop-value : goal.invariant-loop-value
invariant-loop-value l = first_known (items_view (drop l.value-index l.values)) ≡ first_known (items_view l.values)
