use Rattle.std.proofs.Common.{◌≡◌, ◌++◌, drop, map}
use Rattle.std.specs.Prelude.{option_map}
use Rattle.serde_json.specs.View.{items_view}
use Rattle.document_requests.specs.Request.{all_in, change_of}
use Rattle.document_requests.specs.Asked.{change}
use Rattle.document_requests.proofs.shape.changes_in.Given as goal

-- the changes so far and those in what is left are all of them
abbrev pub invariant-loop-value : goal.invariant-loop-value
invariant-loop-value l = option_map (λ changes. map change l.changes.items ++ changes) (all_in (change_of l.grammar) (items_view (drop l.value-index l.values))) ≡ all_in (change_of l.grammar) (items_view l.values)
