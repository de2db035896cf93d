use Rattle.std.proofs.Common.{◌≡◌, ◌++◌, drop, map}
use Rattle.std.specs.Prelude.{option_map}
use Rattle.serde_json.specs.View.{items_view}
use Rattle.document_requests.specs.Request.{all_in, command_by}
use Rattle.document_requests.specs.Asked.{command}
use Rattle.document_requests.proofs.shape.commands_in.Given as goal

-- the commands so far and those in what is left are all of them
abbrev pub invariant-loop-value : goal.invariant-loop-value
invariant-loop-value l = option_map (λ commands. map command l.commands.items ++ commands) (all_in (command_by l.grammar) (items_view (drop l.value-index l.values))) ≡ all_in (command_by l.grammar) (items_view l.values)
