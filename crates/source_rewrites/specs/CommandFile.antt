-- The commands of files, as a JSON object has them: a list of commands under each path.
use Rattle.std.specs.Prelude.{ℕ, List, [], ◌∷◌, Option, Some, option_map, option_and_then, map}
use Rattle.serde_json.specs.Data.{Data, Members, no_members, member}
use Rattle.serde_json.specs.Find.{as_array, as_object}
use Rattle.document_requests.specs.Asked.{command}
use Rattle.document_requests.specs.Request.{Command, all_in, command_by}
use Rattle.ra_parser.specs.declared.grammar.Grammar.{Grammar}
use Rattle.source_rewrites.specs.declared.command_file.FileCommands.{FileCommands}

-- a path and its commands
pub record Asked : Type 0 where
  pub path : List ℕ
  pub commands : List Command

-- The commands of each path, in order, where all are lists of commands on documents that are read by this grammar. An object has
-- its members in order of name.
abbrev pub asked_in : Grammar → Members → Option (List Asked)
asked_in grammar no_members = Some []
asked_in grammar (member path value rest) =
    option_and_then
    (λ commands. option_map (λ others. record { path = path; commands = commands } ∷ others) (asked_in grammar rest))
    (option_and_then (all_in (command_by grammar)) (as_array value))

abbrev pub asked_of : Grammar → Data → Option (List Asked)
asked_of grammar d = option_and_then (asked_in grammar) (as_object d)

-- a path and its commands, in code
abbrev pub asked : FileCommands → Asked
asked f = record { path = f.path.now; commands = map command f.commands.items }
