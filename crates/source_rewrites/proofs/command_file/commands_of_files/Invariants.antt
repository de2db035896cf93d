use Rattle.std.proofs.Common.{◌≡◌, ◌++◌, map}
use Rattle.std.specs.Prelude.{option_map}
use Rattle.serde_json.specs.View.{members_view, view}
use Rattle.source_rewrites.specs.CommandFile.{asked, asked_in, asked_of}
use Rattle.source_rewrites.proofs.command_file.commands_of_files.Given as goal

-- the files so far and those in what is left are all of them
abbrev pub invariant-loop-path : goal.invariant-loop-path
invariant-loop-path l =
    option_map (λ files. map asked l.files.items ++ files) (asked_in l.grammar (members_view l.path-iterator)) ≡ asked_of l.grammar (view l.value)
