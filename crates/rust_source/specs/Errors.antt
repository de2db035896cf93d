-- What is printed of the errors of a tool: the words of the error inside.
use Rattle.std.specs.Prelude.{ℕ, List, codes}
use Rattle.syntax_tree.specs.Position.{message_of as position_message}
use Rattle.syntax_editor.specs.Making.{make_message}
use Rattle.syntax_editor.specs.Refusal.{merge_message, record_message, whitespace_message}
use Rattle.rust_document.specs.Commit.{commit_message_of}
use Rattle.rust_document.specs.CommitWithoutMessages.{without_messages_words}
use Rattle.rust_document.specs.Edit.{edit_message_of}
use Rattle.rust_document.specs.Open.{message_of as open_message}
use Rattle.rust_document.specs.Payload.{payload_message_of}
use Rattle.renamer.specs.Errors.{rename_message}
use Rattle.rust_source.specs.declared.error.NodeError.{NodeError}
use Rattle.rust_source.specs.declared.error.NodeError.TheVariants as nodes
use Rattle.rust_source.specs.declared.error.SourceError.{SourceError}
use Rattle.rust_source.specs.declared.error.SourceError.TheVariants as sources

abbrev pub node_message : NodeError → List ℕ
node_message (nodes.Payload error) = payload_message_of error
node_message nodes.NotOneNode = codes "not one node"

abbrev pub source_message : SourceError → List ℕ
source_message (sources.Open error) = open_message error
source_message (sources.Edit error) = edit_message_of error
source_message (sources.Payload error) = payload_message_of error
source_message (sources.Node error) = node_message error
source_message (sources.Position error) = position_message error
source_message (sources.Make error) = make_message error
source_message (sources.Record error) = record_message error
source_message (sources.Whitespace error) = whitespace_message error
source_message (sources.Merge error) = merge_message error
source_message (sources.Commit error) = commit_message_of error
source_message (sources.WithoutMessages error) = without_messages_words error
source_message (sources.Rename error) = rename_message error
source_message (sources.Memory error) = codes "out of memory"
