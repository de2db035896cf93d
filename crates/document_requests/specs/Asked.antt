-- What a request is in code.
use Rattle.std.specs.Prelude.{map}
use Rattle.document_requests.specs.Request as asked
use Rattle.document_requests.specs.declared.request.Change.{Change}
use Rattle.document_requests.specs.declared.request.Change.TheVariants.{Put, Delete}
use Rattle.document_requests.specs.declared.request.Command.{Command}
use Rattle.document_requests.specs.declared.request.Command.TheVariants.{Edit, Commit, Tree, Errors}
use Rattle.document_requests.specs.declared.request.Request.{Request}

abbrev pub change : Change → asked.Change
change (Put op target entry text) = asked.Put op target entry text.now
change (Delete target) = asked.Delete target

abbrev pub command : Command → asked.Command
command (Edit start stop text) = asked.Edit start stop text.now
command (Commit changes) = asked.Commit (map change changes.items)
command Tree = asked.Tree
command Errors = asked.Errors

abbrev pub request : Request → asked.Request
request r = record { grammar = r.grammar; edition = r.edition; text = r.text.now; commands = map command r.commands.items }
