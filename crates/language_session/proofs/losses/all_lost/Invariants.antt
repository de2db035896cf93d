use Rattle.std.proofs.Common.{◌≡◌, ◌++◌, take, map}
use Rattle.std.specs.List.{flat_map}
use Rattle.language_session.specs.Sessions.{lost, open_of}
use Rattle.language_session.specs.Steps.{loss, written}
use Rattle.language_session.proofs.losses.all_lost.Given as goal

-- those so far are lost and told
abbrev pub invariant-loop-document : goal.invariant-loop-document
invariant-loop-document l =
    record {
      documents : map open_of l.all.items ≡ map lost (map open_of (take l.document-index l.documents));
      told : l.out.items ≡ l.fn.out.items ++ written (flat_map loss (map open_of (take l.document-index l.documents)));
    }
