use Rattle.std.proofs.Common.{◌≡◌, map, take}
use Rattle.line_index.specs.Columns.{line_col}
use Rattle.rust_source.specs.RangedErrors.{ranged}
use Rattle.session_words.specs.Replies.{shown_of}
use Rattle.document_views.specs.Listings.{shown}
use Rattle.document_views.proofs.listing.diagnostics_of.Given as goal

-- the list so far, and the place of the last message
abbrev pub invariant-loop-error : goal.invariant-loop-error
invariant-loop-error l =
    record {
      list : map shown_of l.list.items ≡ map (shown l.encoding l.index) (map ranged (take l.error-index l.errors));
      place : l.place ≡ line_col l.encoding l.index l.from;
    }
