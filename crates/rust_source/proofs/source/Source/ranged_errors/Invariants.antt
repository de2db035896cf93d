use Rattle.std.proofs.Common.{◌≡◌, map, take}
use Rattle.rust_document.specs.Seen.{message_of_error}
use Rattle.rust_source.specs.RangedErrors.{all_tokens, ranged, with_end, AreEnds}
use Rattle.rust_source.proofs.source.Source.ranged_errors.Given as goal

-- the messages so far have their ends
abbrev pub invariant-loop-error : goal.invariant-loop-error
invariant-loop-error l =
    record {
      ends : AreEnds l.ends;
      source : l.ends.source.now ≡ l.fn.self;
      ranged : map ranged l.ranged.items ≡ map (with_end (all_tokens l.fn.self)) (map message_of_error (take l.error-index l.error-items));
    }
