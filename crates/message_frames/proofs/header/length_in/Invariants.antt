use Rattle.std.proofs.Common.{◌≡◌, drop, map, None}
use Rattle.httparse.specs.Spans.{header_bytes}
use Rattle.message_frames.specs.Headers.{length_of}
use Rattle.message_frames.proofs.header.length_in.Given as goal

abbrev pub invariant-loop-field : goal.invariant-loop-field
invariant-loop-field l = length_of l.length (map (header_bytes l.buffer) (drop l.field-index l.fields)) ≡ length_of None (map (header_bytes l.buffer) l.fields)
