-- What is seen of a client that is read by one device and written to by another.
use Rattle.std.specs.Prelude.{ℕ, List, Option, None, is_some}
use Rattle.line_reader.specs.Clients.{Seen}
use Rattle.document_requests.specs.Watched.{calls_of, device_of, end_of, failures_of}
use Rattle.document_requests.specs.declared.dialogue.Dialogue.{Dialogue}
use Rattle.document_requests.specs.declared.watched.Watched.{Watched}

abbrev pub reader_of : {R W : Type 0} → Dialogue R W → Watched R
reader_of d = d.reader

abbrev pub writer_of : {R W : Type 0} → Dialogue R W → Watched W
writer_of d = d.writer

-- What it has sent and was written is not recorded. The bytes that it will send are those of its reader, and its calls are those of its devices.
abbrev pub seen_of : {R W : Type 0} → (R → Option (List ℕ)) → (W → Option (List ℕ)) → Dialogue R W → Seen
seen_of remaining contents d = record {
  exchange = None;
  left = remaining (device_of d.reader);
  contents = contents (device_of d.writer);
  is_ended = is_some (end_of d.reader);
  reads = calls_of d.reader;
  failed_reads = failures_of d.reader;
  failed_writes = failures_of d.writer;
}
