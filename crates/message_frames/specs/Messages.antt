-- Messages as they are written.
use Rattle.std.specs.Prelude.{ℕ, List, ◌++◌, codes, length}
use Rattle.std.specs.Fmt.{decimal}

-- a message with its header
abbrev pub message : List ℕ → List ℕ
message body = codes "Content-Length: " ++ (decimal (length body) ++ (codes "\r\n\r\n" ++ body))
