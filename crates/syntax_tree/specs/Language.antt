-- Rust's kinds, as cursors read them.
use Rattle.std.specs.Prelude.{◌≡◌, ℕ, slice_get, unwrap_or}
use Rattle.std.proofs.Common.{ap}
use Rattle.parser_input.specs.declared.syntax_kind.SyntaxKind.{SyntaxKind}
use Rattle.parser_input.specs.declared.syntax_kind.SyntaxKind.TheVariants.{ERROR}
use Rattle.parser_input.specs.Kind.{raw_of}
use Rattle.parser_input.proofs.KindTable.{slice_get-kinds}
use Rattle.parser_input.specs.KindTable.{all_kinds}

-- the kind of a raw number; `ERROR` if it is not that of a kind
abbrev pub kind_of_raw : ℕ → SyntaxKind
kind_of_raw raw = unwrap_or (slice_get all_kinds raw) ERROR

-- a kind is read back from its raw number
pub kind_of_raw-raw_of : (kind : SyntaxKind) → kind_of_raw (raw_of kind) ≡ kind
kind_of_raw-raw_of kind = ap (λ o. unwrap_or o ERROR) (slice_get-kinds kind)
