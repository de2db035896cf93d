-- Codes of handles.
use Rattle.std.proofs.Common.{◌≡◌, ℕ, false, true, List, refl, sym, ◌∙◌}
use Rattle.std.specs.Prelude.{Option, None, Some, is_some}
use Rattle.parser_input.specs.declared.edition.Edition.{Edition}
use Rattle.ra_parser.specs.declared.grammar.Grammar.{Grammar}
use Rattle.kept_document.specs.Calls.{IsFresh, RefusesOpening}
use Rattle.kept_document.specs.Exports.{HasReason, IsUncommitted, KeepsText, RefusesClosed, RefusesOpen}
use Rattle.kept_document.specs.Commits.{RefusesCommit}
use Rattle.kept_document.specs.Reasons.{code_of}
use Rattle.kept_document.specs.declared.kept.Kept.{Kept}
use Rattle.kept_document.specs.declared.reason.Reason.{Reason}
use Rattle.kept_document.specs.declared.reason.Reason.TheVariants.{IsOpen, NoMemory, NotOpen}

pub not-open :
    (d : Option Kept) (Refuses : Kept → Reason → Type 0) (code : ℕ) (opened : _) → opened ≡ is_some d → opened ≡ false → code ≡ code_of NotOpen
    → HasReason (RefusesOpen d Refuses) code
not-open None Refuses code opened told closed is = record { reason = NotOpen; is = is; holds = refl }
not-open (Some kept) Refuses code opened told closed is = let bad : true ≡ false = sym told ∙ closed in cc

pub is-open :
    (d : Option Kept) (Refuses : Reason → Type 0) (code : ℕ) (opened : _) → opened ≡ is_some d → opened ≡ true → code ≡ code_of IsOpen
    → HasReason (RefusesClosed d Refuses) code
is-open None Refuses code opened told was is = let bad : false ≡ true = sym told ∙ was in cc
is-open (Some kept) Refuses code opened told was is = record { reason = IsOpen; is = is; holds = refl }

pub closed-refuses :
    (d : Option Kept) (Refuses : Reason → Type 0) (code : ℕ) (opened : _) (reason : Reason) → opened ≡ is_some d → opened ≡ false → code ≡ code_of reason
    → Refuses reason → HasReason (RefusesClosed d Refuses) code
closed-refuses None Refuses code opened reason told closed is holds = record { reason = reason; is = is; holds = holds }
closed-refuses (Some kept) Refuses code opened reason told closed is holds = let bad : true ≡ false = sym told ∙ closed in cc

-- Out of memory comes at any point.
pub lacks-memory :
    (edition : Option Edition) (grammar : Option Grammar) (text : List ℕ) (kept : Kept) → IsFresh edition grammar text kept
    → RefusesOpening edition grammar text NoMemory
lacks-memory None grammar text kept fresh = let bad = fresh.edition_is in cc
lacks-memory (Some edition) None text kept fresh = let bad = fresh.grammar_is in cc
lacks-memory (Some edition) (Some grammar) text kept fresh = tt

pub uncommitted-closed :
    (d : Option Kept) (command : List ℕ) (code : ℕ) (opened : _) → opened ≡ is_some d → opened ≡ false → code ≡ code_of NotOpen
    → IsUncommitted d d command code
uncommitted-closed None command code opened told closed is = is
uncommitted-closed (Some kept) command code opened told closed is = let bad : true ≡ false = sym told ∙ closed in cc

-- A handle that is not touched keeps its text.
pub keeps-same : (d : Option Kept) → KeepsText d d
keeps-same None = tt
keeps-same (Some kept) = record { document = refl; changed = refl }

pub open-refuses :
    (d : Option Kept) (kept : Kept) (Refuses : Kept → Reason → Type 0) (code : ℕ) (reason : Reason) → d ≡ Some kept → code ≡ code_of reason
    → Refuses kept reason → HasReason (RefusesOpen d Refuses) code
open-refuses d kept Refuses code reason is told holds = rw is (record { reason = reason; is = told; holds = holds })

pub uncommitted :
    (d e : Option Kept) (old new : Kept) (command : List ℕ) (code : ℕ) (reason : Reason) → d ≡ Some old → e ≡ Some new → code ≡ code_of reason
    → RefusesCommit command old new reason → IsUncommitted d e command code
uncommitted d e old new command code reason was is told why = rw (was, is) (record { reason = reason; is = told; holds = why })
