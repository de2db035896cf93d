-- Files that are rewritten by commands.
use Rattle.std.specs.Prelude.{◌≡◌, ◌⊎◌, ◌<◌, ℕ, List, [], All, IfSome, map, take, length, slice_index_or, Option, Some, None, option_map, option_and_then, Result, Ok, Err, MatchResult, Vec, string_bytes}
use Rattle.std.specs.List.{flat_map}
use Rattle.std.specs.Global.{Global}
use Rattle.file_target.specs.Files.{Files, read_of}
use Rattle.file_target.specs.declared.error.TargetError.{TargetError}
use Rattle.file_target.specs.declared.error.TargetError.TheVariants as targets
use Rattle.file_target.specs.declared.version.Version.{Version}
use Rattle.rust_document.specs.Difference.{told_of}
use Rattle.rust_document.specs.Step.{MAX_TEXT}
use Rattle.document_requests.specs.Asked.{command}
use Rattle.document_requests.specs.Output.{first_session}
use Rattle.document_requests.specs.declared.rule.CommitRule.{CommitRule}
use Rattle.source_tools.specs.Decoded.{decoded, encoded}
use Rattle.source_tools.specs.FileErrors.{file_error_of}
use Rattle.source_tools.specs.Renames.{change_to, changes_in}
use Rattle.source_tools.specs.Writes.{Change, HasChanges, IsUnwritten, change_in}
use Rattle.source_tools.specs.declared.source.FileError.TheVariants as errors
use Rattle.source_tools.specs.declared.writes.FileChange.{FileChange}
use Rattle.source_rewrites.specs.Rewriting.{Rewriting, Rewritten, Stopped, rewriting}
use Rattle.source_rewrites.specs.declared.rewrite.Rewrite.{Rewrite}
use Rattle.source_rewrites.specs.declared.rewrite.RewriteFault.{RewriteFault}
use Rattle.source_rewrites.specs.declared.rewrite.RewriteFault.TheVariants.{File, Refused}
use Rattle.source_rewrites.specs.declared.plan.RewriteFailure.{RewriteFailure}
use Rattle.source_rewrites.specs.declared.write.RewriteStop.{RewriteStop}
use Rattle.source_rewrites.specs.declared.write.RewriteStop.TheVariants.{RefusedFile, Unwritten}

abbrev pub path_of : Rewrite → List ℕ
path_of r = string_bytes r.source.path

-- what the commands make of a text
abbrev pub outcome : CommitRule → Rewrite → List ℕ → Rewriting
outcome rule r text = rewriting rule 0 (map command r.commands.items) (first_session r.source.dialect.grammar r.source.dialect.edition text)

abbrev pub text_of : Rewriting → Option (List ℕ)
text_of (Rewritten text) = Some text
text_of (Stopped i refusal place difference) = None

-- the bytes of a file after all commands, if it is text and none is refused
abbrev pub rewritten_bytes : CommitRule → Rewrite → List ℕ → Option (List ℕ)
rewritten_bytes rule r bytes = option_and_then (λ text. option_map (encoded bytes) (text_of (outcome rule r text))) (decoded bytes)

-- The bytes are text, and no command is refused.
pub record IsRewritable (rule : CommitRule) (r : Rewrite) (bytes : List ℕ) : Type 0 where
  pub new : List ℕ
  pub is : rewritten_bytes rule r bytes ≡ Some new

-- Why a text is not rewritten: it is too long, a command is refused, or out of memory.
abbrev pub RefusesText : CommitRule → Rewrite → List ℕ → RewriteFault → Type 0
RefusesText rule r text (File errors.TooLong) = MAX_TEXT < length text
RefusesText rule r text (File errors.NoMemory) = Unit {0}
RefusesText rule r text (File e) = ⊥
RefusesText rule r text (Refused f) = outcome rule r text ≡ Stopped f.index f.refusal f.place (option_map told_of f.difference)

-- why commands stop
abbrev pub StopsCommands : Rewriting → RewriteFault → Type 0
StopsCommands w (File errors.NoMemory) = Unit {0}
StopsCommands w (File e) = ⊥
StopsCommands w (Refused f) = w ≡ Stopped f.index f.refusal f.place (option_map told_of f.difference)

abbrev pub RefusesIfAny : CommitRule → Rewrite → Option (List ℕ) → RewriteFault → Type 0
RefusesIfAny rule r None e = (e ≡ File errors.NotUtf8) ⊎ (e ≡ File errors.NoMemory)
RefusesIfAny rule r (Some text) e = RefusesText rule r text e

-- why a file with these bytes is not rewritten
abbrev pub RefusesBytes : CommitRule → Rewrite → List ℕ → RewriteFault → Type 0
RefusesBytes rule r bytes e = RefusesIfAny rule r (decoded bytes) e

-- ---- files

-- the change of a file, if its bytes change, by what a read of it answers
abbrev pub changes_read : CommitRule → Rewrite → Result (List ℕ × Version) TargetError → List Change
changes_read rule r (Ok read) = change_to (path_of r) read.1 read.0 (rewritten_bytes rule r read.0)
changes_read rule r (Err e) = []

abbrev pub changes_of : CommitRule → Files → Rewrite → List Change
changes_of rule files r = changes_read rule r (read_of (files (path_of r)))

-- A read answers bytes that can be rewritten.
abbrev pub IsRewritableRead : CommitRule → Rewrite → Result (List ℕ × Version) TargetError → Type 0
IsRewritableRead rule r (Ok read) = IsRewritable rule r read.0
IsRewritableRead rule r (Err e) = ⊥

-- There is a file, the system reads it, and it can be rewritten.
abbrev pub IsRewritableFile : CommitRule → Files → Rewrite → Type 0
IsRewritableFile rule files r = IsRewritableRead rule r (read_of (files (path_of r)))

-- Why a file is not rewritten, by what a read of it answers. If there is a file, out of memory comes at any point.
abbrev pub RefusesRead : CommitRule → Rewrite → Result (List ℕ × Version) TargetError → RewriteFault → Type 0
RefusesRead rule r (Ok read) e = RefusesBytes rule r read.0 e
RefusesRead rule r (Err targets.NotFound) e = e ≡ File errors.NotFound
RefusesRead rule r (Err d) e = (e ≡ File (file_error_of d)) ⊎ (e ≡ File errors.NoMemory)

-- why a file is not rewritten
abbrev pub RefusesFile : CommitRule → Files → Rewrite → RewriteFault → Type 0
RefusesFile rule files r e = RefusesRead rule r (read_of (files (path_of r))) e

-- ---- results in code

-- the result for a file, by what a read of it answers
abbrev pub IsRewrittenRead : CommitRule → Rewrite → Result (List ℕ × Version) TargetError → Result (Option FileChange) RewriteFault → Type 0
IsRewrittenRead rule r read result =
    MatchResult result (λ c. IsRewritableRead rule r read × (changes_in c ≡ changes_read rule r read)) (RefusesRead rule r read)

abbrev pub IsRewrittenFile : CommitRule → Files → Rewrite → Result (Option FileChange) RewriteFault → Type 0
IsRewrittenFile rule files r result = IsRewrittenRead rule r (read_of (files (path_of r))) result

-- the changes of all files, or the first file that is refused
abbrev pub IsPlan : CommitRule → Files → List Rewrite → Result (Vec FileChange Global) RewriteFailure → Type 0
IsPlan rule files rewrites result =
    MatchResult result
    (λ cs. All (IsRewritableFile rule files) rewrites × (map change_in cs.items ≡ flat_map (changes_of rule files) rewrites))
    (λ f. (f.index < length rewrites) × All (IsRewritableFile rule files) (take f.index rewrites)
    × ((d : Rewrite) → RefusesFile rule files (slice_index_or rewrites f.index d) f.fault))

-- What a rewriting that stopped has done: nothing, if a file was refused; else the write of the change of this path failed with this
-- error, and the changes before it are made.
abbrev pub StopsRewrite : {T : Type 0} → CommitRule → List Rewrite → (T → Option Files) → T → T → RewriteStop → Type 0
StopsRewrite rule rewrites files_of before after (RefusedFile f) = after ≡ before
StopsRewrite rule rewrites files_of before after (Unwritten path e) =
    IfSome (files_of before) (λ files. IsUnwritten (flat_map (changes_of rule files) rewrites) files (files_of after) (string_bytes path) e)

-- why a rewriting stopped, where a file was refused
abbrev pub RefusesRewrite : CommitRule → List Rewrite → Option Files → RewriteStop → Type 0
RefusesRewrite rule rewrites before (RefusedFile f) = IfSome before (λ files. IsPlan rule files rewrites (Err f))
RefusesRewrite rule rewrites before (Unwritten path e) = Unit {0}

-- what a rewriting has done: the changes of all files are made, and counted
abbrev pub Rewrites : CommitRule → List Rewrite → Option Files → Option Files → ℕ → Type 0
Rewrites rule rewrites before after count =
    IfSome before (λ files.
    All (IsRewritableFile rule files) rewrites × HasChanges (flat_map (changes_of rule files) rewrites) (Some files) after
    × (count ≡ length (flat_map (changes_of rule files) rewrites)))
