-- Files in which identifiers or lifetimes are renamed.
use Rattle.std.specs.Prelude.{◌≡◌, ◌⊎◌, ◌≤◌, ◌<◌, ◌==◌, ◌&&◌, ◌||◌, ℕ, Bool, true, false, not, List, [], ◌∷◌, All, IfSome, map, take, chars, length, slice_range, slice_index_or, Option, Some, None, option_map, Result, Ok, Err, MatchResult, Vec, string_bytes, if◌then◌else◌}
use Rattle.std.specs.List.{flat_map, list_any}
use Rattle.std.specs.Global.{Global}
use Rattle.std.specs.Str.{bytes_eq}
use Rattle.file_target.specs.Files.{Files, read_of}
use Rattle.file_target.specs.declared.error.TargetError.{TargetError}
use Rattle.file_target.specs.declared.error.TargetError.TheVariants as targets
use Rattle.file_target.specs.declared.version.Version.{Version}
use Rattle.renamer.specs.Plain.{IsPlain, LacksRoom}
use Rattle.renamer.specs.Verdict.{IsRenamedBut, RefusesRenameBut}
use Rattle.renamer.specs.declared.RenameError.{RenameError}
use Rattle.renamer.specs.Taken.{but_macro_names, taken_text}
use Rattle.rust_document.specs.Reading.{tree_in}
use Rattle.rust_document.specs.Step.{MAX_TEXT, State}
use Rattle.rust_document.specs.Tokens.{Span, tokens_of}
use Rattle.token_names.specs.Names.{kind_of_name}
use Rattle.source_tools.specs.Decoded.{decoded, encoded}
use Rattle.source_tools.specs.FileErrors.{file_error_of}
use Rattle.source_tools.specs.Writes.{Change, HasChanges, IsUnwritten, change_in}
use Rattle.source_tools.specs.declared.source.Dialect.{Dialect}
use Rattle.source_tools.specs.declared.source.Source.{Source}
use Rattle.source_tools.specs.declared.source.FileError.TheVariants as errors
use Rattle.source_tools.specs.declared.renaming.Renaming.{Renaming}
use Rattle.source_tools.specs.declared.renaming.RenameFault.{RenameFault}
use Rattle.source_tools.specs.declared.renaming.RenameFault.TheVariants.{File, NameTaken, Refused}
use Rattle.source_tools.specs.declared.plan.RenameFailure.{RenameFailure}
use Rattle.source_tools.specs.declared.rename.RenameStop.{RenameStop}
use Rattle.source_tools.specs.declared.rename.RenameStop.TheVariants.{RefusedFile, Unwritten}
use Rattle.source_tools.specs.declared.writes.FileChange.{FileChange}

-- a token that is the lifetime `name` if that begins with a quote, else the identifier `name`
abbrev pub is_token : List ℕ → List ℕ → Span → Bool
is_token name text t = (t.kind == kind_of_name name) && bytes_eq (slice_range text t.start t.end) name

-- whether a text has such a token
abbrev pub has_token : List ℕ → Dialect → List ℕ → Bool
has_token name dialect text = list_any (is_token name text) (tokens_of dialect.edition (chars text))

-- The new name may be taken, or is no token of the text.
abbrev pub is_free : Renaming → Dialect → List ℕ → Bool
is_free n dialect text = n.merge || not (has_token n.new.now dialect text)

-- the text in which the identifiers or lifetimes are renamed, and macro names stay
abbrev pub renamed : Renaming → Dialect → List ℕ → List ℕ
renamed n dialect text = taken_text (but_macro_names n.old.now n.new.now) (tree_in dialect.grammar dialect.edition (chars text))

-- what the bytes of a file become by one renaming, if they are text
abbrev pub renamed_once : Renaming → Dialect → List ℕ → Option (List ℕ)
renamed_once n dialect bytes = option_map (λ text. encoded bytes (renamed n dialect text)) (decoded bytes)

-- a document as it is opened
abbrev pub opened : Dialect → List ℕ → State
opened dialect text =
    record { edition = dialect.edition; grammar = dialect.grammar; text = text; number = 1 }

-- The bytes are text, the new name is free in it, and is a token with which it reads as the renamed tree.
pub record IsRenamableOnce (n : Renaming) (dialect : Dialect) (bytes : List ℕ) : Type 0 where
  pub text : List ℕ
  pub decodes : decoded bytes ≡ Some text
  pub free : is_free n dialect text ≡ true
  pub is_renamed : IsRenamedBut (opened dialect text) n.old.now n.new.now

-- The renamer's error tells which case fits. Where both names are plain and the new text is not too long, it is one of `LacksRoom`.
pub record RefusesRenamed (n : Renaming) (dialect : Dialect) (text : List ℕ) (e : RenameError) : Type 0 where
  pub exact : RefusesRenameBut (opened dialect text) n.old.now n.new.now 2 e
  pub plain : IsPlain (opened dialect text) n.old.now n.new.now → length (renamed n dialect text) ≤ MAX_TEXT → LacksRoom 2 n.new.now e

-- Why a text is not renamed in: it is too long, the name is taken, or the renamer's error.
abbrev pub RefusesText : Renaming → Dialect → List ℕ → RenameFault → Type 0
RefusesText n dialect text (File errors.TooLong) = MAX_TEXT < length text
RefusesText n dialect text (File errors.NoMemory) = Unit {0}
RefusesText n dialect text (File e) = ⊥
RefusesText n dialect text NameTaken = is_free n dialect text ≡ false
RefusesText n dialect text (Refused e) = RefusesRenamed n dialect text e

abbrev pub RefusesIfAny : Renaming → Dialect → Option (List ℕ) → RenameFault → Type 0
RefusesIfAny n dialect None e = (e ≡ File errors.NotUtf8) ⊎ (e ≡ File errors.NoMemory)
RefusesIfAny n dialect (Some text) e = RefusesText n dialect text e

-- why bytes are not renamed in once
abbrev pub RefusesOnce : Renaming → Dialect → List ℕ → RenameFault → Type 0
RefusesOnce n dialect bytes e = RefusesIfAny n dialect (decoded bytes) e

-- ---- renamings one after another

-- what bytes become by the renamings that follow, if they are text
abbrev pub renamed_next : (List ℕ → Option (List ℕ)) → Option (List ℕ) → Option (List ℕ)
renamed_next next None = None
renamed_next next (Some bytes) = next bytes

-- what the bytes of a file become by renamings, each on what the one before it left
abbrev pub renamed_bytes : List Renaming → Dialect → List ℕ → Option (List ℕ)
renamed_bytes [] dialect bytes = Some bytes
renamed_bytes (n ∷ ns) dialect bytes = renamed_next (renamed_bytes ns dialect) (renamed_once n dialect bytes)

-- Each renaming can be made of what the one before it left.
abbrev pub IsRenamable : List Renaming → Dialect → List ℕ → Type 0
IsRenamable [] dialect bytes = Unit {0}
IsRenamable (n ∷ ns) dialect bytes =
    IsRenamableOnce n dialect bytes × ((next : List ℕ) × (renamed_once n dialect bytes ≡ Some next) × IsRenamable ns dialect next)

-- why a file with these bytes is not renamed in: the first renaming that is refused, of what the one before it left
abbrev pub RefusesBytes : List Renaming → Dialect → List ℕ → RenameFault → Type 0
RefusesBytes [] dialect bytes e = e ≡ File errors.NoMemory
RefusesBytes (n ∷ ns) dialect bytes e =
    RefusesOnce n dialect bytes e
    ⊎ (IsRenamableOnce n dialect bytes × ((next : List ℕ) × (renamed_once n dialect bytes ≡ Some next) × RefusesBytes ns dialect next e))

-- ---- files

-- A file whose bytes stay is not written.
abbrev pub change_to : List ℕ → Version → List ℕ → Option (List ℕ) → List Change
change_to path version old None = []
change_to path version old (Some new) =
    if bytes_eq new old then [] else record { path = path; version = version; old = old; bytes = new } ∷ []

-- the change of a file, if its bytes change, by what a read of it answers
abbrev pub changes_read : List Renaming → Source → Result (List ℕ × Version) TargetError → List Change
changes_read ns s (Ok read) = change_to (string_bytes s.path) read.1 read.0 (renamed_bytes ns s.dialect read.0)
changes_read ns s (Err e) = []

abbrev pub changes_of : List Renaming → Files → Source → List Change
changes_of ns files s = changes_read ns s (read_of (files (string_bytes s.path)))

-- A read answers bytes that can be renamed in.
abbrev pub IsRenamableRead : List Renaming → Source → Result (List ℕ × Version) TargetError → Type 0
IsRenamableRead ns s (Ok read) = IsRenamable ns s.dialect read.0
IsRenamableRead ns s (Err e) = ⊥

-- There is a file, the system reads it, and it can be renamed in.
abbrev pub IsRenamableFile : List Renaming → Files → Source → Type 0
IsRenamableFile ns files s = IsRenamableRead ns s (read_of (files (string_bytes s.path)))

-- Why a file is not renamed in, by what a read of it answers. If there is a file, out of memory comes at any point.
abbrev pub RefusesRead : List Renaming → Source → Result (List ℕ × Version) TargetError → RenameFault → Type 0
RefusesRead ns s (Ok read) e = RefusesBytes ns s.dialect read.0 e
RefusesRead ns s (Err targets.NotFound) e = e ≡ File errors.NotFound
RefusesRead ns s (Err d) e = (e ≡ File (file_error_of d)) ⊎ (e ≡ File errors.NoMemory)

-- why a file is not renamed in
abbrev pub RefusesFile : List Renaming → Files → Source → RenameFault → Type 0
RefusesFile ns files s e = RefusesRead ns s (read_of (files (string_bytes s.path))) e

-- ---- renames in code

abbrev pub changes_in : Option FileChange → List Change
changes_in None = []
changes_in (Some c) = change_in c ∷ []

-- the result of renaming in a file, by what a read of it answers
abbrev pub IsRenamedRead : List Renaming → Source → Result (List ℕ × Version) TargetError → Result (Option FileChange) RenameFault → Type 0
IsRenamedRead ns s read r =
    MatchResult r (λ c. IsRenamableRead ns s read × (changes_in c ≡ changes_read ns s read)) (RefusesRead ns s read)

abbrev pub IsRenamedFile : List Renaming → Files → Source → Result (Option FileChange) RenameFault → Type 0
IsRenamedFile ns files s r = IsRenamedRead ns s (read_of (files (string_bytes s.path))) r

-- What is planned for files: the changes of all of them; or the first that is refused, and why.
abbrev pub IsPlan : List Renaming → Files → List Source → Result (Vec FileChange Global) RenameFailure → Type 0
IsPlan ns files sources r =
    MatchResult r
    (λ cs. All (IsRenamableFile ns files) sources × (map change_in cs.items ≡ flat_map (changes_of ns files) sources))
    (λ f. (f.index < length sources) × All (IsRenamableFile ns files) (take f.index sources)
    × ((d : Source) → RefusesFile ns files (slice_index_or sources f.index d) f.fault))

-- What a renaming that stopped has done: nothing, if a file was refused; else the write of the change of this path failed with this
-- error, and the changes before it are made.
abbrev pub StopsRename : {T : Type 0} → List Renaming → List Source → (T → Option Files) → T → T → RenameStop → Type 0
StopsRename ns sources files_of before after (RefusedFile f) = after ≡ before
StopsRename ns sources files_of before after (Unwritten path e) =
    IfSome (files_of before) (λ files. IsUnwritten (flat_map (changes_of ns files) sources) files (files_of after) (string_bytes path) e)

-- why a renaming stopped, where a file was refused
abbrev pub RefusesRename : List Renaming → List Source → Option Files → RenameStop → Type 0
RefusesRename ns sources before (RefusedFile f) = IfSome before (λ files. IsPlan ns files sources (Err f))
RefusesRename ns sources before (Unwritten path e) = Unit {0}

-- what a renaming has done: the changes of all files are made, and counted
abbrev pub Renames : List Renaming → List Source → Option Files → Option Files → ℕ → Type 0
Renames ns sources before after count =
    IfSome before (λ files.
    All (IsRenamableFile ns files) sources × HasChanges (flat_map (changes_of ns files) sources) (Some files) after
    × (count ≡ length (flat_map (changes_of ns files) sources)))
