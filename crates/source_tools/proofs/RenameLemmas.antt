-- Renamings of files: out of memory comes at any point.
use Rattle.std.proofs.Common.{◌≡◌, ℕ, Option, Some, None, Result, Ok, Err, List, [], ◌∷◌, refl, ap, ◌∙◌, inl, inr}
use Rattle.std.specs.declared.io.Error.{Error}
use Rattle.file_target.specs.declared.error.TargetError.{TargetError}
use Rattle.file_target.specs.declared.error.TargetError.TheVariants as targets
use Rattle.file_target.specs.declared.version.Version.{Version}
use Rattle.source_tools.specs.Decoded.{decoded}
use Rattle.source_tools.specs.FileErrors.{file_error_of}
use Rattle.std.specs.Prelude.{MatchResult, Vec}
use Rattle.std.specs.Global.{Global}
use Rattle.source_tools.specs.Renames.{IsRenamable, IsRenamableOnce, IsRenamableRead, RefusesBytes, RefusesIfAny, RefusesRead, renamed_bytes, renamed_next, renamed_once}
use Rattle.source_tools.specs.declared.source.Dialect.{Dialect}
use Rattle.source_tools.specs.declared.source.Source.{Source}
use Rattle.source_tools.specs.declared.source.FileError.TheVariants as errors
use Rattle.source_tools.specs.declared.renaming.Renaming.{Renaming}
use Rattle.source_tools.specs.declared.renaming.RenameFault.{RenameFault}
use Rattle.source_tools.specs.declared.renaming.RenameFault.TheVariants.{File}

memory-text : (n : Renaming) (dialect : Dialect) (o : Option (List ℕ)) → RefusesIfAny n dialect o (File errors.NoMemory)
memory-text n dialect None = inr refl
memory-text n dialect (Some text) = tt

pub memory-bytes : (ns : List Renaming) (dialect : Dialect) (bytes : List ℕ) → RefusesBytes ns dialect bytes (File errors.NoMemory)
memory-bytes [] dialect bytes = refl
memory-bytes (n ∷ ns) dialect bytes = inl (memory-text n dialect (decoded bytes))

-- a file that is read may be refused if memory is exhausted
pub memory-read : (ns : List Renaming) (s : Source) (e : TargetError) → e ≡ targets.NoMemory → (read : List ℕ × Version) → RefusesRead ns s (Ok read) (File (file_error_of e))
memory-read ns s e m read = rw m (memory-bytes ns s.dialect read.0)

pub memory-error : (ns : List Renaming) (s : Source) (e : TargetError) → e ≡ targets.NoMemory → (x : Error) → RefusesRead ns s (Err (targets.Io x)) (File (file_error_of e))
memory-error ns s e m x = inr (ap (λ (d : TargetError). File (file_error_of d)) m)

-- a file that can be renamed in, too
pub memory-can : (ns : List Renaming) (s : Source) (a : Result (List ℕ × Version) TargetError) → IsRenamableRead ns s a → RefusesRead ns s a (File errors.NoMemory)
memory-can ns s (Ok read) can = memory-bytes ns s.dialect read.0
memory-can ns s (Err e) can = absurd can

-- the error of a read
pub own-error : (ns : List Renaming) (s : Source) (e : TargetError) → RefusesRead ns s (Err e) (File (file_error_of e))
own-error ns s targets.NotFound = refl
own-error ns s targets.Changed = inl refl
own-error ns s targets.NoMemory = inl refl
own-error ns s (targets.Io x) = inl refl

-- ---- renamings one after another

-- one more renaming, before the others
pub renamed-more : (n : Renaming) (ns : List Renaming) (dialect : Dialect) (bytes next : List ℕ) (r : Result (Vec ℕ Global) RenameFault)
    → IsRenamableOnce n dialect bytes → renamed_once n dialect bytes ≡ Some next
    → MatchResult r (λ new. IsRenamable ns dialect next × (renamed_bytes ns dialect next ≡ Some new.items)) (RefusesBytes ns dialect next)
    → MatchResult r (λ new. IsRenamable (n ∷ ns) dialect bytes × (renamed_bytes (n ∷ ns) dialect bytes ≡ Some new.items)) (RefusesBytes (n ∷ ns) dialect bytes)
renamed-more n ns dialect bytes next (Ok new) can is h = ((can, (next, is, h.0)), ap (renamed_next (renamed_bytes ns dialect)) is ∙ h.1)
renamed-more n ns dialect bytes next (Err e) can is h = inr (can, (next, is, h))
