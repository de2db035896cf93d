-- What is made of a file, by what a read of it answers.
use Rattle.std.proofs.Common.{◌≡◌, ◌⊎◌, ℕ, Option, Some, None, Result, Ok, Err, List, true, false, sym, subst, inl, inr}
use Rattle.std.specs.Prelude.{IfSome, IsSome}
use Rattle.std.specs.declared.io.Error.{Error}
use Rattle.std.proofs.lemmas.Result.{MatchResult-at_ok, MatchResult-at_err}
use Rattle.file_target.specs.declared.target.Contents.{Contents}
use Rattle.file_target.specs.declared.error.TargetError.{TargetError}
use Rattle.file_target.specs.declared.error.TargetError.TheVariants as targets
use Rattle.file_target.specs.declared.version.Version.{Version}
use Rattle.file_target.specs.Files.{Files, FileState, IsReadError, ReadGives, read_of, read_unless}

abbrev pub Answer : Type 0
Answer = Result (List ℕ × Version) TargetError

module _ (P : Answer → Type 0) (path : List ℕ) where
  -- the file is read
  pub when-read : (c : Contents) → P (Ok (c.bytes.items, c.version)) → (o : Option Files) (r : Result Contents TargetError) → r ≡ Ok c → ReadGives o path r → IfSome o (λ files. P (read_of (files path)))
  when-read c p None r ok g = tt
  when-read c p (Some files) r ok g =
      subst P (sym (MatchResult-at_ok (λ (x : Contents). read_of (files path) ≡ Ok (x.bytes.items, x.version)) (IsReadError (files path)) c ok g)) p

  -- it is not read: by the file's own error, or out of memory
  module _ (e : TargetError) (own : P (Err e)) (memory_read : e ≡ targets.NoMemory → (read : List ℕ × Version) → P (Ok read)) (memory_error : e ≡ targets.NoMemory → (x : Error) → P (Err (targets.Io x))) where
    by-error : (f : FileState) (x : Option Error) → e ≡ targets.NoMemory → P (read_unless x f)
    by-error f None m = memory_read m (f.bytes, f.version)
    by-error f (Some x) m = memory_error m x

    by-file : (o : Option FileState) → e ≡ targets.NoMemory → IsSome o → P (read_of o)
    by-file None m some = absurd (let z : false ≡ true = some in cc)
    by-file (Some f) m some = by-error f f.read_error m

    pub when-refused : (o : Option Files) (r : Result Contents TargetError) → r ≡ Err e → ReadGives o path r → IfSome o (λ files. P (read_of (files path)))
    when-refused None r err g = tt
    when-refused (Some files) r err g =
        elim (MatchResult-at_err (λ (x : Contents). read_of (files path) ≡ Ok (x.bytes.items, x.version)) (IsReadError (files path)) e err g) [
          | inl is ↦ subst P (sym is) own
          | inr m ↦ by-file (files path) m.0 m.1
        ]
