-- Lemmas on files that are written one after another.
use Rattle.std.proofs.Common.{◌≡◌, ℕ, Bool, Option, Some, None, List, [], ◌∷◌, ◌++◌, refl, ap, sym, ◌∙◌, inl, inr, if◌then◌else◌, Ok, Err, Result, subst}
use Rattle.std.specs.Str.{bytes_eq}
use Rattle.std.proofs.lemmas.Bool.{cases_Bool, true≢false}
use Rattle.std.proofs.lemmas.Result.{MatchResult-at_ok, MatchResult-at_err}
use Rattle.std.proofs.lemmas.Slice.Eq.{bytes_eq-Decides}
use Rattle.file_target.specs.Files.{Files, FileState, IsWritten, IsWriteError, WriteGives}
use Rattle.file_target.specs.declared.version.Version.{Version}
use Rattle.file_target.specs.declared.error.TargetError.{TargetError}
use Rattle.source_tools.specs.Writes.{Texts, Change, FailsIfKnown, bytes_in, texts_of, with_change, with_changes, HasChanges}

changes-none : (texts : Texts) (path : List ℕ) → with_changes [] texts path ≡ texts path
unfolding with_changes
changes-none texts path = refl

changes-more : (cs : List Change) (c : Change) (texts : Texts) (path : List ℕ) →
    with_changes (cs ++ c ∷ []) texts path ≡ with_change c (with_changes cs texts) path
unfolding with_changes
changes-more [] c texts path = refl
changes-more (d ∷ cs) c texts path = changes-more cs c (with_change d texts) path

-- a write is a change
change-written : (before now : Files) (c : Change) (v : Version) (texts : Texts) → IsWritten before c.path v c.bytes now →
    ((path : List ℕ) → texts_of before path ≡ texts path) → (path : List ℕ) → texts_of now path ≡ with_change c texts path
change-written before now c v texts w was path = elim (cases_Bool (bytes_eq c.path path)) [
  | inl y ↦
      let same : c.path ≡ path = (bytes_eq-Decides c.path path).0 y in
      ap (λ (p : List ℕ). texts_of now p) (sym same) ∙ ap bytes_in w.is
      ∙ sym (ap (λ (b : Bool). if b then Some c.bytes else texts path) y)
  | inr n ↦
      let other : path ≡ c.path → ⊥ =
      λ e. true≢false (sym ((bytes_eq-Decides c.path path).1 (sym e)) ∙ n) in
      ap bytes_in (w.others path other) ∙ was path
      ∙ sym (ap (λ (b : Bool). if b then Some c.bytes else texts path) n)
]

pub has-none : (files : Option Files) → HasChanges [] files files
has-none None = tt
has-none (Some files) = λ path. sym (changes-none (texts_of files) path)

pub has-more : (cs : List Change) (c : Change) (v : Version) (before mid after : Option Files) (r : Result (Unit {0}) TargetError) (u : Unit {0}) → r ≡ Ok u →
    HasChanges cs before mid → WriteGives mid c.path v c.bytes after r → HasChanges (cs ++ c ∷ []) before after
has-more cs c v None mid after r u ok h w = tt
has-more cs c v (Some before) None after r u ok h w = absurd h
has-more cs c v (Some before) (Some mid) after r u ok h w =
    let made = MatchResult-at_ok (λ _. IsWritten mid c.path v c.bytes w.0) _ u ok w.2 in
    rw w.1 (λ path. change-written mid w.0 c v (with_changes cs (texts_of before)) made h path ∙ sym (changes-more cs c (texts_of before) path))

pub has-kept : (cs : List Change) (path : List ℕ) (v : Version) (bytes : List ℕ) (before mid after : Option Files) (r : Result (Unit {0}) TargetError) (e : TargetError) → r ≡ Err e →
    HasChanges cs before mid → WriteGives mid path v bytes after r → HasChanges cs before after
has-kept cs path v bytes None mid after r e err h w = tt
has-kept cs path v bytes (Some before) None after r e err h w = absurd h
has-kept cs path v bytes (Some before) (Some mid) after r e err h w =
    let same = MatchResult-at_err (λ _. IsWritten mid path v bytes w.0) (λ d. ((other : List ℕ) → w.0 other ≡ mid other) × IsWriteError (mid path) v d) e err w.2 in
    rw w.1 (λ other. ap bytes_in (same.0 other) ∙ h other)

-- the error of a write that failed
pub write-failed : (cs : List Change) (c : Change) (before mid after : Option Files) (r : Result (Unit {0}) TargetError) (e : TargetError) → r ≡ Err e →
    HasChanges cs before mid → WriteGives mid c.path c.version c.bytes after r → FailsIfKnown before after c e
write-failed cs c None mid after r e err h w = tt
write-failed cs c (Some before) None after r e err h w = absurd h
write-failed cs c (Some before) (Some mid) after r e err h w =
    let same = MatchResult-at_err (λ _. IsWritten mid c.path c.version c.bytes w.0) (λ d. ((other : List ℕ) → w.0 other ≡ mid other) × IsWriteError (mid c.path) c.version d) e err w.2 in
    rw w.1 (subst (λ (o : Option FileState). IsWriteError o c.version e) (sym (same.0 c.path)) same.1)
