-- Lemmas on files by path.
use Rattle.std.proofs.Common.{◌≡◌, ℕ, zero, suc, ◌+◌, ◌-◌, ◌<◌, ◌≤◌, Bool, true, false, Option, None, Some, List, [], ◌∷◌, ◌++◌, length, get_or, set, string_bytes, Result, Ok, Err, refl, ap, sym, ◌∙◌, arith, inl, inr}
use Rattle.std.specs.Str.{bytes_eq}
use Rattle.std.proofs.lemmas.Bool.{cases_Bool, true≢false}
use Rattle.std.proofs.lemmas.Slice.Eq.{bytes_eq-Decides}
use Rattle.file_target.specs.declared.memory.Entry.{Entry}
use Rattle.file_target.specs.declared.version.Version.{Version}
use Rattle.file_target.specs.declared.error.TargetError.{TargetError}
use Rattle.file_target.specs.declared.error.TargetError.TheVariants.{Changed, NoMemory, Io}
use Rattle.std.specs.declared.io.Error.{Error}
use Rattle.file_target.specs.Files.{FileState, Files, files_of, state_of, read_unless, read_of, IsPosition, IsWritten, IsWriteError, IsReadError, Permits}

files-here : (e : Entry) (es : List Entry) (path : List ℕ) → bytes_eq (string_bytes e.path) path ≡ true → files_of (e ∷ es) path ≡ Some (state_of e)
unfolding files_of
files-here e es path q = rw (q, files_of) refl

files-later : (e : Entry) (es : List Entry) (path : List ℕ) → bytes_eq (string_bytes e.path) path ≡ false → files_of (e ∷ es) path ≡ files_of es path
unfolding files_of
files-later e es path q = rw (q, files_of) refl

pub files-none : (es : List Entry) (path : List ℕ) → ((k : ℕ) (d : Entry) → k < length es → bytes_eq (string_bytes (get_or es k d).path) path ≡ false) → files_of es path ≡ None
unfolding files_of
files-none [] path h = refl
files-none (e ∷ es) path h = files-later e es path (h 0 e (omega arith)) ∙ files-none es path (λ k d l. h (suc k) d (omega arith))

-- the first entry at a path is its file
pub files-at : (es : List Entry) (path : List ℕ) (i : ℕ) (d : Entry) → i < length es → ((k : ℕ) (d : Entry) → k < i → bytes_eq (string_bytes (get_or es k d).path) path ≡ false) →
    string_bytes (get_or es i d).path ≡ path → files_of es path ≡ Some (state_of (get_or es i d))
files-at [] path i d l h at = absurd (omega arith)
files-at (e ∷ es) path zero d l h at = files-here e es path ((bytes_eq-Decides (string_bytes e.path) path).1 at)
files-at (e ∷ es) path (suc i) d l h at =
    files-later e es path (h 0 e (omega arith)) ∙ files-at es path i d (omega arith) (λ k d' below. h (suc k) d' (omega arith)) at

-- an entry of the same path in its place changes no other file
pub files-other : (es : List Entry) (path other : List ℕ) (i : ℕ) (d new : Entry) → i < length es → string_bytes (get_or es i d).path ≡ path → string_bytes new.path ≡ path →
    (other ≡ path → ⊥) → files_of (set es i new) other ≡ files_of es other
files-other [] path other i d new l was is ne = absurd (omega arith)
files-other (e ∷ es) path other zero d new l was is ne =
    let differs : (x : Entry) → string_bytes x.path ≡ path → bytes_eq (string_bytes x.path) other ≡ false = λ x at.
    elim (cases_Bool (bytes_eq (string_bytes x.path) other)) [
      | inl same ↦ absurd (ne (sym ((bytes_eq-Decides (string_bytes x.path) other).0 same) ∙ at))
      | inr not ↦ not
    ] in
    files-later new es other (differs new is) ∙ sym (files-later e es other (differs e was))
files-other (e ∷ es) path other (suc i) d new l was is ne =
    elim (cases_Bool (bytes_eq (string_bytes e.path) other)) [
      | inl same ↦ files-here e (set es i new) other same ∙ sym (files-here e es other same)
      | inr not ↦ files-later e (set es i new) other not ∙ files-other es path other i d new (omega arith) was is ne ∙ sym (files-later e es other not)
    ]

-- the new entry is the file at its path
pub files-set : (es : List Entry) (path : List ℕ) (i : ℕ) (new : Entry) → i < length es → ((k : ℕ) (d : Entry) → k < i → bytes_eq (string_bytes (get_or es k d).path) path ≡ false) →
    string_bytes new.path ≡ path → files_of (set es i new) path ≡ Some (state_of new)
files-set [] path i new l h is = absurd (omega arith)
files-set (e ∷ es) path zero new l h is = files-here new es path ((bytes_eq-Decides (string_bytes new.path) path).1 is)
files-set (e ∷ es) path (suc i) new l h is =
    files-later e (set es i new) path (h 0 e (omega arith)) ∙ files-set es path i new (omega arith) (λ k d below. h (suc k) d (omega arith)) is

-- what a position tells of the file at its path
pub at-position : (es : List Entry) (path : List ℕ) (i : ℕ) (x : Entry) → IsPosition es path (Some i) → x ≡ get_or es i x → files_of es path ≡ Some (state_of x)
at-position es path i x p e = files-at es path i x p.0 p.1 (p.2 x) ∙ ap (λ y. Some (state_of y)) (sym e)

pub path-position : (es : List Entry) (path : List ℕ) (i : ℕ) (x : Entry) → IsPosition es path (Some i) → x ≡ get_or es i x → string_bytes x.path ≡ path
path-position es path i x p e = ap (λ y. string_bytes y.path) e ∙ p.2 x

-- the entry at an index is one
pub same-entry : (es : List Entry) (i : ℕ) (x y : Entry) → i < length es → x ≡ get_or es i x → y ≡ get_or es i y → x ≡ y
same-entry [] i x y l is-x is-y = absurd (omega arith)
same-entry (e ∷ es) zero x y l is-x is-y = is-x ∙ sym is-y
same-entry (e ∷ es) (suc i) x y l is-x is-y = same-entry es i x y (omega arith) is-x is-y

-- the file of an entry, by its parts
state-is : (e : Entry) (bytes : List ℕ) (v : Version) (r w : Option Error) → e.bytes.items ≡ bytes → e.version ≡ v → e.read_error ≡ r → e.write_error ≡ w →
    state_of e ≡ record { bytes = bytes; version = v; read_error = r; write_error = w }
state-is e bytes v r w a b c d = rw (a, b, c, d) refl

-- a write to an entry is a write to its file
pub written-at : (es : List Entry) (path : List ℕ) (v w : Version) (bytes : List ℕ) (i : ℕ) (x y new : Entry) → IsPosition es path (Some i) → x ≡ get_or es i x → y ≡ get_or es i y →
    x.version ≡ v → x.write_error ≡ None → string_bytes new.path ≡ string_bytes y.path → new.bytes.items ≡ bytes → new.version ≡ w → new.read_error ≡ y.read_error → new.write_error ≡ y.write_error → (w ≡ v → ⊥) →
    IsWritten (files_of es) path v bytes (files_of (set es i new))
written-at es path v w bytes i x y new p is-x is-y same can kept put is reads writes later =
    let back = same-entry es i y x p.0 is-y is-x in
    let state = state-is new bytes w x.read_error x.write_error put is (reads ∙ ap (λ z. z.read_error) back) (writes ∙ ap (λ z. z.write_error) back) in
    let new-path = kept ∙ path-position es path i y p is-y in
    record {
      old = state_of x;
      was = at-position es path i x p is-x;
      expected = same;
      writable = can;
      version = w;
      is = files-set es path i new p.0 p.1 new-path ∙ ap Some state;
      later = later;
      others = λ other ne. files-other es path other i x new p.0 (p.2 x) new-path ne;
    }

-- errors of an entry are those of its file
pub permitted-at : (es : List Entry) (path : List ℕ) (read write : Option Error) (i : ℕ) (x new : Entry) → IsPosition es path (Some i) → x ≡ get_or es i x →
    string_bytes new.path ≡ string_bytes x.path → state_of new ≡ record (state_of x) { read_error = read; write_error = write } → Permits (files_of es) path read write (files_of (set es i new))
permitted-at es path read write i x new p is-x kept put =
    let new-path = kept ∙ path-position es path i x p is-x in
    record {
      file = state_of x;
      was = at-position es path i x p is-x;
      is = files-set es path i new p.0 p.1 new-path ∙ ap Some put;
      others = λ other ne. files-other es path other i x new p.0 (p.2 x) new-path ne;
    }

-- why a write fails
pub write-changed : (es : List Entry) (path : List ℕ) (v : Version) (i : ℕ) (x : Entry) → IsPosition es path (Some i) → x ≡ get_or es i x → (x.version ≡ v → ⊥) → IsWriteError (files_of es path) v Changed
write-changed es path v i x p is-x ne = rw (at-position es path i x p is-x) ne

pub write-refused : (es : List Entry) (path : List ℕ) (v : Version) (i : ℕ) (x y : Entry) (e : Error) → IsPosition es path (Some i) → x ≡ get_or es i x → y ≡ get_or es i y → x.version ≡ v → y.write_error ≡ Some e →
    IsWriteError (files_of es path) v (Io e)
write-refused es path v i x y e p is-x is-y same is = rw (at-position es path i x p is-x) (same, ap (λ z. z.write_error) (same-entry es i x y p.0 is-x is-y) ∙ is)

pub write-memory : (es : List Entry) (path : List ℕ) (v : Version) (i : ℕ) (x : Entry) (e : TargetError) → IsPosition es path (Some i) → x ≡ get_or es i x → x.version ≡ v → e ≡ NoMemory → IsWriteError (files_of es path) v e
write-memory es path v i x e p is-x same is = rw (at-position es path i x p is-x, is) same

-- what a read of an entry answers
pub read-at : (es : List Entry) (path : List ℕ) (i : ℕ) (x : Entry) → IsPosition es path (Some i) → x ≡ get_or es i x → x.read_error ≡ None → read_of (files_of es path) ≡ Ok (x.bytes.items, x.version)
read-at es path i x p is-x can = ap read_of (at-position es path i x p is-x) ∙ ap (λ (o : Option Error). read_unless o (state_of x)) can

pub read-refused : (es : List Entry) (path : List ℕ) (i : ℕ) (x : Entry) (e : Error) → IsPosition es path (Some i) → x ≡ get_or es i x → x.read_error ≡ Some e → IsReadError (files_of es path) (Io e)
read-refused es path i x e p is-x is = inl (ap read_of (at-position es path i x p is-x) ∙ ap (λ (o : Option Error). read_unless o (state_of x)) is)

pub read-memory : (es : List Entry) (path : List ℕ) (i : ℕ) (x : Entry) (e : TargetError) → IsPosition es path (Some i) → x ≡ get_or es i x → e ≡ NoMemory → IsReadError (files_of es path) e
read-memory es path i x e p is-x is = rw (at-position es path i x p is-x) (inr (is, refl))
