-- The longest run at the front of a text, as a run is measured.
use Rattle.std.proofs.Common.{◌≡◌, ℕ, suc, Bool, true, false, List, [], ◌∷◌, ◌++◌, length, take, drop, get_or, sym, ◌∙◌, ap}
use Rattle.std.specs.List.{list_all}
use Rattle.std.proofs.Math.Seq.{drop-append_seam, take-append_seam}
use Rattle.std.proofs.lemmas.List.{take-append-drop}
use Rattle.rustc_lexer.specs.Scan.{run_len, run}
use Rattle.rustc_lexer.specs.Lexeme.{digits, has_digit}
use Rattle.rustc_lexer.specs.Numbers.{LongestRun}
use Rattle.rustc_lexer.specs.Reads.{Reads}
use Rattle.rustc_lexer.proofs.Booleans.{and_left, and_right}
use Rattle.rustc_lexer.proofs.Identifiers.{run-all}
use Rattle.rustc_lexer.proofs.Reading.{reads-run, reads-digits}
use Rattle.rustc_lexer.proofs.Runs.{run_after, run_none, run_more}
use Rattle.rustc_lexer.proofs.Steps.{run-true}

run-joined : (p : ℕ → Bool) (xs rest : List ℕ) → list_all p xs ≡ true → p (get_or rest 0 0) ≡ false → run_len p (xs ++ rest) ≡ length xs
unfolding run_len
run-joined p [] rest all stop = run_none p rest stop
run-joined p (x ∷ xs) rest all stop =
    run-true p x (xs ++ rest) (and_left (p x) (list_all p xs) all) ∙ ap suc (run-joined p xs rest (and_right (p x) (list_all p xs) all) stop)

pub run-measured : {p : ℕ → Bool} {text xs rest : List ℕ} → LongestRun p text xs rest → run_len p text ≡ length xs
run-measured {p} {text} {xs} {rest} r = ap (run_len p) r.whole ∙ run-joined p xs rest r.all r.longest

-- what it leaves
pub run-rest : {p : ℕ → Bool} {text xs rest : List ℕ} → LongestRun p text xs rest → rest ≡ drop (run_len p text) text
run-rest {p} {text} {xs} {rest} r =
    sym (ap (λ n. drop n text) (run-measured r) ∙ ap (λ z. drop (length xs) z) r.whole ∙ drop-append_seam xs rest)

pub run-text : {p : ℕ → Bool} {text xs rest : List ℕ} → LongestRun p text xs rest → xs ≡ take (run_len p text) text
run-text {p} {text} {xs} {rest} r =
    sym (ap (λ n. take n text) (run-measured r) ∙ ap (λ z. take (length xs) z) r.whole ∙ take-append_seam xs rest)

-- each text has one
pub run-there : (p : ℕ → Bool) (text : List ℕ) → p 0 ≡ false → LongestRun p text (take (run_len p text) text) (drop (run_len p text) text)
run-there p text none = record {
  whole = sym (take-append-drop (run_len p text) text);
  all = run-all p text;
  longest = run_after p text none;
}

-- none where the first character does not pass
pub run-empty : {p : ℕ → Bool} {text xs rest : List ℕ} → LongestRun p text xs rest → p (get_or text 0 0) ≡ false → rest ≡ text
run-empty {p} {text} r none = run-rest r ∙ ap (λ n. drop n text) (run_none p text none)

-- past a first character that passes
pub run-past : {p : ℕ → Bool} {text xs rest : List ℕ} → LongestRun p text xs rest → p 0 ≡ false → p (get_or text 0 0) ≡ true → rest ≡ drop (run_len p (drop 1 text)) (drop 1 text)
run-past {p} {text} r none first = run-rest r ∙ sym (run_more p text none first)

pub longest-digits : {p : ℕ → Bool} {text xs rest : List ℕ} → LongestRun p text xs rest → Reads (digits p) text (has_digit xs) rest
longest-digits {p} r = reads-digits p (run-rest r) (ap has_digit (run-text r))

pub longest-run : {p : ℕ → Bool} {text xs rest : List ℕ} → LongestRun p text xs rest → Reads (run p) text (run_len p text) rest
longest-run {p} r = reads-run p (run-rest r)
