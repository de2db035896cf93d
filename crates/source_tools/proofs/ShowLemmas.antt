-- Lemmas on files that are shown one after another.
use Rattle.std.proofs.Common.{◌≡◌, ◌⊎◌, ℕ, suc, ◌+◌, Bool, true, false, ◌||◌, Option, Some, None, Result, Ok, Err, List, [], ◌∷◌, ◌++◌, map, length, refl, ap, sym, ◌∙◌, inl, inr, arith, append_assoc, append-nil, subst, if◌then◌else◌}
use Rattle.std.specs.Prelude.{IfSome}
use Rattle.std.specs.List.{list_any}
use Rattle.std.specs.Io.KnownBytes.{Appends}
use Rattle.std.proofs.lemmas.List.{length-map}
use Rattle.std.proofs.lemmas.Result.{MatchResult-at_ok, MatchResult-at_err}
use Rattle.file_target.specs.Files.{Files}
use Rattle.source_tools.proofs.KnownLemmas.{appends-none, appends-more}
use Rattle.source_tools.proofs.ListLemmas.{flat-more, map-more}
use Rattle.source_tools.specs.declared.source.Source.{Source}
use Rattle.source_tools.specs.declared.source.FileError.{FileError}
use Rattle.source_tools.specs.declared.source.FileError.TheVariants.{NotFound, Changed, NotUtf8, TooLong, NoMemory, Io}
use Rattle.source_tools.specs.declared.source.FileFault.{FileFault}
use Rattle.source_tools.specs.declared.view.View.{View}
use Rattle.source_tools.specs.declared.view.FileView.{FileView}
use Rattle.source_tools.specs.Outcomes.{Outcome, Viewed, Missing, NotText, Long, Unreadable, Unknown, IsOutcome, outcome_in, rows_in, rows_of_all, failed, says_something, is_fault, faults_from, fault_in}

-- ---- whether there are messages

or-false : (b : Bool) → (b || false) ≡ b
or-false true = refl
or-false false = refl

or-assoc : (a b c : Bool) → ((a || b) || c) ≡ (a || (b || c))
or-assoc true b c = refl
or-assoc false b c = refl

any-more : (os : List Outcome) (o : Outcome) → list_any says_something (os ++ o ∷ []) ≡ (list_any says_something os || says_something o)
any-more [] o = or-false (says_something o)
any-more (p ∷ os) o = ap (λ b. says_something p || b) (any-more os o) ∙ sym (or-assoc (says_something p) (list_any says_something os) (says_something o))

-- ---- the files that are left out

faults-none : (i : ℕ) → faults_from i [] ≡ []
unfolding faults_from
faults-none i = refl

abbrev fault_at : ℕ → Outcome → List (ℕ × Outcome)
fault_at i o = if is_fault o then (i, o) ∷ [] else []

faults-cons : (i : ℕ) (o : Outcome) (os : List Outcome) → faults_from i (o ∷ os) ≡ fault_at i o ++ faults_from (suc i) os
unfolding faults_from
faults-cons i (Viewed r h) os = refl
faults-cons i Missing os = refl
faults-cons i NotText os = refl
faults-cons i Long os = refl
faults-cons i (Unreadable e) os = refl
faults-cons i Unknown os = refl

faults-more : (i : ℕ) (os : List Outcome) (o : Outcome) (n : ℕ) → n ≡ i + length os → faults_from i (os ++ o ∷ []) ≡ faults_from i os ++ fault_at n o
faults-more i [] o n e =
    let here : n ≡ i = omega arith in
    faults-cons i o [] ∙ ap (λ (x : List (ℕ × Outcome)). fault_at i o ++ x) (faults-none (suc i)) ∙ append-nil (fault_at i o)
    ∙ sym (ap (λ (x : List (ℕ × Outcome)). x ++ fault_at n o) (faults-none i) ∙ ap (λ (k : ℕ). fault_at k o) here)
faults-more i (p ∷ os) o n e =
    let after : n ≡ suc i + length os = omega arith in
    faults-cons i p (os ++ o ∷ []) ∙ ap (λ (x : List (ℕ × Outcome)). fault_at i p ++ x) (faults-more (suc i) os o n after)
    ∙ sym (append_assoc (fault_at i p) (faults_from (suc i) os) (fault_at n o)) ∙ ap (λ (x : List (ℕ × Outcome)). x ++ fault_at n o) (sym (faults-cons i p os))

-- ---- what the loop keeps

-- what is written, and the summary, are those of the files so far
pub record Kept (view : View) (files : Files) (sources : List Source) (before now : Option (List ℕ)) (has : Bool) (left : List FileFault) : Type 0 where
  pub written : Appends before now (rows_of_all view files sources)
  pub messages : has ≡ list_any says_something (map (outcome_in view files) sources)
  pub faults : map fault_in left ≡ faults_from 0 (map (outcome_in view files) sources)

abbrev pub IfKept : View → Option Files → List Source → Option (List ℕ) → Option (List ℕ) → Bool → List FileFault → Type 0
IfKept view o sources before now has left = IfSome o (λ files. Kept view files sources before now has left)

abbrev pub IfOutcome : View → Option Files → Source → Result FileView FileError → Type 0
IfOutcome view o s r = IfSome o (λ files. IsOutcome (outcome_in view files s) r)

pub kept-none : (view : View) (o : Option Files) (out : Option (List ℕ)) → IfKept view o [] out out false []
kept-none view None out = tt
kept-none view (Some files) out = record { written = appends-none out; messages = refl; faults = sym (faults-none 0) }

-- one more file
module _ (view : View) (files : Files) (ss : List Source) (s : Source) (before now : Option (List ℕ)) (has : Bool) (left : List FileFault) (k : Kept view files ss before now has left) where
  abbrev os : List Outcome
  os = map (outcome_in view files) ss

  abbrev o : Outcome
  o = outcome_in view files s

  all-rows : rows_of_all view files (ss ++ s ∷ []) ≡ rows_of_all view files ss ++ rows_in o
  all-rows = flat-more (λ (x : Source). rows_in (outcome_in view files x)) ss s

  all-outcomes : map (outcome_in view files) (ss ++ s ∷ []) ≡ os ++ o ∷ []
  all-outcomes = map-more (outcome_in view files) ss s

  any-outcome : list_any says_something (map (outcome_in view files) (ss ++ s ∷ [])) ≡ (list_any says_something os || says_something o)
  any-outcome = ap (λ (x : List Outcome). list_any says_something x) all-outcomes ∙ any-more os o

  all-faults : faults_from 0 (map (outcome_in view files) (ss ++ s ∷ [])) ≡ faults_from 0 os ++ fault_at (length ss) o
  all-faults = ap (λ (x : List Outcome). faults_from 0 x) all-outcomes ∙ faults-more 0 os o (length ss) (sym (length-map ss (outcome_in view files)) ∙ omega arith)

  viewed-more : (after : Option (List ℕ)) (v : FileView) → o ≡ Viewed v.rows.items v.has_messages → Appends now after v.rows.items
      → Kept view files (ss ++ s ∷ []) before after (has || v.has_messages) left
  viewed-more after v is w = record {
    written = subst (λ (x : List ℕ). Appends before after x) (ap (λ (x : Outcome). rows_of_all view files ss ++ rows_in x) (sym is) ∙ sym all-rows) (appends-more before now after _ _ k.written w);
    messages = ap (λ (b : Bool). b || v.has_messages) k.messages ∙ ap (λ (x : Outcome). list_any says_something os || says_something x) (sym is) ∙ sym any-outcome;
    faults = k.faults ∙ sym (append-nil (faults_from 0 os)) ∙ ap (λ (x : Outcome). faults_from 0 os ++ fault_at (length ss) x) (sym is) ∙ sym all-faults;
  }

  failed-more : (e : FileError) → o ≡ failed e → (is_fault (failed e) ≡ true) → (says_something (failed e) ≡ false) → rows_in (failed e) ≡ []
      → Kept view files (ss ++ s ∷ []) before now has (left ++ record { index = length ss; error = e } ∷ [])
  failed-more e is fault quiet none = record {
    written = subst (λ (x : List ℕ). Appends before now x) (sym (append-nil (rows_of_all view files ss)) ∙ ap (λ (x : List ℕ). rows_of_all view files ss ++ x) (sym none ∙ ap rows_in (sym is)) ∙ sym all-rows) k.written;
    messages = k.messages ∙ sym (or-false (list_any says_something os)) ∙ ap (λ (b : Bool). list_any says_something os || b) (sym quiet ∙ ap says_something (sym is)) ∙ sym any-outcome;
    faults =
        map-more fault_in left (record { index = length ss; error = e }) ∙ ap (λ (x : List (ℕ × Outcome)). x ++ (length ss, failed e) ∷ []) k.faults
        ∙ ap (λ (x : List (ℕ × Outcome)). faults_from 0 os ++ x) (sym (ap (λ (b : Bool). if b then (length ss, failed e) ∷ [] else []) fault) ∙ ap (λ (x : Outcome). fault_at (length ss) x) (sym is))
        ∙ sym all-faults;
  }

failed-is-fault : (e : FileError) → is_fault (failed e) ≡ true
failed-is-fault NotFound = refl
failed-is-fault Changed = refl
failed-is-fault NotUtf8 = refl
failed-is-fault TooLong = refl
failed-is-fault NoMemory = refl
failed-is-fault (Io e) = refl

failed-is-quiet : (e : FileError) → says_something (failed e) ≡ false
failed-is-quiet NotFound = refl
failed-is-quiet Changed = refl
failed-is-quiet NotUtf8 = refl
failed-is-quiet TooLong = refl
failed-is-quiet NoMemory = refl
failed-is-quiet (Io e) = refl

failed-is-empty : (e : FileError) → rows_in (failed e) ≡ []
failed-is-empty NotFound = refl
failed-is-empty Changed = refl
failed-is-empty NotUtf8 = refl
failed-is-empty TooLong = refl
failed-is-empty NoMemory = refl
failed-is-empty (Io e) = refl

-- a file that is shown
pub kept-viewed : (view : View) (o : Option Files) (ss : List Source) (s : Source) (before now after : Option (List ℕ)) (has : Bool) (left : List FileFault) (r : Result FileView FileError) (v : FileView) →
    r ≡ Ok v → IfOutcome view o s r → Appends now after v.rows.items → IfKept view o ss before now has left → IfKept view o (ss ++ s ∷ []) before after (has || v.has_messages) left
kept-viewed view None ss s before now after has left r v ok is w k = tt
kept-viewed view (Some files) ss s before now after has left r v ok is w k =
    viewed-more view files ss s before now has left k after v (MatchResult-at_ok (λ (x : FileView). outcome_in view files s ≡ Viewed x.rows.items x.has_messages) _ v ok is) w

-- a file that is left out
pub kept-failed : (view : View) (o : Option Files) (ss : List Source) (s : Source) (before now : Option (List ℕ)) (has : Bool) (left : List FileFault) (r : Result FileView FileError) (e : FileError) (n : ℕ) →
    r ≡ Err e → (e ≡ NoMemory → ⊥) → n ≡ length ss → IfOutcome view o s r → IfKept view o ss before now has left → IfKept view o (ss ++ s ∷ []) before now has (left ++ record { index = n; error = e } ∷ [])
kept-failed view None ss s before now has left r e n err other at is k = tt
kept-failed view (Some files) ss s before now has left r e n err other at is k =
    let why = MatchResult-at_err (λ (x : FileView). outcome_in view files s ≡ Viewed x.rows.items x.has_messages) (λ (d : FileError). (d ≡ NoMemory) ⊎ (outcome_in view files s ≡ failed d)) e err is in
    elim why [
      | inl memory ↦ absurd (other memory)
      | inr known ↦ rw at (failed-more view files ss s before now has left k e known (failed-is-fault e) (failed-is-quiet e) (failed-is-empty e))
    ]
