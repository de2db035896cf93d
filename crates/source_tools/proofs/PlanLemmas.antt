-- Plans: the changes of several files, whatever makes them of each.
use Rattle.std.proofs.Common.{◌≡◌, ℕ, zero, suc, ◌<◌, Option, Some, None, Result, Ok, Err, List, [], ◌∷◌, ◌++◌, map, take, length, get_or, refl, ap, sym, ◌∙◌, subst, arith}
use Rattle.std.specs.Prelude.{All, IfSome, MatchResult}
use Rattle.std.specs.List.{flat_map}
use Rattle.std.specs.Option.{option_to_list}
use Rattle.std.specs.Prelude.{String, Vec, string_bytes}
use Rattle.std.specs.Global.{Global}
use Rattle.std.proofs.lemmas.List.{take-map, map-append, get_or-map, length-map}
use Rattle.std.proofs.lemmas.List.Elements.{All-append}
use Rattle.std.proofs.lemmas.Result.{MatchResult-at_ok, MatchResult-at_err}
use Rattle.file_target.specs.declared.error.TargetError.{TargetError}
use Rattle.file_target.specs.Files.{Files}
use Rattle.source_tools.specs.Renames.{changes_in}
use Rattle.source_tools.specs.Writes.{Change, FailsIfKnown, FailsWrite, HasChanges, IsUnwritten, change_in}
use Rattle.source_tools.specs.declared.writes.FileChange.{FileChange}
use Rattle.source_tools.proofs.ListLemmas.{flat-more}

-- these files can be changed, and these are their changes
abbrev pub Planned : {S : Type 0} → (S → Type 0) → (S → List Change) → List S → List FileChange → Type 0
Planned can changes sources made = All can sources × (map change_in made ≡ flat_map changes sources)

abbrev pub IfPlanned : {S : Type 0} → (Files → S → Type 0) → (Files → S → List Change) → Option Files → List S → List FileChange → Type 0
IfPlanned can changes o sources made = IfSome o (λ files. Planned (can files) (changes files) sources made)

-- the result for a file: it can be changed, and this is its change, if any; or it is refused
abbrev pub IsChange : {S F : Type 0} → (S → Type 0) → (S → List Change) → (S → F → Type 0) → S → Result (Option FileChange) F → Type 0
IsChange can changes refuses s r = MatchResult r (λ c. can s × (changes_in c ≡ changes s)) (refuses s)

abbrev pub IfChange : {S F : Type 0} → (Files → S → Type 0) → (Files → S → List Change) → (Files → S → F → Type 0) → Option Files → S → Result (Option FileChange) F → Type 0
IfChange can changes refuses o s r = IfSome o (λ files. IsChange (can files) (changes files) (refuses files) s r)

-- ---- what is planned so far

all-one : {S : Type 0} (P : S → Type 0) (s : S) → P s → All P (s ∷ [])
all-one P s p zero d l = p
all-one P s p (suc k) d l = absurd (omega arith)

changes-in-list : (c : Option FileChange) → map change_in (option_to_list c) ≡ changes_in c
changes-in-list None = refl
changes-in-list (Some c) = refl

-- one more file
pub planned-more : {S F : Type 0} (can : Files → S → Type 0) (changes : Files → S → List Change) (refuses : Files → S → F → Type 0) (o : Option Files) (ss : List S) (s : S) (cs : List FileChange) (r : Result (Option FileChange) F) (c : Option FileChange) → r ≡ Ok c →
    IfChange can changes refuses o s r → IfPlanned can changes o ss cs → IfPlanned can changes o (ss ++ s ∷ []) (cs ++ option_to_list c)
planned-more can changes refuses None ss s cs r c ok is k = tt
planned-more can changes refuses (Some files) ss s cs r c ok is k =
    let here = MatchResult-at_ok (λ (x : Option FileChange). can files s × (changes_in x ≡ changes files s)) (refuses files s) c ok is in
    let one = changes-in-list c ∙ here.1 in (
      All-append (can files) ss (s ∷ []) k.0 (all-one (can files) s here.0),
      map-append change_in cs (option_to_list c) ∙ ap (λ (x : List Change). x ++ map change_in (option_to_list c)) k.1
          ∙ ap (λ (x : List Change). flat_map (changes files) ss ++ x) one ∙ sym (flat-more (changes files) ss s),
    )

-- ---- a refusal

pub default-any : {A : Type 0} (xs : List A) (i : ℕ) (a b : A) → i < length xs → get_or xs i a ≡ get_or xs i b
default-any [] i a b l = absurd (omega arith)
default-any (x ∷ xs) zero a b l = refl
default-any (x ∷ xs) (suc i) a b l = default-any xs i a b (omega arith)

-- The first that is refused: those before it can be changed.
abbrev pub IsFirstRefused : (S F : Type 0) → (S → Type 0) → (S → F → Type 0) → List S → ℕ → F → Type 0
IsFirstRefused S F can refuses ss i e = (i < length ss) × All can (take i ss) × ((d : S) → refuses (get_or ss i d) e)

module _ {S F : Type 0} (can : Files → S → Type 0) (changes : Files → S → List Change) (refuses : Files → S → F → Type 0) (ss : List S) (i : ℕ) (s : S) (within : i < length ss) (at : s ≡ get_or ss i s) (e : F) (made : List FileChange) where
  refused-at : (files : Files) → All (can files) (take i ss) → refuses files s e → IsFirstRefused S F (can files) (refuses files) ss i e
  refused-at files before h = (within, before, λ d. subst (λ (x : S). refuses files x e) (at ∙ default-any ss i s d within) h)

  -- a file is refused
  pub plan-refused : (o : Option Files) (r : Result (Option FileChange) F) → r ≡ Err e → IfPlanned can changes o (take i ss) made → IfChange can changes refuses o s r →
      IfSome o (λ files. IsFirstRefused S F (can files) (refuses files) ss i e)
  plan-refused None r err before is = tt
  plan-refused (Some files) r err before is = refused-at files before.0 (MatchResult-at_err (λ (x : Option FileChange). can files s × (changes_in x ≡ changes files s)) (refuses files s) e err is)

  -- a file that can be changed is refused, since there is no room for its change
  pub plan-memory : (o : Option Files) (r : Result (Option FileChange) F) (c : Option FileChange) → r ≡ Ok c → ((files : Files) → can files s → refuses files s e) →
      IfPlanned can changes o (take i ss) made → IfChange can changes refuses o s r → IfSome o (λ files. IsFirstRefused S F (can files) (refuses files) ss i e)
  plan-memory None r c ok memory before is = tt
  plan-memory (Some files) r c ok memory before is =
      refused-at files before.0 (memory files (MatchResult-at_ok (λ (x : Option FileChange). can files s × (changes_in x ≡ changes files s)) (refuses files s) c ok is).0)

-- ---- what is written of a plan

-- the plan, where files are known
abbrev pub IfPlan : {S X : Type 0} → (Files → S → Type 0) → (Files → S → List Change) → (Files → X → Type 0) → List S → Option Files → Result (Vec FileChange Global) X → Type 0
IfPlan can changes refused ss o r = IfSome o (λ files. MatchResult r (λ cs. Planned (can files) (changes files) ss cs.items) (refused files))

-- one of them is not written
pub plan-stopped : {S X : Type 0} (can : Files → S → Type 0) (changes : Files → S → List Change) (refused : Files → X → Type 0) (ss : List S) (o after : Option Files) (r : Result (Vec FileChange Global) X) (v : Vec FileChange Global) (i : ℕ)
    (path : String Global) (c : FileChange) (e : TargetError) → r ≡ Ok v → IfPlan can changes refused ss o r → i < length v.items → HasChanges (map change_in (take i v.items)) o after
    → c ≡ get_or v.items i c → path ≡ c.path → ((d : FileChange) → FailsIfKnown o after (change_in (get_or v.items i d)) e)
    → IfSome o (λ files. IsUnwritten (flat_map (changes files) ss) files after (string_bytes path) e)
plan-stopped can changes refused ss None after r v i path c e ok plan l h at same fails = tt
plan-stopped can changes refused ss (Some files) after r v i path c e ok plan l h at same fails =
    let made = MatchResult-at_ok (λ (cs : Vec FileChange Global). Planned (can files) (changes files) ss cs.items) (refused files) v ok plan in
    let front : map change_in (take i v.items) ≡ take i (flat_map (changes files) ss) = sym (take-map change_in i v.items) ∙ ap (λ (x : List Change). take i x) made.1 in
    let long : length (flat_map (changes files) ss) ≡ length v.items = sym (ap (λ (x : List Change). length x) made.1) ∙ length-map v.items change_in in
    let one : (d : Change) → change_in c ≡ get_or (flat_map (changes files) ss) i d = λ d.
    ap change_in at ∙ sym (get_or-map change_in v.items i c d l) ∙ ap (λ (x : List Change). get_or x i d) made.1 in
    record {
      number = i;
      within = omega (arith, long, l);
      made = subst (λ (cs : List Change). HasChanges cs (Some files) after) front h;
      at = λ d. ap string_bytes same ∙ ap (λ (x : Change). x.path) (one d);
      failed = λ d. subst (λ (x : Change). IfSome after (λ now. FailsWrite now x e)) (ap change_in (sym at) ∙ one d) (fails c);
    }

-- as many are written as change
pub plan-count : {S X : Type 0} (can : Files → S → Type 0) (changes : Files → S → List Change) (refused : Files → X → Type 0) (ss : List S) (o after : Option Files) (r : Result (Vec FileChange Global) X) (v : Vec FileChange Global) (n : ℕ) →
    r ≡ Ok v → IfPlan can changes refused ss o r → HasChanges (map change_in v.items) o after → n ≡ length v.items →
    IfSome o (λ files. All (can files) ss × HasChanges (flat_map (changes files) ss) (Some files) after × (n ≡ length (flat_map (changes files) ss)))
plan-count can changes refused ss None after r v n ok plan h is = tt
plan-count can changes refused ss (Some files) after r v n ok plan h is =
    let made = MatchResult-at_ok (λ (cs : Vec FileChange Global). Planned (can files) (changes files) ss cs.items) (refused files) v ok plan in (
      made.0,
      subst (λ (cs : List Change). HasChanges cs (Some files) after) made.1 h,
      is ∙ sym (length-map v.items change_in) ∙ ap (λ (x : List Change). length x) made.1,
    )

-- a plan that is refused
pub plan-failed : {S X : Type 0} (can : Files → S → Type 0) (changes : Files → S → List Change) (refused : Files → X → Type 0) (ss : List S) (o : Option Files) (r : Result (Vec FileChange Global) X) (x : X) →
    r ≡ Err x → IfPlan can changes refused ss o r → IfSome o (λ files. refused files x)
plan-failed can changes refused ss None r x err plan = tt
plan-failed can changes refused ss (Some files) r x err plan = MatchResult-at_err (λ (cs : Vec FileChange Global). Planned (can files) (changes files) ss cs.items) (refused files) x err plan
