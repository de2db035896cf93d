-- The text of the hunks of a script makes the new text of the old one.
use Rattle.std.proofs.Common.{◌≡◌, ℕ, zero, suc, ◌+◌, ◌-◌, ◌/◌, ◌%◌, ◌^◌, ◌<◌, ◌≤◌, ◌==◌, ◌&&◌, Bool, true, false, List, [], ◌∷◌, ◌++◌, Option, None, Some, length, map, take, drop, refl, ap, sym, subst, ◌∙◌, arith, inl, inr, append_assoc, length-drop, if◌then◌else◌}
use Rattle.std.specs.Prelude.{◌||◌, codes, nat_lt, option_and_then, option_map}
use Rattle.std.specs.List.{flat_map, list_any}
use Rattle.std.proofs.lemmas.Bool.{cases_Bool, ne_eqb, or_from, or_parts}
use Rattle.text_diff.specs.declared.change.Change.{Change}
use Rattle.text_diff.specs.Lines.{Line, line_feed, lines, joined}
use Rattle.text_diff.specs.Script.{IsRun, IsScript}
use Rattle.text_diff.specs.Names.{escaped, is_special, name_text, names_text}
use Rattle.text_diff.specs.Hunks.{Hunk, group_len, groups, hunk_from, hunk_new_from, hunk_of, hunk_to, hunk_new_to, hunks, rows_in, IsGroup}
use Rattle.text_diff.specs.Patch.{patched}
use Rattle.text_diff.specs.Unified.{hunk_text, is_ended, unified_text}
use Rattle.text_diff.specs.DiffText.{hunks_in, hunks_of, patched_text}
use Rattle.text_diff.proofs.LineLemmas.{lines-nil, lines-join}
use Rattle.text_diff.proofs.PatchLemmas.{counts-run}
use Rattle.text_diff.proofs.GroupLemmas.{groups-nil, groups-first}
use Rattle.text_diff.proofs.HunkLemmas.{Leads, first-of, run-bounds}
use Rattle.text_diff.proofs.PlainLines.{AreLines, IsEnded, ended-behind, lines-are, lines-count, lines-ended, plain-append, rows-are}
use Rattle.text_diff.proofs.ReadLemmas.{AreGood, IsGood, hunks-read}

-- ---- names

special-is : (b : ℕ) → is_special b ≡ false → (b == line_feed) ≡ false
special-is b plain = ne_eqb b line_feed (λ feed. absurd (let special = ap is_special feed in cc))

raw-plain : (path : List ℕ) → list_any is_special path ≡ false → is_ended path ≡ false
raw-plain [] plain = refl
raw-plain (b ∷ bs) plain =
    let both = or_parts (is_special b) (list_any is_special bs) plain in
    or_from (b == line_feed) (is_ended bs) (special-is b both.0) (raw-plain bs both.1)

quoted-plain : (b : ℕ) → (b == 34 || b == 92) ≡ true → is_ended (92 ∷ b ∷ []) ≡ false
quoted-plain b quoted = or_from (b == line_feed) false (ne_eqb b line_feed (λ feed. absurd (let no = ap (λ (x : ℕ). x == 34 || x == 92) feed in cc))) refl

digit-plain : (k : ℕ) → (48 + k == line_feed) ≡ false
digit-plain k = ne_eqb (48 + k) line_feed (λ same. omega arith)

escaped-plain : (b : ℕ) → is_ended (escaped b) ≡ false
escaped-plain b = elim (cases_Bool (is_special b)) [
  | inl special ↦
      ap (λ (v : Bool). is_ended (if v then (if b == 34 || b == 92 then 92 ∷ b ∷ [] else 92 ∷ (48 + b / 64) ∷ (48 + b / 8 % 8) ∷ (48 + b % 8) ∷ []) else b ∷ [])) special
      ∙ (
      elim (cases_Bool (b == 34 || b == 92)) [
        | inl quoted ↦
            ap (λ (v : Bool). is_ended (if v then 92 ∷ b ∷ [] else 92 ∷ (48 + b / 64) ∷ (48 + b / 8 % 8) ∷ (48 + b % 8) ∷ [])) quoted ∙ quoted-plain b quoted
        | inr octal ↦
            ap (λ (v : Bool). is_ended (if v then 92 ∷ b ∷ [] else 92 ∷ (48 + b / 64) ∷ (48 + b / 8 % 8) ∷ (48 + b % 8) ∷ [])) octal
            ∙ or_from _ _ (digit-plain (b / 64)) (or_from _ _ (digit-plain (b / 8 % 8)) (or_from _ _ (digit-plain (b % 8)) refl))
      ])
  | inr plain ↦
      ap (λ (v : Bool). is_ended (if v then (if b == 34 || b == 92 then 92 ∷ b ∷ [] else 92 ∷ (48 + b / 64) ∷ (48 + b / 8 % 8) ∷ (48 + b % 8) ∷ []) else b ∷ [])) plain
      ∙ or_from (b == line_feed) false (special-is b plain) refl
]

all-escaped-plain : (path : List ℕ) → is_ended (flat_map escaped path) ≡ false
all-escaped-plain [] = refl
all-escaped-plain (b ∷ bs) = plain-append (escaped b) (flat_map escaped bs) (escaped-plain b) (all-escaped-plain bs)

name-plain : (side : ℕ) (path : List ℕ) → (side == line_feed) ≡ false → is_ended (name_text side path) ≡ false
name-plain side path other = elim (cases_Bool (list_any is_special path)) [
  | inl special ↦
      ap (λ (v : Bool). is_ended (if v then 34 ∷ side ∷ 47 ∷ (flat_map escaped path ++ 34 ∷ []) else side ∷ 47 ∷ path)) special
      ∙ or_from (side == line_feed) _ other (plain-append (flat_map escaped path) (34 ∷ []) (all-escaped-plain path) refl)
  | inr plain ↦
      ap (λ (v : Bool). is_ended (if v then 34 ∷ side ∷ 47 ∷ (flat_map escaped path ++ 34 ∷ []) else side ∷ 47 ∷ path)) plain
      ∙ or_from (side == line_feed) _ other (raw-plain path plain)
]

abbrev name_line : List ℕ → ℕ → List ℕ → Line
name_line front side path = front ++ (name_text side path ++ codes "\t\n")

name-ended : (front : List ℕ) (side : ℕ) (path : List ℕ) → is_ended front ≡ false → (side == line_feed) ≡ false → IsEnded (name_line front side path)
name-ended front side path plain other =
    let end : IsEnded (codes "\t\n") = record { body = codes "\t"; plain = refl; is = refl } in
    ended-behind front (name_text side path ++ codes "\t\n") plain (ended-behind (name_text side path) (codes "\t\n") (name-plain side path other) end)

names-cut : (path : List ℕ) → names_text path ≡ name_line (codes "--- ") 97 path ++ name_line (codes "+++ ") 98 path
names-cut path =
    ap (λ (v : List ℕ). codes "--- " ++ v) (sym (append_assoc (name_text 97 path) (codes "\t\n") (name_line (codes "+++ ") 98 path)))

names-lines : (path text : List ℕ) → lines (names_text path ++ text) ≡ name_line (codes "--- ") 97 path ∷ name_line (codes "+++ ") 98 path ∷ lines text
names-lines path text =
    let old : Line = name_line (codes "--- ") 97 path in
    let new : Line = name_line (codes "+++ ") 98 path in
    ap (λ (v : List ℕ). lines (v ++ text)) (names-cut path) ∙ ap lines (append_assoc old new text)
    ∙ lines-ended old (new ++ text) (name-ended (codes "--- ") 97 path refl refl)
    ∙ ap (λ (v : List Line). old ∷ v) (lines-ended new text (name-ended (codes "+++ ") 98 path refl refl))

-- ---- the text of hunks

unified-read : (path : List ℕ) (hs : List Hunk) → AreGood hs → hunks_in (lines (unified_text path hs)) ≡ Some hs
unified-read path [] good = ap hunks_in lines-nil
unified-read path (h ∷ hs) good =
    ap hunks_in (names-lines path (flat_map hunk_text (h ∷ hs))) ∙ ap (option_and_then hunks_of) (hunks-read (h ∷ hs) good)

group-good : (old new : List Line) (g : List Change) → 0 < length g → IsGroup old new g → AreLines old → AreLines new → length old < 2 ^ 64 → length new < 2 ^ 64 → IsGood (hunk_of old new g)
group-good old new [] some h a b m n = absurd (omega arith)
group-good old new (c ∷ cs) some h a b m n =
    let bounds = run-bounds old new (hunk_from c) (hunk_new_from c) (c ∷ cs) (hunk_to old c cs) (hunk_new_to old c cs) h.1 in
    let counts = counts-run old new (hunk_from c) (hunk_new_from c) (c ∷ cs) (hunk_to old c cs) (hunk_new_to old c cs) h.1 in
    record {
      rows = rows-are old new (hunk_from c) (c ∷ cs) (hunk_to old c cs) a b;
      old_fits = rw counts.0 (omega (arith, bounds.old_end));
      new_fits = rw counts.1 (omega (arith, bounds.new_end));
    }

group-some : (c : Change) (cs : List Change) → 0 < length (take (group_len (c ∷ cs)) (c ∷ cs))
group-some c cs = omega arith

hunks-first : (old new : List Line) (c : Change) (cs : List Change) → hunks old new (c ∷ cs)
    ≡ hunk_of old new (take (group_len (c ∷ cs)) (c ∷ cs)) ∷ hunks old new (drop (group_len (c ∷ cs)) (c ∷ cs))
hunks-first old new c cs = ap (map (hunk_of old new)) (groups-first c cs)

hunks-good : (left : ℕ) (old new : List Line) (cs : List Change) (i j : ℕ) → length cs ≤ left → Leads old new cs i j → AreLines old → AreLines new → length old < 2 ^ 64 → length new < 2 ^ 64 → AreGood (hunks old new cs)
hunks-good left old new [] i j l h a b m n = subst (λ (gs : List (List Change)). AreGood (map (hunk_of old new) gs)) (sym groups-nil) tt
hunks-good zero old new (c ∷ cs) i j l h a b m n = absurd (omega arith)
hunks-good (suc left) old new (c ∷ cs) i j l h a b m n =
    let first = first-of old new (c ∷ cs) i j (group_len (c ∷ cs)) h (omega arith) refl in
    let fewer : length (drop (group_len (c ∷ cs)) (c ∷ cs)) ≤ left = omega (arith, length-drop (group_len (c ∷ cs)) (c ∷ cs)) in
    subst AreGood (sym (hunks-first old new c cs)) (
      group-good old new (take (group_len (c ∷ cs)) (c ∷ cs)) (group-some c cs) first.group a b m n,
      hunks-good left old new (drop (group_len (c ∷ cs)) (c ∷ cs)) first.next_old first.next_new fewer first.next a b m n,
    )

pub script-applies :
    (path old new : List ℕ) (cs : List Change) → IsScript (lines old) (lines new) cs → length old < 2 ^ 64 → length new < 2 ^ 64 →
    patched (hunks (lines old) (lines new) cs) (lines old) ≡ Some (lines new) → patched_text (unified_text path (hunks (lines old) (lines new) cs)) old ≡ Some new
script-applies path old new cs script m n patches =
    let few = lines-count old in
    let few' = lines-count new in
    let good = hunks-good (length cs) (lines old) (lines new) cs 0 0 (omega arith) (record { run = script; starts = λ d ds e. omega arith }) (lines-are old) (lines-are new) (omega arith) (omega arith) in
    ap (option_and_then (λ hs. option_map joined (patched hs (lines old)))) (unified-read path (hunks (lines old) (lines new) cs) good)
    ∙ ap (option_map joined) patches ∙ ap Some (lines-join new)
