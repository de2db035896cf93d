-- Edits of requests, and commands one after another.
use Rattle.std.proofs.Common.{◌≡◌, ◌≢◌, ◌∙◌, ℕ, ◌+◌, ◌≤◌, ◌<◌, ◌^◌, List, [], Bool, true, false, length, map, drop, get_or, chars, refl, ap, sym, subst, arith}
use Rattle.std.specs.Prelude.{◌==◌, ◌&&◌, ◌||◌, nat_le, nat_lt, Option, Some, None, option_and_then, if◌then◌else◌}
use Rattle.std.specs.Str.{IsUtf8, is_utf8}
use Rattle.std.proofs.lemmas.Str.{IsUtf8-from_is_utf8, is_utf8-from_IsUtf8}
use Rattle.serde_json.specs.Read.{read}
use Rattle.std.proofs.lemmas.Bool.Decides.{nat_tests}
use Rattle.std.proofs.lemmas.List.{at_drop_all, at_drop_more}
use Rattle.parser_input.specs.declared.edition.Edition.{Edition}
use Rattle.ra_parser.specs.declared.grammar.Grammar.TheVariants.{Profile}
use Rattle.rust_document.specs.Edit.{can_edit, edited}
use Rattle.rust_document.specs.Open.{IsOpened}
use Rattle.rust_document.specs.Step.{MAX_TEXT, State}
use Rattle.document_requests.specs.Applied.{session}
use Rattle.document_requests.specs.Asked.{command as command_in}
use Rattle.document_requests.specs.Output.{first_session}
use Rattle.document_requests.specs.Request.{Request, request_by}
use Rattle.document_requests.specs.Session.{Session, answer, edited_by}
use Rattle.document_requests.specs.declared.request.Command.{Command}
use Rattle.text_levels.specs.Levels.{LEVELS, levels}
use Rattle.kept_document.specs.Calls.{IsFresh, IsReadable, RefusesEdit, RefusesText, edited_document}
use Rattle.kept_document.specs.DeepRequests.{is_deep_command, is_deep_edit, is_deep_request, is_deep_run, is_deep_run_if_any, is_depth, runs_deep}
use Rattle.kept_document.specs.Depth.{is_deep}
use Rattle.kept_document.specs.declared.kept.Kept.{Kept}
use Rattle.kept_document.specs.declared.reason.Reason.{Reason}
use Rattle.kept_document.specs.declared.reason.Reason.TheVariants.{NotUtf8, NoMemory, TooLong, TooDeep, Range, NoNumber}

-- ---- tests of numbers

below-limit : (n : ℕ) → n ≤ MAX_TEXT → nat_le n MAX_TEXT ≡ true
below-limit n h = grind (arith, nat_tests)

past-limit : (n : ℕ) → MAX_TEXT < n → nat_le n MAX_TEXT ≡ false
past-limit n h = grind (arith, nat_tests)

not-long : (n : ℕ) → n ≤ MAX_TEXT → nat_lt MAX_TEXT n ≡ false
not-long n h = grind (arith, nat_tests)

is-long : (n : ℕ) → MAX_TEXT < n → nat_lt MAX_TEXT n ≡ true
is-long n h = grind (arith, nat_tests)

is-flat : (edition : Edition) (text : List ℕ) → levels edition (chars text) ≤ LEVELS → is_deep edition text ≡ false
is-flat edition text h = let n = levels edition (chars text) in flat n h
  where
    flat : (n : ℕ) → n ≤ LEVELS → nat_lt LEVELS n ≡ false
    flat n h = grind (arith, nat_tests)

is-deep : (edition : Edition) (text : List ℕ) → LEVELS < levels edition (chars text) → is_deep edition text ≡ true
is-deep edition text h = let n = levels edition (chars text) in deep n h
  where
    deep : (n : ℕ) → LEVELS < n → nat_lt LEVELS n ≡ true
    deep n h = grind (arith, nat_tests)

not-spent : (n : ℕ) → n < 2 ^ 32 → (n == 2 ^ 32) ≡ false
not-spent n h = grind (arith, nat_tests)

spent : (n : ℕ) → n ≡ 2 ^ 32 → (n == 2 ^ 32) ≡ true
spent n h = grind (arith, nat_tests)

-- ---- edits

abbrev Stays : State → ℕ → ℕ → ℕ → List ℕ → Type 0
Stays d next start stop text =
    (false ≡ is_deep_edit d start stop text) × (session d next ≡ (edited_by start stop text (session d next)).after)

not-allowed : (d : State) (next start stop : ℕ) (text : List ℕ) → can_edit d.text start stop ≡ false → Stays d next start stop text
not-allowed d next start stop text barred = (rw barred refl, rw barred refl)

too-long : (d : State) (next start stop : ℕ) (text : List ℕ) → can_edit d.text start stop ≡ true → MAX_TEXT < length (edited d.text start stop text) → Stays d next start stop text
too-long d next start stop text can long =
    (rw (can, past-limit (length (edited d.text start stop text)) long) refl, rw (can, is-long (length (edited d.text start stop text)) long) refl)

no-number :
    (d : State) (next start stop : ℕ) (text : List ℕ) → can_edit d.text start stop ≡ true → IsReadable d.edition (edited d.text start stop text) → next ≡ 2 ^ 32
    → Stays d next start stop text
no-number d next start stop text can readable none =
    let new = edited d.text start stop text in
    (rw (can, below-limit (length new) readable.fits, is-flat d.edition new readable.flat) refl, rw (can, not-long (length new) readable.fits, spent next none) refl)

-- what a call that was refused says of an edit
abbrev Says : State → ℕ → ℕ → ℕ → List ℕ → Bool → Type 0
Says d next start stop text deep =
    (deep ≡ is_deep_edit d start stop text) × (deep ≡ false → session d next ≡ (edited_by start stop text (session d next)).after)

says-stays : (d : State) (next start stop : ℕ) (text : List ℕ) (deep : Bool) → deep ≡ false → Stays d next start stop text → Says d next start stop text deep
says-stays d next start stop text deep is stays = (is ∙ stays.0, λ _. stays.1)

says-deep : (d : State) (next start stop : ℕ) (text : List ℕ) (deep : Bool) → deep ≡ true → RefusesEdit d next start stop text TooDeep → Says d next start stop text deep
says-deep d next start stop text deep is why =
    let new = edited d.text start stop text in
    let deeper : true ≡ is_deep_edit d start stop text = rw (why.1, below-limit (length new) why.2, is-deep d.edition new why.3) refl in
    (is ∙ deeper, λ h. absurd (let bad : true ≡ false = sym is ∙ h in cc))

pub refused-edit :
    (d : State) (next start stop : ℕ) (text : List ℕ) (reason : Reason) (deep : Bool) → IsUtf8 text → deep ≡ is_depth reason → (reason ≡ NoMemory → ⊥)
    → RefusesEdit d next start stop text reason → Says d next start stop text deep
refused-edit d next start stop text NotUtf8 deep utf8 is lacks why = absurd (why utf8)
refused-edit d next start stop text Range deep utf8 is lacks why = says-stays d next start stop text deep is (not-allowed d next start stop text why.1)
refused-edit d next start stop text TooLong deep utf8 is lacks why = says-stays d next start stop text deep is (too-long d next start stop text why.1 why.2)
refused-edit d next start stop text NoNumber deep utf8 is lacks why = says-stays d next start stop text deep is (no-number d next start stop text why.1 why.2 why.3)
refused-edit d next start stop text TooDeep deep utf8 is lacks why = says-deep d next start stop text deep is why
refused-edit d next start stop text NoMemory deep utf8 is lacks why = absurd (lacks refl)
refused-edit d next start stop text _ deep utf8 is lacks why = absurd why

pub made-edit :
    (d after : State) (next later start stop : ℕ) (text : List ℕ) → can_edit d.text start stop ≡ true → after ≡ edited_document d start stop text next
    → IsReadable after.edition after.text → later ≡ next + 1 → next < 2 ^ 32
    → (false ≡ is_deep_edit d start stop text) × (session after later ≡ (edited_by start stop text (session d next)).after)
made-edit d after next later start stop text can is readable counted left =
    let new = edited d.text start stop text in
    let read : IsReadable d.edition new = subst (λ (s : State). IsReadable s.edition s.text) is readable in (
      rw (can, below-limit (length new) read.fits, is-flat d.edition new read.flat) refl,
      ap (λ (s : State). session s later) is
          ∙ ap (session (edited_document d start stop text next)) counted
          ∙ sym (rw (can, not-long (length new) read.fits, not-spent next left) refl),
    )

-- ---- opening

pub refused-run :
    (r : Request) (reason : Reason) (deep : Bool) → IsUtf8 r.text → deep ≡ is_depth reason → (reason ≡ NoMemory → ⊥)
    → RefusesText r.edition r.text reason → deep ≡ is_deep_run r
unfolding is_deep_run
refused-run r NotUtf8 deep utf8 is lacks why = absurd (why utf8)
refused-run r TooLong deep utf8 is lacks why = is ∙ rw (past-limit (length r.text) why.1) refl
refused-run r TooDeep deep utf8 is lacks why = is ∙ rw (below-limit (length r.text) why.1, is-deep r.edition r.text why.2) refl
refused-run r NoMemory deep utf8 is lacks why = absurd (lacks refl)
refused-run r _ deep utf8 is lacks why = absurd why

pub opened-run :
    (r : Request) (kept : Kept) → IsFresh (Some r.edition) (Some r.grammar) r.text kept → runs_deep r.commands (session kept.document kept.ids) ≡ is_deep_run r
unfolding is_deep_run
opened-run r kept fresh =
    let edition : kept.document.edition ≡ r.edition = cc (fresh.edition_is) in
    let grammar : kept.document.grammar ≡ r.grammar = cc (fresh.grammar_is) in
    let first : session kept.document kept.ids ≡ first_session r.grammar r.edition r.text =
    λ i. record { document = record { edition = edition i; grammar = grammar i; text = fresh.text_is i; number = fresh.number_is i }; next = fresh.next_is i } in
    let flat : levels r.edition (chars r.text) ≤ LEVELS = subst (λ (e : Edition). levels e (chars r.text) ≤ LEVELS) edition fresh.readable.flat in
    ap (runs_deep r.commands) first ∙ sym (rw (below-limit (length r.text) fresh.readable.fits, is-flat r.edition r.text flat) refl)

-- ---- requests

pub short-request : (bytes : List ℕ) → length bytes ≤ LEVELS → false ≡ is_deep_request bytes
unfolding is_deep_request
short-request bytes short = rw (within (length bytes) short) refl
  where
    within : (n : ℕ) → n ≤ LEVELS → nat_le n LEVELS ≡ true
    within n h = grind (arith, nat_tests)

longer : (n : ℕ) → LEVELS < n → nat_le n LEVELS ≡ false
longer n h = grind (arith, nat_tests)

by-test : (bytes : List ℕ) (b found : Bool) → is_utf8 bytes ≡ b → ¬ (IsUtf8 bytes) → false ≡ (if b then found else false)
by-test bytes true found is fails = absurd (fails (IsUtf8-from_is_utf8 bytes is))
by-test bytes false found is fails = refl

pub no-text-request : (bytes : List ℕ) → LEVELS < length bytes → ¬ (IsUtf8 bytes) → false ≡ is_deep_request bytes
unfolding is_deep_request
no-text-request bytes long fails =
    rw (longer (length bytes) long) (by-test bytes (is_utf8 bytes) (is_deep_run_if_any (option_and_then (request_by Profile) (read bytes))) refl fails)

pub text-request :
    (bytes text : List ℕ) (found : Option Request) → LEVELS < length bytes → text ≡ bytes → IsUtf8 bytes
    → found ≡ option_and_then (request_by Profile) (read text) → is_deep_run_if_any found ≡ is_deep_request bytes
unfolding is_deep_request
text-request bytes text found long same utf8 is =
    let read_so : found ≡ option_and_then (request_by Profile) (read bytes) = is ∙ ap (λ (t : List ℕ). option_and_then (request_by Profile) (read t)) same in
    rw (longer (length bytes) long, is_utf8-from_IsUtf8 bytes utf8) (ap is_deep_run_if_any read_so)

-- ---- commands

abbrev runs : List Command → Session → Bool
runs commands s = runs_deep (map command_in commands) s

next-command :
    (commands : List Command) (n : ℕ) (x : Command) (s : Session) → n < length commands → x ≡ get_or commands n x
    → runs (drop n commands) s ≡ (is_deep_command (command_in x) s.document || runs (drop (n + 1) commands) (answer (command_in x) s).after)
next-command commands n x s below item =
    at_drop_more (λ (cs : List Command). runs cs s) commands n x below
    ∙ ap (λ (y : Command). is_deep_command (command_in y) s.document || runs (drop (n + 1) commands) (answer (command_in y) s).after) (sym item)

pub goes-on :
    (commands : List Command) (n : ℕ) (x : Command) (s after : Session) (b all : Bool) → n < length commands → x ≡ get_or commands n x
    → b ≡ is_deep_command (command_in x) s.document → b ≡ false → after ≡ (answer (command_in x) s).after
    → runs_deep (map command_in (drop n commands)) s ≡ all → runs_deep (map command_in (drop (n + 1) commands)) after ≡ all
goes-on commands n x s after b all below item is flat left so-far =
    ap (runs (drop (n + 1) commands)) left
    ∙ sym (ap (λ (t : Bool). t || runs (drop (n + 1) commands) (answer (command_in x) s).after) (sym is ∙ flat))
    ∙ sym (next-command commands n x s below item)
    ∙ so-far

pub stops-here :
    (commands : List Command) (n : ℕ) (x : Command) (s : Session) (b all : Bool) → n < length commands → x ≡ get_or commands n x
    → b ≡ is_deep_command (command_in x) s.document → b ≡ true → runs_deep (map command_in (drop n commands)) s ≡ all → true ≡ all
stops-here commands n x s b all below item is deep so-far =
    sym (ap (λ (t : Bool). t || runs (drop (n + 1) commands) (answer (command_in x) s).after) (sym is ∙ deep))
    ∙ sym (next-command commands n x s below item)
    ∙ so-far

pub all-done :
    (commands : List Command) (n : ℕ) (s : Session) (all : Bool) → length commands ≤ n → runs_deep (map command_in (drop n commands)) s ≡ all → false ≡ all
all-done commands n s all past so-far = sym (at_drop_all (λ (cs : List Command). runs cs s) commands n past) ∙ so-far
