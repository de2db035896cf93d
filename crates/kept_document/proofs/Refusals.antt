-- Why texts are not opened, and why edits are refused.
use Rattle.std.proofs.Common.{◌≡◌, ◌<◌, ◌≤◌, ◌^◌, ℕ, true, false, List, length, chars, Option, Some, None, sym, subst, arith, rules}
use Rattle.std.specs.Str.{IsUtf8}
use Rattle.parser_input.specs.declared.edition.Edition.{Edition}
use Rattle.ra_parser.specs.declared.grammar.Grammar.{Grammar}
use Rattle.rust_document.specs.Edit.{can_edit, edited}
use Rattle.rust_document.specs.Edit as edits
use Rattle.rust_document.specs.Open.{IsOpened, RefusesOpen}
use Rattle.rust_document.specs.Step.{MAX_TEXT, State}
use Rattle.rust_document.specs.declared.error.EditError.{EditError}
use Rattle.rust_document.specs.declared.error.EditError.TheVariants as edit_errors
use Rattle.rust_document.specs.declared.error.OpenError.{OpenError}
use Rattle.rust_document.specs.declared.error.OpenError.TheVariants as open_errors
use Rattle.text_levels.specs.Levels.{LEVELS, levels}
use Rattle.kept_document.specs.Calls.{IsFresh, IsReadable, IsUnedited, RefusesEdit, RefusesOpening, RefusesText}
use Rattle.kept_document.specs.Reasons.{of_edit, of_open}
use Rattle.kept_document.specs.declared.kept.Kept.{Kept}
use Rattle.kept_document.specs.declared.reason.Reason.{Reason}
use Rattle.kept_document.specs.declared.reason.Reason.TheVariants.{NotUtf8, NoMemory, TooLong, TooDeep}

-- ---- opening

pub text-refused : (edition : Edition) (text : List ℕ) (reason : Reason) → reason ≡ NotUtf8 → ¬ (IsUtf8 text) → RefusesText edition text reason
text-refused edition text reason is fails = rw is fails

pub opening-refused :
    (e : Option Edition) (g : Option Grammar) (edition : Edition) (grammar : Grammar) (text : List ℕ) (reason : Reason)
    → e ≡ Some edition → g ≡ Some grammar → RefusesText edition text reason → RefusesOpening e g text reason
opening-refused e g edition grammar text reason is_edition is_grammar why = rw (is_edition, is_grammar) why

-- the first tree has a number
pub open-refused : (edition : Edition) (text : List ℕ) (next : ℕ) (error : OpenError) (reason : Reason) → reason ≡ of_open error → next ≡ 1 → RefusesOpen text next error → IsUtf8 text → RefusesText edition text reason
open-refused edition text next open_errors.TooLong reason is first why utf8 = rw is (utf8, why)
open-refused edition text next open_errors.NoTreeNumber reason is first why utf8 = absurd (let none = why.1 in omega (arith, first, none))
open-refused edition text next open_errors.NoMemory reason is first why utf8 = rw is tt

-- ---- edits

pub edit-no-text :
    (d : State) (next start end : ℕ) (text : List ℕ) (reason : Reason) → reason ≡ NotUtf8 → ¬ (IsUtf8 text) → RefusesEdit d next start end text reason
edit-no-text d next start end text reason is fails = rw is fails

pub same-edited :
    (shown text put given : List ℕ) (a start b end : ℕ) → shown ≡ text → a ≡ start → b ≡ end → put ≡ given → edited shown a b put ≡ edited text start end given
same-edited shown text put given a start b end t s e p = λ i. edited (t i) (s i) (e i) (p i)

pub edit-unedited :
    (d : State) (next start end : ℕ) (text new : List ℕ) (reason : Reason) → IsUtf8 text → can_edit d.text start end ≡ true
    → new ≡ edited d.text start end text → IsUnedited new reason → RefusesEdit d next start end text reason
edit-unedited d next start end text new TooLong utf8 can is why = (utf8, can, subst (λ (t : List ℕ). MAX_TEXT < length t) is why)
edit-unedited d next start end text new NoMemory utf8 can is why = tt
edit-unedited d next start end text new _ utf8 can is why = absurd why

pub edit-limited :
    (d : State) (next start end : ℕ) (text new : List ℕ) (reason : Reason) (edition : Edition) → edition ≡ d.edition → IsUtf8 text
    → can_edit d.text start end ≡ true → new ≡ edited d.text start end text → IsOpened new → IsUtf8 new → RefusesText edition new reason
    → RefusesEdit d next start end text reason
edit-limited d next start end text new NotUtf8 edition read_by utf8 can is opened read why = absurd (why read)
edit-limited d next start end text new TooLong edition read_by utf8 can is opened read why = (utf8, can, subst (λ (t : List ℕ). MAX_TEXT < length t) is why.1)
edit-limited d next start end text new TooDeep edition read_by utf8 can is opened read why =
    (utf8, can, subst IsOpened is opened, subst (λ (e : Edition). LEVELS < levels e (chars (edited d.text start end text))) read_by (subst (λ (t : List ℕ). LEVELS < levels edition (chars t)) is why.2))
edit-limited d next start end text new NoMemory edition read_by utf8 can is opened read why = tt
edit-limited d next start end text new _ edition read_by utf8 can is opened read why = absurd why

pub edit-failed :
    (d : State) (next start end : ℕ) (text new : List ℕ) (error : EditError) (reason : Reason) → reason ≡ of_edit error → IsUtf8 text
    → can_edit d.text start end ≡ true → new ≡ edited d.text start end text → IsReadable d.edition new → edits.RefusesEdit new next error
    → RefusesEdit d next start end text reason
edit-failed d next start end text new edit_errors.TooLong reason is utf8 can same readable why =
    rw is (utf8, can, subst (λ (t : List ℕ). MAX_TEXT < length t) same why)
edit-failed d next start end text new edit_errors.NoTreeNumber reason is utf8 can same readable why =
    rw is (utf8, can, subst (IsReadable d.edition) same readable, why.1)
edit-failed d next start end text new edit_errors.NoMemory reason is utf8 can same readable why = rw is tt

-- ---- a text that is opened by numbers

pub refused-as :
    (e : Option Edition) (g : Option Grammar) (edition : Edition) (grammar : Grammar) (shown text : List ℕ) (reason : Reason)
    → e ≡ Some edition → g ≡ Some grammar → shown ≡ text → RefusesText edition shown reason → RefusesOpening e g text reason
refused-as e g edition grammar shown text reason is_edition is_grammar same why =
    opening-refused e g edition grammar text reason is_edition is_grammar (subst (λ (t : List ℕ). RefusesText edition t reason) same why)

pub fresh-as :
    (e : Option Edition) (g : Option Grammar) (edition : Edition) (grammar : Grammar) (shown text : List ℕ) (kept : Kept)
    → e ≡ Some edition → g ≡ Some grammar → shown ≡ text → IsFresh (Some edition) (Some grammar) shown kept → IsFresh e g text kept
fresh-as e g edition grammar shown text kept is_edition is_grammar same fresh =
    rw (is_edition, is_grammar) (subst (λ (t : List ℕ). IsFresh (Some edition) (Some grammar) t kept) same fresh)
