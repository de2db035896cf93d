use Rattle.std.proofs.Common.{◌≡◌, ℕ, ◌<◌, ◌≤◌, ap, sym, ◌∙◌, arith, length, unwrap_or, refl, true, false}
use Rattle.std.proofs.lemmas.Bool.{false≢true}
use Rattle.std.proofs.lemmas.Option.{slice_get_past}
use Rattle.parser_input.specs.declared.syntax_kind.SyntaxKind.TheVariants.{ERROR}
use Rattle.parser_input.specs.KindTable.{all_kinds}
use Rattle.syntax_tree.specs.Language.{kind_of_raw, kind_of_raw-raw_of}
use Rattle.syntax_tree.proofs.language.RustLanguageLanguage.kind_from_raw.Goals as goal

count : length all_kinds ≡ 256
unfolding all_kinds
count = refl

from_past : (n : ℕ) → (n < 256 → false ≡ true) → 256 ≤ n
from_past n none = let not_below : n < 256 → ⊥ = λ l. false≢true (none l) in omega (arith, not_below)

pub returns-in-Some : goal.returns-in-Some
returns-in-Some c = sym (kind_of_raw-raw_of c.in-Some.kind) ∙ ap kind_of_raw c.in-Some.ensures.number

pub returns-in-None : goal.returns-in-None
returns-in-None c =
    let past : length all_kinds ≤ c.args.raw.0 = omega (arith, count, from_past c.args.raw.0 c.in-None.ensures.known.1) in
    sym (ap (λ o. unwrap_or o ERROR) (slice_get_past all_kinds c.args.raw.0 past))
