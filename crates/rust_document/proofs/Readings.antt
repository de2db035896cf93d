-- The parser's input of a text, and the steps over it.
use Rattle.std.proofs.Common.{◌≡◌, ◌≤◌, ◌+◌, ℕ, List, length, chars, is_some, sym, subst, ap, ◌∙◌, arith, Bool, Option}
use Rattle.std.specs.Str.{IsUtf8}
use Rattle.rustc_lexer.specs.Shebang.{shebang}
use Rattle.parser_input.specs.Input.{Token, input}
use Rattle.parser_input.specs.Lexed.{leaves_of}
use Rattle.parser_input.specs.Preface.{source}
use Rattle.parser_input.specs.Stored.{Whole, frontmatter_end, whole_of}
use Rattle.parser_input.specs.declared.edition.Edition.{Edition}
use Rattle.parser_events.specs.Steps.{Step, steps}
use Rattle.rust_grammar.specs.Entry.{entry}
use Rattle.rust_grammar.specs.Whole.{whole}
use Rattle.ra_parser.specs.Entries.{production_of}
use Rattle.ra_parser.specs.declared.entry_points.TopEntryPoint.{TopEntryPoint}
use Rattle.ra_parser.specs.Grammars.{is_whole}
use Rattle.ra_parser.specs.declared.grammar.Grammar.{Grammar}
use Rattle.rust_document.specs.NextReading.{AreStepsBy, one_if, tokens_in}
use Rattle.rust_document.specs.Reading.{after_preface}
use Rattle.rust_document.proofs.After.{frontmatter-len, parts-len, shebang-len}
use Rattle.rust_document.proofs.Sizes.{count-all}
use Rattle.rust_document.proofs.Whole.{tokens-within}

-- a text within the limit has no more tokens
pub few-tokens :
    (grammar : Grammar) (edition : Edition) (bs : List ℕ) (w : Whole) (ts : List Token) → IsUtf8 bs → w ≡ whole_of edition (chars bs)
    → ts ≡ input (is_whole grammar) w.edition (leaves_of w.leaves) → length bs ≤ 16777216 → length ts ≤ 16777216
few-tokens grammar edition bs w ts u is made fits =
    omega (
      arith,
      ap (λ (xs : List Token). length xs) made,
      tokens-within grammar w.edition w.leaves,
      ap (λ (v : Whole). length v.leaves) is,
      count-all edition bs u,
      fits,
    )

pub input-is :
    (grammar : Grammar) (edition : Edition) (text : List ℕ) (w : Whole) (ts : List Token) → w ≡ whole_of edition text
    → ts ≡ input (is_whole grammar) w.edition (leaves_of w.leaves) → ts ≡ tokens_in grammar edition text
input-is grammar edition text w ts is made = made ∙ ap (λ (v : Whole). input (is_whole grammar) v.edition (leaves_of v.leaves)) is

pub steps-are :
    (top : TopEntryPoint) (grammar : Grammar) (edition : Edition) (text : List ℕ) (w : Whole) (ts : List Token) (ss : List Step) → w ≡ whole_of edition text
    → ts ≡ tokens_in grammar edition text → ss ≡ steps (entry whole (production_of top) ts) → AreStepsBy (production_of top) grammar w.edition text ss
steps-are top grammar edition text w ts ss is made parsed =
    subst (λ (e : Edition). AreStepsBy (production_of top) grammar e text ss) (sym (ap (λ (v : Whole). v.edition) is))
    (parsed ∙ ap (λ (xs : List Token). steps (entry whole (production_of top) xs)) made)

-- the leaves behind the preface
pub leaves-behind :
    (edition : Edition) (text : List ℕ) (w : Whole) (all : ℕ) (line : Option ℕ) (fenced : Bool) (few : ℕ) → w ≡ whole_of edition text
    → all ≡ length w.leaves → line ≡ shebang text → fenced ≡ is_some (frontmatter_end (source text)) → few ≡ one_if (is_some line) + one_if fenced
    → all ≡ few + length (after_preface edition text)
leaves-behind edition text w all line fenced few is count first second sum =
    omega (
      arith,
      count,
      ap (λ (v : Whole). length v.leaves) is,
      sum,
      ap (λ (o : Option ℕ). one_if (is_some o)) first,
      ap one_if second,
      shebang-len text,
      frontmatter-len text,
      parts-len edition text,
    )
