use Rattle.std.proofs.Common.{◌≡◌, ◌∙◌, ◌-◌, ◌+◌, List, ℕ, ap, sym, arith, chars, true, Option, Result, Ok, Err, refl}
use Rattle.parser_input.specs.Lines.{after_line, dashes}
use Rattle.parser_input.specs.Preface.{Source, place, bare, fenced, opening_line, closing_line, enclosed}
use Rattle.parser_input.specs.declared.frontmatter_error.FrontmatterError.{FrontmatterError}
use Rattle.parser_input.specs.declared.frontmatter_error.FrontmatterError.TheVariants.{TooFewDashes, Unclosed}
use Rattle.parser_input.proofs.Lines.{dashes-size}
use Rattle.parser_input.proofs.Prefaces.{source-bare, source-few, source-long}
use Rattle.parser_input.proofs.frontmatter.ScriptSource.parse.Goals as goal

pub returns-then-count-eq0 : goal.returns-then-count-eq0
returns-then-count-eq0 c =
    let text = chars c.args.raw.now in
    let opening = c.opening_line-opening.ensures.line ∙ ap (λ (t : List ℕ). opening_line t) c.new-text.ensures in
    let count = c.eat_dashes-count.ensures.count ∙ ap (λ (t : List ℕ). dashes t) (c.here.ensures ∙ opening) in
    let K : Source → Result Source FrontmatterError = λ s. Ok s in
    ap K (c.bare.ensures ∙ ap (λ (t : List ℕ). bare t) c.new-text.ensures) ∙ source-bare text (sym count ∙ c.if-count-eq0.true)

pub overflow_add-end : goal.overflow_add-end
overflow_add-end c =
    let count = c.eat_dashes-count.ensures.count ∙ ap (λ (t : List ℕ). dashes t) c.here.ensures in
    omega (arith, count, dashes-size c.opening_line-opening.result, c.opening_line-opening.ensures.inside, c.remaining.ensures, c.remaining-2.ensures)

pub returns-then-count-lt-FEWEST_DASHES : goal.returns-then-count-lt-FEWEST_DASHES
returns-then-count-lt-FEWEST_DASHES c =
    let text = chars c.args.raw.now in
    let n = c.eat_dashes-count.result in
    let opening = c.opening_line-opening.ensures.line ∙ ap (λ (t : List ℕ). opening_line t) c.new-text.ensures in
    let count = c.eat_dashes-count.ensures.count ∙ ap (λ (t : List ℕ). dashes t) (c.here.ensures ∙ opening) in
    let start : c.remaining.result - c.remaining-2.result ≡ place text (opening_line text) = rw (c.remaining.ensures, c.remaining-2.ensures, opening, c.new-text.ensures) refl in
    let K : ℕ → Result Source FrontmatterError = λ k. Err (TooFewDashes k (k + n)) in
    ap K start ∙ source-few text n count c.if-count-eq0.false c.if-count-lt-FEWEST_DASHES.true

pub returns-in-Some : goal.returns-in-Some
returns-in-Some c =
    let text = chars c.args.raw.now in
    let n = c.eat_dashes-count.result in
    let opening = c.opening_line-opening.ensures.line ∙ ap (λ (t : List ℕ). opening_line t) c.new-text.ensures in
    let count = c.eat_dashes-count.ensures.count ∙ ap (λ (t : List ℕ). dashes t) (c.here.ensures ∙ opening) in
    let inside = c.eat_whole_line.ensures ∙ ap (λ (t : List ℕ). after_line t) (c.here-inside.ensures ∙ opening) in
    let found = c.in-Some.ensures.line ∙ ap (λ (t : List ℕ). closing_line n true t) inside in
    let K : List ℕ → List ℕ → Result Source FrontmatterError = λ t o. Ok (fenced t o c.in-Some.closing) in
    let E : Option (List ℕ) → Result Source FrontmatterError = λ o. enclosed text n o in
    let J : Source → Result Source FrontmatterError = λ s. Ok s in
    ap J c.fenced.ensures ∙ ap (λ t. K t c.opening_line-opening.result) c.new-text.ensures ∙ ap (λ o. K text o) opening ∙ ap E found
    ∙ source-long text n count c.if-count-lt-FEWEST_DASHES.false

pub returns-in-None : goal.returns-in-None
returns-in-None c =
    let text = chars c.args.raw.now in
    let n = c.eat_dashes-count.result in
    let opening = c.opening_line-opening.ensures.line ∙ ap (λ (t : List ℕ). opening_line t) c.new-text.ensures in
    let count = c.eat_dashes-count.ensures.count ∙ ap (λ (t : List ℕ). dashes t) (c.here.ensures ∙ opening) in
    let inside = c.eat_whole_line.ensures ∙ ap (λ (t : List ℕ). after_line t) (c.here-inside.ensures ∙ opening) in
    let found = c.in-None.ensures.line ∙ ap (λ (t : List ℕ). closing_line n true t) inside in
    let start : c.remaining.result - c.remaining-2.result ≡ place text (opening_line text) = rw (c.remaining.ensures, c.remaining-2.ensures, opening, c.new-text.ensures) refl in
    let K : ℕ → Result Source FrontmatterError = λ k. Err (Unclosed k (k + n)) in
    let E : Option (List ℕ) → Result Source FrontmatterError = λ o. enclosed text n o in
    ap K start ∙ ap E found ∙ source-long text n count c.if-count-lt-FEWEST_DASHES.false
