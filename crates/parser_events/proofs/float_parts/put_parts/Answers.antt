-- The text from the first dot on decides the steps of the float.
use Rattle.std.proofs.Common.{◌≡◌, Bool, ℕ, List, [], ◌∷◌, Some, None, OnOk, IfErr, chars, sym, ap, subst, ◌∙◌, arith}
use Rattle.std.proofs.lemmas.Str.Pattern.{strip_prefix_char}
use Rattle.parser_input.specs.Kinds.{NAME_REF, INT_NUMBER, DOT}
use Rattle.parser_events.specs.Dress.{from_dot}
use Rattle.parser_events.specs.Laying.{split_steps}
use Rattle.parser_events.specs.Sinks.{TakesAll, FailsAtOne}
use Rattle.parser_events.specs.TextSteps.{TextStep, Token, Enter, Exit}
use Rattle.parser_events.proofs.Dots.{dot-first, dot-read, dot-text, split-wrong, split-one, split-two}
use Rattle.parser_events.proofs.float_parts.put_parts.Goals as goal

pub returns-in-None-clause-taken : goal.returns-in-None-clause-taken
returns-in-None-clause-taken g c =
    let t = chars c.args.text.now in
    let is = split-wrong c.args.ends_in_dot c.args.pos t (dot-first c.args.rest.now t c.utf8.rest c.requires.from (strip_prefix_char 46 c.args.rest.now None c.in-None.ensures.cases (omega arith))) in
    subst (λ (ss : List TextStep). OnOk c.put_all.result (TakesAll g.S.StrSink.takes c.args.sink.now ss c.put_all.new.sink)) is c.put_all.ensures.taken

pub returns-in-None-clause-refused : goal.returns-in-None-clause-refused
returns-in-None-clause-refused g c =
    let t = chars c.args.text.now in
    let is = split-wrong c.args.ends_in_dot c.args.pos t (dot-first c.args.rest.now t c.utf8.rest c.requires.from (strip_prefix_char 46 c.args.rest.now None c.in-None.ensures.cases (omega arith))) in
    subst (λ (ss : List TextStep). IfErr c.put_all.result (λ error. FailsAtOne g.S.StrSink.takes g.S.StrSink.fails_at c.args.sink.now ss error c.put_all.new.sink)) is c.put_all.ensures.refused

pub returns-then-ends_in_dot-clause-taken : goal.returns-then-ends_in_dot-clause-taken
returns-then-ends_in_dot-clause-taken g c =
    let t = chars c.args.text.now in
    let dotted = dot-read c.args.rest.now c.in-Some.fraction.now c.utf8.rest (strip_prefix_char 46 c.args.rest.now (Some c.in-Some.fraction) c.in-Some.ensures.cases (omega arith)) in
    let from : from_dot t ≡ 46 ∷ chars c.in-Some.fraction.now = sym c.requires.from ∙ dotted in
    let w = chars c.args.whole.now in
    let ds = chars c.in-Some.fraction.now in
    let is =
    ap (λ (x : List ℕ). Enter NAME_REF ∷ Token INT_NUMBER w ∷ Exit ∷ Exit ∷ Token DOT x ∷ []) dotted
    ∙ split-one c.args.pos t w ds (sym c.requires.before) from
    ∙ ap (λ (b : Bool). split_steps b c.args.pos t) (sym c.if-ends_in_dot.true) in
    subst (λ (ss : List TextStep). OnOk c.put_all-then-ends_in_dot.result (TakesAll g.S.StrSink.takes c.args.sink.now ss c.put_all-then-ends_in_dot.new.sink)) is c.put_all-then-ends_in_dot.ensures.taken

pub returns-then-ends_in_dot-clause-refused : goal.returns-then-ends_in_dot-clause-refused
returns-then-ends_in_dot-clause-refused g c =
    let t = chars c.args.text.now in
    let dotted = dot-read c.args.rest.now c.in-Some.fraction.now c.utf8.rest (strip_prefix_char 46 c.args.rest.now (Some c.in-Some.fraction) c.in-Some.ensures.cases (omega arith)) in
    let from : from_dot t ≡ 46 ∷ chars c.in-Some.fraction.now = sym c.requires.from ∙ dotted in
    let w = chars c.args.whole.now in
    let ds = chars c.in-Some.fraction.now in
    let is =
    ap (λ (x : List ℕ). Enter NAME_REF ∷ Token INT_NUMBER w ∷ Exit ∷ Exit ∷ Token DOT x ∷ []) dotted
    ∙ split-one c.args.pos t w ds (sym c.requires.before) from
    ∙ ap (λ (b : Bool). split_steps b c.args.pos t) (sym c.if-ends_in_dot.true) in
    subst (λ (ss : List TextStep). IfErr c.put_all-then-ends_in_dot.result (λ error. FailsAtOne g.S.StrSink.takes g.S.StrSink.fails_at c.args.sink.now ss error c.put_all-then-ends_in_dot.new.sink)) is c.put_all-then-ends_in_dot.ensures.refused

pub returns-else-ends_in_dot-clause-taken : goal.returns-else-ends_in_dot-clause-taken
returns-else-ends_in_dot-clause-taken g c =
    let t = chars c.args.text.now in
    let dotted = dot-read c.args.rest.now c.in-Some.fraction.now c.utf8.rest (strip_prefix_char 46 c.args.rest.now (Some c.in-Some.fraction) c.in-Some.ensures.cases (omega arith)) in
    let from : from_dot t ≡ 46 ∷ chars c.in-Some.fraction.now = sym c.requires.from ∙ dotted in
    let w = chars c.args.whole.now in
    let ds = chars c.in-Some.fraction.now in
    let is =
    ap (λ (x : List ℕ). Enter NAME_REF ∷ Token INT_NUMBER w ∷ Exit ∷ Exit ∷ Token DOT x ∷ Enter NAME_REF ∷ Token INT_NUMBER ds ∷ Exit ∷ []) dot-text
    ∙ split-two c.args.pos t w ds (sym c.requires.before) from
    ∙ ap (λ (b : Bool). split_steps b c.args.pos t) (sym c.if-ends_in_dot.false) in
    subst (λ (ss : List TextStep). OnOk c.put_all-in-Some.result (TakesAll g.S.StrSink.takes c.args.sink.now ss c.put_all-in-Some.new.sink)) is c.put_all-in-Some.ensures.taken

pub returns-else-ends_in_dot-clause-refused : goal.returns-else-ends_in_dot-clause-refused
returns-else-ends_in_dot-clause-refused g c =
    let t = chars c.args.text.now in
    let dotted = dot-read c.args.rest.now c.in-Some.fraction.now c.utf8.rest (strip_prefix_char 46 c.args.rest.now (Some c.in-Some.fraction) c.in-Some.ensures.cases (omega arith)) in
    let from : from_dot t ≡ 46 ∷ chars c.in-Some.fraction.now = sym c.requires.from ∙ dotted in
    let w = chars c.args.whole.now in
    let ds = chars c.in-Some.fraction.now in
    let is =
    ap (λ (x : List ℕ). Enter NAME_REF ∷ Token INT_NUMBER w ∷ Exit ∷ Exit ∷ Token DOT x ∷ Enter NAME_REF ∷ Token INT_NUMBER ds ∷ Exit ∷ []) dot-text
    ∙ split-two c.args.pos t w ds (sym c.requires.before) from
    ∙ ap (λ (b : Bool). split_steps b c.args.pos t) (sym c.if-ends_in_dot.false) in
    subst (λ (ss : List TextStep). IfErr c.put_all-in-Some.result (λ error. FailsAtOne g.S.StrSink.takes g.S.StrSink.fails_at c.args.sink.now ss error c.put_all-in-Some.new.sink)) is c.put_all-in-Some.ensures.refused
