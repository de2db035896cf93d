-- The tokens are those of the text, and a token of the tree is looked for by its start.
use Rattle.std.proofs.Common.{◌≡◌, ℕ, List, map, drop, chars, Some, sym, ◌∙◌, ap, subst}
use Rattle.std.proofs.lemmas.Bool.{false≢true}
use Rattle.std.specs.Str.{IsCharBoundary, IsUtf8}
use Rattle.rowan_green.specs.declared.utility_types.NodeOrToken.TheVariants.{Token}
use Rattle.rowan.specs.Place.{Place, start_of, term_at, text_at}
use Rattle.parser_input.specs.Lexed.{lexed}
use Rattle.rust_document.specs.Step.{State}
use Rattle.rust_document.specs.Tokens.{span_of, tokens_of}
use Rattle.rust_document.proofs.RenameTests.{AreTokens, in-order, leaf-begins, leaf-text, token-from, token-rest, token-starts, token-to}
use Rattle.rust_document.proofs.document.Document.has_name_token.Goals as goal

pub starts_token-requires : goal.starts_token-requires
starts_token-requires c =
    let d = c.args.self.now in
    let are : AreTokens c.as_slice.result.now (lexed d.edition (chars d.text)) =
    ap (map span_of) c.as_slice.ensures.value ∙ c.self.invariant.2.tokens_are ∙ ap (λ (s : State). tokens_of s.edition (chars s.text)) c.self.view_is in
    in-order c.as_slice.result.now (lexed d.edition (chars d.text)) are

pub returns-then-not-starts_token : goal.returns-then-not-starts_token
returns-then-not-starts_token c =
    let d = c.args.self.now in
    let e = c.args.token.now in
    let are : AreTokens c.as_slice.result.now (lexed d.edition (chars d.text)) =
    ap (map span_of) c.as_slice.ensures.value ∙ c.self.invariant.2.tokens_are ∙ ap (λ (s : State). tokens_of s.edition (chars s.text)) c.self.view_is in
    let at : c.from-start.result ≡ start_of e.place = cc in (
      λ no. absurd (false≢true no),
      λ h. sym c.if-not-starts_token.true ∙ c.starts_token.ensures.1 (token-starts d c.as_slice.result.now e c.from-start.result are at h),
    )

pub range_from-requires : goal.range_from-requires
range_from-requires c = λ _.
    let d = c.args.self.now in
    let are : AreTokens c.as_slice.result.now (lexed d.edition (chars d.text)) =
    ap (map span_of) c.as_slice.ensures.value ∙ c.self.invariant.2.tokens_are ∙ ap (λ (s : State). tokens_of s.edition (chars s.text)) c.self.view_is in
    let text : c.as_str.result.now ≡ d.text = c.as_str.ensures.value ∙ ap (λ (s : State). s.text) c.self.view_is in
    let from = token-rest d c.as_slice.result.now c.from-start.result (subst IsUtf8 text c.as_str.utf8) are (c.starts_token.ensures.0 c.if-not-starts_token.false) in
    subst (λ (bs : List ℕ). IsCharBoundary bs c.from-start.result) (sym text) from.boundary

pub is_identifier-requires : goal.is_identifier-requires
is_identifier-requires c =
    let d = c.args.self.now in
    let e = c.args.token.now in
    let at : c.from-start.result ≡ start_of e.place = cc in
    let text : c.as_str.result.now ≡ d.text = c.as_str.ensures.value ∙ ap (λ (s : State). s.text) c.self.view_is in
    let is : term_at e.place ≡ Some (Token c.green.result.now) = ap (λ (p : Place). term_at p) (sym c.cursor.ensures) ∙ c.green.ensures in
    leaf-begins d e c.green.result.now c.from-start.result c.range_from.result.now c.text-name.result.now (subst IsUtf8 text c.as_str.utf8) is c.requires at
    (c.range_from.ensures.value ∙ ap (λ (z : List ℕ). drop c.from-start.result z) text) c.text-name.ensures

pub returns : goal.returns
returns c =
    let d = c.args.self.now in
    let e = c.args.token.now in
    let start = c.from-start.result in
    let are : AreTokens c.as_slice.result.now (lexed d.edition (chars d.text)) =
    ap (map span_of) c.as_slice.ensures.value ∙ c.self.invariant.2.tokens_are ∙ ap (λ (s : State). tokens_of s.edition (chars s.text)) c.self.view_is in
    let at : start ≡ start_of e.place = cc in
    let text : c.as_str.result.now ≡ d.text = c.as_str.ensures.value ∙ ap (λ (s : State). s.text) c.self.view_is in
    let u : IsUtf8 d.text = subst IsUtf8 text c.as_str.utf8 in
    let is : term_at e.place ≡ Some (Token c.green.result.now) = ap (λ (p : Place). term_at p) (sym c.cursor.ensures) ∙ c.green.ensures in
    let rest = c.range_from.ensures.value ∙ ap (λ (z : List ℕ). drop start z) text in
    let name : c.text-name.result.now ≡ text_at e.place = c.text-name.ensures ∙ leaf-text e.place c.green.result.now is in
    let from = token-rest d c.as_slice.result.now start u are (c.starts_token.ensures.0 c.if-not-starts_token.false) in (
      λ y. token-from d e start c.range_from.result.now c.text-name.result.now from at rest name (c.is_identifier.ensures.0 y),
      λ h. c.is_identifier.ensures.1 (token-to d e start c.range_from.result.now c.text-name.result.now u at rest name h),
    )
