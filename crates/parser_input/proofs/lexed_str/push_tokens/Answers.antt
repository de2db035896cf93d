-- Token by token, up to the end.
use Rattle.std.proofs.Common.{◌≡◌, ◌∙◌, ◌+◌, ℕ, List, None, false, sym, ap, subst, arith, chars, drop}
use Rattle.std.proofs.lemmas.Str.{IsCharBoundary-from_drop}
use Rattle.rustc_lexer.specs.Characters.{size}
use Rattle.rustc_lexer.specs.Tokens as lexer
use Rattle.rustc_lexer.specs.declared.token.Token.{Token}
use Rattle.rustc_lexer.specs.declared.token.TokenKind.TheVariants.{LineComment}
use Rattle.parser_input.specs.Lexed.{is_split}
use Rattle.parser_input.specs.Stored.{Found, leaf_next}
use Rattle.parser_input.specs.declared.lexed_str.StoredLeaf.{StoredLeaf}
use Rattle.parser_input.proofs.LexedSteps.{found-long, found-more}
use Rattle.parser_input.proofs.TokenSteps.{after-token, found-end, held}
use Rattle.parser_input.proofs.lexed_str.push_tokens.Goals as goal

abbrev empty_token : Token
empty_token = record { kind = LineComment None; len = 0 }

pub loop-i-init : goal.loop-i-init
loop-i-init c = (c.requires.found, c.requires.tokens)

pub range_from-requires : goal.range_from-requires
range_from-requires c = λ h. IsCharBoundary-from_drop c.args.text.now c.loop-i.place c.loop-i.invariant.0.within c.loop-i.invariant.0.utf8

pub leaf_of-next-requires-clause-token : goal.leaf_of-next-requires-clause-token
leaf_of-next-requires-clause-token c =
    let z = held c.args.text.now c.loop-i.place c.args.tokens.now c.loop-i.i empty_token c.loop-i-test.true c.loop-i.invariant.1 in
    z.is ∙ ap (λ (x : List ℕ). lexer.token (lexer.first_lexeme (chars x))) (sym c.range_from.ensures.value)

pub overflow_add-place : goal.overflow_add-place
overflow_add-place c =
    let ed = c.args.edition in
    let z = held c.args.text.now c.loop-i.place c.args.tokens.now c.loop-i.i empty_token c.loop-i-test.true c.loop-i.invariant.1 in
    let len = c.leaf_of-next.ensures.len ∙ ap (λ (x : List ℕ). size (leaf_next ed (chars x)).leaf.text) c.range_from.ensures.value in
    let long = found-long ed c.args.text.now c.loop-i.place c.loop-i.leaves.items c.loop-i.invariant.0 z.some in
    omega (arith, len, long.1)

pub loop-i-preserved : goal.loop-i-preserved
loop-i-preserved c =
    let ed = c.args.edition in
    let text = c.args.text.now in
    let place = c.loop-i.place in
    let next = c.leaf_of-next.result in
    let z = held text place c.args.tokens.now c.loop-i.i empty_token c.loop-i-test.true c.loop-i.invariant.1 in
    let at = c.range_from.ensures.value in
    let p : StoredLeaf = record { kind = next.kind; message = next.message; end = place + next.len } in
    let kind = c.leaf_of-next.ensures.kind ∙ ap (λ (x : List ℕ). (leaf_next ed (chars x)).leaf.kind) at in
    let message = c.leaf_of-next.ensures.message ∙ ap (λ (x : List ℕ). (leaf_next ed (chars x)).message) at in
    let end = ap (λ (n : ℕ). place + n) (c.leaf_of-next.ensures.len ∙ ap (λ (x : List ℕ). size (leaf_next ed (chars x)).leaf.text) at) in
    let more = found-more ed text place c.loop-i.leaves.items p c.loop-i.invariant.0 z.some kind message end in
    let whole : is_split ed (lexer.first_lexeme (chars (drop place text))).kind ≡ false = ap (λ (k : Token). is_split ed k.kind) (sym z.is) ∙ c.requires.whole c.loop-i.i empty_token c.loop-i-test.true in
    let left = after-token ed text place c.loop-i.leaves.items (place + next.len) c.loop-i.invariant.0 whole end in (
      subst (λ (ps : List StoredLeaf). Found ed text (place + next.len) ps) (sym c.in_ok-push.ensures.items) more,
      z.rest ∙ ap (λ (x : List ℕ). lexer.token_list x) (sym left),
    )

pub returns : goal.returns
returns c =
    found-end c.args.edition c.args.text.now c.loop-i.place c.loop-i.leaves.items c.args.tokens.now c.loop-i.i c.loop-i.invariant.0 c.loop-i-test.false c.loop-i.invariant.1
