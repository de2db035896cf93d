-- A token, as a leaf.
use Rattle.std.proofs.Common.{◌≡◌, ◌∙◌, ℕ, List, sym, ap, subst, chars, take}
use Rattle.std.specs.Str.{IsCharBoundary}
use Rattle.rustc_lexer.specs.Characters.{size}
use Rattle.rustc_lexer.specs.Lexeme.{lexeme}
use Rattle.rustc_lexer.specs.Tokens as lexer
use Rattle.rustc_lexer.specs.declared.token.Token.{Token}
use Rattle.parser_input.specs.Leaf.{kind_of, leaf_of}
use Rattle.parser_input.specs.Lexed.{Lexed, is_split}
use Rattle.parser_input.specs.Messages.{message_of}
use Rattle.parser_input.proofs.LexedSteps.{at-size, leaf-whole, slice-front}
use Rattle.parser_input.proofs.lexed_str.leaf_of.Goals as goal

pub range-text-requires-clause-end_boundary : goal.range-text-requires-clause-end_boundary
unfolding lexer.first_lexeme
range-text-requires-clause-end_boundary c =
    let t = chars c.args.rest.now in
    let is = c.requires.token in
    let len : c.args.token.len ≡ size (take (lexeme t).taken t) = ap (λ (k : Token). k.len) is in
    subst (λ (n : ℕ). IsCharBoundary c.args.rest.now n) (sym len) (at-size c.args.rest.now (lexeme t).taken c.utf8.rest).boundary

pub returns-clause-kind : goal.returns-clause-kind
unfolding lexer.first_lexeme leaf_of
returns-clause-kind c =
    let t = chars c.args.rest.now in
    let l = lexer.first_lexeme t in
    let n = c.args.token.len in
    let is = c.requires.token in
    let whole = ap (λ (k : Token). is_split c.args.edition k.kind) (sym is) ∙ c.requires.whole in
    let len : n ≡ size (take (lexeme t).taken t) = ap (λ (k : Token). k.len) is in
    let text : chars c.range-text.result.now ≡ take (lexeme t).taken t = ap (λ (x : List ℕ). chars x) (c.range-text.ensures.value ∙ slice-front n c.args.rest.now) ∙ ap (λ (k : ℕ). chars (take k c.args.rest.now)) len ∙ (at-size c.args.rest.now (lexeme t).taken c.utf8.rest).front in
    c.kind_of.ensures ∙ ap (λ (k : Token). kind_of c.args.edition k.kind (chars c.range-text.result.now)) is ∙ ap (λ (x : List ℕ). kind_of c.args.edition l.kind x) text
    ∙ sym (ap (λ (x : Lexed). x.leaf.kind) (leaf-whole c.args.edition l whole))

pub returns-clause-message : goal.returns-clause-message
unfolding lexer.first_lexeme
returns-clause-message c =
    let t = chars c.args.rest.now in
    let l = lexer.first_lexeme t in
    let n = c.args.token.len in
    let is = c.requires.token in
    let whole = ap (λ (k : Token). is_split c.args.edition k.kind) (sym is) ∙ c.requires.whole in
    let len : n ≡ size (take (lexeme t).taken t) = ap (λ (k : Token). k.len) is in
    let text : chars c.range-text.result.now ≡ take (lexeme t).taken t = ap (λ (x : List ℕ). chars x) (c.range-text.ensures.value ∙ slice-front n c.args.rest.now) ∙ ap (λ (k : ℕ). chars (take k c.args.rest.now)) len ∙ (at-size c.args.rest.now (lexeme t).taken c.utf8.rest).front in
    c.message_of.ensures ∙ ap (λ (k : Token). message_of c.args.edition k.kind (chars c.range-text.result.now)) is ∙ ap (λ (x : List ℕ). message_of c.args.edition l.kind x) text
    ∙ sym (ap (λ (x : Lexed). x.message) (leaf-whole c.args.edition l whole))

pub returns-clause-len : goal.returns-clause-len
unfolding leaf_of
returns-clause-len c =
    let t = chars c.args.rest.now in
    let l = lexer.first_lexeme t in
    let is = c.requires.token in
    let whole = ap (λ (k : Token). is_split c.args.edition k.kind) (sym is) ∙ c.requires.whole in
    ap (λ (k : Token). k.len) is ∙ sym (ap (λ (x : Lexed). size x.leaf.text) (leaf-whole c.args.edition l whole))
