-- The next token, as a leaf.
use Rattle.std.proofs.Common.{◌∙◌, ℕ, List, sym, ap, chars, get_or}
use Rattle.std.specs.Char.{len_utf8}
use Rattle.rustc_lexer.specs.Characters.{size}
use Rattle.rustc_lexer.specs.Tokens as lexer
use Rattle.rustc_lexer.specs.declared.token.Token.{Token}
use Rattle.rustc_lexer.proofs.Cutting.{next-some}
use Rattle.parser_input.specs.Lexed.{Lexed, is_split}
use Rattle.parser_input.proofs.LexedSteps.{first-size, leaf-split, some-chars}
use Rattle.parser_input.proofs.lexed_str.next_leaf.Goals as goal

pub returns-then-is_split-clause-kind : goal.returns-then-is_split-clause-kind
returns-then-is_split-clause-kind c =
    let t = chars c.args.rest.now in
    let l = lexer.first_lexeme t in
    let long = some-chars c.args.rest.now c.utf8.rest c.requires in
    let is = c.advance_token-token.ensures.is_next ∙ ap (λ (x : List ℕ). lexer.token (lexer.next_lexeme x)) c.new.ensures ∙ ap (λ (x : lexer.Lexeme). lexer.token x) (next-some t long) in
    let split = ap (λ (k : Token). is_split c.args.edition k.kind) (sym is) ∙ sym c.is_split.ensures ∙ c.if-is_split.true in
    sym (ap (λ (x : Lexed). x.leaf.kind) (leaf-split c.args.edition l split))

pub returns-then-is_split-clause-message : goal.returns-then-is_split-clause-message
returns-then-is_split-clause-message c =
    let t = chars c.args.rest.now in
    let l = lexer.first_lexeme t in
    let long = some-chars c.args.rest.now c.utf8.rest c.requires in
    let is = c.advance_token-token.ensures.is_next ∙ ap (λ (x : List ℕ). lexer.token (lexer.next_lexeme x)) c.new.ensures ∙ ap (λ (x : lexer.Lexeme). lexer.token x) (next-some t long) in
    let split = ap (λ (k : Token). is_split c.args.edition k.kind) (sym is) ∙ sym c.is_split.ensures ∙ c.if-is_split.true in
    sym (ap (λ (x : Lexed). x.message) (leaf-split c.args.edition l split))

pub returns-then-is_split-clause-len : goal.returns-then-is_split-clause-len
returns-then-is_split-clause-len c =
    let t = chars c.args.rest.now in
    let l = lexer.first_lexeme t in
    let long = some-chars c.args.rest.now c.utf8.rest c.requires in
    let is = c.advance_token-token.ensures.is_next ∙ ap (λ (x : List ℕ). lexer.token (lexer.next_lexeme x)) c.new.ensures ∙ ap (λ (x : lexer.Lexeme). lexer.token x) (next-some t long) in
    let split = ap (λ (k : Token). is_split c.args.edition k.kind) (sym is) ∙ sym c.is_split.ensures ∙ c.if-is_split.true in
    c.len_utf8.ensures.value ∙ ap len_utf8 (c.first.ensures ∙ ap (λ (x : List ℕ). get_or x 0 0) c.new-then-is_split.ensures) ∙ first-size t long
    ∙ sym (ap (λ (x : Lexed). size x.leaf.text) (leaf-split c.args.edition l split))

pub leaf_of-requires-clause-token : goal.leaf_of-requires-clause-token
leaf_of-requires-clause-token c =
    let t = chars c.args.rest.now in
    let long = some-chars c.args.rest.now c.utf8.rest c.requires in
    c.advance_token-token.ensures.is_next ∙ ap (λ (x : List ℕ). lexer.token (lexer.next_lexeme x)) c.new.ensures ∙ ap (λ (x : lexer.Lexeme). lexer.token x) (next-some t long)

pub leaf_of-requires-clause-whole : goal.leaf_of-requires-clause-whole
leaf_of-requires-clause-whole c = sym c.is_split.ensures ∙ c.if-is_split.false
