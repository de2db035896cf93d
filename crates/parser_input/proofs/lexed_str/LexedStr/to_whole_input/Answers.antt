-- The stored leaves are the text's.
use Rattle.std.proofs.Common.{◌≡◌, ◌≢◌, true, List, IfOk, sym, subst}
use Rattle.std.specs.List.{All}
use Rattle.parser_input.specs.Input.{Token, input}
use Rattle.parser_input.specs.Kind.{raw_of}
use Rattle.parser_input.specs.Kinds.{EOF}
use Rattle.parser_input.specs.Lexed.{leaves_of}
use Rattle.parser_input.specs.Stored.{AreSpans, Whole, seen_from}
use Rattle.parser_input.specs.declared.lexed_str.StoredLeaf.{StoredLeaf}
use Rattle.parser_input.proofs.lexed_str.LexedStr.to_whole_input.Goals as goal

pub tokens-requires-clause-spans : goal.tokens-requires-clause-spans
tokens-requires-clause-spans c =
    subst (λ (l : List StoredLeaf). AreSpans c.self.inside.text.now 0 l) (sym c.deref.ensures.value) c.self.invariant.0

pub tokens-requires-clause-kinds : goal.tokens-requires-clause-kinds
tokens-requires-clause-kinds c =
    subst (λ (l : List StoredLeaf). All (λ (p : StoredLeaf). raw_of p.kind ≢ EOF) l) (sym c.deref.ensures.value) c.self.invariant.3

pub returns : goal.returns
returns c =
    let s = c.self.inside in
    let own = subst (λ (l : List StoredLeaf). IfOk c.tokens.result (λ (tokens : List Token). tokens ≡ input true s.edition (leaves_of (seen_from s.text.now 0 l)))) c.deref.ensures.value c.tokens.ensures in
    subst (λ (w : Whole). IfOk c.tokens.result (λ (tokens : List Token). tokens ≡ input true w.edition (leaves_of w.leaves))) c.self.view_is own
