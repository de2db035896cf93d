-- Leaf by leaf, up to the end.
use Rattle.std.proofs.Common.{◌∙◌, ◌+◌, ℕ, List, None, refl, ap, chars, drop, get_or}
use Rattle.std.specs.Prelude.{Bool, slice_range}
use Rattle.parser_input.specs.Input.{Token, contextual_of, is_joint}
use Rattle.parser_input.specs.Kind.{raw_of}
use Rattle.parser_input.specs.Lexed.{leaves_of}
use Rattle.parser_input.specs.Stored.{seen_from}
use Rattle.parser_input.specs.declared.lexed_str.StoredLeaf.{StoredLeaf}
use Rattle.parser_input.specs.declared.syntax_kind.SyntaxKind.TheVariants.{TOMBSTONE}
use Rattle.parser_input.proofs.InputSteps.{ahead, passed-all, passed-none, passed-token, passed-trivia}
use Rattle.parser_input.proofs.lexed_str.tokens.Goals as goal

abbrev empty_leaf : StoredLeaf
empty_leaf = record { kind = TOMBSTONE; message = None; end = 0 }

pub loop-i-init : goal.loop-i-init
loop-i-init c = passed-none c.args.whole c.args.edition c.args.text.now c.args.leaves.now c.in_ok-tokens.tokens c.utf8.text c.requires.spans c.in_ok-tokens.ensures

pub loop-i-preserved-then-is_trivia : goal.loop-i-preserved-then-is_trivia
loop-i-preserved-then-is_trivia c =
    passed-trivia c.args.whole c.args.edition c.args.text.now c.args.leaves.now c.loop-i.i c.loop-i.place c.loop-i.tokens (get_or c.args.leaves.now c.loop-i.i empty_leaf) empty_leaf c.loop-i.invariant c.loop-i-test.true refl c.if-is_trivia.ensures

pub range-own-requires-clause-start_le_end : goal.range-own-requires-clause-start_le_end
range-own-requires-clause-start_le_end c =
    (ahead c.args.whole c.args.edition c.args.text.now c.args.leaves.now c.loop-i.i c.loop-i.place c.loop-i.tokens (get_or c.args.leaves.now c.loop-i.i empty_leaf) empty_leaf c.loop-i.invariant c.loop-i-test.true refl).order

pub range-own-requires-clause-start_boundary : goal.range-own-requires-clause-start_boundary
range-own-requires-clause-start_boundary c = λ h. c.loop-i.invariant.boundary

pub range-own-requires-clause-end_boundary : goal.range-own-requires-clause-end_boundary
range-own-requires-clause-end_boundary c =
    (ahead c.args.whole c.args.edition c.args.text.now c.args.leaves.now c.loop-i.i c.loop-i.place c.loop-i.tokens (get_or c.args.leaves.now c.loop-i.i empty_leaf) empty_leaf c.loop-i.invariant c.loop-i-test.true refl).boundary

pub push_token-requires : goal.push_token-requires
push_token-requires c = c.requires.kinds c.loop-i.i empty_leaf c.loop-i-test.true

pub loop-i-preserved : goal.loop-i-preserved
loop-i-preserved c =
    let text = c.args.text.now in
    let ps = c.args.leaves.now in
    let i = c.loop-i.i in
    let place = c.loop-i.place in
    let p = get_or ps i empty_leaf in
    let own = c.range-own.ensures.value in
    let rest = leaves_of (seen_from text p.end (drop (i + 1) ps)) in
    let t : Token = record { kind = raw_of p.kind; contextual = raw_of c.contextual_kind-contextual.result; joint = c.is_joint-joint.result; whole = c.args.whole } in
    passed-token c.args.whole c.args.edition text ps i place c.loop-i.tokens p empty_leaf t c.push_token.new.self c.loop-i.invariant c.loop-i-test.true refl c.if-is_trivia.ensures
    (record {
      kind = refl;
      contextual =
          c.contextual_kind-contextual.ensures
          ∙ ap (λ (x : List ℕ). contextual_of c.args.edition (raw_of p.kind) (chars x) c.is_angle-before_angle.result) own
          ∙ ap (λ (b : Bool). contextual_of c.args.edition (raw_of p.kind) (chars (slice_range text place p.end)) b) (c.is_angle-before_angle.ensures text p.end);
      joint = c.is_joint-joint.ensures rest (c.is_solid.ensures text p.end) ∙ ap (λ (x : List ℕ). is_joint record { kind = raw_of p.kind; text = chars x } rest) own;
      whole_is = refl;
    })
    c.in_ok-push_token.ensures

pub returns : goal.returns
returns c = passed-all c.args.whole c.args.edition c.args.text.now c.args.leaves.now c.loop-i.i c.loop-i.place c.loop-i.tokens c.loop-i.invariant c.loop-i-test.false
