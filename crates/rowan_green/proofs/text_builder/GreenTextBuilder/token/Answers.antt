use Rattle.std.proofs.Common.{◌≡◌, ◌+◌, [], ◌∷◌, ◌∙◌, arith, ap, length, length-append, string_bytes}
use Rattle.rowan_green.specs.Leaf.{Leaf}
use Rattle.rowan_green.specs.declared.utility_types.NodeOrToken.TheVariants.{Token}
use Rattle.rowan_green.specs.Arena.{piece, terms_at, items_in, terms_over}
use Rattle.rowan_green.proofs.ArenaGrowing.{used_within}
use Rattle.rowan_green.proofs.BuilderLemmas.{token_rooted_by}
use Rattle.rowan_green.proofs.OpenNodeLemmas.{IsNested-more}
use Rattle.rowan_green.proofs.TextBuilderLemmas.{piece_built}
use Rattle.rowan_green.proofs.text_builder.GreenTextBuilder.token.Goals as goal

pub overflow_sub-text : goal.overflow_sub-text
overflow_sub-text c = omega (arith, used_within c.self.inside.arena c.self.inside.done.items c.self.invariant.growing, ap length c.as_bytes-text.ensures.value)

pub may_be_cut-requires : goal.may_be_cut-requires
may_be_cut-requires c =
    let within = used_within c.self.inside.arena c.self.inside.done.items c.self.invariant.growing in
    omega (arith, within, c.if-len-text.false, ap length c.as_bytes-text.ensures.value)

pub invariant_of-self-2 : goal.invariant_of-self-2
invariant_of-self-2 c =
    let a = c.push_piece.new.self in
    let ds = c.push_piece.new.done.items in
    let ok = c.in_ok-push_piece.ensures.ok in
    let old = c.self.inside.arena in
    let es = terms_over old c.self.inside.done.items in
    let l : Leaf = record { kind = c.args.kind.0; text = piece (string_bytes old.text) old.used c.args.len } in
    let count : length (terms_over a ds) ≡ length es + 1 = ap length ok ∙ length-append es (Token l ∷ []) in
    record {
      growing = c.push_piece.ensures.growing;
      nested = IsNested-more _ _ _ (omega (arith, count)) c.self.invariant.nested;
      root = λ _. token_rooted_by (terms_over a ds) (terms_at (items_in a)) es l ok;
    }

pub returns-clause-ok : goal.returns-clause-ok
returns-clause-ok c =
    piece_built c.args.self.now c.self.inside.open_nodes.items c.self.inside.arena c.push_piece.new.self c.self.inside.done.items c.push_piece.new.done.items c.self.inside.started c.args.kind.0 c.args.len
    c.self.view_is c.self.invariant.nested c.in_ok-push_piece.ensures.ok c.push_piece.ensures.text c.in_ok-push_piece.ensures.used
