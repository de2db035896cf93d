use Rattle.std.proofs.Common.{◌≡◌, ap, arith, refl, reverse, length, length-drop}
use Rattle.rowan_green.specs.Kept.{terms_done}
use Rattle.rowan_green.proofs.KeptLemmas.{length-done}
use Rattle.rowan_green.proofs.BuilderLemmas.{root_after}
use Rattle.rowan_green.proofs.OpenNodeLemmas.{base_of, current_built, nested_after, around_after, IsNested-base}
use Rattle.rowan_green.proofs.builder.GreenNodeBuilder.start_node_at.Goals as goal

pub overflow_sub-first-2 : goal.overflow_sub-first-2
overflow_sub-first-2 c =
    let os = c.self.inside.open_nodes.items in
    let es = terms_done c.self.inside.arena c.self.inside.done.items in
    let n = length-done c.self.inside.arena c.self.inside.done.items c.self.invariant.filled in
    let m : c.len.result ≡ length c.self.inside.done.items = grind arith in
    let e = ap length (current_built c.args.self.now os es c.self.inside.started c.self.view_is) in
    omega (arith, e, n, m, c.checkpoint-now.ensures.count, length-drop (base_of (reverse os)) es)

pub invariant_of-self : goal.invariant_of-self
invariant_of-self c =
    let os = c.self.inside.open_nodes.items in
    let es = terms_done c.self.inside.arena c.self.inside.done.items in
    let n = length-done c.self.inside.arena c.self.inside.done.items c.self.invariant.filled in
    let m : c.len.result ≡ length c.self.inside.done.items = grind arith in
    let e = ap length (current_built c.args.self.now os es c.self.inside.started c.self.view_is) in
    let d = length-drop (base_of (reverse os)) es in
    let b = IsNested-base (reverse os) (length es) c.self.invariant.nested in
    let v : c.len.result ≡ length es = omega (arith, n, m) in
    record {
      filled = c.self.invariant.filled;
      nested = nested_after c.push_open.result os c.push_open.new.open_nodes.items _ es c.push_open.ensures.opened c.push_open.ensures.same_nodes (omega (arith, v)) (omega (arith, v, e, d, b, c.checkpoint-now.ensures.count)) c.self.invariant.nested;
      root = root_after c.push_open.result os c.push_open.new.open_nodes.items _ c.self.inside.arena c.self.inside.done.items c.push_open.ensures.opened c.push_open.ensures.same_nodes c.self.invariant.root;
    }

pub returns-clause-ok : goal.returns-clause-ok
returns-clause-ok c =
    let os = c.self.inside.open_nodes.items in
    let es = terms_done c.self.inside.arena c.self.inside.done.items in
    let n = length-done c.self.inside.arena c.self.inside.done.items c.self.invariant.filled in
    let m : c.len.result ≡ length c.self.inside.done.items = grind arith in
    let e = ap length (current_built c.args.self.now os es c.self.inside.started c.self.view_is) in
    let d = length-drop (base_of (reverse os)) es in
    let b = IsNested-base (reverse os) (length es) c.self.invariant.nested in
    let v : c.len.result ≡ length es = omega (arith, n, m) in
    around_after c.push_open.result c.args.self.now os c.push_open.new.open_nodes.items _ es c.self.inside.started c.push_open.new.started c.args.checkpoint.count c.push_open.ensures.opened c.push_open.ensures.counted c.self.view_is refl (omega (arith, v, e, d, b, c.checkpoint-now.ensures.count)) (omega (arith, v)) c.self.invariant.nested
