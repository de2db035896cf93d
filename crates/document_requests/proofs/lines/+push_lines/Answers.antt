use Rattle.std.proofs.Common.{◌≡◌, ◌++◌, [], ◌∷◌, ◌+◌, ◌∙◌, ap, arith, map, string_bytes}
use Rattle.rowan_green.specs.Term.{children_of, forest_of}
use Rattle.document_requests.specs.Lines.{lines_from}
use Rattle.document_requests.proofs.Rows.{after-line, node-lines, next-lines, next-length, next-count, fewer, same-length}
use Rattle.document_requests.proofs.lines.+push_lines.Goals as goal

pub children-init : goal.children-init
children-init t c =
    let are : c.into_iter-child-iterator.result ≡ children_of c.in-Node.node = c.into_iter-child-iterator.ensures.into_iter_gives ∙ c.children-child-items.ensures.children in
    let node = c.in-Node.is in
    let rest = node-lines c.args.margin.now (string_bytes c.in_ok-inner.inner) c.args.start _ c.in-Node.node node c.in_ok-inner.ensures.ok in record {
      lines =
          ap (λ es. map string_bytes c.push.new.self.items ++ lines_from (string_bytes c.in_ok-inner.inner) c.args.start (forest_of es)) are
          ∙ after-line _ _ _ _ _ _ c.in_ok-push.ensures.items c.in_ok-line.ensures rest;
      fits = omega (arith, same-length c.in-Node.node _ _ node are, c.requires);
      below = fewer c.in-Node.node _ _ node are;
    }

pub overflow_add-place : goal.overflow_add-place
overflow_add-place t c =
    let s = c.in-Some.ensures.steps in
    let len = c.from.ensures ∙ c.text_len.ensures in
    omega (arith, next-length _ _ _ s, len, c.children.invariant.fits)

pub children-preserved : goal.children-preserved
children-preserved t c =
    let s = c.in-Some.ensures.steps in
    let i = c.children.invariant in
    let len = c.from.ensures ∙ c.text_len.ensures in
    let listed = ap (λ m. map string_bytes c.children.lines.items ++ lines_from m c.children.place (forest_of (c.in-Some.child ∷ []))) c.deref.ensures in record {
      lines = next-lines _ _ _ _ _ _ _ _ _ s (ap (λ n. c.children.place + n) len) (c.in_ok-push_lines.ensures ∙ listed) i.lines;
      fits = omega (arith, next-length _ _ _ s, len, i.fits);
      below = omega (arith, next-count _ _ _ s, i.below);
    }
