use Rattle.std.proofs.Common.{◌≡◌, ◌+◌, ◌<◌, arith, length, ap, List}
use Rattle.rowan_green.specs.Term.{Term}
use Rattle.document_rows.specs.Rows.{shown}
use Rattle.document_rows.proofs.Walks.{first-fits, on-length, on-weight, out-length, out-weight, walks-on, walks-out}
use Rattle.document_rows.proofs.tree.push_levels.Goals as goal

pub levels-smaller-in-None : goal.levels-smaller-in-None
levels-smaller-in-None c = out-weight _ _ _ c.in-Some.ensures.items

pub levels-preserved-in-None : goal.levels-preserved-in-None
levels-preserved-in-None c = record {
  rows = walks-out _ _ _ _ _ _ c.in-Some.ensures.items c.in-None.ensures.steps.0 c.levels.invariant.rows;
  fits = omega (arith, c.levels.invariant.fits, out-length _ _ _ c.in-Some.ensures.items c.in-None.ensures.steps.0);
}

pub element_row-requires : goal.element_row-requires
element_row-requires c = first-fits _ _ _ _ _ _ _ c.in-Some.ensures.items c.in-Some-next.ensures.steps c.levels.invariant.fits

pub levels-smaller : goal.levels-smaller
levels-smaller c = on-weight _ _ _ _ _ _ _ _ _ c.in-Some.ensures.items c.in-Some-next.ensures.steps c.in_ok-push-in-Some-next-2.ensures.items c.in_ok-start-in-Some-next.ensures

pub levels-preserved : goal.levels-preserved
levels-preserved c =
    let count = ap (λ (ls : List (List Term)). length ls) c.as_slice.ensures.value in
    let deep : shown c.saturating_add-depth.result ≡ shown (1 + length c.pop.new.self.items) = omega (arith, c.saturating_add-depth.ensures, count) in record {
      rows =
          walks-on _ _ _ _ _ _ _ _ _ _ _ _ _ _ c.in-Some.ensures.items c.in-Some-next.ensures.steps c.in_ok-push-in-Some-next-2.ensures.items c.in_ok-start-in-Some-next.ensures
          c.in_ok-push-in-Some-next.ensures.items c.element_row.ensures deep c.levels.invariant.rows;
      fits = omega (arith, c.levels.invariant.fits, on-length _ _ _ _ _ _ _ _ _ c.in-Some.ensures.items c.in-Some-next.ensures.steps c.in_ok-push-in-Some-next-2.ensures.items c.in_ok-start-in-Some-next.ensures);
    }
