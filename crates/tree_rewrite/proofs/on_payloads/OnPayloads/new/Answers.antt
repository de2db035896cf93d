use Rattle.std.proofs.Common.{◌≡◌, ℕ, [], Option, None, refl, ap, sym, subst, length}
use Rattle.std.specs.Map.{lookup}
use Rattle.syntax_tree.specs.Element.{Way, same_way}
use Rattle.tree_rewrite.specs.Listed.{IsChain, no_more}
use Rattle.tree_rewrite.specs.WayMap.{number_at}
use Rattle.tree_rewrite.proofs.BelowLemmas.{sheet_none}
use Rattle.tree_rewrite.proofs.on_payloads.OnPayloads.new.Goals as goal

pub returns : goal.returns
returns c = λ all.
    let none : (w : Way) → number_at c.new.result w ≡ None = λ w. ap (lookup (λ k. same_way w k.items)) c.new.ensures.empty in
    record {
      count = ap length c.new-2.ensures.items;
      lists = λ w.
          let Q : Option ℕ → Type 0 = λ o. IsChain c.new-2.result.items o [] in
          ([], subst Q (sym (none w)) (no_more refl), λ js h. sheet_none all [] [] _ js refl h);
    }
