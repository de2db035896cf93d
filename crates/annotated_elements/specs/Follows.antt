-- Following without a count of steps.
use Rattle.std.specs.Prelude.{◌≡◌, Option, Some, None}
use Rattle.syntax_tree.specs.Element.{Element}
use Rattle.syntax_tree.specs.Mapping.{Mapping}
use Rattle.annotated_elements.specs.Following.{lead_of, standing}

-- step by step an element leads to this end, or to a place without an element
pub data Follows (ms : Mapping) : Element → Option Element → Type 0 where
  ends : {e : Element} → lead_of ms e ≡ None → Follows ms e (Some e)
  lost : {e x : Element} → lead_of ms e ≡ Some x → standing x ≡ None → Follows ms e None
  on : {e x : Element} {o : Option Element} → lead_of ms e ≡ Some x → standing x ≡ Some x → Follows ms x o → Follows ms e o
