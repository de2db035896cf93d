use Rattle.std.proofs.Common.{◌≡◌, drop}
use Rattle.serde_json.specs.View.{items_view, members_view}
use Rattle.serde_json.specs.Written.{items_have_float, members_have_float}
use Rattle.document_requests.proofs.floats.+has_float.Given as goal

-- no item so far has a float
abbrev pub invariant-items_have_float-loop-item : goal.invariant-items_have_float-loop-item
invariant-items_have_float-loop-item l = items_have_float (items_view (drop l.item-index l.items)) ≡ items_have_float (items_view l.items)

-- no member so far has a float
abbrev pub invariant-members_have_float-loop-name : goal.invariant-members_have_float-loop-name
invariant-members_have_float-loop-name l =
    record {
      can : (goal.iterator-members_have_float-loop-name).can_next l._name-iterator;
      ends : (goal.iterator-members_have_float-loop-name).is_finite l._name-iterator;
      told : members_have_float (members_view l._name-iterator) ≡ members_have_float (members_view l.members.entries);
    }
