use Rattle.std.proofs.Common.{ap, refl, sym, ◌∙◌}
use Rattle.file_target.specs.Outcomes.{examined, resolved}
use Rattle.file_target.proofs.CallLemmas.{begun, is-left, is-whole, left-whole, made-at, put-left, removed, replaced}
use Rattle.file_target.proofs.replace.replace_file.Goals as goal

pub returns-in_err-beside-clause-whole : goal.returns-in_err-beside-clause-whole
returns-in_err-beside-clause-whole g c =
    is-whole _ _ _ (c.in_err-beside.ensures.none _ _ (begun _ _ _ _ _ _ _ _ _ _ (ap resolved c.in_ok-target.was) c.as_str-to.ensures.value (ap examined c.in_ok-status.was) c.requires c.resolve.ensures c.status.ensures))

pub returns-in_err-beside-clause-left : goal.returns-in_err-beside-clause-left
returns-in_err-beside-clause-left g c =
    is-left _ _ _ (c.in_err-beside.ensures.none c.args.bytes.now _ (begun _ _ _ _ _ _ _ _ _ _ (ap resolved c.in_ok-target.was) c.as_str-to.ensures.value (ap examined c.in_ok-status.was) c.requires c.resolve.ensures c.status.ensures))

pub returns-in-Ok-clause-whole : goal.returns-in-Ok-clause-whole
returns-in-Ok-clause-whole g c =
    let start = begun c.args.bytes.now _ _ _ _ _ _ _ _ _ (ap resolved c.in_ok-target.was) c.as_str-to.ensures.value (ap examined c.in_ok-status.was) c.requires c.resolve.ensures c.status.ensures in
    left-whole _ _ _ _ (c.fill_and_put.ensures.whole _ (made-at _ _ _ _ _ c.as_str-from.ensures.value (c.in_ok-beside.ensures.made _ _ start)))

pub returns-in-Ok-clause-left : goal.returns-in-Ok-clause-left
returns-in-Ok-clause-left g c =
    let start = begun c.args.bytes.now _ _ _ _ _ _ _ _ _ (ap resolved c.in_ok-target.was) c.as_str-to.ensures.value (ap examined c.in_ok-status.was) c.requires c.resolve.ensures c.status.ensures in
    put-left _ _ _ _ _ _ (c.in-Ok.ensures.put _ (made-at _ _ _ _ _ c.as_str-from.ensures.value (c.in_ok-beside.ensures.made _ _ start)))

pub returns-in-Ok-clause-replaced : goal.returns-in-Ok-clause-replaced
returns-in-Ok-clause-replaced g c =
    let start = begun c.args.bytes.now _ _ _ _ _ _ _ _ _ (ap resolved c.in_ok-target.was) c.as_str-to.ensures.value (ap examined c.in_ok-status.was) c.requires c.resolve.ensures c.status.ensures in
    replaced _ _ _ _ _ _ _ _ c.as_str-to.ensures.value (c.is.ensures.0 c.if-not-is.false) (c.in-Ok.ensures.put _ (made-at _ _ _ _ _ c.as_str-from.ensures.value (c.in_ok-beside.ensures.made _ _ start)))

pub returns-clause-whole : goal.returns-clause-whole
returns-clause-whole g c =
    let start = begun c.args.bytes.now _ _ _ _ _ _ _ _ _ (ap resolved c.in_ok-target.was) c.as_str-to.ensures.value (ap examined c.in_ok-status.was) c.requires c.resolve.ensures c.status.ensures in
    is-whole _ _ _ (removed _ _ _ _ _ _ _ refl c.remove.ensures (c.fill_and_put.ensures.whole _ (made-at _ _ _ _ _ c.as_str-from.ensures.value (c.in_ok-beside.ensures.made _ _ start))))

pub returns-clause-left : goal.returns-clause-left
returns-clause-left g c =
    let start = begun c.args.bytes.now _ _ _ _ _ _ _ _ _ (ap resolved c.in_ok-target.was) c.as_str-to.ensures.value (ap examined c.in_ok-status.was) c.requires c.resolve.ensures c.status.ensures in
    is-left _ _ _ (removed _ _ _ _ _ _ _ refl c.remove.ensures (c.fill_and_put.ensures.whole _ (made-at _ _ _ _ _ c.as_str-from.ensures.value (c.in_ok-beside.ensures.made _ _ start))))
