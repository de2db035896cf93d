use Rattle.std.proofs.Common.{◌≡◌, ◌∙◌, ◌+◌, ◌-◌, ◌≤◌, ◌++◌, min, ap, sym, map, get_or, length, List, ℕ, arith, append_assoc}
use Rattle.std.proofs.lemmas.List.{length-map}
use Rattle.text_diff.specs.declared.change.Change.{Change}
use Rattle.text_diff.specs.Lines.{Line}
use Rattle.text_diff.specs.Hunks.{hunk_from}
use Rattle.text_diff.proofs.HunkLemmas.{numbered}
use Rattle.text_diff.proofs.unified.push_hunk.Goals as goal

pub overflow_sub-new_from-2 : goal.overflow_sub-new_from-2
overflow_sub-new_from-2 c =
    let old : List Line = map (λ l. l.now) c.args.old.now in
    let new : List Line = map (λ l. l.now) c.args.new.now in
    let size = length-map c.args.old.now (λ l. l.now) in
    let n = numbered old new c.args.group.now (record { old_start = 0; old_end = 0; new_start = 0; new_end = 0 }) c.requires.some c.requires.run in
    rw c.saturating_sub-from.ensures n.back

pub overflow_sub-new_to : goal.overflow_sub-new_to
overflow_sub-new_to c =
    let old : List Line = map (λ l. l.now) c.args.old.now in
    let new : List Line = map (λ l. l.now) c.args.new.now in
    let size = length-map c.args.old.now (λ l. l.now) in
    let n = numbered old new c.args.group.now (record { old_start = 0; old_end = 0; new_start = 0; new_end = 0 }) c.requires.some c.requires.run in
    let last : Change = get_or c.args.group.now (length c.args.group.now - 1) (record { old_start = 0; old_end = 0; new_start = 0; new_end = 0 }) in
    let to : c.min-to.result ≡ min (length old) (last.old_end + 3) = omega (arith, size, c.min-to.ensures, c.saturating_add.ensures) in
    rw to n.ends

pub overflow_add-new_to : goal.overflow_add-new_to
overflow_add-new_to c =
    let old : List Line = map (λ l. l.now) c.args.old.now in
    let new : List Line = map (λ l. l.now) c.args.new.now in
    let size = length-map c.args.old.now (λ l. l.now) in
    let n = numbered old new c.args.group.now (record { old_start = 0; old_end = 0; new_start = 0; new_end = 0 }) c.requires.some c.requires.run in
    let last : Change = get_or c.args.group.now (length c.args.group.now - 1) (record { old_start = 0; old_end = 0; new_start = 0; new_end = 0 }) in
    let to : c.min-to.result ≡ min (length old) (last.old_end + 3) = omega (arith, size, c.min-to.ensures, c.saturating_add.ensures) in
    let new_size = length-map c.args.new.now (λ l. l.now) in
    rw to (omega (arith, n.new_fits, new_size))

pub push_header-requires-clause-old_order : goal.push_header-requires-clause-old_order
push_header-requires-clause-old_order c =
    let old : List Line = map (λ l. l.now) c.args.old.now in
    let new : List Line = map (λ l. l.now) c.args.new.now in
    let size = length-map c.args.old.now (λ l. l.now) in
    let n = numbered old new c.args.group.now (record { old_start = 0; old_end = 0; new_start = 0; new_end = 0 }) c.requires.some c.requires.run in
    let last : Change = get_or c.args.group.now (length c.args.group.now - 1) (record { old_start = 0; old_end = 0; new_start = 0; new_end = 0 }) in
    let to : c.min-to.result ≡ min (length old) (last.old_end + 3) = omega (arith, size, c.min-to.ensures, c.saturating_add.ensures) in
    rw (to, c.saturating_sub-from.ensures) n.old_order

pub push_header-requires-clause-new_order : goal.push_header-requires-clause-new_order
push_header-requires-clause-new_order c =
    let old : List Line = map (λ l. l.now) c.args.old.now in
    let new : List Line = map (λ l. l.now) c.args.new.now in
    let size = length-map c.args.old.now (λ l. l.now) in
    let n = numbered old new c.args.group.now (record { old_start = 0; old_end = 0; new_start = 0; new_end = 0 }) c.requires.some c.requires.run in
    let last : Change = get_or c.args.group.now (length c.args.group.now - 1) (record { old_start = 0; old_end = 0; new_start = 0; new_end = 0 }) in
    let to : c.min-to.result ≡ min (length old) (last.old_end + 3) = omega (arith, size, c.min-to.ensures, c.saturating_add.ensures) in
    rw (to, c.saturating_sub-from.ensures) n.new_order

pub returns : goal.returns
returns c =
    let old : List Line = map (λ l. l.now) c.args.old.now in
    let new : List Line = map (λ l. l.now) c.args.new.now in
    let size = length-map c.args.old.now (λ l. l.now) in
    let n = numbered old new c.args.group.now (record { old_start = 0; old_end = 0; new_start = 0; new_end = 0 }) c.requires.some c.requires.run in
    let last : Change = get_or c.args.group.now (length c.args.group.now - 1) (record { old_start = 0; old_end = 0; new_start = 0; new_end = 0 }) in
    let to : c.min-to.result ≡ min (length old) (last.old_end + 3) = omega (arith, size, c.min-to.ensures, c.saturating_add.ensures) in
    let header = rw (c.saturating_sub-from.ensures, to) at c.in_ok-push_header.ensures in
    let rows = rw (c.saturating_sub-from.ensures, to) at c.in_ok-push_group.ensures in
    rw (rows, header, append_assoc) (ap (λ v. c.args.text.now.items ++ v) n.text)
