use Rattle.std.proofs.Common.{arith, ◌≡◌, ◌+◌, ◌-◌, length, take, drop, length-take, length-drop, Ok, Err, sym, ◌∙◌, ap, subst}
use Rattle.rowan_green.specs.Forest.{tree_text}
use Rattle.rowan_green.specs.Term.{text_of}
use Rattle.rowan.specs.ChildParts.{range_of}
use Rattle.rowan.proofs.chunks.+read_part.Goals as goal
use Rattle.rowan.proofs.chunks.+read_part.Goals.{in-Node, in-Token}

pub returns-in-Err : goal.returns-in-Err
returns-in-Err g t c =
    let s = c.in-Some-part.ensures.steps in
    let start = c.in-Some-part.part.start in
    let len = c.in-Some-part.part.len in
    let m : start + len - start ≡ len = omega arith in
    let piece = take len (drop start (text_of c.in-Some-part.part.child)) in
    let h : g.R.ChunkReader.reads c.loop-part.reader c.loop-part.place piece c.match-child.read =
    elim c.match-child.branch [
      | in-Node w ↦
          let e : take len (drop start (tree_text w.in-Node.node)) ≡ piece = ap (λ v. take len (drop start (text_of v))) (sym w.in-Node.is) in
          subst (λ x. g.R.ChunkReader.reads c.loop-part.reader c.loop-part.place piece x) (sym w.read-is) (subst (λ v. g.R.ChunkReader.reads c.loop-part.reader c.loop-part.place v w.read_part-read.result) e w.read_part-read.ensures)
      | in-Token w ↦
          let e : w.range-in-Token.result.now ≡ piece = w.range-in-Token.ensures.value ∙ ap (λ n. take n (drop start w.text.result.now)) m ∙ ap (λ v. take len (drop start v)) (w.text.ensures ∙ sym (ap text_of w.in-Token.is)) in
          subst (λ x. g.R.ChunkReader.reads c.loop-part.reader c.loop-part.place piece x) (sym w.read-is) (subst (λ v. g.R.ChunkReader.reads c.loop-part.reader c.loop-part.place v w.read-read.result) e w.read-read.ensures)
    ] in
    let d : g.R.ChunkReader.reads c.loop-part.reader c.loop-part.place piece (Err c.in-Err.found) = subst (λ x. g.R.ChunkReader.reads c.loop-part.reader c.loop-part.place piece x) c.in-Err.is h in
    c.loop-part.invariant.rest _ (subst (λ v. g.R.ChunkReader.reads c.loop-part.reader c.loop-part.place v (Err c.in-Err.found)) (sym s.bytes)
    (g.met.R.ChunkReader.stopped c.loop-part.reader c.in-Err.found c.loop-part.place piece (range_of c.next.new.self) d))

pub loop-part-preserved : goal.loop-part-preserved
loop-part-preserved g t c =
    let s = c.in-Some-part.ensures.steps in
    let i = c.loop-part.invariant in
    let start = c.in-Some-part.part.start in
    let len = c.in-Some-part.part.len in
    let m : start + len - start ≡ len = omega arith in
    let child = text_of c.in-Some-part.part.child in
    let piece = take len (drop start child) in
    let others = range_of c.next.new.self in
    let h : g.R.ChunkReader.reads c.loop-part.reader c.loop-part.place piece c.match-child.read =
    elim c.match-child.branch [
      | in-Node w ↦
          let e : take len (drop start (tree_text w.in-Node.node)) ≡ piece = ap (λ v. take len (drop start (text_of v))) (sym w.in-Node.is) in
          subst (λ x. g.R.ChunkReader.reads c.loop-part.reader c.loop-part.place piece x) (sym w.read-is) (subst (λ v. g.R.ChunkReader.reads c.loop-part.reader c.loop-part.place v w.read_part-read.result) e w.read_part-read.ensures)
      | in-Token w ↦
          let e : w.range-in-Token.result.now ≡ piece = w.range-in-Token.ensures.value ∙ ap (λ n. take n (drop start w.text.result.now)) m ∙ ap (λ v. take len (drop start v)) (w.text.ensures ∙ sym (ap text_of w.in-Token.is)) in
          subst (λ x. g.R.ChunkReader.reads c.loop-part.reader c.loop-part.place piece x) (sym w.read-is) (subst (λ v. g.R.ChunkReader.reads c.loop-part.reader c.loop-part.place v w.read-read.result) e w.read-read.ensures)
    ] in
    let d : g.R.ChunkReader.reads c.loop-part.reader c.loop-part.place piece (Ok c.in-Ok.next) = subst (λ x. g.R.ChunkReader.reads c.loop-part.reader c.loop-part.place piece x) c.in-Ok.is h in
    let n : length piece ≡ len = omega (arith, s.within, length-take len (drop start child), length-drop start child) in record {
      can = g.met.R.ChunkReader.goes_on c.loop-part.reader c.in-Ok.next c.loop-part.place piece others (subst (g.R.ChunkReader.can_read c.loop-part.reader) s.bytes i.can) d;
      range = s.rest i.range;
      below = omega (arith, s.count, i.below);
      place = omega (arith, i.place, s.len);
      rest = λ x k. i.rest x (subst (λ v. g.R.ChunkReader.reads c.loop-part.reader c.loop-part.place v x) (sym s.bytes)
          (g.met.R.ChunkReader.further c.loop-part.reader c.in-Ok.next c.loop-part.place piece others x d
          (subst (λ n. g.R.ChunkReader.reads c.in-Ok.next (c.loop-part.place + n) others x) (sym n) k)));
    }
