use Rattle.std.proofs.Common.{◌≡◌, drop, map}
use Rattle.path_globs.specs.Globs.{is_excluded}
use Rattle.path_globs.proofs.is_excluded.Given as goal

abbrev pub invariant-loop-glob : goal.invariant-loop-glob
invariant-loop-glob l =
    is_excluded (map (λ glob. glob.now) (drop l.glob-index l.globs)) l.path l.name ≡ is_excluded (map (λ glob. glob.now) l.globs) l.path l.name
