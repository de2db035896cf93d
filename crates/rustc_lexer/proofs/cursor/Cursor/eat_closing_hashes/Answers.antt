use Rattle.std.proofs.Common.{◌∙◌, sym, ap, drop, chars, arith, ◌==◌, ℕ}
use Rattle.rustc_lexer.specs.Characters.{hash}
use Rattle.rustc_lexer.specs.Scan.{run_len}
use Rattle.rustc_lexer.proofs.Runs.{follow_short, follow_long}
use Rattle.rustc_lexer.proofs.Seams.{seam-hashes, hashes-chars}
use Rattle.rustc_lexer.proofs.cursor.Cursor.eat_closing_hashes.Goals as goal

pub returns-then-hash_len-hashes-clause-told : goal.returns-then-hash_len-hashes-clause-told
returns-then-hash_len-hashes-clause-told c =
    let count = hashes-chars c.self.inside.rest.now c.as_bytes.result.now c.hash_len.result c.self.invariant c.as_bytes.ensures.value c.hash_len.ensures ∙ ap (λ z. run_len (λ (b : ℕ). b == hash) z) c.self.view_is in
    sym (follow_short c.args.hashes c.args.self.now (omega (arith, c.if-hash_len-hashes.true)))

pub range_from-self-inside-requires : goal.range_from-self-inside-requires
range_from-self-inside-requires c =
    let place = seam-hashes c.args.hashes c.self.inside.rest.now c.as_bytes.result.now c.hash_len.result c.self.invariant c.as_bytes.ensures.value c.hash_len.ensures c.if-hash_len-hashes.false in
    λ _. place.boundary

pub returns-clause-told : goal.returns-clause-told
returns-clause-told c =
    let count = hashes-chars c.self.inside.rest.now c.as_bytes.result.now c.hash_len.result c.self.invariant c.as_bytes.ensures.value c.hash_len.ensures ∙ ap (λ z. run_len (λ (b : ℕ). b == hash) z) c.self.view_is in
    sym (follow_long c.args.hashes c.args.self.now (omega (arith, c.if-hash_len-hashes.false)))

pub returns-clause-rest : goal.returns-clause-rest
returns-clause-rest c =
    let place = seam-hashes c.args.hashes c.self.inside.rest.now c.as_bytes.result.now c.hash_len.result c.self.invariant c.as_bytes.ensures.value c.hash_len.ensures c.if-hash_len-hashes.false in
    ap chars c.range_from-self-inside.ensures.value ∙ place.left ∙ ap (λ z. drop c.args.hashes z) c.self.view_is
