use Rattle.std.proofs.Common.{ℕ, ◌∙◌, ◌==◌, sym, ap, drop, chars, lit<}
use Rattle.std.proofs.lemmas.Str.{encodes-chars}
use Rattle.rustc_lexer.specs.Characters.{hash}
use Rattle.rustc_lexer.specs.Scan.{run, run_len}
use Rattle.rustc_lexer.proofs.Seams.{closed-found, run-ascii}
use Rattle.rustc_lexer.proofs.Wide.{wide_is}
use Rattle.rustc_lexer.proofs.cursor.Cursor.eat_hashes.Goals as goal

pub range_from-self-inside-requires : goal.range_from-self-inside-requires
range_from-self-inside-requires c =
    let found = closed-found (λ b. b == hash) (λ b h. wide_is hash b (lit< tt) h) c.self.inside.rest.now c.as_bytes.result.now c.hash_len-n.result c.self.invariant c.as_bytes.ensures.value c.hash_len-n.ensures in
    λ _. found.boundary

pub returns : goal.returns
unfolding run
returns c =
    let p = λ (b : ℕ). b == hash in
    let wides = λ (b : ℕ). wide_is hash b (lit< tt) in
    let bs = c.self.inside.rest.now in
    let found = closed-found p wides bs c.as_bytes.result.now c.hash_len-n.result c.self.invariant c.as_bytes.ensures.value c.hash_len-n.ensures in
    record {
      value_is =
          ap (λ z. run_len p z) (sym c.self.view_is) ∙ sym (run-ascii p wides (chars bs)) ∙ ap (λ z. run_len p z) (encodes-chars bs c.self.invariant ∙ sym c.as_bytes.ensures.value)
          ∙ sym c.hash_len-n.ensures;
      rest_is = ap chars c.range_from-self-inside.ensures.value ∙ found.left ∙ ap (λ z. drop (run_len p z) z) c.self.view_is;
    }
