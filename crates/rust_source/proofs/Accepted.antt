-- An accepted rewrite is within the limit.
use Rattle.std.proofs.Common.{◌≡◌, ◌≤◌, ◌<◌, Bool, true, false, ◌||◌, not, nat_lt, refl, sym, ◌∙◌, arith, length}
use Rattle.rustc_lexer.specs.Rows.{first_fit}
use Rattle.rowan_green.specs.Forest.{tree_text}
use Rattle.tree_rewrite.specs.Change.{has_collision}
use Rattle.syntax_editor.specs.Editing.{Editing}
use Rattle.rust_document.specs.Rewrite.{rewritten}
use Rattle.rust_document.specs.Step.{State, MAX_TEXT, is_foreign, is_too_long, is_faithful, verdict, Accepted}
use Rattle.rust_document.proofs.Verdicts.{chosen, misses, verdict-is}

not-long : (f i m l u : Bool) → chosen f i m l u ≡ Accepted → l ≡ false
unfolding first_fit
not-long true i m l u h = cc
not-long false true m l u h = cc
not-long false false true l u h = cc
not-long false false false true u h = cc
not-long false false false false u h = refl

within : (n : _) (b : Bool) → (nat_lt MAX_TEXT n || b) ≡ false → n ≤ MAX_TEXT
within n b h = search (arith)

pub accepted-fits : (d : State) (e : Editing) → verdict d e ≡ Accepted → length (tree_text (rewritten e)) ≤ MAX_TEXT
accepted-fits d e h =
    within (length (tree_text (rewritten e))) _
    (not-long (is_foreign d e) (has_collision e.changes) (misses e) (is_too_long e) (not (is_faithful d.grammar d.edition (rewritten e)))
    (sym (verdict-is d e _ _ _ _ _ refl refl refl refl refl) ∙ h))

-- an accepted text has less than 2^32 bytes
pub accepted-short : (d : State) (e : Editing) → verdict d e ≡ Accepted → length (tree_text (rewritten e)) < 4294967296
accepted-short d e h =
    let fits = accepted-fits d e h in
    search (arith)
