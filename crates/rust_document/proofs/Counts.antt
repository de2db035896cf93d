-- The counts that an edit tells.
use Rattle.std.proofs.Common.{◌≡◌, ℕ, List, Option, None, Some, sym, ap, subst}
use Rattle.std.specs.Option.{MatchOption}
use Rattle.lexed_text.specs.Kept.{IsKept}
use Rattle.lexed_text.specs.declared.kept.Kept.{Kept}
use Rattle.parser_input.specs.declared.edition.Edition.{Edition}
use Rattle.rust_document.specs.ContentEdit.{AreCounts}
use Rattle.rust_document.specs.KeptTokens.{content_edit, counts_of, KeepsTokens}
use Rattle.rust_document.specs.declared.document.Edited.{Edited}

-- what an edit returns: `counts`, or if there are none, `leaves` as the number of lexed tokens
abbrev pub Tells : Option Kept → (leaves steps : ℕ) → Edited → Type 0
Tells counts leaves steps e =
    MatchOption counts (e ≡ record { front = 0; lexed = leaves; back = 0; steps = steps })
    (λ k. e ≡ record { front = k.front; lexed = k.lexed; back = k.back; steps = steps })

pub counts-told :
    (edition : Edition) (before after new put : List ℕ) (start end : ℕ) (counts : Option Kept) (leaves steps : ℕ) (e : Edited)
    → after ≡ new → AreCounts edition before after start end put counts → Tells counts leaves steps e
    → KeepsTokens edition before new start → IsKept (content_edit before start end put) (counts_of e)
counts-told edition before after new put start end None leaves steps e same none told keeps =
    absurd (none (subst (λ (t : List ℕ). KeepsTokens edition before t start) (sym same) keeps))
counts-told edition before after new put start end (Some k) leaves steps e same is told keeps =
    subst (IsKept (content_edit before start end put)) (sym (ap counts_of told)) is.1
