-- Known bytes that grow.
use Rattle.std.proofs.Common.{ℕ, Option, Some, None, List, [], ◌++◌, ap, sym, ◌∙◌, append_assoc, append-nil}
use Rattle.std.specs.Io.KnownBytes.{Appends, Keeps}

pub appends-none : (o : Option (List ℕ)) → Appends o o []
appends-none None = tt
appends-none (Some xs) = sym (append-nil xs)

pub appends-more : (a b c : Option (List ℕ)) (xs ys : List ℕ) → Appends a b xs → Appends b c ys → Appends a c (xs ++ ys)
appends-more None b c xs ys h k = tt
appends-more (Some a) None c xs ys h k = absurd h
appends-more (Some a) (Some b) None xs ys h k = absurd k
appends-more (Some a) (Some b) (Some c) xs ys h k = k ∙ ap (λ v. v ++ ys) h ∙ append_assoc a xs ys

pub appends-kept : (a b c : Option (List ℕ)) (xs : List ℕ) → Appends a b xs → Keeps b c → Appends a c xs
appends-kept None b c xs h k = tt
appends-kept (Some a) None c xs h k = absurd h
appends-kept (Some a) (Some b) None xs h k = absurd k
appends-kept (Some a) (Some b) (Some c) xs h k = k ∙ h
