-- Documents that are looked for by their name.
use Rattle.std.proofs.Common.{◌≡◌, ℕ, List, ◌++◌, take, drop, map}
use Rattle.language_session.specs.Sessions.{found, open_of, without}
use Rattle.language_session.specs.declared.session.OpenText.{OpenText}

-- No document before one has the name: what is looked for is behind them.
pub record IsBehind (uri : List ℕ) (ds : List OpenText) (i : ℕ) : Type 0 where
  pub found : found uri (map open_of ds) ≡ found uri (map open_of (drop i ds))
  pub rest : without uri (map open_of ds) ≡ map open_of (take i ds) ++ without uri (map open_of (drop i ds))
