-- The two parts of a `NodeOrToken`.
use Rattle.std.specs.Prelude.{Option, Some, None}
use Rattle.rowan_green.specs.declared.utility_types.NodeOrToken.{NodeOrToken}
use Rattle.rowan_green.specs.declared.utility_types.NodeOrToken.TheVariants.{Node, Token}

-- the node, if it is one
abbrev pub node_part : {N T : Type 0} → NodeOrToken N T → Option N
node_part (Node n) = Some n
node_part (Token t) = None

-- the token, if it is one
abbrev pub token_part : {N T : Type 0} → NodeOrToken N T → Option T
token_part (Node n) = None
token_part (Token t) = Some t

-- one function of the node, another of the token
abbrev pub either : {N T R : Type 0} → (N → R) → (T → R) → NodeOrToken N T → R
either f g (Node n) = f n
either f g (Token t) = g t
