-- What the names of entries name.
use Rattle.std.specs.Prelude.{ℕ, List, Option, Some, None, codes, if◌then◌else◌}
use Rattle.std.specs.Str.{bytes_eq}
use Rattle.ra_parser.specs.declared.entry_points.TopEntryPoint.{TopEntryPoint}
use Rattle.ra_parser.specs.declared.entry_points.TopEntryPoint.TheVariants.{SourceFile, MacroStmts, MacroItems, Pattern, Ty, Expr, MetaItem}

-- the entry of a name
abbrev pub entry_point_named : List ℕ → Option TopEntryPoint
entry_point_named name =
    if bytes_eq name (codes "SourceFile") then Some SourceFile
    else if bytes_eq name (codes "MacroStmts") then Some MacroStmts
    else if bytes_eq name (codes "MacroItems") then Some MacroItems
    else if bytes_eq name (codes "Pattern") then Some Pattern
    else if bytes_eq name (codes "Type") then Some Ty
    else if bytes_eq name (codes "Expr") then Some Expr
    else if bytes_eq name (codes "MetaItem") then Some MetaItem
    else None
