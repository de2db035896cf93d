mod Bodies
mod Items
mod EscapeLemmas
mod NoFloat
