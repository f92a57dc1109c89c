-- The bytes that the name of a service may have.
use Rattle.std.specs.Prelude.{ℕ, Bool, ◌||◌, nat_eq}
use Rattle.listing_fields.specs.Interface.{may_spell}

-- One that the name of an interface may have, `-` or `/`.
abbrev pub may_name : ℕ → Bool
may_name byte = may_spell byte || nat_eq byte 45 || nat_eq byte 47
