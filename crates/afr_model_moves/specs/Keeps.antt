-- Which bricks keep what a kind is about.
use Rattle.std.specs.Prelude.{ℕ, ◌&&◌, nat_lt, Bool}
use Rattle.afr_base.specs.declared.ids.Kind.{Kind}
use Rattle.afr_base.specs.declared.ids.Shape.{Shape}
use Rattle.afr_base.specs.Keeping.{keeps}

-- one of the five bricks, and of bytes no arbiter
abbrev pub keeps_in : Shape → ℕ → Kind → Bool
keeps_in shape b kind = nat_lt b 5 && keeps shape kind b
