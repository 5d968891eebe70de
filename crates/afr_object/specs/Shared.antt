-- Bytes that several owners share.
use Rattle.std.specs.Prelude.{ℕ, List, [], Option, Some, None}

-- the bytes of what is shared, where there is something
abbrev pub shared_bytes : {A : Type 0} → (A → List ℕ) → Option A → List ℕ
shared_bytes bytes None = []
shared_bytes bytes (Some it) = bytes it
