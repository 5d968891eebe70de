-- Numbers that no operation has raised yet.
use Rattle.std.proofs.Common.{ℕ, suc, zero, ◌<◌, [], ◌∷◌, get_or, lit<}

-- Each of five zeros can be raised.
pub zeros_have_room : (b : ℕ) → get_or (0 ∷ 0 ∷ 0 ∷ 0 ∷ 0 ∷ []) b 0 < 4294967295
zeros_have_room zero = lit< tt
zeros_have_room (suc zero) = lit< tt
zeros_have_room (suc (suc zero)) = lit< tt
zeros_have_room (suc (suc (suc zero))) = lit< tt
zeros_have_room (suc (suc (suc (suc zero)))) = lit< tt
zeros_have_room (suc (suc (suc (suc (suc b))))) = lit< tt
