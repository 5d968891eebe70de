-- One word, and no more.
use Rattle.std.proofs.Common.{◌≡◌, ◌≤◌, ◌<◌, ℕ, List, [], ◌∷◌, length, refl, string_bytes, arith}
use Rattle.std.specs.Prelude.{String, map, slice_index_or}
use Rattle.std.specs.Global.{Global}

-- a word that is all there is
pub one_word : (words : List (String Global)) (word : String Global) → 1 ≤ length words → length words < 2 → word ≡ slice_index_or words 0 word
    → map string_bytes words ≡ string_bytes word ∷ []
one_word [] word least most is = absurd (omega arith)
one_word (x ∷ []) word least most is = rw is refl
one_word (x ∷ y ∷ words) word least most is = absurd (omega arith)

pub only_text : (text other : List ℕ) → text ∷ [] ≡ other ∷ [] → text ≡ other
only_text text other e = cc
