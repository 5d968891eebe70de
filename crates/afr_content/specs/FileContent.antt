-- What a caller sees of a file's content, and which pages a call adds.
use Rattle.std.specs.Prelude.{ℕ, ◌+◌, ◌*◌, Bool, ◌&&◌, nat_lt, List, refl}
use Rattle.std.specs.Coded.{Coded, code_by, coded×, coded_list, coded_ℕ}
use Rattle.std.specs.FinSet.{FinSet, code}
use Rattle.std.specs.Ordering.{nat_cmp}

-- a file's bytes, and the numbers of its pages of 4,096 bytes that are there
pub record FileContent : Type 0 where
  pub bytes : List ℕ
  pub pages : FinSet nat_cmp

-- how proofs tell two of these apart
abbrev pub file_content_code : Coded FileContent
file_content_code =
    code_by (List ℕ × FinSet nat_cmp) (coded× (coded_list coded_ℕ) (code coded_ℕ)) (λ c. (c.bytes, c.pages)) (λ p. record { bytes = p.0; pages = p.1 }) (λ _. refl)

-- some of the bytes from one offset up to another lie in the page of this number
abbrev pub reaches : ℕ → ℕ → ℕ → Bool
reaches from to number = nat_lt from to && nat_lt from (number * 4096 + 4096) && nat_lt (number * 4096) to
