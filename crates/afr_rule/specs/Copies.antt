-- A copy as a rule sees it.
use Rattle.std.specs.Prelude.{ℕ}
use Rattle.afr_choice.specs.Looks.{len_in, view_at}
use Rattle.afr_choice.specs.declared.looked.Looked.{Looked}
use Rattle.afr_rule.specs.declared.candidate.Candidate.{Candidate}

-- the length that a brick showed
abbrev pub len_at : ℕ → Looked → ℕ
len_at b looked = len_in (view_at b looked)

-- the copy on a brick, with the length that this showed
abbrev pub copy_in : Looked → ℕ → Candidate
copy_in looked b = record { brick = record { 0 = b }; len = len_at b looked }
