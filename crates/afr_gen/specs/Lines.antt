-- The lines of the generated plan, as a text would say them. Of some lines, the newest comes first.
use Rattle.std.specs.Prelude.{ℕ, zero, suc, ◌+◌, ◌/◌, ◌%◌, ◌==◌, List, [], ◌∷◌, codes, if◌then◌else◌}
use Rattle.afr_plan.specs.Happening.{Stop, Start}
use Rattle.afr_plan.specs.Names.{file_name}
use Rattle.afr_plan.specs.declared.version.Version.TheVariants.{One}
use Rattle.afr_plan.specs.Said.{three_replicas, Said, Afr, Volume, Files, Turns, Client, Command, Healer, Round, At, End}
use Rattle.afr_plan.specs.Action.{Action, Write, Read, SetAttr}
use Rattle.afr_gen.specs.Generated.{block, lot, offset, sets, value}

-- what client i does at a lot
abbrev pub work_at : ℕ → ℕ → Action
work_at i r = if sets r then SetAttr (codes "owner") (value i) else (if r % 4 == 1 then Read (offset r) 1024 else Write (offset r) (block i))

-- its line: the files are `f1` to `f8`
abbrev pub said_at : ℕ → ℕ → Said
said_at i r = Command (file_name (r / 4 % 8 + 1) ∷ []) (work_at i r)

-- the first k commands of the client that comes after c others, and the lines before them
abbrev pub said_script : ℕ → ℕ → ℕ → List Said → List Said
said_script n c zero before = before
said_script n c (suc k) before = said_at (c + 1) (lot n c k) ∷ said_script n c k before

-- the head of the plan, and its first c clients
abbrev pub said_clients : ℕ → ℕ → List Said
said_clients n zero = Turns 4000000 ∷ Files 8 ∷ Volume One three_replicas ∷ Afr One ∷ []
said_clients n (suc c) = said_script n c n (Client (c + 1) ∷ said_clients n c)

-- all lines
abbrev pub said_plan : ℕ → List Said
said_plan n = End ∷ At 400 (Start 2) ∷ At 50 (Stop 2) ∷ Round 2 ∷ Round 1 ∷ Round 0 ∷ Healer 1 ∷ said_clients n 4
