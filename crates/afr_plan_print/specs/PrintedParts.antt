-- The text of a plan, part by part.
use Rattle.std.specs.Prelude.{ℕ, List, [], ◌∷◌, ◌++◌, suc, codes, map}
use Rattle.afr_base.specs.declared.ids.BrickId.{BrickId}
use Rattle.afr_plan.specs.declared.command.Command.{Command}
use Rattle.afr_plan.specs.declared.plan.Plan.{Plan}
use Rattle.afr_plan.specs.declared.plan.Words.{Words}
use Rattle.afr_plan.specs.Said as said
use Rattle.afr_plan.specs.Said.{Said}
use Rattle.afr_plan_print.specs.PrintedLine.{line_text, lines_text}
use Rattle.afr_plan_print.specs.PrintedPlan.{head_lines, said_command, said_round, said_fault, said_event, said_order}

-- a head and its lines
abbrev pub group_text : {A : Type 0} → (ℕ → Said) → (A → Said) → ℕ → List A → List ℕ
group_text head line i group = (line_text (head i) ++ codes "\n") ++ lines_text (map line group)

-- numbered heads, the first of them being number i, each with its own lines
abbrev pub groups_text : {A : Type 0} → (ℕ → Said) → (A → Said) → ℕ → List (List A) → List ℕ
groups_text head line i [] = []
groups_text head line i (group ∷ more) = group_text head line i group ++ groups_text head line (suc i) more

-- a client and its commands
abbrev pub client_text : Words → ℕ → List Command → List ℕ
client_text words i script = group_text said.Client (said_command words) i script

-- the clients from number i on
abbrev pub clients_text : Words → ℕ → List (List Command) → List ℕ
clients_text words i scripts = groups_text said.Client (said_command words) i scripts

-- a healer and its rounds
abbrev pub healer_text : ℕ → List BrickId → List ℕ
healer_text j rounds = group_text said.Healer said_round j rounds

-- the healers from number j on
abbrev pub healers_text : ℕ → List (List BrickId) → List ℕ
healers_text j healers = groups_text said.Healer said_round j healers

-- all parts, one after the other
abbrev pub parts_text : Plan → List ℕ
parts_text p = lines_text (head_lines p) ++ clients_text p.words 1 p.clients ++ healers_text 1 p.healers ++ lines_text (map said_fault p.faults) ++ lines_text (map said_event p.events) ++ lines_text (map said_order p.go) ++ codes "end\n"
