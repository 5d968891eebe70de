-- The report of a volume whose healers crawl: the tasks of its workers stand in the place of their rounds.
use Rattle.std.specs.Prelude.{ℕ, ◌+◌, ◌==◌, ◌&&◌, ◌||◌, nat_lt, not, Bool, true, false, List, [], ◌∷◌, ◌++◌, Option, Some, None, codes, decimal, flat_map, if◌then◌else◌, length}
use Rattle.afr_lines.specs.Work.{ended, is_killed}
use Rattle.afr_lines.specs.declared.line.Line.{Line}
use Rattle.afr_lines.specs.declared.line.Line.TheVariants.{HealEnd}
use Rattle.afr_model.specs.Actors.{rounds_of}
use Rattle.afr_model.specs.Crawl.{items_of, lists_by}
use Rattle.afr_model.specs.Report.{clients_text, volume_text}
use Rattle.afr_model.specs.ReportHealers.{heal_line, healer_text, info_of, report_of}
use Rattle.afr_plan.specs.declared.plan.Plan.{Plan}

-- ---- how many
-- the tasks that have ended, of both workers
abbrev pub tasks_ended : List Line → ℕ
tasks_ended log = ended 18 log + ended 19 log

-- the items of the lists that the crawler's ended rounds were given
abbrev pub items_given : Plan → List Line → ℕ
items_given p log = length (items_of (lists_by p log))

-- those of one list, if there is one
abbrev pub length_of : {A : Type 0} → Option (List A) → ℕ
length_of None = 0
length_of (Some list) = length list

-- a worker was killed
abbrev pub is_worker_killed : List Line → Bool
is_worker_killed log = is_killed 18 log || is_killed 19 log

-- though no worker was killed, fewer tasks have ended than there are items
abbrev pub is_untried : Plan → List Line → Bool
is_untried p log = not (is_worker_killed log) && nat_lt (tasks_ended log) (items_given p log)

-- ---- the heals of the tasks
-- a heal of a worker, where it may be one of the second healer or one of the third
abbrev pub is_task_heal : Bool → Bool → Line → Bool
is_task_heal second third (HealEnd a g kind said) = ((a.0 == 18) && second) || ((a.0 == 19) && third)
is_task_heal second third line = false

-- a line, if it is one to be taken
abbrev pub shown_if : Bool → Line → Option Line
shown_if true line = Some line
shown_if false line = None

-- a line behind others, if it is one to be taken
abbrev pub taken_behind : Bool → Line → List Line → List Line
taken_behind true line lines = lines ++ line ∷ []
taken_behind false line lines = lines

-- the heals of so many tasks of the second healer and so many of the third, the oldest first: those before which fewer had ended
abbrev pub task_heals : ℕ → ℕ → List Line → List Line
task_heals second third [] = []
task_heals second third (line ∷ older) = taken_behind (is_task_heal (nat_lt (ended 18 older) second) (nat_lt (ended 19 older) third) line) line (task_heals second third older)

-- those of the tasks that have ended
abbrev pub ended_heals : List Line → List Line
ended_heals log = task_heals (ended 18 log) (ended 19 log) log

-- the object of a heal
abbrev pub object_of : Line → ℕ
object_of (HealEnd a g kind said) = g.0
object_of line = 0

-- in front of the first whose number isn't lower
abbrev pub put_by : {A : Type 0} → (A → ℕ) → A → List A → List A
put_by number x [] = x ∷ []
put_by number x (y ∷ more) = if nat_lt (number y) (number x) then y ∷ put_by number x more else x ∷ y ∷ more

-- by rising numbers; those of one number in the order that they had
abbrev pub in_order_by : {A : Type 0} → (A → ℕ) → List A → List A
in_order_by number [] = []
in_order_by number (x ∷ more) = put_by number x (in_order_by number more)

-- ---- the text
-- how many tasks have ended, of how many items
abbrev pub workers_line : ℕ → ℕ → List ℕ
workers_line tasks items = codes "workers " ++ decimal tasks ++ codes " of " ++ decimal items ++ codes "\n"

-- the heals of ended tasks that found something to do, in rising gfid and, for one gfid, in the order of the log
abbrev pub heals_text : List Line → List ℕ
heals_text log = flat_map heal_line (in_order_by object_of (ended_heals log))

-- the whole report, where the healers go each its own rounds and where they crawl
abbrev pub report_for : Bool → Plan → List Line → List ℕ
report_for false p log = report_of p log
report_for true p log =
    volume_text p.shape ++ codes "lines " ++ decimal (length log) ++ codes "\n" ++ clients_text p.words 1 p.clients log ++ healer_text p.words 17 (rounds_of p 17) log
    ++ workers_line (tasks_ended log) (items_given p log) ++ heals_text log ++ info_of p log
