-- What a volume shows: the plan, the log, which source the running heal of each healer has, which copy was picked for each client's reads, and, where its healers crawl, the tasks of the workers.
use Rattle.std.specs.Prelude.{◌≡◌, ℕ, ◌+◌, ◌<◌, Bool, true, false, List, [], ◌∷◌, Option, None, Some, length, replicate, slice_get}
use Rattle.afr_base.specs.declared.ids.Gfid.{Gfid}
use Rattle.afr_base.specs.declared.ids.What.{What}
use Rattle.afr_lines.specs.declared.line.Line.{Line}
use Rattle.afr_lines.specs.Log.{EachLine}
use Rattle.afr_model.specs.Chosen.{Picks, ReadsPicked}
use Rattle.afr_model.specs.State.{no_plan}
use Rattle.afr_plan.specs.declared.plan.Plan.{Plan}
use Rattle.afr_law_picks.specs.Readings.{PickAnswers, asked_of}
use Rattle.afr_law_picks.specs.Sources.Chosen.{AreChosen}

-- the sources are those of the healers in their order, and the picked copies those of the clients; the tasks are those of the two workers, and there are none where the healers go their own rounds
pub record State : Type 0 where
  pub plan : Plan
  pub log : List Line
  pub sources : List (Option ℕ)
  pub picked : List (Option ℕ)
  pub crawl : Bool
  pub tasks : List (Option (Gfid × What))

-- no actor, no brick, no line
abbrev pub no_volume : State
no_volume = record { plan = no_plan; log = []; sources = []; picked = []; crawl = false; tasks = [] }

-- before the first line no worker is at a task
abbrev pub no_tasks : Bool → List (Option (Gfid × What))
no_tasks true = None ∷ None ∷ []
no_tasks false = []

-- a plan before its first line, whether its healers crawl or go each its own rounds
abbrev pub opened_for : Bool → Plan → State
opened_for crawl p = record {
  plan = p;
  log = [];
  sources = replicate (length p.healers) None;
  picked = replicate (length p.clients) None;
  crawl = crawl;
  tasks = no_tasks crawl;
}

abbrev pub opened : Plan → State
opened p = opened_for false p

-- each read of a client went to a copy that the rule picked, and what is beside the log for each client is what the rule answered at its last look
pub record AreRead (reads : Picks) (p : Plan) (log : List Line) (picked : List (Option ℕ)) : Type 0 where
  pub past : EachLine (ReadsPicked reads p) log
  pub present : (i : ℕ) (brick : Option ℕ) → i < length p.clients → slice_get picked i ≡ Some brick → PickAnswers reads (asked_of p (1 + i) log) brick

-- every read is one that this rule picked
abbrev pub ReadsChosen : Picks → State → Type 0
ReadsChosen reads s = AreRead reads s.plan s.log s.picked

-- where the healers go their own rounds, the source of every heal is one that this rule picked
abbrev pub HealsChosen : Picks → State → Type 0
HealsChosen heals s = s.crawl ≡ false → AreChosen heals s.plan s.log s.sources

-- every read, and the source of every heal, is one that the rules picked
pub record IsChosen (reads heals : Picks) (s : State) : Type 0 where
  pub of_reads : ReadsChosen reads s
  pub of_heals : HealsChosen heals s
