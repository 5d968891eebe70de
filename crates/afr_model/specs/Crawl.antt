-- A crawl: rounds of the first healer that heal nothing, and tasks of the others, each the heals of one item of a list that such a round was given.
use Rattle.std.specs.Prelude.{◌≡◌, ◌⊎◌, ℕ, ◌+◌, ◌==◌, ◌≤◌, Contains, List, [], ◌∷◌, ◌++◌, Option, Some, None, length, map, option_and_then, sum, if◌then◌else◌}
use Rattle.afr_base.specs.declared.ids.BrickId.{BrickId}
use Rattle.afr_base.specs.declared.ids.Gfid.{Gfid}
use Rattle.afr_base.specs.declared.ids.Kind.{Kind}
use Rattle.afr_base.specs.declared.ids.Kind.TheVariants.{Names}
use Rattle.afr_base.specs.declared.ids.What.{What}
use Rattle.afr_base.specs.declared.ids.What.TheVariants.{Dir, File}
use Rattle.afr_object.specs.Indexed.{index_of}
use Rattle.afr_lines.specs.Log.{from_oldest}
use Rattle.afr_lines.specs.Work.{Work, work}
use Rattle.afr_lines.specs.declared.answer.Told.TheVariants.{Given}
use Rattle.afr_lines.specs.declared.line.Line.{Line}
use Rattle.afr_lines.specs.declared.line.Line.TheVariants.{Ask, End, HealEnd}
use Rattle.afr_lines.specs.declared.reply.Good.TheVariants as good
use Rattle.afr_lines.specs.declared.reply.Reply.TheVariants as reply
use Rattle.afr_lines.specs.declared.request.Request.TheVariants as request
use Rattle.afr_plan.specs.declared.plan.Plan.{Plan}
use Rattle.afr_model.specs.Actors.{rounds_of}
use Rattle.afr_model.specs.Rounds.{IsHealed, KeepsToHeals, KeepsToIndexed}
use Rattle.afr_model.specs.Tables.{holds}

-- the first healer goes the rounds
abbrev pub crawler : ℕ
crawler = 17

-- the other two take tasks
abbrev pub IsWorker : ℕ → Type 0
IsWorker a = (18 ≤ a) × (a ≤ 19)

-- a plan that can be crawled: three healers, and rounds of the first alone
pub record CanCrawl (p : Plan) : Type 0 where
  pub healers : length p.healers ≡ 3
  pub crawls : (a : ℕ) → IsWorker a → rounds_of p a ≡ []

-- ---- what the lines keep to
-- a line gave the crawler a list with the item
abbrev pub Gives : Plan → Gfid × What → Line → List Line → Type 0
Gives p item (Ask a b request.Index Given took) older = (a.0 ≡ crawler) × Contains (index_of (holds p older b.0)) item
Gives p item line older = ⊥

-- the crawler was given a list with the item
abbrev pub IsGiven : Plan → Gfid × What → List Line → Type 0
IsGiven p item [] = ⊥
IsGiven p item (line ∷ older) = Gives p item line older ⊎ IsGiven p item older

-- a line of the crawler's round: the index of its brick is asked, and nothing is healed
abbrev pub KeepsToCrawl : BrickId → Line → Work → Type 0
KeepsToCrawl b line w = KeepsToIndexed b [] line w

-- a line of a task: the heals of its item, then an end that is ok
abbrev pub KeepsToItem : Gfid × What → Line → Work → Type 0
KeepsToItem item (End a said) w = IsHealed (item ∷ []) w × (said ≡ reply.Ok good.Done)
KeepsToItem item line w = KeepsToHeals (item ∷ []) line w

-- so is every line of a task
abbrev pub AreOfItem : Gfid × What → Work → Type 0
AreOfItem item [] = Unit {0}
AreOfItem item (x ∷ w) = KeepsToItem item x.0 w × AreOfItem item w

-- ---- what was tried
-- a heal of names is of a directory, one of bytes of a file
abbrev pub what_within : Kind → What
what_within Names = Dir
what_within kind = File

-- the item of a task: the object of its latest heal that ended
abbrev pub item_after : Line → Option (Gfid × What) → Option (Gfid × What)
item_after (HealEnd a g kind said) newer = Some (g, what_within kind)
item_after line was = was

abbrev pub item_by : Work → Option (Gfid × What)
item_by [] = None
item_by (x ∷ w) = item_after x.0 (item_by w)

-- one more item, where there is one
abbrev pub with_item : Option (Gfid × What) → List (Gfid × What) → List (Gfid × What)
with_item None items = items
with_item (Some item) items = item ∷ items

abbrev pub tasks_after : ℕ → Line → List Line → List (Gfid × What) → List (Gfid × What)
tasks_after a (End x said) older was = if x.0 == a then with_item (item_by (work a older)) was else was
tasks_after a line older was = was

-- the items of the tasks that a worker has ended, the latest first
abbrev pub tasks_by : ℕ → List Line → List (Gfid × What)
tasks_by a [] = []
tasks_by a (line ∷ older) = tasks_after a line older (tasks_by a older)

-- the list that the Index line of a round gave, if it gave one
abbrev pub given_after : Plan → Line → List Line → Option (List (Gfid × What)) → Option (List (Gfid × What))
given_after p (Ask a b request.Index Given took) older was = Some (index_of (holds p older b.0))
given_after p line older was = was

abbrev pub given_by : Plan → Work → Option (List (Gfid × What))
given_by p [] = None
given_by p (x ∷ w) = given_after p x.0 x.1 (given_by p w)

abbrev pub lists_after : Plan → Line → List Line → List (Option (List (Gfid × What))) → List (Option (List (Gfid × What)))
lists_after p (End x said) older was = if x.0 == crawler then given_by p (work crawler older) ∷ was else was
lists_after p line older was = was

-- what each ended round of the crawler was given, the latest first
abbrev pub lists_by : Plan → List Line → List (Option (List (Gfid × What)))
lists_by p [] = []
lists_by p (line ∷ older) = lists_after p line older (lists_by p older)

-- the list of a round, the first being round 0; none where it hasn't ended, or was given none
abbrev pub list_at : ℕ → List (Option (List (Gfid × What))) → Option (List (Gfid × What))
list_at round lists = option_and_then (λ list. list) (from_oldest round lists)

-- the items of all lists
abbrev pub items_of : List (Option (List (Gfid × What))) → List (Gfid × What)
items_of [] = []
items_of (None ∷ more) = items_of more
items_of (Some list ∷ more) = list ++ items_of more

-- each item is as often a task as it stands in the lists: whatever each item counts, both count the same
abbrev pub IsTried : Plan → List Line → Type 0
IsTried p log = (worth : Gfid × What → ℕ) → sum (map worth (tasks_by 18 log)) + sum (map worth (tasks_by 19 log)) ≡ sum (map worth (items_of (lists_by p log)))
