-- What the program says of a crawl.
use Rattle.std.specs.Prelude.{◌≡◌, ◌⊎◌, ℕ, Bool, true, false, List, Option, String, codes}
use Rattle.std.specs.Global.{Global}
use Rattle.std.specs.Io.KnownBytes.{Appends}
use Rattle.afr_model.specs.Actors.{IsActor}
use Rattle.afr_model.specs.Crawl.{CanCrawl}
use Rattle.afr_plan.specs.declared.plan.Plan.{Plan}
use Rattle.afr_report.specs.Workers.{is_untried}
use Rattle.afr_volume.specs.State.{State}
use Rattle.afr_volume.specs.Tasks.{is_done_in}
use Rattle.afr_words.specs.Forms.{AskLive}
use Rattle.afr_words.specs.declared.live.LiveForm.{LiveForm}
use Rattle.afr_words.specs.declared.live.LiveForm.TheVariants as live
use Rattle.afr_cli.specs.Statuses.{AreDone, IsFull, IsSpelled, IsWorkLeft}

-- the form crawls a plan
abbrev pub crawls : LiveForm → Bool
crawls live.Live = false
crawls live.Crawl = true
crawls live.Record = false

-- the line that refuses a plan that can't be crawled
abbrev pub crawl_refusal_line : List ℕ
crawl_refusal_line = codes "crawl refused: healers\n"

-- the words ask for a crawl, the plan that is spelled has fewer than three healers or a round of the second or the third, and the sink took the line that says so, to its end
pub record IsCrawlRefusal (words : List (String Global)) (left left' taken taken' : Option (List ℕ)) : Type 0 where
  pub asked : AskLive words live.Crawl
  pub plan : Plan
  pub spelled : IsSpelled left left' plan
  pub cause : CanCrawl plan → ⊥
  pub line : Appends taken taken' crawl_refusal_line

-- ---- how a crawl stands
-- an actor that lives has a command, a round or a task that hasn't ended
pub record IsLeftIn (s : State) : Type 0 where
  pub actor : ℕ
  pub planned : IsActor s.plan actor
  pub left : is_done_in actor s ≡ false

-- no actor has
abbrev pub AreDoneIn : State → Type 0
AreDoneIn s = (a : ℕ) → IsActor s.plan a → is_done_in a s ≡ true

-- work is left: some actor has it; or fewer tasks have ended than the crawler was given items, though no worker was killed
abbrev pub IsCrawlLeft : State → Type 0
IsCrawlLeft s = IsLeftIn s ⊎ (is_untried s.plan s.log ≡ true)

-- no work is left
pub record IsCrawlDone (s : State) : Type 0 where
  pub done : AreDoneIn s
  pub tried : is_untried s.plan s.log ≡ false

-- a crawl is over: all work is done, or the log is full while some is left
abbrev pub IsCrawlOver : State → Type 0
IsCrawlOver s = IsCrawlDone s ⊎ (IsFull s.plan s.log × IsCrawlLeft s)

-- ---- the same of any volume, by whether its healers crawl
abbrev pub IsLeftFor : Bool → State → Type 0
IsLeftFor false s = IsWorkLeft s.plan s.log
IsLeftFor true s = IsCrawlLeft s

abbrev pub IsDoneFor : Bool → State → Type 0
IsDoneFor false s = AreDone s.plan s.log
IsDoneFor true s = IsCrawlDone s

-- a run is over
abbrev pub IsOverFor : Bool → State → Type 0
IsOverFor crawl s = IsDoneFor crawl s ⊎ (IsFull s.plan s.log × IsLeftFor crawl s)
