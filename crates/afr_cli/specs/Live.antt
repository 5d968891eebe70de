-- What the program says of a run by threads, and of a crawl.
use Rattle.std.specs.Prelude.{◌≡◌, ◌<◌, ◌≤◌, ◌+◌, ◌*◌, ℕ, true, List, Option, Some, String, length}
use Rattle.std.specs.Global.{Global}
use Rattle.std.specs.Io.KnownBytes.{Appends}
use Rattle.afr_image.specs.Images.{IsImageOf, image_bytes}
use Rattle.afr_image.specs.Logs.{image_of}
use Rattle.afr_law_bound.specs.Ends.Left.{bound_of}
use Rattle.afr_text.specs.Causes.{Rose}
use Rattle.afr_text.specs.Parts.{AppendsFront}
use Rattle.afr_lines.specs.declared.line.Line.{Line}
use Rattle.afr_plan.specs.declared.plan.Plan.{Plan}
use Rattle.afr_plan.specs.declared.plan.PlanFault.{PlanFault}
use Rattle.afr_volume.specs.State.{State, no_volume}
use Rattle.afr_model.specs.Complete.{IsComplete}
use Rattle.afr_model.specs.Crawl.{CanCrawl}
use Rattle.afr_model.specs.Ordered.{actors_of}
use Rattle.afr_model.specs.ReportHealers.{report_of}
use Rattle.afr_report.specs.Workers.{report_for}
use Rattle.afr_words.specs.Forms.{AreLive, AskLive}
use Rattle.afr_words.specs.declared.live.LiveForm.{LiveForm}
use Rattle.afr_words.specs.declared.live.LiveForm.TheVariants as live
use Rattle.afr_cli.specs.Crawl.{IsOverFor, crawl_refusal_line, crawls}
use Rattle.afr_cli.specs.Statuses.{IsRefused, IsSpelled, refusal_line, usage_line}

-- the bytes of the image of a plan and its log
unfoldable pub image_text : Plan → List Line → List ℕ
image_text p log = image_bytes (image_of p log)

-- the image is read again by a replay that has turns for all its steps, and its bytes are at most 32 MiB
pub record IsRecorded (p : Plan) (log : List Line) : Type 0 where
  pub read : (turns : ℕ) → length log ≤ turns → IsImageOf (Some turns) (image_text p log) (image_of p log)
  pub few : length (image_text p log) ≤ 33554432

-- what is written of a plan that was run by threads: the report, or the image; and of one that was crawled: its report
abbrev pub text_live : LiveForm → Plan → List Line → List ℕ
text_live live.Live p log = report_of p log
text_live live.Crawl p log = report_for true p log
text_live live.Record p log = image_text p log

-- the words ask for the form, its plan is the one that is spelled, and the sink took the form's text, to its end
pub record ReportsLive (words : List (String Global)) (left left' taken taken' : Option (List ℕ)) (now : State) : Type 0 where
  pub form : LiveForm
  pub asked : AskLive words form
  pub spelled : IsSpelled left left' now.plan
  pub text : Appends taken taken' (text_live form now.plan now.log)

-- a text of the program, and why it was to be written: the usage, a refusal, or the form's text of a run that is over
pub data IsLiveText {S : Type 0} (words : List (String Global)) (left : S → Option (List ℕ)) (source source' : S) (now : State) : List ℕ → Type 0 where
  Usage : (AreLive words → ⊥) → source' ≡ source → now ≡ no_volume
      → IsLiveText words left source source' now usage_line
  Refusal : AreLive words → (fault : PlanFault) → IsRefused (left source) (left source') fault → now ≡ no_volume
      → IsLiveText words left source source' now (refusal_line fault)
  CrawlRefusal : AskLive words live.Crawl → (plan : Plan) → IsSpelled (left source) (left source') plan → (CanCrawl plan → ⊥) → now ≡ no_volume
      → IsLiveText words left source source' now crawl_refusal_line
  Report : (form : LiveForm) → AskLive words form → IsSpelled (left source) (left source') now.plan → IsComplete now.plan now.log → IsOverFor now.crawl now
      → IsLiveText words left source source' now (text_live form now.plan now.log)

-- the sink took a front of the text that was to be written
pub record StopsLive {S : Type 0} (words : List (String Global)) (left : S → Option (List ℕ)) (source source' : S) (taken taken' : Option (List ℕ)) (now : State) : Type 0 where
  pub text : List ℕ
  pub known : IsLiveText words left source source' now text
  pub front : AppendsFront taken taken' text

-- the words ask for a run by threads or a crawl, the source tells these bytes, and no read of it failed
pub record IsGivenLive (words : List (String Global)) (left : Option (List ℕ)) (faults faults' : ℕ) (bytes : List ℕ) : Type 0 where
  pub asked : AreLive words
  pub told : left ≡ Some bytes
  pub sound : Rose faults faults' → ⊥

-- the plan gives fewer turns than the bound on its run in whatever order: twice that in the stated one, and one for each actor and event
abbrev pub IsShortLive : Plan → Type 0
IsShortLive p = p.turns < 2 * bound_of p + length (actors_of p) * length p.events

-- ---- on the way there
-- the plan was run to its end by the form, and it can be crawled where the form crawls
pub record HasRun (form : LiveForm) (plan : Plan) (now : State) : Type 0 where
  pub plan_is : now.plan ≡ plan
  pub crawl : now.crawl ≡ crawls form
  pub can : crawls form ≡ true → CanCrawl plan
  pub complete : IsComplete now.plan now.log

-- a text that is written of the plan: the form's, of a run that is over, or that the plan can't be crawled
pub data IsRunText (form : LiveForm) (plan : Plan) (now : State) : List ℕ → Type 0 where
  Report : HasRun form plan now → IsOverFor now.crawl now → IsRunText form plan now (text_live form now.plan now.log)
  Refusal : crawls form ≡ true → (CanCrawl plan → ⊥) → now ≡ no_volume → IsRunText form plan now crawl_refusal_line

-- the sink took a front of it
pub record StopsRun (form : LiveForm) (plan : Plan) (taken taken' : Option (List ℕ)) (now : State) : Type 0 where
  pub text : List ℕ
  pub known : IsRunText form plan now text
  pub front : AppendsFront taken taken' text
