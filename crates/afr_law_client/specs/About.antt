-- Where a command has led a transaction, and what that makes of its lines.
use Rattle.std.specs.Prelude.{◌≡◌, ℕ, ◌<◌, true, false, None, Some}
use Rattle.afr_object.specs.Tables.{object_of}
use Rattle.afr_object.specs.declared.change.Change.{Change}
use Rattle.afr_object.specs.declared.entry.Entry.{Entry}
use Rattle.afr_choice.specs.Looks.{view_at}
use Rattle.afr_choice.specs.declared.looked.Looked.{Looked}
use Rattle.afr_lines.specs.Areas.{area_for, kind_for}
use Rattle.afr_lines.specs.Work.{Work}
use Rattle.afr_lines.specs.declared.line.Next.{Next}
use Rattle.afr_lines.specs.declared.line.Next.TheVariants as next
use Rattle.afr_lines.specs.declared.request.Request.TheVariants as request
use Rattle.afr_discipline.specs.Tests.{ends_low, fits_view}
use Rattle.afr_plan.specs.declared.command.Command.{Command}
use Rattle.afr_plan.specs.declared.plan.Plan.{Plan}
use Rattle.afr_client_transaction.specs.declared.stage.Stage.{Stage}
use Rattle.afr_client_transaction.specs.declared.stage.Stage.TheVariants.{Locking, Looking, Beginning}
use Rattle.afr_model.specs.Answered.{answer, by_posts, IsAsked}
use Rattle.afr_model.specs.Blamed.{IsBlaming}
use Rattle.afr_model.specs.Commands.{is_rmdir, steps_of}
use Rattle.afr_model.specs.Refusals.{by_locks, refusal}
use Rattle.afr_model.specs.Showing.{At, NotAsked, path_by, reading_by}
use Rattle.afr_model.specs.Standing.{area_here, looks_here, place_by}
use Rattle.afr_law_client.specs.Fits.{ComesLocked}

-- the path has led to the object that is looked at, under the lock of its area, and nothing was read there
pub record LedToLook (p : Plan) (c : Command) (change : Change) (w : Work) : Type 0 where
  pub object : looks_here c (path_by p w) ≡ Some (object_of change)
  pub area : area_here c (path_by p w) ≡ Some (area_for change)
  pub unread : reading_by p w ≡ NotAsked

-- nothing but the locks and what they show could refuse the command now, and its last name was asked as it must be
pub record LedToBegin (p : Plan) (c : Command) (change : Change) (w : Work) : Type 0 where
  pub refuses : by_locks p.shape (kind_for change) (area_for change) w ≡ None → refusal p c w ≡ None
  pub asked : IsAsked p c w

-- what the command's path has to say at each stage
abbrev pub Led : Stage → Plan → Command → Change → Work → Type 0
Led Locking p c change w = area_here c (path_by p w) ≡ Some (area_for change)
Led Looking p c change w = LedToLook p c change w
Led Beginning p c change w = LedToBegin p c change w
Led stage p c change w = Unit {0}

-- a post-op accuses those that missed its operation
abbrev pub BlamesNext : Plan → Work → Next → Type 0
BlamesNext p w (next.Ask b (request.Post attempt g kind missed)) = IsBlaming p attempt g kind missed b.0 w
BlamesNext p w line = Unit {0}

-- a phase comes after the locks
abbrev pub NextLocked : Work → Next → Type 0
NextLocked w (next.Ask b asked) = ComesLocked asked w
NextLocked w line = Unit {0}

-- the change is not too large, and each view is of such an object as it changes
pub record IsFitting (n : ℕ) (change : Change) (looked : Looked) : Type 0 where
  pub low : ends_low change ≡ true
  pub fits : (b : ℕ) → b < n → fits_view (view_at b looked) change ≡ true

-- at the end of a command that is one transaction of the object that its path has led to: the locks and what they show refuse it, or its post-ops answer it
pub record LedToEnd (p : Plan) (c : Command) (change : Change) (w : Work) : Type 0 where
  pub object : Entry
  pub led : place_by p c w ≡ At (steps_of c) object
  pub area : area_here c (place_by p c w) ≡ Some (area_for change)
  pub refuses : refusal p c w ≡ by_locks p.shape (kind_for change) (area_for change) w
  pub answers : answer p c w ≡ by_posts p.shape w
  pub plain : is_rmdir c ≡ false
