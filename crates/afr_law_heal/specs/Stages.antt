-- What the lines of a heal show at each of its stages.
use Rattle.std.specs.Prelude.{ℕ, ◌≡◌, ◌<◌, ◌&&◌, ◌||◌, not, nat_lt, Bool, true, false, [], None, Some, if◌then◌else◌, is_some, length}
use Rattle.afr_base.specs.Bricks.{member}
use Rattle.afr_base.specs.declared.ids.Gfid.{Gfid}
use Rattle.afr_base.specs.declared.ids.Kind.{Kind}
use Rattle.afr_base.specs.declared.ids.Kind.TheVariants.{Bytes, Attrs, Names}
use Rattle.afr_base.specs.declared.ids.Shape.{Shape}
use Rattle.afr_choice.specs.Looks.{no_looks, view_at}
use Rattle.afr_choice.specs.declared.looked.Looked.{Looked}
use Rattle.afr_heal.specs.Engine.{has_part}
use Rattle.afr_heal.specs.Standing.{behind}
use Rattle.afr_lines.specs.Overlap.{same_area}
use Rattle.afr_lines.specs.Work.{Work}
use Rattle.afr_lines.specs.declared.request.Area.{Area}
use Rattle.afr_model.specs.Healing.{first_by, heal_asking, heal_getting, none_yet, settled_at, settling, busy_by, whole_of}
use Rattle.afr_model.specs.HealReplies.{IsHealAnswered, by_first, settles}
use Rattle.afr_model.specs.Moved.{is_whole_by, pieces}
use Rattle.afr_model.specs.Showing.{among, has, looked_by, prepared}
use Rattle.afr_model.specs.Standing.{asking, getting}
use Rattle.afr_model_moves.specs.Keeps.{keeps_in}
use Rattle.afr_model_moves.specs.Ranges.{MarksInRange}
use Rattle.afr_model_moves.specs.Register.{Exact, HealLocks, HealPres, Looks, Settles, WorkLocks, asked_in, holder, is_finish, is_opening, same_step}
use Rattle.afr_model_moves.specs.Steps.{is_lowest, other, sink}
use Rattle.afr_object.specs.declared.entry.View.{View}
use Rattle.afr_heal_machine.specs.Outcome.{reply_of}
use Rattle.afr_heal_machine.specs.declared.outcome.HealOutcome.{HealOutcome}

-- the looks that the register keeps, as the program has them
pub record IsShown (r : Exact) (seen looked : Looked) : Type 0 where
  pub first_reached : r.first_reached ≡ member seen.reached
  pub first_views : r.first_views ≡ (λ x. view_at x seen)
  pub reached : r.reached ≡ member looked.reached
  pub views : r.views ≡ (λ x. view_at x looked)
  pub five_first : length seen.views ≡ 5
  pub five : length looked.views ≡ 5

-- nothing was changed yet
pub record IsUntouched (w : Work) : Type 0 where
  pub prepared : among prepared w ≡ []
  pub settling : among settling w ≡ []
  pub settled : among settled_at w ≡ []
  pub unsettled : has settles w ≡ false

-- the Heal locks are asked, and no Work lock
pub record TellsLocks (shape : Shape) (r : Exact) (g : Gfid) (kind : Kind) (w : Work) : Type 0 where
  pub unseen : first_by w ≡ record none_yet { missing = (first_by w).missing }
  pub missing : (x : ℕ) → x < shape.n → member (first_by w).missing x ≡ (asked_in r HealLocks x && not (r.law.healing x))
  pub asked : (x : ℕ) → x < shape.n → member (among heal_asking w) x ≡ asked_in r HealLocks x
  pub granted : (x : ℕ) → member (among heal_getting w) x ≡ r.law.healing x
  pub fresh : (x : ℕ) → asked_in r HealLocks x ≡ false → r.law.healing x ≡ false
  pub low : (x : ℕ) → r.law.healing x ≡ true → x < shape.n
  pub unlocked : among (getting (whole_of g kind)) w ≡ []
  pub free : busy_by w ≡ None
  pub whole : IsUntouched w
  pub none : pieces w ≡ 0
  pub unviewed : (x : ℕ) → x < 5 → r.first_views x ≡ None

-- the first Work locks are asked: who failed a lock is missing
pub record TellsWork (shape : Shape) (r : Exact) (g : Gfid) (kind : Kind) (w : Work) : Type 0 where
  pub unseen : first_by w ≡ record none_yet { missing = (first_by w).missing }
  pub missing : (x : ℕ) → x < shape.n → member (first_by w).missing x ≡ not (r.law.held x || (r.law.healing x && not (r.asked x)))
  pub asked : (x : ℕ) → x < shape.n → member (among heal_asking w) x ≡ true
  pub granted : (x : ℕ) → member (among heal_getting w) x ≡ true → (r.asked x || r.law.healing x) ≡ true
  pub worked : (x : ℕ) → r.asked x ≡ true → member (among (asking (whole_of g kind)) w) x ≡ true
  pub locked : (x : ℕ) → member (among (getting (whole_of g kind)) w) x ≡ true → r.law.held x ≡ true
  pub fresh : (x : ℕ) → r.asked x ≡ false → member (among (getting (whole_of g kind)) w) x ≡ false
  pub low : (x : ℕ) → member (among heal_getting w) x ≡ true → x < shape.n
  pub low_held : (x : ℕ) → r.law.held x ≡ true → x < shape.n
  pub unheld : (x : ℕ) → r.asked x ≡ false → r.law.held x ≡ false
  pub free : busy_by w ≡ None
  pub whole : IsUntouched w
  pub none : pieces w ≡ 0
  pub unviewed : (x : ℕ) → x < 5 → r.first_views x ≡ None

-- each view has a number for each of five bricks
abbrev pub ViewsAreWhole : Looked → Type 0
ViewsAreWhole looked = (x : ℕ) (view : View) → view_at x looked ≡ Some view → MarksInRange view.marks.bytes × MarksInRange view.marks.attrs × MarksInRange view.marks.names

-- who shows a view has answered
abbrev pub IsReached : Looked → Type 0
IsReached looked = (x : ℕ) → is_some (view_at x looked) ≡ true → member looked.reached x ≡ true

-- the locked bricks are looked at first: who failed is missing
pub record TellsLooks (shape : Shape) (r : Exact) (seen : Looked) (g : Gfid) (kind : Kind) (w : Work) : Type 0 where
  pub first : first_by w ≡ record { begun = true; still = true; missing = (first_by w).missing; looked = seen }
  pub missing : (x : ℕ) → x < shape.n → member (first_by w).missing x ≡ not (member seen.reached x || (r.law.held x && not (r.asked x)))
  pub low : (x : ℕ) → member seen.reached x ≡ true → x < shape.n
  pub shown : IsReached seen
  pub numbers : ViewsAreWhole seen
  pub asked : (x : ℕ) → x < shape.n → member (among heal_asking w) x ≡ true
  pub worked : (x : ℕ) → member (among heal_getting w) x ≡ true → member (among (asking (whole_of g kind)) w) x ≡ true
  pub locked : (x : ℕ) → member (among (getting (whole_of g kind)) w) x ≡ true → (x < shape.n) × ((r.asked x || r.law.held x) ≡ true)
  pub free : busy_by w ≡ None
  pub whole : IsUntouched w
  pub one : pieces w ≡ 1

-- the bricks where a heal raises the dirty number, whatever its part
abbrev pub raises : Shape → Exact → ℕ → Kind → ℕ → Bool
raises shape r s Bytes x = sink (keeps_in shape) r s x
raises shape r s Attrs x = other r s x
raises shape r s Names x = holder r.first_views x

-- after the first looks: what was changed, by the steps that are behind
pub record TellsAfter (shape : Shape) (r : Exact) (seen looked : Looked) (s : ℕ) (g : Gfid) (kind : Kind) (w : Work) : Type 0 where
  pub begun : (first_by w).begun ≡ true
  pub still : is_opening r.part ≡ false → (first_by w).still ≡ false
  pub missing : (x : ℕ) → x < shape.n → member (first_by w).missing x ≡ not (member seen.reached x)
  pub first : (first_by w).looked ≡ seen
  -- the first looks don't end the heal
  pub none : by_first shape kind (first_by w) ≡ None
  pub low : (x : ℕ) → member seen.reached x ≡ true → x < shape.n
  pub shown : IsReached seen
  pub numbers : ViewsAreWhole seen
  pub free : busy_by w ≡ None
  pub asked : (x : ℕ) → x < shape.n → member (among heal_asking w) x ≡ true
  -- the brick that the finish asked last for its Work lock may have been told that another holds it
  pub worked : (x : ℕ) → member (among heal_getting w) x ≡ true → (member (among (asking (whole_of g kind)) w) x || (is_finish r.part && same_step r.step WorkLocks && is_lowest r.first_reached r.asked x)) ≡ true
  pub watched : (x : ℕ) → member (among (getting (whole_of g kind)) w) x ≡ true → (member seen.reached x || member (first_by w).missing x) ≡ true
  pub opened : (x : ℕ) → x < shape.n → member (among prepared w) x ≡ (raises shape r s kind x && (not (is_opening r.part) || behind r HealPres x))
  pub closing : (x : ℕ) → x < shape.n → member (among settling w) x ≡ (not (has_part kind r.part) && holder r.first_views x && behind r Settles x)
  pub closed : (x : ℕ) → x < shape.n → member (among settled_at w) x ≡ member (among settling w) x
  pub unsettled : has_part kind r.part ≡ true → has settles w ≡ false
  pub one : is_opening r.part ≡ true → pieces w ≡ 1
  pub some : nat_lt 0 (pieces w) ≡ true
  pub more : is_opening r.part ≡ false → same_step r.step WorkLocks ≡ false → nat_lt 1 (pieces w) ≡ true
  pub again : is_opening r.part ≡ false → looked_by g w ≡ (if same_step r.step WorkLocks then no_looks else looked)
  pub finish : is_opening r.part ≡ false → is_whole_by (whole_of g kind) w ≡ is_finish r.part
  pub parted : is_opening r.part ≡ false → same_step r.step WorkLocks ≡ true → (area : Area) → r.law.area ≡ Some area → same_area (whole_of g kind) area ≡ is_finish r.part
  -- the present looks of a later part
  pub present : is_opening r.part ≡ false → same_step r.step WorkLocks ≡ false → IsReached looked × ((x : ℕ) → member looked.reached x ≡ true → x < shape.n) × ((x : ℕ) → asked_in r Looks x ≡ true → member looked.reached x ≡ true)

-- the heal was ended: its reply has its cause, and no further unlock changes that
abbrev pub TellsOver : Shape → Looked → Gfid → Kind → HealOutcome → Work → Type 0
TellsOver shape seen g kind o w = IsHealAnswered shape g kind w (reply_of o seen)
