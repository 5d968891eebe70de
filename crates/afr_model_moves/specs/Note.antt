-- What a request and its answer leave in the register of the discipline.
use Rattle.std.specs.Prelude.{ℕ, ◌+◌, Bool, true, false, ◌&&◌, ◌||◌, not, ◌==◌, nat_lt, if◌then◌else◌, Option, None, Some}
use Rattle.afr_base.specs.Majority.{is_most}
use Rattle.afr_base.specs.declared.ids.Kind.{Kind}
use Rattle.afr_base.specs.declared.ids.Kind.TheVariants.{Bytes}
use Rattle.afr_object.specs.declared.entry.View.{View}
use Rattle.afr_lines.specs.declared.lock.Domain.TheVariants.{Work, Heal}
use Rattle.afr_lines.specs.declared.request.Area.{Area}
use Rattle.afr_lines.specs.declared.request.Request.{Request}
use Rattle.afr_lines.specs.declared.request.Request.TheVariants.{Lock, Unlock, Look, ReadBytes, List, ReadAttrs, Pre, Apply, Post, Mend, Settle}
use Rattle.afr_lines.specs.declared.answer.Told.{Told}
use Rattle.afr_lines.specs.declared.answer.Told.TheVariants.{Granted, Held, Seen, Done, Given, NoObject, NotConnected, Failed}
use Rattle.afr_lines.specs.Overlap.{same_area}
use Rattle.afr_model_moves.specs.Sets.{any, empty, with}
use Rattle.afr_model_moves.specs.Past.{is_gone}
use Rattle.afr_model_moves.specs.Rules.{busy, is_area, no_views}
use Rattle.afr_model_moves.specs.Register.{Exact, Step, Untouched, Open, Pres, Applies, Posts, HealLocks, WorkLocks, Looks, Reads, HealPres, Mends, Settles, Unlocks, HealUnlocks, rank, same_step, HealPart, Piece, Finish, is_opening, is_piece, everywhere, asked_in, over, whole_area, span, is_on}
use Rattle.afr_model_moves.specs.Steps.{may_heal, goes_on, looks_at}

-- no answer, as far as a heal goes
abbrev pub fails : Told → Bool
fails NotConnected = true
fails Failed = true
fails _ = false

-- another actor has a lock that is in the way
abbrev pub is_held : Told → Bool
is_held (Held owner) = true
is_held _ = false

-- an answer to a look: a view, or that there is no copy
abbrev pub answers : Told → Bool
answers (Seen view) = true
answers NoObject = true
answers _ = false

-- the view that was told
abbrev pub view_of : Told → Option View
view_of (Seen view) = Some view
view_of _ = None

-- what is noted of brick b is new
abbrev pub put : {A : Type 0} → (ℕ → A) → ℕ → A → ℕ → A
put f b new x = if x == b then new else f x

-- the brick was asked in this step; it is asked again where the answer leaves it so
abbrev pub entering : Exact → Step → ℕ → Bool → Exact
entering r step b again = record r { step = step; asked = if again then asked_in r step else with (asked_in r step) b }

-- a line that enters no step
abbrev pub stay : Exact → Exact
stay r = record r { step = if same_step r.step Untouched then Open else r.step }

-- a look, where it counts
abbrev pub put_look : Exact → Bool → ℕ → Told → Exact
put_look r counts b told = record r { reached = if counts then put r.reached b (answers told) else r.reached; views = if counts then put r.views b (view_of told) else r.views }

-- outside a heal
abbrev pub left_outside : ℕ → Exact → ℕ → Request → Told → Exact
left_outside n r b (Lock Work area) told = if busy n r.law then stay r else record r { step = Open; asked = empty; unlocked = false; reached = empty; views = no_views }
left_outside n r b (Lock Heal area) told = record (entering r HealLocks b false) { broken = r.broken || is_held told }
left_outside n r b (Unlock Work area) told = record (stay r) { unlocked = is_area r.law.area area || r.unlocked }
left_outside n r b (Look g) told = put_look (stay r) ((r.law.number == 0) && r.law.held b && is_on r.law.area g.0) b told
left_outside n r b (Pre g kind) told = entering r Pres b false
left_outside n r b (Apply q) told = entering r Applies b false
left_outside n r b (Post q g kind missed) told = entering r Posts b false
left_outside n r b request told = stay r

-- the first Work lock after the unlocks begins a piece, or the finish where it is of all bytes
abbrev pub next_part : Exact → Area → HealPart
next_part r area = if same_step r.step Unlocks then (if same_area (whole_area r.law.object Bytes) area then Finish else Piece) else r.part

-- a look of the first part
abbrev pub put_first : Exact → ℕ → Told → Exact
put_first r b told = record r { first_reached = if is_opening r.part then put r.first_reached b (answers told) else r.first_reached; first_views = if is_opening r.part then put r.first_views b (view_of told) else r.first_views }

-- the position of a read that gave something
abbrev pub given : Told → ℕ → Option ℕ
given Given t = Some t
given _ t = None

-- on honest lines each of these requests is told one of the two, or fails
abbrev pub is_granted : Told → Bool
is_granted Granted = true
is_granted _ = false

-- a read was given
abbrev pub is_given : Told → Bool
is_given Given = true
is_given _ = false

-- the request was carried out
abbrev pub is_done : Told → Bool
is_done Done = true
is_done _ = false

-- a read of a heal
abbrev pub reading : Exact → ℕ → ℕ → Told → Exact
reading r t b told = record (entering r Reads b (not (is_given told || fails told))) { reads = put r.reads b (given told t) }

-- a failed unlock is asked again
abbrev pub is_failed : Told → Bool
is_failed Failed = true
is_failed _ = false

-- in a heal
abbrev pub left_in_heal : ℕ → Exact → ℕ → ℕ → Request → Told → Exact
left_in_heal n r t b (Lock Heal area) told = entering r HealLocks b false
left_in_heal n r t b (Lock Work area) told = record (entering r WorkLocks b (not (is_granted told || fails told))) { part = next_part r area }
left_in_heal n r t b (Unlock Work area) told = record (entering r Unlocks b (is_failed told)) { upto = if is_piece r.part && nat_lt (rank r.step) (rank Unlocks) then r.upto + span else r.upto }
left_in_heal n r t b (Unlock Heal area) told = entering r HealUnlocks b (is_failed told)
left_in_heal n r t b (Look g) told = put_first (put_look (entering r Looks b (not (answers told || fails told))) true b told) b told
left_in_heal n r t b (ReadBytes g at len) told = reading r t b told
left_in_heal n r t b (ReadAttrs g) told = reading r t b told
left_in_heal n r t b (List g) told = reading r t b told
left_in_heal n r t b (Pre g kind) told = entering r HealPres b (not (is_done told || fails told))
left_in_heal n r t b (Mend repair) told = entering r Mends b (not (is_done told || fails told))
left_in_heal n r t b (Settle g kind less) told = entering r Settles b (not (is_done told || fails told))
left_in_heal n r t b request told = r

-- the answer ends the heal: busy; or it comes after the first looks and is no answer, a failed unlock aside
abbrev pub breaks : Exact → Request → Told → Bool
breaks r (Lock Heal area) told = is_held told
breaks r (Lock Work area) told = fails told && not (is_opening (next_part r area))
breaks r (Look g) told = fails told && not (is_opening r.part)
breaks r (Unlock domain area) told = is_gone told
breaks r request told = fails told

-- a request and its answer; a heal keeps the copies that may still be its source
abbrev pub left_by : ℕ → (ℕ → Kind → Bool) → Exact → ℕ → ℕ → Request → Told → Exact
left_by n keeps r t b request told =
    if r.law.heal
    then record (left_in_heal n r t b request told) { possible = λ s. r.possible s && may_heal n keeps r s b request; broken = r.broken || breaks r request told }
    else left_outside n r b request told

-- too few locks, or a verdict or looks that end the heal
abbrev pub stops_at : ℕ → (ℕ → Kind → Bool) → Exact → Step → Bool
stops_at n keeps r HealLocks = over n everywhere r.asked && not (is_most n r.law.healing)
stops_at n keeps r WorkLocks = is_opening r.part && over n r.law.healing r.asked && not (is_most n r.law.held)
stops_at n keeps r Looks = over n (looks_at r r.part) r.asked && not (any n (λ s. r.possible s && goes_on n keeps r s))
stops_at n keeps r _ = false

-- a heal that a step ends has only unlocks left
abbrev pub stopping : ℕ → (ℕ → Kind → Bool) → Exact → Exact
stopping n keeps r = record r { broken = r.broken || stops_at n keeps r r.step }
