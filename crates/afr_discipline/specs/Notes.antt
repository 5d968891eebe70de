-- What a move and its answer leave in the program's register.
use Rattle.std.specs.Prelude.{◌≡◌, ℕ, ◌+◌, ◌<◌, ◌==◌, ◌||◌, ◌&&◌, not, nat_lt, Bool, true, false, if◌then◌else◌, List, [], ◌∷◌, Option, None, Some, slice_set}
use Rattle.afr_base.specs.Bricks.{added, added_if, member, removed}
use Rattle.afr_base.specs.Five.{picked}
use Rattle.afr_base.specs.declared.ids.Kind.{Kind}
use Rattle.afr_base.specs.declared.ids.Kind.TheVariants.{Bytes}
use Rattle.afr_choice.specs.Looks.{no_looks, with_look, without_look}
use Rattle.afr_choice.specs.declared.looked.Looked.{Looked}
use Rattle.afr_lines.specs.declared.lock.Domain.TheVariants.{Work, Heal}
use Rattle.afr_lines.specs.declared.answer.Told.{Told}
use Rattle.afr_lines.specs.declared.request.Area.{Area}
use Rattle.afr_lines.specs.declared.request.Request.{Request}
use Rattle.afr_lines.specs.declared.request.Request.TheVariants.{Lock, Unlock, Look, ReadBytes, List as ListNames, ReadAttrs, Pre, Apply, Post, Mend, Settle}
use Rattle.afr_lines.specs.Overlap.{same_area}
use Rattle.afr_model_moves.specs.Past.{is_gone}
use Rattle.afr_model_moves.specs.Sets.{any}
use Rattle.afr_model_moves.specs.Rules.{area_object, busy, heal_area, is_area}
use Rattle.afr_model_moves.specs.Note.{answers, fails, given, is_done, is_failed, is_given, is_granted, is_held, stops_at, view_of}
use Rattle.afr_model_moves.specs.Register as exact
use Rattle.afr_model_moves.specs.Register.{is_on, is_opening, is_piece, rank, same_step, span, whole_area}
use Rattle.afr_discipline.specs.declared.register.Move.{Move}
use Rattle.afr_discipline.specs.declared.register.Move.TheVariants as move
use Rattle.afr_discipline.specs.declared.register.Register.{Register}
use Rattle.afr_discipline.specs.declared.register.Step.{Step}
use Rattle.afr_discipline.specs.declared.register.Step.TheVariants.{Open, Pres, Applies, Posts, HealLocks, WorkLocks, Looks, Reads, HealPres, Mends, Settles, Unlocks, HealUnlocks}
use Rattle.afr_discipline.specs.declared.register.HealPart.{HealPart}
use Rattle.afr_discipline.specs.declared.register.HealPart.TheVariants.{Piece, Finish}
use Rattle.afr_discipline.specs.Inside.{allows}
use Rattle.afr_model_moves.specs.Keeps.{keeps_in}
use Rattle.afr_discipline.specs.Stands.{heal_part_of, no_lines, seen_as, step_of}

-- the actor holds a Work lock
abbrev pub is_working : Register → Bool
is_working p = busy p.shape.n (seen_as p).law

-- there was no Begin or HealBegin
abbrev pub is_first : Register → Bool
is_first p = (seen_as p).law.number == 0

-- ---- what the law's register keeps
-- a new transaction, or a new part of a heal
abbrev pub anew : Register → Area → Register
anew p area = record p { begun = None; area = Some area; held = []; second = None; second_held = []; pre = []; done = []; post = [] }

-- the other area that was named
abbrev pub second_in : Register → Area → Option Area
second_in p area = if is_area p.area area then p.second else Some area

-- a Work lock was asked for
abbrev pub named : Register → Area → Register
named p area = if is_working p then record p { second = second_in p area } else anew p area

-- the area is held at brick b
abbrev pub with_held : Register → ℕ → Register
with_held p b = record p { held = added b p.held }

-- a Work lock was granted
abbrev pub taken : Register → Area → ℕ → Register
taken p area b = if is_working p && not (is_area p.area area) then record p { second = Some area; second_held = added b p.second_held } else with_held (named p area) b

-- a Work lock
abbrev pub locked : Register → Area → ℕ → Told → Register
locked p area b told = if is_granted told then taken p area b else named p area

-- a Heal lock
abbrev pub heal_locked : Register → Area → ℕ → Told → Register
heal_locked p area b told = record p { inside = true; object = record { 0 = area_object area }; healing = added_if (is_granted told) b p.healing }

-- the second area was given back at brick b
abbrev pub second_left : Register → Area → ℕ → List ℕ
second_left p area b = if is_area p.second area then removed b p.second_held else p.second_held

-- an area was given back
abbrev pub released : Register → Area → ℕ → Register
released p area b = if is_area p.area area then record p { held = removed b p.held } else record p { second_held = second_left p area b }

-- where the Heal lock is still held once an area of its domain was given back at brick b
abbrev pub heal_left : Register → Area → ℕ → List ℕ
heal_left p area b = if same_area (heal_area p.object.0) area then removed b p.healing else p.healing

-- what the law's register keeps of a request and its answer
abbrev pub noted_law : Register → ℕ → Request → Told → Register
noted_law p b (Lock Work area) told = locked p area b told
noted_law p b (Lock Heal area) told = heal_locked p area b told
noted_law p b (Unlock Work area) told = if is_done told then released p area b else p
noted_law p b (Unlock Heal area) told = if is_done told then record p { healing = heal_left p area b } else p
noted_law p b (Pre g kind) told = record p { pre = added_if (is_done told) b p.pre }
noted_law p b (Apply q) told = record p { done = added_if (is_done told) b p.done }
noted_law p b (Post q g kind missed) told = record p { post = added_if (is_done told) b p.post }
noted_law p b (Settle g kind less) told = record p { settled = added_if (is_done told) b p.settled }
noted_law p b _ told = p

-- a session that has ended took its locks along
abbrev pub dropped : Bool → ℕ → Register → Register
dropped gone b p = if gone then record p { held = removed b p.held; second_held = removed b p.second_held; healing = removed b p.healing } else p

-- ---- what the steps keep
-- the bricks that were asked, if this is the present step
abbrev pub asked_at : Register → Step → List ℕ
asked_at p step = if same_step (step_of p.step) (step_of step) then p.asked else []

-- the brick was asked in this step; it is asked again where the answer leaves it so
abbrev pub entered : Register → Step → ℕ → Bool → Register
entered p step b again = record p { step = step; asked = added_if (not again) b (asked_at p step) }

-- a line that enters no step
abbrev pub stayed : Register → Register
stayed p = record p { step = if same_step (step_of p.step) exact.Untouched then Open else p.step }

-- a look
abbrev pub shown : Looked → ℕ → Told → Looked
shown looked b told = if answers told then with_look b (view_of told) looked else without_look b looked

-- a look, where it counts
abbrev pub shown_if : Bool → Looked → ℕ → Told → Looked
shown_if counts looked b told = if counts then shown looked b told else looked

-- a Work lock outside a heal
abbrev pub locked_outside : Register → Register
locked_outside p = if is_working p then stayed p else record p { step = Open; asked = []; unlocked = false; looked = no_looks }

-- a look counts before the Begin, under the lock
abbrev pub counts : Register → ℕ → ℕ → Bool
counts p b g = is_first p && member p.held b && is_on p.area g

-- outside a heal
abbrev pub noted_outside : Register → ℕ → Request → Told → Register
noted_outside p b (Lock Work area) told = locked_outside p
noted_outside p b (Lock Heal area) told = record (entered p HealLocks b false) { broken = p.broken || is_held told }
noted_outside p b (Unlock Work area) told = record (stayed p) { unlocked = is_area p.area area || p.unlocked }
noted_outside p b (Look g) told = record (stayed p) { looked = shown_if (counts p b g.0) p.looked b told }
noted_outside p b (Pre g kind) told = entered p Pres b false
noted_outside p b (Apply q) told = entered p Applies b false
noted_outside p b (Post q g kind missed) told = entered p Posts b false
noted_outside p b request told = stayed p

-- the first Work lock after the unlocks begins a piece, or the finish where it is of all bytes
abbrev pub part_after : Register → Area → HealPart
part_after p area = if same_step (step_of p.step) exact.Unlocks then (if same_area (whole_area p.object.0 Bytes) area then Finish else Piece) else p.part

-- a look of a heal
abbrev pub looked_inside : Register → ℕ → Told → Register
looked_inside p b told = record (entered p Looks b (not (answers told || fails told))) { looked = shown p.looked b told; seen = shown_if (is_opening (heal_part_of p.part)) p.seen b told }

-- a read of a heal
abbrev pub read_inside : Register → ℕ → ℕ → Told → Register
read_inside p t b told = record (entered p Reads b (not (is_given told || fails told))) { reads = slice_set p.reads b (given told t) }

-- the bytes that are done after an unlock: the first one ends a piece
abbrev pub upto_after : Register → ℕ
upto_after p = if is_piece (heal_part_of p.part) && nat_lt (rank (step_of p.step)) (rank exact.Unlocks) then p.upto + span else p.upto

-- a change of the numbers or of the contents is asked again unless it was carried out or failed
abbrev pub leaves_open : Told → Bool
leaves_open told = not (is_done told || fails told)

-- in a heal
abbrev pub noted_inside : Register → ℕ → ℕ → Request → Told → Register
noted_inside p t b (Lock Heal area) told = entered p HealLocks b false
noted_inside p t b (Lock Work area) told = record (entered p WorkLocks b (not (is_granted told || fails told))) { part = part_after p area }
noted_inside p t b (Unlock Work area) told = record (entered p Unlocks b (is_failed told)) { upto = upto_after p }
noted_inside p t b (Unlock Heal area) told = entered p HealUnlocks b (is_failed told)
noted_inside p t b (Look g) told = looked_inside p b told
noted_inside p t b (ReadBytes g at len) told = read_inside p t b told
noted_inside p t b (ReadAttrs g) told = read_inside p t b told
noted_inside p t b (ListNames g) told = read_inside p t b told
noted_inside p t b (Pre g kind) told = entered p HealPres b (leaves_open told)
noted_inside p t b (Mend repair) told = entered p Mends b (leaves_open told)
noted_inside p t b (Settle g kind less) told = entered p Settles b (leaves_open told)
noted_inside p t b request told = p

-- the answer ends the heal
abbrev pub broken_by : Register → Request → Told → Bool
broken_by p (Lock Heal area) told = is_held told
broken_by p (Lock Work area) told = fails told && not (is_opening (heal_part_of (part_after p area)))
broken_by p (Look g) told = fails told && not (is_opening (heal_part_of p.part))
broken_by p (Unlock domain area) told = is_gone told
broken_by p request told = fails told

-- the copies that may still be the source
abbrev pub still_possible : Register → ℕ → Request → List ℕ
still_possible p b request = (let test = allows p.shape.n (keeps_in p.shape) (seen_as p) b request in picked (test 0) (test 1) (test 2) (test 3) (test 4))

-- what the steps keep of a request and its answer
abbrev pub noted_steps : Register → ℕ → ℕ → Request → Told → Register
noted_steps p t b request told = if p.inside then record (noted_inside p t b request told) { possible = still_possible p b request; broken = p.broken || broken_by p request told } else noted_outside p b request told

-- ---- both
-- the steps of the one and what the law's register keeps of the other
abbrev pub joined : Register → Register → Register
joined p l = record p { begun = l.begun; area = l.area; held = l.held; second = l.second; second_held = l.second_held; pre = l.pre; done = l.done; post = l.post; inside = l.inside; object = l.object; kind = l.kind; healing = l.healing; settled = l.settled }

-- a heal that a step ends has only unlocks left
abbrev pub stopped : Register → Register
stopped p = record p { broken = p.broken || stops_at p.shape.n (keeps_in p.shape) (seen_as p) (step_of p.step) }

-- a request and its answer
abbrev pub noted_ask : Register → ℕ → ℕ → Request → Told → Register
noted_ask p t b request told = stopped (joined (noted_steps p t b request told) (dropped (is_gone told) b (noted_law p b request told)))

-- a Begin
abbrev pub noted_begin : Register → ℕ → Register
noted_begin p t = record p { step = Open; begun = Some t }

-- a HealBegin
abbrev pub noted_part : Register → ℕ → Kind → Register
noted_part p t kind = record p { begun = Some t; kind = kind; step = Looks; asked = []; looked = no_looks; reads = None ∷ None ∷ None ∷ None ∷ None ∷ [] }

-- a move and its answer
abbrev pub noted : Register → Move → Told → ℕ → Register
noted p (move.Ask b request) told t = noted_ask p t b.0 request.now told
noted p (move.Begin change) told t = noted_begin p t
noted p (move.HealBegin g kind) told t = noted_part p t kind
noted p (move.End ok) told t = if p.inside then no_lines p.shape else p

-- the bytes that are done after a request: the first unlock of a piece adds the length of a piece
abbrev pub upto_asked : Register → Request → ℕ
upto_asked p (Unlock Work area) = if p.inside then upto_after p else p.upto
upto_asked p request = p.upto

-- and after a move: the end of a heal leaves none
abbrev pub upto_noted : Register → Move → ℕ
upto_noted p (move.Ask b request) = upto_asked p request.now
upto_noted p (move.End ok) = if p.inside then 0 else p.upto
upto_noted p step = p.upto

-- a request goes to one of the five bricks
abbrev pub AsksBelow : Move → Type 0
AsksBelow (move.Ask b request) = b.0 < 5
AsksBelow _ = Unit {0}

-- some source allows the request, in a heal that goes on
abbrev pub IsAllowed : Register → ℕ → Request → Type 0
IsAllowed p b request = p.inside ≡ true → p.broken ≡ false → any p.shape.n (allows p.shape.n (keeps_in p.shape) (seen_as p) b request) ≡ true

-- the copies that may be the source, brick by brick
abbrev pub possible_now : Register → List ℕ
possible_now p = picked (member p.possible 0) (member p.possible 1) (member p.possible 2) (member p.possible 3) (member p.possible 4)
