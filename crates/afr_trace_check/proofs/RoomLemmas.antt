-- The files of the bricks have room for each line of a trace that follows a plan whose files stay short.
use Rattle.std.proofs.Common.{inl, inr, ◌≡◌, ◌∙◌, ℕ, zero, suc, ◌+◌, ◌-◌, ◌≤◌, ◌==◌, ◌||◌, nat_lt, Bool, true, false, List, [], ◌∷◌, Option, Some, None, length, get_or, slice_get, refl, sym, ap, subst, arith, IfSome, if◌then◌else◌}
use Rattle.std.specs.List.{list_any}
use Rattle.std.specs.Prelude.{option_and_then, option_map}
use Rattle.std.proofs.lemmas.Bool.Decides.{nat_tests}
use Rattle.std.proofs.lemmas.Option.{same_Some}
use Rattle.std.proofs.lemmas.Bool.{or_parts}
use Rattle.afr_base.specs.declared.ids.ActorId.{ActorId}
use Rattle.afr_base.specs.declared.ids.BrickId.{BrickId}
use Rattle.afr_base.specs.declared.ids.Gfid.{Gfid}
use Rattle.afr_base.specs.declared.ids.NameId.{NameId}
use Rattle.afr_base.specs.declared.ids.What.{What}
use Rattle.afr_lines.specs.Log.{change_at, change_of, from_oldest}
use Rattle.afr_lines.specs.Work.{Work, work}
use Rattle.afr_lines.specs.declared.line.Line.{Line}
use Rattle.afr_lines.specs.declared.line.Line.TheVariants as line
use Rattle.afr_lines.specs.declared.request.Request.{Request}
use Rattle.afr_lines.specs.declared.request.Request.TheVariants as request
use Rattle.afr_model.specs.Commands.{change_named, last_of}
use Rattle.afr_model.specs.Actors.{script_of}
use Rattle.afr_model.specs.Tables.{bytes_shown}
use Rattle.afr_object.specs.State.{CanApply}
use Rattle.afr_object.specs.Tables.{Table, copy_at}
use Rattle.afr_object.specs.Object.{Object}
use Rattle.afr_object.specs.declared.change.Change.{Change}
use Rattle.afr_object.specs.declared.change.Change.TheVariants as change
use Rattle.afr_object.specs.declared.change.Repair.TheVariants as repair
use Rattle.afr_object.specs.declared.entry.Entry.{Entry}
use Rattle.afr_plan.specs.declared.command.Command.{Command}
use Rattle.afr_plan.specs.declared.command.Command.TheVariants as command
use Rattle.afr_plan.specs.declared.plan.Plan.{Plan}
use Rattle.afr_trace_follow.specs.Asked.{attempts, dir_of, entry_of}
use Rattle.afr_trace_follow.specs.Marked.{list_of}
use Rattle.afr_trace_follow.specs.Planned.{CarriesOut, FollowsPlan, IsOfTask, IsPlanned, OfCommand, OfRound}
use Rattle.afr_trace_follow.specs.Renaming.{change_due, link_to, unlink_from}
use Rattle.afr_trace_follow.specs.Turns.{KeepsToList}
use Rattle.afr_trace_check.proofs.PieceLemmas.{LineFits, PieceFits}
use Rattle.afr_trace_tables.specs.Plain.{plain_tables}
use Rattle.afr_trace_tally.specs.Limits.{has_long, is_long, is_past_limit}
use Rattle.afr_trace_tally.specs.Room.{CanAsk, HasRoom}
use Rattle.afr_trace_tally.proofs.TableLemmas.{bytes_past}

-- ---- commands
no_long_client : (clients : List (List Command)) (k : ℕ) → list_any has_long clients ≡ false → has_long (get_or clients k []) ≡ false
no_long_client [] k h = refl
no_long_client (x ∷ xs) zero h = (or_parts (has_long x) (list_any has_long xs) h).0
no_long_client (x ∷ xs) (suc k) h = no_long_client xs k (or_parts (has_long x) (list_any has_long xs) h).1

no_long_command : (commands : List Command) (n : ℕ) (c : Command) → has_long commands ≡ false → slice_get commands n ≡ Some c → is_long c ≡ false
no_long_command [] n c h e = absurd (cc e)
no_long_command (x ∷ xs) zero c h e = ap is_long (sym (same_Some x c e)) ∙ (or_parts (is_long x) (has_long xs) h).0
no_long_command (x ∷ xs) (suc n) c h e = no_long_command xs n c (or_parts (is_long x) (has_long xs) h).1 e

-- each command of a plan that is short is
command_short : (p : Plan) (a n : ℕ) (c : Command) → is_past_limit p ≡ false → slice_get (script_of p a) n ≡ Some c → is_long c ≡ false
command_short p a n c h e = no_long_command (script_of p a) n c (no_long_client p.clients (a - 1) h) e

-- ---- attempts
-- a write ends within 1,024 bytes
abbrev pub IsShortChange : Change → Type 0
IsShortChange (change.Write g at bytes) = at + length bytes ≤ 1024
IsShortChange other = Unit {0}

not_past : (n : ℕ) → nat_lt 1024 n ≡ false → n ≤ 1024
not_past n h = grind (arith, nat_tests, h)

by_name : (o : Option NameId) (f : NameId → Change) (x : Change) → ((name : NameId) → IsShortChange (f name)) → option_map f o ≡ Some x → IsShortChange x
by_name None f x short e = absurd (cc e)
by_name (Some name) f x short e = subst IsShortChange (same_Some (f name) x e) (short name)

-- what a short command names is short
named_short : (g : Gfid) (at : ℕ) (c : Command) (x : Change) → is_long c ≡ false → change_named g at c ≡ Some x → IsShortChange x
named_short g at (command.Write path off bytes) x h e = subst IsShortChange (same_Some (change.Write g off bytes) x e) (not_past (off + length bytes) h)
named_short g at (command.Cut path len) x h e = subst IsShortChange (same_Some (change.Cut g len) x e) tt
named_short g at (command.SetAttr path key value) x h e = subst IsShortChange (same_Some (change.SetAttr g key value) x e) tt
named_short g at (command.Create path) x h e = by_name (last_of path) _ x (λ name. tt) e
named_short g at (command.Mkdir path) x h e = by_name (last_of path) _ x (λ name. tt) e
named_short g at (command.Unlink path) x h e = by_name (last_of path) _ x (λ name. tt) e
named_short g at (command.Rmdir path) x h e = by_name (last_of path) _ x (λ name. tt) e
named_short g at c x h e = absurd (cc e)

-- what a rename begins has no bytes
link_short : (found : Option Entry) (dir : Option Gfid) (to : List NameId) (x : Change) → link_to found dir to ≡ Some x → IsShortChange x
link_short None dir to x e = absurd (cc e)
link_short (Some found) None to x e = absurd (cc e)
link_short (Some found) (Some dir) to x e = by_name (last_of to) _ x (λ name. tt) e

unlink_short : (dir : Option Gfid) (from : List NameId) (x : Change) → unlink_from dir from ≡ Some x → IsShortChange x
unlink_short None from x e = absurd (cc e)
unlink_short (Some dir) from x e = by_name (last_of from) _ x (λ name. tt) e

rename_begins : (p : Plan) (from to : List NameId) (x : Change) (w : Work) → change_due p from to w ≡ Some x → IsShortChange x
rename_begins p from to x w e = by (attempts w == 0) (attempts w == 1) e
  where
    by : (none one : Bool) → (if none then link_to (entry_of p (length from) w) (dir_of (length from + length to) w) to else (if one then unlink_from (dir_of (length from) w) from else None)) ≡ Some x → IsShortChange x
    by true one h = link_short (entry_of p (length from) w) (dir_of (length from + length to) w) to x h
    by false true h = unlink_short (dir_of (length from) w) from x h
    by false false h = absurd (cc h)

command_begins : (p : Plan) (c : Command) (a : ActorId) (x : Change) (at : ℕ) (w : Work) → is_long c ≡ false → CarriesOut p c (line.Begin a x) at w → IsShortChange x
command_begins p (command.Rename from to) a x at w h k = rename_begins p from to x w k
command_begins p c a x at w h k = named_short k.0.1.object.gfid at c x h k.0.1.named

-- a round begins no attempt
round_begins : (b : BrickId) (list : List (Gfid × What)) (a : ActorId) (x : Change) (w : Work) → KeepsToList b list (line.Begin a x) w → ⊥
round_begins b list a x [] k = k
round_begins b list a x (y ∷ w) k = k

task_begins : (p : Plan) (a : ActorId) (x : Change) (older : List Line) → is_past_limit p ≡ false → IsOfTask p a.0 (line.Begin a x) older → IsShortChange x
task_begins p a x older short (OfCommand c e (inl h)) = absurd (cc h)
task_begins p a x older short (OfCommand c e (inr k)) = command_begins p c a x (length older) (work a.0 older) (command_short p a.0 _ c short e) k
task_begins p a x older short (OfRound low b e k) = absurd (round_begins b (list_of p (work a.0 older)) a x (work a.0 older) k)

line_begins : (p : Plan) (l : Line) (x : Change) (older : List Line) → is_past_limit p ≡ false → IsPlanned p l older → change_of l ≡ Some x → IsShortChange x
line_begins p (line.Begin a y) x older short follows e = subst IsShortChange (same_Some y x e) (task_begins p a y older short follows.1.0.task)
line_begins p l x older short follows e = absurd (cc e)

-- each attempt of a log that follows its plan is short
pub attempt_short : (p : Plan) (log : List Line) (k : ℕ) (x : Change) → is_past_limit p ≡ false → FollowsPlan p log → change_at k log ≡ Some x → IsShortChange x
attempt_short p [] k x short follows e = absurd (cc e)
attempt_short p (l ∷ older) k x short follows e = by (k == length older) e (attempt_short p older k x short follows.1)
  where
    by : (f : Bool) → option_and_then change_of (if f then Some l else from_oldest k older) ≡ Some x → (change_at k older ≡ Some x → IsShortChange x) → IsShortChange x
    by true h more = line_begins p l x older short follows.0 h
    by false h more = more h

-- so the files have room for it
pub can_apply : (x : Change) (t : Table) → IsShortChange x → CanApply x t
can_apply (change.Write g at bytes) t h = by (copy_at g t)
  where
    by : (o : Option Object) → IfSome o (λ _. at + length bytes ≤ 1048576)
    by None = tt
    by (Some o) = omega (arith, h)
can_apply other t h = tt

-- ---- lines
module _ (p : Plan) (older : List Line) (t : Table) where
  asks_room : (r : Request) → is_past_limit p ≡ false → FollowsPlan p older → PieceFits p older r → CanAsk r older (plain_tables p older).past t
  asks_room (request.Apply attempt) short follows fits = by (change_at attempt older) refl
    where
      by : (o : Option Change) → change_at attempt older ≡ o → IfSome o (λ x. CanApply x t)
      by None e = tt
      by (Some x) e = can_apply x t (attempt_short p older attempt x short follows e)
  asks_room (request.Mend (repair.Copy g at span read)) short follows fits = by (copy_at g t)
    where
      few : length (bytes_shown (plain_tables p older).past read (from_oldest read older)) ≤ span
      few = omega (arith, fits.1, ap (λ (bytes : List ℕ). length bytes) (bytes_past p older read))

      by : (o : Option Object) → IfSome o (λ _. (at + span ≤ 1048576) × (length (bytes_shown (plain_tables p older).past read (from_oldest read older)) ≤ span))
      by None = tt
      by (Some o) = (fits.0, few)
  asks_room r short follows fits = tt

-- the files of every brick have room for a line whose piece fits, of a log that follows a short plan
pub has_room : (p : Plan) (l : Line) (older : List Line) → is_past_limit p ≡ false → FollowsPlan p older → LineFits p older l → HasRoom p l older
has_room p (line.Ask a y r told took) older short follows fits b = λ here. asks_room p older ((plain_tables p older).now b) r short follows fits
has_room p l older short follows fits b = tt
