-- How a heal ends, by the answer that ends it.
use Rattle.std.specs.Prelude.{ℕ, ◌&&◌, not, Bool, [], ◌∷◌, Option, None, Some, if◌then◌else◌}
use Rattle.afr_base.specs.Bricks.{minus}
use Rattle.afr_base.specs.Majority.{is_majority}
use Rattle.afr_base.specs.declared.ids.Kind.{Kind}
use Rattle.afr_base.specs.declared.ids.Shape.{Shape}
use Rattle.afr_base.specs.Marks.{is_zero_marks}
use Rattle.afr_choice.specs.Looks.{view_at}
use Rattle.afr_choice.specs.Verdict.{copies_of, holders_of, is_holder}
use Rattle.afr_choice.specs.declared.looked.Looked.{Looked}
use Rattle.afr_discipline.specs.Stands.{heal_part_of}
use Rattle.afr_discipline.specs.declared.register.Register.{Register}
use Rattle.afr_heal.specs.Engine.{has_part}
use Rattle.afr_lines.specs.declared.answer.Told.{Told}
use Rattle.afr_lines.specs.declared.answer.Told.TheVariants.{Held}
use Rattle.afr_lines.specs.declared.reply.HealReply.{HealReply}
use Rattle.afr_lines.specs.declared.reply.HealReply.TheVariants as reply
use Rattle.afr_lines.specs.declared.request.Request.{Request}
use Rattle.afr_lines.specs.declared.request.Request.TheVariants.{Lock, Unlock, Look}
use Rattle.afr_model.specs.HealReplies.{is_clean}
use Rattle.afr_model.specs.Healing.{marks_in}
use Rattle.afr_model.specs.Moved.{accuser, or_brick, unlike}
use Rattle.afr_model_moves.specs.Note.{fails}
use Rattle.afr_model_moves.specs.Register.{HealPart, is_finish, is_opening}
use Rattle.afr_lines.specs.declared.lock.Domain.{Domain}
use Rattle.afr_lines.specs.declared.lock.Domain.TheVariants.{Heal}
use Rattle.afr_heal_machine.specs.declared.outcome.HealOutcome.{HealOutcome}
use Rattle.afr_heal_machine.specs.declared.outcome.HealOutcome.TheVariants.{Settled, Busy, Short, Nothing, Split, Moved, Failed}

-- the reply of a heal that ends so; a split carries what the first looks showed
abbrev pub reply_of : HealOutcome → Looked → HealReply
reply_of Settled seen = reply.Settled
reply_of (Busy owner) seen = reply.Busy owner
reply_of Short seen = reply.Short
reply_of Nothing seen = reply.Nothing
reply_of Split seen = reply.Split seen.views
reply_of (Moved brick) seen = reply.Moved brick
reply_of Failed seen = reply.Failed

-- the first looks don't let the heal go on: too few bricks answered or hold the object, nothing is to be healed, or no copy is good
abbrev pub by_looks : Shape → Kind → Looked → HealOutcome
by_looks shape kind seen =
    if not (is_majority shape.n seen.reached && is_majority shape.n (holders_of seen)) then Short
    else (if is_clean kind seen then Nothing else Split)

-- brick b was reached, has the object, and shows a number of the kind that is not 0
abbrev pub is_marked : Kind → Looked → ℕ → Bool
is_marked kind looked b = is_holder looked b && not (is_zero_marks (marks_in kind (view_at b looked)))

-- the lowest sink whose later view shows another length than that of the source, in the last part of a heal of bytes alone
abbrev pub unlike_in : Register → Kind → ℕ → Option ℕ
unlike_in p kind s = if is_finish (heal_part_of p.part) then unlike s (minus (copies_of p.shape p.seen kind) (s ∷ [])) p.looked else None

-- the lowest brick whose later view accuses the source, or at the finish the lowest sink of another length
abbrev pub mover : Shape → Kind → HealPart → ℕ → Looked → Looked → Option ℕ
mover shape kind part s seen looked = or_brick (accuser kind s looked) (if is_finish part then unlike s (minus (copies_of shape seen kind) (s ∷ [])) looked else None)

-- the source moved, if some brick shows it
abbrev pub by_mover : Option ℕ → HealOutcome
by_mover None = Failed
by_mover (Some x) = Moved (record { 0 = x })

-- a Heal lock that another actor has; else too few locks, or one that was lost in a later part
abbrev pub locks_cause : HealPart → Domain → Told → HealOutcome
locks_cause next Heal (Held owner) = Busy owner
locks_cause next domain told = if is_opening next then Short else Failed

-- the first looks end it as they say; a later one by a fault, or by the brick which shows that the source moved
abbrev pub looks_cause : Shape → Kind → HealPart → ℕ → Looked → Looked → Told → HealOutcome
looks_cause shape kind next s seen looked told = if is_opening next then by_looks shape kind seen else (if fails told then Failed else by_mover (mover shape kind next s seen looked))

-- what a request whose answer ends the heal ends it with: `part` and `next` are the heal's part before and after it, `seen` and `looked` the first and the last looks after it
abbrev pub cause : Shape → Kind → HealPart → HealPart → ℕ → Looked → Looked → Request → Told → HealOutcome
cause shape kind part next s seen looked (Lock domain area) told = locks_cause next domain told
cause shape kind part next s seen looked (Look g) told = looks_cause shape kind next s seen looked told
cause shape kind part next s seen looked (Unlock domain area) told = if has_part kind part then Failed else Settled
cause shape kind part next s seen looked request told = Failed

-- how the heal ends after an answer: the first that breaks it says so
abbrev pub outcome_after : Bool → Bool → HealOutcome → HealOutcome → HealOutcome
outcome_after was now before caused = if not was && now then caused else before

-- the same of the program's register: `p` before the answer, `q` after it
abbrev pub outcome_by : Register → Register → ℕ → Kind → Request → Told → HealOutcome → HealOutcome
outcome_by p q s kind request told o = outcome_after p.broken q.broken o (cause p.shape kind (heal_part_of p.part) (heal_part_of q.part) s q.seen q.looked request told)
