-- A line of a worker: its task goes on, or has ended with its item.
use Rattle.std.proofs.Common.{◌≡◌, ◌∙◌, ℕ, zero, suc, ◌+◌, ◌≤◌, ◌==◌, Bool, true, false, List, [], ◌∷◌, Option, None, Some, if◌then◌else◌, refl, sym, ap, arith, subst, length, option_map, slice_get}
use Rattle.std.specs.Prelude.{is_some}
use Rattle.afr_base.specs.declared.ids.ActorId.{ActorId}
use Rattle.afr_base.specs.declared.ids.BrickId.{BrickId}
use Rattle.afr_base.specs.declared.ids.Gfid.{Gfid}
use Rattle.afr_base.specs.declared.ids.Kind.{Kind}
use Rattle.afr_base.specs.declared.ids.What.{What}
use Rattle.afr_base.specs.declared.ids.What.TheVariants.{Dir, File}
use Rattle.afr_base.proofs.TestLemmas.{same_number}
use Rattle.afr_heal.specs.Engine.{Ask as Asks, Begins, Ends as HealEnds, NextOfHeal}
use Rattle.afr_heal_machine.specs.Healing.{Healing, coming, line_of}
use Rattle.afr_heal_round.specs.List.Round.{RoundProgress, next_due}
use Rattle.afr_heal_round.specs.Rounding.{IsAnswered, IsAnsweredAt, Rounding, begun, healed, next_at}
use Rattle.afr_heal_round.specs.declared.stage.RoundStage.{RoundStage}
use Rattle.afr_heal_round.specs.declared.stage.RoundStage.TheVariants.{Asking, Healing as At, Over}
use Rattle.afr_healer.specs.Acting.{Stepped, SteppedBy}
use Rattle.afr_healer.specs.Keeping.{CarriesIts, CarriesRound, Crawls, Duty, IsHealer, IsListed, IsOnDuty, Rounds, StageStands, Task, list_of}
use Rattle.afr_healer.specs.Laws.{RoundKeeps}
use Rattle.afr_healer.specs.declared.healer.Healer.{Healer}
use Rattle.afr_law.proofs.Model.Tasks.{no_script}
use Rattle.afr_lines.specs.Work.{Work, ended, is_end, work}
use Rattle.afr_lines.specs.declared.line.Line.{Line}
use Rattle.afr_lines.specs.declared.line.Line.TheVariants.{Ask, Begin, End, Event, HealBegin, HealEnd}
use Rattle.afr_model.specs.Crawl.{AreOfItem, KeepsToItem, item_after, item_by, what_within}
use Rattle.afr_model.specs.Following.{KeepsToTask, ToCommand, ToCrawl, ToItem, ToRound}
use Rattle.afr_model.specs.Rounds.{due_in, heals_ended, heals_of, kind_within, plus_healed}
use Rattle.afr_plan.specs.declared.plan.Plan.{Plan}
use Rattle.afr_server.specs.Serving.{Serving}
use Rattle.afr_volume.specs.Keeping.{IsAtTask}

-- ---- a task whose heals have ended was of its item
within_is : (what : What) → what_within (kind_within what) ≡ what
within_is File = refl
within_is Dir = refl

-- what an item with this object has, and the item of a heal that comes after the attributes
abbrev item_of : Gfid → What → Option (Gfid × What)
item_of g what = Some (g, what)

abbrev item_by_heal : Gfid × Kind → Gfid × What
item_by_heal heal = (heal.0, what_within heal.1)

item_is : (item : Gfid × What) (n : ℕ) (g : Gfid) (kind : Kind) → slice_get (heals_of (item ∷ [])) n ≡ Some (g, kind) → 2 ≤ n + 1 → Some (g, what_within kind) ≡ Some item
item_is item zero g kind due most = absurd (omega (arith, most))
item_is item (suc zero) g kind due most = ap (option_map item_by_heal) (sym due) ∙ ap (item_of item.0) (within_is item.1)
item_is item (suc (suc n)) g kind due most = absurd (cc due)

after_line : (item : Gfid × What) (line : Line) (w : Work) → KeepsToItem item line w → (2 ≤ heals_ended w → item_by w ≡ Some item) → 2 ≤ plus_healed line (heals_ended w) → item_after line (item_by w) ≡ Some item
after_line item (HealEnd a g kind said) w k was most = item_is item (heals_ended w) g kind k most
after_line item line w k was most = was most

tried_by : (item : Gfid × What) (w : Work) → AreOfItem item w → 2 ≤ heals_ended w → item_by w ≡ Some item
tried_by item [] of most = absurd (omega (arith, most))
tried_by item (x ∷ w) of most = after_line item x.0 w of.0 (tried_by item w of.1) most

both_ended : (item : Gfid × What) (n : ℕ) → slice_get (heals_of (item ∷ [])) n ≡ None → 2 ≤ n
both_ended item zero e = absurd (cc e)
both_ended item (suc zero) e = absurd (cc e)
both_ended item (suc (suc n)) e = omega arith

end_ended : (item : Gfid × What) (line : Line) (w : Work) → is_end line ≡ true → KeepsToItem item line w → 2 ≤ heals_ended w
end_ended item (End a said) w e k = both_ended item (heals_ended w) k.0.done
end_ended item (Ask a b asked told took) w e k = absurd (cc e)
end_ended item (Begin a change) w e k = absurd (cc e)
end_ended item (HealBegin a g kind) w e k = absurd (cc e)
end_ended item (HealEnd a g kind said) w e k = absurd (cc e)
end_ended item (Event event) w e k = absurd (cc e)

-- ---- the item of a worker's task is the one of its list
only : (x y : Gfid × What) → ◌≡◌ {A = Option (List (Gfid × What))} (Some (x ∷ [])) (Some (y ∷ [])) → x ≡ y
only x y e = cc e

-- what its lines and the heal that is due have to do with that item
record IsOfList (item : Gfid × What) (duty : Duty) (p : Plan) (w : Work) : Type 0 where
  of : AreOfItem item w
  due : (heal : Gfid × Kind) → due_in (list_of duty p w) w ≡ Some heal → due_in (item ∷ []) w ≡ Some heal

of_list : (item : Gfid × What) (duty : Duty) (p : Plan) (a : ℕ) (log : List Line) (b : BrickId) (list : Option (List (Gfid × What))) → 18 ≤ a → IsOnDuty duty true p a log b → IsListed duty p (work a log) list → list ≡ Some (item ∷ []) → IsOfList item duty p (work a log)
of_list item Rounds p a log b list worker on listed is = absurd (cc on.0)
of_list item Crawls p a log b list worker on listed is = absurd (let who = on.1 in omega (arith, worker, who))
of_list item (Task other) p a log b list worker on listed is =
    let same : other ≡ item = only other item (sym listed ∙ is) in
    record { of = subst (λ (i : Gfid × What). AreOfItem i (work a log)) same on.3; due = λ heal due. subst (λ (i : Gfid × What). due_in (i ∷ []) (work a log) ≡ Some heal) same due }

-- ---- what a line makes of the task
pub data StepsTask (a : ℕ) (item : Gfid × What) (line : Line) (log : List Line) (y : Healer) : Type 0 where
  GoesOn : is_end line ≡ false → (m : Rounding) → y.round ≡ Some m → m.round.list ≡ Some (item ∷ []) → AreOfItem item (work a (line ∷ log)) → StepsTask a item line log y
  IsOver : is_end line ≡ true → y.round ≡ None → StepsTask a item line log y

more_list : (flag : Bool) (r : RoundProgress) → (if flag then record r { given = r.given + 1 } else r).list ≡ r.list
more_list true r = refl
more_list false r = refl

module _ (p : Plan) (a : ActorId) (log : List Line) (servers new : List Serving) (x y : Healer) (line : Line) (worker : 18 ≤ a.0) (few : length p.clients ≤ 16) (acting : IsHealer true p log a.0 servers x) (k : RoundKeeps true p a log line y servers new) (s : Stepped IsAnswered a (length log) x y servers new line)
    (t : IsAtTask a.0 log s.round) where
  carries : CarriesRound true p a.0 log x.visit.met x.visit.epochs servers s.round
  carries = subst (CarriesIts true p a.0 log x.visit.met x.visit.epochs servers) s.present acting.carries

  -- a heal that goes on is of the item that the list has
  after_of : (m : Rounding) → y.round ≡ Some m → (h : Healing) → m.stage ≡ At h → m.round.list ≡ Some (t.item ∷ []) → AreOfItem t.item (work a.0 (line ∷ log))
  after_of m is h at list =
      let c : CarriesRound true p a.0 (line ∷ log) y.visit.met y.visit.epochs new m = subst (CarriesIts true p a.0 (line ∷ log) y.visit.met y.visit.epochs new) is k.acting.carries in
      let stands : StageStands c.duty p a.0 (line ∷ log) y.visit.met y.visit.epochs new m.round (At h) = subst (λ (stage : RoundStage). StageStands c.duty p a.0 (line ∷ log) y.visit.met y.visit.epochs new m.round stage) at c.stage in
      (of_list t.item c.duty p a.0 (line ∷ log) m.round.brick m.round.list worker c.present stands.1 list).of

  by_coming : (h : Healing) → s.round.stage ≡ At h → due_in (t.item ∷ []) (work a.0 log) ≡ Some (h.gfid, h.kind) → (n : NextOfHeal) → SteppedBy IsAnswered a (length log) x y s.round servers new line (line_of h n) → StepsTask a.0 t.item line log y
  by_coming h at due (Asks b asked) c =
      let fed : IsAnsweredAt c.given.answer (length log) (At h) s.round c.after = subst (λ (stage : RoundStage). IsAnsweredAt c.given.answer (length log) stage s.round c.after) at c.fed in
      let now : y.round ≡ Some c.after = ap (λ (z : Healer). z.round) c.becomes in
      let list : c.after.round.list ≡ Some (t.item ∷ []) = ap (λ (m : Rounding). m.round.list) fed.2 ∙ t.list in
      GoesOn (ap is_end c.is_line) c.after now list (after_of c.after now fed.0 (ap (λ (m : Rounding). m.stage) fed.2) list)
  by_coming h at due Begins c = GoesOn (ap is_end c.is_line) (begun (length log) s.round) (ap (λ (z : Healer). z.round) c.becomes) t.list (rw (c.is_line, same_number a.0) (due, t.of))
  by_coming h at due HealEnds c =
      GoesOn (ap is_end c.is_line) (healed s.round) (ap (λ (z : Healer). z.round) c.becomes) (more_list (is_some (next_due s.round.round)) s.round.round ∙ t.list) (rw (c.is_line, same_number a.0) (due, t.of))

  by_stage : (stage : RoundStage) → s.round.stage ≡ stage → StageStands carries.duty p a.0 log x.visit.met x.visit.epochs servers s.round.round stage → SteppedBy IsAnswered a (length log) x y s.round servers new line (next_at s.round.round.brick stage) → StepsTask a.0 t.item line log y
  by_stage (Asking heals) at stands c = absurd (let none : None ≡ Some (t.item ∷ []) = sym stands.1 ∙ t.list in cc none)
  by_stage (At h) at stands c = by_coming h at ((of_list t.item carries.duty p a.0 log s.round.round.brick s.round.round.list worker carries.present stands.1 t.list).due (h.gfid, h.kind) stands.0.due) (coming h) c
  by_stage (Over refused) at stands c = IsOver (ap is_end c.is_line) (ap (λ (z : Healer). z.round) c.becomes)

  pub steps_task : StepsTask a.0 t.item line log y
  steps_task = by_stage s.round.stage refl carries.stage s.steps

  -- at its end both heals were of the item
  by_keeps : KeepsToTask true p a.0 line log → is_end line ≡ true → 2 ≤ heals_ended (work a.0 log)
  by_keeps (ToCommand c is keeps) e = absurd (no_script p a.0 (ended a.0 log) c few (omega (arith, worker)) is)
  by_keeps (ToRound plain healer b is keeps) e = absurd (cc plain)
  by_keeps (ToCrawl crawls first b is keeps) e = absurd (omega (arith, worker, first))
  by_keeps (ToItem crawls healer item given of) e = end_ended item line (work a.0 log) e of.0

  pub tried : is_end line ≡ true → item_by (work a.0 log) ≡ Some t.item
  tried e = tried_by t.item (work a.0 log) t.of (by_keeps k.keeps e)
