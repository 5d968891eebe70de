-- A round goes on: once its list has come, or a heal has ended, the next heal begins or the round is over.
use Rattle.std.proofs.Common.{◌≡◌, ◌∙◌, ℕ, ◌+◌, ◌<◌, ◌≤◌, Bool, true, false, List, [], ◌∷◌, Option, None, Some, is_some, if◌then◌else◌, refl, sym, ap, subst, slice_get, inl}
use Rattle.afr_base.specs.declared.ids.BrickId.{BrickId}
use Rattle.afr_base.specs.declared.ids.Gfid.{Gfid}
use Rattle.afr_base.specs.declared.ids.Kind.{Kind}
use Rattle.afr_base.specs.declared.ids.What.{What}
use Rattle.afr_heal_round.specs.List.Round.{RoundProgress, heals_in, next_due}
use Rattle.afr_discipline.specs.Stands.{no_lines}
use Rattle.afr_heal_round.specs.Rounding.{IsStaged, going_on, stage_due}
use Rattle.afr_lines.specs.Places.{Between, Fresh, Indexed, Place, Within, place_of}
use Rattle.afr_lines.specs.Work.{Work, work}
use Rattle.afr_lines.specs.declared.line.Line.{Line}
use Rattle.afr_model.specs.HealReplies.{refuses_index}
use Rattle.afr_model.specs.Healing.{heal_by}
use Rattle.afr_model.specs.Rounds.{due_in, heals_ended, heals_of}
use Rattle.afr_model.specs.Showing.{has}
use Rattle.afr_plan.specs.declared.plan.Plan.{Plan}
use Rattle.afr_healer.proofs.Duties.{begun_more, heals_list}
use Rattle.afr_healer.specs.Keeping.{CarriesRound, Crawls, Duty, HasBegun, Task, IsAfterHeals, IsBetweenHeals, IsListed, IsOnDuty, IsRoundOver, Rounds, RunsHeal, StageStands, list_of}
use Rattle.afr_healer.proofs.Gathered.{RoundLaws}
use Rattle.afr_heal_machine.specs.Healing.{heal_from}
use Rattle.afr_server.specs.Serving.{Serving}
use Rattle.afr_servers.specs.declared.epochs.Epochs.{Epochs}
use Rattle.afr_law_next.specs.Turn.{Stood}

-- the last line gave the list or ended a heal: no line of a next heal was written
pub record IsAtBorder (crawl : Bool) (duty : Duty) (p : Plan) (a : ℕ) (log : List Line) (brick : BrickId) (r : RoundProgress) : Type 0 where
  pub brick_is : r.brick ≡ brick
  pub present : IsOnDuty duty crawl p a log brick
  pub within : brick.0 < p.shape.n
  pub first : Line × List Line
  pub older : Work
  pub begun : work a log ≡ first ∷ older
  pub place : IsAfterHeals (place_of a log)
  pub stood : Stood p.shape a log (no_lines p.shape)
  pub no_heal : heal_by (work a log) ≡ []
  pub listed : IsListed duty p (work a log) r.list
  pub given : r.given ≡ heals_ended (work a log)
  pub unrefused : has refuses_index (work a log) ≡ false

-- ---- one more heal was given
abbrev more : Bool → RoundProgress → RoundProgress
more flag r = if flag then record r { given = r.given + 1 } else r

more_brick : (flag : Bool) (r : RoundProgress) → (more flag r).brick ≡ r.brick
more_brick true r = refl
more_brick false r = refl

more_list : (flag : Bool) (r : RoundProgress) → (more flag r).list ≡ r.list
more_list true r = refl
more_list false r = refl

more_given : (flag : Bool) (r : RoundProgress) → flag ≡ true → (more flag r).given ≡ r.given + 1
more_given true r e = refl
more_given false r e = absurd (cc e)

-- ---- the heal that is due is the next of the list
heals_are : (duty : Duty) (p : Plan) (w : Work) (list : Option (List (Gfid × What))) → IsListed duty p w list → heals_of (list_of duty p w) ≡ heals_in list
heals_are Rounds p w None k = ap heals_of k
heals_are Rounds p w (Some list) k = ap heals_of k
heals_are Crawls p w list k = absurd k
heals_are (Task item) p w list k = ap heals_in (sym k)

due_is : (duty : Duty) (p : Plan) (w : Work) (r : RoundProgress) → IsListed duty p w r.list → r.given ≡ heals_ended w → due_in (list_of duty p w) w ≡ next_due r
due_is duty p w r listed given = ap (λ (heals : List (Gfid × Kind)). slice_get heals (heals_ended w)) (heals_are duty p w r.list listed) ∙ ap (slice_get (heals_in r.list)) (sym given)

-- ---- where no line of a next heal was written it may begin
before_heals : (place : Place) → IsAfterHeals place → IsBetweenHeals place
before_heals Indexed k = tt
before_heals Between k = tt
before_heals Fresh k = absurd k
before_heals Within k = absurd k

module _ (laws : RoundLaws) (crawl : Bool) (duty : Duty) (p : Plan) (a : ℕ) (log : List Line) (epochs : Epochs) (servers : List Serving) (few : p.shape.n ≤ 5) (some : 0 < p.shape.n) (brick : BrickId) (r : RoundProgress) (border : IsAtBorder crawl duty p a log brick r) where
  begins : (g : Gfid) (kind : Kind) → due_in (list_of duty p (work a log)) (work a log) ≡ Some (g, kind) → RunsHeal duty p a log false epochs servers (heal_from p.shape g kind)
  begins g kind due = record {
    sound = laws.heal.begins p.shape g kind some few;
    shape = refl;
    noted = (before_heals (place_of a log) border.place, refl, border.no_heal);
    sessions = tt;
    due = due;
    on = λ area is. absurd (cc is);
    tells = rw border.no_heal (laws.telling.begins p.shape 0 g kind some few);
    holds = laws.hearing.none p log p.shape g kind;
    unrefused = border.unrefused;
  }

  over : due_in (list_of duty p (work a log)) (work a log) ≡ None → IsRoundOver duty p a log false false
  over due = record { unmet = refl; place = border.place; register = no_lines p.shape; free = inl refl; stood = border.stood; none_left = due; said = border.unrefused }

  staged : (due : Option (Gfid × Kind)) → IsStaged p.shape (stage_due p.shape due)
  staged None = tt
  staged (Some due) = (laws.heal.begins p.shape due.0 due.1 some few, refl)

  has_begun : (due : Option (Gfid × Kind)) → HasBegun duty (stage_due p.shape due) (work a log)
  has_begun due = rw border.begun (begun_more duty (stage_due p.shape due) border.first border.older)

  stage : (due : Option (Gfid × Kind)) → next_due r ≡ due → StageStands duty p a log false epochs servers (more (is_some (next_due r)) r) (stage_due p.shape due)
  stage None e = (over (due_is duty p (work a log) r border.listed border.given ∙ e), heals_list duty p (work a log) (more (is_some (next_due r)) r).list (subst (IsListed duty p (work a log)) (sym (more_list (is_some (next_due r)) r)) border.listed))
  stage (Some due) e = (
    begins due.0 due.1 (due_is duty p (work a log) r border.listed border.given ∙ e),
    subst (IsListed duty p (work a log)) (sym (more_list (is_some (next_due r)) r)) border.listed,
    more_given (is_some (next_due r)) r (ap is_some e) ∙ ap (λ (n : ℕ). n + 1) border.given,
  )

  -- the round stands at its next heal, or it is over
  pub goes_on : CarriesRound crawl p a log false epochs servers (going_on p.shape r)
  goes_on = record {
    duty = duty;
    present = subst (IsOnDuty duty crawl p a log) (sym (more_brick (is_some (next_due r)) r ∙ border.brick_is)) border.present;
    shape = refl;
    sound = record { few = few; within = rw (more_brick (is_some (next_due r)) r ∙ border.brick_is) border.within; staged = staged (next_due r) };
    begun = has_begun (next_due r);
    stage = stage (next_due r) refl;
  }
