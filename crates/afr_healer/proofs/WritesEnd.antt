-- The End line of a round: it is lawful and the plan's, and its reply has its cause.
use Rattle.std.proofs.Common.{◌≡◌, ◌∙◌, ℕ, ◌+◌, Bool, true, false, List, ◌∷◌, None, refl, sym, ap, subst, inl, inr}
use Rattle.afr_base.specs.declared.ids.ActorId.{ActorId}
use Rattle.afr_base.specs.declared.ids.Gfid.{Gfid}
use Rattle.afr_base.specs.declared.ids.Shape.{Shape}
use Rattle.afr_base.specs.declared.ids.What.{What}
use Rattle.afr_base.proofs.TestLemmas.{same_number}
use Rattle.afr_discipline.specs.Stands.{HasFive}
use Rattle.afr_discipline.specs.declared.register.Register.{Register}
use Rattle.afr_heal_round.specs.Rounding.{Rounding, reply_of}
use Rattle.afr_heal_round.specs.declared.stage.RoundStage.{RoundStage}
use Rattle.afr_heal_round.specs.declared.stage.RoundStage.TheVariants.{Over}
use Rattle.afr_lines.specs.Places.{Between, Fresh, Indexed, Place, Within, opens, place_of}
use Rattle.afr_lines.specs.Work.{Work, work}
use Rattle.afr_lines.specs.declared.line.Line.{Line}
use Rattle.afr_lines.specs.declared.line.Line.TheVariants.{End}
use Rattle.afr_lines.specs.declared.reply.Good.TheVariants.{Done}
use Rattle.afr_lines.specs.declared.reply.Reply.{Reply}
use Rattle.afr_lines.specs.declared.reply.Reply.TheVariants as reply
use Rattle.afr_model.specs.Crawl.{AreOfItem}
use Rattle.afr_model.specs.HealReplies as model
use Rattle.afr_model.specs.HealReplies.{refuses_index}
use Rattle.afr_model.specs.Rounds.{IsHealed, due_in}
use Rattle.afr_model.specs.Showing.{has}
use Rattle.afr_model_moves.specs.Ranges.{InRange}
use Rattle.afr_law_next.specs.Standing.{ComesNext}
use Rattle.afr_plan.specs.declared.plan.Plan.{Plan}
use Rattle.afr_healer.proofs.Gathered.{RoundLaws}
use Rattle.afr_healer.proofs.Writes.{kept_served, of_healer}
use Rattle.afr_healer.specs.Acting.{IsEnded}
use Rattle.afr_healer.proofs.Duties.{begun_over, keeps_duty, task_admits}
use Rattle.afr_healer.specs.Keeping.{CarriesRound, Duty, HasBegun, IsAfterHeals, IsHealer, IsRoundOver, StageStands, list_of}
use Rattle.afr_healer.specs.Laws.{Ends, IsBeforeRound, RoundKeeps}
use Rattle.afr_healer.specs.declared.healer.Healer.{Healer}
use Rattle.afr_server.specs.Serving.{Serving}
use Rattle.afr_law_next.specs.Turn.{InForce}
use Rattle.afr_discipline.proofs.FreeLemmas.{allows_end}
use Rattle.afr_discipline.specs.Free.{IsFree}

-- ---- a register of free lines
free_five : (shape : Shape) (r : Register) → IsFree shape r → HasFive r
free_five shape r (inl e) = subst HasFive (sym e) (record { looked = refl; seen = refl; reads = refl })
free_five shape r (inr e) = subst HasFive (sym e) (record { looked = refl; seen = refl; reads = refl })

free_outside : (shape : Shape) (r : Register) → IsFree shape r → r.inside ≡ false
free_outside shape r (inl e) = ap (λ (r : Register). r.inside) e
free_outside shape r (inr e) = ap (λ (r : Register). r.inside) e

-- an End between two heals opens nothing
end_goes_on : (a : ActorId) (said : Reply) (place : Place) → IsAfterHeals place → opens place (End a said) ≡ false
end_goes_on a said Fresh k = absurd k
end_goes_on a said Indexed k = refl
end_goes_on a said Between k = refl
end_goes_on a said Within k = absurd k

-- a work that is over has written a line
healed_of : (duty : Duty) (list : List (Gfid × What)) (refused : Bool) (w : Work) → HasBegun duty (Over refused) w → due_in list w ≡ None → IsHealed list w
healed_of duty list refused w begun done = (let some = begun_over duty refused w begun in record { first = some.0; older = some.1; begun = some.2; done = done })

-- a task is never refused
task_done : (item : Gfid × What) (w : Work) (refused : Bool) → has refuses_index w ≡ refused → AreOfItem item w → reply_of refused ≡ reply.Ok Done
task_done item w false e of = refl
task_done item w true e of = absurd (cc (sym e ∙ task_admits item w of))

module _ (laws : RoundLaws) (crawl : Bool) (p : Plan) (a : ActorId) (log : List Line) (servers : List Serving) (before : IsBeforeRound crawl p a log servers) (x y : Healer) (new : List Serving) (written : Line) (m : Rounding) (acting : IsHealer crawl p log a.0 servers x)
    (carries : CarriesRound crawl p a.0 log x.visit.met x.visit.epochs servers m) (refused : Bool) (at_end : m.stage ≡ Over refused) (s : IsEnded a (reply_of refused) x y servers new written) where
  over : IsRoundOver carries.duty p a.0 log x.visit.met refused
  over = (subst (λ (stage : RoundStage). StageStands carries.duty p a.0 log x.visit.met x.visit.epochs servers m.round stage) at_end carries.stage).0

  abbrev end_line : Line
  end_line = End a (reply_of refused)

  no_opening : opens (place_of a.0 log) end_line ≡ false
  no_opening = end_goes_on a (reply_of refused) (place_of a.0 log) over.place

  in_force : InForce p.shape a.0 log end_line over.register
  in_force = laws.next.goes_on p.shape a.0 log end_line over.register no_opening over.stood

  ends : ComesNext p a end_line log over.register × (place_of a.0 (end_line ∷ log) ≡ Fresh)
  ends = laws.next.ends p log a (reply_of refused) over.register before.few (free_five p.shape over.register over.free) in_force (free_outside p.shape over.register over.free) (allows_end p.shape over.register (reply_of refused) over.free)
      (subst InRange s.is_line s.fits)

  caused : model.IsHealing p.shape end_line (work a.0 log)
  caused = rw over.said refl

  pub end_keeps : RoundKeeps crawl p a log written y servers new
  end_keeps = subst (λ (l : Line). RoundKeeps crawl p a log l y servers new) (sym s.is_line) (record {
    honest = tt;
    lawful = ends.0.lawful before.lawful;
    served = kept_served laws crawl p a log servers before end_line new (laws.servers.written p log end_line a.0 servers before.few before.served (λ b. refl) (λ z. refl) no_opening) s.servers;
    keeps = keeps_duty crawl p a.0 log before.healer m.round.brick carries.duty end_line carries.present (λ list keeps. keeps) (λ item of keeps. (keeps, task_done item (work a.0 log) refused over.said of))
        (healed_of carries.duty (list_of carries.duty p (work a.0 log)) refused (work a.0 log) (subst (λ (stage : RoundStage). HasBegun carries.duty stage (work a.0 log)) at_end carries.begun) over.none_left);
    replied = of_healer p a end_line log before.clients before.healer caused;
    blamed = tt;
    written = Ends (reply_of refused);
    acting = subst (λ (z : Healer). IsHealer crawl p (end_line ∷ log) a.0 new z) (sym s.becomes) (record {
      ended_is = rw (same_number a.0) (ap (λ (n : ℕ). n + 1) acting.ended_is);
      killed_is = acting.killed_is;
      carries = record { unmet = refl; fresh = ends.1; none = rw (same_number a.0) refl };
    });
    stands = ends.0.stand.others;
    found = λ c epochs apart found. rw s.servers found;
  })
