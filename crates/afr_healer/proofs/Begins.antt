-- A round begins with no line written, and a healer whose rounds have all ended has written none of another.
use Rattle.std.proofs.Common.{◌≡◌, ◌∙◌, ℕ, ◌+◌, ◌<◌, ◌≤◌, Bool, true, List, [], ◌∷◌, Option, None, Some, refl, sym, ap, arith, subst, slice_get}
use Rattle.std.proofs.lemmas.Option.{slice_get_within}
use Rattle.afr_base.specs.declared.ids.BrickId.{BrickId}
use Rattle.afr_base.specs.declared.ids.Kind.TheVariants as kind_of
use Rattle.afr_base.specs.declared.ids.NameId.{NameId}
use Rattle.afr_base.specs.declared.ids.Shape.{Shape}
use Rattle.afr_heal_round.specs.List.Round.{RoundProgress}
use Rattle.afr_law_heal.specs.HealLaws.{HealBeginsTold}
use Rattle.afr_law_heal.specs.Heard.Holds.{HoldsNone, HoldsReady}
use Rattle.afr_heal_round.specs.Rounding.{IsStaged, Rounding, made_ready, ready_at, round_from, task_from}
use Rattle.afr_heal_round.specs.declared.stage.RoundStage.{RoundStage}
use Rattle.afr_heal_round.specs.declared.stage.RoundStage.TheVariants.{Asking, Healing, Over}
use Rattle.afr_lines.specs.Work.{Work, ended, work}
use Rattle.afr_lines.specs.declared.line.Line.{Line}
use Rattle.afr_model.specs.Actors.{rounds_of}
use Rattle.afr_model.specs.Crawl.{AreOfItem, IsGiven}
use Rattle.afr_model.specs.Rounds.{heals_ended}
use Rattle.afr_model.specs.Safe.{log_before}
use Rattle.afr_object.specs.declared.entry.Entry.{Entry}
use Rattle.afr_plan.specs.declared.plan.Plan.{Plan}
use Rattle.afr_healer.specs.Acting.{round_or}
use Rattle.afr_healer.specs.Keeping.{CarriesIts, CarriesRound, Crawls, Duty, HasBegun, Task, IsBetweenRounds, IsHealer, IsOnDuty, Rounds, RunsHeal, StageStands}
use Rattle.afr_healer.specs.Laws.{Crawl, IsMadeReady, MayAsk, Round, RoundsBegin, RoundsEnd, TasksBegin}
use Rattle.afr_healer.proofs.Duties.{begun_more}
use Rattle.afr_healer.specs.declared.healer.Healer.{Healer}
use Rattle.afr_heal_machine.specs.Contents.{AreMerged, IsMerged, merge_in, readied}
use Rattle.afr_heal_machine.specs.Healing.{Healing as Heal, IsHealing, heal_from}
use Rattle.afr_heal_machine.specs.Healing as heal
use Rattle.afr_heal_machine.specs.Laws.{HealBegins}
use Rattle.afr_heal_machine.specs.declared.contents.ReadSoFar.{ReadSoFar}
use Rattle.afr_heal_machine.specs.declared.contents.ReadSoFar.TheVariants.{Attrs, Bytes, Names, Nothing}
use Rattle.afr_heal_machine.specs.declared.contents.NamesRead.{NamesRead}
use Rattle.afr_server.specs.Serving.{Serving}
use Rattle.afr_servers.specs.declared.epochs.Epochs.{Epochs}

-- ---- the merge of names is made
some_same : (x y : List (NameId × Entry)) → Some x ≡ Some y → x ≡ y
some_same x y e = cc e

merge_is : (read : NamesRead) (was : Option (List (NameId × Entry))) → read.merged ≡ was → IsMerged read → IsMerged (record read { merged = Some (merge_in read was) })
merge_is read None e k = record { merge = λ names is. sym (some_same _ names is) }
merge_is read (Some made) e k = record { merge = λ names is. sym (some_same made names is) ∙ k.merge made e }

readied_merged : (contents : ReadSoFar) → AreMerged contents → AreMerged (readied contents)
readied_merged Nothing k = tt
readied_merged (Bytes bytes) k = tt
readied_merged (Attrs attrs) k = tt
readied_merged (Names read) k = merge_is read read.merged refl k

readied_twice : (contents : ReadSoFar) → readied contents ≡ readied (readied contents)
readied_twice Nothing = refl
readied_twice (Bytes bytes) = refl
readied_twice (Attrs attrs) = refl
readied_twice (Names read) = refl

ready_sound : (h : Heal) → IsHealing h → IsHealing (heal.made_ready h)
ready_sound h k = let merged : AreMerged (readied h.contents) = readied_merged h.contents k.merged in grind (arith, k, merged)

ready_twice : (stage : RoundStage) → ready_at stage ≡ ready_at (ready_at stage)
ready_twice (Asking heals) = refl
ready_twice (Healing h) = ap (λ (contents : ReadSoFar). Healing (record h { contents = contents })) (readied_twice h.contents)
ready_twice (Over refused) = refl

-- what is made ready is ready
once : (m n : Rounding) → Some (made_ready m) ≡ Some n → n ≡ made_ready n
once m n is = subst (λ (n : Rounding). n ≡ made_ready n) (same is) (ap (λ (stage : RoundStage). record m { stage = stage }) (ready_twice m.stage))
  where
    same : Some (made_ready m) ≡ Some n → made_ready m ≡ n
    same is = cc is

-- ---- a round that is ready stands as it did
module _ (ready : HoldsReady) (crawl : Bool) (p : Plan) (a : ℕ) (log : List Line) (servers : List Serving) where
  heal_ready : (duty : Duty) (met : Bool) (epochs : Epochs) (h : Heal) → RunsHeal duty p a log met epochs servers h → RunsHeal duty p a log met epochs servers (heal.made_ready h)
  heal_ready duty met epochs h k = record {
    sound = ready_sound h k.sound;
    shape = k.shape;
    noted = k.noted;
    sessions = k.sessions;
    due = k.due;
    on = k.on;
    tells = k.tells;
    holds = ready p h log k.holds;
    unrefused = k.unrefused;
  }

  stage_ready : (duty : Duty) (met : Bool) (epochs : Epochs) (r : RoundProgress) (stage : RoundStage) → StageStands duty p a log met epochs servers r stage → StageStands duty p a log met epochs servers r (ready_at stage)
  stage_ready duty met epochs r (Asking heals) k = k
  stage_ready duty met epochs r (Healing h) k = (heal_ready duty met epochs h k.0, k.1, k.2)
  stage_ready duty met epochs r (Over refused) k = k

  staged_ready : (shape : Shape) (stage : RoundStage) → IsStaged shape stage → IsStaged shape (ready_at stage)
  staged_ready shape (Asking heals) k = k
  staged_ready shape (Healing h) k = (ready_sound h k.0, k.1)
  staged_ready shape (Over refused) k = k

  begun_ready : (duty : Duty) (stage : RoundStage) (w : Work) → HasBegun duty stage w → HasBegun duty (ready_at stage) w
  begun_ready duty (Asking heals) w k = k
  begun_ready Rounds (Healing h) [] k = k
  begun_ready Crawls (Healing h) [] k = k
  begun_ready (Task item) (Healing h) [] k = k
  begun_ready duty (Healing h) (x ∷ w) k = begun_more duty (ready_at (Healing h)) x w
  begun_ready duty (Over refused) w k = k

  round_ready : (met : Bool) (epochs : Epochs) (m : Rounding) → CarriesRound crawl p a log met epochs servers m → CarriesRound crawl p a log met epochs servers (made_ready m)
  round_ready met epochs m k = record {
    duty = k.duty;
    present = k.present;
    shape = k.shape;
    sound = record { few = k.sound.few; within = k.sound.within; staged = staged_ready m.shape m.stage k.sound.staged };
    begun = begun_ready k.duty m.stage (work a log) k.begun;
    stage = stage_ready k.duty met epochs m.round m.stage k.stage;
  }

  -- a round that begins asks for the index of its brick
  module _ (few : p.shape.n ≤ 5) (heals : Bool) (b : BrickId) where
    -- what is known of the round where none has begun
    abbrev IsNext : Type 0
    IsNext = (b.0 < p.shape.n) × MayAsk a crawl heals × (slice_get (rounds_of p a) (ended a log) ≡ Some b)

    round_begins : (met : Bool) (epochs : Epochs) → IsNext → IsBetweenRounds a log met → CarriesRound crawl p a log met epochs servers (round_from p.shape heals b)
    round_begins met epochs next k = by next.1
      where
        by : {c h : Bool} → MayAsk a c h → CarriesRound c p a log met epochs servers (round_from p.shape h b)
        by Round = record { duty = Rounds; present = (refl, next.2); shape = refl; sound = record { few = few; within = next.0; staged = tt }; begun = tt; stage = (k, refl, refl) }
        by (Crawl who) = record { duty = Crawls; present = (refl, who, next.2); shape = refl; sound = record { few = few; within = next.0; staged = tt }; begun = tt; stage = (k, refl, refl) }

    carries_ready : (met : Bool) (epochs : Epochs) (round : Option Rounding) → (round ≡ None → IsNext) → CarriesIts crawl p a log met epochs servers round → CarriesRound crawl p a log met epochs servers (made_ready (round_or p.shape heals b round))
    carries_ready met epochs None next k = round_ready met epochs (round_from p.shape heals b) (round_begins met epochs (next refl) k)
    carries_ready met epochs (Some m) next k = round_ready met epochs m k

pub rounds_begin : HoldsReady → RoundsBegin
rounds_begin ready crawl heals p a log servers b x z few next k is = (subst (λ (z : Healer). IsHealer crawl p log a servers z) (sym is) begins, subst IsMadeReady (sym is) (once (round_or p.shape heals b x.round)))
  where
    begins : IsHealer crawl p log a servers (record x { round = Some (made_ready (round_or p.shape heals b x.round)) })
    begins = record { ended_is = k.ended_is; killed_is = k.killed_is; carries = carries_ready ready crawl p a log servers few heals b x.visit.met x.visit.epochs x.round next k.carries }

-- ---- no round is left
pub rounds_end : RoundsEnd
rounds_end crawl p a log servers x goes none k = by_round x.round k.carries
  where
    past : (b : BrickId) → slice_get (rounds_of p a) (ended a log) ≡ Some b → work a log ≡ []
    past b is = absurd (omega (arith, none, slice_get_within (rounds_of p a) (ended a log) b is))

    by_duty : (duty : Duty) (b : BrickId) → IsOnDuty duty crawl p a log b → work a log ≡ []
    by_duty Rounds b on = past b on.1
    by_duty Crawls b on = past b on.2
    by_duty (Task item) b on = (let who = goes on.0 in absurd (omega (arith, who, on.1)))

    by_round : (round : Option Rounding) → CarriesIts crawl p a log x.visit.met x.visit.epochs servers round → work a log ≡ []
    by_round None k = k.none
    by_round (Some m) k = by_duty k.duty m.round.brick k.present

-- ---- a task begins
pub tasks_begin : HealBegins → HealBeginsTold → HoldsNone → TasksBegin
tasks_begin begins told none p a log servers item x few some worker given idle k = record { ended_is = k.ended_is; killed_is = k.killed_is; carries = carries (subst (CarriesIts true p a log x.visit.met x.visit.epochs servers) idle k.carries) }
  where
    carries : IsBetweenRounds a log x.visit.met → CarriesRound true p a log x.visit.met x.visit.epochs servers (task_from p.shape item)
    carries rests = record {
      duty = Task item;
      present = (refl, worker, subst (λ (w : Work). IsGiven p item (log_before w log)) (sym rests.none) given, subst (AreOfItem item) (sym rests.none) tt);
      shape = refl;
      sound = record { few = few; within = some; staged = (begins p.shape item.0 kind_of.Attrs some few, refl) };
      begun = tt;
      stage = (runs rests, refl, ap (λ (w : Work). heals_ended w + 1) (sym rests.none));
    }
      where
        runs : IsBetweenRounds a log x.visit.met → RunsHeal (Task item) p a log x.visit.met x.visit.epochs servers (heal_from p.shape item.0 kind_of.Attrs)
        runs rests = record {
          sound = begins p.shape item.0 kind_of.Attrs some few;
          shape = refl;
          noted = rw rests.unmet (rw rests.fresh tt, refl, rw rests.none refl);
          sessions = rw rests.unmet tt;
          due = rw rests.none refl;
          on = λ area there. absurd (cc there);
          tells = rw rests.none (told p.shape 0 item.0 kind_of.Attrs some few);
          holds = none p log p.shape item.0 kind_of.Attrs;
          unrefused = rw rests.none refl;
        }
