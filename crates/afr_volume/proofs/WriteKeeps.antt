-- A Begin or End line of an actor: it is lawful and the plan's, and the actor's work stands for it.
use Rattle.std.proofs.Common.{◌≡◌, ◌∙◌, ℕ, ◌+◌, slice_get, ◌==◌, Bool, true, false, List, ◌∷◌, refl, sym, ap, arith, subst, length, None, Some}
use Rattle.afr_base.specs.declared.ids.ActorId.{ActorId}
use Rattle.afr_base.specs.declared.ids.BrickId.{BrickId}
use Rattle.afr_discipline.specs.Notes.{noted_begin}
use Rattle.afr_client_read.specs.Lookup as reading
use Rattle.afr_client_read.specs.Lookup.{Lookup as LookupMachine}
use Rattle.afr_client_read.specs.declared.stage.LookupStage.{LookupStage}
use Rattle.afr_client_read.specs.declared.stage.LookupStage.TheVariants.{Ending, Looking, Reading, Walking}
use Rattle.afr_lines.specs.Places.{Fresh, Within, next_place, place_of}
use Rattle.afr_lines.specs.Work.{ended, is_of, work}
use Rattle.afr_lines.specs.declared.answer.Told.TheVariants as as_told
use Rattle.afr_lines.specs.declared.line.Heard.TheVariants as heard_of
use Rattle.afr_lines.specs.declared.line.Line.{Line}
use Rattle.afr_lines.specs.declared.line.Line.TheVariants.{Begin, End}
use Rattle.afr_lines.specs.declared.line.Next.{Next}
use Rattle.afr_lines.specs.declared.line.Next.TheVariants as next
use Rattle.afr_lines.specs.declared.reply.Reply.{Reply}
use Rattle.afr_model.specs.Actors.{script_of}
use Rattle.afr_model.specs.Following.{KeepsToCommand, ToCommand}
use Rattle.afr_model.specs.Replied.{IsOf}
use Rattle.afr_model_moves.specs.Discipline.{BeginsKnown}
use Rattle.afr_model_moves.specs.Positions.{by_position}
use Rattle.afr_model_moves.specs.Ranges.{InRange}
use Rattle.afr_object.specs.declared.change.Change.{Change}
use Rattle.afr_object.specs.declared.change.Change.TheVariants as change_of
use Rattle.afr_plan.specs.declared.command.Command.{Command}
use Rattle.afr_plan.specs.declared.plan.Plan.{Plan}
use Rattle.afr_law_heard.specs.Hears.{MakesNothing}
use Rattle.afr_law.specs.Beginning.{start_of}
use Rattle.afr_law.specs.Exactly.{name_bound}
use Rattle.afr_law_next.proofs.Turns.{new_known}
use Rattle.afr_law_next.specs.Begun.{HasNewGfid}
use Rattle.afr_law_next.specs.Standing.{ComesNext}
use Rattle.afr_server.specs.NextLine.{is_elsewhere}
use Rattle.afr_server.specs.Serving.{Serving}
use Rattle.afr_servers.specs.NextLine.{GoOn}
use Rattle.afr_servers.specs.Visiting.{AreInSession, MeetsNext}
use Rattle.afr_servers.specs.declared.epochs.Epochs.{Epochs}
use Rattle.afr_law_next.specs.Turn.{Stood}
use Rattle.afr_law_client.specs.Laws.{IsNextLine}
use Rattle.afr_law_picks.specs.Laws.{KeepsPicked, number_in}
use Rattle.afr_law_picks.specs.Readings.{asked_in}
use Rattle.afr_client_walk.specs.Choosing.{IsAmong, reader_of}
use Rattle.afr_discipline.specs.Free.{Allows}
use Rattle.afr_client.specs.Work.{IsWork, choices_heard, heard_by, next_of, register_of}
use Rattle.afr_client.specs.declared.work.WorkMachine.{WorkMachine}
use Rattle.afr_client.specs.declared.work.WorkMachine.TheVariants.{Entry, Idle, Lookup, Rename, Write}
use Rattle.afr_law_heard.specs.Works.WorkTelling.{WorkTells}
use Rattle.afr_volume.specs.Acting.{IsBegun, IsEnded, still_picked}
use Rattle.afr_volume.specs.Keeping.{Carries, CarriesOutCommand, IsActing, IsNoted, IsReading}
use Rattle.afr_volume.specs.declared.actor.Actor.{Actor}
use Rattle.afr_volume.proofs.Before.{IsBefore, in_force, opened}
use Rattle.afr_volume.proofs.Before as known
use Rattle.afr_volume.specs.Laws.{Laws}
use Rattle.afr_volume.proofs.LineKeeps.{Begins, Ends, LineKeeps, of_client, self, some_same}
use Rattle.afr_volume.proofs.ReadingLemmas.{own_asked}

-- ---- a place within the work
within : (met : Bool) (p : Plan) (a : ActorId) (change : Change) (log : List Line) (w : WorkMachine) → IsNoted met p.shape a.0 log (register_of w) → next_place (place_of a.0 log) (Begin a change) ≡ Within
within true p a change log w k = rw k.0 refl
within false p a change log w k = rw k.0 refl

-- what makes nothing needs no gfid
new_gfid : (at : ℕ) (change : Change) → MakesNothing change → HasNewGfid at change
new_gfid at (change_of.Write g from bytes) k = tt
new_gfid at (change_of.Cut g len) k = tt
new_gfid at (change_of.SetAttr g key value) k = tt
new_gfid at (change_of.Make dir name g what) k = absurd k
new_gfid at (change_of.Remove dir name what) k = absurd k

-- a Begin line asks no rule
none_among : (w : WorkMachine) (at : ℕ) (b : BrickId) → IsAmong (choices_heard (heard_of.Begun at) w) b
none_among Idle at b = λ l. absurd (omega (arith, l))
none_among (Lookup m) at b = λ l. absurd (omega (arith, l))
none_among (Write m) at b = λ l. absurd (omega (arith, l))
none_among (Entry m) at b = λ l. absurd (omega (arith, l))
none_among (Rename m) at b = λ l. absurd (omega (arith, l))

-- a read begins no attempt
no_begin : (m : LookupMachine) (change : Change) → reading.next_of m ≡ next.Begin change → ⊥
no_begin m change e = by_stage m.stage e
  where
    by_stage : (stage : LookupStage) → reading.next_at stage m.walk ≡ next.Begin change → ⊥
    by_stage Walking e = absurd (cc e)
    by_stage (Looking looks) e = absurd (cc e)
    by_stage (Reading b of) e = absurd (cc e)
    by_stage (Ending said) e = absurd (cc e)

module _ (laws : Laws) (p : Plan) (a : ActorId) (log : List Line) (servers : List Serving) (before : IsBefore p a log servers) (x y : Actor) (new : List Serving) (written : Line) (c : CarriesOutCommand p a.0 log x.visit.met x.visit.epochs servers x.work) where
  -- the servers at a line that is no request
  goes_on : (line : Line) (epochs : Epochs) → ((b : ℕ) → is_elsewhere b line ≡ true) → ((z : ℕ) → is_of z line ≡ (a.0 == z)) → MeetsNext x.visit.met a x.visit.epochs servers new epochs → GoOn p log a line epochs servers new
  goes_on line epochs elsewhere own met = by_met x.visit.met refl met
    where
      by_met : (flag : Bool) → x.visit.met ≡ flag → MeetsNext flag a x.visit.epochs servers new epochs → GoOn p log a line epochs servers new
      by_met true f k =
          let noted = subst (λ (flag : Bool). IsNoted flag p.shape a.0 log (register_of x.work)) f c.noted in
          rw (k.0, k.1) (record {
            served = laws.servers.written p log line a.0 servers before.runnable.few before.served elsewhere own (opened true p a.0 log (register_of x.work) line noted);
            found = subst (λ (flag : Bool). AreInSession flag a.0 x.visit.epochs servers) f c.sessions;
            others = λ z its other found. found;
          })
      by_met false f k =
          let noted = subst (λ (flag : Bool). IsNoted flag p.shape a.0 log (register_of x.work)) f c.noted in
          laws.servers.met p log line a epochs servers new before.runnable.few (known.known laws p a log servers before) before.served elsewhere own (opened false p a.0 log (register_of x.work) line noted) k

  allows : (n : Next) → next_of (length log) x.work ≡ n → Allows (register_of x.work) n
  allows n e = rw e at (laws.work.allowed x.work c.sound (length log))

  -- ---- an attempt begins
  module _ (change : Change) (e : next_of (length log) x.work ≡ next.Begin change) (s : IsBegun a (length log) change x y servers new written) where
    abbrev begin_line : Line
    begin_line = Begin a change

    made_known : (z : WorkMachine) → IsWork z → WorkTells p c.command z (work a.0 log) → next_of (length log) z ≡ next.Begin change → BeginsKnown (start_of p (name_bound p)) (by_position log) (length log) (Some begin_line)
    made_known Idle sound tells e = absurd tells
    made_known (Lookup m) sound tells e = absurd (no_begin m change e)
    made_known (Write m) sound tells e = new_known p log a change (new_gfid (length log) change (laws.telling.makes_nothing p c.command m (work a.0 log) (length log) change sound tells.1 e))
    made_known (Entry m) sound tells e = new_known p log a change (laws.telling.makes_new m (length log) change sound e)
    made_known (Rename m) sound tells e = laws.telling.rename_known p c.command m log a change before.runnable.few (omega (arith, known.short laws p a log servers before)) before.honest before.lawful sound tells e

    comes : ComesNext p a begin_line log (noted_begin (register_of x.work) (length log))
    comes = laws.next.begins p log a change (register_of x.work) before.runnable.few c.five (in_force laws p a log servers before x.visit.met (register_of x.work) begin_line c.noted) (allows (next.Begin change) e) (subst InRange s.is_line s.fits)
        (made_known x.work c.sound c.tells e)

    begin_goes : GoOn p log a begin_line s.epochs servers new
    begin_goes = goes_on begin_line s.epochs (λ b. refl) (λ z. refl) s.met

    is_next : IsNextLine a (next_of (length log) x.work) as_told.Done begin_line
    is_next = subst (λ (n : Next). IsNextLine a n as_told.Done begin_line) (sym e) refl

    about : IsOf p c.command begin_line (work a.0 log) × KeepsToCommand p c.command begin_line (length log) (work a.0 log)
    about = laws.telling.about p c.command x.work (work a.0 log) a as_told.Done begin_line log c.sound c.tells is_next

    abbrev after : WorkMachine
    after = heard_by (reader_of None) (heard_of.Begun (length log)) x.work

    own : Stood p.shape a.0 (begin_line ∷ log) (register_of after)
    own = rw (laws.work.notes_begin x.work (length log) change e (reader_of None)) comes.stand.own

    carries : CarriesOutCommand p a.0 (begin_line ∷ log) true s.epochs new after
    carries = record {
      command = c.command;
      present = c.present;
      sound = laws.work.stays x.work c.sound (laws.work.begins_more x.work (length log) change e) (reader_of None) (heard_of.Begun (length log)) (none_among x.work (length log) (reader_of None));
      five = laws.work.five_begun x.work c.five (length log) change e (reader_of None);
      shape = own.shape_is;
      noted = (rw (self a.0) (within x.visit.met p a change log x.work c.noted), own);
      sessions = begin_goes.found;
      tells = rw (self a.0) (laws.telling.begun p c.command x.work (work a.0 log) a change (reader_of None) log c.sound c.tells e);
    }

    reads_on : IsReading p a.0 log x.visit.met x.picked x.work → IsReading p a.0 (begin_line ∷ log) true (still_picked x.visit.met x.picked) after
    reads_on k = record {
      keeps = λ command is.
          subst (λ (d : Command). KeepsPicked p d after (work a.0 (begin_line ∷ log)) (number_in (still_picked x.visit.met x.picked))) (some_same c.command command (sym c.present ∙ is))
          (rw (self a.0) (laws.reading.begun p c.command x.work (work a.0 log) a change log (reader_of None) (number_in (still_picked x.visit.met x.picked)) (k.keeps c.command c.present)));
      fresh = λ unmet. absurd (cc unmet);
      within = λ met. own_asked p a.0 begin_line log (self a.0) ∙ sym (ap (asked_in p (slice_get (script_of p a.0) (ended a.0 log))) added);
    }
      where
        added : work a.0 (begin_line ∷ log) ≡ (begin_line, log) ∷ work a.0 log
        added = rw (self a.0) refl

    as_carries : (z : WorkMachine) → CarriesOutCommand p a.0 (begin_line ∷ log) true s.epochs new z → Carries p a.0 (begin_line ∷ log) true s.epochs new z
    as_carries Idle k = absurd k.tells
    as_carries (Lookup m) k = k
    as_carries (Write m) k = k
    as_carries (Entry m) k = k
    as_carries (Rename m) k = k

    pub begin_keeps : IsActing p log a.0 servers x → LineKeeps p a log written y servers new
    begin_keeps acting = subst (λ (l : Line). LineKeeps p a log l y servers new) (sym s.is_line) (record {
      honest = tt;
      lawful = comes.lawful before.lawful;
      served = begin_goes.served;
      keeps = λ crawl. ToCommand c.command c.present about.1;
      replied = of_client p a begin_line log c.command before.client c.present about.0;
      blamed = tt;
      names = laws.telling.names p c.command x.work a change log c.sound c.tells e;
      wrote = Begins change;
      acting = subst (λ (z : Actor). IsActing p (begin_line ∷ log) a.0 new z) (sym s.becomes) (record { ended_is = acting.ended_is; killed_is = acting.killed_is; carries = as_carries after carries; unpicked = λ none. absurd (cc none); reads = reads_on acting.reads });
      stands = comes.stand.others;
      found = begin_goes.others;
    })

  -- ---- a work ends
  module _ (said : Reply) (e : next_of (length log) x.work ≡ next.End said) (s : IsEnded a said x y servers new written) where
    abbrev end_line : Line
    end_line = End a said

    ends : ComesNext p a end_line log (register_of x.work) × (place_of a.0 (end_line ∷ log) ≡ Fresh)
    ends = laws.next.ends p log a said (register_of x.work) before.runnable.few c.five (in_force laws p a log servers before x.visit.met (register_of x.work) end_line c.noted) (laws.work.outside x.work c.sound) (allows (next.End said) e) (subst InRange s.is_line s.fits)

    end_goes : GoOn p log a end_line s.epochs servers new
    end_goes = goes_on end_line s.epochs (λ b. refl) (λ z. refl) s.met

    answered : IsOf p c.command end_line (work a.0 log) × KeepsToCommand p c.command end_line (length log) (work a.0 log)
    answered = laws.telling.ends p c.command x.work (work a.0 log) (length log) said c.sound c.tells e a

    pub end_keeps : IsActing p log a.0 servers x → LineKeeps p a log written y servers new
    end_keeps acting = subst (λ (l : Line). LineKeeps p a log l y servers new) (sym s.is_line) (record {
      honest = tt;
      lawful = ends.0.lawful before.lawful;
      served = end_goes.served;
      keeps = λ crawl. ToCommand c.command c.present answered.1;
      replied = of_client p a end_line log c.command before.client c.present answered.0;
      blamed = tt;
      names = tt;
      wrote = Ends said;
      acting = subst (λ (z : Actor). IsActing p (end_line ∷ log) a.0 new z) (sym s.becomes) (record {
        ended_is = rw (self a.0) (ap (λ (n : ℕ). n + 1) acting.ended_is);
        killed_is = acting.killed_is;
        carries = record { unmet = refl; fresh = ends.1; none = rw (self a.0) refl };
        unpicked = λ none. absurd (cc none);
        reads = record { keeps = λ command is. tt; fresh = λ unmet. rw (self a.0) refl; within = λ met. absurd (cc met) };
      });
      stands = ends.0.stand.others;
      found = end_goes.others;
    })
