-- A request of an actor: the line is honest, lawful and the plan's, and the actor's work stands for it.
use Rattle.std.proofs.Common.{◌≡◌, ◌∙◌, ℕ, Bool, true, false, List, ◌∷◌, refl, sym, ap, subst, length, slice_get, Option}
use Rattle.afr_base.specs.declared.ids.ActorId.{ActorId}
use Rattle.afr_base.specs.declared.ids.BrickId.{BrickId}
use Rattle.afr_discipline.specs.Notes.{noted_ask}
use Rattle.afr_discipline.specs.declared.register.Register.{Register}
use Rattle.afr_law_heard.specs.Hears.{IsHeard}
use Rattle.afr_lines.specs.Places.{Fresh, Within, next_place, place_of}
use Rattle.afr_lines.specs.Told.{told_by}
use Rattle.afr_lines.specs.Work.{Work as Lines, ended, work}
use Rattle.afr_lines.specs.declared.answer.Told.{Told}
use Rattle.afr_lines.specs.declared.line.Heard.TheVariants as heard_of
use Rattle.afr_lines.specs.declared.line.Line.{Line}
use Rattle.afr_lines.specs.declared.line.Line.TheVariants.{Ask}
use Rattle.afr_lines.specs.declared.line.Next.{Next}
use Rattle.afr_lines.specs.declared.line.Next.TheVariants as next
use Rattle.afr_lines.specs.declared.request.Request.{Request}
use Rattle.afr_lines.specs.declared.request.Request.TheVariants as request
use Rattle.afr_model.specs.Actors.{script_of}
use Rattle.afr_model.specs.Replied.{IsOf}
use Rattle.afr_model.specs.Following.{KeepsToCommand, ToCommand}
use Rattle.afr_plan.specs.declared.command.Command.{Command}
use Rattle.afr_plan.specs.declared.plan.Plan.{Plan}
use Rattle.afr_healer.proofs.BeforeAsks.{IsAskedSo, asked_so}
use Rattle.afr_server.specs.NextLine.{told_line}
use Rattle.afr_server.specs.Serving.{Serving}
use Rattle.afr_law_next.specs.Turn.{Stood}
use Rattle.afr_law_picks.specs.Laws.{KeepsPicked, LineKept, number_in}
use Rattle.afr_law_picks.specs.Readings.{asked_in}
use Rattle.afr_law_picks.proofs.Kept.{one_among}
use Rattle.afr_client_walk.specs.Choosing.{IsAmong, reader_of}
use Rattle.afr_law_client.specs.Laws.{IsNextLine}
use Rattle.afr_client.specs.Work.{CarriesNext, IsWork, choices_heard, heard_by, next_of, register_of}
use Rattle.afr_client.specs.declared.work.WorkMachine.{WorkMachine}
use Rattle.afr_client.specs.declared.work.WorkMachine.TheVariants.{Entry, Idle, Lookup, Rename, Write}
use Rattle.afr_law_heard.specs.Works.WorkTelling.{WorkHears, WorkTells}
use Rattle.afr_volume.specs.Acting.{HearsAny, IsAsked, picked_after, still_picked}
use Rattle.afr_volume.specs.Keeping.{Carries, CarriesOutCommand, IsActing, IsNoted, IsReading}
use Rattle.afr_volume.specs.declared.actor.Actor.{Actor}
use Rattle.afr_volume.proofs.Before.{IsBefore, ask_laws, asks_next, before_ask}
use Rattle.afr_volume.proofs.Before as known
use Rattle.afr_volume.specs.Laws.{Laws}
use Rattle.afr_volume.proofs.LineKeeps.{Asks, LineKeeps, asks_none, of_client, self, some_same}
use Rattle.afr_volume.proofs.ReadingLemmas.{own_asked, picked_same}

-- ---- a place within the work
within_fresh : (p : Plan) (c : Command) (a : ActorId) (b : BrickId) (asked : Request) (told : Told) (took : Bool) (w : Lines) → IsOf p c (Ask a b asked told took) w → next_place Fresh (Ask a b asked told took) ≡ Within
within_fresh p c a b (request.Lock domain area) told took w k = refl
within_fresh p c a b (request.Unlock domain area) told took w k = refl
within_fresh p c a b (request.Look g) told took w k = refl
within_fresh p c a b (request.ReadBytes g at len) told took w k = refl
within_fresh p c a b (request.ReadName g name) told took w k = refl
within_fresh p c a b (request.List g) told took w k = refl
within_fresh p c a b (request.ReadAttr g key) told took w k = refl
within_fresh p c a b (request.ReadAttrs g) told took w k = refl
within_fresh p c a b request.Index told took w k = absurd (asks_none p c a b request.Index told took w (λ d v h. h) k)
within_fresh p c a b (request.Pre g kind) told took w k = refl
within_fresh p c a b (request.Apply attempt) told took w k = refl
within_fresh p c a b (request.Post attempt g kind missed) told took w k = refl
within_fresh p c a b (request.Mend repair) told took w k = refl
within_fresh p c a b (request.Settle g kind less) told took w k = refl

within : (met : Bool) (p : Plan) (c : Command) (a : ActorId) (b : BrickId) (asked : Request) (told : Told) (took : Bool) (log : List Line) (r : Register) → IsNoted met p.shape a.0 log r → IsOf p c (Ask a b asked told took) (work a.0 log)
    → next_place (place_of a.0 log) (Ask a b asked told took) ≡ Within
within true p c a b asked told took log r k about = rw k.0 refl
within false p c a b asked told took log r k about = rw k.0 (within_fresh p c a b asked told took (work a.0 log) about)

module _ (laws : Laws) (p : Plan) (a : ActorId) (log : List Line) (servers : List Serving) (before : IsBefore p a log servers) (x y : Actor) (new : List Serving) (written : Line) (c : CarriesOutCommand p a.0 log x.visit.met x.visit.epochs servers x.work) where
  module _ (b : BrickId) (asked : Request) (e : next_of (length log) x.work ≡ next.Ask b asked) (s : IsAsked HearsAny a (length log) b asked x y servers new written) where
    abbrev line : Line
    line = told_line a b asked s.given

    abbrev told : Told
    told = told_by s.given.answer

    so : IsAskedSo p a log servers new s.epochs b asked (register_of x.work) s.given
    so = asked_so (ask_laws laws) p a log servers (before_ask laws p a log servers before) x.visit.met x.visit.epochs (CarriesNext x.work) b asked (register_of x.work) (asks_next laws p a log servers before x.work x.visit.met x.visit.epochs c b asked e) s.fits
        s.load new s.epochs s.given s.carries s.served

    heard : IsHeard p log a b asked s.given.answer s.given.took
    heard = record { honest = before.honest; lawful = before.lawful; short = known.short laws p a log servers before; few = before.runnable.few; may = so.may; said = so.go_on.0; full = λ given free. so.full given }

    hears : (w : WorkMachine) → IsWork w → WorkTells p c.command w (work a.0 log) → next_of (length log) w ≡ next.Ask b asked → WorkHears w p b.0 asked log s.given.answer
    hears Idle sound tells e = absurd tells
    hears (Lookup m) sound tells e = laws.telling.lookup_hears p m log a b asked s.given.answer s.given.took sound tells.1 e heard
    hears (Write m) sound tells e = laws.telling.write_hears p c.command m log a b asked s.given.answer s.given.took sound tells.1 e heard
    hears (Entry m) sound tells e = laws.telling.entry_hears p c.command m log a b asked s.given.answer s.given.took sound tells e heard before.crawl before.follows
    hears (Rename m) sound tells e = laws.telling.rename_hears p c.command m log a b asked s.given.answer s.given.took sound tells e heard before.crawl before.follows

    abbrev chosen : BrickId
    chosen = reader_of s.heard.picked

    among : IsAmong (choices_heard (heard_of.Answer s.given.answer (length log)) x.work) chosen
    among = one_among (choices_heard (heard_of.Answer s.given.answer (length log)) x.work) s.heard.picked s.heard.hears.among

    pub hears_next : WorkHears x.work p b.0 asked log s.given.answer
    hears_next = hears x.work c.sound c.tells e

    abbrev after : WorkMachine
    after = heard_by (reader_of s.heard.picked) (heard_of.Answer s.given.answer (length log)) x.work

    is_next : IsNextLine a (next_of (length log) x.work) told line
    is_next = subst (λ (n : Next). IsNextLine a n told line) (sym e) (s.given.took, refl)

    about : IsOf p c.command line (work a.0 log) × KeepsToCommand p c.command line (length log) (work a.0 log)
    about = laws.telling.about p c.command x.work (work a.0 log) a told line log c.sound c.tells is_next

    noted_is : register_of after ≡ noted_ask (register_of x.work) (length log) b.0 asked told
    noted_is = laws.work.notes x.work (length log) b asked e chosen s.given.answer

    own : Stood p.shape a.0 (line ∷ log) (register_of after)
    own = rw noted_is so.stand.own

    carries : CarriesOutCommand p a.0 (line ∷ log) true s.epochs new after
    carries = record {
      command = c.command;
      present = c.present;
      sound = laws.work.stays x.work c.sound (laws.work.asks_more x.work (length log) b asked e) chosen (heard_of.Answer s.given.answer (length log)) among;
      five = laws.work.five x.work c.sound c.five (length log) b asked e chosen s.given.answer;
      shape = own.shape_is;
      noted = (rw (self a.0) (within x.visit.met p c.command a b asked told s.given.took log (register_of x.work) c.noted about.0), own);
      sessions = so.go_on.1.found;
      tells = rw (self a.0) (laws.telling.more p c.command x.work (work a.0 log) a b asked chosen s.given.answer s.given.took log c.sound c.tells e hears_next among);
    }

    -- the copy that is read next is the one that was picked
    pub kept_picked : IsReading p a.0 log x.visit.met x.picked x.work → LineKept p c.command s.heard.after ((line, log) ∷ work a.0 log) asked s.heard.picked (number_in (still_picked x.visit.met x.picked))
    kept_picked k =
        laws.reading.line p c.command x.work s.heard.after (work a.0 log) a b asked s.given.answer s.given.took log s.heard.picked (number_in (still_picked x.visit.met x.picked)) c.sound c.tells e hears_next s.heard.hears
        (k.keeps c.command c.present)

    reads_on : IsReading p a.0 log x.visit.met x.picked x.work → IsReading p a.0 (line ∷ log) true (picked_after x.visit.met asked s.heard.picked x.picked) s.heard.after
    reads_on k = record {
      keeps = λ command is.
          subst (λ (d : Command). KeepsPicked p d s.heard.after (work a.0 (line ∷ log)) (number_in (picked_after x.visit.met asked s.heard.picked x.picked))) (some_same c.command command (sym c.present ∙ is))
          (rw (self a.0) (subst (λ (picked : Option ℕ). KeepsPicked p c.command s.heard.after ((line, log) ∷ work a.0 log) picked) (picked_same x.visit.met asked s.heard.picked x.picked (kept_picked k).none) (kept_picked k).keeps));
      fresh = λ unmet. absurd (cc unmet);
      within = λ met. own_asked p a.0 line log (self a.0) ∙ sym (ap (asked_in p (slice_get (script_of p a.0) (ended a.0 log))) added);
    }
      where
        added : work a.0 (line ∷ log) ≡ (line, log) ∷ work a.0 log
        added = rw (self a.0) refl

    as_carries : (z : WorkMachine) → CarriesOutCommand p a.0 (line ∷ log) true s.epochs new z → Carries p a.0 (line ∷ log) true s.epochs new z
    as_carries Idle k = absurd k.tells
    as_carries (Lookup m) k = k
    as_carries (Write m) k = k
    as_carries (Entry m) k = k
    as_carries (Rename m) k = k

    pub ask_keeps : IsActing p log a.0 servers x → LineKeeps p a log written y servers new
    ask_keeps acting = subst (λ (l : Line). LineKeeps p a log l y servers new) (sym s.is_line) (record {
      honest = so.go_on.0;
      lawful = so.lawful;
      served = so.go_on.1.served;
      keeps = λ crawl. ToCommand c.command c.present about.1;
      replied = of_client p a line log c.command before.client c.present about.0;
      blamed = laws.telling.blamed p c.command x.work a told line log c.sound c.tells is_next;
      names = tt;
      wrote = Asks b asked told s.given.took;
      acting = subst (λ (z : Actor). IsActing p (line ∷ log) a.0 new z) (sym s.heard.becomes) (record {
        ended_is = acting.ended_is;
        killed_is = acting.killed_is;
        carries = subst (λ (w : WorkMachine). Carries p a.0 (line ∷ log) true s.epochs new w) (sym s.heard.hears.value) (as_carries after carries);
        unpicked = λ none. absurd (cc none);
        reads = reads_on acting.reads;
      });
      stands = so.stand.others;
      found = so.go_on.1.others;
    })
