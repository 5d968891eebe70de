-- What one line of a client keeps, and what it leaves of the other actors.
use Rattle.std.proofs.Common.{◌≡◌, ◌≢◌, ◌∙◌, ℕ, ◌≤◌, ◌==◌, Bool, true, false, List, ◌∷◌, refl, sym, arith, subst, Some, slice_get}
use Rattle.std.proofs.lemmas.Bool.Decides.{nat_tests}
use Rattle.afr_base.specs.declared.ids.ActorId.{ActorId}
use Rattle.afr_base.specs.declared.ids.BrickId.{BrickId}
use Rattle.afr_base.specs.declared.ids.Gfid.{Gfid}
use Rattle.afr_base.specs.declared.ids.Kind.{Kind}
use Rattle.afr_discipline.specs.declared.register.Register.{Register}
use Rattle.afr_law.specs.Exactly.{IsLawfulExactly}
use Rattle.afr_lines.specs.Places.{place_of}
use Rattle.afr_lines.specs.Work.{Work as Lines, ended, events_made, is_killed, is_of, work}
use Rattle.afr_lines.specs.declared.answer.Told.{Told}
use Rattle.afr_lines.specs.declared.line.Line.{Line}
use Rattle.afr_lines.specs.declared.line.Line.TheVariants.{Ask, Begin, End, HealBegin, HealEnd}
use Rattle.afr_lines.specs.declared.reply.HealReply.{HealReply}
use Rattle.afr_lines.specs.declared.reply.Reply.{Reply}
use Rattle.afr_lines.specs.declared.request.Request.{Request}
use Rattle.afr_model.specs.Actors.{script_of}
use Rattle.afr_model.specs.Answered.{IsAbout}
use Rattle.afr_model.specs.Blamed.{Blames}
use Rattle.afr_model.specs.Following.{IsDue, IsTurnOf, KeepsToCommand, KeepsToTask, NoneDue}
use Rattle.afr_model.specs.Honest.{IsHonest}
use Rattle.afr_model.specs.Kept.{IsKept}
use Rattle.afr_model.specs.Parts.{Part, Walks, Makes, Removes, part_at, the_make, the_removal, the_walk}
use Rattle.afr_model.specs.Renamed.{IsOfPart, KeepsToPart}
use Rattle.afr_model.specs.Replied.{IsOf, IsOfTask, IsReplied}
use Rattle.afr_object.specs.declared.change.Change.{Change}
use Rattle.afr_plan.specs.declared.command.Command.{Command}
use Rattle.afr_plan.specs.declared.command.Command.TheVariants as command
use Rattle.afr_plan.specs.declared.plan.Plan.{Plan}
use Rattle.afr_server.specs.Serving.{Serving}
use Rattle.afr_servers.proofs.VisitLemmas.{session_on}
use Rattle.afr_servers.specs.Log.{AreFound, AreServed}
use Rattle.afr_servers.specs.declared.epochs.Epochs.{Epochs}
use Rattle.afr_law_next.specs.Turn.{Stood}
use Rattle.afr_client.specs.Work.{register_of}
use Rattle.afr_client.specs.declared.work.WorkMachine.{WorkMachine}
use Rattle.afr_client.specs.declared.work.WorkMachine.TheVariants.{Entry, Idle, Lookup, Rename, Write}
use Rattle.afr_law_heard.specs.Works.WorkTelling.{WorkTells}
use Rattle.afr_volume.specs.Keeping.{Carries, CarriesOutCommand, IsActing, IsNoted}
use Rattle.afr_volume.specs.declared.actor.Actor.{Actor}
use Rattle.afr_volume.proofs.ReadingLemmas.{reading_stays}

-- ---- the lines that actors write
pub data Wrote (a : ActorId) : Line → Type 0 where
  Asks : (b : BrickId) (r : Request) (told : Told) (took : Bool) → Wrote a (Ask a b r told took)
  Begins : (c : Change) → Wrote a (Begin a c)
  Ends : (r : Reply) → Wrote a (End a r)
  Parts : (g : Gfid) (kind : Kind) → Wrote a (HealBegin a g kind)
  Heals : (g : Gfid) (kind : Kind) (r : HealReply) → Wrote a (HealEnd a g kind r)

pub self : (n : ℕ) → (n == n) ≡ true
self n = grind (arith, nat_tests)

pub wrote_own : (a : ActorId) (line : Line) → Wrote a line → is_of a.0 line ≡ true
wrote_own a line (Asks b r told took) = self a.0
wrote_own a line (Begins c) = self a.0
wrote_own a line (Ends r) = self a.0
wrote_own a line (Parts g kind) = self a.0
wrote_own a line (Heals g kind r) = self a.0

pub wrote_due : (crawl : Bool) (p : Plan) (a : ActorId) (line : Line) (log : List Line) → Wrote a line → IsTurnOf crawl p a.0 line log → NoneDue p log → IsDue crawl p line log
wrote_due crawl p a line log (Asks b r told took) t n = (t, n)
wrote_due crawl p a line log (Begins c) t n = (t, n)
wrote_due crawl p a line log (Ends r) t n = (t, n)
wrote_due crawl p a line log (Parts g kind) t n = (t, n)
wrote_due crawl p a line log (Heals g kind r) t n = (t, n)

pub wrote_made : (a : ActorId) (line : Line) (log : List Line) → Wrote a line → events_made (line ∷ log) ≡ events_made log
wrote_made a line log (Asks b r told took) = refl
wrote_made a line log (Begins c) = refl
wrote_made a line log (Ends r) = refl
wrote_made a line log (Parts g kind) = refl
wrote_made a line log (Heals g kind r) = refl

pub wrote_killed : (a : ActorId) (c : ℕ) (line : Line) (log : List Line) → Wrote a line → is_killed c (line ∷ log) ≡ is_killed c log
wrote_killed a c line log (Asks b r told took) = refl
wrote_killed a c line log (Begins x) = refl
wrote_killed a c line log (Ends r) = refl
wrote_killed a c line log (Parts g kind) = refl
wrote_killed a c line log (Heals g kind r) = refl

pub wrote_other : (a : ActorId) (c : ℕ) (line : Line) → Wrote a line → (a.0 == c) ≡ false → is_of c line ≡ false
wrote_other a c line (Asks b r told took) e = e
wrote_other a c line (Begins x) e = e
wrote_other a c line (Ends r) e = e
wrote_other a c line (Parts g kind) e = e
wrote_other a c line (Heals g kind r) e = e

-- ---- the other actors
pub other_work : (a : ActorId) (c : ℕ) (line : Line) (log : List Line) → Wrote a line → (a.0 == c) ≡ false → work c (line ∷ log) ≡ work c log
other_work a c line log (Asks b r told took) e = rw e refl
other_work a c line log (Begins x) e = rw e refl
other_work a c line log (Ends r) e = rw e refl
other_work a c line log (Parts g kind) e = rw e refl
other_work a c line log (Heals g kind r) e = rw e refl

pub other_place : (a : ActorId) (c : ℕ) (line : Line) (log : List Line) → Wrote a line → (a.0 == c) ≡ false → place_of c (line ∷ log) ≡ place_of c log
other_place a c line log (Asks b r told took) e = rw e refl
other_place a c line log (Begins x) e = rw e refl
other_place a c line log (Ends r) e = rw e refl
other_place a c line log (Parts g kind) e = rw e refl
other_place a c line log (Heals g kind r) e = rw e refl

pub other_ended : (a : ActorId) (c : ℕ) (line : Line) (log : List Line) → Wrote a line → (a.0 == c) ≡ false → ended c (line ∷ log) ≡ ended c log
other_ended a c line log (Asks b r told took) e = refl
other_ended a c line log (Begins x) e = refl
other_ended a c line log (Ends r) e = rw e refl
other_ended a c line log (Parts g kind) e = refl
other_ended a c line log (Heals g kind r) e = refl

-- what an actor is at goes over a line that changes neither its work nor its place
module _ (p : Plan) (c : ℕ) (line : Line) (log : List Line) (old new : List Serving)
    (same_work : work c (line ∷ log) ≡ work c log) (same_place : place_of c (line ∷ log) ≡ place_of c log) (same_ended : ended c (line ∷ log) ≡ ended c log)
    (stands : (r : Register) → Stood p.shape c log r → Stood p.shape c (line ∷ log) r) (found : (epochs : Epochs) → AreFound c epochs old → AreFound c epochs new) where
  noted_on : (met : Bool) (r : Register) → IsNoted met p.shape c log r → IsNoted met p.shape c (line ∷ log) r
  noted_on true r k = (same_place ∙ k.0, stands r k.1)
  noted_on false r k = (same_place ∙ k.0, k.1)

  carries_on : (met : Bool) (epochs : Epochs) (w : WorkMachine) → CarriesOutCommand p c log met epochs old w → CarriesOutCommand p c (line ∷ log) met epochs new w
  carries_on met epochs w k = record {
    command = k.command;
    present = rw same_ended k.present;
    sound = k.sound;
    five = k.five;
    shape = k.shape;
    noted = noted_on met (register_of w) k.noted;
    sessions = session_on met c epochs old new (found epochs) k.sessions;
    tells = subst (WorkTells p k.command w) (sym same_work) k.tells;
  }

  pub stays : (met : Bool) (epochs : Epochs) (w : WorkMachine) → Carries p c log met epochs old w → Carries p c (line ∷ log) met epochs new w
  stays met epochs Idle k = record { unmet = k.unmet; fresh = same_place ∙ k.fresh; none = same_work ∙ k.none }
  stays met epochs (Lookup m) k = carries_on met epochs (Lookup m) k
  stays met epochs (Write m) k = carries_on met epochs (Write m) k
  stays met epochs (Entry m) k = carries_on met epochs (Entry m) k
  stays met epochs (Rename m) k = carries_on met epochs (Rename m) k

-- every other actor is as it was after a line
pub others_stay : (p : Plan) (a : ActorId) (c : ℕ) (line : Line) (log : List Line) (old new : List Serving) (x : Actor) → Wrote a line → (a.0 == c) ≡ false
    → ((r : Register) → Stood p.shape c log r → Stood p.shape c (line ∷ log) r) → ((epochs : Epochs) → AreFound c epochs old → AreFound c epochs new) → IsActing p log c old x → IsActing p (line ∷ log) c new x
others_stay p a c line log old new x w e stands found k = record {
  ended_is = k.ended_is ∙ sym (other_ended a c line log w e);
  killed_is = k.killed_is ∙ sym (wrote_killed a c line log w);
  carries = stays p c line log old new (other_work a c line log w e) (other_place a c line log w e) (other_ended a c line log w e) stands found x.visit.met x.visit.epochs x.work k.carries;
  unpicked = λ none. absurd (cc none);
  reads = reading_stays p c line log x.visit.met x.picked x.work (wrote_other a c line w e) (other_work a c line log w e) (other_ended a c line log w e) k.reads;
}

-- ---- one line
-- what the line of a client keeps; it keeps to its command whether the healers crawl or not
pub record LineKeeps (p : Plan) (a : ActorId) (log : List Line) (line : Line) (y : Actor) (old new : List Serving) : Type 0 where
  pub honest : IsHonest p line log
  pub lawful : IsLawfulExactly p (line ∷ log)
  pub served : AreServed p (line ∷ log) new
  pub keeps : (crawl : Bool) → KeepsToTask crawl p a.0 line log
  pub replied : IsReplied p line log
  pub blamed : Blames p line log
  pub names : IsKept p line log
  pub wrote : Wrote a line
  pub acting : IsActing p (line ∷ log) a.0 new y
  pub stands : (c : ℕ) (r : Register) → (a.0 ≡ c → ⊥) → Stood p.shape c log r → Stood p.shape c (line ∷ log) r
  pub found : (c : ℕ) (epochs : Epochs) → c ≢ a.0 → AreFound c epochs old → AreFound c epochs new

pub some_same : (c d : Command) → Some c ≡ Some d → c ≡ d
some_same c d e = cc e

-- a line of a client is about what its present command names; a client has no rounds
pub of_client : (p : Plan) (a : ActorId) (line : Line) (log : List Line) (command : Command) → a.0 ≤ 16 → slice_get (script_of p a.0) (ended a.0 log) ≡ Some command → IsOf p command line (work a.0 log) → IsOfTask p a line log
of_client p a line log command client present about = record {
  command = λ c is. subst (λ (c : Command). IsOf p c line (work a.0 log)) (some_same command c (sym present ∙ is)) about;
  round = λ healer. absurd (omega (arith, healer, client));
}

-- ---- what no command does, no part of a rename does
pub asks_none : (p : Plan) (c : Command) (a : ActorId) (b : BrickId) (asked : Request) (told : Told) (took : Bool) (w : Lines) → ((d : Command) (v : Lines) → IsAbout p d (Ask a b asked told took) v → ⊥) → IsOf p c (Ask a b asked told took) w → ⊥
asks_none p (command.Write path at bytes) a b asked told took w none k = none (command.Write path at bytes) w k
asks_none p (command.Cut path len) a b asked told took w none k = none (command.Cut path len) w k
asks_none p (command.Read path at len) a b asked told took w none k = none (command.Read path at len) w k
asks_none p (command.Create path) a b asked told took w none k = none (command.Create path) w k
asks_none p (command.Mkdir path) a b asked told took w none k = none (command.Mkdir path) w k
asks_none p (command.Unlink path) a b asked told took w none k = none (command.Unlink path) w k
asks_none p (command.Rmdir path) a b asked told took w none k = none (command.Rmdir path) w k
asks_none p (command.Ls path) a b asked told took w none k = none (command.Ls path) w k
asks_none p (command.Stat path) a b asked told took w none k = none (command.Stat path) w k
asks_none p (command.SetAttr path key value) a b asked told took w none k = none (command.SetAttr path key value) w k
asks_none p (command.GetAttr path key) a b asked told took w none k = none (command.GetAttr path key) w k
asks_none p (command.Rename from to) a b asked told took w none k = by_part (part_at from (Ask a b asked told took) w) k
  where
    by_part : (part : Part) → IsOfPart part p from to (Ask a b asked told took) w → ⊥
    by_part Walks k = none (command.Stat from) (the_walk from w) k
    by_part Makes k = none (command.Create to) (the_make from w) k.1
    by_part Removes k = none (command.Unlink from) (the_removal from w) k.2

pub ends_none : (p : Plan) (c : Command) (a : ActorId) (g : Gfid) (kind : Kind) (said : HealReply) (position : ℕ) (w : Lines) → KeepsToCommand p c (HealEnd a g kind said) position w → ⊥
ends_none p (command.Write path at bytes) a g kind said position w k = k
ends_none p (command.Cut path len) a g kind said position w k = k
ends_none p (command.Read path at len) a g kind said position w k = k
ends_none p (command.Create path) a g kind said position w k = k
ends_none p (command.Mkdir path) a g kind said position w k = k
ends_none p (command.Unlink path) a g kind said position w k = k
ends_none p (command.Rmdir path) a g kind said position w k = k
ends_none p (command.Ls path) a g kind said position w k = k
ends_none p (command.Stat path) a g kind said position w k = k
ends_none p (command.SetAttr path key value) a g kind said position w k = k
ends_none p (command.GetAttr path key) a g kind said position w k = k
ends_none p (command.Rename from to) a g kind said position w k = by_part (part_at from (HealEnd a g kind said) w) k
  where
    by_part : (part : Part) → KeepsToPart part p from to (HealEnd a g kind said) position w → ⊥
    by_part Walks k = k
    by_part Makes k = k
    by_part Removes k = k
