-- A request that fails by the plan, and one whose answer is lost after it was carried out.
use Rattle.std.proofs.Common.{◌≡◌, ℕ, Bool, true, false, Option, Some, None, refl, ap, ◌∙◌, ◌==◌, if◌then◌else◌}
use Rattle.afr_base.specs.declared.ids.ActorId.{ActorId}
use Rattle.afr_lines.specs.Locks.{without_owner}
use Rattle.afr_lines.specs.declared.answer.Answer.TheVariants.{Failed, NotConnected}
use Rattle.afr_lines.specs.declared.fault.Fault.{Fault}
use Rattle.afr_lines.specs.declared.fault.Fault.TheVariants.{Fail, Lost}
use Rattle.afr_lines.specs.declared.line.Line.{Line}
use Rattle.afr_lines.specs.declared.request.Request.{Request}
use Rattle.afr_model.specs.Honest.{RequestOutcome}
use Rattle.afr_model.specs.Tables.{Past, asked}
use Rattle.afr_object.specs.State.{Copies}
use Rattle.afr_object.specs.declared.change.Load.{Load}
use Rattle.std.specs.Prelude.{List}
use Rattle.afr_session.specs.Calls.{Does, only}
use Rattle.afr_session.specs.Calls.Call.{End}
use Rattle.afr_session.specs.Links.{ended, link_of}
use Rattle.afr_session.specs.declared.link.Link.{Link}
use Rattle.afr_server.specs.Carried.{Brings}
use Rattle.afr_server.specs.Outcome.{Serves, counted, fails, link_served, loses, lost_if}
use Rattle.afr_server.specs.Serving.{Serving}
use Rattle.afr_server.specs.declared.server.Served.{Served}

-- what is planned to fail
pub failing : (fault : Option Fault) → fails fault ≡ true → fault ≡ Some Fail
failing None h = absurd (cc h)
failing (Some Fail) h = refl
failing (Some Lost) h = absurd (cc h)

-- what doesn't fail is lost or answered
pub losing : (fault : Option Fault) → fails fault ≡ false → lost_if (loses fault) ≡ fault
losing None h = refl
losing (Some Fail) h = absurd (cc h)
losing (Some Lost) h = refl

-- a request that fails is counted, and changes nothing else
pub failed : (first : Bool) (a : ActorId) (request : Request) (load : Load) (old new : Serving) (given : Served)
    → given ≡ record { answer = Failed; took = false }
    → new ≡ record old { links = new.links; faults = counted old.faults }
    → new.links.started ≡ old.links.started
    → ((x : ℕ) → link_of x new.links ≡ only a.0 x (link_served first false old.links.started) (link_of x old.links))
    → Serves first true (Some Fail) a request load old new given
failed first a request load old new given is same started links = record {
  outcome = λ older past brings. rw is refl;
  full = λ older past live none brings. absurd (cc none);
  copies = λ older past brings. rw is (ap (λ (s : Serving). s.copies) same);
  ranges = ap (λ (s : Serving). s.ranges) same;
  names = ap (λ (s : Serving). s.names) same;
  started = started;
  links = links;
  faults = ap (λ (s : Serving). s.faults) same;
}

twice : (b : Bool) (f g : Link → Link) (l : Link) → (if b then g (if b then f l else l) else (if b then f l else l)) ≡ (if b then g (f l) else l)
twice true f g l = refl
twice false f g l = refl

-- one whose answer is lost leaves what it would have left, without its actor's session and locks
pub lost_after : (first : Bool) (a : ActorId) (request : Request) (load : Load) (old mid new : Serving) (given lost : Served)
    → Serves first true None a request load old mid given
    → lost ≡ record { answer = NotConnected; took = true }
    → new ≡ record mid { links = new.links; ranges = without_owner a mid.ranges; names = without_owner a mid.names }
    → Does (End a.0) mid.links new.links
    → Serves first true (Some Lost) a request load old new lost
lost_after first a request load old mid new given lost was is same does = record {
  outcome = λ older past brings. rw is refl;
  full = λ older past live none brings. absurd (cc none);
  copies = λ older past brings. rw is (ap (λ (s : Serving). s.copies) same ∙ carried older past (brings refl));
  ranges = ap (λ (s : Serving). s.ranges) same ∙ ap (without_owner a) was.ranges;
  names = ap (λ (s : Serving). s.names) same ∙ ap (without_owner a) was.names;
  started = does.started ∙ was.started;
  links = λ x. does.links x ∙ ap (only a.0 x ended) (was.links x) ∙ twice (a.0 == x) (link_served first false old.links.started) ended (link_of x old.links);
  faults = ap (λ (s : Serving). s.faults) same ∙ was.faults;
}
  where
    chosen : (b : Bool) (x y : Copies) → b ≡ true → (if b then x else y) ≡ x
    chosen true x y h = refl
    chosen false x y h = absurd (cc h)

    carried : (older : List Line) (past : Past) → Brings request load older past → mid.copies ≡ record { keeps = old.copies.keeps; objects = asked old.copies.keeps request older past old.copies.objects }
    carried older past brings =
        was.copies older past (λ h. brings)
        ∙ chosen given.took _ old.copies (ap (λ (o : RequestOutcome). o.took) (was.outcome older past (λ h. brings)))
