-- The epoch that an actor found at the first line of its work is that of its session, as long as the session is live.
use Rattle.std.proofs.Common.{◌≡◌, ℕ, ◌<◌, Bool, true, false, List, refl, sym, ◌∙◌, if◌then◌else◌, ◌==◌, ◌&&◌, Option}
use Rattle.afr_lines.specs.declared.line.Event.{Event}
use Rattle.afr_lines.specs.declared.line.Event.TheVariants.{Stop, Start, Cut, Join, Kill}
use Rattle.afr_lines.specs.declared.line.Line.{Line}
use Rattle.afr_plan.specs.declared.plan.Plan.{Plan}
use Rattle.afr_session.specs.Calls.{only}
use Rattle.afr_session.specs.Links.{cut_off, ended, epoch_met, joined, link_of}
use Rattle.afr_session.specs.declared.link.Link.{Link}
use Rattle.afr_server.specs.Happening.{link_past}
use Rattle.afr_server.proofs.LinkLemmas.{joined_reached}
use Rattle.afr_server.specs.Log.{Finds, IsServed}
use Rattle.afr_server.specs.Outcome.{link_served}
use Rattle.afr_server.specs.Serving.{Serving}

-- what a first line gives, after the request as well
first_by : (lost started up live : Bool) (n : ℕ) → (live ≡ true → (started && up) ≡ true) → Finds (epoch_met started (record { up = up; live = live; opened = n })) (link_served true lost started (record { up = up; live = live; opened = n }))
first_by true started up live n sound h = absurd (cc)
first_by false true true true n sound h = refl
first_by false true true false n sound h = refl
first_by false true false true n sound h = let e = sound refl in absurd (cc)
first_by false true false false n sound h = absurd (cc)
first_by false false true true n sound h = let e = sound refl in absurd (cc)
first_by false false true false n sound h = absurd (cc)
first_by false false false true n sound h = let e = sound refl in absurd (cc)
first_by false false false false n sound h = absurd (cc)

pub first_finds : (p : Plan) (log : List Line) (b a : ℕ) (lost : Bool) (s : Serving) → a < 20 → IsServed p log b s → Finds (epoch_met s.links.started (link_of a s.links)) (link_served true lost s.links.started (link_of a s.links))
first_finds p log b a lost s small v = first_by lost s.links.started (link_of a s.links).up (link_of a s.links).live (link_of a s.links).opened reached
  where
    reached : (link_of a s.links).live ≡ true → (s.links.started && (link_of a s.links).up) ≡ true
    reached live = rw (v.started, (v.links a small).up) (joined_reached p a b log (sym (v.links a small).live ∙ live))

-- ---- it stays so, whatever the actor asks within its work, whatever others ask, and whatever comes
pub kept_within : (epoch : Option ℕ) (c lost started : Bool) (l : Link) → Finds epoch l → Finds epoch (if c then link_served false lost started l else l)
kept_within epoch true true started l found = λ h. absurd (cc)
kept_within epoch true false started l found = found
kept_within epoch false lost started l found = found

pub kept_others : (epoch : Option ℕ) (a x : ℕ) (f : Link → Link) (l : Link) → (a == x) ≡ false → Finds epoch l → Finds epoch (only a x f l)
kept_others epoch a x f l other found = rw other found

ended_finds : (epoch : Option ℕ) (c : Bool) (l : Link) → Finds epoch l → Finds epoch (if c then ended l else l)
ended_finds epoch true l found = λ h. absurd (cc)
ended_finds epoch false l found = found

cut_finds : (epoch : Option ℕ) (q c : Bool) (l : Link) → Finds epoch l → Finds epoch (if q then (if c then cut_off l else l) else l)
cut_finds epoch true true l found = λ h. absurd (cc)
cut_finds epoch true false l found = found
cut_finds epoch false c l found = found

joined_finds : (epoch : Option ℕ) (q c : Bool) (l : Link) → Finds epoch l → Finds epoch (if q then (if c then joined l else l) else l)
joined_finds epoch true true l found = found
joined_finds epoch true false l found = found
joined_finds epoch false c l found = found

pub kept_event : (epoch : Option ℕ) (event : Event) (b x : ℕ) (l : Link) → Finds epoch l → Finds epoch (link_past event b x l)
kept_event epoch (Stop y) b x l found = ended_finds epoch (y.0 == b) l found
kept_event epoch (Start y) b x l found = found
kept_event epoch (Cut a y) b x l found = cut_finds epoch (y.0 == b) (a.0 == x) l found
kept_event epoch (Join a y) b x l found = joined_finds epoch (y.0 == b) (a.0 == x) l found
kept_event epoch (Kill a) b x l found = ended_finds epoch (a.0 == x) l found
