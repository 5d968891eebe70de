-- A server of a log to which an event comes is the server of the log with that event.
use Rattle.std.proofs.Common.{◌≡◌, ℕ, suc, Bool, true, false, List, [], ◌∷◌, refl, sym, ap, ◌∙◌, arith, length, if◌then◌else◌, ◌==◌, ◌&&◌, ◌||◌, not}
use Rattle.std.proofs.lemmas.Bool.Decides.{nat_tests}
use Rattle.std.proofs.lemmas.List.{append-nil}
use Rattle.std.specs.List.{filter}
use Rattle.afr_base.specs.Bricks.{member}
use Rattle.afr_base.specs.SetLemmas.{member_added, member_removed}
use Rattle.afr_base.specs.declared.ids.ActorId.{ActorId}
use Rattle.afr_object.specs.State.{Copies}
use Rattle.afr_faults.specs.Planned.{Planned, fault_at}
use Rattle.afr_lines.specs.declared.line.Event.{Event}
use Rattle.afr_lines.specs.declared.line.Event.TheVariants.{Stop, Start, Cut, Join, Kill}
use Rattle.afr_lines.specs.declared.line.Line.{Line}
use Rattle.afr_lines.specs.declared.line.Line.TheVariants as line_of
use Rattle.afr_lines.specs.declared.request.Area.{Area}
use Rattle.afr_model.specs.Locks.{locks_held, outlives}
use Rattle.afr_model.specs.Report.{started_after, started_bricks}
use Rattle.afr_model.specs.Sessions.{is_joined, is_linked}
use Rattle.afr_name_locks.specs.declared.names.DirName.{DirName}
use Rattle.afr_plan.specs.declared.plan.Plan.{Plan}
use Rattle.afr_lines.specs.Locks.{without_owner}
use Rattle.afr_lines.specs.declared.lock.HeldLock.{HeldLock}
use Rattle.afr_range_locks.specs.declared.ranges.ObjectRange.{ObjectRange}
use Rattle.afr_session.specs.Links.{cut_off, ended, joined, link_of}
use Rattle.afr_session.specs.declared.link.Link.{Link}
use Rattle.afr_server.specs.Happening.{Meets, link_past, locks_past, started_past}
use Rattle.afr_server.proofs.LinkLemmas.{opened_if, up_if}
use Rattle.afr_server.proofs.LockLemmas.{locks_next, names-filter, ranges-filter}
use Rattle.afr_server.proofs.ListLemmas.{filter_true}
use Rattle.afr_server.specs.Log.{IsLinked, IsServed, names_in, ranges_in}
use Rattle.afr_server.specs.Serving.{Serving}
use Rattle.afr_model_moves.proofs.Tests.{and_choice, or_choice}

-- ---- locks
none : (u : Bool) → not (u && false) ≡ true
none true = refl
none false = refl

gone : (a o : ℕ) → not (a == o) ≡ not (o == a)
gone a o = grind (arith, nat_tests)

all : {A : Type 0} (xs : List A) → filter (λ x. false) xs ≡ []
all [] = refl
all (x ∷ xs) = all xs

gone_here : (a o : ℕ) → not ((a == o) && true) ≡ not (o == a)
gone_here a o = grind (arith, nat_tests)

ranges_stop : (q : Bool) (held : List (HeldLock Area)) → ranges_in (filter (λ lock. true && not q) held) ≡ (if q then [] else ranges_in held)
ranges_stop true held = ap ranges_in (all held)
ranges_stop false held = ap ranges_in (filter_true (λ lock. true) held (λ lock. refl))

ranges_cut : (a : ActorId) (q : Bool) (held : List (HeldLock Area)) → ranges_in (filter (λ lock. true && not ((a.0 == lock.owner.0) && q)) held) ≡ (if q then without_owner a (ranges_in held) else ranges_in held)
ranges_cut a true held = ranges-filter (λ lock. true && not ((a.0 == lock.owner.0) && true)) (λ lock. not (lock.owner.0 == a.0)) (λ o d g from to. gone_here a.0 o.0) held
ranges_cut a false held = ap ranges_in (filter_true (λ lock. true && not ((a.0 == lock.owner.0) && false)) held (λ lock. none (a.0 == lock.owner.0)))

ranges_event : (event : Event) (b : ℕ) (held : List (HeldLock Area)) → ranges_in (locks_next (line_of.Event event) b held) ≡ locks_past event b (ranges_in held)
ranges_event (Stop y) b held = ap ranges_in (append-nil (filter (outlives (line_of.Event (Stop y)) b) held)) ∙ ranges_stop (y.0 == b) held
ranges_event (Start y) b held = ap ranges_in (append-nil (filter (outlives (line_of.Event (Start y)) b) held)) ∙ ranges_stop false held
ranges_event (Cut a y) b held = ap ranges_in (append-nil (filter (outlives (line_of.Event (Cut a y)) b) held)) ∙ ranges_cut a (y.0 == b) held
ranges_event (Join a y) b held = ap ranges_in (append-nil (filter (outlives (line_of.Event (Join a y)) b) held)) ∙ ranges_stop false held
ranges_event (Kill a) b held = ap ranges_in (append-nil (filter (outlives (line_of.Event (Kill a)) b) held)) ∙ ranges-filter (λ lock. true && not (a.0 == lock.owner.0)) (λ lock. not (lock.owner.0 == a.0)) (λ o d g from to. gone a.0 o.0) held

names_stop : (q : Bool) (held : List (HeldLock Area)) → names_in (filter (λ lock. true && not q) held) ≡ (if q then [] else names_in held)
names_stop true held = ap names_in (all held)
names_stop false held = ap names_in (filter_true (λ lock. true) held (λ lock. refl))

names_cut : (a : ActorId) (q : Bool) (held : List (HeldLock Area)) → names_in (filter (λ lock. true && not ((a.0 == lock.owner.0) && q)) held) ≡ (if q then without_owner a (names_in held) else names_in held)
names_cut a true held = names-filter (λ lock. true && not ((a.0 == lock.owner.0) && true)) (λ lock. not (lock.owner.0 == a.0)) (λ o d g name. gone_here a.0 o.0) held
names_cut a false held = ap names_in (filter_true (λ lock. true && not ((a.0 == lock.owner.0) && false)) held (λ lock. none (a.0 == lock.owner.0)))

names_event : (event : Event) (b : ℕ) (held : List (HeldLock Area)) → names_in (locks_next (line_of.Event event) b held) ≡ locks_past event b (names_in held)
names_event (Stop y) b held = ap names_in (append-nil (filter (outlives (line_of.Event (Stop y)) b) held)) ∙ names_stop (y.0 == b) held
names_event (Start y) b held = ap names_in (append-nil (filter (outlives (line_of.Event (Start y)) b) held)) ∙ names_stop false held
names_event (Cut a y) b held = ap names_in (append-nil (filter (outlives (line_of.Event (Cut a y)) b) held)) ∙ names_cut a (y.0 == b) held
names_event (Join a y) b held = ap names_in (append-nil (filter (outlives (line_of.Event (Join a y)) b) held)) ∙ names_stop false held
names_event (Kill a) b held = ap names_in (append-nil (filter (outlives (line_of.Event (Kill a)) b) held)) ∙ names-filter (λ lock. true && not (a.0 == lock.owner.0)) (λ lock. not (lock.owner.0 == a.0)) (λ o d g name. gone a.0 o.0) held

-- ---- links
still_live : (j : Bool) → j ≡ ((j || false) && true)
still_live true = refl
still_live false = refl

ended_when : (c : Bool) (x y : Link) → x.live ≡ false → (if c then x else y).live ≡ ((y.live || false) && not c)
ended_when true x y e = e ∙ gone y.live
  where
    gone : (u : Bool) → false ≡ ((u || false) && false)
    gone true = refl
    gone false = refl
ended_when false x y e = still_live y.live

kept_when : (c : Bool) (x y : Link) → x.live ≡ y.live → (if c then x else y).live ≡ y.live
kept_when true x y e = e
kept_when false x y e = refl

-- only the link of this actor and this brick changes
twice : (c q : Bool) (x y : Link) → (if q then (if c then x else y) else y) ≡ (if c && q then x else y)
twice true true x y = refl
twice true false x y = refl
twice false true x y = refl
twice false false x y = refl

up_cut : (c up : Bool) (l : Link) → l.up ≡ up → (if c then cut_off l else l).up ≡ (if c then false else up)
up_cut true up l e = refl
up_cut false up l e = e

up_joined : (c up : Bool) (l : Link) → l.up ≡ up → (if c then joined l else l).up ≡ (if c then true else up)
up_joined true up l e = refl
up_joined false up l e = e

-- the sessions of this actor end where c holds
live_ends : (c was : Bool) (x l : Link) → l.live ≡ was → x.live ≡ false → (if c then x else l).live ≡ ((was || false) && not c)
live_ends c was x l e f = ended_when c x l f ∙ ap (λ (u : Bool). (u || false) && not c) e

link_event : (p : Plan) (log : List Line) (event : Event) (b x : ℕ) (l : Link) → IsLinked p log b x l → IsLinked p (line_of.Event event ∷ log) b x (link_past event b x l)
link_event p log (Stop y) b x l was =
    record {
      up = up_if (y.0 == b) (ended l) l refl ∙ was.up;
      live = live_ends (y.0 == b) (is_joined p x b log) (ended l) l was.live refl;
      opened = opened_if (y.0 == b) (ended l) l (suc (length log)) (omega (arith, was.opened)) (omega (arith, was.opened));
    }
link_event p log (Start y) b x l was = record { up = was.up; live = was.live ∙ still_live (is_joined p x b log); opened = omega (arith, was.opened) }
link_event p log (Cut a y) b x l was =
    rw (twice (a.0 == x) (y.0 == b) (cut_off l) l) (record {
      up = up_cut ((a.0 == x) && (y.0 == b)) (is_linked x b log) l was.up;
      live = live_ends ((a.0 == x) && (y.0 == b)) (is_joined p x b log) (cut_off l) l was.live refl;
      opened = opened_if ((a.0 == x) && (y.0 == b)) (cut_off l) l (suc (length log)) (omega (arith, was.opened)) (omega (arith, was.opened));
    })
link_event p log (Join a y) b x l was =
    rw (twice (a.0 == x) (y.0 == b) (joined l) l) (record {
      up = up_joined ((a.0 == x) && (y.0 == b)) (is_linked x b log) l was.up;
      live = kept_when ((a.0 == x) && (y.0 == b)) (joined l) l refl ∙ was.live ∙ still_live (is_joined p x b log);
      opened = opened_if ((a.0 == x) && (y.0 == b)) (joined l) l (suc (length log)) (omega (arith, was.opened)) (omega (arith, was.opened));
    })
link_event p log (Kill a) b x l was =
    record {
      up = up_if (a.0 == x) (ended l) l refl ∙ was.up;
      live = live_ends (a.0 == x) (is_joined p x b log) (ended l) l was.live refl;
      opened = opened_if (a.0 == x) (ended l) l (suc (length log)) (omega (arith, was.opened)) (omega (arith, was.opened));
    }

-- ---- started bricks
started_event : (event : Event) (b : ℕ) (s : List ℕ) → started_past event b (member s b) ≡ member (started_after event s) b
started_event (Stop y) b s = rw (member_removed y.0 s b) (and_choice (y.0 == b) (member s b))
started_event (Start y) b s = rw (member_added y.0 s b) (or_choice (y.0 == b) (member s b))
started_event (Cut a y) b s = refl
started_event (Join a y) b s = refl
started_event (Kill a) b s = refl

-- an event came to the brick
pub served_event : (p : Plan) (log : List Line) (event : Event) (b : ℕ) (s s' : Serving) → IsServed p log b s → Meets event b s s' → IsServed p (line_of.Event event ∷ log) b s'
served_event p log event b s s' v m =
    record {
      keeps = ap (λ (c : Copies). c.keeps) m.copies ∙ v.keeps;
      objects = ap (λ (c : Copies). c.objects) m.copies ∙ v.objects;
      ranges = m.ranges ∙ ap (λ (held : List (HeldLock ObjectRange)). locks_past event b held) v.ranges ∙ sym (ranges_event event b (locks_held b log));
      names = m.names ∙ ap (λ (held : List (HeldLock DirName)). locks_past event b held) v.names ∙ sym (names_event event b (locks_held b log));
      started = m.started ∙ ap (λ (was : Bool). started_past event b was) v.started ∙ started_event event b (started_bricks p.shape.n log);
      links = λ x small. rw (m.links x) (link_event p log event b x (link_of x s.links) (v.links x small));
      requests = ap (λ (f : Planned). f.requests) m.faults ∙ v.requests;
      planned = λ k. ap (λ (f : Planned). fault_at k f) m.faults ∙ v.planned k;
    }
