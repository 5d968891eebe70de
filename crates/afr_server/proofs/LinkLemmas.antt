-- The links of a brick's actors after one more line.
use Rattle.std.proofs.Common.{◌≡◌, ℕ, suc, ◌≤◌, Bool, true, false, List, [], ◌∷◌, refl, sym, ap, ◌∙◌, arith, length, if◌then◌else◌, ◌==◌, ◌&&◌, ◌||◌, not, ◌⊎◌, inl, inr}
use Rattle.std.proofs.lemmas.Bool.Decides.{eqb_tells}
use Rattle.afr_base.specs.Bricks.{member}
use Rattle.afr_base.specs.SetLemmas.{member_added, member_removed}
use Rattle.afr_lines.specs.Work.{is_of}
use Rattle.afr_lines.specs.declared.line.Event.TheVariants.{Stop, Start, Cut, Join, Kill}
use Rattle.afr_lines.specs.declared.line.Event.{Event}
use Rattle.afr_lines.specs.declared.line.Line.{Line}
use Rattle.afr_lines.specs.declared.line.Line.TheVariants.{Ask, Begin, HealBegin, End, HealEnd}
use Rattle.afr_lines.specs.declared.line.Line.TheVariants as line_of
use Rattle.afr_model.specs.Report.{started_after, started_bricks}
use Rattle.afr_lines.specs.Places.{opens, place_of}
use Rattle.afr_model.specs.Sessions.{ends_session, event_ends, is_joined, is_linked, linked_after}
use Rattle.afr_plan.specs.declared.plan.Plan.{Plan}
use Rattle.afr_session.specs.Calls.{only}
use Rattle.afr_session.specs.Links.{ended, met, opened_once, opens as opens_link}
use Rattle.afr_session.specs.declared.link.Link.{Link}
use Rattle.afr_server.specs.Log.{IsLinked}
use Rattle.afr_server.specs.Outcome.{link_served}

-- ---- only actors that reach a brick have sessions with it
by_line : (j f o m l e : Bool) → ((j || (f && o && m && l)) && not e) ≡ true → (j ≡ true → (m && l) ≡ true) → (m && l) ≡ true
by_line true f o m l e h ih = ih refl
by_line false true true true true e h ih = refl
by_line false true true true false e h ih = absurd (cc)
by_line false true true false l e h ih = absurd (cc)
by_line false true false m l e h ih = absurd (cc)
by_line false false o m l e h ih = absurd (cc)

by_stop : (j m l q : Bool) → ((j || false) && not q) ≡ true → (j ≡ true → (m && l) ≡ true) → ((not q && m) && l) ≡ true
by_stop true m l false h ih = ih refl
by_stop true m l true h ih = absurd (cc)
by_stop false m l q h ih = absurd (cc)

by_start : (j m l q : Bool) → ((j || false) && true) ≡ true → (j ≡ true → (m && l) ≡ true) → ((q || m) && l) ≡ true
by_start true true true q h ih = or_true q
  where
    or_true : (q : Bool) → ((q || true) && true) ≡ true
    or_true true = refl
    or_true false = refl
by_start true true false q h ih = let k = ih refl in absurd (cc)
by_start true false l q h ih = let k = ih refl in absurd (cc)
by_start false m l q h ih = absurd (cc)

by_cut : (j m l q : Bool) → ((j || false) && not q) ≡ true → (j ≡ true → (m && l) ≡ true) → (m && (if q then false else l)) ≡ true
by_cut true m l false h ih = ih refl
by_cut true m l true h ih = absurd (cc)
by_cut false m l q h ih = absurd (cc)

by_join : (j m l q : Bool) → ((j || false) && true) ≡ true → (j ≡ true → (m && l) ≡ true) → (m && (if q then true else l)) ≡ true
by_join true true l true h ih = refl
by_join true false l true h ih = ih refl
by_join true m l false h ih = ih refl
by_join false m l q h ih = absurd (cc)

by_kill : (j m l q : Bool) → ((j || false) && not q) ≡ true → (j ≡ true → (m && l) ≡ true) → (m && l) ≡ true
by_kill true m l q h ih = ih refl
by_kill false m l q h ih = absurd (cc)

by_event : (p : Plan) (a b : ℕ) (older : List Line) (event : Event) → ((is_joined p a b older || false) && not (event_ends a b event)) ≡ true
    → (is_joined p a b older ≡ true → (member (started_bricks p.shape.n older) b && is_linked a b older) ≡ true)
    → (member (started_after event (started_bricks p.shape.n older)) b && linked_after a b event (is_linked a b older)) ≡ true
by_event p a b older (Stop y) h ih = rw (member_removed y.0 (started_bricks p.shape.n older) b) (by_stop (is_joined p a b older) (member (started_bricks p.shape.n older) b) (is_linked a b older) (y.0 == b) h ih)
by_event p a b older (Start y) h ih = rw (member_added y.0 (started_bricks p.shape.n older) b) (by_start (is_joined p a b older) (member (started_bricks p.shape.n older) b) (is_linked a b older) (y.0 == b) h ih)
by_event p a b older (Cut x y) h ih = by_cut (is_joined p a b older) (member (started_bricks p.shape.n older) b) (is_linked a b older) ((x.0 == a) && (y.0 == b)) h ih
by_event p a b older (Join x y) h ih = by_join (is_joined p a b older) (member (started_bricks p.shape.n older) b) (is_linked a b older) ((x.0 == a) && (y.0 == b)) h ih
by_event p a b older (Kill x) h ih = by_kill (is_joined p a b older) (member (started_bricks p.shape.n older) b) (is_linked a b older) (x.0 == a) h ih

-- an actor with a session reaches the brick
pub joined_reached : (p : Plan) (a b : ℕ) (log : List Line) → is_joined p a b log ≡ true → (member (started_bricks p.shape.n log) b && is_linked a b log) ≡ true
joined_reached p a b [] h = absurd (cc)
joined_reached p a b (Ask x y r told took ∷ older) h = by_line (is_joined p a b older) (x.0 == a) (opens (place_of a older) (Ask x y r told took)) (member (started_bricks p.shape.n older) b) (is_linked a b older) (ends_session a b (Ask x y r told took)) h (joined_reached p a b older)
joined_reached p a b (Begin x change ∷ older) h = by_line (is_joined p a b older) (x.0 == a) (opens (place_of a older) (Begin x change)) (member (started_bricks p.shape.n older) b) (is_linked a b older) (ends_session a b (Begin x change)) h (joined_reached p a b older)
joined_reached p a b (HealBegin x g kind ∷ older) h = by_line (is_joined p a b older) (x.0 == a) (opens (place_of a older) (HealBegin x g kind)) (member (started_bricks p.shape.n older) b) (is_linked a b older) (ends_session a b (HealBegin x g kind)) h (joined_reached p a b older)
joined_reached p a b (End x reply ∷ older) h = by_line (is_joined p a b older) (x.0 == a) (opens (place_of a older) (End x reply)) (member (started_bricks p.shape.n older) b) (is_linked a b older) (ends_session a b (End x reply)) h (joined_reached p a b older)
joined_reached p a b (HealEnd x g kind reply ∷ older) h = by_line (is_joined p a b older) (x.0 == a) (opens (place_of a older) (HealEnd x g kind reply)) (member (started_bricks p.shape.n older) b) (is_linked a b older) (ends_session a b (HealEnd x g kind reply)) h (joined_reached p a b older)
joined_reached p a b (line_of.Event event ∷ older) h = by_event p a b older event h (joined_reached p a b older)

-- ---- a line that is no event
-- a choice of two links, field by field
pub up_if : (c : Bool) (x y : Link) → x.up ≡ y.up → (if c then x else y).up ≡ y.up
up_if true x y e = e
up_if false x y e = refl

pub opened_if : (c : Bool) (x y : Link) (n : ℕ) → x.opened ≤ n → y.opened ≤ n → (if c then x else y).opened ≤ n
opened_if true x y n h k = h
opened_if false x y n h k = k

ended_if : (c : Bool) (l : Link) → (if c then ended l else l).live ≡ (l.live && not c)
ended_if true l = gone l.live
  where
    gone : (u : Bool) → false ≡ (u && false)
    gone true = refl
    gone false = refl
ended_if false l = stays l.live
  where
    stays : (u : Bool) → u ≡ (u && true)
    stays true = refl
    stays false = refl

met_if : (first started up live : Bool) (n : ℕ) → (if first then met started (record { up = up; live = live; opened = n }) else (record { up = up; live = live; opened = n })).live ≡ (live || (true && first && started && up))
met_if true true true true n = refl
met_if true true true false n = refl
met_if true true false true n = refl
met_if true true false false n = refl
met_if true false up true n = refl
met_if true false up false n = refl
met_if false started up true n = refl
met_if false started up false n = refl

live_by : (first lost started : Bool) (l : Link) → (link_served first lost started l).live ≡ ((l.live || (true && first && started && l.up)) && not (true && lost))
live_by first lost started l = ended_if lost (if first then met started l else l) ∙ ap (λ (u : Bool). u && not lost) (met_if first started l.up l.live l.opened)

up_by : (first lost started : Bool) (l : Link) → (link_served first lost started l).up ≡ l.up
up_by first lost started l =
    let l' = if first then met started l else l in
    up_if lost (ended l') l' refl ∙ up_if first (met started l) l (up_if (opens_link started l) (opened_once l) l refl)

opened_by : (first lost started : Bool) (l : Link) (n : ℕ) → l.opened ≤ n → (link_served first lost started l).opened ≤ suc n
opened_by first lost started l n h = opened_if lost (ended l') l' (suc n) low low
  where
    l' : Link
    l' = if first then met started l else l

    low : l'.opened ≤ suc n
    low = opened_if first (met started l) l (suc n) (opened_if (opens_link started l) (opened_once l) l (suc n) (omega (arith, h)) (omega (arith, h))) (omega (arith, h))

other_live : (j : Bool) → ((j || false) && true) ≡ j
other_live true = refl
other_live false = refl

-- a line of actor a: it opens the session where it is a first one, and ends it where its answer is lost
pub link_line : (p : Plan) (log : List Line) (line : Line) (a b x : ℕ) (first lost started : Bool) (l : Link)
    → ((x : ℕ) → is_of x line ≡ (a == x)) → opens (place_of a log) line ≡ first → ((x : ℕ) → ends_session x b line ≡ ((a == x) && lost)) → ((x : ℕ) → is_linked x b (line ∷ log) ≡ is_linked x b log)
    → started ≡ member (started_bricks p.shape.n log) b → IsLinked p log b x l → IsLinked p (line ∷ log) b x (only a x (link_served first lost started) l)
link_line p log line a b x first lost started l by opened ends same begun was = go (eqb_tells a x)
  where
    go : ((a == x) ≡ true) × (a ≡ x) ⊎ ((a == x) ≡ false) × (a ≡ x → ⊥) → IsLinked p (line ∷ log) b x (only a x (link_served first lost started) l)
    go (inl e) =
        rw e.0 (record {
          up = up_by first lost started l ∙ was.up ∙ sym (same x);
          live =
              rw (by x, ends x, e.0, ← was.live, ← was.up, ← begun, ap (λ (n : ℕ). opens (place_of n log) line) (sym e.1) ∙ opened) (live_by first lost started l);
          opened = opened_by first lost started l (length log) was.opened;
        })
    go (inr e) =
        rw e.0 (record {
          up = was.up ∙ sym (same x);
          live = rw (by x, ends x, e.0) (was.live ∙ sym (other_live (is_joined p x b log)));
          opened = omega (arith, was.opened);
        })
