-- Epochs rise: what was opened stays counted, and a session that becomes live is a new one.
use Rattle.std.proofs.Common.{◌≡◌, ℕ, ◌<◌, ◌≤◌, ◌==◌, Bool, true, false, List, [], ◌∷◌, Some, None, cond, refl, arith, inl, inr, ◌⊎◌}
use Rattle.afr_session.specs.Calls.{Call, EpochsRise, Makes, link_after}
use Rattle.afr_session.specs.Calls.Call.{Meet, End, Cut, Join, Stop, Start}
use Rattle.afr_session.specs.Links.{Links, cut_off, ended, joined, link_of, live_epoch, met, opened_once, opens}
use Rattle.afr_session.specs.declared.link.Link.{Link}

-- a live session's epoch is the last that was opened
live_by : (live : Bool) (n e : ℕ) → cond live (Some n) None ≡ Some e → n ≡ e
live_by true n e h = cc
live_by false n e h = absurd (cc)

pub live_is_last : (l : Link) (e : ℕ) → live_epoch l ≡ Some e → l.opened ≡ e
live_is_last l e h = live_by l.live l.opened e h

-- what one step leaves: no epoch is uncounted, and a live session was live before or is a new one
pub record Rises (before after : Link) : Type 0 where
  pub counted : before.opened ≤ after.opened
  pub new : (e : ℕ) → live_epoch after ≡ Some e → (live_epoch before ≡ Some e) ⊎ (before.opened < e)

as_was : (l : Link) → Rises l l
as_was l = record { counted = omega arith; new = λ e h. inl h }

lower : (l after : Link) → after.opened ≡ l.opened → after.live ≡ false → Rises l after
lower l after same dead = record { counted = omega (arith, same); new = λ e h. absurd (dead_has_none after.live after.opened e dead h) }
  where
    dead_has_none : (live : Bool) (n e : ℕ) → live ≡ false → cond live (Some n) None ≡ Some e → ⊥
    dead_has_none true n e d h = cc
    dead_has_none false n e d h = cc

met_rises : (started : Bool) (l : Link) → Rises l (met started l)
met_rises started l = by_opening (opens started l)
  where
    by_opening : (o : Bool) → Rises l (cond o (opened_once l) l)
    by_opening true = record { counted = omega arith; new = λ e h. inr (omega (arith, live_is_last (opened_once l) e h)) }
    by_opening false = as_was l

only_rises : (here : Bool) (f : Link → Link) (l : Link) → Rises l (f l) → Rises l (cond here (f l) l)
only_rises true f l r = r
only_rises false f l r = as_was l

call_rises : (call : Call) (started : Bool) (x : ℕ) (l : Link) → Rises l (link_after call started x l)
call_rises (Meet a) started x l = only_rises (a == x) (met started) l (met_rises started l)
call_rises (End a) started x l = only_rises (a == x) ended l (lower l (ended l) refl refl)
call_rises (Cut a) started x l = only_rises (a == x) cut_off l (lower l (cut_off l) refl refl)
call_rises (Join a) started x l = only_rises (a == x) joined l (record { counted = omega arith; new = λ e h. inl h })
call_rises Stop started x l = lower l (ended l) refl refl
call_rises Start started x l = as_was l

after_both : (l m n : Link) → Rises l m → Rises m n → Rises l n
after_both l m n first second = record { counted = omega (arith, first.counted, second.counted); new = λ e h. by_new e (second.new e h) }
  where
    by_new : (e : ℕ) → (live_epoch m ≡ Some e) ⊎ (m.opened < e) → (live_epoch l ≡ Some e) ⊎ (l.opened < e)
    by_new e (inl h) = first.new e h
    by_new e (inr more) = inr (omega (arith, more, first.counted))

pub calls_rise : (calls : List Call) (old new : Links) (x : ℕ) → Makes calls old new → Rises (link_of x old) (link_of x new)
calls_rise [] old new x same = rw same (as_was (link_of x old))
calls_rise (call ∷ earlier) old new x (between, made, does) =
    after_both (link_of x old) (link_of x between) (link_of x new) (calls_rise earlier old between x made) (rw (does.links x) (call_rises call between.started x (link_of x between)))

pub epochs_rise : EpochsRise
epochs_rise a epoch later calls more first second third made made_more was isnt is =
    by_new ((calls_rise more second third a made_more).new later is)
  where
    at_most : (m n : ℕ) → m ≤ n → (m < n) ⊎ (m ≡ n)
    at_most m n l = grind arith

    below : live_epoch (link_of a second) ≡ Some later → (epoch < later) ⊎ (epoch ≡ later) → epoch < later
    below h (inl less) = less
    below h (inr same) = absurd (isnt (rw same h))

    counted : epoch ≤ (link_of a second).opened
    counted = omega (arith, live_is_last (link_of a first) epoch was, (calls_rise calls first second a made).counted)

    by_new : (live_epoch (link_of a second) ≡ Some later) ⊎ ((link_of a second).opened < later) → epoch < later
    by_new (inl h) = below h (at_most epoch later (omega (arith, counted, live_is_last (link_of a second) later h)))
    by_new (inr above) = omega (arith, above, counted)
