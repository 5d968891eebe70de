-- What is noted of those who were told that another holds their lock follows the log.
use Rattle.std.proofs.Common.{◌≡◌, ◌≤◌, ◌<◌, ℕ, zero, suc, Bool, true, false, None, Some, List, [], ◌∷◌, length, get_or, set, get_or-set_same, get_or-set_other, length-set, replicate, inl, inr, refl, sym, subst, ap, arith, ◌∙◌, true≢false}
use Rattle.std.specs.Prelude.{is_some, nat_lt}
use Rattle.std.proofs.lemmas.Bool.{cases_eq, cases_lt, eqb-true}
use Rattle.std.proofs.lemmas.Bool.Decides.{nat_tests}
use Rattle.afr_base.specs.declared.ids.ActorId.{ActorId}
use Rattle.afr_crowd.specs.declared.held.Held.{Held}
use Rattle.afr_law_bound.specs.Ends.Cost.{is_held_back}
use Rattle.afr_law_bound.specs.Ends.Law.{AreEager, is_back}
use Rattle.afr_lines.specs.Work.{is_of}
use Rattle.afr_lines.specs.declared.answer.Told.TheVariants.{Held as HeldBy}
use Rattle.afr_lines.specs.declared.line.Line.TheVariants.{Ask, Begin, End, Event, HealBegin, HealEnd}
use Rattle.afr_lines.specs.declared.line.Line.{Line}
use Rattle.afr_lines.specs.declared.request.Request.TheVariants.{Lock}
use Rattle.afr_live.specs.Noted.{AreNoted, MayTakeTurn, noted_after, told_at}
use Rattle.afr_log.specs.Log.{waits_for}
use Rattle.afr_volume.specs.Going.{Goes, IsHappening, Later, Still}
use Rattle.afr_plan.specs.declared.plan.Plan.{Plan}
use Rattle.afr_lines.specs.declared.lock.Domain.TheVariants.{Work}
use Rattle.afr_volume.specs.State.{State}
use Rattle.afr_volume.specs.Turning.{AddsLine, Turns}
use Rattle.afr_volume.specs.declared.turned.Turned.{Turned}
use Rattle.afr_volume.specs.declared.turned.Turned.TheVariants.{Moved, Waits, Ended, Full}

-- ---- lines
-- a line tells so where it waits for somebody
held_back : (line : Line) → is_held_back line ≡ is_some (waits_for line)
held_back (Ask a b (Lock Work area) (HeldBy owner) took) = refl
held_back line = refl

-- a line has one actor
one_actor : (line : Line) (a b : ℕ) → is_of a line ≡ true → is_of b line ≡ true → b ≡ a
one_actor (Ask x y r told took) a b h k = sym (eqb-true x.0 b k) ∙ eqb-true x.0 a h
one_actor (Begin x change) a b h k = sym (eqb-true x.0 b k) ∙ eqb-true x.0 a h
one_actor (HealBegin x g kind) a b h k = sym (eqb-true x.0 b k) ∙ eqb-true x.0 a h
one_actor (End x said) a b h k = sym (eqb-true x.0 b k) ∙ eqb-true x.0 a h
one_actor (HealEnd x g kind said) a b h k = sym (eqb-true x.0 b k) ∙ eqb-true x.0 a h
one_actor (Event event) a b h k = absurd (true≢false (sym h))

-- ---- what is noted
zeros : (n a : ℕ) → ◌≡◌ {A = ℕ} (get_or (replicate n 0) a 0) 0
zeros zero a = refl
zeros (suc n) zero = refl
zeros (suc n) (suc a) = zeros n a

pub none_noted : (log : List Line) (held : Held) → log ≡ [] → held ≡ record { moved = 0; told = replicate 20 0 } → AreNoted log held
none_noted log held none is = rw (none, is) (record {
  many = refl;
  moved = omega arith;
  told = λ a. rw (none_told a) (omega arith);
  since = λ a low. rw (none_told a) refl;
})
  where
    none_told : (a : ℕ) → ◌≡◌ {A = ℕ} (get_or (replicate 20 0) a 0) 0
    none_told a = zeros 20 a

pub none_eager : (log : List Line) → log ≡ [] → AreEager log
none_eager log none = rw none tt

-- after another line nobody was told so since
late : (len told : ℕ) → told ≤ len → false ≡ nat_lt len told
late len told h = grind (arith, nat_tests)

pub noted_moved : (old older new : List Line) (line : Line) (held : Held) (len : ℕ) → new ≡ line ∷ older → is_held_back line ≡ false → length old ≤ length older → len ≡ length new → AreNoted old held → AreNoted new (record held { moved = len })
noted_moved old older new line held len is other grows size n = record {
  many = n.many;
  moved = omega (arith, size);
  told = λ a. (let t = n.told a in omega (arith, t, grows, ap length is));
  since = λ a low. subst (λ (log : List Line). is_back a log ≡ nat_lt len (told_at held a)) (sym is) (now a);
}
  where
    now : (a : ℕ) → is_back a (line ∷ older) ≡ nat_lt len (told_at held a)
    now a = rw other (late len (told_at held a) (let t = n.told a in omega (arith, t, grows, size, ap length is)))

soon : (moved len : ℕ) → moved < len → true ≡ nat_lt moved len
soon moved len h = grind (arith, nat_tests)

-- after a line that tells an actor so, it was
pub noted_held : (log new : List Line) (line : Line) (a : ℕ) (held : Held) (len : ℕ) → new ≡ line ∷ log → is_held_back line ≡ true → is_of a line ≡ true → a < 20 → len ≡ length new → AreNoted log held
    → AreNoted new (record held { told = set held.told a len })
noted_held log new line a held len is back mine low size n = record {
  many = length-set held.told a len ∙ n.many;
  moved = (let m = n.moved in omega (arith, m, ap length is));
  told = λ b. elim (cases_eq b a) [
    | inl same ↦ rw (here b same) (omega (arith, size))
    | inr differ ↦ rw (there b differ) (let t = n.told b in omega (arith, t, ap length is))
  ];
  since = λ b small. subst (λ (l : List Line). is_back b l ≡ nat_lt held.moved (get_or (set held.told a len) b 0)) (sym is) (now b small);
}
  where
    here : (b : ℕ) → b ≡ a → get_or (set held.told a len) b 0 ≡ len
    here b same = rw same (get_or-set_same held.told a len 0 (omega (arith, low, n.many)))

    there : (b : ℕ) → (b ≡ a → ⊥) → get_or (set held.told a len) b 0 ≡ get_or held.told b 0
    there b differ = get_or-set_other held.told a b len 0 differ

    other_line : (b : ℕ) (own : Bool) → is_of b line ≡ own → (b ≡ a → ⊥) → own ≡ false
    other_line b true e differ = absurd (differ (one_actor line a b mine e))
    other_line b false e differ = refl

    now : (b : ℕ) → b < 20 → is_back b (line ∷ log) ≡ nat_lt held.moved (get_or (set held.told a len) b 0)
    now b small = rw back (elim (cases_eq b a) [
      | inl same ↦ rw (here b same) (rw same (rw mine (soon held.moved len (let m = n.moved in omega (arith, m, size, ap length is)))))
      | inr differ ↦ rw (there b differ) (rw (other_line b (is_of b line) refl differ) (n.since b small))
    ])

-- ---- events
happened_grows : (old new : State) → IsHappening old new → length old.log ≤ length new.log
happened_grows old new Still = omega arith
happened_grows old new (Later mid _ h comes) = (let low = happened_grows old mid h in rw comes.added (omega (arith, low)))

event_noted : (old new : State) (held : Held) (len : ℕ) → IsHappening old new → length old.log < length new.log → len ≡ length new.log → AreNoted old.log held → AreNoted new.log (record held { moved = len })
event_noted old new held len Still more size n = absurd (omega (arith, more))
event_noted old new held len (Later mid _ h comes) more size n =
    noted_moved old.log mid.log new.log (Event comes.event) held len (ap (λ (s : State). s.log) comes.added) refl (happened_grows old mid h) size n

pub events_noted : (old new : State) (held held' : Held) (before len : ℕ) → Goes old new → IsHappening old new → before ≡ length old.log → len ≡ length new.log
    → (before < len → held' ≡ record held { moved = len }) → (len ≤ before → held' ≡ held) → AreNoted old.log held → AreNoted new.log held'
events_noted old new held held' before len goes h was size some none n = elim (cases_lt before len) [
  | inl more ↦ rw (some more) (event_noted old new held len h (omega (arith, more, was, size)) size n)
  | inr still ↦ rw (none still, goes.same (omega (arith, still, was, size))) n
]

pub events_eager : (old new : State) → IsHappening old new → AreEager old.log → AreEager new.log
events_eager old new Still eager = eager
events_eager old new (Later mid _ h comes) eager = rw comes.added ((λ held a own. absurd (true≢false (sym held))), events_eager old mid h eager)

pub events_free : (old new : State) (a : ℕ) → Goes old new → IsHappening old new → MayTakeTurn a old.plan old.log → MayTakeTurn a new.plan new.log
events_free old new a g Still may = may
events_free old new a g (Later mid _ h comes) may = inl (rw comes.added refl)

-- ---- a turn
turn_held : (a : ActorId) (old new : State) (owner : ActorId) (adds : AddsLine a old (Some owner) new) → is_held_back adds.line ≡ true
turn_held a old new owner adds = held_back adds.line ∙ ap is_some adds.waiting

turn_moved : (a : ActorId) (old new : State) (adds : AddsLine a old None new) → is_held_back adds.line ≡ false
turn_moved a old new adds = held_back adds.line ∙ ap is_some adds.waiting

-- what is noted after a turn
pub turn_noted : (a : ActorId) (old new : State) (turned : Turned) (held : Held) (len : ℕ) → Turns a old turned new → a.0 < 20 → len ≡ length new.log → AreNoted old.log held → AreNoted new.log (noted_after held a turned len)
turn_noted a old new Moved held len h low size n = noted_moved old.log old.log new.log h.line held len h.added (turn_moved a old new h) (omega arith) size n
turn_noted a old new (Waits owner) held len h low size n = noted_held old.log new.log h.line a.0 held len h.added (turn_held a old new owner h) h.own low size n
turn_noted a old new Ended held len h low size n = rw h.1 n
turn_noted a old new Full held len h low size n = rw h.2 n

-- who was told so may ask again only once another line has come
pub turn_eager : (a : ActorId) (old new : State) (turned : Turned) → Turns a old turned new → length new.log ≤ new.plan.turns → MayTakeTurn a.0 old.plan old.log → AreEager old.log → AreEager new.log
turn_eager a old new Moved h room may eager = subst AreEager (sym h.added) ((λ held b own. absurd (true≢false (sym held ∙ turn_moved a old new h))), eager)
turn_eager a old new (Waits owner) h room may eager = subst AreEager (sym h.added) ((λ held b own. rw (one_actor h.line a.0 b h.own own) free), eager)
  where
    free : is_back a.0 old.log ≡ false
    free = elim may [
      | inl is ↦ is
      | inr full ↦ absurd (omega (arith, full, room, ap length h.added, ap (λ (p : Plan). p.turns) h.plan))
    ]
turn_eager a old new Ended h room may eager = rw h.1 eager
turn_eager a old new Full h room may eager = rw h.2 eager
