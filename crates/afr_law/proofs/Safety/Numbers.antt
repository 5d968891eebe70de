-- What the number of a register says: its attempt or piece, and the bricks that have it.
use Rattle.afr_lines.specs.declared.reply.Reply.{Reply}
use Rattle.std.specs.Prelude.{List as Seq, Option, None, Some, ◌==◌, if◌then◌else◌}
use Rattle.afr_lines.specs.declared.fault.Fault.TheVariants.{Fail, Lost}
use Rattle.afr_lines.specs.declared.fault.Fault.{Fault}
use Rattle.afr_base.specs.Bricks.{member, and_left}
use Rattle.std.proofs.Common.{◌≡◌, ℕ, suc, ◌<◌, ◌≤◌, Bool, true, false, ◌&&◌, ◌||◌, not, inl, inr, refl, sym, ap, ◌∙◌, subst, arith, true≢false}
use Rattle.std.proofs.lemmas.Bool.Decides.{nat_tests}
use Rattle.afr_base.specs.declared.ids.Kind.{Kind}
use Rattle.afr_object.specs.declared.entry.View.{View}
use Rattle.afr_object.specs.declared.change.Change.{Change}
use Rattle.afr_lines.specs.declared.lock.Domain.TheVariants.{Heal}
use Rattle.afr_lines.specs.declared.request.Area.{Area}
use Rattle.afr_lines.specs.declared.request.Request.{Request}
use Rattle.afr_lines.specs.declared.request.Request.TheVariants.{Lock, Apply}
use Rattle.afr_lines.specs.declared.answer.Told.{Told}
use Rattle.afr_lines.specs.declared.answer.Told.TheVariants.{Done}
use Rattle.afr_lines.specs.declared.line.Line.{Line}
use Rattle.afr_lines.specs.declared.line.Line.TheVariants.{Ask, Begin, HealBegin, End, HealEnd, Event}
use Rattle.afr_model_moves.specs.Sets.{with, without}
use Rattle.afr_model_moves.specs.Cells.{Cell}
use Rattle.afr_model_moves.specs.Past.{Beginning, Log, held, last, last_after, joined, opening, is_of, is_gone}
use Rattle.afr_model_moves.specs.Honest.{HonestAsk, HonestLine, Honest, asked}
use Rattle.afr_model_moves.specs.Rules.{Register, fresh, CoveredBy, SomeCell, PlaneIs, SeenFit, MayApply, MayPost, MayPre, MayBegin, begun, is_area, looked, viewed, looking, put_view, is_none, unlocked, released, locking, area_object, mend_cells, piece, note_ask, dropping, note, in_force, register, MayAsk, MayHealLock, MayHealBegin, Lawful, busy, second_of, second_freed, heal_freed}
use Rattle.afr_law.proofs.Safety.Standing.{Noted, noted, Grants, Waits, Frees, Tries, HealGrants, HealWaits, HealFrees, HealTries, Looks, Pres, Applies, Posts, Mends, Settles, Same}
use Rattle.afr_law.proofs.Safety.Registers.{Own, Asks, Begins, HealBegins, Ends, HealEnds, registers, MayOf}
use Rattle.afr_model_moves.specs.Lines.{ask_by, begin_by, heal_begin_by, end_by, pre_on, post_on}
use Rattle.afr_model_moves.proofs.Tests.{same_self, with_cases, no_number}

pub record Attempt (log : Log) (a q : ℕ) (area : Option Area) (pre : ℕ → Bool) : Type 0 where
  pub change : Change
  pub is : log q ≡ Some (begin_by a change)
  pub within : CoveredBy area change
  pub some : SomeCell area change
  pub fit : (x : ℕ) → pre x ≡ true → SeenFit log q a x change

pub record Applied (log : Log) (t a x q : ℕ) : Type 0 where
  pub m : ℕ
  pub is : log m ≡ Some (ask_by a x (Apply q) Done true)
  pub past : m < t

pub record Recorded (log : Log) (t a x q : ℕ) : Type 0 where
  pub p : ℕ
  pub g : ℕ
  pub kind : Kind
  pub missed : Seq ℕ
  pub is : log p ≡ Some (ask_by a x (post_on q g kind missed) Done true)
  pub past : p < t

-- a Pre of the attempt
pub record Prepared (log : Log) (t a x q : ℕ) : Type 0 where
  pub p : ℕ
  pub g : ℕ
  pub kind : Kind
  pub is : log p ≡ Some (ask_by a x (pre_on g kind) Done true)
  pub after : q < p
  pub past : p < t
  pub newest : last log p a ≡ suc q
  pub plane : PlaneIs (log q) g kind

prepared_later : (log : Log) (t a x q : ℕ) → Prepared log t a x q → Prepared log (suc t) a x q
prepared_later log t a x q w = record { p = w.p; g = w.g; kind = w.kind; is = w.is; after = w.after; past = omega (arith, w.past); newest = w.newest; plane = w.plane }

-- a HealBegin line of the actor
pub record Piece (log : Log) (a h : ℕ) : Type 0 where
  pub g : ℕ
  pub kind : Kind
  pub is : log h ≡ Some (heal_begin_by a g kind)

pub record Numbered (log : Log) (t a : ℕ) (r : Register) : Type 0 where
  pub newest : (q : ℕ) → r.number ≡ suc q → (q < t) × (last log t a ≡ suc q)
  pub attempt : (q : ℕ) → r.heal ≡ false → r.number ≡ suc q → Attempt log a q r.area r.pre
  pub piece : (h : ℕ) → r.heal ≡ true → r.number ≡ suc h → Piece log a h
  pub since : (h : ℕ) → r.number ≡ suc h → r.start ≤ suc h
  pub ready : (x : ℕ) → r.pre x ≡ true → r.seen x ≡ true
  pub acted : (x : ℕ) → r.done x ≡ true → r.pre x ≡ true
  pub applied : (q x : ℕ) → r.number ≡ suc q → r.done x ≡ true → Applied log t a x q
  pub prepared : (q x : ℕ) → r.heal ≡ false → r.number ≡ suc q → r.pre x ≡ true → Prepared log t a x q
  pub posted : (q x : ℕ) → r.number ≡ suc q → r.post x ≡ true → Recorded log t a x q
  pub idle : r.number ≡ 0 → (x : ℕ) → (r.pre x ≡ false) × (r.done x ≡ false) × (r.post x ≡ false)
  pub start_past : r.start ≤ t

pub numbered_fresh : (log : Log) (t a : ℕ) → Numbered log t a fresh
numbered_fresh log t a = record {
  newest = λ q e. absurd (cc);
  attempt = λ q out e. absurd (cc);
  piece = λ h inside e. absurd (cc);
  since = λ h e. absurd (cc);
  ready = λ x h. cc;
  acted = λ x h. cc;
  applied = λ q x e h. absurd (cc);
  prepared = λ q x out e h. absurd (cc);
  posted = λ q x e h. absurd (cc);
  idle = λ e x. (refl, refl, refl);
  start_past = omega arith;
}

-- a later line that is no Begin of the actor
pub numbered_next : (log : Log) (t a : ℕ) (r : Register) → last log (suc t) a ≡ last log t a → Numbered log t a r → Numbered log (suc t) a r
numbered_next log t a r same s = record {
  newest = λ q e. (omega (arith, (s.newest q e).0), same ∙ (s.newest q e).1);
  attempt = s.attempt;
  piece = s.piece;
  since = s.since;
  ready = s.ready;
  acted = s.acted;
  applied = λ q x e h. (let w = s.applied q x e h in record { m = w.m; is = w.is; past = omega (arith, w.past) });
  prepared = λ q x out e h. prepared_later log t a x q (s.prepared q x out e h);
  posted = λ q x e h. (let w = s.posted q x e h in record { p = w.p; g = w.g; kind = w.kind; missed = w.missed; is = w.is; past = omega (arith, w.past) });
  idle = s.idle;
  start_past = omega (arith, s.start_past);
}

numbered_second : (log : Log) (t a : ℕ) (r : Register) (second : Option Area) (second_held : ℕ → Bool) → Numbered log t a r → Numbered log t a (record r { second = second; second_held = second_held })
numbered_second log t a r second second_held s = record {
  newest = s.newest;
  attempt = s.attempt;
  piece = s.piece;
  since = s.since;
  ready = s.ready;
  acted = s.acted;
  applied = s.applied;
  prepared = s.prepared;
  posted = s.posted;
  idle = s.idle;
  start_past = s.start_past;
}

numbered_locking : (n : ℕ) (log : Log) (t a : ℕ) (area : Area) (r : Register) → Numbered log t a r → Numbered log t a (locking n r area)
numbered_locking n log t a area r s = go (busy n r)
  where
    go : (some : Bool) → Numbered log t a (if some then record r { second = second_of r area } else begun r area)
    go true = numbered_second log t a r (second_of r area) r.second_held s
    go false = record {
      newest = λ q e. absurd (cc);
      attempt = λ q out e. absurd (cc);
      piece = λ h inside e. absurd (cc);
      since = λ h e. absurd (cc);
      ready = λ x h. cc;
      acted = λ x h. cc;
      applied = λ q x e h. absurd (cc);
      prepared = λ q x out e h. absurd (cc);
      posted = λ q x e h. absurd (cc);
      idle = λ e x. (refl, refl, refl);
      start_past = s.start_past;
    }

-- other bricks held or closed, or other views, cells and settled bricks
numbered_held : (log : Log) (t a : ℕ) (r : Register) (held closed healing : ℕ → Bool) (view first : ℕ → Option View) (mended : ℕ → Cell → ℕ) (settled : ℕ → Bool) → Numbered log t a r
    → Numbered log t a (record r { held = held; closed = closed; healing = healing; view = view; first = first; mended = mended; settled = settled })
numbered_held log t a r held closed healing view first mended settled s = record {
  newest = s.newest;
  attempt = s.attempt;
  piece = s.piece;
  since = s.since;
  ready = s.ready;
  acted = s.acted;
  applied = s.applied;
  prepared = s.prepared;
  posted = s.posted;
  idle = s.idle;
  start_past = s.start_past;
}

numbered_dropped : (log : Log) (t a b : ℕ) (gone : Bool) (r : Register) → Numbered log t a r → Numbered log t a (dropping gone b r)
numbered_dropped log t a b true r s = (
    let k = numbered_held log t a r (without r.held b) r.closed (without r.healing b) r.view r.first r.mended r.settled s in
    numbered_second log t a (record r { held = without r.held b; healing = without r.healing b }) r.second (without r.second_held b) k
    )
numbered_dropped log t a b false r s = s

numbered_looking : (log : Log) (t a b g : ℕ) (seen : View) (r : Register) → Numbered log t a r → Numbered log t a (looking r b g seen)
numbered_looking log t a b g seen r s = go r.heal
  where
    more : (x : ℕ) → r.seen x ≡ true → with r.seen b x ≡ true
    more x h = grind (arith, nat_tests)

    add : (hit : Bool) → ((r.number == 0) && r.held b) ≡ hit → Numbered log t a (if hit then record r { seen = with r.seen b } else r)
    add true h = record {
      newest = s.newest;
      attempt = λ q out e. absurd (no_number r.number q (and_left (r.number == 0) (r.held b) h) e);
      piece = s.piece;
      since = s.since;
      ready = λ x k. more x (s.ready x k);
      acted = s.acted;
      applied = s.applied;
      prepared = s.prepared;
      posted = s.posted;
      idle = s.idle;
      start_past = s.start_past;
    }
    add false h = s

    see : (sure : Bool) (first : ℕ → Option View) → Numbered log t a (if sure then record r { view = put_view r.view b seen; first = first } else r)
    see true first = numbered_held log t a r r.held r.closed r.healing (put_view r.view b seen) first r.mended r.settled s
    see false first = s

    go : (heal : Bool) → Numbered log t a (if heal then viewed r b g seen else looked r b)
    go true = see (not (r.number == 0) && r.seen b && not (r.closed b) && (g == r.object) && r.healing b && not (r.settled b)) (if (r.number == r.start) && is_none (r.first b) then put_view r.first b seen else r.first)
    go false = add ((r.number == 0) && r.held b) refl

numbered_released : (log : Log) (t a b : ℕ) (area : Area) (r : Register) → Numbered log t a r → Numbered log t a (released r area b)
numbered_released log t a b area r s = go (is_area r.area area)
  where
    go : (hit : Bool) → Numbered log t a (if hit then record r { closed = with r.closed b; held = without r.held b } else record r { second_held = second_freed r area b })
    go true = numbered_held log t a r (without r.held b) (with r.closed b) r.healing r.view r.first r.mended r.settled s
    go false = numbered_second log t a r r.second (second_freed r area b) s

numbered_unlocked : (log : Log) (t a b : ℕ) (area : Area) (r : Register) → Numbered log t a r → Numbered log t a (unlocked r area b)
numbered_unlocked log t a b area r s = go (is_area r.area area)
  where
    go : (hit : Bool) → Numbered log t a (if hit then record r { closed = with r.closed b } else r)
    go true = numbered_held log t a r r.held (with r.closed b) r.healing r.view r.first r.mended r.settled s
    go false = s

-- a Heal Lock line
numbered_healing : (log : Log) (t a : ℕ) (first : Bool) (area : Area) (healing : ℕ → Bool) (r : Register) → (first ≡ true → r ≡ fresh) → MayHealLock first r area → Numbered log t a r → Numbered log t a (record r { heal = true; object = area_object area; healing = healing })
numbered_healing log t a first area healing r new may s = record {
  newest = s.newest;
  attempt = λ q out e. absurd (cc out);
  piece = λ h inside e. elim may.place [
    | inl k ↦ absurd (no_number (new k) h e)
    | inr w ↦ s.piece h w.0 e
  ];
  since = s.since;
  ready = s.ready;
  acted = s.acted;
  applied = s.applied;
  prepared = λ q x out e h. absurd (cc out);
  posted = s.posted;
  idle = s.idle;
  start_past = s.start_past;
}
  where
    no_number : r ≡ fresh → (h : ℕ) → r.number ≡ suc h → ⊥
    no_number e h k = (let z : r.number ≡ 0 = ap (λ (q : Register). q.number) e in omega (arith, z, k))

-- a line that is told Done was carried out
pub done_took : (files : Beginning) (log : Log) (t a b : ℕ) (request : Request) (took live : Bool) (fault : Option Fault) → HonestAsk files log t a b request Done took live fault → took ≡ true
done_took files log t a b request took false fault h = absurd (cc h.0)
done_took files log t a b request took true (Some Fail) h = absurd (cc h.0)
done_took files log t a b request took true (Some Lost) h = h.1
done_took files log t a b request took true None h = h.1

numbered_asked : (n : ℕ) (keeps : ℕ → Kind → Bool) (log : Log) (t a b : ℕ) (request : Request) (told : Told) (took first : Bool) (r : Register) → log t ≡ Some (ask_by a b request told took) → last log (suc t) a ≡ last log t a → (first ≡ true → r ≡ fresh)
    → Numbered log t a r → MayAsk n keeps log t a first r b request → (told ≡ Done → took ≡ true)
    → Numbered log (suc t) a (dropping (is_gone told) b (note_ask n r b request told))
numbered_asked n keeps log t a b request told took first r is same new was may carried = drop (note_ask n r b request told) (go (note_ask n r b request told) (noted n r b request told))
  where
    s : Numbered log (suc t) a r
    s = numbered_next log t a r same was

    drop : (l : Register) → Numbered log (suc t) a l → Numbered log (suc t) a (dropping (is_gone told) b l)
    drop l = numbered_dropped log (suc t) a b (is_gone told) l

    put : (l m : Register) → l ≡ m → Numbered log (suc t) a m → Numbered log (suc t) a l
    put l m e k = subst (Numbered log (suc t) a) (sym e) k

    m : (other : Request) → request ≡ other → MayAsk n keeps log t a first r b other
    m other e = subst (MayAsk n keeps log t a first r b) e may

    more : (x : ℕ) → r.pre x ≡ true → with r.pre b x ≡ true
    more x h = grind (arith, nat_tests)

    go : (l : Register) → Noted n r b request told l → Numbered log (suc t) a l
    go l (Grants area what said e) = put l _ e (pick (busy n r && not (is_area r.area area)))
      where
        pick : (other : Bool) → Numbered log (suc t) a (if other then record r { second = Some area; second_held = with r.second_held b } else (let k = locking n r area in record k { held = with k.held b }))
        pick true = numbered_second log (suc t) a r (Some area) (with r.second_held b) s
        pick false = (
            let k = locking n r area in
            numbered_held log (suc t) a k (with k.held b) k.closed k.healing k.view k.first k.mended k.settled (numbered_locking n log (suc t) a area r s)
            )
    go l (Waits area what e) = put l _ e (numbered_locking n log (suc t) a area r s)
    go l (Frees area what said e) = put l _ e (numbered_released log (suc t) a b area r s)
    go l (Tries area what other e) = put l _ e (numbered_unlocked log (suc t) a b area r s)
    go l (HealGrants area what said e) = put l _ e (numbered_healing log (suc t) a first area (with r.healing b) r new (m (Lock Heal area) what) s)
    go l (HealWaits area what e) = put l _ e (numbered_healing log (suc t) a first area r.healing r new (m (Lock Heal area) what) s)
    go l (HealFrees area what said e) = put l _ e (numbered_held log (suc t) a r r.held r.closed (heal_freed r area b) r.view r.first r.mended r.settled s)
    go l (HealTries area what other e) = put l _ e s
    go l (Looks g view what said e) = put l _ e (numbered_looking log (suc t) a b g view r s)
    go l (Pres g kind what said e) = put l _ e (
        let k : MayPre log t a r b g kind = m (pre_on g kind) what in
        record {
          newest = s.newest;
          attempt = λ q out e. (
              let w = s.attempt q out e in
              let f = k.fit q out e in
              let one : f.change ≡ w.change = cc (f.is, w.is) in
              record {
                change = w.change;
                is = w.is;
                within = w.within;
                some = w.some;
                fit = λ x h. elim (with_cases r.pre b x h) [ inl here ↦ rw here (subst (SeenFit log q a b) one f.fit) | inr other ↦ w.fit x other ];
              }
              );
          piece = s.piece;
          since = s.since;
          ready = λ x h. elim (with_cases r.pre b x h) [ inl here ↦ rw here k.holder | inr other ↦ s.ready x other ];
          acted = λ x h. more x (s.acted x h);
          applied = s.applied;
          prepared = λ q x out number h. elim (with_cases r.pre b x h) [
            | inl here ↦ subst (λ y. Prepared log (suc t) a y q) (sym here) (record {
              p = t;
              g = g;
              kind = kind;
              is = is ∙ (λ i. Some (ask_by a b (what i) (said i) (carried said i)));
              after = (was.newest q number).0;
              past = omega arith;
              newest = (was.newest q number).1;
              plane = k.plane q out number;
            })
            | inr other ↦ s.prepared q x out number other
          ];
          posted = s.posted;
          idle = λ none x. absurd (k.begun_already none);
          start_past = s.start_past;
        }
        )
    go l (Applies q what said e) = put l _ e (
        let k : MayApply r b q = m (Apply q) what in
        let at : log t ≡ Some (ask_by a b (Apply q) Done true) = is ∙ (λ i. Some (ask_by a b (what i) (said i) (carried said i))) in
        record {
          newest = s.newest;
          attempt = s.attempt;
          piece = s.piece;
          since = s.since;
          ready = s.ready;
          acted = λ x h. elim (with_cases r.done b x h) [ inl here ↦ rw here k.ready | inr other ↦ s.acted x other ];
          applied = λ j x number h. elim (with_cases r.done b x h) [
            | inl here ↦ (let same_q : q ≡ j = omega (arith, k.own, number) in rw here (subst (Applied log (suc t) a b) same_q (record { m = t; is = at; past = omega arith })))
            | inr other ↦ s.applied j x number other
          ];
          prepared = s.prepared;
          posted = s.posted;
          idle = λ none x. absurd (omega (arith, none, k.own));
          start_past = s.start_past;
        }
        )
    go l (Posts q g kind missed what said e) = put l _ e (
        let k : MayPost n log t a r b q g kind (member missed) = m (post_on q g kind missed) what in
        let at : log t ≡ Some (ask_by a b (post_on q g kind missed) Done true) = is ∙ (λ i. Some (ask_by a b (what i) (said i) (carried said i))) in
        record {
          newest = s.newest;
          attempt = s.attempt;
          piece = s.piece;
          since = s.since;
          ready = s.ready;
          acted = s.acted;
          applied = s.applied;
          prepared = s.prepared;
          posted = λ j x number h. elim (with_cases r.post b x h) [
            | inl here ↦ (let same_q : q ≡ j = omega (arith, k.own, number) in rw here (subst (Recorded log (suc t) a b) same_q (record { p = t; g = g; kind = kind; missed = missed; is = at; past = omega arith })))
            | inr other ↦ s.posted j x number other
          ];
          idle = λ none x. absurd (omega (arith, none, k.own));
          start_past = s.start_past;
        }
        )
    go l (Mends repair what said e) = put l _ e (numbered_held log (suc t) a r r.held r.closed r.healing r.view r.first (mend_cells r.mended r.number b repair) r.settled s)
    go l (Settles g kind less what said e) = put l _ e (numbered_held log (suc t) a r r.held r.closed r.healing r.view r.first r.mended (with r.settled b) s)
    go l (Same keeps plain e) = put l _ e s

pub last_foreign : (log : Log) (t a : ℕ) → is_of a (log t) ≡ false → last log (suc t) a ≡ last log t a
unfolding last
last_foreign log t a h = go (log t) h
  where
    go : (line : Option Line) → is_of a line ≡ false → last_after (last log t a) a t line ≡ last log t a
    go None h = refl
    go (Some (Ask x b request told took)) h = refl
    go (Some (Begin x change)) h = rw h refl
    go (Some (HealBegin x g kind)) h = rw h refl
    go (Some (End x reply)) h = refl
    go (Some (HealEnd x g kind reply)) h = refl
    go (Some (Event e)) h = refl

pub last_asked : (log : Log) (t a b : ℕ) (request : Request) (told : Told) (took : Bool) → log t ≡ Some (ask_by a b request told took) → last log (suc t) a ≡ last log t a
unfolding last
last_asked log t a b request told took is = rw is refl

last_ended : (log : Log) (t a : ℕ) (reply : Reply) → log t ≡ Some (end_by a reply) → last log (suc t) a ≡ last log t a
unfolding last
last_ended log t a reply is = rw is refl

last_begun : (log : Log) (t a : ℕ) (change : Change) → log t ≡ Some (begin_by a change) → last log (suc t) a ≡ suc t
unfolding last
last_begun log t a change is = rw (is, same_self a) refl

last_pieced : (log : Log) (t a g : ℕ) (kind : Kind) → log t ≡ Some (heal_begin_by a g kind) → last log (suc t) a ≡ suc t
unfolding last
last_pieced log t a g kind is = rw (is, same_self a) refl

numbered_begin : (log : Log) (t a : ℕ) (change : Change) (r : Register) → log t ≡ Some (begin_by a change) → MayBegin r change → Numbered log t a r → Numbered log (suc t) a (record r { number = suc t })
numbered_begin log t a change r is may s = record {
  newest = λ q e. (let here : t ≡ q = omega (arith, e) in (omega (arith, here), last_begun log t a change is ∙ ap suc here));
  attempt = λ q out e. (let here : t ≡ q = omega (arith, e) in subst (λ k. Attempt log a k r.area r.pre) here (record { change = change; is = is; within = may.within; some = may.some; fit = λ x h. absurd (true≢false (sym h ∙ (s.idle may.first x).0)) }));
  piece = λ h inside e. absurd (true≢false (sym inside ∙ may.outside));
  since = λ h e. omega (arith, e, s.start_past);
  ready = s.ready;
  acted = s.acted;
  applied = λ q x e h. absurd (true≢false (sym h ∙ (s.idle may.first x).1));
  prepared = λ q x out e h. absurd (true≢false (sym h ∙ (s.idle may.first x).0));
  posted = λ q x e h. absurd (true≢false (sym h ∙ (s.idle may.first x).2));
  idle = λ none x. absurd (omega (arith, none));
  start_past = omega (arith, s.start_past);
}

numbered_piece : (log : Log) (t a g : ℕ) (kind : Kind) (r : Register) → log t ≡ Some (heal_begin_by a g kind) → MayHealBegin r g kind → Numbered log t a r → Numbered log (suc t) a (piece r t kind)
numbered_piece log t a g kind r is may s = record {
  newest = λ q e. (let here : t ≡ q = omega (arith, e) in (omega (arith, here), last_pieced log t a g kind is ∙ ap suc here));
  attempt = λ q out e. absurd (true≢false (sym may.inside ∙ out));
  piece = λ h inside e. (let here : t ≡ h = omega (arith, e) in subst (Piece log a) here (record { g = g; kind = kind; is = is }));
  since = λ h e. starts (r.start == 0) h e;
  ready = λ x h. absurd (true≢false (sym h ∙ (s.idle may.first x).0));
  acted = λ x h. absurd (true≢false (sym h ∙ (s.idle may.first x).1));
  applied = λ q x e h. absurd (true≢false (sym h ∙ (s.idle may.first x).1));
  prepared = λ q x out e h. absurd (true≢false (sym may.inside ∙ out));
  posted = λ q x e h. absurd (true≢false (sym h ∙ (s.idle may.first x).2));
  idle = λ none x. absurd (omega (arith, none));
  start_past = begun_past (r.start == 0);
}
  where
    starts : (yes_start : Bool) (h : ℕ) → suc t ≡ suc h → (if yes_start then suc t else r.start) ≤ suc h
    starts true h e = omega (arith, e)
    starts false h e = omega (arith, e, s.start_past)

    begun_past : (yes_start : Bool) → (if yes_start then suc t else r.start) ≤ suc t
    begun_past true = omega arith
    begun_past false = omega (arith, s.start_past)

module _ (n : ℕ) (keeps : ℕ → Kind → Bool) (files : Beginning) (faults : ℕ → ℕ → Option Fault) (log : Log) (honest : Honest files faults log) (lawful : Lawful n keeps log) where
  pub carried_out : (t a b : ℕ) (request : Request) (told : Told) (took : Bool) → log t ≡ Some (ask_by a b request told took) → told ≡ Done → took ≡ true
  carried_out t a b request told took is said =
      done_took files log t a b request took (joined log t a b || opening log t a b) (faults b (suc (asked log t b)))
      (subst (HonestLine files faults log t) (is ∙ ap (λ w. Some (ask_by a b request w took)) said) (honest t))

  pub numbered_own : (t a : ℕ) (first : Bool) (r : Register) → (first ≡ true → r ≡ fresh) → Numbered log t a r → MayOf n keeps files faults log honest lawful t a first r (log t) → Own log t a → Numbered log (suc t) a (note n r t (log t))
  numbered_own t a first r new s may (Asks b request told took is) =
      rw is (numbered_asked n keeps log t a b request told took first r is (last_asked log t a b request told took is) new s (subst (MayOf n keeps files faults log honest lawful t a first r) is may).1 (carried_out t a b request told took is))
  numbered_own t a first r new s may (Begins change is) = rw is (numbered_begin log t a change r is (subst (MayOf n keeps files faults log honest lawful t a first r) is may) s)
  numbered_own t a first r new s may (HealBegins g kind is) = rw is (numbered_piece log t a g kind r is (subst (MayOf n keeps files faults log honest lawful t a first r) is may) s)
  numbered_own t a first r new s may (Ends reply is) = rw is (numbered_next log t a r (last_ended log t a reply is) s)
  numbered_own t a first r new s may (HealEnds g kind reply is) = rw is (numbered_fresh log (suc t) a)

  pub numbered_force : (first : Bool) (t a : ℕ) (r : Register) → Numbered log t a r → Numbered log t a (in_force first r)
  numbered_force true t a r s = numbered_fresh log t a
  numbered_force false t a r s = s

  pub force_fresh : (first : Bool) (r : Register) → first ≡ true → in_force first r ≡ fresh
  force_fresh first r e = rw e refl

  pub numbered : (t a : ℕ) → Numbered log t a (register n log t a)
  numbered =
      registers n keeps files faults log honest lawful (Numbered log) (numbered_fresh log 0)
      (λ t a r other s. numbered_next log t a r (last_foreign log t a other) s)
      (λ t a first r mine e s may. numbered_own t a first (in_force first r) (force_fresh first r) (numbered_force first t a r s) may mine)
