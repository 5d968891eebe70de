-- From the lines one by one to the whole log, and one line more.
use Rattle.afr_lines.specs.declared.fault.Fault.TheVariants.{Fail, Lost}
use Rattle.afr_lines.specs.declared.fault.Fault.{Fault}
use Rattle.std.proofs.Common.{◌≡◌, ℕ, zero, suc, ◌-◌, ◌<◌, ◌≤◌, Bool, true, false, ◌&&◌, ◌||◌, ◌⊎◌, inl, inr, refl, sym, ◌∙◌, subst, arith, List, [], ◌∷◌, ◌++◌, length, take, length-take}
use Rattle.std.specs.Prelude.{Option, None, Some, if◌then◌else◌, nat_lt, slice_get, List as Seq}
use Rattle.afr_base.specs.declared.ids.Kind.{Kind}
use Rattle.afr_object.specs.declared.entry.View.{View}
use Rattle.afr_object.specs.declared.change.Repair.{Repair}
use Rattle.afr_object.specs.declared.change.Repair.TheVariants.{CutTo, Copy, PutAttrs, PutNames}
use Rattle.afr_lines.specs.declared.request.Request.{Request}
use Rattle.afr_lines.specs.declared.request.Request.TheVariants.{Lock, Look, ReadBytes, ReadName, List as ListNames, ReadAttr, ReadAttrs, Pre, Apply, Post, Mend, Settle}
use Rattle.afr_lines.specs.declared.answer.Told.{Told}
use Rattle.afr_lines.specs.declared.answer.Told.TheVariants.{Granted, Held, Seen}
use Rattle.afr_lines.specs.declared.lock.Domain.TheVariants.{Work, Heal}
use Rattle.afr_lines.specs.declared.line.Line.{Line}
use Rattle.afr_lines.specs.declared.line.Line.TheVariants.{Ask, Begin}
use Rattle.afr_object.specs.declared.change.Change.{Change}
use Rattle.afr_object.specs.declared.change.Change.TheVariants.{Write, Cut, SetAttr, Make, Remove}
use Rattle.afr_model_moves.specs.Cells.{Entry}
use Rattle.afr_model_moves.specs.Past.{Beginning, Log, before, is_of, blocks, joined, opening, place, opens, holds, object_of_line}
use Rattle.afr_model_moves.specs.Honest.{KnownMake, Shows, finds, Answers, Tells, HonestAsk, HonestLine, Honest, asked, begins_attempt}
use Rattle.afr_model_moves.specs.Rules.{UnaccusedViews, MayRaise, Sink, Full, Register, in_force, register, May, MayAsk, PlaneIs, ReadOf, BringsSeen, EachRead, Lawful, opened, present}
use Rattle.afr_model_moves.specs.Tally.{Tally, tally}
use Rattle.afr_law.specs.Law.{opening_by, HonestNext, MayNext, HonestLog, LawfulLog, SafeLog}
use Rattle.afr_law.specs.Safe.{Safe}
use Rattle.afr_law.proofs.Safety.Locks.{before_is, held_past}
use Rattle.afr_law.proofs.Safety.Agree.{tally_same, before_at, place_same, started_same, linked_same, joined_same, kind_same, holds_same, value_same, posts_same, settled_same, asked_same, register_same, held_same, safe_same}
use Rattle.afr_law.proofs.Safety.CellHistory.{safe}
use Rattle.afr_model_moves.specs.Lines.{ask_by}

module _ (files : Beginning) (log other : Log) (m : ℕ) (agree : (u : ℕ) → u < m → log u ≡ other u) where
  finds_same : (b : ℕ) (request : Request) → finds files log m b request ≡ finds files other m b request
  finds_same b (Look g) = holds_same log other m agree files b g.0 m (omega arith)
  finds_same b (ReadBytes g at len) = holds_same log other m agree files b g.0 m (omega arith)
  finds_same b (ReadName g name) = holds_same log other m agree files b g.0 m (omega arith)
  finds_same b (ListNames g) = holds_same log other m agree files b g.0 m (omega arith)
  finds_same b (ReadAttr g key) = holds_same log other m agree files b g.0 m (omega arith)
  finds_same b (ReadAttrs g) = holds_same log other m agree files b g.0 m (omega arith)
  finds_same b (Pre g kind) = holds_same log other m agree files b g.0 m (omega arith)
  finds_same b (Apply q) = (λ i. begins_attempt (before_at log other m agree m (omega arith) q i) && holds files log m b (object_of_line (before_at log other m agree m (omega arith) q i))) ∙ (λ i. begins_attempt (before other m q) && holds_same log other m agree files b (object_of_line (before other m q)) m (omega arith) i)
  finds_same b (Post q g kind missed) = holds_same log other m agree files b g.0 m (omega arith)
  finds_same b (Mend repair) = holds_same log other m agree files b _ m (omega arith)
  finds_same b (Settle g kind less) = holds_same log other m agree files b g.0 m (omega arith)
  finds_same b _ = refl

  shows_same : (b g : ℕ) (view : View) → Shows files log m b g view → Shows files other m b g view
  shows_same b g view s = record {
    what = s.what ∙ kind_same log other m agree files b g m (omega arith);
    marks = λ kind c kept. s.marks kind c kept ∙ (λ i. posts_same log other m agree files b c g kind m (omega arith) i - settled_same log other m agree files b c g kind m (omega arith) i);
    length = λ kept i low. sym (value_same log other m agree files b _ m (omega arith)) ∙ s.length kept i low;
  }

  answers_same : (a b : ℕ) (request : Request) (told : Told) → Answers files log m a b request told → Answers files other m a b request told
  answers_same a b (Lock domain area) Granted h = λ p k.
      subst (λ l. blocks a domain area l ≡ false) (agree p (held_past other m b p k)) (h p (held_same log other m agree b p m (omega arith) ∙ k))
  answers_same a b (Lock domain area) (Held owner) h =
      (h.0, sym (held_same log other m agree b h.0 m (omega arith)) ∙ h.1, subst (λ l. blocks a domain area l ≡ true) (agree h.0 (held_past log m b h.0 h.1)) h.2)
  answers_same a b (Look g) (Seen view) h = shows_same b g.0 view h
  answers_same a b _ _ h = h

  ask_same : (a b : ℕ) (request : Request) (told : Told) (took live : Bool) (fault : Option Fault) → HonestAsk files log m a b request told took live fault → HonestAsk files other m a b request told took live fault
  ask_same a b request told took false fault h = h
  ask_same a b request told took true (Some Fail) h = h
  ask_same a b request told took true (Some Lost) h = h
  ask_same a b request told took true None h = (subst (Tells files other m a b request told) (finds_same b request) (go (finds files log m b request) h.0), h.1)
    where
      go : (found : Bool) → Tells files log m a b request told found → Tells files other m a b request told found
      go true k = answers_same a b request told k
      go false k = k

plane_before : (log : Log) (t q g : ℕ) (kind : Kind) → PlaneIs (before log t q) g kind → PlaneIs (log q) g kind
plane_before log t q g kind h = go (nat_lt q t) h
  where
    go : (hit : Bool) → PlaneIs (if hit then log q else None) g kind → PlaneIs (log q) g kind
    go true k = k
    go false k = absurd k

module _ (n : ℕ) (keeps : ℕ → Kind → Bool) (log : Log) (t : ℕ) where
  tally_log : (a : ℕ) → tally (before log t) t a ≡ tally log t a
  tally_log a = tally_same (before log t) log t (λ u h. before_is log t u h) a t (omega arith)

  views_log : (a : ℕ) (r : Register) (s : ℕ) → UnaccusedViews n keeps (before log t) t a r s → UnaccusedViews n keeps log t a r s
  views_log a r s w = record {
    among = w.among;
    majority = w.majority;
    member = w.member;
    below = w.below;
    copy = w.copy;
    aside = elim w.aside [ inl names ↦ inl names | inr none ↦ inr (subst (λ (k : Tally). k.raises s ≡ false) (tally_log a) none) ];
    good = w.good;
  }

  raise_log : (a : ℕ) (r : Register) (b g : ℕ) (kind : Kind) → MayRaise (before log t) t a r b g kind → MayRaise log t a r b g kind
  raise_log a r b g kind w = record {
    object_same = w.object_same;
    kind_same = w.kind_same;
    first_piece = w.first_piece;
    view = w.view;
    looked = w.looked;
    before_mends = subst (λ (k : Tally). k.mending ≡ false) (tally_log a) w.before_mends;
    once = subst (λ (k : Tally). k.raises b ≡ false) (tally_log a) w.once;
  }

  sink_log : (a : ℕ) (r : Register) (c : ℕ) → Sink (before log t) t a r c → Sink log t a r c
  sink_log a r c w = record { raised = w.raised; whole = w.whole; level = λ cell. subst (λ (k : Tally). k.given cell ≤ r.mended c cell) (tally_log a) (w.level cell) }

  full_log : (a : ℕ) (r : Register) → Full n keeps (before log t) t a r → Full n keeps log t a r
  full_log a r w = record { s = w.s; sinks = λ c below copy. elim (w.sinks c below copy) [ inl source ↦ inl source | inr sink ↦ inr (sink_log a r c sink) ] }

  read_log : (a : ℕ) (r : Register) (read : ℕ) → ReadOf n keeps (before log t) t a r read → ReadOf n keeps log t a r read
  read_log a r read w = record { s = w.s; request = w.request; is = sym (before_is log t read w.past) ∙ w.is; since = w.since; past = w.past; source = views_log a r w.s w.source }

  reads_log : (a : ℕ) (r : Register) (reads : Seq (Option ℕ)) → EachRead (ReadOf n keeps (before log t) t a r) reads → EachRead (ReadOf n keeps log t a r) reads
  reads_log a r [] h = h
  reads_log a r (None ∷ reads) h = reads_log a r reads h
  reads_log a r (Some read ∷ reads) h = (read_log a r read h.0, reads_log a r reads h.1)

  contents_log : (a : ℕ) (r : Register) (repair : Repair) → BringsSeen n keeps (before log t) t a r repair → BringsSeen n keeps log t a r repair
  contents_log a r (CutTo g len) h = record { s = h.s; view = h.view; seen = h.seen; length = h.length; source = views_log a r h.s h.source }
  contents_log a r (Copy g at span read) h = read_log a r read h
  contents_log a r (PutAttrs g read) h = read_log a r read h
  contents_log a r (PutNames g reads) h = (reads_log a r reads h.0, h.1)

  known : (q : ℕ) (line : Line) → before log t q ≡ Some line → log q ≡ Some line
  known q line h = go (nat_lt q t) h
    where
      go : (hit : Bool) → (if hit then log q else None) ≡ Some line → log q ≡ Some line
      go true k = k
      go false k = absurd (cc k)

  may_ask_log : (a : ℕ) (first : Bool) (r : Register) (b : ℕ) (request : Request) → MayAsk n keeps (before log t) t a first r b request → MayAsk n keeps log t a first r b request
  may_ask_log a first r b (Post q g kind missed) h = record { outside = h.outside; own = h.own; plane = plane_before log t q g.0 kind h.plane; ready = h.ready; open_still = h.open_still; exact = h.exact; once = subst (λ (k : Tally). k.posts b ≡ false) (tally_log a) h.once }
  may_ask_log a first r b (Mend repair) h = record {
    inside = h.inside;
    begun_already = h.begun_already;
    locked = h.locked;
    open_still = h.open_still;
    object_same = h.object_same;
    kind_same = h.kind_same;
    within = h.within;
    contents = contents_log a r repair h.contents;
    healing = h.healing;
    unsettled = h.unsettled;
    raised = h.raised;
    one = subst (λ (k : Tally). (k.repair ≡ None) ⊎ (k.repair ≡ Some repair)) (tally_log a) h.one;
  }
  may_ask_log a first r b (Lock Work area) h = h
  may_ask_log a first r b (Lock Heal area) h = h
  may_ask_log a first r b (Pre g kind) h = record {
    begun_already = h.begun_already;
    holder = h.holder;
    open_still = h.open_still;
    plane = λ q out number. plane_before log t q g.0 kind (h.plane q out number);
    within = λ inside. raise_log a r b g.0 kind (h.within inside);
    fit = λ q out e. (
        let f = h.fit q out e in
        let w = f.fit in
        record { change = f.change; is = known q _ f.is; fit = record { l = w.l; view = w.view; past = w.past; is = known w.l _ w.is; fit = w.fit } }
        );
  }
  may_ask_log a first r b (Settle g kind less) h = record {
    inside = h.inside;
    begun_already = h.begun_already;
    locked = h.locked;
    open_still = h.open_still;
    object_same = h.object_same;
    kind_same = h.kind_same;
    whole = h.whole;
    healing = h.healing;
    once = h.once;
    view = h.view;
    seen = h.seen;
    exact = h.exact;
    cleaned = elim h.cleaned [ inl none ↦ inl none | inr w ↦ inr (w.0, full_log a r w.1) ];
  }
  may_ask_log a first r b _ h = h

  may_log : (first : ℕ → Bool) (of : ℕ → Register) (line : Line) → May n keeps (before log t) t first of (Some line) → May n keeps log t first of (Some line)
  may_log first of (Ask a b request told took) h = (h.0, may_ask_log a.0 (first a.0) (of a.0) b.0 request h.1)
  may_log first of _ h = h

  past_agrees : (u : ℕ) → u < t → before log t u ≡ log u
  past_agrees u h = before_is log t u h

  pub may_here : (line : Line) → MayNext n keeps (before log t) t line → log t ≡ Some line → May n keeps log t (opened log t) (present n log t) (log t)
  may_here line h is =
      let A = May n keeps (before log t) t (λ a. opens (place (before log t) t a) (Some line)) (λ a. in_force (opens (place (before log t) t a) (Some line)) (register n (before log t) t a)) (Some line) in
      let B = May n keeps (before log t) t (λ a. opens (place log t a) (Some line)) (λ a. in_force (opens (place log t a) (Some line)) (register n log t a)) (Some line) in
      let path : A ≡ B = λ i. May n keeps (before log t) t (λ a. opens (place_same (before log t) log t past_agrees a t (omega arith) i) (Some line))
      (λ a. in_force (opens (place_same (before log t) log t past_agrees a t (omega arith) i) (Some line)) (register_same (before log t) log t past_agrees n a t (omega arith) i)) (Some line) in
      let k : B = subst (λ (X : Type 0). X) path h in
      let l = may_log (λ a. opens (place log t a) (Some line)) (λ a. in_force (opens (place log t a) (Some line)) (register n log t a)) line k in
      subst (λ (x : Option Line). May n keeps log t (λ a. opens (place log t a) x) (λ a. in_force (opens (place log t a) x) (register n log t a)) x) (sym is) l

pub lawful_whole : (n : ℕ) (keeps : ℕ → Kind → Bool) (lines : List Line) → LawfulLog n keeps lines → Lawful n keeps (slice_get lines)
lawful_whole n keeps lines lawful t = go (slice_get lines t) refl
  where
    go : (line : Option Line) → slice_get lines t ≡ line → May n keeps (slice_get lines) t (opened (slice_get lines) t) (present n (slice_get lines) t) (slice_get lines t)
    go None is = rw is tt
    go (Some line) is = may_here n keeps (slice_get lines) t line (lawful t line is) is

module _ (files : Beginning) (faults : ℕ → ℕ → Option Fault) (log : Log) (t : ℕ) where
  agrees : (u : ℕ) → u < t → before log t u ≡ log u
  agrees u h = before_is log t u h

  pub honest_here : (line : Line) → HonestNext files faults (before log t) t line → log t ≡ Some line → HonestLine files faults log t (log t)
  unfolding opening
  honest_here (Ask a b request told took) h is =
      let line = Some (ask_by a.0 b.0 request told took) in
      let past = before log t in
      let k = ask_same files past log t agrees a.0 b.0 request told took (joined past t a.0 b.0 || opening_by past t a.0 b.0 line) (faults b.0 (suc (asked past t b.0))) h in
      let live : (joined past t a.0 b.0 || opening_by past t a.0 b.0 line) ≡ (joined log t a.0 b.0 || opening log t a.0 b.0) =
      (λ i. joined_same past log t agrees a.0 b.0 t (omega arith) i || (is_of a.0 line && opens (place_same past log t agrees a.0 t (omega arith) i) line && started_same past log t agrees b.0 t (omega arith) i && linked_same past log t agrees a.0 b.0 t (omega arith) i))
      ∙ (λ i. joined log t a.0 b.0 || opening_by log t a.0 b.0 (sym is i)) in
      let fault : faults b.0 (suc (asked past t b.0)) ≡ faults b.0 (suc (asked log t b.0)) = (λ i. faults b.0 (suc (asked_same past log t agrees b.0 t (omega arith) i))) in
      rw is (subst (λ f. HonestAsk files log t a.0 b.0 request told took (joined log t a.0 b.0 || opening log t a.0 b.0) f) fault (subst (λ v. HonestAsk files log t a.0 b.0 request told took v (faults b.0 (suc (asked past t b.0)))) live k))
  honest_here (Begin a change) h is = rw is (known change h)
    where
      known : (change : Change) → KnownMake files (before log t) t change → KnownMake files log t change
      known (Make dir name g what) (inl w) = inl w
      known (Make dir name g what) (inr w) = inr (record {
        r = w.r;
        a = w.a;
        b = w.b;
        dir = w.dir;
        name = w.name;
        past = w.past;
        same = sym (value_same (before log t) log t agrees files w.b (Entry w.dir w.name) w.r (omega (arith, w.past))) ∙ w.same;
      })
      known (Write g at bytes) w = w
      known (Cut g len) w = w
      known (SetAttr g key v) w = w
      known (Remove dir name what) w = w
  honest_here _ h is = rw is tt

pub honest_whole : (files : Beginning) (faults : ℕ → ℕ → Option Fault) (lines : List Line) → HonestLog files faults lines → Honest files faults (slice_get lines)
honest_whole files faults lines honest t = go (slice_get lines t) refl
  where
    go : (line : Option Line) → slice_get lines t ≡ line → HonestLine files faults (slice_get lines) t (slice_get lines t)
    go None is = rw is tt
    go (Some line) is = honest_here files faults (slice_get lines) t line (honest t line is) is

pub front : (lines : List Line) (i u : ℕ) → u < i → slice_get lines u ≡ slice_get (take i lines) u
front [] zero u h = absurd (omega arith)
front [] (suc i) u h = refl
front (x ∷ lines) zero u h = absurd (omega arith)
front (x ∷ lines) (suc i) zero h = refl
front (x ∷ lines) (suc i) (suc u) h = front lines i u (omega arith)

pub prefixes : (n : ℕ) (files : Beginning) (faults : ℕ → ℕ → Option Fault) (lines : List Line)
    → HonestLog files faults lines → LawfulLog n files.keeps lines → (i : ℕ) → i ≤ length lines → SafeLog n files.keeps files (take i lines)
prefixes n files faults lines honest lawful i low =
    let same : length (take i lines) ≡ i = omega (arith, length-take i lines) in
    subst (λ k. Safe n files.keeps files (slice_get (take i lines)) k) (sym same)
    (safe_same (slice_get lines) (slice_get (take i lines)) i (front lines i) n files.keeps files (safe n files faults (slice_get lines) (honest_whole files faults lines honest) (lawful_whole n files.keeps lines lawful) i))
