-- What the discipline allows after some lines it allows in any log that begins with them.
use Rattle.afr_base.specs.declared.ids.Kind.{Kind}
use Rattle.afr_law.proofs.Safety.Agree.{place_same, register_same, tally_same}
use Rattle.afr_law.specs.Law.{MayNext}
use Rattle.afr_model_moves.specs.Rules.{BringsSeen, EachRead, FitAt, Full, May, MayAsk, MayRaise, PlaneIs, ReadOf, Register, Sink, UnaccusedViews, in_force, opened, present, register}
use Rattle.afr_model_moves.specs.Past.{Log, opens, place}
use Rattle.afr_model_moves.specs.Tally.{Tally, tally}
use Rattle.afr_lines.specs.declared.line.Line.{Line}
use Rattle.afr_lines.specs.declared.line.Line.TheVariants.{Ask}
use Rattle.afr_lines.specs.declared.request.Request.{Request}
use Rattle.afr_lines.specs.declared.request.Request.TheVariants.{Lock, Mend, Post, Pre, Settle}
use Rattle.afr_object.specs.declared.change.Repair.{Repair}
use Rattle.afr_object.specs.declared.change.Repair.TheVariants.{Copy, CutTo, PutAttrs, PutNames}
use Rattle.afr_lines.specs.declared.lock.Domain.TheVariants.{Heal, Work}
use Rattle.std.proofs.Common.{Bool, [], arith, false, inl, inr, subst, suc, sym, ℕ, ◌<◌, ◌∙◌, ◌∷◌, ◌≡◌, ◌≤◌, ◌⊎◌}
use Rattle.std.specs.Prelude.{List as Seq, None, Option, Some}

module _ (n : ℕ) (keeps : ℕ → Kind → Bool) (log other : Log) (t : ℕ) (agree : (u : ℕ) → u < t → log u ≡ other u) where
  tally_as : (a : ℕ) → tally log t a ≡ tally other t a
  tally_as a = tally_same log other t agree a t (omega arith)

  views_as : (a : ℕ) (r : Register) (s : ℕ) → UnaccusedViews n keeps log t a r s → UnaccusedViews n keeps other t a r s
  views_as a r s w = record {
    among = w.among;
    majority = w.majority;
    member = w.member;
    below = w.below;
    copy = w.copy;
    aside = elim w.aside [ inl names ↦ inl names | inr none ↦ inr (subst (λ (k : Tally). k.raises s ≡ false) (tally_as a) none) ];
    good = w.good;
  }

  raise_as : (a : ℕ) (r : Register) (b g : ℕ) (kind : Kind) → MayRaise log t a r b g kind → MayRaise other t a r b g kind
  raise_as a r b g kind w = record {
    object_same = w.object_same;
    kind_same = w.kind_same;
    first_piece = w.first_piece;
    view = w.view;
    looked = w.looked;
    before_mends = subst (λ (k : Tally). k.mending ≡ false) (tally_as a) w.before_mends;
    once = subst (λ (k : Tally). k.raises b ≡ false) (tally_as a) w.once;
  }

  sink_as : (a : ℕ) (r : Register) (c : ℕ) → Sink log t a r c → Sink other t a r c
  sink_as a r c w = record { raised = w.raised; whole = w.whole; level = λ cell. subst (λ (k : Tally). k.given cell ≤ r.mended c cell) (tally_as a) (w.level cell) }

  full_as : (a : ℕ) (r : Register) → Full n keeps log t a r → Full n keeps other t a r
  full_as a r w = record { s = w.s; sinks = λ c below copy. elim (w.sinks c below copy) [ inl source ↦ inl source | inr sink ↦ inr (sink_as a r c sink) ] }

  read_as : (a : ℕ) (r : Register) (read : ℕ) → ReadOf n keeps log t a r read → ReadOf n keeps other t a r read
  read_as a r read w = record { s = w.s; request = w.request; is = sym (agree read w.past) ∙ w.is; since = w.since; past = w.past; source = views_as a r w.s w.source }

  reads_as : (a : ℕ) (r : Register) (reads : Seq (Option ℕ)) → EachRead (ReadOf n keeps log t a r) reads → EachRead (ReadOf n keeps other t a r) reads
  reads_as a r [] h = h
  reads_as a r (None ∷ reads) h = reads_as a r reads h
  reads_as a r (Some read ∷ reads) h = (read_as a r read h.0, reads_as a r reads h.1)

  contents_as : (a : ℕ) (r : Register) (repair : Repair) → BringsSeen n keeps log t a r repair → BringsSeen n keeps other t a r repair
  contents_as a r (CutTo g len) h = record { s = h.s; view = h.view; seen = h.seen; length = h.length; source = views_as a r h.s h.source }
  contents_as a r (Copy g at span read) h = read_as a r read h
  contents_as a r (PutAttrs g read) h = read_as a r read h
  contents_as a r (PutNames g reads) h = (reads_as a r reads h.0, h.1)

  -- what a work saw before its attempt
  fit_as : (q a x : ℕ) → q < t → FitAt log q a x → FitAt other q a x
  fit_as q a x low f = (
      let w = f.fit in
      record {
        change = f.change;
        is = sym (agree q low) ∙ f.is;
        fit = record { l = w.l; view = w.view; past = w.past; is = sym (agree w.l (let p = w.past in omega (arith, p, low))) ∙ w.is; fit = w.fit };
      }
      )

  under : (q number : ℕ) → number ≡ suc q → number ≤ t → q < t
  under q number e low = omega (arith, e, low)

  ask_as : (a : ℕ) (first : Bool) (r : Register) (b : ℕ) (request : Request) → r.number ≤ t → MayAsk n keeps log t a first r b request → MayAsk n keeps other t a first r b request
  ask_as a first r b (Post q g kind missed) low h = record {
    outside = h.outside;
    own = h.own;
    plane = subst (λ (l : Option Line). PlaneIs l g.0 kind) (agree q (under q r.number h.own low)) h.plane;
    ready = h.ready;
    open_still = h.open_still;
    exact = h.exact;
    once = subst (λ (k : Tally). k.posts b ≡ false) (tally_as a) h.once;
  }
  ask_as a first r b (Mend repair) low h = record {
    inside = h.inside;
    begun_already = h.begun_already;
    locked = h.locked;
    open_still = h.open_still;
    object_same = h.object_same;
    kind_same = h.kind_same;
    within = h.within;
    contents = contents_as a r repair h.contents;
    healing = h.healing;
    unsettled = h.unsettled;
    raised = h.raised;
    one = subst (λ (k : Tally). (k.repair ≡ None) ⊎ (k.repair ≡ Some repair)) (tally_as a) h.one;
  }
  ask_as a first r b (Lock Work area) low h = h
  ask_as a first r b (Lock Heal area) low h = h
  ask_as a first r b (Pre g kind) low h = record {
    begun_already = h.begun_already;
    holder = h.holder;
    open_still = h.open_still;
    plane = λ q out number. subst (λ (l : Option Line). PlaneIs l g.0 kind) (agree q (under q r.number number low)) (h.plane q out number);
    within = λ inside. raise_as a r b g.0 kind (h.within inside);
    fit = λ q out number. fit_as q a b (under q r.number number low) (h.fit q out number);
  }
  ask_as a first r b (Settle g kind less) low h = record {
    inside = h.inside;
    begun_already = h.begun_already;
    locked = h.locked;
    open_still = h.open_still;
    object_same = h.object_same;
    kind_same = h.kind_same;
    whole = h.whole;
    healing = h.healing;
    once = h.once;
    view = h.view;
    seen = h.seen;
    exact = h.exact;
    cleaned = elim h.cleaned [ inl none ↦ inl none | inr w ↦ inr (w.0, full_as a r w.1) ];
  }
  ask_as a first r b _ low h = h

  may_as : (first : ℕ → Bool) (of : ℕ → Register) → ((a : ℕ) → (of a).number ≤ t) → (line : Line) → May n keeps log t first of (Some line) → May n keeps other t first of (Some line)
  may_as first of low (Ask a b request told took) h = (h.0, ask_as a.0 (first a.0) (of a.0) b.0 request (low a.0) h.1)
  may_as first of low _ h = h

  -- the line at t is a move after the lines of the other log
  pub may_next : (line : Line) → log t ≡ Some line → ((a : ℕ) → (present n log t a).number ≤ t) → May n keeps log t (opened log t) (present n log t) (log t) → MayNext n keeps other t line
  may_next line is low may = may_as
      (λ a. opens (place other t a) (Some line)) (λ a. in_force (opens (place other t a) (Some line)) (register n other t a))
      (λ a. subst (λ (k : Register). k.number ≤ t) (λ i. in_force (opens (place_as a i) (is i)) (register_as a i)) (low a)) line
      (subst (λ (X : Type 0). X) (λ i. May n keeps log t (λ a. opens (place_as a i) (is i)) (λ a. in_force (opens (place_as a i) (is i)) (register_as a i)) (is i)) may)
    where
      place_as : (a : ℕ) → place log t a ≡ place other t a
      place_as a = place_same log other t agree a t (omega arith)

      register_as : (a : ℕ) → register n log t a ≡ register n other t a
      register_as a = register_same log other t agree n a t (omega arith)
