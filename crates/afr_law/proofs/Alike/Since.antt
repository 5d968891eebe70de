-- The registers of one heal follow one another: its start stays, and its raises are kept.
use Rattle.std.proofs.Common.{◌≡◌, ℕ, zero, suc, ◌<◌, ◌≤◌, Bool, true, false, ◌&&◌, not, inl, inr, refl, sym, ap, ◌∙◌, subst, arith, true≢false}
use Rattle.std.specs.Prelude.{Option, None, Some, ◌==◌, if◌then◌else◌}
use Rattle.std.proofs.lemmas.Bool.Decides.{nat_tests}
use Rattle.afr_base.specs.declared.ids.Kind.{Kind}
use Rattle.afr_lines.specs.declared.fault.Fault.{Fault}
use Rattle.afr_object.specs.declared.entry.View.{View}
use Rattle.afr_lines.specs.declared.request.Area.{Area}
use Rattle.afr_lines.specs.declared.request.Request.{Request}
use Rattle.afr_lines.specs.declared.answer.Told.{Told}
use Rattle.afr_model_moves.specs.Sets.{with, without}
use Rattle.afr_model_moves.specs.Past.{Beginning, Log, is_of, is_gone, opens, place}
use Rattle.afr_model_moves.specs.Honest.{Honest}
use Rattle.afr_model_moves.specs.Rules.{Register, fresh, begun, is_area, looked, viewed, put_view, is_none, locking, piece, note_ask, dropping, note, in_force, register_after, register, MayHealBegin, Lawful, opened, busy, second_of, second_freed}
use Rattle.afr_law.proofs.Safety.Numbers.{Piece}
use Rattle.afr_law.proofs.Safety.Standing.{Noted, noted, Grants, Waits, Frees, Tries, HealGrants, HealWaits, HealFrees, HealTries, Looks, Pres, Applies, Posts, Mends, Settles, Same}
use Rattle.afr_law.proofs.Safety.Registers.{Own, Asks, Begins, HealBegins, Ends, HealEnds, own_line, may_own, MayOf}
use Rattle.std.proofs.lemmas.Bool.{cases_lt}

-- the register s follows r: in the heal that began at h, if any
pub record Follows (r s : Register) : Type 0 where
  pub start : s.start ≡ r.start
  pub heal : r.heal ≡ true → s.heal ≡ true
  pub raised : (x : ℕ) → r.raised x ≡ true → s.raised x ≡ true

follows_self : (r : Register) → Follows r r
follows_self r = record { start = refl; heal = λ e. e; raised = λ x e. e }

pub follows_dropped : (gone : Bool) (b : ℕ) (r s : Register) → Follows r s → Follows r (dropping gone b s)
follows_dropped true b r s f = record { start = f.start; heal = f.heal; raised = f.raised }
follows_dropped false b r s f = f

follows_locking : (n : ℕ) (r : Register) (area : Area) → Follows r (locking n r area)
follows_locking n r area = go (busy n r)
  where
    go : (some : Bool) → Follows r (if some then record r { second = second_of r area } else begun r area)
    go true = record { start = refl; heal = λ e. e; raised = λ x e. e }
    go false = record { start = refl; heal = λ e. e; raised = λ x e. e }

pub follows_asked : (n : ℕ) (r : Register) (b : ℕ) (request : Request) (told : Told) → Follows r (note_ask n r b request told)
follows_asked n r b request told = go (note_ask n r b request told) (noted n r b request told)
  where
    put : (l k : Register) → l ≡ k → Follows r k → Follows r l
    put l k e f = subst (Follows r) (sym e) f

    more : (x : ℕ) → r.raised x ≡ true → with r.raised b x ≡ true
    more x h = grind (arith, nat_tests)

    go : (l : Register) → Noted n r b request told l → Follows r l
    go l (Grants area what said e) = put l _ e (pick (busy n r && not (is_area r.area area)))
      where
        pick : (other : Bool) → Follows r (if other then record r { second = Some area; second_held = with r.second_held b } else (let k = locking n r area in record k { held = with k.held b }))
        pick true = record { start = refl; heal = λ k. k; raised = λ x k. k }
        pick false = (let f = follows_locking n r area in record { start = f.start; heal = f.heal; raised = f.raised })
    go l (Waits area what e) = put l _ e (follows_locking n r area)
    go l (Frees area what said e) = put l _ e (pick (is_area r.area area))
      where
        pick : (hit : Bool) → Follows r (if hit then record r { closed = with r.closed b; held = without r.held b } else record r { second_held = second_freed r area b })
        pick true = record { start = refl; heal = λ k. k; raised = λ x k. k }
        pick false = record { start = refl; heal = λ k. k; raised = λ x k. k }
    go l (Tries area what other e) = put l _ e (pick (is_area r.area area))
      where
        pick : (hit : Bool) → Follows r (if hit then record r { closed = with r.closed b } else r)
        pick true = record { start = refl; heal = λ k. k; raised = λ x k. k }
        pick false = follows_self r
    go l (HealGrants area what said e) = put l _ e (record { start = refl; heal = λ k. refl; raised = λ x k. k })
    go l (HealWaits area what e) = put l _ e (record { start = refl; heal = λ k. refl; raised = λ x k. k })
    go l (HealFrees area what said e) = put l _ e (record { start = refl; heal = λ k. k; raised = λ x k. k })
    go l (HealTries area what other e) = put l _ e (follows_self r)
    go l (Looks g view what said e) = put l _ e (look r.heal)
      where
        see : (sure : Bool) (first : ℕ → Option View) → Follows r (if sure then record r { view = put_view r.view b view; first = first } else r)
        see true first = record { start = refl; heal = λ k. k; raised = λ x k. k }
        see false first = follows_self r

        add : (hit : Bool) → Follows r (if hit then record r { seen = with r.seen b } else r)
        add true = record { start = refl; heal = λ k. k; raised = λ x k. k }
        add false = follows_self r

        look : (heal : Bool) → Follows r (if heal then viewed r b g view else looked r b)
        look true = see (not (r.number == 0) && r.seen b && not (r.closed b) && (g == r.object) && r.healing b && not (r.settled b)) (if (r.number == r.start) && is_none (r.first b) then put_view r.first b view else r.first)
        look false = add ((r.number == 0) && r.held b)
    go l (Pres g kind what said e) = put l _ e (record { start = refl; heal = λ k. k; raised = λ x k. more x k })
    go l (Applies q what said e) = put l _ e (record { start = refl; heal = λ k. k; raised = λ x k. k })
    go l (Posts q g kind missed what said e) = put l _ e (record { start = refl; heal = λ k. k; raised = λ x k. k })
    go l (Mends repair what said e) = put l _ e (record { start = refl; heal = λ k. k; raised = λ x k. k })
    go l (Settles g kind less what said e) = put l _ e (record { start = refl; heal = λ k. k; raised = λ x k. k })
    go l (Same keeps plain e) = put l _ e (follows_self r)

-- one line on: the register follows, or it begins a heal here, or it has none
pub data Onto (log : Log) (t a : ℕ) (r s : Register) : Type 0 where
  Goes : Follows r s → Onto log t a r s
  Starts : s.start ≡ suc t → s.heal ≡ true → Piece log a t → Onto log t a r s
  Rests : s.start ≡ 0 → Onto log t a r s

module _ (n : ℕ) (keeps : ℕ → Kind → Bool) (files : Beginning) (faults : ℕ → ℕ → Option Fault) (log : Log) (honest : Honest files faults log) (lawful : Lawful n keeps log) where
  -- since the start of a heal the registers follow one another
  pub record Since (t a : ℕ) (r : Register) : Type 0 where
    pub inside : (h : ℕ) → r.start ≡ suc h → r.heal ≡ true
    pub piece : (h : ℕ) → r.start ≡ suc h → Piece log a h
    pub start : (h u : ℕ) → r.start ≡ suc h → h < u → u ≤ t → ((register n log u a).start ≡ suc h) × ((register n log u a).heal ≡ true) × ((x : ℕ) → (register n log u a).raised x ≡ true → r.raised x ≡ true)

  onto : (t a : ℕ) (first : Bool) (r : Register) → MayOf n keeps files faults log honest lawful t a first (in_force first r) (log t) → Own log t a → Onto log t a r (note n (in_force first r) t (log t))
  onto t a first r may (Asks b request told took is) = rw is (go first)
    where
      go : (first : Bool) → Onto log t a r (dropping (is_gone told) b (note_ask n (in_force first r) b request told))
      go false = Goes (follows_dropped (is_gone told) b r (note_ask n r b request told) (follows_asked n r b request told))
      go true = Rests ((follows_dropped (is_gone told) b fresh (note_ask n fresh b request told) (follows_asked n fresh b request told)).start)
  onto t a first r may (Begins change is) = rw is (go first)
    where
      go : (first : Bool) → Onto log t a r (record (in_force first r) { number = suc t })
      go false = Goes (record { start = refl; heal = λ k. k; raised = λ x k. k })
      go true = Rests refl
  onto t a first r may (HealBegins g kind is) = rw is (go first (subst (MayOf n keeps files faults log honest lawful t a first (in_force first r)) is may))
    where
      go : (first : Bool) → MayHealBegin (in_force first r) g kind → Onto log t a r (piece (in_force first r) t kind)
      go true k = absurd (true≢false (sym k.inside))
      go false k = pick (r.start == 0)
        where
          pick : (none : Bool) → Onto log t a r (record r { number = suc t; seen = r.held; closed = λ x. false; kind = kind; start = if none then suc t else r.start; view = λ x. None })
          pick true = Starts refl k.inside (record { g = g; kind = kind; is = is })
          pick false = Goes (record { start = refl; heal = λ k. k; raised = λ x k. k })
  onto t a first r may (Ends reply is) = rw is (go first)
    where
      go : (first : Bool) → Onto log t a r (in_force first r)
      go false = Goes (follows_self r)
      go true = Rests refl
  onto t a first r may (HealEnds g kind reply is) = rw is (Rests refl)

  since_next : (t a : ℕ) (s : Register) → register n log (suc t) a ≡ s → Since t a (register n log t a) → Onto log t a (register n log t a) s → Since (suc t) a s
  since_next t a s is w (Goes f) = record {
    inside = λ h e. f.heal (w.inside h (sym f.start ∙ e));
    piece = λ h e. w.piece h (sym f.start ∙ e);
    start = λ h u e low high. elim (cases_lt t u) [
      | inl last ↦ (let here : u ≡ suc t = omega (arith, last, high) in last_one h u here e (f.heal (w.inside h (sym f.start ∙ e))))
      | inr early ↦ (let k = w.start h u (sym f.start ∙ e) low early in (k.0, k.1, λ x mine. f.raised x (k.2 x mine)))
    ];
  }
    where
      last_one : (h u : ℕ) → u ≡ suc t → s.start ≡ suc h → s.heal ≡ true → ((register n log u a).start ≡ suc h) × ((register n log u a).heal ≡ true) × ((x : ℕ) → (register n log u a).raised x ≡ true → s.raised x ≡ true)
      last_one h u here e inside = (let k : register n log u a ≡ s = ap (λ v. register n log v a) here ∙ is in (ap (λ (q : Register). q.start) k ∙ e, ap (λ (q : Register). q.heal) k ∙ inside, λ x mine. sym (ap (λ (q : Register). q.raised x) k) ∙ mine))
  since_next t a s is w (Starts new inside begun) = record {
    inside = λ h e. inside;
    piece = λ h e. (let same : t ≡ h = omega (arith, new, e) in subst (Piece log a) same begun);
    start = λ h u e low high. (
        let here : u ≡ suc t = omega (arith, e, new, low, high) in
        let k : register n log u a ≡ s = ap (λ v. register n log v a) here ∙ is in
        (ap (λ (q : Register). q.start) k ∙ e, ap (λ (q : Register). q.heal) k ∙ inside, λ x mine. sym (ap (λ (q : Register). q.raised x) k) ∙ mine)
        );
  }
  since_next t a s is w (Rests none) = record {
    inside = λ h e. absurd (omega (arith, none, e));
    piece = λ h e. absurd (omega (arith, none, e));
    start = λ h u e low high. absurd (omega (arith, none, e));
  }

  since_fresh : (t a : ℕ) → Since t a fresh
  since_fresh t a = record { inside = λ h e. absurd (cc e); piece = λ h e. absurd (cc e); start = λ h u e low high. absurd (cc e) }

  onto_line : (t a : ℕ) → Onto log t a (register n log t a) (register n log (suc t) a)
  unfolding register
  onto_line t a = go (is_of a (log t)) refl
    where
      go : (mine : Bool) → is_of a (log t) ≡ mine → Onto log t a (register n log t a) (register_after n mine (opens (place log t a) (log t)) (register n log t a) t (log t))
      go false e = Goes (follows_self (register n log t a))
      go true e = (let mine = own_line log t a e in onto t a (opened log t a) (register n log t a) (may_own n keeps files faults log honest lawful t a mine) mine)

  begins : (a : ℕ) → register n log 0 a ≡ fresh
  unfolding register
  begins a = refl

  pub since : (t a : ℕ) → Since t a (register n log t a)
  since zero a = subst (Since 0 a) (sym (begins a)) (since_fresh 0 a)
  since (suc t) a = since_next t a (register n log (suc t) a) refl (since t a) (onto_line t a)
