-- The first views of a heal: each is of a brick that answered the first looks.
use Rattle.afr_base.specs.declared.ids.Kind.{Kind}
use Rattle.afr_base.specs.declared.ids.Kind.TheVariants.{Bytes}
use Rattle.afr_law.proofs.Discipline.Asks.{IsHealLock, Kept, kept, kept_dropped}
use Rattle.afr_model_moves.specs.Heal.{Gives, Goes, InHeal, MayHealBegin}
use Rattle.afr_model_moves.specs.Note.{answers, breaks, left_in_heal, left_outside, next_part, put, stay, view_of}
use Rattle.afr_model_moves.specs.Register.{Exact, Finish, HealLocks, HealPart, HealPres, Looks, Open, Opening, Piece, Step, Unlocks, WorkLocks, holder, is_finish, is_opening, rank, same_step, untouched, whole_area}
use Rattle.afr_model_moves.specs.Steps.{after_unlocks, is_lowest, is_next, locks_at, may_heal, may_heal_work}
use Rattle.afr_model_moves.specs.Transaction.{Outside}
use Rattle.afr_law.proofs.Discipline.Inner.{Inner, inner_asked, inner_begin, lock_held}
use Rattle.afr_model_moves.specs.Rules.{no_views, unlocked, Register, is_area, is_none}
use Rattle.afr_model_moves.specs.Lines.{ask_by}
use Rattle.afr_model_moves.specs.Past.{Log, held, is_gone, last}
use Rattle.afr_law.proofs.Discipline.Projection.{along_now}
use Rattle.afr_model_moves.specs.Sets.{empty}
use Rattle.afr_law.proofs.Discipline.StagesAlong.{StageOf, stage_now}
use Rattle.afr_lines.specs.declared.answer.Told.{Told}
use Rattle.afr_lines.specs.declared.answer.Told.TheVariants.{Seen}
use Rattle.afr_lines.specs.declared.line.Line.{Line}
use Rattle.afr_lines.specs.declared.line.Line.TheVariants.{Ask, Begin, End, Event, HealBegin, HealEnd}
use Rattle.afr_lines.specs.declared.request.Area.{Area}
use Rattle.afr_lines.specs.declared.request.Request.{Request}
use Rattle.afr_lines.specs.declared.request.Request.TheVariants.{Apply, Index, List, Lock, Look, Mend, Post, Pre, ReadAttr, ReadAttrs, ReadBytes, ReadName, Settle, Unlock}
use Rattle.afr_lines.specs.Overlap.{same_area}
use Rattle.afr_object.specs.declared.entry.View.{View}
use Rattle.afr_lines.specs.declared.lock.Domain.TheVariants.{Heal, Work}
use Rattle.std.proofs.Common.{Bool, ap, arith, false, inl, inr, not, refl, subst, suc, sym, true, true≢false, ℕ, ◌&&◌, ◌||◌, ◌∙◌, ◌≡◌, ◌≤◌, ◌⊎◌}
use Rattle.std.specs.Prelude.{None, Option, Some, if◌then◌else◌, ◌==◌}
use Rattle.afr_model_moves.specs.Rules as weak
use Rattle.afr_model_moves.specs.Discipline.{MayAskExactly, MayExactly, MovesExactly, note, present}
use Rattle.std.proofs.lemmas.Bool.{or_parts, eqb-true}
use Rattle.afr_base.specs.Bricks.{and_left}

-- nothing was looked at before the first looks, and a first view is of a brick that answered
pub record Firsts (heal : Bool) (step : Step) (heal_part : HealPart) (first_reached : ℕ → Bool) (first_views : ℕ → Option View) : Type 0 where
  pub out : heal ≡ false → (x : ℕ) → first_reached x ≡ false
  pub early : heal ≡ true → rank step ≤ 6 → heal_part ≡ Opening → (x : ℕ) → first_reached x ≡ false
  pub reached : (x : ℕ) → holder first_views x ≡ true → first_reached x ≡ true

-- the same of a register
abbrev pub FirstsOf : Exact → Type 0
FirstsOf r = Firsts r.law.heal r.step r.part r.first_reached r.first_views

-- in a heal that goes on the looks are locked
abbrev pub Whole : ℕ → Exact → Type 0
Whole n r = r.law.heal ≡ true → r.broken ≡ false → Inner n r.step r.part r.asked r.first_reached r.law.number r.law.held r.law.seen r.law.closed

pub firsts_fresh : FirstsOf untouched
firsts_fresh = record { out = λ e x. refl; early = λ e. absurd (cc e); reached = λ x h. h }

-- a line of a heal
module _ (n : ℕ) (keeps : ℕ → Kind → Bool) (r : Exact) (t b : ℕ) (told : Told) (inside : r.law.heal ≡ true) (f : FirstsOf r) where
  abbrev pub In : Request → Type 0
  In request = Firsts true (left_in_heal n r t b request told).step (left_in_heal n r t b request told).part (left_in_heal n r t b request told).first_reached (left_in_heal n r t b request told).first_views

  far : (next : Step) → 7 ≤ rank next → Firsts true next r.part r.first_reached r.first_views
  far next k = record { out = λ e. absurd (true≢false e); early = λ e low. absurd (omega (arith, low, k)); reached = f.reached }

  seen_here : (opening : Bool) (x : ℕ) → holder (if opening then put r.first_views b (view_of told) else r.first_views) x ≡ true → (if opening then put r.first_reached b (answers told) else r.first_reached) x ≡ true
  seen_here false x h = f.reached x h
  seen_here true x h = go (x == b) h
    where
      shown : (d : Told) → not (is_none (view_of d)) ≡ true → answers d ≡ true
      shown (Seen view) k = refl
      shown _ k = absurd (true≢false (sym k))

      go : (hit : Bool) → not (is_none (if hit then view_of told else r.first_views x)) ≡ true → (if hit then answers told else r.first_reached x) ≡ true
      go true k = shown told k
      go false k = f.reached x k

  work : (source : ℕ) (area : Area) → may_heal_work n keeps r source b area ≡ true → next_part r area ≡ Opening → (x : ℕ) → r.first_reached x ≡ false
  work source area e first x = go (same_step r.step WorkLocks) refl (same_step r.step HealLocks) refl (same_step r.step Unlocks) refl (same_area (whole_area r.law.object Bytes) area) e first
    where
      go : (wait : Bool) → same_step r.step WorkLocks ≡ wait → (heal : Bool) → same_step r.step HealLocks ≡ heal → (freeing : Bool) → same_step r.step Unlocks ≡ freeing → (last : Bool)
          → (if wait then is_area r.law.area area && is_lowest (locks_at r r.part) r.asked b else if heal then is_next n r source area && is_lowest r.law.healing empty b
          else after_unlocks n r area source && not (is_finish r.part) && is_lowest r.first_reached empty b) ≡ true
          → (if freeing then (if last then Finish else Piece) else r.part) ≡ Opening → r.first_reached x ≡ false
      go wait p heal q true v true e first = absurd (cc first)
      go wait p heal q true v false e first = absurd (cc first)
      go true p heal q false v last e first = (let k : rank r.step ≡ 6 = eqb-true (rank r.step) 6 p in f.early inside (omega (arith, k)) first x)
      go false p true q false v last e first = (let k : rank r.step ≡ 5 = eqb-true (rank r.step) 5 q in f.early inside (omega (arith, k)) first x)
      go false p false q false v last e first = absurd (true≢false (sym (and_left _ _ (and_left _ _ (and_left _ _ (and_left _ _ (and_left _ _ e))))) ∙ v))

  pub firsts_in : (request : Request) → InHeal n keeps r b request → In request
  firsts_in (Lock Heal area) (Goes m) = record {
    out = λ e. absurd (true≢false e);
    early = λ e low. (let k : rank r.step ≡ 5 = eqb-true (rank r.step) 5 (and_left _ _ (and_left _ _ m.allowed)) in f.early inside (omega (arith, k)));
    reached = f.reached;
  }
  firsts_in (Lock Work area) (Goes m) = record { out = λ e. absurd (true≢false e); early = λ e low first x. work m.source area m.allowed first x; reached = f.reached }
  firsts_in (Look g) k = record { out = λ e. absurd (true≢false e); early = λ e low. absurd (omega (arith, low)); reached = λ x h. seen_here (is_opening r.part) x h }
  firsts_in (Unlock Work area) k = far Unlocks (omega arith)
  firsts_in (Unlock Heal area) k = far (left_in_heal n r t b (Unlock Heal area) told).step (omega arith)
  firsts_in (ReadBytes g at len) k = far (left_in_heal n r t b (ReadBytes g at len) told).step (omega arith)
  firsts_in (ReadAttrs g) k = far (left_in_heal n r t b (ReadAttrs g) told).step (omega arith)
  firsts_in (List g) k = far (left_in_heal n r t b (List g) told).step (omega arith)
  firsts_in (Pre g kind) k = far HealPres (omega arith)
  firsts_in (Mend repair) k = far (left_in_heal n r t b (Mend repair) told).step (omega arith)
  firsts_in (Settle g kind less) k = far (left_in_heal n r t b (Settle g kind less) told).step (omega arith)
  firsts_in (Apply q) (Goes m) = absurd (true≢false (sym m.allowed))
  firsts_in (Post q g kind missed) (Goes m) = absurd (true≢false (sym m.allowed))
  firsts_in (ReadName g name) (Goes m) = absurd (true≢false (sym m.allowed))
  firsts_in (ReadAttr g key) (Goes m) = absurd (true≢false (sym m.allowed))
  firsts_in Index (Goes m) = absurd (true≢false (sym m.allowed))
  firsts_in _ (Gives i broken k) = absurd k

-- outside one nothing of this changes
outside_first : (n : ℕ) (r : Exact) (b : ℕ) (request : Request) (told : Told) → ((left_outside n r b request told).first_reached ≡ r.first_reached) × ((left_outside n r b request told).first_views ≡ r.first_views)
outside_first n r b (Lock Work area) told = pick (weak.busy n r.law)
  where
    pick : (some : Bool) → ((if some then stay r else record r { step = Open; asked = empty; unlocked = false; reached = empty; views = no_views }).first_reached ≡ r.first_reached)
        × ((if some then stay r else record r { step = Open; asked = empty; unlocked = false; reached = empty; views = no_views }).first_views ≡ r.first_views)
    pick true = (refl, refl)
    pick false = (refl, refl)
outside_first n r b (Lock Heal area) told = (refl, refl)
outside_first n r b (Unlock Work area) told = (refl, refl)
outside_first n r b _ told = (refl, refl)

asked_firsts : (n : ℕ) (keeps : ℕ → Kind → Bool) (r : Exact) (t a b : ℕ) (request : Request) (told : Told) (took : Bool) → FirstsOf r → MayAskExactly n keeps r b request → FirstsOf (note n keeps r t (Some (ask_by a b request told took)))
asked_firsts n keeps r t a b request told took f may = go r.law.heal refl may
  where
    w : Register
    w = weak.dropping (is_gone told) b (weak.note_ask n r.law b request told)

    k : Kept request r.law (weak.dropping (is_gone told) b (weak.note_ask n r.law b request told))
    k = kept_dropped request r.law (weak.note_ask n r.law b request told) (is_gone told) b (kept n r.law b request told)

    go : (heal : Bool) → r.law.heal ≡ heal → ((r.law.heal ≡ false) × Outside n keeps r b request) ⊎ InHeal n keeps r b request
        → Firsts (weak.dropping (is_gone told) b (weak.note_ask n r.law b request told)).heal
        (if heal then record (left_in_heal n r t b request told) { possible = λ s. r.possible s && may_heal n keeps r s b request; broken = r.broken || breaks r request told } else left_outside n r b request told).step
        (if heal then record (left_in_heal n r t b request told) { possible = λ s. r.possible s && may_heal n keeps r s b request; broken = r.broken || breaks r request told } else left_outside n r b request told).part
        (if heal then record (left_in_heal n r t b request told) { possible = λ s. r.possible s && may_heal n keeps r s b request; broken = r.broken || breaks r request told } else left_outside n r b request told).first_reached
        (if heal then record (left_in_heal n r t b request told) { possible = λ s. r.possible s && may_heal n keeps r s b request; broken = r.broken || breaks r request told } else left_outside n r b request told).first_views
    go true e (inl m) = absurd (true≢false (sym e ∙ m.0))
    go true e (inr m) = (
        let l = left_in_heal n r t b request told in
        let on : (weak.dropping (is_gone told) b (weak.note_ask n r.law b request told)).heal ≡ true = elim k.heal [ inl q ↦ q ∙ e | inr q ↦ q.0 ] in
        subst (λ h. Firsts h l.step l.part l.first_reached l.first_views) (sym on) (firsts_in n keeps r t b told e f request m)
        )
    go false e m = (
        let same = outside_first n r b request told in
        record {
          out = λ h x. ap (λ (g : ℕ → Bool). g x) same.0 ∙ f.out e x;
          early = λ h low first x. ap (λ (g : ℕ → Bool). g x) same.0 ∙ f.out e x;
          reached = λ x h. ap (λ (g : ℕ → Bool). g x) same.0 ∙ f.reached x (subst (λ (v : ℕ → Option View). holder v x ≡ true) same.1 h);
        }
        )

in_heal_inner : (n : ℕ) (keeps : ℕ → Kind → Bool) (r : Exact) (t b : ℕ) (request : Request) (told : Told) → StageOf r → Whole n r → r.law.heal ≡ true → InHeal n keeps r b request → (r.broken || breaks r request told) ≡ false
    → Inner n (left_in_heal n r t b request told).step (left_in_heal n r t b request told).part (left_in_heal n r t b request told).asked (left_in_heal n r t b request told).first_reached
    (weak.dropping (is_gone told) b (weak.note_ask n r.law b request told)).number (weak.dropping (is_gone told) b (weak.note_ask n r.law b request told)).held
    (weak.dropping (is_gone told) b (weak.note_ask n r.law b request told)).seen (weak.dropping (is_gone told) b (weak.note_ask n r.law b request told)).closed
in_heal_inner n keeps r t b request told s whole inside (Gives i broken free) un = absurd (true≢false (sym broken ∙ (or_parts r.broken (breaks r request told) un).0))
in_heal_inner n keeps r t b request told s whole inside (Goes m) un = (
    let i = whole inside m.whole in
    inner_asked n keeps r t b told inside i request m.source m.allowed
    (λ area what. record {
      numbers = λ far. absurd (omega (arith, far));
      open_still = λ far. absurd (omega (arith, far));
      within = λ far. absurd (omega (arith, far));
      under = λ far. absurd (omega (arith, far));
      waits = λ e later x below h. lock_held n keeps r b area i (λ low. (s.early inside low).0) later m.source (subst (λ q. may_heal n keeps r m.source b q ≡ true) what m.allowed)
          told (subst (λ q. breaks r q told ≡ false) what (or_parts r.broken (breaks r request told) un).1) x below h;
    })
    )

asked_inner : (n : ℕ) (keeps : ℕ → Kind → Bool) (r : Exact) (t a b : ℕ) (request : Request) (told : Told) (took : Bool) → StageOf r → Whole n r → MayAskExactly n keeps r b request → Whole n (note n keeps r t (Some (ask_by a b request told took)))
asked_inner n keeps r t a b request told took s whole may on un = go r.law.heal refl may (or_parts _ _ un).0
  where
    k : Kept request r.law (weak.dropping (is_gone told) b (weak.note_ask n r.law b request told))
    k = kept_dropped request r.law (weak.note_ask n r.law b request told) (is_gone told) b (kept n r.law b request told)

    opens_one : (q : Request) → IsHealLock q → (number : ℕ) (held seen closed : ℕ → Bool) → Inner n (left_outside n r b q told).step (left_outside n r b q told).part (left_outside n r b q told).asked (left_outside n r b q told).first_reached number held seen closed
    opens_one (Lock Heal area) h number held seen closed = record {
      numbers = λ far. absurd (omega (arith, far));
      open_still = λ far. absurd (omega (arith, far));
      within = λ far. absurd (omega (arith, far));
      under = λ far. absurd (omega (arith, far));
      waits = λ e. absurd (cc e);
    }
    opens_one _ h number held seen closed = absurd h

    go : (heal : Bool) → r.law.heal ≡ heal → ((r.law.heal ≡ false) × Outside n keeps r b request) ⊎ InHeal n keeps r b request
        → (if heal then record (left_in_heal n r t b request told) { possible = λ s. r.possible s && may_heal n keeps r s b request; broken = r.broken || breaks r request told } else left_outside n r b request told).broken ≡ false
        → Inner n
        (if heal then record (left_in_heal n r t b request told) { possible = λ s. r.possible s && may_heal n keeps r s b request; broken = r.broken || breaks r request told } else left_outside n r b request told).step
        (if heal then record (left_in_heal n r t b request told) { possible = λ s. r.possible s && may_heal n keeps r s b request; broken = r.broken || breaks r request told } else left_outside n r b request told).part
        (if heal then record (left_in_heal n r t b request told) { possible = λ s. r.possible s && may_heal n keeps r s b request; broken = r.broken || breaks r request told } else left_outside n r b request told).asked
        (if heal then record (left_in_heal n r t b request told) { possible = λ s. r.possible s && may_heal n keeps r s b request; broken = r.broken || breaks r request told } else left_outside n r b request told).first_reached
        (weak.dropping (is_gone told) b (weak.note_ask n r.law b request told)).number (weak.dropping (is_gone told) b (weak.note_ask n r.law b request told)).held
        (weak.dropping (is_gone told) b (weak.note_ask n r.law b request told)).seen (weak.dropping (is_gone told) b (weak.note_ask n r.law b request told)).closed
    go true e (inl m) v = absurd (true≢false (sym e ∙ m.0))
    go true e (inr m) v = in_heal_inner n keeps r t b request told s whole e m v
    go false e m v = elim k.heal [
      | inl q ↦ absurd (true≢false (sym on ∙ q ∙ e))
      | inr q ↦ opens_one request q.1 (weak.dropping (is_gone told) b (weak.note_ask n r.law b request told)).number (weak.dropping (is_gone told) b (weak.note_ask n r.law b request told)).held (weak.dropping (is_gone told) b (weak.note_ask n r.law b request told)).seen (weak.dropping (is_gone told) b (weak.note_ask n r.law b request told)).closed
    ]

begin_inner : (n : ℕ) (r : Exact) (t g : ℕ) (kind : Kind) → FirstsOf r → Whole n r → MayHealBegin n r g kind → Inner n Looks r.part empty r.first_reached (suc t) r.law.held r.law.held empty
begin_inner n r t g kind f whole may = inner_begin n r.step Looks r.part r.asked (locks_at r r.part) r.first_reached r.law.number t r.law.held r.law.seen r.law.closed refl may.step may.over
    (part r.part) (λ first x. f.early may.inside (let k : rank r.step ≡ 6 = ap rank may.step in omega (arith, k)) first x) (whole may.inside may.whole)
  where
    part : (p : HealPart) → (p ≡ Opening) ⊎ ((p ≡ Opening → ⊥) × ((x : ℕ) → r.first_reached x ≡ true → locks_at r p x ≡ true))
    part Opening = inl refl
    part Piece = inr (λ e. cc e, λ x h. h)
    part Finish = inr (λ e. cc e, λ x h. h)

own_firsts : (n : ℕ) (keeps : ℕ → Kind → Bool) (r : Exact) (t : ℕ) (line : Option Line) → FirstsOf r → MayExactly n keeps (λ x. r) line → FirstsOf (note n keeps r t line)
own_firsts n keeps r t None f may = f
own_firsts n keeps r t (Some (Ask a b request told took)) f may = asked_firsts n keeps r t a.0 b.0 request told took f may.1
own_firsts n keeps r t (Some (Begin a change)) f may = record { out = f.out; early = λ e. absurd (true≢false (sym e ∙ may.outside)); reached = f.reached }
own_firsts n keeps r t (Some (HealBegin a g kind)) f may = record { out = f.out; early = λ e low. absurd (omega (arith, low)); reached = f.reached }
own_firsts n keeps r t (Some (HealEnd a g kind reply)) f may = firsts_fresh
own_firsts n keeps r t (Some (End a reply)) f may = f
own_firsts n keeps r t (Some (Event e)) f may = f

own_inner : (n : ℕ) (keeps : ℕ → Kind → Bool) (r : Exact) (t : ℕ) (line : Option Line) → StageOf r → FirstsOf r → Whole n r → MayExactly n keeps (λ x. r) line → Whole n (note n keeps r t line)
own_inner n keeps r t None s f i may = i
own_inner n keeps r t (Some (Ask a b request told took)) s f i may = asked_inner n keeps r t a.0 b.0 request told took s i may.1
own_inner n keeps r t (Some (Begin a change)) s f i may = λ on un. absurd (true≢false (sym on ∙ may.outside))
own_inner n keeps r t (Some (HealBegin a g kind)) s f i may = λ on un. begin_inner n r t g.0 kind f i may
own_inner n keeps r t (Some (HealEnd a g kind reply)) s f i may = λ on un. absurd (cc on)
own_inner n keeps r t (Some (End a reply)) s f i may = i
own_inner n keeps r t (Some (Event e)) s f i may = i

abbrev Both : ℕ → Exact → Type 0
Both n r = FirstsOf r × Whole n r

module _ (n : ℕ) (keeps : ℕ → Kind → Bool) (log : Log) (moves : MovesExactly n keeps log) where
  own_both : (t a : ℕ) → Both n (present n keeps log t a) → MayExactly n keeps (λ x. present n keeps log t a) (log t) → Both n (note n keeps (present n keeps log t a) t (log t))
  own_both t a w may = (own_firsts n keeps (present n keeps log t a) t (log t) w.0 may, own_inner n keeps (present n keeps log t a) t (log t) (stage_now n keeps log moves t a) w.0 w.1 may)

  pub firsts_now : (t a : ℕ) → FirstsOf (present n keeps log t a) × Whole n (present n keeps log t a)
  firsts_now = along_now n keeps log moves (λ t a r. Both n r) (λ t a. (firsts_fresh, λ on un. absurd (cc on))) (λ t a r other w. w) (λ t a mine w may. own_both t a w may)
