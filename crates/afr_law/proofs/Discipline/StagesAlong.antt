-- Each line keeps what a register says of the steps of a heal.
use Rattle.afr_base.specs.declared.ids.Kind.{Kind}
use Rattle.afr_law.proofs.Discipline.Asks.{IsHealLock, Kept, kept, kept_dropped}
use Rattle.afr_model_moves.specs.Heal.{Gives, Goes, InHeal, MayHealBegin}
use Rattle.afr_model_moves.specs.Note.{breaks, is_held, left_by, left_in_heal, left_outside, stay, stops_at}
use Rattle.afr_model_moves.specs.Steps.{may_heal, other}
use Rattle.afr_model_moves.specs.Rules.{no_views, unlocked, Register, busy}
use Rattle.afr_model_moves.specs.Lines.{ask_by}
use Rattle.afr_model_moves.specs.Past.{Log, is_gone}
use Rattle.afr_law.proofs.Discipline.Projection.{along_now}
use Rattle.afr_model_moves.specs.Sets.{empty}
use Rattle.afr_law.proofs.Discipline.Stages.{Stage, stage_fresh, stage_more, staged}
use Rattle.afr_lines.specs.declared.answer.Told.{Told}
use Rattle.afr_lines.specs.declared.line.Line.{Line}
use Rattle.afr_lines.specs.declared.line.Line.TheVariants.{Ask, Begin, End, Event, HealBegin, HealEnd}
use Rattle.afr_lines.specs.declared.request.Area.{Area}
use Rattle.afr_lines.specs.declared.request.Request.{Request}
use Rattle.afr_lines.specs.declared.request.Request.TheVariants.{Apply, Index, List, Lock, Look, Mend, Post, Pre, ReadAttr, ReadAttrs, ReadBytes, ReadName, Settle, Unlock}
use Rattle.afr_object.specs.declared.change.Change.{Change}
use Rattle.afr_lines.specs.declared.lock.Domain.TheVariants.{Heal, Work}
use Rattle.std.proofs.Common.{Bool, arith, false, inl, inr, refl, subst, suc, sym, true, true≢false, ℕ, ◌&&◌, ◌||◌, ◌∙◌, ◌≡◌, ◌⊎◌}
use Rattle.std.proofs.lemmas.Bool.Decides.{nat_tests}
use Rattle.std.specs.Prelude.{None, Option, Some, if◌then◌else◌, ◌==◌}
use Rattle.afr_model_moves.specs.Rules as weak
use Rattle.afr_model_moves.specs.Transaction.{Outside, MayBegin}
use Rattle.afr_model_moves.specs.Register.{Exact, Step, HealPart, Untouched, Open, Pres, Applies, Posts, HealLocks, Looks}
use Rattle.afr_model_moves.specs.Discipline.{note, present, MayExactly, MayAskExactly, MovesExactly}
use Rattle.afr_law.proofs.Discipline.Untouched.{some_step}

-- the same of a register
abbrev pub StageOf : Exact → Type 0
StageOf r = Stage r.law.heal r.step r.part r.broken r.law.start r.law.number

-- a request outside a heal: no heal, or the first lock of one
module _ (n : ℕ) (keeps : ℕ → Kind → Bool) (r : Exact) (t b : ℕ) (told : Told) (out : r.law.heal ≡ false) (s : StageOf r) where
  abbrev pub gone_after : Request → Register
  gone_after request = weak.dropping (is_gone told) b (weak.note_ask n r.law b request told)

  went_on : (request : Request) (w : Register) (step : Step) (part : HealPart) → Kept request r.law w → (IsHealLock request → ⊥) → part ≡ r.part → (step ≡ Untouched → ⊥) → Stage w.heal step part r.broken w.start w.number
  went_on request w step part k other same some = (let off : w.heal ≡ false = elim k.heal [ inl e ↦ e ∙ out | inr e ↦ absurd (other e.1) ] in record {
    outside = λ f. (k.start ∙ (s.outside out).0, same ∙ (s.outside out).1);
    still = λ f. absurd (some f);
    early = λ f low. absurd (true≢false (sym f ∙ off));
    waiting = λ f g. absurd (true≢false (sym f ∙ off));
    opening = λ f g h. absurd (true≢false (sym f ∙ off));
    later = λ f z. absurd (f (same ∙ (s.outside out).1));
    numbered = λ f g h. absurd (true≢false (sym f ∙ off));
  })

  now : (request : Request) → Kept request r.law (gone_after request)
  now request = kept_dropped request r.law (weak.note_ask n r.law b request told) (is_gone told) b (kept n r.law b request told)

  abbrev pub Left : Request → Type 0
  Left request = Stage (gone_after request).heal (left_outside n r b request told).step (left_outside n r b request told).part r.broken (gone_after request).start (gone_after request).number

  -- the first lock of a heal comes where no line was
  opening_lock : (area : Area) → r.step ≡ Untouched → Stage (gone_after (Lock Heal area)).heal HealLocks r.part r.broken (gone_after (Lock Heal area)).start (gone_after (Lock Heal area)).number
  opening_lock area first = (
      let k = now (Lock Heal area) in
      let start : (gone_after (Lock Heal area)).start ≡ 0 = k.start ∙ (s.outside out).0 in
      let number : (gone_after (Lock Heal area)).number ≡ 0 = elim k.number [ inl e ↦ e ∙ s.still first | inr e ↦ e ] in
      record {
        outside = λ e. (start, (s.outside out).1);
        still = λ e. absurd (cc e);
        early = λ e low. ((s.outside out).1, start, number);
        waiting = λ e f. absurd (cc f);
        opening = λ e f. absurd (cc f);
        later = λ f z. f (s.outside out).1;
        numbered = λ e f far. absurd (omega (arith, far));
      }
      )

  work_left : (area : Area) (some : Bool) → Stage (gone_after (Lock Work area)).heal (if some then stay r else record r { step = Open; asked = empty; unlocked = false; reached = empty; views = no_views }).step
      (if some then stay r else record r { step = Open; asked = empty; unlocked = false; reached = empty; views = no_views }).part r.broken (gone_after (Lock Work area)).start (gone_after (Lock Work area)).number
  work_left area true = went_on (Lock Work area) (gone_after (Lock Work area)) (stay r).step r.part (now (Lock Work area)) (λ x. x) refl (some_step r.step)
  work_left area false = went_on (Lock Work area) (gone_after (Lock Work area)) Open r.part (now (Lock Work area)) (λ x. x) refl (λ e. cc e)

  pub left_staged : (request : Request) → Outside n keeps r b request → Left request
  left_staged (Lock Work area) may = work_left area (busy n r.law)
  left_staged (Lock Heal area) may = opening_lock area may.first
  left_staged (Unlock Work area) may = went_on (Unlock Work area) (gone_after (Unlock Work area)) (stay r).step r.part (now (Unlock Work area)) (λ x. x) refl (some_step r.step)
  left_staged (Unlock Heal area) may = went_on (Unlock Heal area) (gone_after (Unlock Heal area)) (stay r).step r.part (now (Unlock Heal area)) (λ x. x) refl (some_step r.step)
  left_staged (Pre g kind) may = went_on (Pre g kind) (gone_after (Pre g kind)) Pres r.part (now (Pre g kind)) (λ x. x) refl (λ e. cc e)
  left_staged (Apply q) may = went_on (Apply q) (gone_after (Apply q)) Applies r.part (now (Apply q)) (λ x. x) refl (λ e. cc e)
  left_staged (Post q g kind missed) may = went_on (Post q g kind missed) (gone_after (Post q g kind missed)) Posts r.part (now (Post q g kind missed)) (λ x. x) refl (λ e. cc e)
  left_staged (Look g) may = went_on (Look g) (gone_after (Look g)) (stay r).step r.part (now (Look g)) (λ x. x) refl (some_step r.step)
  left_staged (ReadBytes g at len) may = went_on (ReadBytes g at len) (gone_after (ReadBytes g at len)) (stay r).step r.part (now (ReadBytes g at len)) (λ x. x) refl (some_step r.step)
  left_staged (ReadName g name) may = went_on (ReadName g name) (gone_after (ReadName g name)) (stay r).step r.part (now (ReadName g name)) (λ x. x) refl (some_step r.step)
  left_staged (List g) may = went_on (List g) (gone_after (List g)) (stay r).step r.part (now (List g)) (λ x. x) refl (some_step r.step)
  left_staged (ReadAttr g key) may = went_on (ReadAttr g key) (gone_after (ReadAttr g key)) (stay r).step r.part (now (ReadAttr g key)) (λ x. x) refl (some_step r.step)
  left_staged (ReadAttrs g) may = went_on (ReadAttrs g) (gone_after (ReadAttrs g)) (stay r).step r.part (now (ReadAttrs g)) (λ x. x) refl (some_step r.step)
  left_staged Index may = went_on Index (gone_after Index) (stay r).step r.part (now Index) (λ x. x) refl (some_step r.step)
  left_staged (Mend repair) may = absurd may
  left_staged (Settle g kind less) may = absurd may

asked_stage : (n : ℕ) (keeps : ℕ → Kind → Bool) (r : Exact) (t a b : ℕ) (request : Request) (told : Told) (took : Bool) → StageOf r → MayAskExactly n keeps r b request → StageOf (note n keeps r t (Some (ask_by a b request told took)))
asked_stage n keeps r t a b request told took s may = (
    let w = weak.dropping (is_gone told) b (weak.note_ask n r.law b request told) in
    let l = left_by n keeps r t b request told in
    stage_more w.heal l.step l.part l.broken (stops_at n keeps (record l { law = w }) l.step) w.start w.number (go r.law.heal refl may)
    )
  where
    go : (heal : Bool) → r.law.heal ≡ heal → ((r.law.heal ≡ false) × Outside n keeps r b request) ⊎ InHeal n keeps r b request
        → Stage (weak.dropping (is_gone told) b (weak.note_ask n r.law b request told)).heal
        (if heal then record (left_in_heal n r t b request told) { possible = λ s. r.possible s && may_heal n keeps r s b request; broken = r.broken || breaks r request told } else left_outside n r b request told).step
        (if heal then record (left_in_heal n r t b request told) { possible = λ s. r.possible s && may_heal n keeps r s b request; broken = r.broken || breaks r request told } else left_outside n r b request told).part
        (if heal then record (left_in_heal n r t b request told) { possible = λ s. r.possible s && may_heal n keeps r s b request; broken = r.broken || breaks r request told } else left_outside n r b request told).broken
        (weak.dropping (is_gone told) b (weak.note_ask n r.law b request told)).start (weak.dropping (is_gone told) b (weak.note_ask n r.law b request told)).number
    go true e (inl k) = absurd (true≢false (sym e ∙ k.0))
    go true e (inr k) = (
        let w = weak.dropping (is_gone told) b (weak.note_ask n r.law b request told) in
        let l = left_in_heal n r t b request told in
        let kept_now : Kept request r.law w = kept_dropped request r.law (weak.note_ask n r.law b request told) (is_gone told) b (kept n r.law b request told) in
        let on : w.heal ≡ true = elim kept_now.heal [ inl q ↦ q ∙ e | inr q ↦ q.0 ] in
        subst (λ h. Stage h l.step l.part (r.broken || breaks r request told) w.start w.number) (sym on)
        (stage_more true l.step l.part r.broken (breaks r request told) w.start w.number
        (staged n keeps r t b told e (subst (λ h. Stage h r.step r.part r.broken r.law.start r.law.number) e s) request k))
        )
    go false e (inl k) = (
        let w = weak.dropping (is_gone told) b (weak.note_ask n r.law b request told) in
        let l = left_outside n r b request told in
        let more = left_broken request told in
        subst (λ h. Stage w.heal l.step l.part h w.start w.number) (sym more.1) (stage_more w.heal l.step l.part r.broken more.0 w.start w.number (left_staged n keeps r t b told e s request k.1))
        )
      where
        none : (x : Bool) → x ≡ (x || false)
        none true = refl
        none false = refl

        left_broken : (q : Request) (d : Told) → (more : Bool) × ((left_outside n r b q d).broken ≡ (r.broken || more))
        left_broken (Lock Work area) d = pick (busy n r.law)
          where
            pick : (some : Bool) → (more : Bool) × ((if some then stay r else record r { step = Open; asked = empty; unlocked = false; reached = empty; views = no_views }).broken ≡ (r.broken || more))
            pick true = (false, none r.broken)
            pick false = (false, none r.broken)
        left_broken (Lock Heal area) d = (is_held d, refl)
        left_broken (Unlock Work area) d = (false, none r.broken)
        left_broken _ d = (false, none r.broken)
    go false e (inr (Goes m)) = absurd (true≢false (sym m.inside ∙ e))
    go false e (inr (Gives i broken k)) = absurd (true≢false (sym i ∙ e))

begun_stage : (n : ℕ) (keeps : ℕ → Kind → Bool) (r : Exact) (t : ℕ) (change : Change) → StageOf r → MayBegin n keeps r change → Stage r.law.heal Open r.part r.broken r.law.start (suc t)
begun_stage n keeps r t change s may = record {
  outside = s.outside;
  still = λ e. absurd (cc e);
  early = λ e. absurd (true≢false (sym e ∙ may.outside));
  waiting = λ e. absurd (true≢false (sym e ∙ may.outside));
  opening = λ e. absurd (true≢false (sym e ∙ may.outside));
  later = s.later;
  numbered = λ e. absurd (true≢false (sym e ∙ may.outside));
}

piece_stage : (n : ℕ) (r : Exact) (t g : ℕ) (kind : Kind) → StageOf r → MayHealBegin n r g kind → Stage r.law.heal Looks r.part r.broken (if r.law.start == 0 then suc t else r.law.start) (suc t)
piece_stage n r t g kind s may = record {
  outside = λ e. absurd (true≢false (sym may.inside ∙ e));
  still = λ e. absurd (cc e);
  early = λ e low. absurd (omega (arith, low));
  waiting = λ e f. absurd (cc f);
  opening = λ e f. absurd (cc f);
  later = λ f z. some r.law.start (r.law.start == 0) refl z;
  numbered = λ e f far z. some r.law.start (r.law.start == 0) refl z;
}
  where
    some : (m : ℕ) (zero_it : Bool) → (m == 0) ≡ zero_it → (if zero_it then suc t else m) ≡ 0 → ⊥
    some m true e f = omega (arith, f)
    some m false e f = grind (arith, nat_tests)

own_stage : (n : ℕ) (keeps : ℕ → Kind → Bool) (r : Exact) (t : ℕ) (line : Option Line) → StageOf r → MayExactly n keeps (λ x. r) line → StageOf (note n keeps r t line)
own_stage n keeps r t None s may = s
own_stage n keeps r t (Some (Ask a b request told took)) s may = asked_stage n keeps r t a.0 b.0 request told took s may.1
own_stage n keeps r t (Some (Begin a change)) s may = begun_stage n keeps r t change s may
own_stage n keeps r t (Some (HealBegin a g kind)) s may = piece_stage n r t g.0 kind s may
own_stage n keeps r t (Some (HealEnd a g kind reply)) s may = stage_fresh
own_stage n keeps r t (Some (End a reply)) s may = s
own_stage n keeps r t (Some (Event e)) s may = s

module _ (n : ℕ) (keeps : ℕ → Kind → Bool) (log : Log) (moves : MovesExactly n keeps log) where
  own_now : (t a : ℕ) → StageOf (present n keeps log t a) → MayExactly n keeps (λ x. present n keeps log t a) (log t) → StageOf (note n keeps (present n keeps log t a) t (log t))
  own_now t a s may = own_stage n keeps (present n keeps log t a) t (log t) s may

  pub stage_now : (t a : ℕ) → StageOf (present n keeps log t a)
  stage_now = along_now n keeps log moves (λ t a r. StageOf r) (λ t a. stage_fresh) (λ t a r other s. s) (λ t a mine s may. own_now t a s may)
