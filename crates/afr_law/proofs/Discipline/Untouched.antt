-- Where a register begins: no line of the work or heal was, and nothing is noted.
use Rattle.afr_base.specs.declared.ids.Kind.{Kind}
use Rattle.afr_law.proofs.Discipline.Asks.{kept, kept_dropped}
use Rattle.afr_model_moves.specs.Discipline.{MayAskExactly, MayExactly, MovesExactly, note, present}
use Rattle.afr_model_moves.specs.Heal.{Gives, Goes, InHeal}
use Rattle.afr_model_moves.specs.Note.{breaks, left_by, left_in_heal, left_outside, stay}
use Rattle.afr_model_moves.specs.Register.{Applies, Exact, HealLocks, HealPres, HealUnlocks, Looks, Mends, Open, Posts, Pres, Reads, Settles, Step, Unlocks, Untouched, WorkLocks, same_step, untouched}
use Rattle.afr_model_moves.specs.Steps.{may_heal}
use Rattle.afr_model_moves.specs.Transaction.{Outside}
use Rattle.afr_model_moves.specs.Rules.{no_views, unlocked, busy}
use Rattle.afr_law.proofs.Discipline.Projection.{along_now}
use Rattle.afr_model_moves.specs.Sets.{empty}
use Rattle.afr_lines.specs.declared.answer.Told.{Told}
use Rattle.afr_lines.specs.declared.line.Line.{Line}
use Rattle.afr_lines.specs.declared.line.Line.TheVariants.{Ask, Begin, End, Event, HealBegin, HealEnd}
use Rattle.afr_lines.specs.declared.request.Request.{Request}
use Rattle.afr_lines.specs.declared.request.Request.TheVariants.{Apply, Index, List, Lock, Look, Mend, Post, Pre, ReadAttr, ReadAttrs, ReadBytes, ReadName, Settle, Unlock}
use Rattle.afr_lines.specs.declared.lock.Domain.TheVariants.{Heal, Work}
use Rattle.std.proofs.Common.{Bool, ap, arith, false, inl, inr, refl, suc, sym, true, true≢false, ℕ, ◌&&◌, ◌||◌, ◌∙◌, ◌≡◌, ◌≤◌, ◌⊎◌}
use Rattle.std.specs.Prelude.{None, Option, Some, if◌then◌else◌}
use Rattle.afr_model_moves.specs.Rules as weak
use Rattle.afr_model_moves.specs.Past.{Log, is_of, is_gone, last, last_after}

abbrev IsStill : Exact → Type 0
IsStill r = r.step ≡ Untouched → r ≡ untouched

-- a line of an actor leaves its register touched, or is an end
pub some_step : (step : Step) → (if same_step step Untouched then Open else step) ≡ Untouched → ⊥
some_step Untouched e = cc e
some_step Open e = cc e
some_step Pres e = cc e
some_step Applies e = cc e
some_step Posts e = cc e
some_step HealLocks e = cc e
some_step WorkLocks e = cc e
some_step Looks e = cc e
some_step Reads e = cc e
some_step HealPres e = cc e
some_step Mends e = cc e
some_step Settles e = cc e
some_step Unlocks e = cc e
some_step HealUnlocks e = cc e

pub moved : (n : ℕ) (keeps : ℕ → Kind → Bool) (r : Exact) (t b : ℕ) (request : Request) (told : Told) → MayAskExactly n keeps r b request → (left_by n keeps r t b request told).step ≡ Untouched → ⊥
moved n keeps r t b request told may = go r.law.heal refl may
  where
    inside : (q : Request) (d : Told) → InHeal n keeps r b q → (left_in_heal n r t b q d).step ≡ Untouched → ⊥
    inside (Lock Heal area) d k e = cc e
    inside (Lock Work area) d k e = cc e
    inside (Unlock Work area) d k e = cc e
    inside (Unlock Heal area) d k e = cc e
    inside (Look g) d k e = cc e
    inside (ReadBytes g at len) d k e = cc e
    inside (ReadAttrs g) d k e = cc e
    inside (List g) d k e = cc e
    inside (Pre g kind) d k e = cc e
    inside (Mend repair) d k e = cc e
    inside (Settle g kind less) d k e = cc e
    inside (Apply q) d (Goes m) e = true≢false (sym m.allowed)
    inside (Post q g kind missed) d (Goes m) e = true≢false (sym m.allowed)
    inside (ReadName g name) d (Goes m) e = true≢false (sym m.allowed)
    inside (ReadAttr g key) d (Goes m) e = true≢false (sym m.allowed)
    inside Index d (Goes m) e = true≢false (sym m.allowed)
    inside _ d (Gives i broken k) e = k

    outside : (q : Request) (d : Told) → (left_outside n r b q d).step ≡ Untouched → ⊥
    outside (Lock Work area) d = pick (busy n r.law)
      where
        pick : (some : Bool) → (if some then stay r else record r { step = Open; asked = empty; unlocked = false; reached = empty; views = no_views }).step ≡ Untouched → ⊥
        pick true e = some_step r.step e
        pick false e = cc e
    outside (Lock Heal area) d = λ e. cc e
    outside (Unlock Work area) d = λ e. some_step r.step e
    outside (Pre g kind) d = λ e. cc e
    outside (Apply q) d = λ e. cc e
    outside (Post q g kind missed) d = λ e. cc e
    outside (Look g) d = λ e. some_step r.step e
    outside _ d = λ e. some_step r.step e

    go : (heal : Bool) → r.law.heal ≡ heal → ((r.law.heal ≡ false) × Outside n keeps r b request) ⊎ InHeal n keeps r b request
        → (if heal then record (left_in_heal n r t b request told) { possible = λ s. r.possible s && may_heal n keeps r s b request; broken = r.broken || breaks r request told } else left_outside n r b request told).step ≡ Untouched → ⊥
    go true e (inl k) = λ f. true≢false (sym e ∙ k.0)
    go true e (inr k) = inside request told k
    go false e k = outside request told

own_still : (n : ℕ) (keeps : ℕ → Kind → Bool) (r : Exact) (t : ℕ) (line : Option Line) → IsStill r → MayExactly n keeps (λ x. r) line → IsStill (note n keeps r t line)
own_still n keeps r t None s may = s
own_still n keeps r t (Some (Ask a b request told took)) s may = λ e. absurd (moved n keeps r t b.0 request told may.1 e)
own_still n keeps r t (Some (Begin a change)) s may = λ e. absurd (cc e)
own_still n keeps r t (Some (HealBegin a g kind)) s may = λ e. absurd (cc e)
own_still n keeps r t (Some (HealEnd a g kind reply)) s may = λ e. refl
own_still n keeps r t (Some (End a reply)) s may = s
own_still n keeps r t (Some (Event e)) s may = s

-- the number of a register is that of the actor's last Begin or HealBegin line
pub record Newest (log : Log) (t a number : ℕ) : Type 0 where
  pub past : number ≤ t
  pub last : (number ≡ 0 → ⊥) → last log t a ≡ number

last_other : (a t was : ℕ) (line : Option Line) → is_of a line ≡ false → last_after was a t line ≡ was
last_other a t was None e = refl
last_other a t was (Some (Ask x b request told took)) e = refl
last_other a t was (Some (Begin x change)) e = rw e refl
last_other a t was (Some (HealBegin x g kind)) e = rw e refl
last_other a t was (Some (End x reply)) e = refl
last_other a t was (Some (HealEnd x g kind reply)) e = refl
last_other a t was (Some (Event event)) e = refl

newest_foreign : (log : Log) (t a number : ℕ) → is_of a (log t) ≡ false → Newest log t a number → Newest log (suc t) a number
unfolding last
newest_foreign log t a number e k = record { past = omega (arith, k.past); last = λ some. last_other a t (last log t a) (log t) e ∙ k.last some }

newest_own : (n : ℕ) (keeps : ℕ → Kind → Bool) (log : Log) (t a : ℕ) (r : Exact) (line : Option Line) → log t ≡ line → is_of a line ≡ true → Newest log t a r.law.number → Newest log (suc t) a (note n keeps r t line).law.number
unfolding last
newest_own n keeps log t a r None is mine k = absurd (true≢false (sym mine))
newest_own n keeps log t a r (Some (Ask x b request told took)) is mine k = rest (kept_dropped request r.law (weak.note_ask n r.law b.0 request told) (is_gone told) b.0 (kept n r.law b.0 request told)).number
  where
    count : ℕ
    count = (weak.dropping (is_gone told) b.0 (weak.note_ask n r.law b.0 request told)).number

    rest : (count ≡ r.law.number) ⊎ (count ≡ 0) → Newest log (suc t) a count
    rest (inl same) = (let p = k.past in record { past = omega (arith, same, p); last = λ some. ap (last_after (last log t a) a t) is ∙ k.last (λ z. some (same ∙ z)) ∙ sym same })
    rest (inr none) = record { past = omega (arith, none); last = λ some. absurd (some none) }
newest_own n keeps log t a r (Some (Begin x change)) is mine k = record { past = omega arith; last = λ some. ap (last_after (last log t a) a t) is ∙ rw mine refl }
newest_own n keeps log t a r (Some (HealBegin x g kind)) is mine k = record { past = omega arith; last = λ some. ap (last_after (last log t a) a t) is ∙ rw mine refl }
newest_own n keeps log t a r (Some (HealEnd x g kind reply)) is mine k = record { past = omega arith; last = λ some. absurd (some refl) }
newest_own n keeps log t a r (Some (End x reply)) is mine k = (let p = k.past in record { past = omega (arith, p); last = λ some. ap (last_after (last log t a) a t) is ∙ k.last some })
newest_own n keeps log t a r (Some (Event e)) is mine k = absurd (true≢false (sym mine))

module _ (n : ℕ) (keeps : ℕ → Kind → Bool) (log : Log) (moves : MovesExactly n keeps log) where
  pub still_now : (t a : ℕ) → (present n keeps log t a).step ≡ Untouched → present n keeps log t a ≡ untouched
  still_now = along_now n keeps log moves (λ t a r. IsStill r) (λ t a e. refl) (λ t a r other s. s) (λ t a mine s may. own_still n keeps (present n keeps log t a) t (log t) s may)

  pub newest_now : (t a : ℕ) → Newest log t a (present n keeps log t a).law.number
  newest_now = along_now n keeps log moves (λ t a r. Newest log t a r.law.number) (λ t a. record { past = omega arith; last = λ some. absurd (some refl) })
      (λ t a r other k. newest_foreign log t a r.law.number other k) (λ t a mine k may. newest_own n keeps log t a (present n keeps log t a) (log t) refl mine k)
