-- A transaction asks each brick for one Post.
use Rattle.afr_base.specs.declared.ids.Kind.{Kind}
use Rattle.afr_law.proofs.Discipline.Asks.{IsHealLock, heal_asked, heal_dropped, kept, kept_dropped, lock_number}
use Rattle.afr_model_moves.specs.Discipline.{MayAskExactly, MayExactly, MovesExactly, note, present}
use Rattle.afr_model_moves.specs.Heal.{Gives, Goes}
use Rattle.afr_model_moves.specs.Note.{breaks, left_in_heal, left_outside, stay}
use Rattle.afr_model_moves.specs.Register.{Applies, Exact, Open, Posts, Pres, Step, Untouched, asked_in, rank, same_step}
use Rattle.afr_model_moves.specs.Steps.{may_heal, other}
use Rattle.afr_model_moves.specs.Transaction.{MayPost, Outside}
use Rattle.afr_law.proofs.Heals.Conditions.{asked_now}
use Rattle.afr_model_moves.specs.Lines.{ask_by}
use Rattle.afr_law.proofs.Discipline.Projection.{goes_tally, tally_at, together_now}
use Rattle.afr_model_moves.specs.Sets.{empty, with}
use Rattle.afr_model_moves.specs.Tally.{Tally, note_tally, tally}
use Rattle.afr_law.proofs.Discipline.Untouched.{still_now}
use Rattle.afr_lines.specs.declared.answer.Told.{Told}
use Rattle.afr_lines.specs.declared.line.Line.{Line}
use Rattle.afr_lines.specs.declared.line.Line.TheVariants.{Ask, Begin, End, Event, HealBegin, HealEnd}
use Rattle.afr_lines.specs.declared.request.Request.{Request}
use Rattle.afr_lines.specs.declared.request.Request.TheVariants.{Apply, Index, List, Lock, Look, Mend, Post, Pre, ReadAttr, ReadAttrs, ReadBytes, ReadName, Settle, Unlock}
use Rattle.afr_lines.specs.declared.lock.Domain.TheVariants.{Heal, Work}
use Rattle.std.proofs.Common.{Bool, ap, arith, false, inl, inr, refl, subst, sym, true, true≢false, ℕ, ◌&&◌, ◌||◌, ◌∙◌, ◌≡◌, ◌≤◌}
use Rattle.std.specs.Prelude.{None, Option, Some, if◌then◌else◌}
use Rattle.afr_model_moves.specs.Past.{Log, is_gone, last}
use Rattle.afr_model_moves.specs.Rules as weak
use Rattle.afr_model_moves.specs.Rules.{Register, busy, no_views}
use Rattle.afr_model_moves.proofs.Tests.{with_more, with_self, with_cases}

abbrev Posted : Exact → Tally → Type 0
Posted r k = r.law.heal ≡ false → (r.law.number ≡ 0 → ⊥) → (x : ℕ) → k.posts x ≡ true → (r.step ≡ Posts) × (r.asked x ≡ true)

-- what the tally has of bricks that a Post asked
abbrev posts_of : Tally → ℕ → Request → ℕ → Bool
posts_of k b (Post q g kind missed) = with k.posts b
posts_of k b _ = k.posts

posts_are : (number : ℕ) (k : Tally) (a b : ℕ) (request : Request) (told : Told) (took : Bool) → (note_tally number k (Some (ask_by a b request told took))).posts ≡ posts_of k b request
posts_are number k a b (Post q g kind missed) told took = refl
posts_are number k a b (Pre g kind) told took = refl
posts_are number k a b (Mend repair) told took = refl
posts_are number k a b _ told took = refl

posts_stay : (step : Step) → step ≡ Posts → (if same_step step Untouched then Open else step) ≡ Posts
posts_stay step e = ap (λ (s : Step). if same_step s Untouched then Open else s) e

module _ (n : ℕ) (keeps : ℕ → Kind → Bool) (r : Exact) (k : Tally) (b : ℕ) (out : r.law.heal ≡ false) (h : Posted r k) where
  abbrev Left : Request → Told → Type 0
  Left request told = ((weak.dropping (is_gone told) b (weak.note_ask n r.law b request told)).number ≡ 0 → ⊥) → (x : ℕ) → posts_of k b request x ≡ true → ((left_outside n r b request told).step ≡ Posts) × ((left_outside n r b request told).asked x ≡ true)

  was_some : (request : Request) (told : Told) → ((weak.dropping (is_gone told) b (weak.note_ask n r.law b request told)).number ≡ 0 → ⊥) → r.law.number ≡ 0 → ⊥
  was_some request told some z = elim (kept_dropped request r.law (weak.note_ask n r.law b request told) (is_gone told) b (kept n r.law b request told)).number [ inl same ↦ some (same ∙ z) | inr none ↦ some none ]

  old : (request : Request) (told : Told) → ((weak.dropping (is_gone told) b (weak.note_ask n r.law b request told)).number ≡ 0 → ⊥) → (x : ℕ) → k.posts x ≡ true → (r.step ≡ Posts) × (r.asked x ≡ true)
  old request told some x m = h out (was_some request told some) x m

  same_number : (gone : Bool) (w : Register) → (weak.dropping gone b w).number ≡ w.number
  same_number true w = refl
  same_number false w = refl

  no_post : (request : Request) (told : Told) (step : Step) → rank step ≤ 3 → rank r.step ≤ rank step → ((weak.dropping (is_gone told) b (weak.note_ask n r.law b request told)).number ≡ 0 → ⊥) → (x : ℕ) → k.posts x ≡ true → ⊥
  no_post request told step low order some x m = (let four : rank r.step ≡ 4 = ap rank (old request told some x m).0 in omega (arith, low, order, four))

  left_posted : (request : Request) (told : Told) → Outside n keeps r b request → (IsHealLock request → ⊥) → Left request told
  left_posted (Lock Work area) told may other = go (busy n r.law) refl
    where
      go : (some : Bool) → busy n r.law ≡ some → ((weak.dropping (is_gone told) b (weak.note_ask n r.law b (Lock Work area) told)).number ≡ 0 → ⊥) → (x : ℕ) → k.posts x ≡ true
          → ((if some then stay r else record r { step = Open; asked = empty; unlocked = false; reached = empty; views = no_views }).step ≡ Posts) × ((if some then stay r else record r { step = Open; asked = empty; unlocked = false; reached = empty; views = no_views }).asked x ≡ true)
      go true e some x m = (let w = old (Lock Work area) told some x m in (posts_stay r.step w.0, w.1))
      go false e some x m = absurd (some (same_number (is_gone told) (weak.note_ask n r.law b (Lock Work area) told) ∙ lock_number n r.law b area told e))
  left_posted (Lock Heal area) told may other = absurd (other tt)
  left_posted (Unlock Work area) told may other = λ some x m. (let w = old (Unlock Work area) told some x m in (posts_stay r.step w.0, w.1))
  left_posted (Unlock Heal area) told may other = λ some x m. (let w = old (Unlock Heal area) told some x m in (posts_stay r.step w.0, w.1))
  left_posted (Look g) told may other = λ some x m. (let w = old (Look g) told some x m in (posts_stay r.step w.0, w.1))
  left_posted (ReadBytes g at len) told may other = λ some x m. (let w = old (ReadBytes g at len) told some x m in (posts_stay r.step w.0, w.1))
  left_posted (ReadName g name) told may other = λ some x m. (let w = old (ReadName g name) told some x m in (posts_stay r.step w.0, w.1))
  left_posted (List g) told may other = λ some x m. (let w = old (List g) told some x m in (posts_stay r.step w.0, w.1))
  left_posted (ReadAttr g key) told may other = λ some x m. (let w = old (ReadAttr g key) told some x m in (posts_stay r.step w.0, w.1))
  left_posted (ReadAttrs g) told may other = λ some x m. (let w = old (ReadAttrs g) told some x m in (posts_stay r.step w.0, w.1))
  left_posted Index told may other = λ some x m. (let w = old Index told some x m in (posts_stay r.step w.0, w.1))
  left_posted (Pre g kind) told may other = λ some x m. absurd (no_post (Pre g kind) told Pres (omega arith) may.turn.order some x m)
  left_posted (Apply q) told may other = λ some x m. absurd (no_post (Apply q) told Applies (omega arith) may.turn.order some x m)
  left_posted (Post q g kind missed) told may other = λ some x m. (
    refl,
    elim (with_cases k.posts b x m) [
      | inl here ↦ subst (λ y. with (asked_in r Posts) b y ≡ true) (sym here) (with_self (asked_in r Posts) b)
      | inr was ↦ (let w = old (Post q g kind missed) told some x was in with_more (asked_in r Posts) b x (ap (λ (f : ℕ → Bool). f x) (asked_now r Posts w.0) ∙ w.1))
    ],
  )
  left_posted (Mend repair) told may other = absurd may
  left_posted (Settle g kind less) told may other = absurd may

posted_ask : (n : ℕ) (keeps : ℕ → Kind → Bool) (r : Exact) (k : Tally) (number t a b : ℕ) (request : Request) (told : Told) (took : Bool) → MayAskExactly n keeps r b request → Posted r k → Posted (note n keeps r t (Some (ask_by a b request told took))) (note_tally number k (Some (ask_by a b request told took)))
posted_ask n keeps r k number t a b request told took may h out some x m = go r.law.heal refl
  where
    w : (r.law.heal ≡ false) × (IsHealLock request → ⊥)
    w = heal_asked n r.law b request told (sym (heal_dropped (is_gone told) b (weak.note_ask n r.law b request told)) ∙ out)

    outside : MayAskExactly n keeps r b request → Outside n keeps r b request
    outside (inl q) = q.1
    outside (inr (Goes q)) = absurd (true≢false (sym q.inside ∙ w.0))
    outside (inr (Gives q broken free)) = absurd (true≢false (sym q ∙ w.0))

    go : (heal : Bool) → r.law.heal ≡ heal
        → ((if heal then record (left_in_heal n r t b request told) { possible = λ s. r.possible s && may_heal n keeps r s b request; broken = r.broken || breaks r request told } else left_outside n r b request told).step ≡ Posts)
        × ((if heal then record (left_in_heal n r t b request told) { possible = λ s. r.possible s && may_heal n keeps r s b request; broken = r.broken || breaks r request told } else left_outside n r b request told).asked x ≡ true)
    go true e = absurd (true≢false (sym e ∙ w.0))
    go false e = left_posted n keeps r k b e h request told (outside may) w.1 some x (ap (λ (f : ℕ → Bool). f x) (sym (posts_are number k a b request told took)) ∙ m)

own_posted : (n : ℕ) (keeps : ℕ → Kind → Bool) (r : Exact) (k : Tally) (number t : ℕ) (line : Option Line) → MayExactly n keeps (λ x. r) line → Posted r k → Posted (note n keeps r t line) (note_tally number k line)
own_posted n keeps r k number t None may h = h
own_posted n keeps r k number t (Some (Ask a b request told took)) may h = posted_ask n keeps r k number t a.0 b.0 request told took may.1 h
own_posted n keeps r k number t (Some (Begin a change)) may h = λ out some x m. absurd (cc m)
own_posted n keeps r k number t (Some (HealBegin a g kind)) may h = λ out some x m. absurd (true≢false (sym may.inside ∙ out))
own_posted n keeps r k number t (Some (HealEnd a g kind reply)) may h = λ out some x m. absurd (some refl)
own_posted n keeps r k number t (Some (End a reply)) may h = h
own_posted n keeps r k number t (Some (Event e)) may h = h

module _ (n : ℕ) (keeps : ℕ → Kind → Bool) (log : Log) (moves : MovesExactly n keeps log) where
  posted_now : (t a : ℕ) → Posted (present n keeps log t a) (tally_at log t a)
  posted_now = together_now n keeps log moves (λ t a r k. Posted r k) (λ t a out some x m. absurd (some refl)) (λ t a r k other h. h)
      (λ t a mine h may. own_posted n keeps (present n keeps log t a) (tally_at log t a) (last log t a) t (log t) may h)

  -- a Post line is the first of its attempt at its brick
  pub post_once : (t a b q g : ℕ) (kind : Kind) (missed : ℕ → Bool) → MayPost n keeps (present n keeps log t a) b q g kind missed → (tally log t a).posts b ≡ false
  post_once t a b q g kind missed may = go ((tally_at log t a).posts b) refl
    where
      some : (present n keeps log t a).law.number ≡ 0 → ⊥
      some z = cc (sym z ∙ may.own)

      touched : (present n keeps log t a).step ≡ Untouched → ⊥
      touched e = some (ap (λ (r : Exact). r.law.number) (still_now n keeps log moves t a e))

      go : (hit : Bool) → (tally_at log t a).posts b ≡ hit → (tally log t a).posts b ≡ false
      go false e = ap (λ (k : Tally). k.posts b) (sym (goes_tally n keeps log t a touched)) ∙ e
      go true e = (
          let w = posted_now t a may.outside some b e in
          absurd (true≢false (sym (ap (λ (f : ℕ → Bool). f b) (asked_now (present n keeps log t a) Posts w.0) ∙ w.1) ∙ may.turn.once))
          )
