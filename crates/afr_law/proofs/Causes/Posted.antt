-- What a brick holds against another was posted there.
use Rattle.std.proofs.Common.{◌≡◌, ℕ, zero, suc, ◌+◌, ◌<◌, ◌≤◌, Bool, true, false, ◌&&◌, ◌||◌, ◌⊎◌, inl, inr, refl, sym, ap, subst, arith, true≢false, List}
use Rattle.std.specs.Prelude.{Option, None, Some, ◌==◌, slice_get, if◌then◌else◌}
use Rattle.afr_base.specs.Bricks.{member}
use Rattle.afr_base.specs.declared.ids.Kind.{Kind}
use Rattle.afr_lines.specs.declared.fault.Fault.{Fault}
use Rattle.afr_lines.specs.declared.fault.Fault.TheVariants.{Fail, Lost}
use Rattle.afr_lines.specs.declared.answer.Told.{Told}
use Rattle.afr_lines.specs.declared.answer.Told.TheVariants.{Done, NotConnected}
use Rattle.afr_lines.specs.declared.line.Line.{Line}
use Rattle.afr_lines.specs.declared.line.Line.TheVariants.{Ask}
use Rattle.afr_lines.specs.declared.request.Request.TheVariants.{Post}
use Rattle.afr_base.specs.Kinds.{same_kind}
use Rattle.afr_law.proofs.Safety.Acts.{may_ask, working}
use Rattle.afr_law.specs.Causes.{AccusationsHaveCauses, Cause}
use Rattle.afr_model_moves.specs.Honest.{Answers, Honest, HonestAsk, HonestLine, Tells, asked}
use Rattle.afr_model_moves.specs.Rules.{Lawful, MayPost, PlaneIs, present}
use Rattle.afr_model_moves.specs.Lines.{ask_by, begin_by, post_on}
use Rattle.afr_law.proofs.Freshness.Misses.{not_done}
use Rattle.afr_model_moves.specs.Past.{Beginning, Log, holds, joined, named, opening, pending, posts}
use Rattle.afr_law.proofs.Safety.Steps.{honest_whole, lawful_whole}
use Rattle.std.proofs.lemmas.Bool.{cases_lt, eqb-true}
use Rattle.afr_model_moves.proofs.Tests.{same_kind_yes}
use Rattle.afr_law_tables.specs.SumLaws.{all_true}

-- a post-op on the object and kind that names c
record NamedLine (x c g : ℕ) (kind : Kind) (line : Option Line) : Type 0 where
  a : ℕ
  q : ℕ
  missed : List ℕ
  told : Told
  is : line ≡ Some (ask_by a x (post_on q g kind missed) told true)
  within : member missed c ≡ true

names_line : (x c g : ℕ) (kind : Kind) (line : Option Line) → named x c g kind line ≡ true → NamedLine x c g kind line
names_line x c g kind (Some (Ask a y (Post q h k missed) told took)) e =
    let w = all_true (y.0 == x) took (h.0 == g) (same_kind k kind) (member missed c) e in
    record {
      a = a.0;
      q = q;
      missed = missed;
      told = told;
      is = λ i. Some (ask_by a.0 (eqb-true y.0 x w.0 i) (post_on q (eqb-true h.0 g w.2 i) (same_kind_yes k kind w.3 i) missed) told (w.1 i));
      within = w.4;
    }
names_line x c g kind _ e = absurd (true≢false (sym e))

-- a brick with the object was told that it did it, or that its answer was lost
post_told : (files : Beginning) (log : Log) (t a b q g : ℕ) (kind : Kind) (missed : List ℕ) (told : Told) (live : Bool) (fault : Option Fault)
    → HonestAsk files log t a b (post_on q g kind missed) told true live fault → holds files log t b g ≡ true → (told ≡ Done) ⊎ (told ≡ NotConnected)
post_told files log t a b q g kind missed told false fault h there = inr h.0
post_told files log t a b q g kind missed told true (Some Fail) h there = absurd (true≢false h.1)
post_told files log t a b q g kind missed told true (Some Lost) h there = inr h.0
post_told files log t a b q g kind missed told true None h there = inl (go told (subst (Tells files log t a b (post_on q g kind missed) told) there h.0))
  where
    go : (told : Told) → Answers files log t a b (post_on q g kind missed) told → told ≡ Done
    go Done h = refl
    go _ h = absurd h

module _ (files : Beginning) (log : Log) (x c g : ℕ) (kind : Kind) where
  -- some line from s on and before t raised the number
  pub record RaiseSince (s t : ℕ) : Type 0 where
    pub p : ℕ
    pub after : s ≤ p
    pub past : p < t
    pub there : holds files log p x g ≡ true
    pub names : named x c g kind (log p) ≡ true

  raise_next : (s t : ℕ) → RaiseSince s t → RaiseSince s (suc t)
  raise_next s t w = record { p = w.p; after = w.after; past = omega (arith, w.past); there = w.there; names = w.names }

  posts_next : (t : ℕ) → posts files log (suc t) x c g kind ≡ (if holds files log t x g && named x c g kind (log t) then 1 else 0) + posts files log t x c g kind
  unfolding posts
  posts_next t = refl

  same_posts : (s t : ℕ) → s ≡ t → posts files log s x c g kind < posts files log t x c g kind → ⊥
  same_posts s t e more = (let same : posts files log s x c g kind ≡ posts files log t x c g kind = ap (λ (k : ℕ). posts files log k x c g kind) e in absurd (omega (arith, same, more)))

  -- a number that is greater than it was has been raised since
  pub raised_since : (s t : ℕ) → s ≤ t → posts files log s x c g kind < posts files log t x c g kind → RaiseSince s t
  raised_since s zero low more = absurd (same_posts s 0 (omega arith) more)
  raised_since s (suc t) low more = elim (cases_lt t s) [
    | inl over ↦ absurd (same_posts s (suc t) (omega arith) more)
    | inr under ↦ go under (holds files log t x g) refl (named x c g kind (log t)) refl (subst (λ (m : ℕ). posts files log s x c g kind < m) (posts_next t) more) (λ some. raised_since s t under some)
  ]
    where
      less : (k m : ℕ) → k < 0 + m → k < m
      less k m h = omega (arith, h)

      go : s ≤ t → (there : Bool) → holds files log t x g ≡ there → (hit : Bool) → named x c g kind (log t) ≡ hit → posts files log s x c g kind < (if there && hit then 1 else 0) + posts files log t x c g kind → (posts files log s x c g kind < posts files log t x c g kind → RaiseSince s t) → RaiseSince s (suc t)
      go under true e true f some rest = record { p = t; after = under; past = omega arith; there = e; names = f }
      go under true e false f some rest = raise_next s t (rest (less (posts files log s x c g kind) (posts files log t x c g kind) some))
      go under false e hit f some rest = raise_next s t (rest (less (posts files log s x c g kind) (posts files log t x c g kind) some))

  none_first : posts files log 0 x c g kind ≡ 0
  unfolding posts
  none_first = refl

  raised : (t : ℕ) → 0 < posts files log t x c g kind → RaiseSince 0 t
  raised t some = raised_since 0 t (omega arith) (omega (arith, none_first, some))

module _ (n : ℕ) (files : Beginning) (faults : ℕ → ℕ → Option Fault) (log : Log) (honest : Honest files faults log) (lawful : Lawful n files.keeps log) where
  -- what raised the number is its cause
  pub cause_of : (s t x c g : ℕ) (kind : Kind) → RaiseSince files log x c g kind s t → Cause log t x c g kind
  cause_of s t x c g kind r =
      let w = names_line x c g kind (log r.p) r.names in
      let may : MayPost n log r.p w.a (present n log r.p w.a) x w.q g kind (member w.missed) = may_ask n files.keeps files faults log honest lawful r.p w.a x (post_on w.q g kind w.missed) w.told true w.is in
      let work = working n files.keeps files faults log honest lawful r.p w.a x (post_on w.q g kind w.missed) w.told w.q w.is may.own in
      let attempt = work.numbers.attempt w.q may.outside may.own in
      let plane : PlaneIs (Some (begin_by w.a attempt.change)) g kind = subst (λ (l : Option Line). PlaneIs l g kind) attempt.is may.plane in
      record {
        p = r.p;
        a = w.a;
        q = w.q;
        missed = w.missed;
        told = w.told;
        past = r.past;
        posted = w.is;
        heard = post_told files log r.p w.a x w.q g kind w.missed w.told (joined log r.p w.a x || opening log r.p w.a x) (faults x (suc (asked log r.p x))) (subst (HonestLine files faults log r.p) w.is (honest r.p)) r.there;
        named = w.within;
        change = attempt.change;
        earlier = (work.numbers.newest w.q may.own).0;
        begun = attempt.is;
        object_same = plane.0;
        kind_same = plane.1;
        not_done = λ m y early is. not_done n files.keeps files faults log honest lawful r.p w.a x w.q g kind w.missed w.told w.is c w.within m y early is;
      }

  pub cause_place : (s t x c g : ℕ) (kind : Kind) (r : RaiseSince files log x c g kind s t) → (cause_of s t x c g kind r).p ≡ r.p
  unfolding cause_of
  cause_place s t x c g kind r = refl

  pub has_cause : (t x c g : ℕ) (kind : Kind) → 0 < pending files log t x c g kind → Cause log t x c g kind
  has_cause t x c g kind some = cause_of 0 t x c g kind (raised files log x c g kind t (omega (arith, some)))

-- the law, of lists of lines
pub accusations : AccusationsHaveCauses
accusations n files faults lines honest lawful t x c g kind some = has_cause n files faults (slice_get lines) (honest_whole files faults lines honest) (lawful_whole n files.keeps lines lawful) t x c g kind some
