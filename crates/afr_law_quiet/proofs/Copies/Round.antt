-- What the register of a healer says along an undisturbed round.
use Rattle.std.proofs.Common.{ap, arith, false, inl, inr, refl, subst, sym, Bool, true, true≢false, ℕ, suc, zero, ◌&&◌, ◌||◌, ◌<◌, ◌∙◌, ◌≡◌, ◌≤◌, ◌⊎◌, [], ◌∷◌, length}
use Rattle.std.specs.Prelude.{List as Seq, None, Option, Some}
use Rattle.std.proofs.lemmas.Bool.{eqb-true, or_parts}
use Rattle.afr_base.specs.Bricks.{member}
use Rattle.afr_base.specs.declared.ids.ActorId.{ActorId}
use Rattle.afr_base.specs.declared.ids.BrickId.{BrickId}
use Rattle.afr_base.specs.declared.ids.Gfid.{Gfid}
use Rattle.afr_base.specs.declared.ids.Kind.{Kind}
use Rattle.afr_lines.specs.Work.{Work as Lines, work}
use Rattle.afr_lines.specs.declared.answer.Told.{Told}
use Rattle.afr_lines.specs.declared.answer.Told.TheVariants.{Granted, Held}
use Rattle.afr_lines.specs.declared.line.Line.{Line}
use Rattle.afr_lines.specs.declared.line.Line.TheVariants.{Ask, Begin, End, Event, HealBegin, HealEnd}
use Rattle.afr_lines.specs.declared.request.Area.{Area}
use Rattle.afr_lines.specs.declared.request.Request.{Request}
use Rattle.afr_lines.specs.declared.request.Request.TheVariants.{Apply, Index, List, Lock, Look, Mend, Post, Pre, ReadAttr, ReadAttrs, ReadBytes, ReadName, Settle, Unlock}
use Rattle.afr_lines.specs.declared.lock.Domain.TheVariants.{Heal, Work}
use Rattle.afr_plan.specs.declared.plan.Plan.{Plan}
use Rattle.afr_model.specs.Following.{IsDue, KeepsToTask, ToCommand, ToCrawl, ToItem, ToRound}
use Rattle.afr_model.specs.Healing.{heal_by, is_border, settled_at}
use Rattle.afr_model.specs.Rounds.{heal_due}
use Rattle.afr_model.specs.Showing.{among}
use Rattle.afr_law_quiet.specs.Undisturbed.{begun_after}
use Rattle.afr_law_tables.specs.Codes.{kept_by}
use Rattle.afr_law_tables.specs.CopyLaws.{gfid_is}
use Rattle.afr_model_moves.specs.Discipline.{MayAskExactly, MayExactly, MovesExactly, note, present}
use Rattle.afr_model_moves.specs.Heal.{Gives, Goes, IsUnlock, MayHeal, MayHealBegin}
use Rattle.afr_lines.specs.declared.lock.Domain.{Domain}
use Rattle.afr_model_moves.specs.Note.{breaks, left_in_heal, stopping}
use Rattle.afr_model_moves.specs.Past.{Log, is_gone}
use Rattle.afr_model_moves.specs.Register.{Exact, Looks, Untouched, rank, untouched}
use Rattle.afr_model_moves.specs.Rules as weak
use Rattle.afr_model_moves.specs.Sets.{any, empty, with}
use Rattle.afr_model_moves.specs.Steps.{may_heal}
use Rattle.afr_model_moves.specs.Transaction.{MayOpen, Outside}
use Rattle.afr_model_moves.proofs.ByPosition.{IsPast}
use Rattle.afr_model_moves.proofs.Tests.{with_cases, with_self}
use Rattle.afr_law.proofs.Discipline.Asks.{IsHealLock, kept, kept_dropped}
use Rattle.afr_law.proofs.Discipline.Projection.{tally_at}
use Rattle.afr_law.proofs.Discipline.StagesAlong.{stage_now}
use Rattle.afr_law.proofs.Discipline.Untouched.{moved, still_now}
use Rattle.afr_law.proofs.Heals.Answers.{Honestly}
use Rattle.afr_law.proofs.Heals.Areas.{areas_now, opening_or}
use Rattle.afr_law.proofs.Heals.Holds.{holds_now}
use Rattle.afr_law.proofs.Heals.Raises.{raises_now}
use Rattle.afr_law.proofs.Heals.Sights.{sights_now}
use Rattle.afr_law_quiet.proofs.Copies.Counted.{Counted, CountedIn, plain_on}
use Rattle.afr_law_quiet.proofs.Copies.CountedAsks.{counted_request}
use Rattle.afr_law_quiet.proofs.Copies.Ended.{HasEnded, IsDueFor, due_asked, ended_asked}
use Rattle.afr_law_quiet.proofs.Copies.Level.{LevelIn, level_asked}
use Rattle.afr_law.proofs.Discipline.Firsts.{firsts_now}
use Rattle.afr_law.proofs.Model.Tasks.{heal_begins_no_command}
use Rattle.afr_law.proofs.Heals.Along.{healed_is}
use Rattle.afr_law_quiet.proofs.Copies.Locked.{LockedIn, locked_asked, locked_begun}
use Rattle.afr_law_quiet.proofs.Copies.Looked.{Looked, LookedIn, gfid, looked_asked, looked_begun}
use Rattle.afr_law_quiet.proofs.Copies.Premises.{Premises, shorter, sums}
use Rattle.afr_law_quiet.proofs.Copies.Stretch.{Calm}
use Rattle.afr_law_quiet.proofs.Copies.Told.{Hears, hears}

-- what a heal that isn't broken has asked and was told
pub record Whole (p : Plan) (a : ℕ) (older : Seq Line) (r : Exact) : Type 0 where
  pub locks : LockedIn p.shape.n r r.law
  pub looks : LookedIn p older (heal_by (work a older)) r r.law
  pub counts : CountedIn p older r r.law
  pub due : IsDueFor p (work a older) r.step r.part r.law.kind r.law.object
  pub level : LevelIn p (kept_by p) older r r.law

-- of a healer's register: whole heals as above, settled bricks in them alone, and no lines of a heal where it is untouched
pub record Round (p : Plan) (a : ℕ) (older : Seq Line) (r : Exact) : Type 0 where
  pub still : r.step ≡ Untouched → heal_by (work a older) ≡ []
  pub ended : r.law.heal ≡ true → HasEnded (heal_by (work a older)) r.broken r.step r.part r.law.kind
  pub whole : r.law.heal ≡ true → r.broken ≡ false → Whole p a older r

-- where no line of a work is yet
pub round_fresh : (p : Plan) (a : ℕ) (older : Seq Line) → heal_by (work a older) ≡ [] → Round p a older untouched
round_fresh p a older none = record { still = λ e. none; ended = λ e. absurd (true≢false (sym e)); whole = λ e. absurd (true≢false (sym e)) }

-- a register outside heals
outside_round : (p : Plan) (a : ℕ) (older : Seq Line) (r : Exact) → (r.step ≡ Untouched → ⊥) → r.law.heal ≡ false → Round p a older r
outside_round p a older r some out = record { still = λ e. absurd (some e); ended = λ e. absurd (true≢false (sym e ∙ out)); whole = λ e. absurd (true≢false (sym e ∙ out)) }

pub work_own : (a : ℕ) (line : Line) (older : Seq Line) → Calm a line → work a (line ∷ older) ≡ (line, older) ∷ work a older
work_own a line older c = rw (c.mine, c.within) refl

-- a request that no border of heals is
heal_own : (line : Line) (older : Seq Line) (w : Lines) → is_border line ≡ false → heal_by ((line, older) ∷ w) ≡ (line, older) ∷ heal_by w
heal_own line older w e = rw e refl

-- what a heal may ask is no border
no_border : (n : ℕ) (keeps : ℕ → Kind → Bool) (r : Exact) (s b : ℕ) (x : ActorId) (y : BrickId) (request : Request) (told : Told) (took : Bool) → may_heal n keeps r s b request ≡ true → is_border (Ask x y request told took) ≡ false
no_border n keeps r s b x y Index told took e = absurd (true≢false (sym e))
no_border n keeps r s b x y (Lock domain area) told took e = refl
no_border n keeps r s b x y (Unlock domain area) told took e = refl
no_border n keeps r s b x y (Look g) told took e = refl
no_border n keeps r s b x y (ReadBytes g at len) told took e = refl
no_border n keeps r s b x y (ReadName g name) told took e = refl
no_border n keeps r s b x y (List g) told took e = refl
no_border n keeps r s b x y (ReadAttr g key) told took e = refl
no_border n keeps r s b x y (ReadAttrs g) told took e = refl
no_border n keeps r s b x y (Pre g kind) told took e = refl
no_border n keeps r s b x y (Apply q) told took e = refl
no_border n keeps r s b x y (Post q g kind missed) told took e = refl
no_border n keeps r s b x y (Mend repair) told took e = refl
no_border n keeps r s b x y (Settle g kind less) told took e = refl

module _ (p : Plan) (L : Log) (moves : MovesExactly p.shape.n (kept_by p) L) (honest : Honestly L) (a : ℕ) (older : Seq Line) where
  abbrev n : ℕ
  n = p.shape.n

  abbrev keeps : ℕ → Kind → Bool
  keeps = kept_by p

  abbrev t : ℕ
  t = length older

  abbrev r : Exact
  r = present p.shape.n (kept_by p) L (length older) a

  module _ (x : ActorId) (y : BrickId) (request : Request) (told : Told) (took : Bool) (q : Premises p (Ask x y request told took ∷ older)) (calm : Calm a (Ask x y request told took)) (h : Round p a older r) where
    abbrev line : Line
    line = Ask x y request told took

    abbrev after : Exact
    after = stopping n keeps (record (left_in_heal n r t y.0 request told) { possible = λ s. r.possible s && may_heal n keeps r s y.0 request; broken = r.broken || breaks r request told; law = weak.note n r.law t (Some (Ask x y request told took)) })

    hear : Hears p older y.0 request told × (took ≡ true)
    hear = hears p x y request told took older q.honest.0 calm.fine

    never : MayAskExactly n keeps r y.0 request → (note n keeps r t (Some line)).step ≡ Untouched → ⊥
    never may e = moved n keeps r t y.0 request told may e

    goes : (below : y.0 < n) → MayHeal n keeps r y.0 request → Round p a (line ∷ older) after
    goes below m = record { still = λ e. absurd (moved n keeps r t y.0 request told (inr (Goes m)) (ap (λ (z : Exact). z.step) (healed) ∙ e)); ended = λ on. ends; whole = λ on w. wholly (or_parts _ _ (or_parts _ _ w).0).1 }
      where
        healed : note n keeps r t (Some line) ≡ after
        healed = sym (healed_is n keeps r t x.0 y.0 request told took m.inside)

        own : work a (line ∷ older) ≡ (line, older) ∷ work a older
        own = work_own a line older calm

        own_heal : heal_by (work a (line ∷ older)) ≡ (line, older) ∷ heal_by (work a older)
        own_heal = ap heal_by own ∙ heal_own line older (work a older) (no_border n keeps r m.source y.0 x y request told took m.allowed)

        old : Whole p a older r
        old = h.whole m.inside m.whole

        ends : HasEnded (heal_by (work a (line ∷ older))) after.broken after.step after.part after.law.kind
        ends = subst (λ w. HasEnded w after.broken after.step after.part after.law.kind) (sym own_heal)
            (ended_asked p keeps older r t m.source m.whole m.inside (stage_now n keeps L moves t a) x y took (heal_by (work a older)) (h.ended m.inside) request told m.allowed hear.0 after.broken refl)

        wholly : breaks r request told ≡ false → Whole p a (line ∷ older) after
        wholly un = record {
          locks = locked_asked p older n keeps r t y.0 below old.locks request told m.source m.allowed un hear.0;
          looks = subst (λ w. LookedIn p (line ∷ older) w after after.law) (sym own_heal) (looked_asked p keeps older (heal_by (work a older)) r old.locks (stage_now n keeps L moves t a) t y.0 below m.inside old.looks line refl request told m.source m.allowed un hear.0);
          counts = counted_request p keeps q.five older (sums p older (shorter p line older q)) L t a r (tally_at L t a) m.source m.possible (stage_now n keeps L moves t a) m.inside (areas_now n keeps L moves t a m.inside m.whole) (holds_now n keeps L moves t a m.inside m.whole) (sights_now n keeps L honest moves t a m.inside m.whole) (raises_now n keeps L honest moves t a m.inside m.whole) old.counts x y took hear.1 below request told m.allowed un hear.0;
          due = subst (λ w. IsDueFor p w after.step after.part after.law.kind after.law.object) (sym own) (due_asked p keeps older r t m.source m.whole m.inside (stage_now n keeps L moves t a) x y took (work a older) old.due request told m.allowed hear.0);
          level = level_asked p keeps older L t a r m.source (stage_now n keeps L moves t a) m.inside (areas_now n keeps L moves t a m.inside m.whole) (firsts_now n keeps L moves t a).0 (sights_now n keeps L honest moves t a m.inside m.whole) old.level x y took request told m.allowed hear.0;
        }

    -- a broken heal gives its locks back
    unlocks : r.law.heal ≡ true → r.broken ≡ true → is_border line ≡ false → (same : (w : Lines) → among settled_at ((line, older) ∷ w) ≡ among settled_at w) → (after.step ≡ Untouched → ⊥) → Round p a (line ∷ older) after
    unlocks inside broken border same some = record {
      still = λ e. absurd (some e);
      ended = λ on. subst (λ w. HasEnded w after.broken after.step after.part after.law.kind) (sym (ap heal_by (work_own a line older calm) ∙ heal_own line older (work a older) border))
          (λ z m. absurd (true≢false (sym broken ∙ (h.ended inside z (subst (λ (l : Seq ℕ). member l z ≡ true) (same (heal_by (work a older))) m)).0)));
      whole = λ on w. absurd (true≢false (sym broken ∙ (or_parts _ _ (or_parts _ _ w).0).0));
    }

    -- the first line of a heal
    opens : (area : Area) → request ≡ Lock Heal area → y.0 < n → MayOpen r y.0 area → Round p a (line ∷ older) (note n keeps untouched t (Some line))
    opens area is below may = subst (λ q. Hears p older y.0 q told → Round p a (Ask x y q told took ∷ older) (note n keeps untouched t (Some (Ask x y q told took)))) (sym is)
        (λ k. go told k (subst (λ q. heal_by (work a (Ask x y q told took ∷ older)) ≡ (Ask x y q told took, older) ∷ []) is no_lines)) hear.0
      where
        no_lines : heal_by (work a (line ∷ older)) ≡ (line, older) ∷ []
        no_lines = ap heal_by (work_own a line older calm) ∙ heal_own line older (work a older) (subst (λ q. is_border (Ask x y q told took) ≡ false) (sym is) refl) ∙ ap (λ w. (line, older) ∷ w) (h.still may.first)

        go : (d : Told) → Hears p older y.0 (Lock Heal area) d → heal_by (work a (Ask x y (Lock Heal area) d took ∷ older)) ≡ (Ask x y (Lock Heal area) d took, older) ∷ [] → Round p a (Ask x y (Lock Heal area) d took ∷ older) (note n keeps untouched t (Some (Ask x y (Lock Heal area) d took)))
        go Granted k e = record {
          still = λ m. absurd (cc m);
          ended = λ on z m. absurd (true≢false (sym (subst (λ w. member (among settled_at w) z ≡ true) e m)));
          whole = λ on w. record {
            locks = record {
              granted = λ m i low asked. elim (with_cases empty y.0 i asked) [ inl here ↦ subst (λ b. with empty y.0 b ≡ true) (sym here) (with_self empty y.0) | inr none ↦ absurd (true≢false (sym none)) ];
              whole = λ m. absurd (omega (arith, m));
              waits = λ f m. absurd (cc m);
              under = λ f m. absurd (omega (arith, m));
              free = λ m. idle n;
            };
            looks = record {
              unbegun = λ f m. subst (λ w. begun_after w ≡ None) (sym e) refl;
              begun = λ m. elim m [ inl later ↦ absurd (later refl) | inr far ↦ absurd (omega (arith, far)) ];
              shown = λ first m. absurd (no_begun first (subst (λ w. begun_after w ≡ Some first) e m));
            };
            counts = record {
              fresh = λ z v m. absurd (cc m);
              clear = λ z m. absurd (true≢false (sym m));
              settling = λ m. absurd (cc m);
              over = λ m. absurd (omega (arith, m));
            };
            due = λ f. absurd (f refl (omega arith));
            level = record { seen = λ f. absurd (cc f); level = λ f. absurd (cc f) };
          };
        }
          where
            idle : (m : ℕ) → (any m empty || any m empty) ≡ false
            idle m = rw (none m) refl
              where
                none : (m : ℕ) → any m empty ≡ false
                none zero = refl
                none (suc m) = none m

            no_begun : (first : Seq Line) → Path (Option (Seq Line)) None (Some first) → ⊥
            no_begun first m = cc m
        go (Held owner) k e = record {
          still = λ m. absurd (cc m);
          ended = λ on z m. absurd (true≢false (sym (subst (λ w. member (among settled_at w) z ≡ true) e m)));
          whole = λ on w. absurd (true≢false w);
        }
        go d k e = absurd k

    -- a request outside heals
    leaves : r.law.heal ≡ false → (IsHealLock request → ⊥) → MayAskExactly n keeps r y.0 request → Round p a (line ∷ older) (note n keeps r t (Some line))
    leaves out other may = outside_round p a (line ∷ older) (note n keeps r t (Some line)) (never may) (elim (kept_dropped request r.law (weak.note_ask n r.law y.0 request told) (is_gone told) y.0 (kept n r.law y.0 request told)).heal [
      | inl same ↦ same ∙ out
      | inr lock ↦ absurd (other lock.1)
    ])

    abbrev UnlockAt : Request → Type 0
    UnlockAt q = (domain : Domain) × (area : Area) × (q ≡ Unlock domain area)

    unlock_at : (q : Request) → IsUnlock q → UnlockAt q
    unlock_at (Unlock domain area) k = (domain, area, refl)
    unlock_at _ k = absurd k

    lock_or : (q : Request) → ((area : Area) × (q ≡ Lock Heal area)) ⊎ (IsHealLock q → ⊥)
    lock_or (Lock Heal area) = inl (area, refl)
    lock_or (Lock Work area) = inr (λ k. k)
    lock_or _ = inr (λ k. k)

    pub round_asked : (below : y.0 < n) → MayAskExactly n keeps r y.0 request → Round p a (line ∷ older) (note n keeps r t (Some line))
    round_asked below (inr (Goes m)) = subst (Round p a (line ∷ older)) (healed_is n keeps r t x.0 y.0 request told took m.inside) (goes below m)
    round_asked below (inr (Gives inside broken unlock)) = (
        let u = unlock_at request unlock in
        subst (Round p a (line ∷ older)) (healed_is n keeps r t x.0 y.0 request told took inside)
        (unlocks inside broken (subst (λ q. is_border (Ask x y q told took) ≡ false) (sym u.2) refl) (λ w. subst (λ q. among settled_at ((Ask x y q told took, older) ∷ w) ≡ among settled_at w) (sym u.2) refl)
        (λ e. never (inr (Gives inside broken unlock)) (ap (λ (z : Exact). z.step) (sym (healed_is n keeps r t x.0 y.0 request told took inside)) ∙ e)))
        )
    round_asked below (inl may) = elim (lock_or request) [
      | inl lock ↦ (
          let open_now : MayOpen r y.0 lock.0 = subst (λ q. Outside n keeps r y.0 q) lock.1 may.1 in
          subst (λ (z : Exact). Round p a (line ∷ older) (note n keeps z t (Some line))) (sym (still_now n keeps L moves t a open_now.first)) (opens lock.0 lock.1 below open_now)
          )
      | inr other ↦ leaves may.0 other (inl may)
    ]

  -- the heal that a HealBegin line begins is the one that is due
  begin_due : (x : ActorId) (g : Gfid) (kind : Kind) → x.0 ≡ a → IsDue false p (HealBegin x g kind) older → heal_due p (work a older) ≡ Some (g, kind)
  begin_due x g kind mine d = go d.0.keeps
    where
      go : KeepsToTask false p x.0 (HealBegin x g kind) older → heal_due p (work a older) ≡ Some (g, kind)
      go (ToCommand c e k) = absurd (heal_begins_no_command p c x g kind (length older) (work x.0 older) k)
      go (ToRound plain h b e k) = subst (λ o. heal_due p (work o older) ≡ Some (g, kind)) mine k
      go (ToCrawl crawls who b e k) = absurd (true≢false (sym crawls))
      go (ToItem crawls h item given k) = absurd (true≢false (sym crawls))

  module _ (x : ActorId) (g : Gfid) (kind : Kind) (q : Premises p (HealBegin x g kind ∷ older)) (calm : Calm a (HealBegin x g kind)) (h : Round p a older r) (may : MayHealBegin p.shape.n r g.0 kind) where
    abbrev begin : Line
    begin = HealBegin x g kind

    own_begin : work a (begin ∷ older) ≡ (begin, older) ∷ work a older
    own_begin = work_own a begin older calm

    own_heal_begin : heal_by (work a (begin ∷ older)) ≡ (begin, older) ∷ heal_by (work a older)
    own_heal_begin = ap heal_by own_begin ∙ heal_own begin older (work a older) refl

    six : rank r.step ≡ 6
    six = ap rank may.step

    old_whole : Whole p a older r
    old_whole = h.whole may.inside may.whole

    begin_counts : Counted p (begin ∷ older) Looks r.part empty r.first_views kind r.law.object r.law.first r.law.raised r.law.settled
    begin_counts = elim (opening_or r.part) [
      | inl first ↦ record {
        fresh = λ z v e u. absurd (cc (sym e ∙ (sights_now n keeps L honest moves t a may.inside may.whole).none first (omega (arith, six)) z));
        clear = λ z e every. absurd (let far : 11 ≤ rank r.step = ((holds_now n keeps L moves t a may.inside may.whole).settled z e).1 in omega (arith, far, six));
        settling = λ m. absurd (cc m);
        over = λ m. absurd (omega (arith, m));
      }
      | inr later ↦ subst (λ c. Counted p (begin ∷ older) Looks r.part empty r.first_views c r.law.object r.law.first r.law.raised r.law.settled) (sym (may.later later)) (plain_on p older begin (λ x g kind. refl) (λ x c g kind. refl) r Looks r.part empty (λ m. cc m) (omega arith) old_whole.counts)
    ]

    pub round_begun : Round p a (begin ∷ older) (note n keeps r t (Some begin))
    round_begun = record {
      still = λ e. absurd (cc e);
      ended = λ on. subst (λ w. HasEnded w r.broken Looks r.part kind) (sym own_heal_begin) (λ z m. absurd (let far : 11 ≤ rank r.step = (h.ended may.inside z m).1 in omega (arith, far, six)));
      whole = λ on w. record {
        locks = locked_begun n r g.0 kind empty may old_whole.locks;
        looks = subst (λ w. Looked p (begin ∷ older) w Looks r.part empty r.first_views r.law.object) (sym own_heal_begin) (looked_begun p older (heal_by (work a older)) r empty begin refl six old_whole.looks (λ z. refl));
        counts = begin_counts;
        due = λ f. subst (λ w. heal_due p w ≡ Some (gfid r.law.object, kind)) (sym own_begin) (begin_due x g kind (eqb-true x.0 a calm.mine) (q.follows.0).1 ∙ (λ i. Some (gfid_is g (gfid r.law.object) may.object i, kind)));
        level = record { seen = λ f k z v e. absurd (cc e); level = λ f k. absurd (omega (arith, k)) };
      };
    }

  pub round_own : (line : Line) → Premises p (line ∷ older) → IsPast L (line ∷ older) → Calm a line → Round p a older r → MayExactly n keeps (λ x. r) (Some line) → Round p a (line ∷ older) (note n keeps r t (Some line))
  round_own (Ask x y request told took) q past calm h may = round_asked x y request told took q calm h may.0 may.1
  round_own (Begin x change) q past calm h may = outside_round p a (Begin x change ∷ older) (note n keeps r t (Some (Begin x change))) (λ e. cc e) may.outside
  round_own (HealBegin x g kind) q past calm h may = round_begun x g kind q calm h may
  round_own (End x reply) q past calm h may = absurd (true≢false calm.within)
  round_own (HealEnd x g kind reply) q past calm h may = round_fresh p a (HealEnd x g kind reply ∷ older) (ap heal_by (work_own a (HealEnd x g kind reply) older calm))
  round_own (Event e) q past calm h may = absurd (true≢false (sym calm.mine))
