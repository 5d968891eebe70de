-- Each line of the rest of an undisturbed round leaves clear what was clear.
use Rattle.std.proofs.Common.{ap, arith, false, inl, inr, refl, subst, sym, Bool, true, true≢false, ℕ, suc, ◌||◌, ◌<◌, ◌∙◌, ◌≡◌, ◌∷◌, length}
use Rattle.std.specs.Prelude.{List as Seq, Some, slice_get}
use Rattle.std.proofs.lemmas.Bool.{eqb-true, or_parts}
use Rattle.afr_base.specs.declared.ids.ActorId.{ActorId}
use Rattle.afr_base.specs.declared.ids.BrickId.{BrickId}
use Rattle.afr_base.specs.declared.ids.Gfid.{Gfid}
use Rattle.afr_base.specs.declared.ids.Kind.{Kind}
use Rattle.afr_object.specs.declared.change.Change.{Change}
use Rattle.afr_object.specs.declared.entry.View.{View}
use Rattle.afr_lines.specs.Work.{ended}
use Rattle.afr_plan.specs.declared.command.Command.{Command}
use Rattle.afr_lines.specs.declared.answer.Told.{Told}
use Rattle.afr_lines.specs.declared.line.Line.{Line}
use Rattle.afr_lines.specs.declared.line.Line.TheVariants.{Ask, Begin, End, Event, HealBegin, HealEnd}
use Rattle.afr_lines.specs.declared.request.Area.{Area}
use Rattle.afr_lines.specs.declared.request.Request.{Request}
use Rattle.afr_lines.specs.declared.request.Request.TheVariants.{Apply, Index, List, Lock, Look, Mend, Post, Pre, ReadAttr, ReadAttrs, ReadBytes, ReadName, Settle, Unlock}
use Rattle.afr_lines.specs.declared.lock.Domain.TheVariants.{Heal, Work}
use Rattle.afr_plan.specs.declared.plan.Plan.{Plan}
use Rattle.afr_model.specs.Actors.{script_of}
use Rattle.afr_model.specs.Following.{IsDue, KeepsToTask, ToCommand, ToCrawl, ToItem, ToRound}
use Rattle.afr_model.specs.Sums.{blames, opens_op}
use Rattle.afr_law_tables.specs.Codes.{kept_by}
use Rattle.afr_model_moves.specs.Discipline.{MayAskExactly, MayExactly, MovesExactly, note, present}
use Rattle.afr_model_moves.specs.Heal.{Gives, Goes, MayHeal, MayHealBegin}
use Rattle.afr_model_moves.specs.Note.{breaks}
use Rattle.afr_model_moves.specs.Past.{Log, is_gone}
use Rattle.afr_model_moves.specs.Register.{Exact, Opening, holder, rank, untouched}
use Rattle.afr_model_moves.specs.Rules as weak
use Rattle.afr_model_moves.proofs.ByPosition.{IsPast}
use Rattle.afr_law.proofs.Discipline.Asks.{IsHealLock, Kept, heal_asked, heal_dropped, kept, kept_dropped}
use Rattle.afr_law.proofs.Discipline.Firsts.{firsts_now}
use Rattle.afr_law.proofs.Discipline.StagesAlong.{stage_now}
use Rattle.afr_law.proofs.Heals.Areas.{opening_or}
use Rattle.afr_law_quiet.proofs.Copies.After.{After, Early, Leaves, Spares, after_fresh, clear_by, leaves}
use Rattle.afr_law.proofs.Discipline.Untouched.{still_now}
use Rattle.afr_law.proofs.Heals.Along.{healed_is}
use Rattle.afr_law_quiet.proofs.Copies.Premises.{Premises, shorter}
use Rattle.afr_law_quiet.proofs.Copies.Stretch.{Calm}
use Rattle.afr_law_quiet.proofs.Copies.Told.{Hears, hears}

-- an actor whose present work is no command begins no attempt
pub no_begin : (p : Plan) (a : ℕ) (older : Seq Line) → ((c : Command) → slice_get (script_of p a) (ended a older) ≡ Some c → ⊥) → (x : ActorId) (change : Change) → x.0 ≡ a → IsDue false p (Begin x change) older → ⊥
no_begin p a older none x change mine d = go d.0.keeps
  where
    go : KeepsToTask false p x.0 (Begin x change) older → ⊥
    go (ToCommand c e f) = none c (subst (λ o. slice_get (script_of p o) (ended o older) ≡ Some c) mine e)
    go (ToRound plain i b e k) = k
    go (ToCrawl crawls who b e k) = k
    go (ToItem crawls i item given k) = k.0

module _ (p : Plan) (L : Log) (moves : MovesExactly p.shape.n (kept_by p) L) (a : ℕ) (g : Gfid) (kind : Kind) (K : Seq Line → Type 0) (on : (line : Line) (older : Seq Line) → Premises p (line ∷ older) → Spares kind g line → K older → K (line ∷ older)) (task : (older : Seq Line) → K older → (c : Command) → slice_get (script_of p a) (ended a older) ≡ Some c → ⊥) (older : Seq Line) where
  abbrev n : ℕ
  n = p.shape.n

  abbrev keeps : ℕ → Kind → Bool
  keeps = kept_by p

  abbrev t : ℕ
  t = length older

  abbrev r : Exact
  r = present p.shape.n (kept_by p) L (length older) a

  module _ (x : ActorId) (y : BrickId) (request : Request) (told : Told) (took : Bool) (q : Premises p (Ask x y request told took ∷ older)) (calm : Calm a (Ask x y request told took)) (h : After p g kind K older r) where
    abbrev line : Line
    line = Ask x y request told took

    hear : Hears p older y.0 request told × (took ≡ true)
    hear = hears p x y request told took older q.honest.0 calm.fine

    -- a heal goes on
    on_heals : r.law.heal ≡ true → (note n keeps r t (Some line)).law.heal ≡ false → ⊥
    on_heals inside out = (
        let w = heal_asked n r.law y.0 request told (sym (heal_dropped (is_gone told) y.0 (weak.note_ask n r.law y.0 request told)) ∙ out) in
        true≢false (sym inside ∙ w.0)
        )

    goes : (below : y.0 < n) → MayHeal n keeps r y.0 request → After p g kind K (line ∷ older) (note n keeps r t (Some line))
    goes below m = (
        let w : Leaves p keeps g kind older (shorter p line older q) r t m.source m.inside (stage_now n keeps L moves t a) (firsts_now n keeps L moves t a).0 h.clear (h.early m.inside m.whole) x y below took request told
        = leaves p keeps g kind older (shorter p line older q) r t m.source m.inside (stage_now n keeps L moves t a) (firsts_now n keeps L moves t a).0 h.clear (h.early m.inside m.whole) x y below took request told m.allowed hear.0 in
        record {
          clear = w.cleared;
          kept = on line older q w.spared h.kept;
          idle = λ out. absurd (on_heals m.inside out);
          early = λ in_heal whole o k. subst (λ (z : Exact). Early kind z.step z.part z.first_views) (healed_is n keeps r t x.0 y.0 request told took m.inside) (w.unseen o k);
        }
        )

    -- a broken heal gives its locks back
    gives : r.law.heal ≡ true → r.broken ≡ true → ((z : ℕ) → opens_op p z g kind line older ≡ 0) → ((z c : ℕ) → blames p z c g kind line older ≡ 0) → Spares kind g line → After p g kind K (line ∷ older) (note n keeps r t (Some line))
    gives inside broken opens blame spares = record {
      clear = clear_by p g kind older line opens blame h.clear;
      kept = on line older q spares h.kept;
      idle = λ out. absurd (on_heals inside out);
      early = λ in_heal whole. absurd (true≢false (sym broken ∙ (or_parts _ _ (or_parts (r.broken || breaks r request told) _ (ap (λ (z : Exact). z.broken) (healed_is n keeps r t x.0 y.0 request told took inside) ∙ whole)).0).0));
    }

    -- outside heals nothing is begun
    outside : r.law.heal ≡ false → (IsHealLock request → ⊥) → ((z : ℕ) → opens_op p z g kind line older ≡ 0) → ((z c : ℕ) → blames p z c g kind line older ≡ 0) → Spares kind g line → After p g kind K (line ∷ older) (note n keeps r t (Some line))
    outside out other opens blame spares = record {
      clear = clear_by p g kind older line opens blame h.clear;
      kept = on line older q spares h.kept;
      idle = λ still. elim k.number [ inl same ↦ same ∙ h.idle out | inr none ↦ none ];
      early = λ in_heal. absurd (elim k.heal [ inl same ↦ true≢false (sym in_heal ∙ same ∙ out) | inr lock ↦ other lock.1 ]);
    }
      where
        k : Kept request r.law (weak.dropping (is_gone told) y.0 (weak.note_ask n r.law y.0 request told))
        k = kept_dropped request r.law (weak.note_ask n r.law y.0 request told) (is_gone told) y.0 (kept n r.law y.0 request told)

  starts : (x : ActorId) (y : BrickId) (area : Area) (told : Told) (took : Bool) → Premises p (Ask x y (Lock Heal area) told took ∷ older) → After p g kind K older r → After p g kind K (Ask x y (Lock Heal area) told took ∷ older) (note n keeps untouched t (Some (Ask x y (Lock Heal area) told took)))
  starts x y area told took q h = record {
    clear = clear_by p g kind older (Ask x y (Lock Heal area) told took) (λ z. refl) (λ z c. refl) h.clear;
    kept = on (Ask x y (Lock Heal area) told took) older q tt h.kept;
    idle = λ out. absurd ((heal_asked n untouched.law y.0 (Lock Heal area) told (sym (heal_dropped (is_gone told) y.0 (weak.note_ask n untouched.law y.0 (Lock Heal area) told)) ∙ out)).1 tt);
    early = λ in_heal whole o k. record { first = refl; low = omega arith; zero = λ z v m. absurd (cc m) };
  }

  no_number : (m i : ℕ) → m ≡ 0 → m ≡ suc i → ⊥
  no_number m i e f = cc (sym e ∙ f)

  after_asked : (x : ActorId) (y : BrickId) (request : Request) (told : Told) (took : Bool) → Premises p (Ask x y request told took ∷ older) → Calm a (Ask x y request told took) → After p g kind K older r → y.0 < n → MayAskExactly n keeps r y.0 request
      → After p g kind K (Ask x y request told took ∷ older) (note n keeps r t (Some (Ask x y request told took)))
  after_asked x y request told took q calm h below (inr (Goes m)) = goes x y request told took q calm h below m
  after_asked x y (Unlock domain area) told took q calm h below (inr (Gives inside broken u)) = gives x y (Unlock domain area) told took q calm h inside broken (λ z. refl) (λ z c. refl) tt
  after_asked x y request told took q calm h below (inr (Gives inside broken u)) = absurd u
  after_asked x y (Lock Heal area) told took q calm h below (inl may) = subst (λ (z : Exact). After p g kind K (Ask x y (Lock Heal area) told took ∷ older) (note n keeps z t (Some (Ask x y (Lock Heal area) told took)))) (sym (still_now n keeps L moves t a may.1.first)) (starts x y area told took q h)
  after_asked x y (Lock Work area) told took q calm h below (inl may) = outside x y (Lock Work area) told took q calm h may.0 (λ k. k) (λ z. refl) (λ z c. refl) tt
  after_asked x y (Pre i k) told took q calm h below (inl may) = absurd (may.1.begun_already (h.idle may.0))
  after_asked x y (Apply i) told took q calm h below (inl may) = absurd (no_number r.law.number i (h.idle may.0) may.1.own)
  after_asked x y (Post i j k missed) told took q calm h below (inl may) = absurd (no_number r.law.number i (h.idle may.0) may.1.own)
  after_asked x y (Mend repair) told took q calm h below (inl may) = absurd may.1
  after_asked x y (Settle i k less) told took q calm h below (inl may) = absurd may.1
  after_asked x y (Unlock domain area) told took q calm h below (inl may) = outside x y (Unlock domain area) told took q calm h may.0 (λ k. k) (λ z. refl) (λ z c. refl) tt
  after_asked x y (Look i) told took q calm h below (inl may) = outside x y (Look i) told took q calm h may.0 (λ k. k) (λ z. refl) (λ z c. refl) tt
  after_asked x y (ReadBytes i at len) told took q calm h below (inl may) = outside x y (ReadBytes i at len) told took q calm h may.0 (λ k. k) (λ z. refl) (λ z c. refl) tt
  after_asked x y (ReadName i name) told took q calm h below (inl may) = outside x y (ReadName i name) told took q calm h may.0 (λ k. k) (λ z. refl) (λ z c. refl) tt
  after_asked x y (List i) told took q calm h below (inl may) = outside x y (List i) told took q calm h may.0 (λ k. k) (λ z. refl) (λ z c. refl) tt
  after_asked x y (ReadAttr i key) told took q calm h below (inl may) = outside x y (ReadAttr i key) told took q calm h may.0 (λ k. k) (λ z. refl) (λ z c. refl) tt
  after_asked x y (ReadAttrs i) told took q calm h below (inl may) = outside x y (ReadAttrs i) told took q calm h may.0 (λ k. k) (λ z. refl) (λ z c. refl) tt
  after_asked x y Index told took q calm h below (inl may) = outside x y Index told took q calm h may.0 (λ k. k) (λ z. refl) (λ z c. refl) tt

  -- a HealBegin line of the object and kind is its heal's first
  begins : (x : ActorId) (h : Gfid) (k : Kind) → Premises p (HealBegin x h k ∷ older) → After p g kind K older r → MayHealBegin n r h.0 k → After p g kind K (HealBegin x h k ∷ older) (note n keeps r t (Some (HealBegin x h k)))
  begins x i k q h may = record {
    clear = clear_by p g kind older (HealBegin x i k) (λ z. refl) (λ z c. refl) h.clear;
    kept = on (HealBegin x i k) older q tt h.kept;
    idle = λ out. absurd (true≢false (sym may.inside ∙ out));
    early = λ in_heal whole o c. elim (opening_or r.part) [
      | inl first ↦ record { first = first; low = omega arith; zero = λ z v e. absurd (no_view first z v e) }
      | inr later ↦ absurd (later (h.early may.inside may.whole o (sym (may.later later) ∙ c)).first)
    ];
  }
    where
      no_view : r.part ≡ Opening → (z : ℕ) (v : View) → r.first_views z ≡ Some v → ⊥
      no_view first z v e = (
          let six : rank r.step ≡ 6 = ap rank may.step in
          let f = (firsts_now n keeps L moves t a).0 in
          let there : holder r.first_views z ≡ true = rw e refl in
          true≢false (sym (f.reached z there) ∙ f.early may.inside (omega (arith, six)) first z)
          )

  pub after_own : (line : Line) → Premises p (line ∷ older) → IsPast L (line ∷ older) → Calm a line → After p g kind K older r → MayExactly n keeps (λ x. r) (Some line) → After p g kind K (line ∷ older) (note n keeps r t (Some line))
  after_own (Ask x y request told took) q past calm h may = after_asked x y request told took q calm h may.0 may.1
  after_own (Begin x change) q past calm h may = absurd (no_begin p a older (task older h.kept) x change (eqb-true x.0 a calm.mine) (q.follows.0).1)
  after_own (HealBegin x i k) q past calm h may = begins x i k q h may
  after_own (End x reply) q past calm h may = absurd (true≢false calm.within)
  after_own (HealEnd x i k reply) q past calm h may = after_fresh p g kind K (HealEnd x i k reply ∷ older) (clear_by p g kind older (HealEnd x i k reply) (λ z. refl) (λ z c. refl) h.clear) (on (HealEnd x i k reply) older q tt h.kept)
  after_own (Event e) q past calm h may = absurd (true≢false (sym calm.mine))
