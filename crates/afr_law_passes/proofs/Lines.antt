-- Each line of an undisturbed round leaves an object and kind unchanged, until a heal of them goes on.
use Rattle.std.proofs.Common.{Bool, ap, arith, false, inl, inr, not, refl, subst, sym, true, true≢false, ℕ, suc, ◌&&◌, ◌||◌, ◌<◌, ◌∙◌, ◌≡◌, ◌≤◌, ◌⊎◌, ◌∷◌, length}
use Rattle.std.specs.Prelude.{List as Seq, None, Option, Some, nat_lt, slice_get, slice_index, ◌==◌}
use Rattle.std.proofs.lemmas.Bool.{cases_lt, eqb-true, or_parts}
use Rattle.afr_base.specs.declared.ids.ActorId.{ActorId}
use Rattle.afr_base.specs.declared.ids.BrickId.{BrickId}
use Rattle.afr_base.specs.declared.ids.Gfid.{Gfid}
use Rattle.afr_base.specs.declared.ids.Kind.{Kind}
use Rattle.afr_object.specs.declared.entry.View.{View}
use Rattle.afr_plan.specs.declared.command.Command.{Command}
use Rattle.afr_lines.specs.declared.answer.Told.{Told}
use Rattle.afr_lines.specs.declared.line.Line.{Line}
use Rattle.afr_lines.specs.declared.line.Line.TheVariants.{Ask, Begin, End, Event, HealBegin, HealEnd}
use Rattle.afr_lines.specs.declared.request.Area.{Area}
use Rattle.afr_lines.specs.declared.request.Request.{Request}
use Rattle.afr_lines.specs.declared.request.Request.TheVariants.{Apply, Index, List, Lock, Look, Mend, Post, Pre, ReadAttr, ReadAttrs, ReadBytes, ReadName, Settle, Unlock}
use Rattle.afr_lines.specs.declared.lock.Domain.TheVariants.{Heal, Work}
use Rattle.afr_plan.specs.declared.plan.Plan.{Plan}
use Rattle.afr_model.specs.Actors.{script_of}
use Rattle.afr_law_tables.specs.Codes.{kept_by}
use Rattle.afr_model_moves.specs.Discipline.{MayAskExactly, MayExactly, MovesExactly, note, present}
use Rattle.afr_model_moves.specs.Heal.{Gives, Goes, MayHeal, MayHealBegin}
use Rattle.afr_model_moves.specs.Note.{breaks}
use Rattle.afr_model_moves.specs.Past.{Log, is_gone}
use Rattle.afr_model_moves.specs.Rules as weak
use Rattle.afr_model_moves.proofs.ByPosition.{IsPast}
use Rattle.afr_law.proofs.Discipline.Asks.{IsHealLock, Kept, heal_asked, heal_dropped, kept, kept_dropped}
use Rattle.afr_law.proofs.Discipline.Firsts.{firsts_now}
use Rattle.afr_law.proofs.Discipline.StagesAlong.{stage_now}
use Rattle.afr_law.proofs.Heals.Areas.{opening_or}
use Rattle.afr_law.proofs.Discipline.Untouched.{still_now}
use Rattle.afr_base.specs.Bricks.{and_left, and_right, below}
use Rattle.afr_base.specs.Keeping.{keeps as keeps_kind}
use Rattle.afr_base.specs.Majority.{is_most}
use Rattle.afr_base.specs.Kinds.{same_kind}
use Rattle.afr_base.specs.declared.marks.Marks.{Marks}
use Rattle.afr_base.proofs.TestLemmas.{or_second}
use Rattle.afr_lines.specs.Work.{ended, work}
use Rattle.afr_model.specs.Healing.{heal_by}
use Rattle.afr_model.specs.Splits.{IsSplit}
use Rattle.afr_model.specs.Sums.{AreSums, pending_of}
use Rattle.afr_law_tables.specs.Clear.{IsClear}
use Rattle.afr_law_tables.specs.CopyLaws.{gfid_is}
use Rattle.afr_model_moves.specs.Honest.{view_marks}
use Rattle.afr_model_moves.specs.Register.{Exact, Opening, accuses, good, has_number, holder, rank, shows_number, unaccused, untouched}
use Rattle.afr_model_moves.specs.Sets.{any}
use Rattle.afr_model_moves.specs.Steps.{goes_on, goes_on_at, looks_over}
use Rattle.afr_model_moves.proofs.Tests.{all_yes, same_kind_self, same_kind_yes, same_self, some_yes}
use Rattle.afr_law.proofs.Heals.Conditions.{looks_far}
use Rattle.afr_law.proofs.Heals.Along.{healed_is}
use Rattle.afr_law_quiet.specs.Undisturbed.{EndsRepaired, IsEverywhere, IsTold, OfHeal, begun_after}
use Rattle.afr_law_quiet.proofs.Copies.AfterLines.{no_begin}
use Rattle.afr_law_quiet.proofs.Copies.After.{none_beyond}
use Rattle.afr_law_quiet.proofs.Copies.Counted.{view_here}
use Rattle.afr_law_quiet.proofs.Copies.Looked.{gfid, looked_all}
use Rattle.afr_law_quiet.proofs.Copies.Premises.{Premises, shorter, sums}
use Rattle.afr_law_quiet.proofs.Copies.Round.{Round, Whole}
use Rattle.afr_law_quiet.proofs.Copies.Stretch.{Calm}
use Rattle.afr_law_quiet.proofs.Copies.Told.{Hears, hears}
use Rattle.afr_law_passes.specs.Converged.{IsUnchanged}
use Rattle.afr_law_passes.proofs.Leaving.{Leaves, Looking, ShowsWas, leaves}
use Rattle.afr_law_passes.proofs.Parts.{Spares}
use Rattle.afr_law_passes.proofs.Spared.{clear_was, everywhere_still, unchanged_self}
use Rattle.afr_law_passes.proofs.Splits.{all_accused}
use Rattle.afr_law_passes.proofs.Standing.{Begun, Gone, Same, Went, same_on, went_on}

-- ---- a heal that goes on
-- no number above 0 shows where there is none
no_number : (marks : Marks) → marks.dirty ≡ 0 → ((c : ℕ) → c < 5 → slice_index marks.pending c ≡ 0) → has_number marks ≡ true → ⊥
no_number marks d none e = (
    let w = some_yes 5 (λ c. not (slice_index marks.pending c == 0)) (or_second (not (marks.dirty == 0)) _ (rw d refl) e) in
    true≢false (sym w.2 ∙ rw (none w.0 w.1) refl)
    )

module _ (p : Plan) (was : Seq Line) (q : Premises p was) (g : Gfid) (kind : Kind) (every : IsEverywhere p was g) (views : ℕ → Option View)
    (seen : (x : ℕ) (view : View) → views x ≡ Some view → (x < p.shape.n) × ShowsWas p was g kind x view) where
  -- the first looks of a heal that goes on show a number above 0
  not_clear : (x : ℕ) → shows_number kind (views x) ≡ true → IsClear p was g kind → ⊥
  not_clear x e clear = go (views x) refl e
    where
      go : (o : Option View) → views x ≡ o → shows_number kind o ≡ true → ⊥
      go None is k = true≢false (sym k)
      go (Some v) is k = (
          let w = seen x v is in
          no_number (view_marks v kind) (w.1.0 ∙ (clear x w.0).0) (λ c low. w.1.1 c low ∙ elim (cases_lt c p.shape.n) [ inl near ↦ (clear x w.0).1 c near | inr far ↦ none_beyond p was q x c g kind far ]) k
          )

  -- and a copy that nobody accuses
  module _ (s : ℕ) (low : s < p.shape.n) (keeps_it : keeps_kind p.shape kind s ≡ true) (all : (x : ℕ) → x < p.shape.n → holder views x ≡ true) (free : unaccused p.shape.n kind views s ≡ true) where
    nobody : (x : ℕ) → x < p.shape.n → pending_of p was x s g kind ≡ 0
    nobody x near = (
        let w = view_here (views x) (all x near) in
        let none : not (accuses kind (Some w.0) s) ≡ true = subst (λ (o : Option View). not (accuses kind o s) ≡ true) w.1 (all_yes p.shape.n (λ y. not (accuses kind (views y) s)) free x near) in
        let zero_here : slice_index (view_marks w.0 kind).pending s ≡ 0 = eqb-true _ 0 (twice (slice_index (view_marks w.0 kind).pending s == 0) none) in
        sym ((seen x w.0 w.1).1.1 s (let five = q.five in omega (arith, low, five))) ∙ zero_here
        )
      where
        twice : (b : Bool) → not (not b) ≡ true → b ≡ true
        twice true e = refl
        twice false e = absurd (true≢false (sym e))

    not_split : (log : Seq Line) → AreSums p log → IsUnchanged p was log g kind → IsSplit p log (below p.shape.n) g kind → ⊥
    not_split log sums_log u split = (
        let w = all_accused p log sums_log q.five g kind (everywhere_still p was log g kind u every) split s low keeps_it in
        let none : pending_of p log w.0 s g kind ≡ 0 = u.pending w.0 s w.1 ∙ nobody w.0 w.1 in
        true≢false (sym w.2 ∙ ap (nat_lt 0) none)
        )

-- the register beside what the log says: nothing is begun outside heals, and a heal of the object and kind has only looked
pub record Still (p : Plan) (a : ℕ) (was : Seq Line) (g : Gfid) (kind : Kind) (older : Seq Line) (r : Exact) : Type 0 where
  pub same : Same p a was g kind older
  pub idle : r.law.heal ≡ false → r.law.number ≡ 0
  pub looking : r.law.heal ≡ true → r.broken ≡ false → r.law.object ≡ g.0 → r.law.kind ≡ kind → Looking p was g kind r.step r.part r.first_views

-- where no line of a work or heal is yet
pub still_fresh : (p : Plan) (a : ℕ) (was : Seq Line) (g : Gfid) (kind : Kind) (older : Seq Line) → Same p a was g kind older → Still p a was g kind older untouched
still_fresh p a was g kind older same = record { same = same; idle = λ e. refl; looking = λ e. absurd (true≢false (sym e)) }

-- unchanged so far, or in a heal that goes on, or repaired at the end of these lines
abbrev pub Left : Plan → ℕ → Seq Line → Gfid → Kind → Seq Line → Seq Line → Exact → Type 0
Left p a was g kind log o z = Still p a was g kind o z ⊎ (Went p a was g kind o ⊎ Gone p a was g kind log)

module _ (p : Plan) (L : Log) (moves : MovesExactly p.shape.n (kept_by p) L) (a : ℕ) (was : Seq Line) (before : Premises p was) (g : Gfid) (kind : Kind) (every : IsEverywhere p was g) (log : Seq Line) (no_command : (k : ℕ) (c : Command) → slice_get (script_of p a) k ≡ Some c → ⊥) (older : Seq Line) where
  abbrev n : ℕ
  n = p.shape.n

  abbrev keeps : ℕ → Kind → Bool
  keeps = kept_by p

  abbrev t : ℕ
  t = length older

  abbrev r : Exact
  r = present p.shape.n (kept_by p) L (length older) a

  abbrev State : Seq Line → Exact → Type 0
  State o z = Left p a was g kind log o z

  -- ---- a heal of the object and kind goes on
  begun_some : (o : Option (Seq Line)) → (o ≡ None → ⊥) → (first : Seq Line) × (o ≡ Some first)
  begun_some None h = absurd (h refl)
  begun_some (Some first) h = (first, refl)

  goes_far : (s : ℕ) → s < p.shape.n → r.law.heal ≡ true → r.broken ≡ false → goes_on n keeps r s ≡ true → looks_over n keeps r s ≡ true → r.law.object ≡ g.0 → r.law.kind ≡ kind → Round p a older r → Still p a was g kind older r → Went p a was g kind older
  goes_far s low inside unbroken on over object kin round h = record {
    first = first.0;
    is = first.1;
    due = whole.due (λ f six. omega (arith, far, six)) ∙ (λ i. Some (gfid_is (gfid r.law.object) g object i, kin i));
    every = held;
    unclear = λ clear. never_clear (clear_was p was first.0 g kind begun.same clear);
    unsplit = not_split p was before g kind every r.first_views look.seen s low kept shown free first.0 (sums p first.0 begun.premises) begun.same;
    none_was = not_split p was before g kind every r.first_views look.seen s low kept shown free was (sums p was before) (unchanged_self p was g kind);
    unclear_was = never_clear;
  }
    where
      whole : Whole p a older r
      whole = round.whole inside unbroken

      look : Looking p was g kind r.step r.part r.first_views
      look = h.looking inside unbroken object kin

      far : 7 ≤ rank r.step
      far = looks_far n keeps r s over

      first : (first : Seq Line) × (begun_after (heal_by (work a older)) ≡ Some first)
      first = begun_some (begun_after (heal_by (work a older))) (whole.looks.begun (inr far))

      begun : Begun p a was g kind first.0
      begun = h.same.begun first.0 first.1

      held : IsEverywhere p first.0 g
      held = everywhere_still p was first.0 g kind begun.same every

      shown : (x : ℕ) → x < n → holder r.first_views x ≡ true
      shown = looked_all p keeps older (heal_by (work a older)) r whole.locks s over (whole.looks.shown first.0 first.1 (subst (IsEverywhere p first.0) (sym (gfid_is (gfid r.law.object) g object)) held))

      is_good : good n keeps r.law.kind r.first_views s ≡ true
      is_good = and_left (good n keeps r.law.kind r.first_views s) (goes_on_at n keeps r s r.part) on

      free : unaccused n kind r.first_views s ≡ true
      free = subst (λ k. unaccused n k r.first_views s ≡ true) kin (and_right (holder r.first_views s && keeps s r.law.kind) (unaccused n r.law.kind r.first_views s) is_good)

      kept : keeps_kind p.shape kind s ≡ true
      kept = and_right (nat_lt s 5) (keeps_kind p.shape kind s) (subst (λ k. kept_by p s k ≡ true) kin (and_right (holder r.first_views s) (keeps s r.law.kind) (and_left (holder r.first_views s && keeps s r.law.kind) (unaccused n r.law.kind r.first_views s) is_good)))

      some : (x : ℕ) × (x < n) × (shows_number r.law.kind (r.first_views x) ≡ true)
      some = some_yes n (λ x. shows_number r.law.kind (r.first_views x)) (and_right (is_most n r.first_reached && is_most n (holder r.first_views)) (any n (λ x. shows_number r.law.kind (r.first_views x)))
          (subst (λ z. goes_on_at n keeps r s z ≡ true) look.first (and_right (good n keeps r.law.kind r.first_views s) (goes_on_at n keeps r s r.part) on)))

      never_clear : IsClear p was g kind → ⊥
      never_clear clear = not_clear p was before g kind every r.first_views look.seen some.0 (subst (λ k. shows_number k (r.first_views some.0) ≡ true) kin some.2) clear

  -- ---- a request
  module _ (x : ActorId) (y : BrickId) (request : Request) (told : Told) (took : Bool) (q : Premises p (Ask x y request told took ∷ older)) (calm : Calm a (Ask x y request told took)) (round : Round p a older r) (h : Still p a was g kind older r) where
    abbrev line : Line
    line = Ask x y request told took

    hear : Hears p older y.0 request told × (took ≡ true)
    hear = hears p x y request told took older q.honest.0 calm.fine

    -- a heal goes on
    on_heals : r.law.heal ≡ true → (note n keeps r t (Some line)).law.heal ≡ false → ⊥
    on_heals inside out = (
        let w = heal_asked n r.law y.0 request told (sym (heal_dropped (is_gone told) y.0 (weak.note_ask n r.law y.0 request told)) ∙ out) in
        true≢false (sym inside ∙ w.0)
        )

    looks_on : (m : MayHeal n keeps r y.0 request) → y.0 < n → (goes_on n keeps r m.source ≡ true → looks_over n keeps r m.source ≡ true → r.law.object ≡ g.0 → r.law.kind ≡ kind → ⊥) → Still p a was g kind (line ∷ older) (note n keeps r t (Some line))
    looks_on m near stop = (
        let w : Leaves p keeps was g kind older (shorter p line older q) r t m.source m.inside (stage_now n keeps L moves t a) (firsts_now n keeps L moves t a).0 h.same.same (h.looking m.inside m.whole) stop x y near took request told
        = leaves p keeps was g kind older (shorter p line older q) r t m.source m.inside (stage_now n keeps L moves t a) (firsts_now n keeps L moves t a).0 h.same.same (h.looking m.inside m.whole) stop x y near took request told m.allowed hear.0 in
        record {
          same = same_on p a was g kind line older q calm w.spared h.same;
          idle = λ out. absurd (on_heals m.inside out);
          looking = λ in_heal whole o k. subst (λ (z : Exact). Looking p was g kind z.step z.part z.first_views) (healed_is n keeps r t x.0 y.0 request told took m.inside) (w.unseen o k);
        }
        )

    goes : y.0 < n → MayHeal n keeps r y.0 request → State (line ∷ older) (note n keeps r t (Some line))
    goes near m = go (goes_on n keeps r m.source && looks_over n keeps r m.source && (r.law.object == g.0) && same_kind r.law.kind kind) refl
      where
        go : (b : Bool) → (goes_on n keeps r m.source && looks_over n keeps r m.source && (r.law.object == g.0) && same_kind r.law.kind kind) ≡ b → State (line ∷ older) (note n keeps r t (Some line))
        go true e = (
            let three = and_left _ _ e in
            let two = and_left _ _ three in
            inr (went_on p a was g kind log no_command older line q calm tt tt (goes_far m.source m.below m.inside m.whole (and_left _ _ two) (and_right _ _ two) (eqb-true r.law.object g.0 (and_right _ _ three)) (same_kind_yes r.law.kind kind (and_right _ _ e)) round h))
            )
        go false e = inl (looks_on m near (λ on over o k. true≢false (sym (rw (on, over, o, k, same_self g.0, same_kind_self kind) refl) ∙ e)))

    -- a broken heal gives its locks back
    gives : r.law.heal ≡ true → r.broken ≡ true → Spares g kind line → State (line ∷ older) (note n keeps r t (Some line))
    gives inside broken spares = inl (record {
      same = same_on p a was g kind line older q calm spares h.same;
      idle = λ out. absurd (on_heals inside out);
      looking = λ in_heal whole. absurd (true≢false (sym broken ∙ (or_parts _ _ (or_parts (r.broken || breaks r request told) _ (ap (λ (z : Exact). z.broken) (healed_is n keeps r t x.0 y.0 request told took inside) ∙ whole)).0).0));
    })

    -- outside heals nothing is begun
    outside : r.law.heal ≡ false → (IsHealLock request → ⊥) → Spares g kind line → State (line ∷ older) (note n keeps r t (Some line))
    outside out other spares = inl (record {
      same = same_on p a was g kind line older q calm spares h.same;
      idle = λ still. elim k.number [ inl same ↦ same ∙ h.idle out | inr none ↦ none ];
      looking = λ in_heal. absurd (elim k.heal [ inl same ↦ true≢false (sym in_heal ∙ same ∙ out) | inr lock ↦ other lock.1 ]);
    })
      where
        k : Kept request r.law (weak.dropping (is_gone told) y.0 (weak.note_ask n r.law y.0 request told))
        k = kept_dropped request r.law (weak.note_ask n r.law y.0 request told) (is_gone told) y.0 (kept n r.law y.0 request told)

  starts : (x : ActorId) (y : BrickId) (area : Area) (told : Told) (took : Bool) → Premises p (Ask x y (Lock Heal area) told took ∷ older) → Calm a (Ask x y (Lock Heal area) told took) → Still p a was g kind older r → State (Ask x y (Lock Heal area) told took ∷ older) (note n keeps untouched t (Some (Ask x y (Lock Heal area) told took)))
  starts x y area told took q calm h = inl (record {
    same = same_on p a was g kind (Ask x y (Lock Heal area) told took) older q calm tt h.same;
    idle = λ out. absurd ((heal_asked n untouched.law y.0 (Lock Heal area) told (sym (heal_dropped (is_gone told) y.0 (weak.note_ask n untouched.law y.0 (Lock Heal area) told)) ∙ out)).1 tt);
    looking = λ in_heal whole o k. record { first = refl; low = omega arith; seen = λ z v m. absurd (cc m) };
  })

  no_own : (m i : ℕ) → m ≡ 0 → m ≡ suc i → ⊥
  no_own m i e f = cc (sym e ∙ f)

  asked : (x : ActorId) (y : BrickId) (request : Request) (told : Told) (took : Bool) → Premises p (Ask x y request told took ∷ older) → Calm a (Ask x y request told took) → Round p a older r → Still p a was g kind older r → y.0 < n → MayAskExactly n keeps r y.0 request
      → State (Ask x y request told took ∷ older) (note n keeps r t (Some (Ask x y request told took)))
  asked x y request told took q calm round h near (inr (Goes m)) = goes x y request told took q calm round h near m
  asked x y (Unlock domain area) told took q calm round h near (inr (Gives inside broken u)) = gives x y (Unlock domain area) told took q calm round h inside broken tt
  asked x y request told took q calm round h near (inr (Gives inside broken u)) = absurd u
  asked x y (Lock Heal area) told took q calm round h near (inl may) = subst (λ (z : Exact). State (Ask x y (Lock Heal area) told took ∷ older) (note n keeps z t (Some (Ask x y (Lock Heal area) told took)))) (sym (still_now n keeps L moves t a may.1.first)) (starts x y area told took q calm h)
  asked x y (Lock Work area) told took q calm round h near (inl may) = outside x y (Lock Work area) told took q calm round h may.0 (λ k. k) tt
  asked x y (Pre i k) told took q calm round h near (inl may) = absurd (may.1.begun_already (h.idle may.0))
  asked x y (Apply i) told took q calm round h near (inl may) = absurd (no_own r.law.number i (h.idle may.0) may.1.own)
  asked x y (Post i j k missed) told took q calm round h near (inl may) = absurd (no_own r.law.number i (h.idle may.0) may.1.own)
  asked x y (Mend repair) told took q calm round h near (inl may) = absurd may.1
  asked x y (Settle i k less) told took q calm round h near (inl may) = absurd may.1
  asked x y (Unlock domain area) told took q calm round h near (inl may) = outside x y (Unlock domain area) told took q calm round h may.0 (λ k. k) tt
  asked x y (Look i) told took q calm round h near (inl may) = outside x y (Look i) told took q calm round h may.0 (λ k. k) tt
  asked x y (ReadBytes i at len) told took q calm round h near (inl may) = outside x y (ReadBytes i at len) told took q calm round h may.0 (λ k. k) tt
  asked x y (ReadName i name) told took q calm round h near (inl may) = outside x y (ReadName i name) told took q calm round h may.0 (λ k. k) tt
  asked x y (List i) told took q calm round h near (inl may) = outside x y (List i) told took q calm round h may.0 (λ k. k) tt
  asked x y (ReadAttr i key) told took q calm round h near (inl may) = outside x y (ReadAttr i key) told took q calm round h may.0 (λ k. k) tt
  asked x y (ReadAttrs i) told took q calm round h near (inl may) = outside x y (ReadAttrs i) told took q calm round h may.0 (λ k. k) tt
  asked x y Index told took q calm round h near (inl may) = outside x y Index told took q calm round h may.0 (λ k. k) tt

  -- a HealBegin line of the object and kind is its heal's first
  begins : (x : ActorId) (i : Gfid) (k : Kind) → Premises p (HealBegin x i k ∷ older) → Calm a (HealBegin x i k) → Still p a was g kind older r → MayHealBegin n r i.0 k → State (HealBegin x i k ∷ older) (note n keeps r t (Some (HealBegin x i k)))
  begins x i k q calm h may = inl (record {
    same = same_on p a was g kind (HealBegin x i k) older q calm tt h.same;
    idle = λ out. absurd (true≢false (sym may.inside ∙ out));
    looking = λ in_heal whole o c. elim (opening_or r.part) [
      | inl first ↦ record { first = first; low = omega arith; seen = λ z v e. absurd (no_view first z v e) }
      | inr later ↦ absurd (later (h.looking may.inside may.whole o (sym (may.later later) ∙ c)).first)
    ];
  })
    where
      no_view : r.part ≡ Opening → (z : ℕ) (v : View) → r.first_views z ≡ Some v → ⊥
      no_view first z v e = (
          let six : rank r.step ≡ 6 = ap rank may.step in
          let f = (firsts_now n keeps L moves t a).0 in
          let there : holder r.first_views z ≡ true = rw e refl in
          true≢false (sym (f.reached z there) ∙ f.early may.inside (omega (arith, six)) first z)
          )

  still_own : (line : Line) → Premises p (line ∷ older) → IsPast L (line ∷ older) → Calm a line → Round p a older r → Still p a was g kind older r → MayExactly n keeps (λ x. r) (Some line) → State (line ∷ older) (note n keeps r t (Some line))
  still_own (Ask x y request told took) q past calm round h may = asked x y request told took q calm round h may.0 may.1
  still_own (Begin x change) q past calm round h may = absurd (no_begin p a older (no_command (ended a older)) x change (eqb-true x.0 a calm.mine) (q.follows.0).1)
  still_own (HealBegin x i k) q past calm round h may = begins x i k q calm h may
  still_own (End x reply) q past calm round h may = absurd (true≢false calm.within)
  still_own (HealEnd x i k reply) q past calm round h may = inl (still_fresh p a was g kind (HealEnd x i k reply ∷ older) (same_on p a was g kind (HealEnd x i k reply) older q calm tt h.same))
  still_own (Event e) q past calm round h may = absurd (true≢false (sym calm.mine))

  -- each line of the round
  pub state_own : (line : Line) → Premises p (line ∷ older) → IsPast L (line ∷ older) → Calm a line → OfHeal (λ h k said before. IsTold p h k said (heal_by (work a before))) line older → OfHeal (λ h k said before. EndsRepaired p log h k said (heal_by (work a before))) line older → Round p a older r → State older r
      → MayExactly n keeps (λ x. r) (Some line) → State (line ∷ older) (note n keeps r t (Some line))
  state_own this q past calm told kept round (inl h) may = still_own this q past calm round h may
  state_own this q past calm told kept round (inr (inl w)) may = inr (went_on p a was g kind log no_command older this q calm told kept w)
  state_own this q past calm told kept round (inr (inr gone)) may = inr (inr gone)
