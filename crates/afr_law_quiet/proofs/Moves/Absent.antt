-- A brick that showed no copy at a heal's first look gets none from the heal.
use Rattle.std.proofs.Common.{◌≡◌, ℕ, Bool, true, false, inl, inr, refl, sym, ap, ◌∙◌, subst, true≢false, List, ◌∷◌, length, take}
use Rattle.std.specs.Prelude.{Option, None, Some, if◌then◌else◌, ◌==◌}
use Rattle.std.specs.Option.{option_map}
use Rattle.std.proofs.lemmas.Bool.{eqb-true}
use Rattle.afr_base.specs.Marks.{dirtied, taken_back}
use Rattle.afr_base.specs.declared.ids.Gfid.{Gfid}
use Rattle.afr_base.specs.Bricks.{and_left}
use Rattle.afr_base.specs.declared.ids.Kind.TheVariants.{Names}
use Rattle.afr_base.specs.declared.ids.NameId.{NameId}
use Rattle.afr_object.specs.declared.entry.Entry.{Entry}
use Rattle.afr_object.specs.Bytes.{copied_in}
use Rattle.afr_lines.specs.declared.fault.Fault.{Fault}
use Rattle.afr_lines.specs.declared.fault.Fault.TheVariants.{Fail, Lost}
use Rattle.afr_object.specs.Repairs.{merged, renamed, with_attrs}
use Rattle.afr_object.specs.Tables.{Table, changed, copy_at, view_of as view_of_copy, with_bytes, with_numbers}
use Rattle.afr_object.specs.declared.change.Repair.TheVariants.{Copy, CutTo, PutAttrs, PutNames}
use Rattle.afr_object.specs.declared.entry.View.{View}
use Rattle.afr_object.specs.Object.{Object}
use Rattle.afr_lines.specs.Log.{from_oldest}
use Rattle.afr_lines.specs.Told.{told_by}
use Rattle.afr_lines.specs.declared.answer.Answer.TheVariants as answer
use Rattle.afr_lines.specs.declared.answer.Told.{Told}
use Rattle.afr_lines.specs.declared.answer.Told.TheVariants.{Done, Failed, Given, Granted, Held, NoObject, NotConnected, Seen}
use Rattle.afr_lines.specs.declared.line.Line.{Line}
use Rattle.afr_lines.specs.declared.request.Request.{Request}
use Rattle.afr_lines.specs.declared.request.Request.TheVariants.{Apply, Index, List as ListNames, Lock, Look, Mend, Post, Pre, ReadAttr, ReadAttrs, ReadBytes, ReadName, Settle, Unlock}
use Rattle.afr_lines.specs.declared.lock.Domain.TheVariants.{Heal, Work}
use Rattle.afr_model.specs.Honest.{IsHonest, RequestOutcome, copy_answer, over_session}
use Rattle.afr_model.specs.Tables.{all_names_shown, attrs_shown, bytes_shown, held_before, holds, keeps_bytes}
use Rattle.afr_model_moves.specs.Heal.{MayHeal}
use Rattle.afr_model_moves.specs.Lines.{ask_by}
use Rattle.afr_model_moves.specs.Note.{answers, left_in_heal, put, view_of}
use Rattle.afr_model_moves.specs.Register.{Exact, is_opening}
use Rattle.afr_plan.specs.declared.plan.Plan.{Plan}
use Rattle.afr_law_tables.specs.Codes.{kept_by}
use Rattle.afr_law.proofs.Heals.Conditions.{look_object, mend_test, onward_object}
use Rattle.afr_law_quiet.proofs.Moves.Along.{Joined, Premises, along, reg}
use Rattle.afr_law_quiet.proofs.Moves.Copies.{altered, copy_of, unchanged}
use Rattle.afr_law_quiet.proofs.Moves.KeptAlong.{broken_stays, heal_same}

-- a look that was told that there is no object found none
pub unseen_copy : (live : Bool) (fault : Option Fault) (c : Option Object) (took : Bool) → (record { told = NoObject; took = took }) ≡ over_session live fault (told_by (copy_answer (λ o. answer.Seen (view_of_copy o)) c)) → c ≡ None
unseen_copy false fault c took e = absurd (cc (ap (λ (q : RequestOutcome). q.told) e))
unseen_copy true (Some Fail) c took e = absurd (cc (ap (λ (q : RequestOutcome). q.told) e))
unseen_copy true (Some Lost) c took e = absurd (cc (ap (λ (q : RequestOutcome). q.told) e))
unseen_copy true None None took e = refl
unseen_copy true None (Some o) took e = absurd (cc (ap (λ (q : RequestOutcome). q.told) e))

module _ (p : Plan) (a : ℕ) where
  abbrev pub IsAbsent : List Line → ℕ → (ℕ → Bool) → (ℕ → Option View) → Type 0
  IsAbsent log g reached views = (x : ℕ) → reached x ≡ true → views x ≡ None → copy_of p log g x ≡ None

  -- a line that may change one copy makes none
  none_changed : (f : Object → Object) (took hit : Bool) (h g : Gfid) (t : Table) → copy_at g t ≡ None → copy_at g (if took then (if hit then changed f h (copy_at h t) t else t) else t) ≡ None
  none_changed f took hit h g t e = elim (altered f took hit h g t) [ inl same ↦ same ∙ e | inr w ↦ w.2 ∙ ap (option_map f) e ]

  renamed_none : (took hit : Bool) (names : List (NameId × Entry)) (h g : Gfid) (t : Table) → h ≡ g → copy_at g t ≡ None → copy_at g (if took then (if hit then renamed names h (copy_at h t) t else t) else t) ≡ None
  renamed_none took hit names h g t same e = ap (copy_at g) (λ i. if took then (if hit then renamed names h (gone i) t else t) else t) ∙ ap (copy_at g) (unchanged took hit t) ∙ e
    where
      gone : copy_at h t ≡ None
      gone = ap (λ (q : Gfid). copy_at q t) same ∙ e

  -- each request of a heal
  none_after : (older : List Line) (r : Exact) (b : ℕ) (request : Request) (told : Told) (took : Bool) → MayHeal p.shape.n (kept_by p) r b request → (x : ℕ) → copy_of p older r.law.object x ≡ None → copy_of p (ask_by a b request told took ∷ older) r.law.object x ≡ None
  none_after older r b (Pre g kind) told took m x e = none_changed (with_numbers kind dirtied) took (b == x) g (record { 0 = r.law.object }) (holds p older x) e
  none_after older r b (Settle g kind down) told took m x e = none_changed (with_numbers kind (taken_back down)) took (b == x) g (record { 0 = r.law.object }) (holds p older x) e
  none_after older r b (Mend (CutTo g len)) told took m x e = none_changed (with_bytes (keeps_bytes p x) (take len)) took (b == x) g (record { 0 = r.law.object }) (holds p older x) e
  none_after older r b (Mend (Copy g at some read)) told took m x e = none_changed (with_bytes (keeps_bytes p x) (copied_in at some (bytes_shown (held_before p older) read (from_oldest read older)))) took (b == x) g (record { 0 = r.law.object }) (holds p older x) e
  none_after older r b (Mend (PutAttrs g read)) told took m x e = none_changed (with_attrs (attrs_shown (held_before p older) read (from_oldest read older))) took (b == x) g (record { 0 = r.law.object }) (holds p older x) e
  none_after older r b (Mend (PutNames g reads)) told took m x e = renamed_none took (b == x) (merged (all_names_shown (held_before p older) older reads)) g (record { 0 = r.law.object }) (holds p older x) (ap (λ (h : ℕ). record { 0 = h }) (eqb-true g.0 r.law.object (onward_object p.shape.n (kept_by p) r m.source g.0 Names (and_left _ _ (and_left _ _ (mend_test p.shape.n (kept_by p) r m.source b (PutNames g reads) m.allowed)))))) e
  none_after older r b (Lock domain area) told took m x e = ap (copy_at (record { 0 = r.law.object })) (unchanged took (b == x) (holds p older x)) ∙ e
  none_after older r b (Unlock domain area) told took m x e = ap (copy_at (record { 0 = r.law.object })) (unchanged took (b == x) (holds p older x)) ∙ e
  none_after older r b (Look g) told took m x e = ap (copy_at (record { 0 = r.law.object })) (unchanged took (b == x) (holds p older x)) ∙ e
  none_after older r b (ReadBytes g at len) told took m x e = ap (copy_at (record { 0 = r.law.object })) (unchanged took (b == x) (holds p older x)) ∙ e
  none_after older r b (ReadAttrs g) told took m x e = ap (copy_at (record { 0 = r.law.object })) (unchanged took (b == x) (holds p older x)) ∙ e
  none_after older r b (ListNames g) told took m x e = ap (copy_at (record { 0 = r.law.object })) (unchanged took (b == x) (holds p older x)) ∙ e
  none_after older r b (ReadName g name) told took m x e = absurd (true≢false (sym m.allowed))
  none_after older r b (ReadAttr g key) told took m x e = absurd (true≢false (sym m.allowed))
  none_after older r b (Apply q) told took m x e = absurd (true≢false (sym m.allowed))
  none_after older r b (Post q g kind missed) told took m x e = absurd (true≢false (sym m.allowed))
  none_after older r b Index told took m x e = absurd (true≢false (sym m.allowed))

  -- the first looks after a request
  absent_after : (older : List Line) (r : Exact) (b : ℕ) (request : Request) (told : Told) (took : Bool) → MayHeal p.shape.n (kept_by p) r b request → IsHonest p (ask_by a b request told took) older → IsAbsent older r.law.object r.first_reached r.first_views
      → (let l = left_in_heal p.shape.n r (length older) b request told in IsAbsent (ask_by a b request told took ∷ older) r.law.object l.first_reached l.first_views)
  absent_after older r b (Look g) told took m honest k = go (is_opening r.part)
    where
      none_told : (d : Told) → answers d ≡ true → view_of d ≡ None → d ≡ NoObject
      none_told NoObject e f = refl
      none_told (Seen view) e f = absurd (cc f)
      none_told Granted e f = absurd (true≢false (sym e))
      none_told (Held owner) e f = absurd (true≢false (sym e))
      none_told Done e f = absurd (true≢false (sym e))
      none_told Given e f = absurd (true≢false (sym e))
      none_told Failed e f = absurd (true≢false (sym e))
      none_told NotConnected e f = absurd (true≢false (sym e))

      object : g.0 ≡ r.law.object
      object = eqb-true g.0 r.law.object (look_object p.shape.n (kept_by p) r m.source b g.0 m.allowed)

      here : answers told ≡ true → view_of told ≡ None → copy_of p older r.law.object b ≡ None
      here e f = ap (λ (h : ℕ). copy_of p older h b) (sym object) ∙ unseen_copy _ _ (copy_at g (holds p older b)) took (subst (λ (d : Told). IsHonest p (ask_by a b (Look g) d took) older) (none_told told e f) honest)

      at : (x : ℕ) → (hit : Bool) → (x == b) ≡ hit → (if hit then answers told else r.first_reached x) ≡ true → (if hit then view_of told else r.first_views x) ≡ None → copy_of p older r.law.object x ≡ None
      at x true h e f = ap (copy_of p older r.law.object) (eqb-true x b h) ∙ here e f
      at x false h e f = k x e f

      go : (first : Bool) → IsAbsent (ask_by a b (Look g) told took ∷ older) r.law.object (if first then put r.first_reached b (answers told) else r.first_reached) (if first then put r.first_views b (view_of told) else r.first_views)
      go true x e f = none_after older r b (Look g) told took m x (at x (x == b) refl e f)
      go false x e f = none_after older r b (Look g) told took m x (k x e f)
  absent_after older r b (Lock Heal area) told took m honest k = λ x e f. none_after older r b (Lock Heal area) told took m x (k x e f)
  absent_after older r b (Lock Work area) told took m honest k = λ x e f. none_after older r b (Lock Work area) told took m x (k x e f)
  absent_after older r b (Unlock Work area) told took m honest k = λ x e f. none_after older r b (Unlock Work area) told took m x (k x e f)
  absent_after older r b (Unlock Heal area) told took m honest k = λ x e f. none_after older r b (Unlock Heal area) told took m x (k x e f)
  absent_after older r b (ReadBytes g at len) told took m honest k = λ x e f. none_after older r b (ReadBytes g at len) told took m x (k x e f)
  absent_after older r b (ReadAttrs g) told took m honest k = λ x e f. none_after older r b (ReadAttrs g) told took m x (k x e f)
  absent_after older r b (ListNames g) told took m honest k = λ x e f. none_after older r b (ListNames g) told took m x (k x e f)
  absent_after older r b (Pre g kind) told took m honest k = λ x e f. none_after older r b (Pre g kind) told took m x (k x e f)
  absent_after older r b (Mend repair) told took m honest k = λ x e f. none_after older r b (Mend repair) told took m x (k x e f)
  absent_after older r b (Settle g kind down) told took m honest k = λ x e f. none_after older r b (Settle g kind down) told took m x (k x e f)
  absent_after older r b (ReadName g name) told took m honest k = absurd (true≢false (sym m.allowed))
  absent_after older r b (ReadAttr g key) told took m honest k = absurd (true≢false (sym m.allowed))
  absent_after older r b (Apply q) told took m honest k = absurd (true≢false (sym m.allowed))
  absent_after older r b (Post q g kind missed) told took m honest k = absurd (true≢false (sym m.allowed))
  absent_after older r b Index told took m honest k = absurd (true≢false (sym m.allowed))

  -- so it is after each line of a heal that isn't broken
  pub absent_now : (log : List Line) → Premises p log → Joined a log → (reg p a log).law.heal ≡ true → (reg p a log).broken ≡ false → IsAbsent log (reg p a log).law.object (reg p a log).first_reached (reg p a log).first_views
  absent_now = along p a (λ log r. r.broken ≡ false → IsAbsent log r.law.object r.first_reached r.first_views) (λ older b g told took premises opens below whole x e f. absurd (true≢false (sym e)))
      (λ older b request told took premises same below m was whole. subst (λ (g : ℕ). (let l = left_in_heal p.shape.n (reg p a older) (length older) b request told in IsAbsent (ask_by a b request told took ∷ older) g l.first_reached l.first_views)) (sym (heal_same p a (reg p a older) b request told m).0)
      (absent_after older (reg p a older) b request told took m premises.honest.0 (was m.whole)))
      (λ older b domain area told took broken was whole. absurd (true≢false (sym (broken_stays p a older b domain area told took broken) ∙ whole)))
      (λ older g kind premises same may was whole. was may.whole)
