-- Each line of a heal of bytes keeps what is known of the copies of its object.
use Rattle.std.proofs.Common.{◌≡◌, ℕ, ◌<◌, ◌≤◌, Bool, true, false, ◌&&◌, ◌⊎◌, inl, inr, refl, sym, ap, ◌∙◌, subst, arith, true≢false, List, ◌∷◌, length, not}
use Rattle.std.specs.Prelude.{Option, None, Some, if◌then◌else◌}
use Rattle.std.proofs.lemmas.Bool.{or_left, or_parts}
use Rattle.afr_base.specs.Bricks.{and_left}
use Rattle.afr_base.specs.declared.ids.Kind.{Kind}
use Rattle.afr_base.specs.declared.ids.Kind.TheVariants.{Attrs, Bytes, Names}
use Rattle.afr_object.specs.declared.change.Repair.TheVariants.{Copy, CutTo, PutAttrs, PutNames}
use Rattle.afr_object.specs.declared.entry.View.{View}
use Rattle.afr_lines.specs.Overlap.{same_area}
use Rattle.afr_lines.specs.declared.answer.Told.{Told}
use Rattle.afr_lines.specs.declared.answer.Told.TheVariants.{Done, Seen}
use Rattle.afr_lines.specs.declared.line.Line.{Line}
use Rattle.afr_lines.specs.declared.request.Area.{Area}
use Rattle.afr_lines.specs.declared.request.Request.{Request}
use Rattle.afr_lines.specs.declared.request.Request.TheVariants.{Apply, Index, List as ListNames, Lock, Look, Mend, Post, Pre, ReadAttr, ReadAttrs, ReadBytes, ReadName, Settle, Unlock}
use Rattle.afr_lines.specs.declared.lock.Domain.{Domain}
use Rattle.afr_lines.specs.declared.lock.Domain.TheVariants.{Heal, Work}
use Rattle.afr_model.specs.Tables.{holds}
use Rattle.afr_model_moves.proofs.AreaLemmas.{same_area_is}
use Rattle.afr_model_moves.specs.Discipline.{note}
use Rattle.afr_model_moves.specs.Heal.{MayHeal, MayHealBegin}
use Rattle.afr_model_moves.specs.Lines.{ask_by, heal_begin_by}
use Rattle.afr_model_moves.specs.Note.{breaks, left_in_heal}
use Rattle.afr_model_moves.specs.Past.{is_gone}
use Rattle.afr_model_moves.specs.Register.{Exact, Finish, HealLocks, Looks, Opening, Piece, Unlocks, is_opening, is_piece, no_reads, rank, same_step, whole_area}
use Rattle.afr_model_moves.specs.Rules as weak
use Rattle.afr_model_moves.specs.Rules.{Register, heal_area}
use Rattle.afr_model_moves.specs.Sets.{empty}
use Rattle.afr_model_moves.specs.Steps.{may_heal}
use Rattle.afr_plan.specs.declared.plan.Plan.{Plan}
use Rattle.afr_law_tables.specs.Codes.{kept_by}
use Rattle.afr_law.proofs.Discipline.AskFields.{frees_heal, frees_work, heal_locked, sees, work_locked}
use Rattle.afr_law.proofs.Discipline.Firsts.{FirstsOf}
use Rattle.afr_law.proofs.Discipline.StagesAlong.{StageOf}
use Rattle.afr_law.proofs.Heals.Along.{healed_by, opened_by}
use Rattle.afr_law.proofs.Heals.Areas.{opening_or}
use Rattle.afr_law.proofs.Heals.Conditions.{heal_lock_area, heal_lock_step, mend_test, onward_kind}
use Rattle.afr_law.proofs.Heals.Sights.{not_opening}
use Rattle.afr_law.proofs.Model.Kinds.{one_kind}
use Rattle.afr_law.specs.ModelKinds.{Now}
use Rattle.afr_law_quiet.proofs.Moves.Along.{Joined, Premises, along, earlier, force, reg}
use Rattle.afr_law_quiet.proofs.Moves.InForce.{firsts_of, stage_of}
use Rattle.afr_law_quiet.proofs.Moves.Kept.{Kept, KeptIn, carry, early_cut, kept_early, numbers_same}
use Rattle.afr_law_quiet.proofs.Moves.KeptLines.{list_names, lock_work, look_first, look_later, not_attrs, not_names, pre, read_attrs, read_bytes, settle, unlock_heal, unlock_work}
use Rattle.afr_law_quiet.proofs.Moves.KeptMends.{copy_piece, cut_to}

-- ---- what a request leaves of the object and kind of a heal
abbrev pub Same : Register → Register → Type 0
Same w s = (s.object ≡ w.object) × (s.kind ≡ w.kind)

dropped_same : (w s : Register) (gone : Bool) (b : ℕ) → Same w s → Same w (weak.dropping gone b s)
dropped_same w s true b k = k
dropped_same w s false b k = k

-- the request is no lock of a heal
abbrev pub IsOther : Request → Type 0
IsOther (Lock Heal area) = ⊥
IsOther request = Unit {0}

pub after_same : (n : ℕ) (w : Register) (b : ℕ) (request : Request) (told : Told) → IsOther request → Same w (weak.dropping (is_gone told) b (weak.note_ask n w b request told))
after_same n w b (Lock Heal area) told h = absurd h
after_same n w b (Lock Work area) told h = ((work_locked n w b area told).object, (work_locked n w b area told).rest.kind)
after_same n w b (Unlock Work area) told h = (let f = frees_work n w b area told in dropped_same w (weak.note_ask n w b (Unlock Work area) told) (is_gone told) b (f.0.object, f.0.rest.kind))
after_same n w b (Unlock Heal area) told h = (let f = frees_heal n w b area told in dropped_same w (weak.note_ask n w b (Unlock Heal area) told) (is_gone told) b (f.object, f.rest.kind))
after_same n w b (Look g) (Seen view) h = (let s = sees w b g.0 view in (s.object, s.kind))
after_same n w b (Look g) told h = dropped_same w (weak.note_ask n w b (Look g) told) (is_gone told) b (seen told)
  where
    seen : (d : Told) → Same w (weak.note_ask n w b (Look g) d)
    seen (Seen view) = (let s = sees w b g.0 view in (s.object, s.kind))
    seen _ = (refl, refl)
after_same n w b (Pre g kind) told h = dropped_same w (weak.note_ask n w b (Pre g kind) told) (is_gone told) b (done told)
  where
    done : (d : Told) → Same w (weak.note_ask n w b (Pre g kind) d)
    done Done = (refl, refl)
    done _ = (refl, refl)
after_same n w b (Mend repair) told h = dropped_same w (weak.note_ask n w b (Mend repair) told) (is_gone told) b (done told)
  where
    done : (d : Told) → Same w (weak.note_ask n w b (Mend repair) d)
    done Done = (refl, refl)
    done _ = (refl, refl)
after_same n w b (Settle g kind down) told h = dropped_same w (weak.note_ask n w b (Settle g kind down) told) (is_gone told) b (done told)
  where
    done : (d : Told) → Same w (weak.note_ask n w b (Settle g kind down) d)
    done Done = (refl, refl)
    done _ = (refl, refl)
after_same n w b (Apply q) told h = dropped_same w (weak.note_ask n w b (Apply q) told) (is_gone told) b (done told)
  where
    done : (d : Told) → Same w (weak.note_ask n w b (Apply q) d)
    done Done = (refl, refl)
    done _ = (refl, refl)
after_same n w b (Post q g kind missed) told h = dropped_same w (weak.note_ask n w b (Post q g kind missed) told) (is_gone told) b (done told)
  where
    done : (d : Told) → Same w (weak.note_ask n w b (Post q g kind missed) d)
    done Done = (refl, refl)
    done _ = (refl, refl)
after_same n w b (ReadBytes g at len) told h = dropped_same w w (is_gone told) b (refl, refl)
after_same n w b (ReadName g name) told h = dropped_same w w (is_gone told) b (refl, refl)
after_same n w b (ListNames g) told h = dropped_same w w (is_gone told) b (refl, refl)
after_same n w b (ReadAttr g key) told h = dropped_same w w (is_gone told) b (refl, refl)
after_same n w b (ReadAttrs g) told h = dropped_same w w (is_gone told) b (refl, refl)
after_same n w b Index told h = dropped_same w w (is_gone told) b (refl, refl)

-- in the opening no piece is done
zero_after : (n : ℕ) (r : Exact) (t b : ℕ) (request : Request) (told : Told) → (r.part ≡ Opening → r.upto ≡ 0) → (left_in_heal n r t b request told).part ≡ Opening → (left_in_heal n r t b request told).upto ≡ 0
zero_after n r t b (Lock Heal area) told z e = z e
zero_after n r t b (Lock Work area) told z e = go (same_step r.step Unlocks) (same_area (whole_area r.law.object Bytes) area) e
  where
    go : (late whole : Bool) → (if late then (if whole then Finish else Piece) else r.part) ≡ Opening → r.upto ≡ 0
    go true true f = absurd (cc f)
    go true false f = absurd (cc f)
    go false whole f = z f
zero_after n r t b (Unlock Work area) told z e = (let p : is_piece r.part ≡ false = ap is_piece e in rw p (z e))
zero_after n r t b (Unlock Heal area) told z e = z e
zero_after n r t b (Look g) told z e = z e
zero_after n r t b (ReadBytes g at len) told z e = z e
zero_after n r t b (ReadAttrs g) told z e = z e
zero_after n r t b (ListNames g) told z e = z e
zero_after n r t b (Pre g kind) told z e = z e
zero_after n r t b (Mend repair) told z e = z e
zero_after n r t b (Settle g kind down) told z e = z e
zero_after n r t b (Apply q) told z e = z e
zero_after n r t b (Post q g kind missed) told z e = z e
zero_after n r t b (ReadName g name) told z e = z e
zero_after n r t b (ReadAttr g key) told z e = z e
zero_after n r t b Index told z e = z e

-- nothing was looked at before the first looks
pub unviewed : (r : Exact) → FirstsOf r → r.law.heal ≡ true → rank r.step ≤ 6 → r.part ≡ Opening → (x : ℕ) → r.first_views x ≡ None
unviewed r f inside low first x = go (r.first_views x) refl
  where
    go : (v : Option View) → r.first_views x ≡ v → v ≡ None
    go None e = refl
    go (Some view) e = absurd (true≢false (sym (f.reached x (ap (λ (v : Option View). not (weak.is_none v)) e)) ∙ f.early inside low first x))

module _ (p : Plan) (a : ℕ) where
  -- what is known of a heal's register after these lines
  abbrev pub IsKept : List Line → Exact → Type 0
  IsKept log r = r.broken ≡ false → (r.part ≡ Opening → r.upto ≡ 0) × (r.law.kind ≡ Bytes → KeptIn p log r)

  -- the first lock
  first_kept : (older : List Line) (b g : ℕ) (told : Told) (took : Bool) → IsKept (ask_by a b (Lock Heal (heal_area g)) told took ∷ older) (opened_by p.shape.n (kept_by p) (length older) a b (heal_area g) told took)
  first_kept older b g told took whole = (
    λ e. refl,
    λ bytes. (let r = opened_by p.shape.n (kept_by p) (length older) a b (heal_area g) told took in
        kept_early p (ask_by a b (Lock Heal (heal_area g)) told took ∷ older) r.law.object HealLocks Opening r.asked r.possible r.first_views r.reads 0 refl (omega arith) (λ x. refl) refl),
  )

  module _ (older : List Line) (b : ℕ) (told : Told) (took : Bool) (below : b < p.shape.n) where
    abbrev After : Request → Type 0
    After request = (let l = left_in_heal p.shape.n (reg p a older) (length older) b request told in
        Kept p (ask_by a b request told took ∷ older) (reg p a older).law.object l.step l.part l.asked (λ s. (reg p a older).possible s && may_heal p.shape.n (kept_by p) (reg p a older) s b request) l.first_views l.reads l.upto)

    asked_kept : (request : Request) → Premises p (ask_by a b request told took ∷ older) → MayHeal p.shape.n (kept_by p) (reg p a older) b request → breaks (reg p a older) request told ≡ false → FirstsOf (reg p a older) → StageOf (reg p a older)
        → (reg p a older).law.kind ≡ Bytes → KeptIn p older (reg p a older) → After request
    asked_kept (Lock Heal area) premises m fine f s bytes k = (
        let five : rank (reg p a older).step ≡ 5 = heal_lock_step p.shape.n (kept_by p) (reg p a older) m.source b area m.allowed in
        let early = s.early m.inside (omega (arith, five)) in
        kept_early p (ask_by a b (Lock Heal area) told took ∷ older) (reg p a older).law.object HealLocks (reg p a older).part _ _ (reg p a older).first_views (reg p a older).reads (reg p a older).upto early.0 (omega arith) (unviewed (reg p a older) f m.inside (omega (arith, five)) early.0) (k.zero early.0)
        )
    asked_kept (Lock Work area) premises m fine f s bytes k = lock_work p a b older (reg p a older) told took bytes k area m.source _ m.allowed
    asked_kept (Look g) premises m fine f s bytes k = go (opening_or (reg p a older).part)
      where
        go : ((reg p a older).part ≡ Opening) ⊎ ((reg p a older).part ≡ Opening → ⊥) → After (Look g)
        go (inl first) = (let yes : is_opening (reg p a older).part ≡ true = ap is_opening first in rw yes (look_first p a b older (reg p a older) told took bytes k g.0 m.source _ m.allowed first premises.honest.0))
        go (inr later) = (let no : is_opening (reg p a older).part ≡ false = not_opening (reg p a older).part later in rw no (look_later p a b older (reg p a older) told took bytes k g.0 m.source _ m.allowed))
    asked_kept (ReadBytes g at len) premises m fine f s bytes k = read_bytes p a b older (reg p a older) told took bytes k g at len m.source _ m.allowed
    asked_kept (ReadAttrs g) premises m fine f s bytes k = absurd (read_attrs p a b older (reg p a older) told took bytes k g m.source m.allowed)
    asked_kept (ListNames g) premises m fine f s bytes k = absurd (list_names p a b older (reg p a older) told took bytes k g m.source m.allowed)
    asked_kept (Pre g kind) premises m fine f s bytes k = pre p a b older (reg p a older) told took bytes k g.0 kind m.source _ m.allowed
    asked_kept (Mend (CutTo g len)) premises m fine f s bytes k = cut_to p a b older (reg p a older) told took bytes k fine g len m.source below m.allowed m.possible premises.honest.0
    asked_kept (Mend (Copy g at some read)) premises m fine f s bytes k = copy_piece p a b older (reg p a older) told took bytes k fine g at some read m.source below m.allowed m.possible premises.honest.0
        (λ x y o q d e. (let was = earlier p (ask_by a b (Mend (Copy g at some read)) told took) older premises in
        (one_kind p older was.five was.short was.honest was.lawful).copies (holds p older x) (holds p older y) (Now x refl) (Now y refl) (record { 0 = (reg p a older).law.object }) o q d e))
    asked_kept (Mend (PutAttrs g read)) premises m fine f s bytes k = absurd (not_attrs (reg p a older).law.kind bytes (onward_kind p.shape.n (kept_by p) (reg p a older) m.source g.0 Attrs (and_left _ _ (mend_test p.shape.n (kept_by p) (reg p a older) m.source b (PutAttrs g read) m.allowed))))
    asked_kept (Mend (PutNames g reads)) premises m fine f s bytes k = absurd (not_names (reg p a older).law.kind bytes (onward_kind p.shape.n (kept_by p) (reg p a older) m.source g.0 Names (and_left _ _ (and_left _ _ (mend_test p.shape.n (kept_by p) (reg p a older) m.source b (PutNames g reads) m.allowed)))))
    asked_kept (Settle g kind down) premises m fine f s bytes k = settle p a b older (reg p a older) told took bytes k g.0 kind down m.source _ m.allowed
    asked_kept (Unlock Work area) premises m fine f s bytes k = unlock_work p a b older (reg p a older) told took bytes k area m.source _ m.allowed
    asked_kept (Unlock Heal area) premises m fine f s bytes k = unlock_heal p a b older (reg p a older) told took bytes k area m.source _ m.allowed
    asked_kept (Apply q) premises m fine f s bytes k = absurd (true≢false (sym m.allowed))
    asked_kept (Post q g kind missed) premises m fine f s bytes k = absurd (true≢false (sym m.allowed))
    asked_kept (ReadName g name) premises m fine f s bytes k = absurd (true≢false (sym m.allowed))
    asked_kept (ReadAttr g key) premises m fine f s bytes k = absurd (true≢false (sym m.allowed))
    asked_kept Index premises m fine f s bytes k = absurd (true≢false (sym m.allowed))

  -- the heal's object and kind stay
  pub heal_same : (r : Exact) (b : ℕ) (request : Request) (told : Told) → MayHeal p.shape.n (kept_by p) r b request → Same r.law (weak.dropping (is_gone told) b (weak.note_ask p.shape.n r.law b request told))
  heal_same r b (Lock Heal area) told m = (
      let w = heal_locked p.shape.n r.law b area told in
      (w.object ∙ ap weak.area_object (sym (same_area_is (heal_area r.law.object) area (heal_lock_area p.shape.n (kept_by p) r m.source b area m.allowed))), w.rest.kind)
      )
  heal_same r b (Lock Work area) told m = after_same p.shape.n r.law b (Lock Work area) told tt
  heal_same r b (Unlock domain area) told m = unlocks domain
    where
      unlocks : (domain : Domain) → Same r.law (weak.dropping (is_gone told) b (weak.note_ask p.shape.n r.law b (Unlock domain area) told))
      unlocks Work = after_same p.shape.n r.law b (Unlock Work area) told tt
      unlocks Heal = after_same p.shape.n r.law b (Unlock Heal area) told tt
  heal_same r b (Look g) told m = after_same p.shape.n r.law b (Look g) told tt
  heal_same r b (ReadBytes g at len) told m = after_same p.shape.n r.law b (ReadBytes g at len) told tt
  heal_same r b (ReadAttrs g) told m = after_same p.shape.n r.law b (ReadAttrs g) told tt
  heal_same r b (ListNames g) told m = after_same p.shape.n r.law b (ListNames g) told tt
  heal_same r b (Pre g kind) told m = after_same p.shape.n r.law b (Pre g kind) told tt
  heal_same r b (Mend repair) told m = after_same p.shape.n r.law b (Mend repair) told tt
  heal_same r b (Settle g kind down) told m = after_same p.shape.n r.law b (Settle g kind down) told tt
  heal_same r b (Apply q) told m = after_same p.shape.n r.law b (Apply q) told tt
  heal_same r b (Post q g kind missed) told m = after_same p.shape.n r.law b (Post q g kind missed) told tt
  heal_same r b (ReadName g name) told m = after_same p.shape.n r.law b (ReadName g name) told tt
  heal_same r b (ReadAttr g key) told m = after_same p.shape.n r.law b (ReadAttr g key) told tt
  heal_same r b Index told m = after_same p.shape.n r.law b Index told tt

  goes_kept : (older : List Line) (b : ℕ) (request : Request) (told : Told) (took : Bool) → Premises p (ask_by a b request told took ∷ older) → force p a (ask_by a b request told took) older ≡ reg p a older → b < p.shape.n → MayHeal p.shape.n (kept_by p) (reg p a older) b request
      → IsKept older (reg p a older) → IsKept (ask_by a b request told took ∷ older) (healed_by p.shape.n (kept_by p) (reg p a older) (length older) a b request told took)
  goes_kept older b request told took premises same below m was whole = (
      let old = was m.whole in
      let fine : breaks (reg p a older) request told ≡ false = (or_parts _ _ (or_parts _ _ whole).0).1 in
      let heal = heal_same (reg p a older) b request told m in
      let line = ask_by a b request told took in (
        zero_after p.shape.n (reg p a older) (length older) b request told old.0,
        λ bytes. (
            let l = left_in_heal p.shape.n (reg p a older) (length older) b request told in
            subst (λ (g : ℕ). Kept p (line ∷ older) g l.step l.part l.asked (λ s. (reg p a older).possible s && may_heal p.shape.n (kept_by p) (reg p a older) s b request) l.first_views l.reads l.upto) (sym heal.0)
            (asked_kept older b told took below request premises m fine (firsts_of p a line older premises same) (stage_of p a line older premises same) (sym heal.1 ∙ bytes) (old.1 (sym heal.1 ∙ bytes)))
            ),
      )
      )

  -- a HealBegin line
  begins_kept : (older : List Line) (g : ℕ) (kind : Kind) → Premises p (heal_begin_by a g kind ∷ older) → MayHealBegin p.shape.n (reg p a older) g kind → FirstsOf (reg p a older) → IsKept older (reg p a older)
      → IsKept (heal_begin_by a g kind ∷ older) (note p.shape.n (kept_by p) (reg p a older) (length older) (Some (heal_begin_by a g kind)))
  begins_kept older g kind premises may f was whole = (
    old.0,
    λ bytes. elim (opening_or r.part) [
      | inl first ↦ kept_early p line_older r.law.object Looks r.part empty r.possible r.first_views no_reads r.upto first (omega arith) (unviewed r f may.inside (omega (arith, six)) first) (old.0 first)
      | inr later ↦ (let k = old.1 (sym (may.later later) ∙ bytes) in
          carry p (heal_begin_by a g kind) older r Looks empty r.possible no_reads k (λ s m. m) (λ x. refl) (numbers_same p (heal_begin_by a g kind) older r Looks k (omega (arith, six)) (λ x. refl))
          (λ s x m sink. early_cut r.step Looks r.part r.asked empty x (omega arith) (λ e. cc e)) (λ e. cc e) (λ e. absurd (omega (arith, e))) (λ piece low far s q m e. absurd (cc e)) (λ c s m. k.fit (inl later) s m))
    ],
  )
    where
      r : Exact
      r = reg p a older

      line_older : List Line
      line_older = heal_begin_by a g kind ∷ older

      old : (r.part ≡ Opening → r.upto ≡ 0) × (r.law.kind ≡ Bytes → KeptIn p older r)
      old = was may.whole

      six : rank r.step ≡ 6
      six = ap rank may.step

  -- a heal that is broken stays so
  pub broken_stays : (older : List Line) (b : ℕ) (domain : Domain) (area : Area) (told : Told) (took : Bool) → (reg p a older).broken ≡ true → (healed_by p.shape.n (kept_by p) (reg p a older) (length older) a b (Unlock domain area) told took).broken ≡ true
  broken_stays older b domain area told took broken = or_left _ _ (or_left _ _ broken)

  -- so it is after each line of a heal that isn't broken
  pub kept_now : (log : List Line) → Premises p log → Joined a log → (reg p a log).law.heal ≡ true → IsKept log (reg p a log)
  kept_now = along p a IsKept (λ older b g told took premises opens below. first_kept older b g told took) goes_kept
      (λ older b domain area told took broken was whole. absurd (true≢false (sym (broken_stays older b domain area told took broken) ∙ whole)))
      (λ older g kind premises same may was. begins_kept older g kind premises may (firsts_of p a (heal_begin_by a g kind) older premises same) was)
