-- The dirty numbers by positions are the sums of the list of lines, and what looks show of a copy.
use Rattle.std.proofs.Common.{◌≡◌, ℕ, suc, ◌+◌, ◌-◌, ◌<◌, ◌≤◌, Bool, true, false, ◌&&◌, inl, inr, refl, sym, ◌∙◌, ap, subst, arith, List, [], ◌∷◌, length, Option, None, Some, ◌==◌, if◌then◌else◌}
use Rattle.afr_base.specs.Marks.{marks_of, dirtied, closed_op, taken_back}
use Rattle.afr_base.specs.declared.ids.Gfid.{Gfid}
use Rattle.afr_base.specs.declared.ids.Kind.{Kind}
use Rattle.afr_base.specs.declared.marks.Marks.{Marks}
use Rattle.afr_lines.specs.declared.fault.Fault.{Fault}
use Rattle.afr_lines.specs.declared.fault.Fault.TheVariants.{Fail, Lost as LostAnswer}
use Rattle.afr_object.specs.Repairs.{mended}
use Rattle.afr_object.specs.Tables.{copy_at, view_of}
use Rattle.afr_object.specs.declared.entry.View.{View}
use Rattle.afr_object.specs.Object.{Object}
use Rattle.afr_lines.specs.Log.{change_at}
use Rattle.afr_lines.specs.Told.{told_by}
use Rattle.afr_lines.specs.declared.answer.Answer.TheVariants as answer
use Rattle.afr_lines.specs.declared.answer.Told.TheVariants.{Seen}
use Rattle.afr_lines.specs.declared.line.Line.{Line}
use Rattle.afr_lines.specs.declared.line.Line.TheVariants.{Ask}
use Rattle.afr_lines.specs.declared.request.Request.TheVariants.{Look, Pre, Apply, Post, Mend, Settle}
use Rattle.afr_plan.specs.declared.plan.Plan.{Plan}
use Rattle.afr_model.specs.Honest.{Honest as IsHonestLog, IsHonest, RequestOutcome, over_session, copy_answer}
use Rattle.afr_base.specs.Kinds.{same_kind}
use Rattle.afr_model.specs.Sums.{has_object, sum_over, opens_op, closes_op, settles_dirty, dirty_of}
use Rattle.afr_model.specs.Tables.{holds, held_before, carried, effect, keeps_bytes}
use Rattle.afr_law_tables.specs.SumLaws.{now_at, counts, numbers_asked, numbers_same, numbers_effect, numbers_mended, at_first, pre_dirty, same_dirty}
use Rattle.afr_law.specs.Dirty.{raising, raised, lowering, lowered, dirty, NoneBelow, TracksDirty, DirtyTracked}
use Rattle.afr_model_moves.specs.Honest.{view_marks}
use Rattle.afr_model_moves.specs.Past.{Log}
use Rattle.afr_model_moves.specs.Positions.{by_position}
use Rattle.afr_model_moves.proofs.ByPosition.{IsPast, past_whole, none_at}
use Rattle.afr_law.specs.Beginning.{start_of}
use Rattle.afr_law.proofs.Model.Sums.{holds_is, no_post, no_settle}
use Rattle.afr_law.proofs.Model.SoundLog.{LawfulBelow}
use Rattle.std.proofs.lemmas.Bool.{cases_lt}

-- one where a test holds
abbrev one_if : Bool → ℕ
one_if b = if b then 1 else 0

-- ---- sums
module _ (p : Plan) (n : ℕ) (L : Log) (x : ℕ) (g : Gfid) (kind : Kind) where
  pre_line : (line : Line) (older : List Line) → one_if (has_object p older g x && raising x g.0 kind (Some line)) ≡ opens_op p x g kind line older
  pre_line (Ask a y (Pre h k) told took) older = go (has_object p older g x) (y.0 == x) took (h.0 == g.0) (same_kind k kind)
    where
      go : (there here took obj kin : Bool) → one_if (there && (here && took && obj && kin)) ≡ (if took && here && obj && kin && there then 1 else 0)
      go true true true true true = refl
      go true true true true false = refl
      go true true true false kin = refl
      go true true false obj kin = refl
      go true false true obj kin = refl
      go true false false obj kin = refl
      go false true true true true = refl
      go false true true true false = refl
      go false true true false kin = refl
      go false true false obj kin = refl
      go false false true obj kin = refl
      go false false false obj kin = refl
  pre_line (Ask a y r told took) older = no_post (has_object p older g x) _ _
  pre_line line older = no_post (has_object p older g x) _ _

  -- what raises the dirty number is the sum of the pre-ops
  pub raised_is : (older : List Line) → IsPast L older → LawfulBelow p n older → raised (start_of p n) L (length older) x g.0 kind ≡ sum_over (opens_op p x g kind) older
  unfolding raised
  raised_is [] h lawful = refl
  raised_is (line ∷ older) h lawful =
      (λ i. one_if (holds_is p n L x older h.1 lawful.1 g.0 i && raising x g.0 kind (h.0 i)) + raised_is older h.1 lawful.1 i)
      ∙ ap (λ (k : ℕ). k + sum_over (opens_op p x g kind) older) (pre_line line older)

  -- what a line takes back of it
  abbrev falls : Line → List Line → ℕ
  falls line older = closes_op p x g kind line older + settles_dirty p x g kind line older

  fall_line : (line : Line) (older : List Line) → (if has_object p older g x then lowering x g.0 kind (Some line) else 0) ≡ falls line older
  fall_line (Ask a y (Post q h k missed) told took) older = go (has_object p older g x) (y.0 == x) took (h.0 == g.0) (same_kind k kind)
    where
      go : (there here took obj kin : Bool) → (if there then (if here && took && obj && kin then 1 else 0) else 0) ≡ (if took && here && obj && kin && there then 1 else 0) + 0
      go true true true true true = refl
      go true true true true false = refl
      go true true true false kin = refl
      go true true false obj kin = refl
      go true false true obj kin = refl
      go true false false obj kin = refl
      go false true true true true = refl
      go false true true true false = refl
      go false true true false kin = refl
      go false true false obj kin = refl
      go false false true obj kin = refl
      go false false false obj kin = refl
  fall_line (Ask a y (Settle h k less) told took) older = go (has_object p older g x) (y.0 == x) took (h.0 == g.0) (same_kind k kind) less.dirty
    where
      go : (there here took obj kin : Bool) (n : ℕ) → (if there then (if here && took && obj && kin then n else 0) else 0) ≡ 0 + (if took && here && obj && kin && there then n else 0)
      go true true true true true n = omega arith
      go true true true true false n = refl
      go true true true false kin n = refl
      go true true false obj kin n = refl
      go true false true obj kin n = refl
      go true false false obj kin n = refl
      go false true true true true n = refl
      go false true true true false n = refl
      go false true true false kin n = refl
      go false true false obj kin n = refl
      go false false true obj kin n = refl
      go false false false obj kin n = refl
  fall_line (Ask a y r told took) older = no_settle (has_object p older g x) _
  fall_line line older = no_settle (has_object p older g x) _

  -- what lowers it is the sum of the post-ops and of what was settled
  pub lowered_is : (older : List Line) → IsPast L older → LawfulBelow p n older → lowered (start_of p n) L (length older) x g.0 kind ≡ sum_over (closes_op p x g kind) older + sum_over (settles_dirty p x g kind) older
  unfolding lowered
  lowered_is [] h lawful = refl
  lowered_is (line ∷ older) h lawful =
      (λ i. (if holds_is p n L x older h.1 lawful.1 g.0 i then lowering x g.0 kind (h.0 i) else 0) + lowered_is older h.1 lawful.1 i)
      ∙ ap (λ (k : ℕ). k + (sum_over (closes_op p x g kind) older + sum_over (settles_dirty p x g kind) older)) (fall_line line older)
      ∙ omega arith

  pub dirty_is : (older : List Line) → IsPast L older → LawfulBelow p n older → dirty (start_of p n) L (length older) x g.0 kind ≡ dirty_of p older x g kind
  dirty_is older h lawful = λ i. raised_is older h lawful i - lowered_is older h lawful i

  -- ---- copies
  post_dirty : (c : Bool) (missed : List ℕ) (new old : Marks) → new ≡ (if c then closed_op missed old else old) → (if c then 1 else 0) + 0 ≤ old.dirty + 0 → new.dirty + ((if c then 1 else 0) + 0) ≡ old.dirty + 0
  post_dirty true missed new old e low = omega (arith, ap (λ (m : Marks). m.dirty) e, low)
  post_dirty false missed new old e low = omega (arith, ap (λ (m : Marks). m.dirty) e)

  settle_dirty : (c : Bool) (less new old : Marks) → new ≡ (if c then taken_back less old else old) → 0 + (if c then less.dirty else 0) ≤ old.dirty + 0 → new.dirty + (0 + (if c then less.dirty else 0)) ≡ old.dirty + 0
  settle_dirty true less new old e low = omega (arith, ap (λ (m : Marks). m.dirty) e, low)
  settle_dirty false less new old e low = omega (arith, ap (λ (m : Marks). m.dirty) e)

  line_dirty : (line : Line) (older : List Line) → falls line older ≤ (now_at p older x g kind).dirty + opens_op p x g kind line older
      → (now_at p (line ∷ older) x g kind).dirty + falls line older ≡ (now_at p older x g kind).dirty + opens_op p x g kind line older
  line_dirty (Ask a y (Pre h k) told took) older low = pre_dirty (counts p x g kind y.0 h k took older) _ _ (numbers_asked p x g kind y.0 h k took older dirtied)
  line_dirty (Ask a y (Post q h k missed) told took) older low = post_dirty (counts p x g kind y.0 h k took older) missed _ _ (numbers_asked p x g kind y.0 h k took older (closed_op missed)) low
  line_dirty (Ask a y (Settle h k less) told took) older low = settle_dirty (counts p x g kind y.0 h k took older) less _ _ (numbers_asked p x g kind y.0 h k took older (taken_back less)) low
  line_dirty (Ask a y (Apply q) told took) older low =
      same_dirty _ _ (numbers_same kind g took (y.0 == x) (effect (keeps_bytes p x) (change_at q older) (holds p older x)) (holds p older x) (numbers_effect kind g (keeps_bytes p x) (change_at q older) (holds p older x)))
  line_dirty (Ask a y (Mend repair) told took) older low =
      let new = mended (keeps_bytes p x) repair (carried (held_before p older) older repair) (holds p older x) in
      same_dirty _ _ (numbers_same kind g took (y.0 == x) new (holds p older x) (numbers_mended kind g (keeps_bytes p x) repair (carried (held_before p older) older repair) (holds p older x)))
  line_dirty (Ask a y r told took) older low = same_dirty _ _ (numbers_same kind g took (y.0 == x) (holds p older x) (holds p older x) refl)
  line_dirty line older low = let old = now_at p older x g kind in same_dirty old old refl

  -- what a copy has is the difference, as long as no more was taken back than raised
  pub now_dirty : (log : List Line) → IsPast L log → LawfulBelow p n log → NoneBelow (start_of p n) L (length log) x g.0 kind
      → (now_at p log x g kind).dirty + (sum_over (closes_op p x g kind) log + sum_over (settles_dirty p x g kind) log) ≡ sum_over (opens_op p x g kind) log
  now_dirty [] h lawful covered = let first = at_first p x g kind in omega (arith, first.0)
  now_dirty (line ∷ older) h lawful covered =
      let before = now_dirty older h.1 lawful.1 (λ v low. covered v (omega (arith, low))) in
      let here : lowered (start_of p n) L (suc (length older)) x g.0 kind ≤ raised (start_of p n) L (suc (length older)) x g.0 kind = covered (suc (length older)) (omega arith) in
      let low : falls line older ≤ (now_at p older x g kind).dirty + opens_op p x g kind line older = omega (arith, here, raised_is (line ∷ older) h lawful, lowered_is (line ∷ older) h lawful, before) in
      omega (arith, line_dirty line older low, before)

-- ---- looks
-- a look that was told Seen was shown a copy
pub seen_copy : (live : Bool) (fault : Option Fault) (c : Option Object) (view : View) (took : Bool) → (record { told = Seen view; took = took }) ≡ over_session live fault (told_by (copy_answer (λ o. answer.Seen (view_of o)) c)) → (o : Object) × (c ≡ Some o) × (view ≡ view_of o)
seen_copy false fault c view took e = absurd (cc (ap (λ (q : RequestOutcome). q.told) e))
seen_copy true (Some Fail) c view took e = absurd (cc (ap (λ (q : RequestOutcome). q.told) e))
seen_copy true (Some LostAnswer) c view took e = absurd (cc (ap (λ (q : RequestOutcome). q.told) e))
seen_copy true None None view took e = absurd (cc (ap (λ (q : RequestOutcome). q.told) e))
seen_copy true None (Some o) view took e = (o, refl, cc (ap (λ (q : RequestOutcome). q.told) e))

module _ (p : Plan) (n : ℕ) (L : Log) where
  line_tracks : (line : Line) (older : List Line) → IsPast L older → LawfulBelow p n older → IsHonest p line older → TracksDirty (start_of p n) L (length older) (Some line)
  line_tracks (Ask a b (Look g) (Seen view) took) older h lawful said = λ kind covered. (
      let w = seen_copy _ _ (copy_at g (holds p older b.0)) view took said in
      let shown : (view_marks view kind).dirty ≡ (now_at p older b.0 g kind).dirty = ap (λ (v : View). (view_marks v kind).dirty) w.2 ∙ sym (seen_now kind w.0 w.1) in
      shown ∙ omega (arith, now_dirty p n L b.0 g kind older h lawful covered, raised_is p n L b.0 g kind older h lawful, lowered_is p n L b.0 g kind older h lawful)
      )
    where
      seen_now : (kind : Kind) (o : Object) → copy_at g (holds p older b.0) ≡ Some o → (now_at p older b.0 g kind).dirty ≡ (marks_of kind o.marks).dirty
      seen_now kind o e = rw e refl
  line_tracks (Ask a b r told took) older h lawful said = tt
  line_tracks line older h lawful said = tt

  tracked_at : (older : List Line) → IsPast L older → LawfulBelow p n older → IsHonestLog p older → (t : ℕ) → t < length older → TracksDirty (start_of p n) L t (L t)
  tracked_at [] h lawful honest t low = absurd (omega (arith, low))
  tracked_at (line ∷ older) h lawful honest t low = elim (cases_lt t (length older)) [
    | inl early ↦ tracked_at older h.1 lawful.1 honest.1 t early
    | inr late ↦ subst (λ (k : ℕ). TracksDirty (start_of p n) L k (L k)) (omega (arith, late, low)) (subst (TracksDirty (start_of p n) L (length older)) (sym h.0) (line_tracks line older h.1 lawful.1 honest.0))
  ]

-- looks of an honest log show the dirty numbers of the lines before them, as long as no more was taken back than raised
pub looks_track : (p : Plan) (n : ℕ) (log : List Line) → LawfulBelow p n log → IsHonestLog p log → DirtyTracked (start_of p n) (by_position log)
looks_track p n log lawful honest t = elim (cases_lt t (length log)) [
  | inl low ↦ tracked_at p n (by_position log) log (past_whole log) lawful honest t low
  | inr high ↦ subst (TracksDirty (start_of p n) (by_position log) t) (sym (none_at log t high)) tt
]
