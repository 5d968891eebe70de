-- The last part of an undisturbed heal of bytes finds all copies of one length, and leaves them so.
use Rattle.std.proofs.Common.{Bool, ap, arith, inl, inr, not, subst, sym, true, true≢false, ℕ, ◌&&◌, ◌||◌, ◌<◌, ◌∙◌, ◌≡◌, ◌≤◌, ◌∷◌}
use Rattle.std.specs.Prelude.{List as Seq, None, Option, Some, ◌==◌}
use Rattle.std.proofs.lemmas.Bool.{cases_lt, eqb-true}
use Rattle.std.proofs.lemmas.Bool.Decides.{nat_tests}
use Rattle.afr_base.specs.Bricks.{and_right}
use Rattle.afr_base.specs.declared.ids.ActorId.{ActorId}
use Rattle.afr_base.specs.declared.ids.BrickId.{BrickId}
use Rattle.afr_base.specs.declared.ids.Gfid.{Gfid}
use Rattle.afr_base.specs.declared.ids.Kind.{Kind}
use Rattle.afr_base.specs.declared.ids.Kind.TheVariants.{Attrs, Bytes, Names}
use Rattle.afr_object.specs.Tables.{copy_at}
use Rattle.afr_object.specs.declared.entry.View.{View}
use Rattle.afr_lines.specs.declared.answer.Told.{Told}
use Rattle.afr_lines.specs.declared.answer.Told.TheVariants.{Done, Given, NoObject, Seen}
use Rattle.afr_lines.specs.declared.line.Line.{Line}
use Rattle.afr_lines.specs.declared.line.Line.TheVariants.{Ask}
use Rattle.afr_lines.specs.declared.request.Request.{Request}
use Rattle.afr_lines.specs.declared.request.Request.TheVariants.{Apply, Index, List, Lock, Look, Mend, Post, Pre, ReadAttr, ReadAttrs, ReadBytes, ReadName, Settle, Unlock}
use Rattle.afr_lines.specs.declared.lock.Domain.TheVariants.{Heal, Work}
use Rattle.afr_plan.specs.declared.plan.Plan.{Plan}
use Rattle.afr_model.specs.Tables.{holds}
use Rattle.afr_law_tables.specs.CopyLaws.{gfid_is}
use Rattle.afr_model_moves.specs.Note.{left_in_heal, put}
use Rattle.afr_model_moves.specs.Past.{Log, is_gone}
use Rattle.afr_model_moves.specs.Register.{Exact, Finish, HealPart, HealPres, HealUnlocks, Looks, Mends, Opening, Reads, Settles, Step, Unlocks, asked_in, holder, len_of, over, rank}
use Rattle.afr_model_moves.specs.Rules as weak
use Rattle.afr_model_moves.specs.Rules.{Register}
use Rattle.afr_model_moves.specs.Steps.{goes_on, goes_on_at, looks_at, looks_over, may_heal, settles_over, sink}
use Rattle.afr_model_moves.proofs.Tests.{all_yes}
use Rattle.afr_law.proofs.Discipline.AskFields.{frees_heal, frees_work, sees}
use Rattle.afr_law.proofs.Discipline.Firsts.{FirstsOf}
use Rattle.afr_law.proofs.Discipline.Inner.{turn_in}
use Rattle.afr_law.proofs.Discipline.Stages.{onward_far, settles_far}
use Rattle.afr_law.proofs.Discipline.StagesAlong.{StageOf}
use Rattle.afr_law.proofs.Heals.Areas.{AreasIn}
use Rattle.afr_law.proofs.Heals.Conditions.{asked_is, attrs_onward, bytes_onward, heal_lock_step, heal_unlock_goes, heal_unlock_over, list_onward, look_object, look_step, looks_is, looks_passed, mend_turn, mends_pres, over_at, passed_over, pre_onward, pres_looks, settle_onward, settles_mends, unlock_goes, unlock_over}
use Rattle.afr_law.proofs.Heals.Mended.{mends_finish}
use Rattle.afr_law.proofs.Heals.Views.{SightsIn, here_or, put_other, put_same}
use Rattle.afr_law_quiet.proofs.Copies.After.{Spares}
use Rattle.afr_law_quiet.proofs.Copies.Counted.{view_here}
use Rattle.afr_law_quiet.proofs.Copies.Lengths.{HasLength, len_on}
use Rattle.afr_law_quiet.proofs.Copies.Looked.{gfid}
use Rattle.afr_law_quiet.proofs.Copies.Told.{Hears}

-- in the last part each view shows the length of its copy, and after it all copies have one length
pub record Level (p : Plan) (keeps : ℕ → Kind → Bool) (older : Seq Line) (step : Step) (part : HealPart) (views first_views : ℕ → Option View) (object : ℕ) : Type 0 where
  pub seen : part ≡ Finish → 7 ≤ rank step → (x : ℕ) (view : View) → views x ≡ Some view → HasLength (holds p older x) (gfid object) view.len
  pub level : part ≡ Finish → 12 ≤ rank step → (m : ℕ) × ((x : ℕ) → x < p.shape.n → keeps x Bytes ≡ true → holder first_views x ≡ true → HasLength (holds p older x) (gfid object) m)

-- the same of a register
abbrev pub LevelIn : Plan → (ℕ → Kind → Bool) → Seq Line → Exact → Register → Type 0
LevelIn p keeps older r w = Level p keeps older r.step r.part r.views r.first_views w.object

module _ (p : Plan) (keeps : ℕ → Kind → Bool) (older : Seq Line) (L : Log) (t a : ℕ) (r : Exact) (s : ℕ) (stage : StageOf r) (inside : r.law.heal ≡ true) (areas : AreasIn r r.law) (firsts : FirstsOf r) (sights : SightsIn p.shape.n L t a r r.law)
    (h : LevelIn p keeps older r r.law) (x : ActorId) (y : BrickId) (took : Bool) where
  abbrev n : ℕ
  n = p.shape.n

  abbrev pub LevelAfter : Request → Told → Type 0
  LevelAfter request told = LevelIn p keeps (Ask x y request told took ∷ older) (left_in_heal n r t y.0 request told) (weak.dropping (is_gone told) y.0 (weak.note_ask n r.law y.0 request told))

  not_first : r.part ≡ Finish → r.part ≡ Opening → ⊥
  not_first f o = cc (sym f ∙ o)

  -- a step between the looks and the unlocks
  plain : (next : Step) (request : Request) (told : Told) → Spares Bytes (gfid r.law.object) (Ask x y request told took) → 7 ≤ rank r.step → rank next ≤ 11 → Level p keeps (Ask x y request told took ∷ older) next r.part r.views r.first_views r.law.object
  plain next request told spares far up = record {
    seen = λ f k z v e. len_on p (Ask x y request told took) older (gfid r.law.object) z v.len spares (h.seen f far z v e);
    level = λ f k. absurd (omega (arith, k, up));
  }

  look : (g : Gfid) (told : Told) → may_heal n keeps r s y.0 (Look g) ≡ true → Hears p older y.0 (Look g) told → Level p keeps (Ask x y (Look g) told took ∷ older) Looks r.part (left_in_heal n r t y.0 (Look g) told).views (left_in_heal n r t y.0 (Look g) told).first_views r.law.object
  look g told e hear = record { seen = λ f k. go told f hear; level = λ f k. absurd (omega (arith, k)) }
    where
      seven : 7 ≤ rank r.step
      seven = (let k = look_step n keeps r s y.0 g.0 e in omega (arith, k))

      object_is : g ≡ gfid r.law.object
      object_is = gfid_is g (gfid r.law.object) (eqb-true g.0 r.law.object (look_object n keeps r s y.0 g.0 e))

      found : (d : Told) (new : Option View) → r.part ≡ Finish → ((view : View) → new ≡ Some view → HasLength (holds p older y.0) (gfid r.law.object) view.len) → (z : ℕ) (v : View) → put r.views y.0 new z ≡ Some v → HasLength (holds p (Ask x y (Look g) d took ∷ older) z) (gfid r.law.object) v.len
      found d new f shown z v m = len_on p (Ask x y (Look g) d took) older (gfid r.law.object) z v.len tt (elim (here_or y.0 z) [
        | inl same ↦ subst (λ b. HasLength (holds p older b) (gfid r.law.object) v.len) (sym same) (shown v (sym (put_same r.views y.0 new) ∙ ap (put r.views y.0 new) (sym same) ∙ m))
        | inr other ↦ h.seen f seven z v (sym (put_other r.views y.0 z new other) ∙ m)
      ])

      go : (d : Told) → r.part ≡ Finish → Hears p older y.0 (Look g) d → (z : ℕ) (v : View) → (left_in_heal n r t y.0 (Look g) d).views z ≡ Some v → HasLength (holds p (Ask x y (Look g) d took ∷ older) z) (gfid r.law.object) v.len
      go (Seen view) f q = found (Seen view) (Some view) f (λ v m. (q.0, subst (λ (k : Gfid). copy_at k (holds p older y.0) ≡ Some q.0) object_is q.1, (let same : view ≡ v = cc m in ap (λ (w : View). w.len) (sym q.2 ∙ same))))
      go NoObject f q = found NoObject None f (λ v m. absurd (cc m))
      go d f q = absurd q

  -- every holder was looked at again
  still : r.part ≡ Finish → looks_over n keeps r s ≡ true → 7 ≤ rank r.step → rank r.step ≤ 11 → (z : ℕ) → z < n → holder r.first_views z ≡ true → holder r.views z ≡ true
  still f e far up z low there = elim (cases_lt 7 (rank r.step)) [
    | inl more ↦ sights.still (not_first f) (omega (arith, more)) up z low there
    | inr few ↦ (
        let set : over n (looks_at r Finish) (asked_in r Looks) ≡ true = subst (λ (q : HealPart). over n (looks_at r q) (asked_in r Looks) ≡ true) f (passed_over n keeps r s Looks (looks_passed n keeps r s e) few) in
        let w = asked_is r Looks z (over_at n (looks_at r Finish) (asked_in r Looks) set z low (firsts.reached z there)) in
        sights.again (not_first f) (looks_is r.step w.0) z w.1 there
        )
  ]

  -- the looks let the heal go on with all copies of one length
  alike : r.part ≡ Finish → goes_on n keeps r s ≡ true → (z : ℕ) → z < n → keeps z Bytes ≡ true → holder r.first_views z ≡ true → len_of (r.views z) ≡ len_of (r.views s)
  alike f e z low keeps_it there = elim (here_or s z) [
    | inl same ↦ ap (λ i. len_of (r.views i)) same
    | inr other ↦ (
        let tests : goes_on_at n keeps r s Finish ≡ true = subst (λ q. goes_on_at n keeps r s q ≡ true) f (and_right _ _ e) in
        let one : (not (sink keeps r s z) || (len_of (r.views z) == len_of (r.views s))) ≡ true = all_yes n (λ i. not (sink keeps r s i) || (len_of (r.views i) == len_of (r.views s))) (and_right _ _ tests) z low in
        eqb-true (len_of (r.views z)) (len_of (r.views s)) (sure (holder r.first_views z) (keeps z Bytes) z s (len_of (r.views z) == len_of (r.views s)) there keeps_it other one)
        )
  ]
    where
      sure : (a b : Bool) (z s : ℕ) (c : Bool) → a ≡ true → b ≡ true → (z ≡ s → ⊥) → (not (a && not (z == s) && b) || c) ≡ true → c ≡ true
      sure a b z s c p q other e = grind (arith, nat_tests)

  level_now : goes_on n keeps r s ≡ true → settles_over n keeps r s ≡ true → r.part ≡ Finish → (m : ℕ) × ((z : ℕ) → z < n → keeps z Bytes ≡ true → holder r.first_views z ≡ true → HasLength (holds p older z) (gfid r.law.object) m)
  level_now e over_all f = elim (cases_lt 11 (rank r.step)) [
    | inl far ↦ h.level f (omega (arith, far))
    | inr near ↦ (
      len_of (r.views s),
      λ z low keeps_it there. (
          let far = settles_far n keeps r s over_all in
          let again = still f (pres_looks n keeps r s (mends_pres n keeps r s (settles_mends n keeps r s over_all))) far near z low there in
          let v = view_here (r.views z) again in
          subst (λ m. HasLength (holds p older z) (gfid r.law.object) m) (ap len_of (sym v.1) ∙ alike f e z low keeps_it there) (h.seen f far z v.0 v.1)
          ),
    )
  ]

  unlock : (next : Step) (request : Request) (told : Told) → Spares Bytes (gfid r.law.object) (Ask x y request told took) → goes_on n keeps r s ≡ true → settles_over n keeps r s ≡ true → Level p keeps (Ask x y request told took ∷ older) next r.part r.views r.first_views r.law.object
  unlock next request told spares e over_all = record {
    seen = λ f k z v m. len_on p (Ask x y request told took) older (gfid r.law.object) z v.len spares (h.seen f (settles_far n keeps r s over_all) z v m);
    level = λ f k. (let w = level_now e over_all f in (w.0, λ z low keeps_it there. len_on p (Ask x y request told took) older (gfid r.law.object) z w.0 spares (w.1 z low keeps_it there)));
  }

  object_on : (request : Request) (told : Told) (next : Step) (views first_views : ℕ → Option View) (object : ℕ) → object ≡ r.law.object → Level p keeps (Ask x y request told took ∷ older) next r.part views first_views r.law.object → Level p keeps (Ask x y request told took ∷ older) next r.part views first_views object
  object_on request told next views first_views object e = subst (λ o. Level p keeps (Ask x y request told took ∷ older) next r.part views first_views o) (sym e)

  pub level_asked : (request : Request) (told : Told) → may_heal n keeps r s y.0 request ≡ true → Hears p older y.0 request told → LevelAfter request told
  level_asked (Lock Heal area) told e q = (let five = heal_lock_step n keeps r s y.0 area e in record { seen = λ f. absurd (not_first f (stage.early inside (omega (arith, five))).0); level = λ f k. absurd (omega (arith, k)) })
  level_asked (Lock Work area) told e q = record { seen = λ f k. absurd (omega (arith, k)); level = λ f k. absurd (omega (arith, k)) }
  level_asked (Unlock Work area) Done e q = object_on (Unlock Work area) Done Unlocks r.views r.first_views _ (frees_work n r.law y.0 area Done).0.object (unlock Unlocks (Unlock Work area) Done tt (unlock_goes n keeps r s y.0 area e) (unlock_over n keeps r s y.0 area e))
  level_asked (Unlock Work area) told e q = absurd q
  level_asked (Unlock Heal area) Done e q = object_on (Unlock Heal area) Done HealUnlocks r.views r.first_views _ (frees_heal n r.law y.0 area Done).object (unlock HealUnlocks (Unlock Heal area) Done tt (heal_unlock_goes n keeps r s y.0 area e) (heal_unlock_over n keeps r s y.0 area e))
  level_asked (Unlock Heal area) told e q = absurd q
  level_asked (Look g) (Seen view) e q = object_on (Look g) (Seen view) Looks _ _ _ (sees r.law y.0 g.0 view).object (look g (Seen view) e q)
  level_asked (Look g) NoObject e q = look g NoObject e q
  level_asked (Look g) told e q = absurd q
  level_asked (ReadBytes g at len) Given e q = plain Reads (ReadBytes g at len) Given tt (onward_far n keeps r s g.0 Bytes (bytes_onward n keeps r s y.0 g at len e)) (omega arith)
  level_asked (ReadBytes g at len) NoObject e q = plain Reads (ReadBytes g at len) NoObject tt (onward_far n keeps r s g.0 Bytes (bytes_onward n keeps r s y.0 g at len e)) (omega arith)
  level_asked (ReadBytes g at len) told e q = absurd q
  level_asked (ReadAttrs g) Given e q = plain Reads (ReadAttrs g) Given tt (onward_far n keeps r s g.0 Attrs (attrs_onward n keeps r s y.0 g e)) (omega arith)
  level_asked (ReadAttrs g) NoObject e q = plain Reads (ReadAttrs g) NoObject tt (onward_far n keeps r s g.0 Attrs (attrs_onward n keeps r s y.0 g e)) (omega arith)
  level_asked (ReadAttrs g) told e q = absurd q
  level_asked (List g) Given e q = plain Reads (List g) Given tt (onward_far n keeps r s g.0 Names (list_onward n keeps r s y.0 g e)) (omega arith)
  level_asked (List g) NoObject e q = plain Reads (List g) NoObject tt (onward_far n keeps r s g.0 Names (list_onward n keeps r s y.0 g e)) (omega arith)
  level_asked (List g) told e q = absurd q
  level_asked (Pre g kind) Done e q = plain HealPres (Pre g kind) Done tt (onward_far n keeps r s g.0 kind (pre_onward n keeps r s y.0 g.0 kind e)) (omega arith)
  level_asked (Pre g kind) NoObject e q = plain HealPres (Pre g kind) NoObject tt (onward_far n keeps r s g.0 kind (pre_onward n keeps r s y.0 g.0 kind e)) (omega arith)
  level_asked (Pre g kind) told e q = absurd q
  level_asked (Mend repair) Done e q = record { seen = λ f. absurd (mends_finish keeps r s r.law.kind r.part y.0 (turn_in n keeps r s Mends y.0 (mend_turn n keeps r s y.0 repair e)) f (areas.bytes (not_first f))); level = λ f k. absurd (omega (arith, k)) }
  level_asked (Mend repair) NoObject e q = record { seen = λ f. absurd (mends_finish keeps r s r.law.kind r.part y.0 (turn_in n keeps r s Mends y.0 (mend_turn n keeps r s y.0 repair e)) f (areas.bytes (not_first f))); level = λ f k. absurd (omega (arith, k)) }
  level_asked (Mend repair) told e q = absurd q
  level_asked (Settle g kind less) Done e q = plain Settles (Settle g kind less) Done tt (onward_far n keeps r s g.0 kind (settle_onward n keeps r s y.0 g.0 kind less e)) (omega arith)
  level_asked (Settle g kind less) NoObject e q = plain Settles (Settle g kind less) NoObject tt (onward_far n keeps r s g.0 kind (settle_onward n keeps r s y.0 g.0 kind less e)) (omega arith)
  level_asked (Settle g kind less) told e q = absurd q
  level_asked (Apply i) told e q = absurd (true≢false (sym e))
  level_asked (Post i g kind missed) told e q = absurd (true≢false (sym e))
  level_asked (ReadName g name) told e q = absurd (true≢false (sym e))
  level_asked (ReadAttr g key) told e q = absurd (true≢false (sym e))
  level_asked Index told e q = absurd (true≢false (sym e))
