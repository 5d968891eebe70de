-- Why a heal fails after its first looks, and when it is settled.
use Rattle.std.proofs.Common.{◌≡◌, ℕ, ◌<◌, ◌≤◌, ◌&&◌, ◌||◌, not, ◌==◌, nat_lt, Bool, true, false, [], ◌∷◌, refl, sym, ◌∙◌, subst, arith, Option, None, Some, if◌then◌else◌}
use Rattle.std.proofs.lemmas.Bool.Decides.{nat_tests}
use Rattle.afr_base.specs.Bricks.{all_five, member, minus}
use Rattle.afr_base.specs.declared.ids.ActorId.{ActorId}
use Rattle.afr_base.specs.declared.ids.Gfid.{Gfid}
use Rattle.afr_base.specs.declared.ids.Kind.{Kind}
use Rattle.afr_base.specs.declared.ids.Kind.TheVariants.{Attrs, Bytes, Names}
use Rattle.afr_base.specs.declared.ids.Shape.{Shape}
use Rattle.afr_base.specs.SetLemmas.{no_member, some_member}
use Rattle.afr_choice.specs.Looks.{view_at}
use Rattle.afr_choice.specs.Verdict.{accuses_at, copies_of, holders_of}
use Rattle.afr_choice.specs.declared.looked.Looked.{Looked}
use Rattle.afr_heal.specs.Standing.{AfterLooks, OfKind}
use Rattle.afr_law_heal.proofs.GoingAfter.{copy_is, holder_is, past_locks, source_is}
use Rattle.afr_law_heal.proofs.GoingLines.{SameFolds}
use Rattle.afr_law_heal.proofs.GoingLooks.{copy_low, get_none, holder_low, in_left, left_in, none_accuses}
use Rattle.afr_heal.proofs.Parts.{both, not_both, pair}
use Rattle.afr_heal.proofs.StagesForms.{going_at}
use Rattle.afr_law_heal.specs.Stages.{IsShown, TellsAfter, raises}
use Rattle.afr_lines.specs.Work.{Work}
use Rattle.afr_lines.specs.declared.reply.HealReply.{HealReply}
use Rattle.afr_lines.specs.declared.reply.HealReply.TheVariants as healed
use Rattle.afr_lines.specs.declared.request.Area.{Area}
use Rattle.afr_model.specs.Healing.{heal_getting, busy_by, first_by, holders_in, settled_at, source_of, whole_of}
use Rattle.afr_model.specs.HealReplies.{IsHealAnswered, IsHealAsked, by_first, by_moved, by_owner, is_failed, is_settled, or_else}
use Rattle.afr_model.specs.Moved.{accuser, is_whole_by, len_in, moved_by, or_brick, pieces, unlike}
use Rattle.afr_model.specs.Showing.{among, looked_by, prepared}
use Rattle.afr_model.specs.Standing.{asking}
use Rattle.afr_model_moves.specs.Keeps.{keeps_in}
use Rattle.afr_model_moves.specs.Register.{Exact, Finish, Opening, HealPart, Piece, good, holder, is_finish, is_opening, len_of, unaccused, all}
use Rattle.afr_object.specs.declared.entry.View.{View}
use Rattle.afr_model_moves.specs.Steps.{goes_on_at, sink}
use Rattle.afr_model_moves.proofs.Tests.{all_yes}

-- the cause of Failed
pub failed_by : (o : Option ActorId) (p : Option HealReply) (b : Bool) (m : Option ℕ) → o ≡ None → p ≡ None → b ≡ false → m ≡ None → or_else (by_owner o) (or_else p (Some (if b then healed.Settled else by_moved m))) ≡ Some healed.Failed
failed_by o p b m eo ep eb em = rw (eo, ep, eb, em) refl

-- and of Settled
settled_by : (o : Option ActorId) (p : Option HealReply) (b : Bool) (m : Option ℕ) → o ≡ None → p ≡ None → b ≡ true → or_else (by_owner o) (or_else p (Some (if b then healed.Settled else by_moved m))) ≡ Some healed.Settled
settled_by o p b m eo ep eb = rw (eo, ep, eb) refl

moved_none : (c f : Bool) (a u : Option ℕ) → a ≡ None → (f ≡ true → u ≡ None) → (if c then None else or_brick a (if f then u else None)) ≡ None
moved_none true f a u h k = refl
moved_none false true a u h k = rw (h, k refl) refl
moved_none false false a u h k = rw h refl

module _ (shape : Shape) (few : shape.n ≤ 5) (p : Exact) (seen looked : Looked) (s : ℕ) (g : Gfid) (kind : Kind) (area : Area) where
  abbrev n : ℕ
  n = shape.n

  abbrev keeps : ℕ → Kind → Bool
  keeps = keeps_in shape

  abbrev r : Exact
  r = going_at p g kind area

  module _ (k : AfterLooks n keeps r s g kind) (w : Work) (shown : IsShown r seen looked) (ta : TellsAfter shape r seen looked s g kind w) where
    -- ---- nothing was skipped
    -- who granted the Heal lock was asked for the Work lock
    pub asked_before : (x : ℕ) → member (among heal_getting w) x ≡ true → member (among (asking (whole_of g kind)) w) x ≡ true
    asked_before x h = surely _ _ _ _ (past_locks shape few p seen looked s g kind area k) (ta.worked x h)
      where
        surely : (a f n l : Bool) → n ≡ false → (a || (f && n && l)) ≡ true → a ≡ true
        surely true f n l e h = refl
        surely false true true l e h = absurd (cc e)
        surely false true false l e h = absurd (cc h)
        surely false false n l e h = absurd (cc h)

    pub asked_all : IsHealAsked shape g kind w
    asked_all = record { locked = ta.asked; worked = λ most x h. asked_before x h; looked = λ most x h. rw ta.first (ta.watched x h) }

    -- ---- the source didn't move
    -- a later part is one of a heal of bytes, and its looks accuse nobody
    later_free : is_opening p.part ≡ false → (x : ℕ) → accuses_at kind x s looked ≡ false
    later_free later x = none_accuses n kind looked s (ta.present later (past_locks shape few p seen looked s g kind area k)).1 free x
      where
        by : (part : HealPart) → is_opening part ≡ false → goes_on_at n keeps r s part ≡ true → unaccused n kind r.views s ≡ true
        by Opening e h = absurd (cc e)
        by Piece e h = h
        by Finish e h = (both (unaccused n kind r.views s) _ h).0

        free : unaccused n kind (λ x. view_at x looked) s ≡ true
        free = subst (λ (f : ℕ → Option View). unaccused n kind f s ≡ true) shown.views (by p.part later (both (good n keeps kind r.first_views s) _ k.onwards).1)

    -- and at the finish the copies are as long as the source
    as_long : is_finish p.part ≡ true → (x : ℕ) → x < n → sink keeps r s x ≡ true → (len_of (view_at x looked) == len_of (view_at s looked)) ≡ true
    as_long last x l h = surely (sink keeps r s x) _ h (subst (λ (f : ℕ → Option View). (not (sink keeps r s x) || (len_of (f x) == len_of (f s))) ≡ true) shown.views
        (all_yes n (λ x. not (sink keeps r s x) || (len_of (r.views x) == len_of (r.views s))) (by p.part last (both (good n keeps kind r.first_views s) _ k.onwards).1) x l))
      where
        surely : (a b : Bool) → a ≡ true → (not a || b) ≡ true → b ≡ true
        surely true b e h = h
        surely false b e h = absurd (cc e)

        by : (part : HealPart) → is_finish part ≡ true → goes_on_at n keeps r s part ≡ true → all n (λ x. not (sink keeps r s x) || (len_of (r.views x) == len_of (r.views s))) ≡ true
        by Opening e h = absurd (cc e)
        by Piece e h = absurd (cc e)
        by Finish e h = (both (unaccused n kind r.views s) _ h).1

    -- a later part is of bytes
    later_bytes : (of : Kind) (part : HealPart) → OfKind of part → is_opening part ≡ false → of ≡ Bytes
    later_bytes Bytes part e h = refl
    later_bytes Attrs Opening e h = absurd (cc h)
    later_bytes Attrs Piece e h = absurd e
    later_bytes Attrs Finish e h = absurd e
    later_bytes Names Opening e h = absurd (cc h)
    later_bytes Names Piece e h = absurd e
    later_bytes Names Finish e h = absurd e

    no_names : kind ≡ Bytes → kind ≡ Names → ⊥
    no_names e h = let d : Bytes ≡ Names = sym e ∙ h in cc d

    -- no sink shows another length at the finish
    even : kind ≡ Bytes → is_finish p.part ≡ true → (x : ℕ) → member (minus (copies_of shape seen kind) (s ∷ [])) x ≡ true → not (len_in (view_at x looked) == len_in (view_at s looked)) ≡ false
    even bytes last x m =
        let two = left_in (copies_of shape seen kind) (s ∷ []) x m in
        let l = copy_low shape seen few ta.low ta.shown kind x two.0 in
        let copy : (holder r.first_views x && keeps x Bytes) ≡ true = subst (λ (of : Kind). (holder r.first_views x && keeps x of) ≡ true) bytes (sym (copy_is shape few p seen looked s g kind area k w shown ta kind x l) ∙ two.0) in
        let parts = both (holder r.first_views x) (keeps x Bytes) copy in
        let apart : (s == x) ≡ false = lone (s == x) two.1 in
        let other : not (x == s) ≡ true = grind (arith, nat_tests, apart) in
        same_len (view_at x looked) (view_at s looked) (as_long last x l (pair _ _ (pair _ _ parts.0 other) parts.1))
      where
        lone : (f : Bool) → (f || false) ≡ false → f ≡ false
        lone true h = absurd (cc h)
        lone false h = refl

        same_len : (a b : Option View) → (len_of a == len_of b) ≡ true → not (len_in a == len_in b) ≡ false
        same_len None None h = refl
        same_len None (Some b) h = rw h refl
        same_len (Some a) None h = rw h refl
        same_len (Some a) (Some b) h = rw h refl

    -- so the later looks of a part show nothing
    moved_later : is_opening p.part ≡ false → moved_by shape g kind w ≡ None
    moved_later e =
        let bytes = later_bytes kind p.part k.of_kind e in
        let source : source_of shape kind w ≡ s = source_is shape few p seen looked s g kind area k w shown ta (no_names bytes) (λ x l. ta.opened x l ∙ rw e (whole (raises shape r s kind x))) in
        let looks : looked_by g w ≡ looked = ta.again e ∙ rw (past_locks shape few p seen looked s g kind area k) refl in
        moved_none _ (is_whole_by (whole_of g kind) w) _ _
        (subst (λ (b : ℕ). accuser kind b (looked_by g w) ≡ None) (sym source) (subst (λ (l : Looked). accuser kind s l ≡ None) (sym looks)
        (get_none (λ x. accuses_at kind x s looked) all_five (λ x m. later_free e x))))
        (λ f. subst (λ (b : ℕ). unlike b (minus (copies_of shape (first_by w).looked kind) (b ∷ [])) (looked_by g w) ≡ None) (sym source)
        (subst (λ (l : Looked). unlike s (minus (copies_of shape (first_by w).looked kind) (s ∷ [])) l ≡ None) (sym looks)
        (subst (λ (l : Looked). unlike s (minus (copies_of shape l kind) (s ∷ [])) looked ≡ None) (sym ta.first)
        (get_none (λ x. not (len_in (view_at x looked) == len_in (view_at s looked))) (minus (copies_of shape seen kind) (s ∷ [])) (λ x m. even bytes (sym (ta.finish e) ∙ f) x m)))))
      where
        whole : (f : Bool) → (f && true) ≡ f
        whole true = refl
        whole false = refl

    pub moved_still : moved_by shape g kind w ≡ None
    moved_still = go (is_opening p.part) refl
      where
        few_parts : (k : ℕ) (c : Bool) (m : Option ℕ) → k ≡ 1 → (if not (nat_lt 1 k) || c then None else m) ≡ None
        few_parts k c m e = rw e refl

        go : (f : Bool) → is_opening p.part ≡ f → moved_by shape g kind w ≡ None
        go true e = few_parts (pieces w) _ _ (ta.one e)
        go false e = moved_later e

    -- ---- the heal fails
    -- a line that fails it, where a holder hasn't settled
    pub falls : (v : Work) → SameFolds g kind v w → among prepared v ≡ among prepared w → (x : ℕ) → x < n → holder r.first_views x ≡ true → member (among settled_at v) x ≡ false → is_failed v ≡ true
        → IsHealAnswered shape g kind v healed.Failed
    falls v m pres x l h out failing = record {
      caused = failed_by (busy_by v) (by_first shape kind (first_by v)) (is_settled v) (moved_by shape g kind v) (m.free ta.free) (rw m.first ta.none) unsettled (rw (m.count, m.shows, m.whole, m.first, pres) moved_still);
      failed = λ e. failing;
      asked = λ e. (let a = asked_all in record {
        locked = λ b lb. rw m.asks (a.locked b lb);
        worked = λ most b gets. rw m.works (a.worked (rw m.gets at most) b (rw m.gets at gets));
        looked = λ most b gets. rw m.first (a.looked (rw m.locks at most) b (rw m.locks at gets));
      });
    }
      where
        unsettled : is_settled v ≡ false
        unsettled = rw m.first (some_member (minus (holders_in w) (among settled_at v)) x (in_left (holders_in w) (among settled_at v) x (holder_is shape few p seen looked s g kind area k w shown ta x l ∙ h) out))

    -- ---- the heal is settled
    -- every holder has settled
    pub settled_now : ((x : ℕ) → x < n → holder r.first_views x ≡ true → member (among settled_at w) x ≡ true) → is_settled w ≡ true
    settled_now all = no_member (minus (holders_in w) (among settled_at w)) (λ x m.
        let two = left_in (holders_in w) (among settled_at w) x m in
        let l = holder_low shape seen few ta.low ta.shown x (subst (λ (f : _). member (holders_of f) x ≡ true) ta.first two.0) in
        not_both (member (among settled_at w) x) (all x l (sym (holder_is shape few p seen looked s g kind area k w shown ta x l) ∙ two.0)) two.1)

    -- so the reply is Settled
    pub settles_well : ((x : ℕ) → x < n → holder r.first_views x ≡ true → member (among settled_at w) x ≡ true) → IsHealAnswered shape g kind w healed.Settled
    settles_well all = record {
      caused = settled_by (busy_by w) (by_first shape kind (first_by w)) (is_settled w) (moved_by shape g kind w) ta.free ta.none (settled_now all);
      failed = λ e. absurd (cc e);
      asked = λ e. asked_all;
    }
