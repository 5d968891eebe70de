-- A removal asks for the locks of its directory in rising order of bricks.
use Rattle.std.proofs.Common.{◌≡◌, ℕ, ◌<◌, ◌==◌, not, Bool, true, false, ◌⊎◌, inl, inr, refl, sym, ◌∙◌, subst, arith, List, [], ◌∷◌, Option, Some, None, true≢false}
use Rattle.std.specs.Prelude.{if◌then◌else◌}
use Rattle.std.proofs.lemmas.Bool.{eqb-true, or_cases, or_left, or_right}
use Rattle.afr_base.specs.Bricks.{added, added_if, and_right, is_nothing, lowest, member, minus, removed}
use Rattle.afr_base.specs.SetLemmas.{lowest_left, member_added, member_minus, member_removed}
use Rattle.afr_base.specs.declared.ids.BrickId.{BrickId}
use Rattle.afr_base.specs.declared.ids.Kind.TheVariants.{Names}
use Rattle.afr_discipline.specs.declared.register.Register.{Register}
use Rattle.afr_lines.specs.Told.{told_by}
use Rattle.afr_lines.specs.declared.answer.Answer.{Answer}
use Rattle.afr_lines.specs.declared.answer.Answer.TheVariants as answer
use Rattle.afr_lines.specs.declared.answer.Told.TheVariants.{Granted, Held, NotConnected}
use Rattle.afr_lines.specs.declared.answer.Told.{Told}
use Rattle.afr_lines.specs.declared.request.Area.{Area}
use Rattle.afr_model_moves.proofs.Tests.{three_cases}
use Rattle.afr_model_moves.specs.Note.{is_held}
use Rattle.afr_law_pace.proofs.Order.{head_lowest, minus_rises}
use Rattle.afr_client_entry.proofs.Removals.AfterLemmas.{locked_is}
use Rattle.afr_client_entry.proofs.Removals.Facts.{apart, is_busy}
use Rattle.afr_client_entry.specs.Removals.Removal.{Removing, against, answered, brick_at, has_takers, left, moved, or_close, register_after, removing, request_at, sets_after, stage_after, whole}
use Rattle.afr_client_entry.specs.Removals.Sound.{IsAsking, Sound}
use Rattle.afr_client_entry.specs.declared.removing.stage.RemovalEnding.{RemovalEnding}
use Rattle.afr_client_entry.specs.declared.removing.stage.RemovalEnding.TheVariants.{Counted, Failed, NoQuorum}
use Rattle.afr_client_entry.specs.declared.removing.stage.RemovalStage.TheVariants.{Applying, Beginning, Closing, Listing, Locking, Looking, Posting, Preparing}
use Rattle.afr_client_entry.specs.declared.removing.stage.RemovalStage.{RemovalStage}
use Rattle.afr_law_order.proofs.Rows.{removed_rises}
use Rattle.afr_law_order.specs.Queue.{AsksAbove, IsQueued, Queue, StartsQueued, StaysQueued}
use Rattle.afr_client_transaction.proofs.Requests.{locked_w, noted_is}
use Rattle.afr_client_transaction.specs.Progress.{enough, may_start}

-- ---- one lock more
module _ (r : Register) (child : Area) (asked : List ℕ) (some : is_nothing (minus r.held asked) ≡ false) (k : Queue r.held r.second_held asked) where
  abbrev b : ℕ
  b = lowest (minus r.held asked)

  there : (member asked b ≡ false) × (member r.held b ≡ true)
  there = lowest_left r.held asked some

  -- each lower brick was asked
  lower : (x : ℕ) → x < b → member r.held x ≡ true → member asked x ≡ true
  lower x low held = go (member asked x) refl
    where
      go : (m : Bool) → member asked x ≡ m → member asked x ≡ true
      go true e = e
      go false e = (
          let left_x : member (minus r.held asked) x ≡ true = member_minus r.held asked x ∙ rw (e, held) refl in
          let least = head_lowest (minus r.held asked) (minus_rises r.held asked k.row) x left_x in
          absurd (omega (arith, least, low))
          )

  more : (x : ℕ) → member asked x ≡ true → member (added b asked) x ≡ true
  more x m = member_added b asked x ∙ or_right (b == x) (member asked x) m

  -- of two bricks the lower one was asked first, with this one more
  order_more : (c x : ℕ) → member (added b asked) c ≡ true → x < c → member r.held x ≡ true → member (added b asked) x ≡ true
  order_more c x h low held = elim (or_cases (b == c) (member asked c) (sym (member_added b asked c) ∙ h)) [
    | inl same ↦ more x (lower x (let e = eqb-true b c same in omega (arith, e, low)) held)
    | inr old ↦ more x (k.order c x old low held)
  ]

  gone_in : (s : List ℕ) (x : ℕ) → member (removed b s) x ≡ true → member s x ≡ true
  gone_in s x h = and_right (not (b == x)) (member s x) (sym (member_removed b s x) ∙ h)

  lock_next : (told : Told) → Queue (locked_w true false r child b told).held (locked_w true false r child b told).second_held (added_if (not (is_held told)) b asked)
  lock_next Granted = record {
    row = k.row;
    order = order_more;
    among = λ c h. elim (or_cases (b == c) (member r.second_held c) (sym (member_added b r.second_held c) ∙ h)) [
      | inl same ↦ member_added b asked c ∙ or_left (b == c) (member asked c) same
      | inr old ↦ more c (k.among c old)
    ];
  }
  lock_next NotConnected = record {
    row = removed_rises b r.held k.row;
    order = λ c x h low held. order_more c x h low (gone_in r.held x held);
    among = λ c h. more c (k.among c (gone_in r.second_held c h));
  }
  lock_next (Held owner) = record { row = k.row; order = k.order; among = k.among }
  lock_next told = record { row = k.row; order = order_more; among = λ c h. more c (k.among c h) }

-- ---- the stages
any_stage : (m : Removing) (stage : RemovalStage) → Queue m.register.held m.register.second_held m.child.lock_asked → IsQueued stage m
any_stage m Locking q = q
any_stage m Looking q = tt
any_stage m Listing q = tt
any_stage m Beginning q = tt
any_stage m Preparing q = tt
any_stage m Applying q = tt
any_stage m Posting q = tt
any_stage m (Closing why) q = tt

off_locks : (m : Removing) (stage : RemovalStage) → (stage ≡ Locking → ⊥) → IsQueued stage m
off_locks m Locking other = absurd (other refl)
off_locks m Looking other = tt
off_locks m Listing other = tt
off_locks m Beginning other = tt
off_locks m Preparing other = tt
off_locks m Applying other = tt
off_locks m Posting other = tt
off_locks m (Closing why) other = tt

-- no other stage goes back to the locks
away : (stage : RemovalStage) (a : Answer) (x : Removing) → (stage ≡ Locking → ⊥) → stage_after stage a x ≡ Locking → ⊥
away Locking a x other is = other refl
away Looking a x other is = go (is_nothing (left Looking x)) (has_takers x.register) (against x.register.shape x.child.looked) is
  where
    go : (e f : Bool) (o : Option RemovalEnding) → (if e then (if f then or_close o Listing else Closing NoQuorum) else Looking) ≡ Locking → ⊥
    go true true None h = cc h
    go true true (Some why) h = cc h
    go true false o h = cc h
    go false f o h = cc h
away Listing (answer.Names []) x other is = go (may_start x.register x.change) is
  where
    go : (e : Bool) → (if e then Beginning else Closing Failed) ≡ Locking → ⊥
    go true h = cc h
    go false h = cc h
away Listing (answer.Names (y ∷ names)) x other is = cc is
away Listing a x other is = cc is
away Beginning a x other is = cc is
away Preparing a x other is = go (is_nothing (left Preparing x)) (enough x.register Names x.register.pre) is
  where
    go : (e f : Bool) → (if e then (if f then Applying else Closing Counted) else Preparing) ≡ Locking → ⊥
    go true true h = cc h
    go true false h = cc h
    go false f h = cc h
away Applying a x other is = go (is_nothing (left Applying x)) (enough x.register Names x.register.done) is
  where
    go : (e f : Bool) → (if e then (if f then Posting else Closing Counted) else Applying) ≡ Locking → ⊥
    go true true h = cc h
    go true false h = cc h
    go false f h = cc h
away Posting a x other is = go (is_nothing (left Posting x)) is
  where
    go : (e : Bool) → (if e then Closing Counted else Posting) ≡ Locking → ⊥
    go true h = cc h
    go false h = cc h
away (Closing why) a x other is = go (is_nothing (left (Closing why) x)) is
  where
    go : (e : Bool) → (if e then Closing why else Closing why) ≡ Locking → ⊥
    go true h = cc h
    go false h = cc h

-- ---- the laws
pub starts_queued : StartsQueued
starts_queued change r g row none = any_stage (removing change r g) (removing change r g).stage (record { row = row; order = λ c x h. absurd (true≢false (sym h)); among = λ c h. absurd (true≢false (sym (subst (λ (s : List ℕ). member s c ≡ true) none h))) })

module _ (m : Removing) (s : Sound m) (chosen : BrickId) (a : Answer) (at : ℕ) where
  abbrev IsNow : Removing → Type 0
  IsNow y = IsQueued y.stage y

  locks : is_nothing (left Locking m) ≡ false → Queue m.register.held m.register.second_held m.child.lock_asked → IsNow (answered chosen Locking a at m)
  locks e k =
      let low = lowest (left Locking m) in
      let here : member m.register.held low ≡ true = (lowest_left m.register.held m.child.lock_asked e).1 in
      let small : low < m.register.shape.n = s.base.held_within low here in
      let is = noted_is m.register at low (request_at Locking m) (told_by a) s.base.outside
      ∙ locked_is m.change (whole m.child) m.register low small s.base s.areas (is_busy m.register low small here) (apart m.change s.removes m.register.area m.child.gfid s.areas.named) (told_by a) in
      subst (λ (z : Register). IsNow (moved chosen Locking low a z m)) (sym is)
      (any_stage (moved chosen Locking low a (locked_w true false m.register (whole m.child) low (told_by a)) m) (moved chosen Locking low a (locked_w true false m.register (whole m.child) low (told_by a)) m).stage
      (lock_next m.register (whole m.child) m.child.lock_asked e k (told_by a)))

  others : (stage : RemovalStage) → (stage ≡ Locking → ⊥) → IsNow (answered chosen stage a at m)
  others stage other = off_locks (answered chosen stage a at m) (answered chosen stage a at m).stage (away stage a (sets_after stage (brick_at stage m) (told_by a) (register_after stage a at m) m) other)

  by_stage : (stage : RemovalStage) → IsAsking stage m → IsQueued stage m → IsNow (answered chosen stage a at m)
  by_stage Locking e k = locks e k
  by_stage Looking e k = others Looking (λ h. cc h)
  by_stage Listing e k = others Listing (λ h. cc h)
  by_stage Beginning e k = absurd e
  by_stage Preparing e k = others Preparing (λ h. cc h)
  by_stage Applying e k = others Applying (λ h. cc h)
  by_stage Posting e k = others Posting (λ h. cc h)
  by_stage (Closing why) e k = others (Closing why) (λ h. cc h)

pub stays_queued : StaysQueued
stays_queued m s e k chosen a at = by_stage m s chosen a at m.stage e k

pub asks_above : AsksAbove
asks_above m s e k is c held = go m.stage is e k
  where
    second : ((m.register.second ≡ None) × (m.register.second_held ≡ [])) ⊎ (m.register.second ≡ Some (whole m.child)) → m.register.second ≡ Some (whole m.child)
    second (inl none) = absurd (true≢false (sym (subst (λ (z : List ℕ). member z c ≡ true) none.1 held)))
    second (inr named) = named

    go : (stage : RemovalStage) → stage ≡ Locking → IsAsking stage m → IsQueued stage m → (m.register.second ≡ Some (whole m.child)) × (c < lowest (left Locking m))
    go Locking f e k = (
        let was : member m.child.lock_asked c ≡ true = k.among c held in
        let there = lowest_left m.register.held m.child.lock_asked e in (
          second s.areas.second_is,
          elim (three_cases c (lowest (left Locking m))) [
            | inl less ↦ less
            | inr (inl same) ↦ absurd (true≢false (sym (subst (λ (z : ℕ). member m.child.lock_asked z ≡ true) same was) ∙ there.0))
            | inr (inr high) ↦ absurd (true≢false (sym (k.order c (lowest (left Locking m)) was high there.1) ∙ there.0))
          ],
        )
        )
    go Looking f e k = absurd (cc f)
    go Listing f e k = absurd (cc f)
    go Beginning f e k = absurd (cc f)
    go Preparing f e k = absurd (cc f)
    go Applying f e k = absurd (cc f)
    go Posting f e k = absurd (cc f)
    go (Closing why) f e k = absurd (cc f)
