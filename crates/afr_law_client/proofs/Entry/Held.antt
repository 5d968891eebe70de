-- While a name is locked and looked at, the register's locks of it are those of the lines.
use Rattle.std.proofs.Common.{◌≡◌, ℕ, ◌||◌, Bool, true, false, List, [], ◌∷◌, length, refl, sym, ◌∙◌, subst, if◌then◌else◌, inl, inr}
use Rattle.afr_base.specs.Bricks.{is_nothing, lowest, member}
use Rattle.afr_base.specs.declared.ids.ActorId.{ActorId}
use Rattle.afr_base.specs.declared.ids.BrickId.{BrickId}
use Rattle.afr_base.specs.declared.ids.Shape.{Shape}
use Rattle.afr_discipline.specs.Stands.{seen_as}
use Rattle.afr_discipline.specs.declared.register.Register.{Register}
use Rattle.afr_lines.specs.Areas.{area_for}
use Rattle.afr_lines.specs.Work.{Work}
use Rattle.afr_lines.specs.declared.answer.Told.{Told}
use Rattle.afr_lines.specs.declared.answer.Told.TheVariants as as_told
use Rattle.afr_lines.specs.declared.line.Line.{Line}
use Rattle.afr_lines.specs.declared.line.Line.TheVariants.{Ask}
use Rattle.afr_lines.specs.declared.line.Next.TheVariants as next
use Rattle.afr_lines.specs.declared.request.Area.{Area}
use Rattle.afr_lines.specs.declared.request.Request.{Request}
use Rattle.afr_lines.specs.declared.request.Request.TheVariants as request_of
use Rattle.afr_lines.specs.declared.request.Request.TheVariants.{Look, ReadName, ReadBytes, ReadAttr, List as ListNames}
use Rattle.afr_model_moves.specs.Rules.{busy, is_area}
use Rattle.afr_model_moves.specs.Sets.{any}
use Rattle.afr_model_moves.proofs.AreaLemmas.{own_area, same_area_self}
use Rattle.afr_object.specs.Tables.{object_of}
use Rattle.afr_object.specs.declared.change.Change.{Change}
use Rattle.afr_lines.specs.declared.lock.Domain.TheVariants.{Work as WorkDomain}
use Rattle.afr_model.specs.Showing.{among, has}
use Rattle.afr_model.specs.Standing.{holding, locks_any}
use Rattle.afr_discipline.specs.Free.{IsFree}
use Rattle.afr_law_client.specs.Read.Lines.{OnlyReads}
use Rattle.afr_law_client.proofs.Read.Quiet.{IsQuiet, has_none}
use Rattle.afr_law_client.proofs.Read.ReadsMore.{asks_same}
use Rattle.afr_client_transaction.specs.Progress.{TransactionProgress, after, answered_by, fed, left, next_at, request_at}
use Rattle.afr_client_transaction.specs.Sound.{IsBase, Sound}
use Rattle.afr_client_transaction.specs.declared.stage.Stage.{Stage}
use Rattle.afr_client_transaction.specs.declared.stage.Stage.TheVariants.{Locking, Looking, Beginning, Preparing, Applying, Posting, Closing}
use Rattle.afr_client_transaction.proofs.Parts.{any_member, any_nothing, no_or, none_at}
use Rattle.afr_client_transaction.proofs.Requests.{after_outside, locked_w, noted_is}
use Rattle.afr_client_entry.specs.Entry.{fits_stage}
use Rattle.afr_client_entry.specs.declared.stage.Found.TheVariants.{Unread}
use Rattle.afr_law_client.specs.Removal.RemovalTelling.{releases}
use Rattle.afr_law_client.proofs.Removal.Lost.{held_granted}
use Rattle.afr_law_client.proofs.Removal.Notes.{look_held, same_added, same_removed}
use Rattle.afr_law_client.proofs.Removal.Small.{any_granted}
use Rattle.afr_law_client.specs.Entry.EntryTelling.{HoldsAt, HoldsName}

-- ---- before the first lock
quiet_releases : IsQuiet releases
quiet_releases a b (Look h) told took free = refl
quiet_releases a b (ReadName h name) told took free = refl
quiet_releases a b (ReadBytes h at len) told took free = refl
quiet_releases a b (ReadAttr h key) told took free = refl
quiet_releases a b (ListNames h) told took free = refl
quiet_releases a b request told took free = absurd (cc free)

nobody_holds : (area : Area) (w : Work) → has locks_any w ≡ false → (b : ℕ) → false ≡ member (among (holding area) w) b
nobody_holds area w none b = go (member (among (holding area) w) b) refl
  where
    go : (x : Bool) → member (among (holding area) w) b ≡ x → false ≡ x
    go true e = let any = any_granted area w b (held_granted area w b e) in absurd (cc (any, none))
    go false e = refl

pub holds_first : (change : Change) (shape : Shape) (r : Register) (n : ℕ) (w : Work) → IsFree shape r → has locks_any w ≡ false → OnlyReads n w → HoldsName change r w
holds_first change shape r n w free none only = record { held = go free; kept = has_none n releases quiet_releases w only }
  where
    go : IsFree shape r → (b : ℕ) → member r.held b ≡ member (among (holding (area_for change)) w) b
    go (inl e) b = subst (λ (x : Register). member x.held b ≡ member (among (holding (area_for change)) w) b) (sym e) (nobody_holds (area_for change) w none b)
    go (inr e) b = subst (λ (x : Register). member x.held b ≡ member (among (holding (area_for change)) w) b) (sym e) (nobody_holds (area_for change) w none b)

-- ---- a lock of the name
module _ (change : Change) (r : Register) (a : ActorId) (b : BrickId) (took : Bool) (base : IsBase change r) (s : List ℕ) (h : (c : ℕ) → member r.held c ≡ member s c) where
  abbrev area : Area
  area = area_for change

  -- where nothing is held, it is held nowhere
  free_of : busy r.shape.n (seen_as r).law ≡ false → (c : ℕ) → false ≡ member s c
  free_of e c = sym (none_at r.shape.n r.held (no_or (any r.shape.n (member r.held)) (any r.shape.n (member r.second_held)) e).0 base.held_within c) ∙ h c

  own_of : busy r.shape.n (seen_as r).law ≡ true → is_area r.area area ≡ true
  own_of e = own_area r.area area (base.of_held (any_member r.shape.n r.held (go (any r.shape.n (member r.held)) (any r.shape.n (member r.second_held)) none e)))
    where
      none : any r.shape.n (member r.second_held) ≡ false
      none = subst (λ (x : List ℕ). any r.shape.n (member x) ≡ false) (sym base.none_second) (any_nothing r.shape.n)

      go : (x y : Bool) → y ≡ false → (x || y) ≡ true → x ≡ true
      go true y n e = refl
      go false y n e = absurd (cc (n, e))

  lock_by : (w o : Bool) → busy r.shape.n (seen_as r).law ≡ w → (w ≡ true → o ≡ true) → (told : Told) (c : ℕ)
      → member (locked_w w o r area b.0 told).held c ≡ member (holding area (Ask a b (request_of.Lock WorkDomain area) told took) s) c
  lock_by true false e own told c = absurd (cc (own refl))
  lock_by true true e own as_told.Granted c = rw (same_area_self area) (same_added r b r.held s h c)
  lock_by true true e own as_told.NotConnected c = same_removed r b r.held s h c
  lock_by true true e own told c = h c
  lock_by false o e own as_told.Granted c = rw (same_area_self area) (same_added r b [] s (λ x. free_of e x) c)
  lock_by false o e own as_told.NotConnected c = same_removed r b [] s (λ x. free_of e x) c
  lock_by false o e own told c = free_of e c

  pub lock_held : (told : Told) (c : ℕ) → member (after_outside r b.0 (request_of.Lock WorkDomain area) told).held c ≡ member (holding area (Ask a b (request_of.Lock WorkDomain area) told took) s) c
  lock_held told c = lock_by (busy r.shape.n (seen_as r).law) (is_area r.area area) refl own_of told c

-- ---- after a line of the transaction
pub at_stage : (stage : Stage) (change : Change) (r : Register) (w : Work) → HoldsName change r w → HoldsAt stage change r w
at_stage Closing change r w k = tt
at_stage Locking change r w k = k
at_stage Looking change r w k = k
at_stage Beginning change r w k = k
at_stage Preparing change r w k = k
at_stage Applying change r w k = k
at_stage Posting change r w k = k

module _ (lines : Work) (a : ActorId) (log : List Line) (t : TransactionProgress) (sound : Sound t) (told : Told) (took : Bool) where
  abbrev After : Stage → BrickId → Request → Type 0
  After stage b request = HoldsAt (fed stage told (length log) t).stage (fed stage told (length log) t).change (fed stage told (length log) t).register ((Ask a b request told took, log) ∷ lines)

  abbrev own : Stage → BrickId
  own stage = record { 0 = lowest (left stage t) }

  abbrev x : Stage → TransactionProgress
  x stage = answered_by stage (own stage).0 told (length log) t

  on_lock : HoldsName t.change t.register lines → HoldsName t.change (x Locking).register ((Ask a (own Locking) (request_at Locking t) told took, log) ∷ lines)
  on_lock k = record {
    held = λ c. subst (λ (q : Register). member q.held c ≡ member (among (holding (area_for t.change)) ((Ask a (own Locking) (request_at Locking t) told took, log) ∷ lines)) c)
        (sym (noted_is t.register (length log) (own Locking).0 (request_at Locking t) told sound.base.outside))
        (lock_held t.change t.register a (own Locking) took sound.base (among (holding (area_for t.change)) lines) k.held told c);
    kept = k.kept;
  }

  on_look : HoldsName t.change t.register lines → HoldsName t.change (x Looking).register ((Ask a (own Looking) (request_at Looking t) told took, log) ∷ lines)
  on_look k = record {
    held = λ c. subst (λ (q : Register). member q.held c ≡ member (among (holding (area_for t.change)) ((Ask a (own Looking) (request_at Looking t) told took, log) ∷ lines)) c)
        (sym (noted_is t.register (length log) (own Looking).0 (request_at Looking t) told sound.base.outside))
        (look_held t.register (own Looking) (area_for t.change) (object_of t.change) a took (among (holding (area_for t.change)) lines) k.held told c);
    kept = k.kept;
  }

  pub holds_more : (copy : BrickId) (stage : Stage) (b : BrickId) (request : Request) → fits_stage (Unread copy) stage ≡ true → HoldsAt stage t.change t.register lines → next_at stage (length log) t ≡ next.Ask b request → After stage b request
  holds_more copy Locking b request fits k e = asks_same (After Locking) (own Locking) b (request_at Locking t) request e (at_stage (after Locking (x Locking)) t.change (x Locking).register _ (on_lock k))
  holds_more copy Looking b request fits k e = asks_same (After Looking) (own Looking) b (request_at Looking t) request e (at_stage (after Looking (x Looking)) t.change (x Looking).register _ (on_look k))
  holds_more copy Beginning b request fits k e = absurd (cc e)
  holds_more copy Preparing b request fits k e = absurd (cc fits)
  holds_more copy Applying b request fits k e = absurd (cc fits)
  holds_more copy Posting b request fits k e = absurd (cc fits)
  holds_more copy Closing b request fits k e = go (is_nothing (left Closing (x Closing)))
    where
      go : (y : Bool) → HoldsAt (if y then Closing else Closing) t.change (x Closing).register ((Ask a b request told took, log) ∷ lines)
      go true = tt
      go false = tt
