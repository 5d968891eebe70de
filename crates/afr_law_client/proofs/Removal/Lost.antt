-- A lock that was granted and is no longer held, though none was released, was lost: its brick has missed something.
use Rattle.std.proofs.Common.{◌≡◌, ◌≢◌, ℕ, ◌==◌, ◌&&◌, ◌||◌, not, Bool, true, false, List, [], ◌∷◌, refl, sym, ◌∙◌, subst, if◌then◌else◌, ◌⊎◌, inl, inr}
use Rattle.std.proofs.lemmas.Bool.Decides.{eqb_tells}
use Rattle.std.proofs.Math.Bool.{and-false}
use Rattle.afr_base.specs.Bricks.{added, member, removed, IsIn}
use Rattle.afr_base.specs.SetLemmas.{member_added, member_removed}
use Rattle.afr_base.specs.declared.ids.ActorId.{ActorId}
use Rattle.afr_base.specs.declared.ids.BrickId.{BrickId}
use Rattle.afr_base.specs.declared.ids.Gfid.{Gfid}
use Rattle.afr_lines.specs.Overlap.{same_area}
use Rattle.afr_lines.specs.Work.{Work}
use Rattle.afr_lines.specs.declared.answer.Told.{Told}
use Rattle.afr_lines.specs.declared.answer.Told.TheVariants as as_told
use Rattle.afr_lines.specs.declared.line.Line.{Line}
use Rattle.afr_lines.specs.declared.line.Line.TheVariants.{Ask}
use Rattle.afr_lines.specs.declared.request.Area.{Area}
use Rattle.afr_lines.specs.declared.request.Request.{Request}
use Rattle.afr_lines.specs.declared.request.Request.TheVariants as request
use Rattle.afr_lines.specs.declared.lock.Domain.TheVariants.{Work as WorkDomain}
use Rattle.afr_model.specs.Showing.{among, has}
use Rattle.afr_model.specs.Standing.{getting, holding}
use Rattle.afr_client_transaction.proofs.Parts.{no_or}
use Rattle.afr_law_client.specs.Fits.{missed_by}
use Rattle.afr_law_client.specs.Removal.RemovalTelling.{releases}
use Rattle.afr_law_client.proofs.Excused.{fault_misses, missed_grows, missed_now}
use Rattle.afr_law_client.proofs.Removal.Small.{any_granted}

-- one line more: the sets before it, and what it made of them
module _ (b : ℕ) (got held : List ℕ) (missed : Bool) where
  abbrev Lost : List ℕ → List ℕ → Type 0
  Lost g h = member g b ≡ true → member h b ≡ false → missed ≡ true

  -- a brick that joins both
  joins : (c : ℕ) → Lost got held → Lost (added c got) (added c held)
  joins c k m n = go (c == b) (sym (member_added c got b) ∙ m) (sym (member_added c held b) ∙ n)
    where
      go : (x : Bool) → (x || member got b) ≡ true → (x || member held b) ≡ false → missed ≡ true
      go true m n = absurd (cc n)
      go false m n = k m n

  -- a brick that leaves, having missed something
  leaves : (c : ℕ) → (c ≡ b → member got b ≡ true → missed ≡ true) → Lost got held → Lost got (removed c held)
  leaves c new k m n = go (eqb_tells c b) (sym (member_removed c held b) ∙ n)
    where
      go : ((c == b) ≡ true) × (c ≡ b) ⊎ ((c == b) ≡ false) × (c ≢ b) → (not (c == b) && member held b) ≡ false → missed ≡ true
      go (inl same) n = new same.1 m
      go (inr other) n = k m (rw other.0 at n)

module _ (g : Gfid) (area : Area) (b : ℕ) (older : List Line) (w : Work) (before : member (among (getting area) w) b ≡ true → member (among (holding area) w) b ≡ false → member (missed_by g w) b ≡ true) where
  abbrev got : List ℕ
  got = among (getting area) w

  abbrev held : List ℕ
  held = among (holding area) w

  grown : (line : Line) → Lost b got held (member (missed_by g ((line, older) ∷ w)) b) got held
  grown line m n = missed_grows g line older w b (before m n)

  misses : (a : ActorId) (c : BrickId) (r : Request) (took : Bool) → c.0 ≡ b → member got b ≡ true → member (missed_by g ((Ask a c r as_told.NotConnected took, older) ∷ w)) b ≡ true
  misses a c r took e m =
      subst (λ (x : ℕ). member (missed_by g ((Ask a c r as_told.NotConnected took, older) ∷ w)) x ≡ true) e
      (missed_now g a c r as_told.NotConnected took older w (λ none. let some = any_granted area w b m in absurd (cc (some, none))) (fault_misses g r as_told.NotConnected refl))

  by_lock : (a : ActorId) (c : BrickId) (other : Area) (took : Bool) (told : Told)
      → Lost b got held (member (missed_by g ((Ask a c (request.Lock WorkDomain other) told took, older) ∷ w)) b) (getting area (Ask a c (request.Lock WorkDomain other) told took) got) (holding area (Ask a c (request.Lock WorkDomain other) told took) held)
  by_lock a c other took as_told.Granted = go (same_area area other)
    where
      line : Line
      line = Ask a c (request.Lock WorkDomain other) as_told.Granted took

      go : (x : Bool) → Lost b got held (member (missed_by g ((line, older) ∷ w)) b) (if x && true then added c.0 got else got) (if x then added c.0 held else held)
      go true = joins b got held (member (missed_by g ((line, older) ∷ w)) b) c.0 (grown line)
      go false = grown line
  by_lock a c other took as_told.NotConnected = subst (λ (x : Bool). Lost b got held (member (missed_by g ((line, older) ∷ w)) b) (if x then added c.0 got else got) (removed c.0 held)) (sym (and-false (same_area area other)))
      (leaves b got held (member (missed_by g ((line, older) ∷ w)) b) c.0 (misses a c (request.Lock WorkDomain other) took) (grown line))
    where
      line : Line
      line = Ask a c (request.Lock WorkDomain other) as_told.NotConnected took
  by_lock a c other took told = subst (λ (x : Bool). Lost b got held (member (missed_by g ((Ask a c (request.Lock WorkDomain other) told took, older) ∷ w)) b) (if x then added c.0 got else got) held) (sym (and-false (same_area area other)))
      (grown (Ask a c (request.Lock WorkDomain other) told took))

  by_line : (line : Line) → releases line ≡ false → Lost b got held (member (missed_by g ((line, older) ∷ w)) b) (getting area line got) (holding area line held)
  by_line (Ask a c (request.Lock WorkDomain other) told took) free = by_lock a c other took told
  by_line (Ask a c (request.Unlock WorkDomain other) told took) free = absurd (cc free)
  by_line (Ask a c r as_told.NotConnected took) free = leaves b got held (member (missed_by g ((Ask a c r as_told.NotConnected took, older) ∷ w)) b) c.0 (misses a c r took) (grown (Ask a c r as_told.NotConnected took))
  by_line line free = grown line

pub lost_missed : (g : Gfid) (area : Area) (b : ℕ) (w : Work) → has releases w ≡ false → member (among (getting area) w) b ≡ true → member (among (holding area) w) b ≡ false → member (missed_by g w) b ≡ true
lost_missed g area b [] free m n = absurd (cc m)
lost_missed g area b (x ∷ w) free m n =
    let parts = no_or (releases x.0) (has releases w) free in
    by_line g area b x.1 w (lost_missed g area b w parts.1) x.0 parts.0 m n

-- who holds a lock was granted it
module _ (got held : List ℕ) (k : IsIn held got) where
  held_joins : (c : ℕ) → IsIn (added c held) (added c got)
  held_joins c b m = go (c == b) (sym (member_added c held b) ∙ m) (member_added c got b)
    where
      go : (x : Bool) → (x || member held b) ≡ true → member (added c got) b ≡ (x || member got b) → member (added c got) b ≡ true
      go true m e = e
      go false m e = e ∙ k b m

  held_leaves : (c : ℕ) → IsIn (removed c held) got
  held_leaves c b m = go (not (c == b)) (sym (member_removed c held b) ∙ m)
    where
      go : (x : Bool) → (x && member held b) ≡ true → member got b ≡ true
      go true m = k b m
      go false m = absurd (cc m)

module _ (area : Area) where
  held_lock : (other : Area) (c : ℕ) (told : Told) (got held : List ℕ) (a : ActorId) (brick : BrickId) (took : Bool) → IsIn held got
      → IsIn (holding area (Ask a brick (request.Lock WorkDomain other) told took) held) (getting area (Ask a brick (request.Lock WorkDomain other) told took) got)
  held_lock other c as_told.Granted got held a brick took k = go (same_area area other)
    where
      go : (x : Bool) → IsIn (if x then added brick.0 held else held) (if x && true then added brick.0 got else got)
      go true = held_joins got held k brick.0
      go false = k
  held_lock other c as_told.NotConnected got held a brick took k = subst (λ (x : Bool). IsIn (removed brick.0 held) (if x then added brick.0 got else got)) (sym (and-false (same_area area other))) (held_leaves got held k brick.0)
  held_lock other c told got held a brick took k = subst (λ (x : Bool). IsIn held (if x then added brick.0 got else got)) (sym (and-false (same_area area other))) k

  held_line : (line : Line) (granted still : List ℕ) → IsIn still granted → IsIn (holding area line still) (getting area line granted)
  held_line (Ask a b (request.Lock WorkDomain other) told took) granted still k = held_lock other b.0 told granted still a b took k
  held_line (Ask a b (request.Unlock WorkDomain other) as_told.Done took) granted still k = go (same_area area other)
    where
      go : (x : Bool) → IsIn (if x then removed b.0 still else still) granted
      go true = held_leaves granted still k b.0
      go false = k
  held_line (Ask a b r as_told.NotConnected took) granted still k = held_leaves granted still k b.0
  held_line line granted still k = k

  pub held_granted : (w : Work) → IsIn (among (holding area) w) (among (getting area) w)
  held_granted [] = λ b m. m
  held_granted (x ∷ w) = held_line x.0 (among (getting area) w) (among (holding area) w) (held_granted w)
