-- What one more line of a heal leaves of its first looks, and of whether it keeps to a source.
use Rattle.std.proofs.Common.{◌≡◌, ℕ, nat_lt, Bool, true, false, List, [], ◌∷◌, None, refl, if◌then◌else◌}
use Rattle.afr_base.specs.Bricks.{added_if}
use Rattle.afr_base.specs.declared.ids.ActorId.{ActorId}
use Rattle.afr_base.specs.declared.ids.BrickId.{BrickId}
use Rattle.afr_base.specs.declared.ids.Gfid.{Gfid}
use Rattle.afr_base.specs.declared.ids.Kind.{Kind}
use Rattle.afr_heal.proofs.Parts.{no_or}
use Rattle.afr_lines.specs.Work.{Work}
use Rattle.afr_lines.specs.declared.answer.Told.{Told}
use Rattle.afr_lines.specs.declared.line.Line.{Line}
use Rattle.afr_lines.specs.declared.line.Line.TheVariants.{Ask, HealBegin}
use Rattle.afr_lines.specs.declared.request.Request.{Request}
use Rattle.afr_lines.specs.declared.request.Request.TheVariants as request
use Rattle.afr_model.specs.Chosen.{AllKeep, KeepsSource, goes_on}
use Rattle.afr_model.specs.Healing.{First, busy_after, first_after, is_border}
use Rattle.afr_model.specs.Moved.{pieces}
use Rattle.afr_model.specs.Showing.{has, is_fault, look_shows}
use Rattle.afr_lines.specs.declared.lock.Domain.TheVariants as domain
use Rattle.afr_law_picks.specs.Sources.Chosen.{went_on}

-- ---- before there is a source
-- a line that isn't onward keeps to any source
keeps_any : (s : ℕ) (line : Line) → goes_on line ≡ false → KeepsSource s line
keeps_any s (Ask a b (request.ReadBytes g at len) told took) e = absurd (cc e)
keeps_any s (Ask a b (request.ReadAttrs g) told took) e = absurd (cc e)
keeps_any s (Ask a b (request.Mend repair) told took) e = absurd (cc e)
keeps_any s line e = tt

all_any : (s : ℕ) (w : Work) → has goes_on w ≡ false → AllKeep s w
all_any s [] e = tt
all_any s (x ∷ w) e =
    let two = no_or (goes_on x.0) (has goes_on w) e in
    (keeps_any s x.0 two.0, all_any s w two.1)

-- a heal that hasn't gone on keeps to any source
pub all_keep : (s : ℕ) (w : Work) → went_on w ≡ false → AllKeep s w
all_keep s w e = all_any s w (no_or (has goes_on w) (nat_lt 1 (pieces w)) e).0

-- ---- one line more
module _ (a : ActorId) (b : BrickId) (asked : Request) (told : Told) (took : Bool) (log : List Line) (w : Work) where
  abbrev line : Line
  line = Ask a b asked told took

  pub not_on : goes_on line ≡ false → went_on w ≡ false → went_on ((line, log) ∷ w) ≡ false
  not_on e k = rw e k

-- the first part of a heal begins
pub not_on_begun : (a : ActorId) (g : Gfid) (kind : Kind) (log : List Line) (w : Work) → pieces w ≡ 0 → went_on w ≡ false → went_on ((HealBegin a g kind, log) ∷ w) ≡ false
not_on_begun a g kind log w none k = rw (none, (no_or (has goes_on w) (nat_lt 1 (pieces w)) k).0) refl

-- ---- the first looks
abbrev pub is_look : Request → Bool
is_look (request.Look g) = true
is_look asked = false

abbrev pub is_index : Request → Bool
is_index request.Index = true
is_index asked = false

-- a line that asks for no list is of the running heal
pub no_border : (a : ActorId) (b : BrickId) (asked : Request) (told : Told) (took : Bool) → is_index asked ≡ false → is_border (Ask a b asked told took) ≡ false
no_border a b request.Index told took e = absurd (cc e)
no_border a b asked told took e = refl

abbrev pub is_heal_lock : Request → Bool
is_heal_lock (request.Lock domain.Heal area) = true
is_heal_lock asked = false

-- the first looks of a heal that has begun stay as they are, unless it looks still
pub first_same : (f : First) (a : ActorId) (b : BrickId) (asked : Request) (told : Told) (took : Bool) → f.begun ≡ true → (is_look asked ≡ true → f.still ≡ false) → first_after (Ask a b asked told took) f ≡ record f { still = false }
first_same f a b (request.Look g) told took begun k = go f.still (k refl) _
  where
    go : (c : Bool) → c ≡ false → (more : First) → (if c then more else record f { still = c }) ≡ record f { still = false }
    go false e more = refl
    go true e more = absurd (cc e)
first_same f a b (request.Lock of area) told took begun k = go f.begun begun _
  where
    go : (c : Bool) → c ≡ true → (more : First) → (if c then record f { still = false } else more) ≡ record f { still = false }
    go true e more = refl
    go false e more = absurd (cc e)
first_same f a b asked told took begun k = refl

by_test : (P : First → Type 0) (c : Bool) (x y : First) → P x → P y → P (if c then x else y)
by_test P true x y k l = k
by_test P false x y k l = l

-- a heal whose first part hasn't begun has none after a request
pub first_unbegun : (f : First) (a : ActorId) (b : BrickId) (asked : Request) (told : Told) (took : Bool) → f.begun ≡ false → (first_after (Ask a b asked told took) f).begun ≡ false
first_unbegun f a b (request.Look g) told took none =
    by_test (λ (z : First). z.begun ≡ false) f.still (record f { missing = added_if (is_fault told) b.0 f.missing; looked = look_shows b.0 told f.looked }) f none none
first_unbegun f a b (request.Lock of area) told took none =
    by_test (λ (z : First). z.begun ≡ false) f.begun (record f { still = false }) (record f { missing = added_if (is_fault told) b.0 f.missing }) none none
first_unbegun f a b asked told took none = none

-- ---- who held the Heal lock
pub still_free : (a : ActorId) (b : BrickId) (asked : Request) (told : Told) (took : Bool) → is_heal_lock asked ≡ false → busy_after (Ask a b asked told took) None ≡ None
still_free a b (request.Lock domain.Heal area) told took e = absurd (cc e)
still_free a b (request.Lock domain.Work area) told took e = refl
still_free a b asked told took e = refl
