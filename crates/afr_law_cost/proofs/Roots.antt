-- A heal that holds Work locks has an area.
use Rattle.std.proofs.Common.{◌≡◌, ℕ, ◌==◌, ◌&&◌, Bool, true, false, refl, sym, subst, if◌then◌else◌, Option, None, Some}
use Rattle.afr_heal.proofs.Parts.{not_both}
use Rattle.afr_heal.proofs.StagesForms.{granting_by, locking_by, viewed_form}
use Rattle.afr_heal.specs.Answers.{fits}
use Rattle.afr_lines.specs.declared.answer.Told.{Told}
use Rattle.afr_lines.specs.declared.answer.Told.TheVariants as as_told
use Rattle.afr_lines.specs.declared.request.Area.{Area}
use Rattle.afr_lines.specs.declared.request.Request.{Request}
use Rattle.afr_lines.specs.declared.request.Request.TheVariants.{Apply, Index, List, Lock, Look, Mend, Post, Pre, ReadAttr, ReadAttrs, ReadBytes, ReadName, Settle, Unlock}
use Rattle.afr_model_moves.specs.Past.{is_gone}
use Rattle.afr_model_moves.specs.Rules as weak
use Rattle.afr_model_moves.specs.Rules.{Register, busy, is_area}
use Rattle.afr_model_moves.specs.Sets.{with, without}
use Rattle.afr_object.specs.declared.entry.View.{View}
use Rattle.afr_lines.specs.declared.lock.Domain.TheVariants.{Heal, Work}
use Rattle.afr_law_cost.specs.Laws.{BegunRooted, StartsRooted, StaysRooted}
use Rattle.afr_model_moves.proofs.Tests.{without_in}

-- the same of the law's register
abbrev RootedIn : Register → Type 0
RootedIn law = (x : ℕ) → law.held x ≡ true → law.area ≡ None → ⊥

none_is : (of : Option Area) (area : Area) → is_area of area ≡ true → of ≡ None → ⊥
none_is None area h e = not_both false h refl
none_is (Some a) area h e = cc e

module _ (n : ℕ) (law : Register) (b : ℕ) (k : RootedIn law) where
  locked : (area : Area) → RootedIn (weak.locking n law area)
  locked area = go (busy n law) (is_area law.area area)
    where
      go : (w own : Bool) → RootedIn (locking_by w own law area)
      go true own = k
      go false own = λ x held none. cc held

  granted : (area : Area) → RootedIn (weak.granting n law area b)
  granted area = go (busy n law) (is_area law.area area) refl
    where
      go : (w own : Bool) → is_area law.area area ≡ own → RootedIn (granting_by w own law area b)
      go true true e = λ x held none. none_is law.area area e none
      go true false e = k
      go false own e = λ x held none. cc none

  released : (area : Area) → RootedIn (weak.released law area b)
  released area = go (is_area law.area area)
    where
      go : (f : Bool) → RootedIn (if f then record law { closed = with law.closed b; held = without law.held b } else record law { second_held = weak.second_freed law area b })
      go true = λ x held none. k x (without_in law.held b x held) none
      go false = k

  unlocked : (area : Area) → RootedIn (weak.unlocked law area b)
  unlocked area = go (is_area law.area area)
    where
      go : (f : Bool) → RootedIn (if f then record law { closed = with law.closed b } else law)
      go true = k
      go false = k

  looked : (g : ℕ) (view : View) → RootedIn (weak.looking law b g view)
  looked g view = go law.heal
    where
      seen : (f : Bool) → RootedIn (if f then record law { seen = with law.seen b } else law)
      seen true = k
      seen false = k

      go : (f : Bool) → RootedIn (if f then weak.viewed law b g view else weak.looked law b)
      go true = (let e = viewed_form law b g view in subst (λ (l : Register). RootedIn l) (sym e) k)
      go false = seen ((law.number == 0) && law.held b)

  told_rooted : (request : Request) (told : Told) → fits request told ≡ true → RootedIn (weak.note_ask n law b request told)
  told_rooted (Lock Work area) as_told.Granted f = granted area
  told_rooted (Lock Work area) (as_told.Held owner) f = locked area
  told_rooted (Lock Work area) as_told.Failed f = locked area
  told_rooted (Lock Work area) as_told.NotConnected f = locked area
  told_rooted (Lock Heal area) as_told.Granted f = k
  told_rooted (Lock Heal area) (as_told.Held owner) f = k
  told_rooted (Lock Heal area) as_told.Failed f = k
  told_rooted (Lock Heal area) as_told.NotConnected f = k
  told_rooted (Unlock Work area) as_told.Done f = released area
  told_rooted (Unlock Work area) as_told.Failed f = unlocked area
  told_rooted (Unlock Work area) as_told.NotConnected f = unlocked area
  told_rooted (Unlock Heal area) as_told.Done f = k
  told_rooted (Unlock Heal area) as_told.Failed f = k
  told_rooted (Unlock Heal area) as_told.NotConnected f = k
  told_rooted (Look g) (as_told.Seen view) f = looked g.0 view
  told_rooted (Look g) as_told.NoObject f = k
  told_rooted (Look g) as_told.Failed f = k
  told_rooted (Look g) as_told.NotConnected f = k
  told_rooted (ReadBytes g at len) told f = k
  told_rooted (ReadAttrs g) told f = k
  told_rooted (List g) told f = k
  told_rooted (Pre g kind) as_told.Done f = k
  told_rooted (Pre g kind) as_told.Failed f = k
  told_rooted (Pre g kind) as_told.NotConnected f = k
  told_rooted (Mend repair) as_told.Done f = k
  told_rooted (Mend repair) as_told.Failed f = k
  told_rooted (Mend repair) as_told.NotConnected f = k
  told_rooted (Settle g kind marks) as_told.Done f = k
  told_rooted (Settle g kind marks) as_told.Failed f = k
  told_rooted (Settle g kind marks) as_told.NotConnected f = k
  told_rooted (ReadName g name) told f = k
  told_rooted (ReadAttr g key) told f = k
  told_rooted Index told f = k
  told_rooted (Apply q) as_told.NotConnected f = k
  told_rooted (Apply q) as_told.Failed f = k
  told_rooted (Post q g kind missed) as_told.NotConnected f = k
  told_rooted (Post q g kind missed) as_told.Failed f = k
  told_rooted _ _ f = absurd (cc f)

dropped : (gone : Bool) (b : ℕ) (law : Register) → RootedIn law → RootedIn (weak.dropping gone b law)
dropped true b law k = λ x held none. k x (without_in law.held b x held) none
dropped false b law k = k

pub stays_rooted : StaysRooted
stays_rooted n keeps r t b request told f k = dropped (is_gone told) b (weak.note_ask n r.law b request told) (told_rooted n r.law b k request told f)

pub begun_rooted : BegunRooted
begun_rooted n keeps r t g kind k = k

pub starts_rooted : StartsRooted
starts_rooted n r k = λ x held none. not_both (r.law.held x) held (k.none_held x)
