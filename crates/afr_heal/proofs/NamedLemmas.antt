-- A heal's area keeps its kind, and its first views their lengths.
use Rattle.std.proofs.Common.{ℕ, ◌≡◌, ◌<◌, ◌^◌, ◌&&◌, ◌==◌, ◌∙◌, if◌then◌else◌, Bool, None, Option, Some, ap, arith, false, nat_lt, not, refl, subst, sym, true}
use Rattle.std.proofs.lemmas.Bool.Decides.{nat_tests}
use Rattle.afr_base.specs.declared.ids.Gfid.{Gfid}
use Rattle.afr_base.specs.declared.ids.Kind.{Kind}
use Rattle.afr_base.specs.declared.ids.Kind.TheVariants.{Attrs, Bytes, Names}
use Rattle.afr_heal.proofs.StagesForms.{granting_by, locking_by}
use Rattle.afr_heal.proofs.StagesWalk.{after_elim, broken_elim, first_elim, heal_elim, lock_elim, look_elim, looks_later}
use Rattle.afr_heal.specs.Answers.{asked_for, fits, in_range}
use Rattle.afr_heal.specs.Carried.{IsNamed}
use Rattle.afr_heal.specs.Engine.{Ask, NextOfHeal, has_part, lock_next, next_of}
use Rattle.afr_heal.specs.Moves.{StaysNamed}
use Rattle.afr_heal.specs.Requests.{area_or, next_area, read_in}
use Rattle.afr_heal.specs.Standing.{Ending, First, Going, Healing, Looking, Parting, Standing, Viewing, Working}
use Rattle.afr_lines.specs.declared.answer.Told.{Told}
use Rattle.afr_lines.specs.declared.request.Area.{Area}
use Rattle.afr_lines.specs.declared.request.Request.{Request}
use Rattle.afr_lines.specs.declared.request.Request.TheVariants.{List, Lock, Look, Mend, Pre, ReadAttrs, ReadBytes, Settle, Unlock}
use Rattle.afr_model_moves.specs.Note.{put, view_of}
use Rattle.afr_model_moves.specs.Past.{is_gone}
use Rattle.afr_model_moves.specs.Register.{Exact, area_kind, is_opening, len_of, piece_area, whole_area}
use Rattle.afr_model_moves.specs.Rules.{Register as LawRegister, busy, heal_area, is_area}
use Rattle.afr_object.specs.declared.entry.View.{View}
use Rattle.afr_lines.specs.declared.lock.Domain.TheVariants.{Heal, Work}
use Rattle.afr_lines.specs.declared.answer.Told.TheVariants as as_told
use Rattle.afr_model_moves.specs.Rules as weak

-- ---- the kind of the area
whole_kind : (g : ℕ) (kind : Kind) → kind ≡ area_kind (whole_area g kind)
whole_kind g Bytes = refl
whole_kind g Attrs = refl
whole_kind g Names = refl

now_kind : (kind : Kind) (g : ℕ) (area : Option Area) → ((a : Area) → area ≡ Some a → kind ≡ area_kind a) → kind ≡ area_kind (area_or area (whole_area g kind))
now_kind kind g None h = whole_kind g kind
now_kind kind g (Some a) h = h a refl

piece_kind : (g upto len : ℕ) → nat_lt len (2 ^ 63) ≡ true → (f : Bool) → nat_lt upto len ≡ f → Bytes ≡ area_kind (if f then piece_area g upto else whole_area g Bytes)
piece_kind g upto len h true e = let low : nat_lt upto (2 ^ 63) ≡ true = below_it upto len (2 ^ 63) e h in rw low refl
  where
    below_it : (a b c : ℕ) → nat_lt a b ≡ true → nat_lt b c ≡ true → nat_lt a c ≡ true
    below_it a b c e h = grind (arith, nat_tests, e, h)
piece_kind g upto len h false e = refl

module _ (n : ℕ) (keeps : ℕ → Kind → Bool) (r : Exact) (s : ℕ) (g : Gfid) (kind : Kind) (named : IsNamed kind r) where
  -- a Work lock is of the heal's kind
  abbrev LocksKind : NextOfHeal → Type 0
  LocksKind next = (b : ℕ) (a : Area) → next ≡ Ask b (Lock Work a) → kind ≡ area_kind a

  now_lock : (c : ℕ) → LocksKind (Ask c (Lock Work (area_or r.law.area (whole_area g.0 kind))))
  now_lock c b a e = let is : area_or r.law.area (whole_area g.0 kind) ≡ a = cc e in now_kind kind g.0 r.law.area named.named ∙ ap area_kind is

  locks_kind : 0 < n → Standing n keeps r s g kind → LocksKind (next_of n keeps r s g kind)
  locks_kind some (First k) = first_elim n keeps r s g kind k LocksKind (λ b a e. absurd (cc e))
  locks_kind some (Healing k) = heal_elim n keeps r s g kind k LocksKind (λ c l t b a e. absurd (cc e)) (λ h c l t. now_lock c)
  locks_kind some (Working k) = lock_elim n keeps r s g kind LocksKind k.whole k.step (λ c l t. now_lock c) (λ o b a e. absurd (cc e))
  locks_kind some (Parting k) = lock_elim n keeps r s g kind LocksKind k.whole k.step (λ c l t. now_lock c) (λ o b a e. absurd (cc e))
  locks_kind some (Looking k) = look_elim n keeps r s g kind LocksKind k.whole k.step (rw k.opening k.more) (λ c l t b a e. absurd (cc e))
  locks_kind some (Viewing k) = look_elim n keeps r s g kind LocksKind k.whole k.step (looks_later n keeps r s g kind k.part k.more) (λ c l t b a e. absurd (cc e))
  locks_kind some (Ending k) = broken_elim n keeps r s g kind LocksKind k.broken (λ c l h b a e. absurd (cc e)) (λ none c l h b a e. absurd (cc e)) (λ none off b a e. absurd (cc e))
  locks_kind some (Going k) = after_elim n keeps r s g kind k LocksKind (λ c l t. reads kind c) (λ o c l t b a e. absurd (cc e)) (λ o c l t b a e. absurd (cc e)) (λ o c l t b a e. absurd (cc e))
      (λ o c l t b a e. absurd (cc e)) (λ o u p c l t. part p c) (λ o u p c l t b a e. absurd (cc e)) (λ u h b a e. absurd (cc e))
    where
      reads : (kind' : Kind) (c b : ℕ) (a : Area) → Ask c (read_in r g kind') ≡ Ask b (Lock Work a) → kind ≡ area_kind a
      reads Bytes c b a e = absurd (cc e)
      reads Attrs c b a e = absurd (cc e)
      reads Names c b a e = absurd (cc e)

      bytes_is : (kind : Kind) → has_part kind r.part ≡ true → kind ≡ Bytes
      bytes_is Bytes h = refl
      bytes_is Attrs h = absurd (cc h)
      bytes_is Names h = absurd (cc h)

      part : has_part kind r.part ≡ true → (c : ℕ) → LocksKind (Ask c (lock_next r s g c))
      part p c b a e =
          let is : next_area r s g ≡ a = cc e in
          bytes_is kind p ∙ piece_kind g.0 r.upto (len_of (r.first_views s)) (named.short s) (nat_lt r.upto (len_of (r.first_views s))) refl ∙ ap area_kind is

-- what a request leaves of the area
module _ (n : ℕ) (kind : Kind) (law : LawRegister) (b : ℕ) (named : (a : Area) → law.area ≡ Some a → kind ≡ area_kind a) where
  abbrev KindOf : LawRegister → Type 0
  KindOf law = (a : Area) → law.area ≡ Some a → kind ≡ area_kind a

  dropped_kind : (gone : Bool) (q : LawRegister) → KindOf q → KindOf (weak.dropping gone b q)
  dropped_kind true q h = h
  dropped_kind false q h = h

  own_kind : (area : Area) → kind ≡ area_kind area → (a : Area) → Some area ≡ Some a → kind ≡ area_kind a
  own_kind area h a e = let is : area ≡ a = cc e in h ∙ ap area_kind is

  locked_kind : (area : Area) → kind ≡ area_kind area → (w own : Bool) → KindOf (locking_by w own law area)
  locked_kind area h true own = named
  locked_kind area h false own = own_kind area h

  granted_kind : (area : Area) → kind ≡ area_kind area → (w own : Bool) → KindOf (granting_by w own law area b)
  granted_kind area h true true = named
  granted_kind area h true false = named
  granted_kind area h false own = own_kind area h

  released_kind : (f : Bool) (c h second : ℕ → Bool) → KindOf (if f then record law { closed = c; held = h } else record law { second_held = second })
  released_kind true c h second = named
  released_kind false c h second = named

  unlocked_kind : (f : Bool) (c : ℕ → Bool) → KindOf (if f then record law { closed = c } else law)
  unlocked_kind true c = named
  unlocked_kind false c = named

  viewed_kind : (f : Bool) (v w : ℕ → Option View) → KindOf (if f then record law { view = v; first = w } else law)
  viewed_kind true v w = named
  viewed_kind false v w = named

  seen_kind : (f : Bool) (s : ℕ → Bool) → KindOf (if f then record law { seen = s } else law)
  seen_kind true s = named
  seen_kind false s = named

  looking_kind : (heal : Bool) (p q : LawRegister) → KindOf p → KindOf q → KindOf (if heal then p else q)
  looking_kind true p q h k = h
  looking_kind false p q h k = k

  asked_kind : (request : Request) (told : Told) → fits request told ≡ true → ((a : Area) → request ≡ Lock Work a → kind ≡ area_kind a) → KindOf (weak.note_ask n law b request told)
  asked_kind (Lock Work area) as_told.Granted f lock = granted_kind area (lock area refl) (busy n law) (is_area law.area area)
  asked_kind (Lock Work area) (as_told.Held owner) f lock = locked_kind area (lock area refl) (busy n law) (is_area law.area area)
  asked_kind (Lock Work area) as_told.Failed f lock = locked_kind area (lock area refl) (busy n law) (is_area law.area area)
  asked_kind (Lock Work area) as_told.NotConnected f lock = locked_kind area (lock area refl) (busy n law) (is_area law.area area)
  asked_kind (Lock Work area) _ f lock = absurd (cc f)
  asked_kind (Lock Heal area) as_told.Granted f lock = named
  asked_kind (Lock Heal area) _ f lock = named
  asked_kind (Unlock Work area) as_told.Done f lock = released_kind (is_area law.area area) _ _ _
  asked_kind (Unlock Work area) as_told.Failed f lock = unlocked_kind (is_area law.area area) _
  asked_kind (Unlock Work area) as_told.NotConnected f lock = unlocked_kind (is_area law.area area) _
  asked_kind (Unlock Work area) _ f lock = absurd (cc f)
  asked_kind (Unlock Heal area) as_told.Done f lock = named
  asked_kind (Unlock Heal area) _ f lock = named
  asked_kind (Look h) (as_told.Seen view) f lock =
      looking_kind law.heal (weak.viewed law b h.0 view) (weak.looked law b)
      (viewed_kind (not (law.number == 0) && law.seen b && not (law.closed b) && (h.0 == law.object) && law.healing b && not (law.settled b)) _ _) (seen_kind ((law.number == 0) && law.held b) _)
  asked_kind (Look h) as_told.NoObject f lock = named
  asked_kind (Look h) as_told.Failed f lock = named
  asked_kind (Look h) as_told.NotConnected f lock = named
  asked_kind (Look h) _ f lock = absurd (cc f)
  asked_kind (Pre h what) as_told.Done f lock = named
  asked_kind (Pre h what) _ f lock = named
  asked_kind (Mend repair) as_told.Done f lock = named
  asked_kind (Mend repair) _ f lock = named
  asked_kind (Settle h what less) as_told.Done f lock = named
  asked_kind (Settle h what less) _ f lock = named
  asked_kind (ReadBytes h at len) told f lock = named
  asked_kind (ReadAttrs h) told f lock = named
  asked_kind (List h) told f lock = named
  asked_kind _ as_told.Failed f lock = named
  asked_kind _ as_told.NotConnected f lock = named
  asked_kind _ _ f lock = absurd (cc f)

-- what it leaves of the first views
module _ (n : ℕ) (keeps : ℕ → Kind → Bool) (q : Exact) (t b : ℕ) (short : (x : ℕ) → nat_lt (len_of (q.first_views x)) (2 ^ 63) ≡ true) where
  abbrev inside : Exact
  inside = record q { law = record q.law { heal = true } }

  abbrev outside : Exact
  outside = record q { law = record q.law { heal = false } }

  shown_short : (told : Told) → in_range told ≡ true → nat_lt (len_of (view_of told)) (2 ^ 63) ≡ true
  shown_short (as_told.Seen view) h = word view.len h
    where
      word : (len : ℕ) → nat_lt len (2 ^ 32) ≡ true → nat_lt len (2 ^ 63) ≡ true
      word len h = grind (arith, nat_tests, h)
  shown_short _ h = refl

  put_short : (f : Bool) (told : Told) → in_range told ≡ true → (x : ℕ) → nat_lt (len_of ((if f then put q.first_views b (view_of told) else q.first_views) x)) (2 ^ 63) ≡ true
  put_short false told h x = short x
  put_short true told h x = here (x == b)
    where
      here : (e : Bool) → nat_lt (len_of (if e then view_of told else q.first_views x)) (2 ^ 63) ≡ true
      here true = shown_short told h
      here false = short x

  asked_short : (request : Request) (told : Told) → in_range told ≡ true → (x : ℕ) → nat_lt (len_of ((asked_for n keeps inside t b request told).first_views x)) (2 ^ 63) ≡ true
  asked_short (Look g) told h x = put_short (is_opening q.part) told h x
  asked_short (Lock Heal area) told h x = short x
  asked_short (Lock Work area) told h x = short x
  asked_short (Unlock Heal area) told h x = short x
  asked_short (Unlock Work area) told h x = short x
  asked_short _ told h x = short x

  outside_short : (area : Area) (told : Told) → (x : ℕ) → nat_lt (len_of ((asked_for n keeps outside t b (Lock Heal area) told).first_views x)) (2 ^ 63) ≡ true
  outside_short area told x = short x

-- ---- an answer keeps the kind
pub stays_named : StaysNamed
stays_named n keeps r s g kind some few standing named t b request told next f range = record {
  named = dropped_kind n kind r.law b named.named (is_gone told) (weak.note_ask n r.law b request told)
      (asked_kind n kind r.law b named.named request told f (λ a e. locks_kind n keeps r s g kind named some standing b a (next ∙ ap (λ (request : Request). Ask b request) e)));
  short = shorts standing;
}
  where
    inside_is : r.law.heal ≡ true → r ≡ record r { law = record r.law { heal = true } }
    inside_is h = λ i. record r { law = record r.law { heal = h i } }

    outside_is : r.law.heal ≡ false → r ≡ record r { law = record r.law { heal = false } }
    outside_is h = λ i. record r { law = record r.law { heal = h i } }

    in_heal : r.law.heal ≡ true → (x : ℕ) → nat_lt (len_of ((asked_for n keeps r t b request told).first_views x)) (2 ^ 63) ≡ true
    in_heal h x = subst (λ (r : Exact). nat_lt (len_of ((asked_for n keeps r t b request told).first_views x)) (2 ^ 63) ≡ true) (sym (inside_is h)) (asked_short n keeps r t b named.short request told range x)

    shorts : Standing n keeps r s g kind → (x : ℕ) → nat_lt (len_of ((asked_for n keeps r t b request told).first_views x)) (2 ^ 63) ≡ true
    shorts (First k) x =
        let is : Ask b request ≡ Ask 0 (Lock Heal (heal_area g.0)) = first_elim n keeps r s g kind k (λ (next : NextOfHeal). next ≡ Ask b request → Ask b request ≡ Ask 0 (Lock Heal (heal_area g.0))) (λ e. sym e) next in
        let what : request ≡ Lock Heal (heal_area g.0) = cc is in
        subst (λ (request : Request). nat_lt (len_of ((asked_for n keeps r t b request told).first_views x)) (2 ^ 63) ≡ true) (sym what)
        (subst (λ (r : Exact). nat_lt (len_of ((asked_for n keeps r t b (Lock Heal (heal_area g.0)) told).first_views x)) (2 ^ 63) ≡ true) (sym (outside_is k.outside)) (outside_short n keeps r t b named.short (heal_area g.0) told x))
    shorts (Healing k) x = in_heal k.base.inside x
    shorts (Working k) x = in_heal k.base.inside x
    shorts (Looking k) x = in_heal k.base.inside x
    shorts (Parting k) x = in_heal k.base.inside x
    shorts (Viewing k) x = in_heal k.base.inside x
    shorts (Going k) x = in_heal k.base.inside x
    shorts (Ending k) x = in_heal k.base.inside x
