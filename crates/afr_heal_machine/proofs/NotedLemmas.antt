-- What an answer leaves of the looks and of the reads in the program's register.
use Rattle.std.proofs.Common.{[], ◌||◌, ◌≡◌, ◌∙◌, ℕ, ◌<◌, ◌≤◌, Bool, List, Option, None, arith, false, if◌then◌else◌, length, refl, slice_set, true, inl, inr, subst, sym}
use Rattle.std.proofs.lemmas.Bool.Decides.{eqb_tells}
use Rattle.std.proofs.lemmas.List.{length-set}
use Rattle.afr_base.specs.declared.ids.Kind.{Kind}
use Rattle.afr_base.specs.declared.ids.Kind.TheVariants as kind_of
use Rattle.afr_choice.specs.Looks.{no_looks, with_look, without_look}
use Rattle.afr_choice.specs.LooksLemmas.{length_after_look, length_after_loss, view_after_look, view_after_loss, view_after_other_look, view_after_other_loss}
use Rattle.afr_choice.specs.declared.looked.Looked.{Looked}
use Rattle.afr_discipline.specs.Notes.{broken_by, counts, is_working, noted_ask, noted_inside, noted_outside, shown, shown_if, stayed, still_possible}
use Rattle.afr_discipline.specs.Stands.{HasFive, heal_part_of, views_of}
use Rattle.afr_discipline.specs.Turns.{marks_in}
use Rattle.afr_discipline.specs.declared.register.Register.{Register}
use Rattle.afr_discipline.specs.declared.register.Step.TheVariants.{Open}
use Rattle.afr_lines.specs.declared.answer.Told.{Told}
use Rattle.afr_lines.specs.declared.answer.Told.TheVariants.{Seen}
use Rattle.afr_lines.specs.declared.request.Request.{Request}
use Rattle.afr_lines.specs.declared.request.Request.TheVariants.{List as ListNames, Lock, Look, ReadAttrs, ReadBytes, Unlock}
use Rattle.afr_model_moves.specs.Note.{answers, given, view_of}
use Rattle.afr_model_moves.specs.Register.{is_opening, len_of}
use Rattle.afr_object.specs.declared.entry.View.{View}
use Rattle.afr_lines.specs.declared.lock.Domain.TheVariants.{Heal, Work}
use Rattle.afr_heal_machine.specs.Healing.{IsTellable}

-- ---- a fact of what was seen holds after an answer, if it does after a look
module _ (p : Register) (t b : ℕ) (told : Told) (P : Looked → Type 0) where
  if_shown : (c : Bool) (looked : Looked) → P looked → P (shown looked b told) → P (shown_if c looked b told)
  if_shown true looked now after = after
  if_shown false looked now after = now

  pub seen_inside : (request : Request) → P p.seen → P (shown p.seen b told) → P (noted_inside p t b request told).seen
  seen_inside (Look g) now after = if_shown (is_opening (heal_part_of p.part)) p.seen now after
  seen_inside (Lock Heal area) now after = now
  seen_inside (Lock Work area) now after = now
  seen_inside (Unlock Heal area) now after = now
  seen_inside (Unlock Work area) now after = now
  seen_inside request now after = now

  seen_outside : (request : Request) → P p.seen → P (noted_outside p b request told).seen
  seen_outside (Lock Work area) now = go (is_working p)
    where
      go : (c : Bool) → P (if c then stayed p else record p { step = Open; asked = []; unlocked = false; looked = no_looks }).seen
      go true = now
      go false = now
  seen_outside (Lock Heal area) now = now
  seen_outside (Unlock Work area) now = now
  seen_outside (Unlock Heal area) now = now
  seen_outside request now = now

  looked_inside : (request : Request) → P p.looked → P (shown p.looked b told) → P (noted_inside p t b request told).looked
  looked_inside (Look g) now after = after
  looked_inside (Lock Heal area) now after = now
  looked_inside (Lock Work area) now after = now
  looked_inside (Unlock Heal area) now after = now
  looked_inside (Unlock Work area) now after = now
  looked_inside request now after = now

  looked_outside : (request : Request) → P p.looked → P no_looks → P (shown p.looked b told) → P (noted_outside p b request told).looked
  looked_outside (Lock Work area) now none after = go (is_working p)
    where
      go : (c : Bool) → P (if c then stayed p else record p { step = Open; asked = []; unlocked = false; looked = no_looks }).looked
      go true = now
      go false = none
  looked_outside (Lock Heal area) now none after = now
  looked_outside (Unlock Work area) now none after = now
  looked_outside (Unlock Heal area) now none after = now
  looked_outside (Look g) now none after = if_shown (counts p b g.0) p.looked now after
  looked_outside request now none after = now

  pub seen_after : (request : Request) → P p.seen → P (shown p.seen b told) → P (noted_ask p t b request told).seen
  seen_after request now after = go p.inside
    where
      go : (inside : Bool) → P (if inside then record (noted_inside p t b request told) { possible = still_possible p b request; broken = p.broken || broken_by p request told } else noted_outside p b request told).seen
      go true = seen_inside request now after
      go false = seen_outside request now

  pub looked_after : (request : Request) → P p.looked → P no_looks → P (shown p.looked b told) → P (noted_ask p t b request told).looked
  looked_after request now none after = go p.inside
    where
      go : (inside : Bool) → P (if inside then record (noted_inside p t b request told) { possible = still_possible p b request; broken = p.broken || broken_by p request told } else noted_outside p b request told).looked
      go true = looked_inside request now after
      go false = looked_outside request now none after

module _ (p : Register) (t b : ℕ) (told : Told) (P : List (Option ℕ) → Type 0) where
  reads_inside : (request : Request) → P p.reads → P (slice_set p.reads b (given told t)) → P (noted_inside p t b request told).reads
  reads_inside (ReadBytes g at len) now after = after
  reads_inside (ReadAttrs g) now after = after
  reads_inside (ListNames g) now after = after
  reads_inside (Lock Heal area) now after = now
  reads_inside (Lock Work area) now after = now
  reads_inside (Unlock Heal area) now after = now
  reads_inside (Unlock Work area) now after = now
  reads_inside request now after = now

  reads_outside : (request : Request) → P p.reads → P (noted_outside p b request told).reads
  reads_outside (Lock Work area) now = go (is_working p)
    where
      go : (c : Bool) → P (if c then stayed p else record p { step = Open; asked = []; unlocked = false; looked = no_looks }).reads
      go true = now
      go false = now
  reads_outside (Lock Heal area) now = now
  reads_outside (Unlock Work area) now = now
  reads_outside (Unlock Heal area) now = now
  reads_outside request now = now

  pub reads_after : (request : Request) → P p.reads → P (slice_set p.reads b (given told t)) → P (noted_ask p t b request told).reads
  reads_after request now after = go p.inside
    where
      go : (inside : Bool) → P (if inside then record (noted_inside p t b request told) { possible = still_possible p b request; broken = p.broken || broken_by p request told } else noted_outside p b request told).reads
      go true = reads_inside request now after
      go false = reads_outside request now

-- ---- five places
shown_five : (looked : Looked) (b : ℕ) (told : Told) → length looked.views ≡ 5 → length (shown looked b told).views ≡ 5
shown_five looked b told h = go (answers told)
  where
    go : (c : Bool) → length (if c then with_look b (view_of told) looked else without_look b looked).views ≡ 5
    go true = length_after_look b (view_of told) looked ∙ h
    go false = length_after_loss b looked ∙ h

pub five_after : (p : Register) (t b : ℕ) (request : Request) (told : Told) → HasFive p → HasFive (noted_ask p t b request told)
five_after p t b request told k = record {
  looked = looked_after p t b told (λ looked. length looked.views ≡ 5) request k.looked refl (shown_five p.looked b told k.looked);
  seen = seen_after p t b told (λ looked. length looked.views ≡ 5) request k.seen (shown_five p.seen b told k.seen);
  reads = reads_after p t b told (λ reads. length reads ≡ 5) request k.reads (length-set p.reads b (given told t) ∙ k.reads);
}

-- ---- a fact of each view that is seen
module _ (V : Option View → Type 0) (D : ℕ → Type 0) where
  of_look : (looked : Looked) (b : ℕ) (view : Option View) → length looked.views ≡ 5 → b < 5 → ((x : ℕ) → D x → V (views_of looked x)) → V view → (x : ℕ) → D x → V (views_of (with_look b view looked) x)
  of_look looked b view five small all here x d = elim (eqb_tells x b) [
    | inl w ↦ subst (λ (y : ℕ). V (views_of (with_look b view looked) y)) (sym w.1) (subst V (sym (view_after_look b view looked (rw five small))) here)
    | inr w ↦ subst V (sym (view_after_other_look b x view looked w.1)) (all x d)
  ]

  of_loss : (looked : Looked) (b : ℕ) → length looked.views ≡ 5 → b < 5 → ((x : ℕ) → D x → V (views_of looked x)) → V None → (x : ℕ) → D x → V (views_of (without_look b looked) x)
  of_loss looked b five small all here x d = elim (eqb_tells x b) [
    | inl w ↦ subst (λ (y : ℕ). V (views_of (without_look b looked) y)) (sym w.1) (subst V (sym (view_after_loss b looked (rw five small))) here)
    | inr w ↦ subst V (sym (view_after_other_loss b x looked w.1)) (all x d)
  ]

  of_shown : (looked : Looked) (b : ℕ) (told : Told) → length looked.views ≡ 5 → b < 5 → ((x : ℕ) → D x → V (views_of looked x)) → V None → V (view_of told) → (x : ℕ) → D x → V (views_of (shown looked b told) x)
  of_shown looked b told five small all none here = go (answers told)
    where
      go : (c : Bool) → (x : ℕ) → D x → V (views_of (if c then with_look b (view_of told) looked else without_look b looked) x)
      go true = of_look looked b (view_of told) five small all here
      go false = of_loss looked b five small all none

  -- a fact of each first view holds after an answer, if it does of what was told
  pub seen_views : (p : Register) (t b : ℕ) (request : Request) (told : Told) → HasFive p → b < 5 → ((x : ℕ) → D x → V (views_of p.seen x)) → V None → V (view_of told) → (x : ℕ) → D x → V (views_of (noted_ask p t b request told).seen x)
  seen_views p t b request told five small all none here = seen_after p t b told (λ seen. (x : ℕ) → D x → V (views_of seen x)) request all (of_shown p.seen b told five.seen small all none here)

-- ---- what a view that can be told shows
pub told_short : (told : Told) → IsTellable told → len_of (view_of told) ≤ 1048576
told_short (Seen view) k = k.len
told_short told k = omega arith

pub told_room : (kind : Kind) (told : Told) → IsTellable told → (marks_in kind (view_of told)).dirty < 4294967295
told_room kind_of.Bytes (Seen view) k = k.bytes
told_room kind_of.Attrs (Seen view) k = k.attrs
told_room kind_of.Names (Seen view) k = k.names
told_room kind told k = omega arith
