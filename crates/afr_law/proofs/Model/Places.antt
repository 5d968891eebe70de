-- Places past the last that a range locks hold nothing, and are current.
use Rattle.std.proofs.Common.{◌≡◌, ℕ, suc, zero, ◌+◌, ◌<◌, ◌≤◌, ◌^◌, Bool, true, false, ◌&&◌, ◌⊎◌, inl, inr, refl, sym, ◌∙◌, ap, subst, arith, List, [], length, Option, None, Some, ◌==◌, true≢false}
use Rattle.std.specs.Prelude.{nat_le, nat_lt, option_and_then}
use Rattle.std.proofs.lemmas.Bool.Decides.{nat_tests}
use Rattle.std.proofs.lemmas.List.{get_or_past}
use Rattle.afr_base.specs.declared.ids.ActorId.{ActorId}
use Rattle.afr_base.specs.declared.ids.Gfid.{Gfid}
use Rattle.afr_object.specs.Tables.{copy_at}
use Rattle.afr_object.specs.declared.change.Change.{Change}
use Rattle.afr_object.specs.declared.change.Change.TheVariants.{Write, Cut, SetAttr, Make, Remove}
use Rattle.afr_object.specs.Object.{Object}
use Rattle.afr_lines.specs.Log.{from_oldest, change_of, change_at}
use Rattle.afr_lines.specs.declared.line.Line.{Line}
use Rattle.afr_lines.specs.declared.line.Line.TheVariants.{Ask, Begin, HealBegin, End, HealEnd, Event}
use Rattle.afr_lines.specs.declared.reply.Reply.{Reply}
use Rattle.afr_lines.specs.declared.reply.Reply.TheVariants.{Ok}
use Rattle.afr_plan.specs.declared.plan.Plan.{Plan}
use Rattle.afr_model.specs.Attempts.{IsAcknowledged, first_reply, touches_if, Opening, Left, IsCurrent}
use Rattle.afr_model.specs.Cells.{Cell, Byte, IsByte, value_if, value_of, touches, leaves}
use Rattle.afr_model.specs.Tables.{holds}
use Rattle.afr_law.proofs.Model.Cells.{below_length}
use Rattle.afr_law.proofs.Model.SoundLog.{LawfulBelow, files_below, all_sound, ends_at}
use Rattle.afr_law_tables.specs.Ends.{EndsInTime}

-- an acknowledged attempt on the cell
abbrev pub IsAckedOn : List Line → Cell → ℕ → Type 0
IsAckedOn log cell k = IsAcknowledged log k × (touches_if (change_at k log) cell ≡ true)

acked_or_not : (log : List Line) (cell : Cell) (k : ℕ) → IsAckedOn log cell k ⊎ (IsAckedOn log cell k → ⊥)
acked_or_not log cell k = go (from_oldest k log) refl
  where
    replied : (a : ActorId) (c : Change) → from_oldest k log ≡ Some (Begin a c) → (reply : Option Reply) → first_reply a.0 k log ≡ reply → IsAckedOn log cell k ⊎ (IsAckedOn log cell k → ⊥)
    replied a c e (Some (Ok good)) f = touched (touches_if (change_at k log) cell) refl
      where
        touched : (hit : Bool) → touches_if (change_at k log) cell ≡ hit → IsAckedOn log cell k ⊎ (IsAckedOn log cell k → ⊥)
        touched true t = inl (record { actor = a; change = c; begun = e; good = good; replied = f }, t)
        touched false t = inr (λ w. true≢false (sym w.1 ∙ t))
    replied a c e reply f = inr (λ w.
        let same : w.0.actor ≡ a = cc (e, w.0.begun) in
        let r : first_reply a.0 k log ≡ Some (Ok w.0.good) = subst (λ (x : ActorId). first_reply x.0 k log ≡ Some (Ok w.0.good)) same w.0.replied in
        absurd (cc (f, r)))

    go : (line : Option Line) → from_oldest k log ≡ line → IsAckedOn log cell k ⊎ (IsAckedOn log cell k → ⊥)
    go (Some (Begin a c)) e = replied a c e (first_reply a.0 k log) refl
    go None e = inr (λ w. absurd (cc (e, w.0.begun)))
    go (Some (Ask a b r told took)) e = inr (λ w. absurd (cc (e, w.0.begun)))
    go (Some (HealBegin a g kind)) e = inr (λ w. absurd (cc (e, w.0.begun)))
    go (Some (End a reply)) e = inr (λ w. absurd (cc (e, w.0.begun)))
    go (Some (HealEnd a g kind reply)) e = inr (λ w. absurd (cc (e, w.0.begun)))
    go (Some (Event x)) e = inr (λ w. absurd (cc (e, w.0.begun)))

-- none of the first n attempts is acknowledged on the cell, or one is the last
newest : (log : List Line) (cell : Cell) (n : ℕ) → ((k : ℕ) → k < n → IsAckedOn log cell k → ⊥) ⊎ ((q : ℕ) × IsAckedOn log cell q × ((k : ℕ) → k < n → IsAckedOn log cell k → k ≤ q))
newest log cell zero = inl (λ k low w. absurd (omega (arith, low)))
newest log cell (suc n) = go (acked_or_not log cell n) (newest log cell n)
  where
    earlier : (k : ℕ) → k < suc n → (k < n) ⊎ (k ≡ n)
    earlier k low = grind arith

    go : IsAckedOn log cell n ⊎ (IsAckedOn log cell n → ⊥) → ((k : ℕ) → k < n → IsAckedOn log cell k → ⊥) ⊎ ((q : ℕ) × IsAckedOn log cell q × ((k : ℕ) → k < n → IsAckedOn log cell k → k ≤ q))
        → ((k : ℕ) → k < suc n → IsAckedOn log cell k → ⊥) ⊎ ((q : ℕ) × IsAckedOn log cell q × ((k : ℕ) → k < suc n → IsAckedOn log cell k → k ≤ q))
    go (inl here) rest = inr (n, here, λ k low w. omega (arith, low))
    go (inr gone) (inl none) = inl (λ k low w. elim (earlier k low) [ inl less ↦ none k less w | inr same ↦ gone (subst (IsAckedOn log cell) same w) ])
    go (inr gone) (inr some) = inr (some.0, some.1, λ k low w. elim (earlier k low) [ inl less ↦ some.2 k less w | inr same ↦ absurd (gone (subst (IsAckedOn log cell) same w)) ])

far : (i : ℕ) → nat_lt i (2 ^ 63) ≡ false → 2 ^ 63 ≤ i
far i e = grind (arith, nat_tests)

-- nothing stands there
pub nothing_far : (p : Plan) (n : ℕ) (log : List Line) → LawfulBelow p n log → (b : ℕ) (g : Gfid) (i : ℕ) → nat_lt i (2 ^ 63) ≡ false → value_of p log b (Byte g i) ≡ IsByte 0
nothing_far p n log lawful b g i e = go (copy_at g (holds p log b)) refl
  where
    go : (o : Option Object) → copy_at g (holds p log b) ≡ o → value_if (Byte g i) o ≡ IsByte 0
    go None k = refl
    go (Some o) k = ap IsByte (get_or_past o.content i 0 (omega (arith, ((all_sound p n log lawful).0 b g o k).2, far i e)))

-- and a change that ends in time leaves nothing there
pub leaves_nothing : (c : Change) (g : Gfid) (i : ℕ) → nat_lt i (2 ^ 63) ≡ false → EndsInTime c → touches c (Byte g i) ≡ true → leaves c (Byte g i) ≡ IsByte 0
leaves_nothing (Write h at bytes) g i e ends hit = absurd (omega (arith, far i e, ends, inside (h.0 == g.0) at (length bytes) i hit))
  where
    inside : (s : Bool) (at n i : ℕ) → (s && (nat_le at i && nat_lt i (at + n))) ≡ true → i < at + n
    inside s at n i k = grind (arith, nat_tests)
leaves_nothing (Cut h len) g i e ends hit = refl
leaves_nothing (SetAttr h key value) g i e ends hit = absurd (true≢false (sym hit))
leaves_nothing (Make dir name h what) g i e ends hit = absurd (true≢false (sym hit))
leaves_nothing (Remove dir name what) g i e ends hit = absurd (true≢false (sym hit))

-- such a place is current
pub far_current : (p : Plan) (n : ℕ) (log : List Line) → LawfulBelow p n log → (b : ℕ) (g : Gfid) (i : ℕ) → nat_lt i (2 ^ 63) ≡ false → IsCurrent p log b (Byte g i)
far_current p n log lawful b g i e = elim (newest log (Byte g i) (length log)) [
  | inl none ↦ Opening (nothing_far p n log lawful b g i e ∙ sym (nothing_far p n [] (files_below p n log lawful) b g i e)) (λ k w hit. none k (below_length log k (Begin w.actor w.change) w.begun) (w, hit))
  | inr some ↦ last some
]
  where
    last : ((q : ℕ) × IsAckedOn log (Byte g i) q × ((k : ℕ) → k < length log → IsAckedOn log (Byte g i) k → k ≤ q)) → IsCurrent p log b (Byte g i)
    last w =
        let at : change_at w.0 log ≡ Some w.1.0.change = ap (option_and_then change_of) w.1.0.begun in
        let hit : touches w.1.0.change (Byte g i) ≡ true = ap (λ (c : Option Change). touches_if c (Byte g i)) (sym at) ∙ w.1.1 in
        Left w.0 w.1.0.change at hit (nothing_far p n log lawful b g i e ∙ sym (leaves_nothing w.1.0.change g i e (ends_at p n log lawful w.0 w.1.0.change at).0 hit))
        (λ k v t. w.2 k (below_length log k (Begin v.actor v.change) v.begun) (v, t))
