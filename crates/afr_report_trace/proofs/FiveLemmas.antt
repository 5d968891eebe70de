-- The next of the five bricks, where it is in a set and where it isn't.
use Rattle.std.proofs.Common.{◌≡◌, ℕ, zero, suc, ◌+◌, ◌<◌, Bool, true, false, List, ◌∷◌, ◌++◌, drop, filter, refl, sym, ap, ◌∙◌, append_assoc, arith}
use Rattle.std.specs.Prelude.{decimal}
use Rattle.afr_base.specs.Bricks.{all_five}
use Rattle.afr_report_trace.specs.Numbers.{comma, commas_from}

next_of_five : (b : ℕ) → b < 5 → drop b all_five ≡ b ∷ drop (b + 1) all_five
next_of_five zero l = refl
next_of_five (suc zero) l = refl
next_of_five (suc (suc zero)) l = refl
next_of_five (suc (suc (suc zero))) l = refl
next_of_five (suc (suc (suc (suc zero)))) l = refl
next_of_five (suc (suc (suc (suc (suc b))))) l = absurd (omega arith)

there : (p : ℕ → Bool) (first : Bool) (b : ℕ) → b < 5 → p b ≡ true
    → commas_from first (filter p (drop b all_five)) ≡ comma first ++ decimal b ++ commas_from false (filter p (drop (b + 1) all_five))
there p first b small e = rw (next_of_five b small, e) refl

-- it is in the set: its number was added, and the rest follows it
pub added : (p : ℕ → Bool) (first : Bool) (b : ℕ) (before after whole : List ℕ) → b < 5 → p b ≡ true → after ≡ before ++ (comma first ++ decimal b)
    → before ++ commas_from first (filter p (drop b all_five)) ≡ whole → after ++ commas_from false (filter p (drop (b + 1) all_five)) ≡ whole
added p first b before after whole small e new h =
    rw new (append_assoc before (comma first ++ decimal b) (commas_from false (filter p (drop (b + 1) all_five))) ∙ ap (λ (t : List ℕ). before ++ t) (sym (there p first b small e)) ∙ h)

-- it isn't: nothing was added
pub passed : (p : ℕ → Bool) (first : Bool) (b : ℕ) (before whole : List ℕ) → b < 5 → p b ≡ false
    → before ++ commas_from first (filter p (drop b all_five)) ≡ whole → before ++ commas_from first (filter p (drop (b + 1) all_five)) ≡ whole
passed p first b before whole small e h = rw (next_of_five b small, e) at h
