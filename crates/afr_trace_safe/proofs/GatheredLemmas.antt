-- The attempts on an object, gathered from the newest line on.
use Rattle.std.proofs.Common.{◌≡◌, ◌∙◌, ℕ, zero, suc, ◌+◌, ◌-◌, ◌<◌, ◌≤◌, Bool, true, false, List, [], ◌∷◌, ◌++◌, refl, sym, ap, arith, append-nil, append_assoc, Some, slice_get, if◌then◌else◌, ◌⊎◌}
use Rattle.std.proofs.lemmas.Option.{same_Some}
use Rattle.afr_base.specs.declared.ids.Gfid.{Gfid}
use Rattle.afr_lines.specs.Log.{change_at}
use Rattle.afr_lines.specs.declared.line.Line.{Line}
use Rattle.afr_trace_safe.specs.Attempts.{attempt_at, attempt_by, attempts_on, is_on}
use Rattle.afr_trace_safe.specs.declared.attempts.Attempt.{Attempt}

-- one position more
pub gathers : (log : List Line) (g : Gfid) (n i : ℕ) (was now : List Attempt) → i < n → now ≡ was ++ attempt_at log g (n - 1 - i) → was ++ attempts_on log g (n - i) ≡ attempts_on log g n
    → now ++ attempts_on log g (n - (i + 1)) ≡ attempts_on log g n
gathers log g n i was now low e h =
    let before : n - i ≡ suc (n - 1 - i) = omega arith in
    let after : n - (i + 1) ≡ n - 1 - i = omega arith in
    let more : was ++ attempts_on log g (suc (n - 1 - i)) ≡ attempts_on log g n = rw before at h in
    rw (e, after, append_assoc) more

pub gathered : (log : List Line) (g : Gfid) (n i : ℕ) (xs : List Attempt) → n ≤ i → xs ++ attempts_on log g (n - i) ≡ attempts_on log g n → xs ≡ attempts_on log g n
gathered log g n i xs high h =
    let none : n - i ≡ 0 = omega arith in
    let all : xs ++ attempts_on log g 0 ≡ attempts_on log g n = rw none at h in
    sym (append-nil xs) ∙ all

-- each of them is on the object
pub listed_on : (log : List Line) (g : Gfid) (n j : ℕ) (x : Attempt) → slice_get (attempts_on log g n) j ≡ Some x → is_on g (change_at x.position log) ≡ true
listed_on log g zero j x e = absurd (cc)
listed_on log g (suc k) j x e = by (is_on g (change_at k log)) refl j e (λ i f. listed_on log g k i x f)
  where
    by : (on : Bool) → is_on g (change_at k log) ≡ on → (j : ℕ) → slice_get ((if on then attempt_by log k ∷ [] else []) ++ attempts_on log g k) j ≡ Some x
        → ((i : ℕ) → slice_get (attempts_on log g k) i ≡ Some x → is_on g (change_at x.position log) ≡ true) → is_on g (change_at x.position log) ≡ true
    by true h zero e more = let same : attempt_by log k ≡ x = same_Some _ x e in ap (λ (y : Attempt). is_on g (change_at y.position log)) (sym same) ∙ h
    by true h (suc j) e more = more j e
    by false h j e more = more j e
