-- One healer among all, as the code finds it.
use Rattle.std.proofs.Common.{◌≡◌, ◌∙◌, ℕ, ◌-◌, ◌<◌, true, false, List, [], refl, ap, sym, subst, length, Some, slice_get, set, get_or, Bool, None, not, ◌≤◌, ◌&&◌, ◌||◌, arith, nat_le, nat_lt}
use Rattle.std.proofs.lemmas.Bool.Decides.{nat_tests}
use Rattle.std.specs.Prelude.{is_some}
use Rattle.std.proofs.lemmas.Option.{get_or_from_slice_get, slice_get-get_or}
use Rattle.afr_base.specs.declared.ids.BrickId.{BrickId}
use Rattle.afr_model.specs.Actors.{rounds_of}
use Rattle.afr_plan.specs.declared.plan.Plan.{Plan}
use Rattle.afr_healer.specs.Acting.{Readies}
use Rattle.afr_healer.specs.declared.healer.Healer.{Healer}
use Rattle.afr_volume.specs.Turning.{ReadiedHealerAt}

pub found_at : (l : List Healer) (i : ℕ) (x : Healer) → i < length l → x ≡ get_or l i x → slice_get l i ≡ Some x
found_at l i x small e = slice_get-get_or l i x small ∙ ap Some (sym e)

pub same_at : (l : List Healer) (i : ℕ) (x y : Healer) → i < length l → x ≡ get_or l i x → y ≡ get_or l i y → x ≡ y
same_at l i x y small e f = e ∙ get_or_from_slice_get l i y x (found_at l i y small f)

-- the rounds of a healer
pub rounds_are : (p : Plan) (a : ℕ) (rounds : List BrickId) → slice_get p.healers (a - 17) ≡ Some rounds → rounds_of p a ≡ rounds
rounds_are p a rounds h = get_or_from_slice_get p.healers (a - 17) rounds [] h

pub readied : (crawl : Bool) (p : Plan) (a : ℕ) (l : List Healer) (seen x z : Healer) (brick : BrickId) → a - 17 < length l → seen ≡ get_or l (a - 17) seen → x ≡ get_or l (a - 17) x → (seen.round ≡ None → slice_get (rounds_of p a) seen.ended ≡ Some brick)
    → Readies p.shape (not crawl) brick x z → ReadiedHealerAt crawl p a l (set l (a - 17) z)
readied crawl p a l seen x z brick small e f present r = record {
  before = x;
  after = z;
  was = found_at l (a - 17) x small f;
  brick = brick;
  present = subst (λ (y : Healer). y.round ≡ None → slice_get (rounds_of p a) y.ended ≡ Some brick) (same_at l (a - 17) seen x small e f) present;
  readies = r;
  set_is = refl;
}

-- whether it is done, as the code asks for it
above_first : (a : ℕ) → 17 ≤ a → nat_lt 0 (a - 17) ≡ nat_lt 17 a
above_first a low = by (nat_lt 17 a) refl
  where
    by : (flag : Bool) → nat_lt 17 a ≡ flag → nat_lt 0 (a - 17) ≡ flag
    by true e = grind (arith, nat_tests, e)
    by false e = grind (arith, nat_tests, e)

pub healer_ended : (crawl : Bool) (p : Plan) (a : ℕ) (l : List Healer) (seen x : Healer) (rounds : List BrickId) (many : ℕ) (tasked result : Bool) → 17 ≤ a → a - 17 < length l → seen ≡ get_or l (a - 17) seen → slice_get l (a - 17) ≡ Some x → slice_get p.healers (a - 17) ≡ Some rounds → many ≡ length rounds
    → tasked ≡ (crawl && (nat_lt 0 (a - 17) && is_some seen.round)) → result ≡ (seen.killed || (not tasked && nat_le many seen.ended)) → result ≡ (x.killed || (not (crawl && (nat_lt 17 a && is_some x.round)) && nat_le (length (rounds_of p a)) x.ended))
healer_ended crawl p a l seen x rounds many tasked result low small found is own counted task ended =
    ended
    ∙ ap (λ (t : Bool). seen.killed || (not t && nat_le many seen.ended)) (task ∙ ap (λ (flag : Bool). crawl && (flag && is_some seen.round)) (above_first a low))
    ∙ ap (λ (n : ℕ). seen.killed || (not (crawl && (nat_lt 17 a && is_some seen.round)) && nat_le n seen.ended)) (counted ∙ ap length (sym (rounds_are p a rounds own)))
    ∙ ap (λ (z : Healer). z.killed || (not (crawl && (nat_lt 17 a && is_some z.round)) && nat_le (length (rounds_of p a)) z.ended)) same
  where
    same : seen ≡ x
    same = let e : Some seen ≡ Some x = sym (found_at l (a - 17) seen small found) ∙ is in cc e
