-- What one more look does to looks that agree.
use Rattle.std.proofs.Common.{◌≡◌, ◌≢◌, ℕ, zero, suc, ◌<◌, ◌≤◌, ◌==◌, ◌||◌, Bool, true, false, List, Option, None, Some, length, refl, sym, ◌∙◌, subst, arith}
use Rattle.std.proofs.lemmas.Bool.Decides.{nat_tests}
use Rattle.std.proofs.lemmas.Bool.{eqb-true}
use Rattle.afr_base.specs.Bricks.{added, below, lowest, member, removed, is_nothing}
use Rattle.afr_base.specs.SetLemmas.{member_added, member_removed, none_left, below_all}
use Rattle.afr_object.specs.declared.entry.View.{View}
use Rattle.afr_choice.specs.Looks.{no_looks, view_at, with_look, without_look}
use Rattle.afr_choice.specs.LooksLemmas.{view_after_look, view_after_loss, view_after_other_look, view_after_other_loss, length_after_look, length_after_loss}
use Rattle.afr_choice.specs.declared.looked.Looked.{Looked}
use Rattle.afr_lines.specs.declared.answer.Told.{Told}
use Rattle.afr_lines.specs.declared.answer.Told.TheVariants as as_told
use Rattle.afr_model.specs.Showing.{look_shows}
use Rattle.afr_client_walk.specs.Looks.{no_look, left_to_look, heard_look, noted_look}
use Rattle.afr_client_walk.specs.declared.looks.Looks.{Looks}
use Rattle.afr_law_client.specs.Read.Looks.{IsPlain, Agree}
use Rattle.afr_base.specs.Rising.{IsRising}
use Rattle.afr_law_client.proofs.Read.LooksSame.{looked_same}
use Rattle.afr_base.proofs.RisingLemmas.{rising_added, rising_removed}
use Rattle.afr_base.proofs.TestLemmas.{same_number, or_second}

-- a look shows what its answer does
pub look_shows_is : (b : ℕ) (told : Told) (looked : Looked) → look_shows b told looked ≡ noted_look b told looked
look_shows_is b (as_told.Seen view) looked = refl
look_shows_is b as_told.NoObject looked = refl
look_shows_is b told looked = refl

here_added : (b : ℕ) (s : List ℕ) → member (added b s) b ≡ true
here_added b s = let e = member_added b s b in rw (e, same_number) refl

here_removed : (b : ℕ) (s : List ℕ) → member (removed b s) b ≡ false
here_removed b s = let e = member_removed b s b in rw (e, same_number) refl

-- ---- of one brick
pub same_here : (b : ℕ) (told : Told) (x y : Looked) → b < 5 → length x.views ≡ 5 → length y.views ≡ 5
    → (member (noted_look b told x).reached b ≡ member (noted_look b told y).reached b) × (view_at b (noted_look b told x) ≡ view_at b (noted_look b told y))
same_here b told x y l fx fy = go told
  where
    lx : b < length x.views
    lx = omega (arith, l, fx)

    ly : b < length y.views
    ly = omega (arith, l, fy)

    looked : (view : Option View) → (member (with_look b view x).reached b ≡ member (with_look b view y).reached b) × (view_at b (with_look b view x) ≡ view_at b (with_look b view y))
    looked view = (here_added b x.reached ∙ sym (here_added b y.reached), view_after_look b view x lx ∙ sym (view_after_look b view y ly))

    lost : (member (without_look b x).reached b ≡ member (without_look b y).reached b) × (view_at b (without_look b x) ≡ view_at b (without_look b y))
    lost = (here_removed b x.reached ∙ sym (here_removed b y.reached), view_after_loss b x lx ∙ sym (view_after_loss b y ly))

    go : (told : Told) → (member (noted_look b told x).reached b ≡ member (noted_look b told y).reached b) × (view_at b (noted_look b told x) ≡ view_at b (noted_look b told y))
    go (as_told.Seen view) = looked (Some view)
    go as_told.NoObject = looked None
    go told = lost

-- the other bricks tell what they told
pub same_there : (b c : ℕ) (told : Told) (x : Looked) → b ≢ c → (member (noted_look b told x).reached c ≡ member x.reached c) × (view_at c (noted_look b told x) ≡ view_at c x)
same_there b c told x d = go told
  where
    apart : (b == c) ≡ false
    apart = grind (arith, nat_tests, d)

    looked : (view : Option View) → (member (with_look b view x).reached c ≡ member x.reached c) × (view_at c (with_look b view x) ≡ view_at c x)
    looked view = (member_added b x.reached c ∙ rw apart refl, view_after_other_look b c view x (λ e. d (sym e)))

    go : (told : Told) → (member (noted_look b told x).reached c ≡ member x.reached c) × (view_at c (noted_look b told x) ≡ view_at c x)
    go (as_told.Seen view) = looked (Some view)
    go as_told.NoObject = looked None
    go told = (member_removed b x.reached c ∙ rw apart refl, view_after_other_loss b c x (λ e. d (sym e)))

-- ---- five places
pub plain_none : (n : ℕ) → IsPlain n no_looks
plain_none n = record { rising = tt; five = refl; none_reached = λ b l. refl; none_shown = λ b l. none b }
  where
    none : (b : ℕ) → view_at b no_looks ≡ None
    none zero = refl
    none (suc zero) = refl
    none (suc (suc zero)) = refl
    none (suc (suc (suc zero))) = refl
    none (suc (suc (suc (suc zero)))) = refl
    none (suc (suc (suc (suc (suc b))))) = refl

pub plain_noted : (n b : ℕ) (told : Told) (x : Looked) → b < n → IsPlain n x → IsPlain n (noted_look b told x)
plain_noted n b told x l k = record {
  rising = rising told;
  five = five told;
  none_reached = λ c above. (same_there b c told x (λ e. apart c above e)).0 ∙ k.none_reached c above;
  none_shown = λ c above. (same_there b c told x (λ e. apart c above e)).1 ∙ k.none_shown c above;
}
  where
    apart : (c : ℕ) → n ≤ c → b ≡ c → ⊥
    apart c above e = absurd (omega (arith, above, e, l))

    zero_low : 0 ≤ b
    zero_low = omega arith

    rising : (told : Told) → IsRising 0 (noted_look b told x).reached
    rising (as_told.Seen view) = rising_added b 0 x.reached zero_low k.rising
    rising as_told.NoObject = rising_added b 0 x.reached zero_low k.rising
    rising told = rising_removed b 0 x.reached k.rising

    five : (told : Told) → length (noted_look b told x).views ≡ 5
    five (as_told.Seen view) = length_after_look b (Some view) x ∙ k.five
    five as_told.NoObject = length_after_look b None x ∙ k.five
    five told = length_after_loss b x ∙ k.five

-- ---- looks that agree
-- nobody was asked yet
pub agree_first : (n : ℕ) (asked : List ℕ) (looked : Looked) → Agree n no_look asked looked
agree_first n asked looked = record { plain = plain_none n; among_asked = λ b m. absurd (cc m); reached = λ b m. absurd (cc m); shown = λ b m. absurd (cc m) }

-- one more brick was asked
pub agree_more : (n : ℕ) (told : Told) (s : Looks) (asked : List ℕ) (looked : Looked) → n ≤ 5 → lowest (left_to_look n s) < n → IsPlain n looked → Agree n s asked looked
    → Agree n (heard_look n told s) (added (lowest (left_to_look n s)) asked) (noted_look (lowest (left_to_look n s)) told looked)
agree_more n told s asked looked few low plain k = record {
  plain = plain_noted n b told s.looked low k.plain;
  among_asked = λ c m. member_added b asked c ∙ known c m (b == c) refl;
  reached = λ c m. (by c m (b == c) refl).0;
  shown = λ c m. (by c m (b == c) refl).1;
}
  where
    b : ℕ
    b = lowest (left_to_look n s)

    five : b < 5
    five = omega (arith, few, low)

    before : (c : ℕ) → (b == c) ≡ false → member (added b s.asked) c ≡ true → member s.asked c ≡ true
    before c e m = or_second (b == c) (member s.asked c) e (sym (member_added b s.asked c) ∙ m)

    known : (c : ℕ) → member (added b s.asked) c ≡ true → (e : Bool) → (b == c) ≡ e → (e || member asked c) ≡ true
    known c m true e = refl
    known c m false e = k.among_asked c (before c e m)

    differ : (c : ℕ) → (b == c) ≡ false → b ≡ c → ⊥
    differ c e h = let t : (b == c) ≡ true = grind (arith, nat_tests, h) in cc (e, t)

    by : (c : ℕ) → member (added b s.asked) c ≡ true → (e : Bool) → (b == c) ≡ e
        → (member (noted_look b told s.looked).reached c ≡ member (noted_look b told looked).reached c) × (view_at c (noted_look b told s.looked) ≡ view_at c (noted_look b told looked))
    by c m true e =
        let same : b ≡ c = eqb-true b c e in
        let here = same_here b told s.looked looked five k.plain.five plain.five in (
          subst (λ (x : ℕ). member (noted_look b told s.looked).reached x ≡ member (noted_look b told looked).reached x) same here.0,
          subst (λ (x : ℕ). view_at x (noted_look b told s.looked) ≡ view_at x (noted_look b told looked)) same here.1,
        )
    by c m false e =
        let apart : b ≢ c = λ h. differ c e h in
        let mine = same_there b c told s.looked apart in
        let theirs = same_there b c told looked apart in
        let was = before c e m in
        (mine.0 ∙ k.reached c was ∙ sym theirs.0, mine.1 ∙ k.shown c was ∙ sym theirs.1)

-- all bricks were asked: the machine's looks are those of its lines
pub looks_are : (n : ℕ) (s : Looks) (asked : List ℕ) (looked : Looked) → n ≤ 5 → is_nothing (left_to_look n s) ≡ true → IsPlain n looked → Agree n s asked looked → s.looked ≡ looked
looks_are n s asked looked few over plain k =
    looked_same n s.looked looked k.plain plain (λ b l. let m = none_left (below n) s.asked over b (below_all n b few l) in (k.reached b m, k.shown b m))

-- and each is among those that were asked
pub all_asked : (n : ℕ) (s : Looks) (asked : List ℕ) (looked : Looked) → n ≤ 5 → is_nothing (left_to_look n s) ≡ true → Agree n s asked looked → (b : ℕ) → b < n → member asked b ≡ true
all_asked n s asked looked few over k b l = k.among_asked b (none_left (below n) s.asked over b (below_all n b few l))
