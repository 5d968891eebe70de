-- The set of the started servers, brick by brick, and that it is the started bricks of the log.
use Rattle.std.proofs.Common.{◌≡◌, ℕ, zero, suc, ◌+◌, ◌<◌, ◌&&◌, nat_lt, Bool, true, false, List, [], ◌∷◌, filter, length, refl, sym, ap, ◌∙◌, arith, Some, slice_get}
use Rattle.std.proofs.lemmas.Bool.Decides.{nat_tests}
use Rattle.std.proofs.lemmas.Option.{slice_get_past}
use Rattle.afr_base.specs.Bricks.{added_if, all_five, and_left, and_right, same, same_is}
use Rattle.afr_server.specs.Serving.{Serving}
use Rattle.afr_servers.specs.Started.{is_started, is_up, started_in}

-- ---- one more brick
abbrev all_bools : (Bool → Bool) → Bool
all_bools p = p true && p false

from_bools : (p : Bool → Bool) → all_bools p ≡ true → (b : Bool) → p b ≡ true
from_bools p h true = and_left (p true) (p false) h
from_bools p h false = and_right (p true) (p false) h

-- a test of five flags that is true at all of them
from_five : (t : Bool → Bool → Bool → Bool → Bool → Bool) → all_bools (λ a. all_bools (λ b. all_bools (λ c. all_bools (λ d. all_bools (λ e. t a b c d e))))) ≡ true
    → (a b c d e : Bool) → t a b c d e ≡ true
from_five t h a b c d e =
    from_bools (λ e. t a b c d e)
    (from_bools (λ d. all_bools (λ e. t a b c d e))
    (from_bools (λ c. all_bools (λ d. all_bools (λ e. t a b c d e)))
    (from_bools (λ b. all_bools (λ c. all_bools (λ d. all_bools (λ e. t a b c d e)))) (from_bools (λ a. all_bools (λ b. all_bools (λ c. all_bools (λ d. all_bools (λ e. t a b c d e))))) h a) b) c) d) e

-- whether one of five flags is set
abbrev flag : Bool → Bool → Bool → Bool → Bool → ℕ → Bool
flag a b c d e zero = a
flag a b c d e (suc zero) = b
flag a b c d e (suc (suc zero)) = c
flag a b c d e (suc (suc (suc zero))) = d
flag a b c d e (suc (suc (suc (suc n)))) = e

-- the bricks below n that pass
abbrev pub passing_below : ℕ → (ℕ → Bool) → List ℕ
passing_below n p = filter (λ b. nat_lt b n && p b) all_five

abbrev grows : ℕ → Bool → Bool → Bool → Bool → Bool → Bool
grows k a b c d e = same (added_if (flag a b c d e k) k (passing_below k (flag a b c d e))) (passing_below (suc k) (flag a b c d e))

pub passing_more : (k : ℕ) (p : ℕ → Bool) → k < 5 → added_if (p k) k (passing_below k p) ≡ passing_below (suc k) p
passing_more zero p l = same_is _ _ (from_five (grows 0) refl (p 0) (p 1) (p 2) (p 3) (p 4))
passing_more (suc zero) p l = same_is _ _ (from_five (grows 1) refl (p 0) (p 1) (p 2) (p 3) (p 4))
passing_more (suc (suc zero)) p l = same_is _ _ (from_five (grows 2) refl (p 0) (p 1) (p 2) (p 3) (p 4))
passing_more (suc (suc (suc zero))) p l = same_is _ _ (from_five (grows 3) refl (p 0) (p 1) (p 2) (p 3) (p 4))
passing_more (suc (suc (suc (suc zero)))) p l = same_is _ _ (from_five (grows 4) refl (p 0) (p 1) (p 2) (p 3) (p 4))
passing_more (suc (suc (suc (suc (suc n))))) p l = absurd (omega (arith, l))

-- the started bricks below n
abbrev pub started_below : ℕ → List Serving → List ℕ
started_below n servers = passing_below n (λ b. is_started b servers)

filter_same : (f g : ℕ → Bool) → ((b : ℕ) → f b ≡ g b) → (xs : List ℕ) → filter f xs ≡ filter g xs
filter_same f g e [] = refl
filter_same f g e (x ∷ xs) = rw (e x, filter_same f g e xs) refl

-- none is started past the last
pub started_whole : (servers : List Serving) → started_below (length servers) servers ≡ started_in servers
unfolding started_in
started_whole servers = filter_same (λ b. nat_lt b (length servers) && is_started b servers) (λ b. is_started b servers) (λ b. by (nat_lt b (length servers)) b refl) all_five
  where
    by : (c : Bool) (b : ℕ) → nat_lt b (length servers) ≡ c → (c && is_started b servers) ≡ is_started b servers
    by true b e = refl
    by false b e = rw (slice_get_past servers b (grind (arith, nat_tests, e))) refl

-- one more brick, as its server says
pub started_more : (servers : List Serving) (b m : ℕ) (s : Serving) (up : Bool) (set set' : List ℕ) → b < 5 → m ≡ b + 1 → slice_get servers b ≡ Some s → up ≡ s.links.started → set ≡ started_below b servers → set' ≡ added_if up b set → set' ≡ started_below m servers
started_more servers b m s up set set' small next there is so added_is =
    added_is ∙ ap (λ (f : Bool). added_if f b set) (is ∙ ap is_up (sym there)) ∙ ap (λ (l : List ℕ). added_if (is_started b servers) b l) so
    ∙ passing_more b (λ x. is_started x servers) small ∙ ap (λ (n : ℕ). started_below n servers) step
  where
    step : suc b ≡ m
    step = omega (arith, next)

-- after the last
pub started_all : (servers : List Serving) (n : ℕ) (set : List ℕ) → n ≡ length servers → set ≡ started_below n servers → set ≡ started_in servers
started_all servers n set whole so = so ∙ ap (λ (m : ℕ). started_below m servers) whole ∙ started_whole servers
